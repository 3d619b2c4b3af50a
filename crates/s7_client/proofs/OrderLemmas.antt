-- Laws of the order of what a poll does on its link.
use Rattle.std.proofs.Common.{◌≡◌, ℕ, ◌<◌, List, [], ◌∷◌, ◌++◌, length, refl, ap, sym, ◌∙◌, subst, append_assoc, arith, length-append}
use Rattle.std.proofs.lemmas.List.{append-nil, append_cancel_left}
use Rattle.s7_outer.specs.Shown.{Shown}
use Rattle.s7_dialogue.specs.Course.{Origin, course, may_send}
use Rattle.s7_client.specs.Order.{Deed, transmits, uses, receives, transmitted_in, used_in, received_in, AwaitsOctets, AreInOrder}
use Rattle.s7_client.specs.Standing.{Moves, IsOrderly}

-- ---- deeds after deeds

transmitted_both : (ds es : List Deed) → transmitted_in (ds ++ es) ≡ transmitted_in ds ++ transmitted_in es
transmitted_both [] es = refl
transmitted_both (transmits o ∷ ds) es =
    ap (λ x. o ++ x) (transmitted_both ds es) ∙ sym (append_assoc o (transmitted_in ds) (transmitted_in es))
transmitted_both (uses o ∷ ds) es = transmitted_both ds es
transmitted_both (receives o ∷ ds) es = transmitted_both ds es

used_both : (ds es : List Deed) → used_in (ds ++ es) ≡ used_in ds ++ used_in es
used_both [] es = refl
used_both (transmits o ∷ ds) es = used_both ds es
used_both (uses o ∷ ds) es =
    ap (λ x. o ++ x) (used_both ds es) ∙ sym (append_assoc o (used_in ds) (used_in es))
used_both (receives o ∷ ds) es = used_both ds es

received_both : (ds es : List Deed) → received_in (ds ++ es) ≡ received_in ds ++ received_in es
received_both [] es = refl
received_both (transmits o ∷ ds) es = received_both ds es
received_both (uses o ∷ ds) es = received_both ds es
received_both (receives o ∷ ds) es =
    ap (λ x. o ++ x) (received_both ds es) ∙ sym (append_assoc o (received_in ds) (received_in es))

-- deeds are in order from other octets that are the same
order_from : (origin : Origin) (kept kept' b b' w w' : List ℕ) (ds : List Deed) → kept ≡ kept' → b ≡ b' → w ≡ w'
    → AreInOrder origin kept b w ds → AreInOrder origin kept' b' w' ds
order_from origin kept kept' b b' w w' ds k e f h =
    subst (λ x. AreInOrder origin x b' w' ds) k
    (subst (λ x. AreInOrder origin kept x w' ds) e
    (subst (λ x. AreInOrder origin kept b x ds) f h))

order_both : (origin : Origin) (kept kept' b w : List ℕ) (ds es : List Deed)
    → kept ++ received_in ds ≡ used_in ds ++ kept' → AreInOrder origin kept b w ds
    → AreInOrder origin kept' (b ++ used_in ds) (w ++ transmitted_in ds) es
    → AreInOrder origin kept b w (ds ++ es)
order_both origin kept kept' b w [] es inbox h k =
    order_from origin kept' kept (b ++ []) b (w ++ []) w es (sym inbox ∙ append-nil kept) (append-nil b) (append-nil w)
    k
order_both origin kept kept' b w (transmits o ∷ ds) es inbox h k = (
  h.0,
  order_both origin kept kept' b (w ++ o) ds es inbox h.1
      (order_from origin kept' kept' _ _ _ _ es refl refl (sym (append_assoc w o (transmitted_in ds))) k),
)
order_both origin kept kept' b w (uses o ∷ ds) es inbox h k =
    let rest = h.2 in
    let inbox' : rest ++ received_in ds ≡ used_in ds ++ kept' =
    append_cancel_left o (rest ++ received_in ds) (used_in ds ++ kept')
    (sym (append_assoc o rest (received_in ds))
    ∙ (ap (λ x. x ++ received_in ds) (sym h.3) ∙ (inbox ∙ append_assoc o (used_in ds) kept'))) in (
      h.0,
      h.1,
      rest,
      h.3,
      order_both origin rest kept' (b ++ o) w ds es inbox' h.4
          (order_from origin kept' kept' _ _ _ _ es refl (sym (append_assoc b o (used_in ds))) refl k),
    )
order_both origin kept kept' b w (receives o ∷ ds) es inbox h k =
    let inbox' : o ++ received_in ds ≡ used_in ds ++ kept' =
    ap (λ x. x ++ (o ++ received_in ds)) (sym h.2) ∙ inbox in
    (h.0, h.1, h.2, h.3, order_both origin o kept' b w ds es inbox' h.4 k)

-- ---- what one step did

pub orderly_none : (origin : Origin) (kept b w : List ℕ) {link : Shown} {kept' : List ℕ} {link' : Shown}
    (moves : Moves kept link kept' link') → moves.written ≡ [] → moves.used ≡ [] → moves.received ≡ []
    → IsOrderly origin kept b w moves
orderly_none origin kept b w moves written used received = record {
  deeds = [];
  written = sym written;
  used = sym used;
  received = sym received;
  order = tt;
}

pub orderly_sent : (origin : Origin) (kept b w : List ℕ) {link : Shown} {kept' : List ℕ} {link' : Shown}
    (moves : Moves kept link kept' link') → 0 < length moves.written → moves.used ≡ [] → moves.received ≡ []
    → IsOrderly origin kept b w moves
orderly_sent origin kept b w moves some used received = record {
  deeds = transmits moves.written ∷ [];
  written = append-nil moves.written;
  used = sym used;
  received = sym received;
  order = (some, tt);
}

pub orderly_used : (origin : Origin) (kept b w : List ℕ) {link : Shown} {kept' : List ℕ} {link' : Shown}
    (moves : Moves kept link kept' link') → w ≡ may_send origin b → 0 < length moves.used
    → kept ≡ moves.used ++ kept' → moves.written ≡ [] → moves.received ≡ []
    → IsOrderly origin kept b w moves
orderly_used origin kept b w {link} {kept'} moves sent some inbox written received = record {
  deeds = uses moves.used ∷ [];
  written = sym written;
  used = append-nil moves.used;
  received = sym received;
  order = (some, sent, kept', inbox, tt);
}

some_whole : (all used rest : List ℕ) → all ≡ used ++ rest → 0 < length used → 0 < length all
some_whole all used rest e some = omega (arith, ap length e, length-append used rest, some)

-- octets came, and some were used at once
pub orderly_taken : (origin : Origin) (kept b w : List ℕ) {link : Shown} {kept' : List ℕ} {link' : Shown}
    (moves : Moves kept link kept' link') → w ≡ may_send origin b → kept ≡ [] → AwaitsOctets (course origin b).awaits
    → 0 < length moves.used → moves.received ≡ moves.used ++ kept' → moves.written ≡ []
    → IsOrderly origin kept b w moves
orderly_taken origin kept b w {link} {kept'} moves sent none awaits some inbox written = record {
  deeds = receives moves.received ∷ uses moves.used ∷ [];
  written = sym written;
  used = append-nil moves.used;
  received = append-nil moves.received;
  order = (some_whole moves.received moves.used kept' inbox some, sent, none, awaits, (some, sent, kept', inbox, tt));
}

-- ---- one step after another

pub orderly_both : (origin : Origin) (kept b w : List ℕ) {k : Shown} {kept1 : List ℕ} {k1 : Shown} {kept2 : List ℕ}
    {k2 : Shown} (m : Moves kept k kept1 k1) (n : Moves kept1 k1 kept2 k2) (both : Moves kept k kept2 k2)
    → both.written ≡ m.written ++ n.written → both.used ≡ m.used ++ n.used → both.received ≡ m.received ++ n.received
    → IsOrderly origin kept b w m → IsOrderly origin kept1 (b ++ m.used) (w ++ m.written) n
    → IsOrderly origin kept b w both
orderly_both origin kept b w {k} {kept1} m n both written used received h i = record {
  deeds = h.deeds ++ i.deeds;
  written = transmitted_both h.deeds i.deeds
      ∙ (ap (λ x. x ++ transmitted_in i.deeds) h.written ∙ (ap (λ x. m.written ++ x) i.written ∙ sym written));
  used = used_both h.deeds i.deeds
      ∙ (ap (λ x. x ++ used_in i.deeds) h.used ∙ (ap (λ x. m.used ++ x) i.used ∙ sym used));
  received = received_both h.deeds i.deeds
      ∙ (ap (λ x. x ++ received_in i.deeds) h.received ∙ (ap (λ x. m.received ++ x) i.received ∙ sym received));
  order = order_both origin kept kept1 b w h.deeds i.deeds
      (ap (λ x. kept ++ x) h.received ∙ (m.inbox ∙ ap (λ x. x ++ kept1) (sym h.used))) h.order
      (order_from origin kept1 kept1 _ _ _ _ i.deeds refl (ap (λ x. b ++ x) (sym h.used))
      (ap (λ x. w ++ x) (sym h.written)) i.order);
}
