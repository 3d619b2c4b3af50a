-- Laws of the order of what a poll does on its link.
use Rattle.std.proofs.Common.{◌≡◌, ℕ, ◌<◌, List, [], ◌∷◌, ◌++◌, length, refl, ap, sym, ◌∙◌, subst, append_assoc}
use Rattle.std.proofs.lemmas.List.{append-nil, append_cancel_left}
use Rattle.s7_wire.specs.Reading.{reading}
use Rattle.s7_dialogue.specs.declared.config.Config.{Config}
use Rattle.s7_partner.specs.declared.role.Role.{Role}
use Rattle.s7_partner.specs.States.{Act, after, read_in}
use Rattle.s7_partner.specs.Partners.{opening_by, IsSettled}
use Rattle.s7_partner.specs.Order.{Deed, transmits, uses, receives, does, transmitted_in, used_in, received_in, acts_in}
use Rattle.s7_partner.specs.Order.{AreInOrder, IsOrderly}

-- ---- deeds after deeds

transmitted_both : (ds es : List Deed) → transmitted_in (ds ++ es) ≡ transmitted_in ds ++ transmitted_in es
transmitted_both [] es = refl
transmitted_both (transmits o ∷ ds) es =
    ap (λ x. o ++ x) (transmitted_both ds es) ∙ sym (append_assoc o (transmitted_in ds) (transmitted_in es))
transmitted_both (uses o acts ∷ ds) es = transmitted_both ds es
transmitted_both (receives o ∷ ds) es = transmitted_both ds es
transmitted_both (does act ∷ ds) es = transmitted_both ds es

used_both : (ds es : List Deed) → used_in (ds ++ es) ≡ used_in ds ++ used_in es
used_both [] es = refl
used_both (transmits o ∷ ds) es = used_both ds es
used_both (uses o acts ∷ ds) es =
    ap (λ x. o ++ x) (used_both ds es) ∙ sym (append_assoc o (used_in ds) (used_in es))
used_both (receives o ∷ ds) es = used_both ds es
used_both (does act ∷ ds) es = used_both ds es

received_both : (ds es : List Deed) → received_in (ds ++ es) ≡ received_in ds ++ received_in es
received_both [] es = refl
received_both (transmits o ∷ ds) es = received_both ds es
received_both (uses o acts ∷ ds) es = received_both ds es
received_both (receives o ∷ ds) es =
    ap (λ x. o ++ x) (received_both ds es) ∙ sym (append_assoc o (received_in ds) (received_in es))
received_both (does act ∷ ds) es = received_both ds es

acts_both : (ds es : List Deed) → acts_in (ds ++ es) ≡ acts_in ds ++ acts_in es
acts_both [] es = refl
acts_both (transmits o ∷ ds) es = acts_both ds es
acts_both (uses o acts ∷ ds) es =
    ap (λ x. acts ++ x) (acts_both ds es) ∙ sym (append_assoc acts (acts_in ds) (acts_in es))
acts_both (receives o ∷ ds) es = acts_both ds es
acts_both (does act ∷ ds) es = ap (λ x. act ∷ x) (acts_both ds es)

-- deeds are in order from other lists that are the same
order_from : (role : Role) (config : Config) (kept kept' : List ℕ) (acts acts' : List Act) (b b' w w' : List ℕ)
    (ds : List Deed) → kept ≡ kept' → acts ≡ acts' → b ≡ b' → w ≡ w'
    → AreInOrder role config kept acts b w ds → AreInOrder role config kept' acts' b' w' ds
order_from role config kept kept' acts acts' b b' w w' ds k a e f h =
    subst (λ x. AreInOrder role config x acts' b' w' ds) k
    (subst (λ x. AreInOrder role config kept x b' w' ds) a
    (subst (λ x. AreInOrder role config kept acts x w' ds) e
    (subst (λ x. AreInOrder role config kept acts b x ds) f h)))

order_both : (role : Role) (config : Config) (kept mid : List ℕ) (acts : List Act) (b w : List ℕ) (ds es : List Deed)
    → kept ++ received_in ds ≡ used_in ds ++ mid → AreInOrder role config kept acts b w ds
    → AreInOrder role config mid (acts ++ acts_in ds) (b ++ used_in ds) (w ++ transmitted_in ds) es
    → AreInOrder role config kept acts b w (ds ++ es)
order_both role config kept mid acts b w [] es inbox h k =
    order_from role config mid kept (acts ++ []) acts (b ++ []) b (w ++ []) w es (sym inbox ∙ append-nil kept)
    (append-nil acts) (append-nil b) (append-nil w) k
order_both role config kept mid acts b w (transmits o ∷ ds) es inbox h k = (
  h.0,
  order_both role config kept mid acts b (w ++ o) ds es inbox h.1
      (order_from role config mid mid _ _ _ _ _ _ es refl refl refl (sym (append_assoc w o (transmitted_in ds))) k),
)
order_both role config kept mid acts b w (uses o more ∷ ds) es inbox h k =
    let rest = h.3 in
    let inbox' : rest ++ received_in ds ≡ used_in ds ++ mid =
    append_cancel_left o (rest ++ received_in ds) (used_in ds ++ mid)
    (sym (append_assoc o rest (received_in ds))
    ∙ (ap (λ x. x ++ received_in ds) (sym h.4) ∙ (inbox ∙ append_assoc o (used_in ds) mid))) in (
      h.0,
      h.1,
      h.2,
      rest,
      h.4,
      h.5,
      order_both role config rest mid (acts ++ more) (b ++ o) w ds es inbox' h.6
          (order_from role config mid mid _ _ _ _ _ _ es refl (sym (append_assoc acts more (acts_in ds)))
          (sym (append_assoc b o (used_in ds))) refl k),
    )
order_both role config kept mid acts b w (receives o ∷ ds) es inbox h k =
    let inbox' : o ++ received_in ds ≡ used_in ds ++ mid =
    ap (λ x. x ++ (o ++ received_in ds)) (sym h.3) ∙ inbox in
    (h.0, h.1, h.2, h.3, order_both role config o mid acts b w ds es inbox' h.4 k)
order_both role config kept mid acts b w (does act ∷ ds) es inbox h k =
    order_both role config kept mid (acts ++ act ∷ []) b w ds es inbox h
    (order_from role config mid mid _ _ _ _ _ _ es refl (sym (append_assoc acts (act ∷ []) (acts_in ds))) refl refl k)

-- ---- what one step did

-- no octet moved
pub orderly_none : (role : Role) (config : Config) (kept : List ℕ) (acts : List Act) (b w : List ℕ)
    → IsOrderly role config kept acts [] b w [] [] []
orderly_none role config kept acts b w = record {
  deeds = [];
  acts_are = refl;
  transmitted = refl;
  used_are = refl;
  received_are = refl;
  order = tt;
}

-- one act that uses no octet
pub orderly_done : (role : Role) (config : Config) (kept : List ℕ) (acts : List Act) (act : Act) (b w : List ℕ)
    → IsOrderly role config kept acts (act ∷ []) b w [] [] []
orderly_done role config kept acts act b w = record {
  deeds = does act ∷ [];
  acts_are = refl;
  transmitted = refl;
  used_are = refl;
  received_are = refl;
  order = tt;
}

pub orderly_sent : (role : Role) (config : Config) (kept : List ℕ) (acts : List Act) (b w more : List ℕ)
    → 0 < length more → IsOrderly role config kept acts [] b w [] [] more
orderly_sent role config kept acts b w more some = record {
  deeds = transmits more ∷ [];
  acts_are = refl;
  transmitted = append-nil more;
  used_are = refl;
  received_are = refl;
  order = (some, tt);
}

pub orderly_received : (role : Role) (config : Config) (kept : List ℕ) (acts : List Act) (b w received : List ℕ)
    → 0 < length received → w ≡ (after role config acts).out → IsSettled (after role config acts) → kept ≡ []
    → IsOrderly role config kept acts [] b w received [] []
orderly_received role config kept acts b w received some sent settled none = record {
  deeds = receives received ∷ [];
  acts_are = refl;
  transmitted = refl;
  used_are = refl;
  received_are = append-nil received;
  order = (some, sent, settled, none, tt);
}

pub orderly_used : (role : Role) (config : Config) (kept rest : List ℕ) (acts more : List Act) (b w used : List ℕ)
    → 0 < length used → w ≡ (after role config acts).out → IsSettled (after role config acts) → kept ≡ used ++ rest
    → read_in (acts ++ more) ≡ (reading (opening_by role) (b ++ used)).events
    → IsOrderly role config kept acts more b w [] used []
orderly_used role config kept rest acts more b w used some sent settled inbox events = record {
  deeds = uses used more ∷ [];
  acts_are = append-nil more;
  transmitted = refl;
  used_are = append-nil used;
  received_are = refl;
  order = (some, sent, settled, rest, inbox, events, tt);
}

-- ---- one step after another

pub orderly_both : (role : Role) (config : Config) (kept mid : List ℕ) (acts f1 f2 : List Act)
    (b w r1 u1 w1 r2 u2 w2 : List ℕ) → kept ++ r1 ≡ u1 ++ mid → IsOrderly role config kept acts f1 b w r1 u1 w1
    → IsOrderly role config mid (acts ++ f1) f2 (b ++ u1) (w ++ w1) r2 u2 w2
    → IsOrderly role config kept acts (f1 ++ f2) b w (r1 ++ r2) (u1 ++ u2) (w1 ++ w2)
orderly_both role config kept mid acts f1 f2 b w r1 u1 w1 r2 u2 w2 inbox h i = record {
  deeds = h.deeds ++ i.deeds;
  acts_are = acts_both h.deeds i.deeds
      ∙ (ap (λ x. x ++ acts_in i.deeds) h.acts_are ∙ ap (λ x. f1 ++ x) i.acts_are);
  transmitted = transmitted_both h.deeds i.deeds
      ∙ (ap (λ x. x ++ transmitted_in i.deeds) h.transmitted ∙ ap (λ x. w1 ++ x) i.transmitted);
  used_are = used_both h.deeds i.deeds
      ∙ (ap (λ x. x ++ used_in i.deeds) h.used_are ∙ ap (λ x. u1 ++ x) i.used_are);
  received_are = received_both h.deeds i.deeds
      ∙ (ap (λ x. x ++ received_in i.deeds) h.received_are ∙ ap (λ x. r1 ++ x) i.received_are);
  order = order_both role config kept mid acts b w h.deeds i.deeds
      (ap (λ x. kept ++ x) h.received_are ∙ (inbox ∙ ap (λ x. x ++ mid) (sym h.used_are))) h.order
      (order_from role config mid mid _ _ _ _ _ _ i.deeds refl (ap (λ x. acts ++ x) (sym h.acts_are))
      (ap (λ x. b ++ x) (sym h.used_are)) (ap (λ x. w ++ x) (sym h.transmitted)) i.order);
}
