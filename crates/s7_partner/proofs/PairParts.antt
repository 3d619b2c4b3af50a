-- Octets that go over a link between a pair: two fronts of a list, fronts of a packet, and a message that comes in
-- several packets, with what each fragment adds to it, and what becomes of its packets, and of a front of them, where
-- fragments are joined.
use Rattle.std.proofs.Common.{◌≡◌, ◌⊎◌, inl, inr, ℕ, zero, suc, ◌+◌, ◌-◌, ◌*◌, ◌/◌, ◌%◌, ◌<◌, ◌≤◌, min, max, Bool}
use Rattle.std.proofs.Common.{true, false, ltb, cond, List, [], ◌∷◌, ◌++◌, length, take, drop, take-add, refl, ap}
use Rattle.std.proofs.Common.{sym, ◌∙◌, subst, arith, length-append, append_assoc, append-nil}
use Rattle.std.specs.Prelude.{slice_range}
use Rattle.std.specs.List.{flat_map}
use Rattle.std.proofs.Math.Nat.{div-lt_iff_lt-mul}
use Rattle.std.proofs.lemmas.Bool.{eq-eqb, ne_eqb, le-ltb, lt-leb}
use Rattle.std.proofs.lemmas.Bool.Decides.{nat_tests}
use Rattle.std.proofs.lemmas.List.{length-drop, length-take, take-append-drop}
use Rattle.std.proofs.lemmas.Slice.{between_to_end}
use Rattle.s7_tpkt.specs.Packets.{state_of, state_by, if_begun, packet_of}
use Rattle.s7_tpkt.specs.declared.state.FedState.{FedState}
use Rattle.s7_tpkt.specs.declared.state.FedState.TheVariants.{More}
use Rattle.s7_cotp.specs.Messages.{Step, more, whole, too_many_fragments, too_long, joined_with}
use Rattle.s7_cotp.specs.Pairs.{IsCut, pairs_from, pairs_of, fragments_of}
use Rattle.s7_cotp.specs.Spelling.{spelling_of_data}
use Rattle.s7_cotp.proofs.CutLemmas.{pairs_cut}
use Rattle.s7_wire.specs.Bounds.{message_limit}
use Rattle.s7_wire.specs.Sent.{fragment_octets, sent_message}

abbrev head_of : List ℕ → ℕ
head_of [] = 0
head_of (x ∷ xs) = x

abbrev tail_of : List ℕ → List ℕ
tail_of [] = []
tail_of (x ∷ xs) = xs

-- ---- two fronts of a list

-- the second ends in the first, or takes it whole
abbrev pub Parts : List ℕ → List ℕ → List ℕ → List ℕ → Type 0
Parts xs behind front rest =
    ((z : List ℕ) × (front ++ z ≡ xs) × (0 < length z)) ⊎ ((z : List ℕ) × (front ≡ xs ++ z) × (behind ≡ z ++ rest))

parts_behind : (x y : ℕ) (xs front behind rest : List ℕ) → x ≡ y → Parts xs behind front rest
    → Parts (x ∷ xs) behind (y ∷ front) rest
parts_behind x y xs front behind rest same (inl h) =
    inl (h.0, ap (λ a. a ∷ (front ++ h.0)) (sym same) ∙ ap (λ zs. x ∷ zs) h.1, h.2)
parts_behind x y xs front behind rest same (inr h) =
    inr (h.0, ap (λ a. a ∷ front) (sym same) ∙ ap (λ zs. x ∷ zs) h.1, h.2)

pub parts : (xs behind front rest : List ℕ) → xs ++ behind ≡ front ++ rest → Parts xs behind front rest
parts [] behind front rest e = inr (front, refl, e)
parts (x ∷ xs) behind [] rest e = inl (x ∷ xs, refl, omega arith)
parts (x ∷ xs) behind (y ∷ front) rest e =
    parts_behind x y xs front behind rest (ap head_of e) (parts xs behind front rest (ap tail_of e))

-- ---- fronts of a packet

begun_by : (x : ℕ) (s : FedState) → x ≡ 3 → if_begun x s ≡ s
begun_by x s e = ap (λ v. if_begun v s) e

short_more : (limit size held : ℕ) → 7 ≤ size → size ≤ limit → held < size → state_by limit size held ≡ More
short_more limit size held least most less = grind (arith, nat_tests)

stated_more : (limit n hi lo held : ℕ) → hi ≡ n / 256 → lo ≡ n % 256 → 7 ≤ n → n ≤ limit → held < n
    → state_by limit (256 * hi + lo) held ≡ More
stated_more limit n hi lo held high low least most less =
    short_more limit (256 * hi + lo) held (omega (arith, high, low, least)) (omega (arith, high, low, most))
    (omega (arith, high, low, less))

-- of a packet that isn't whole, more has to come
pub front_more : (limit : ℕ) (body u v : List ℕ) → 3 ≤ length body → length body + 4 ≤ limit → u ++ v ≡ packet_of body
    → 0 < length v → state_of limit u ≡ More
front_more limit body [] v least most e some = refl
front_more limit body (x ∷ []) v least most e some = begun_by x More (ap head_of e)
front_more limit body (x ∷ r ∷ []) v least most e some = begun_by x More (ap head_of e)
front_more limit body (x ∷ r ∷ hi ∷ []) v least most e some = begun_by x More (ap head_of e)
front_more limit body (x ∷ r ∷ hi ∷ lo ∷ w) v least most e some =
    let high : hi ≡ (length body + 4) / 256 = ap (λ xs. head_of (tail_of (tail_of xs))) e in
    let low : lo ≡ (length body + 4) % 256 = ap (λ xs. head_of (tail_of (tail_of (tail_of xs)))) e in
    let left : w ++ v ≡ body = ap (λ xs. tail_of (tail_of (tail_of (tail_of xs)))) e in
    let less : length w + 4 < length body + 4 = omega (arith, ap length left, length-append w v, some) in
    begun_by x (state_by limit (256 * hi + lo) (length w + 4)) (ap head_of e)
    ∙ stated_more limit (length body + 4) hi lo (length w + 4) high low (omega (arith, least)) most less

-- ---- fragments

length-pairs_from : (n room from to : ℕ) → length (pairs_from n room from to) ≡ n
length-pairs_from zero room from to = omega arith
length-pairs_from (suc n) room from to = omega (arith, length-pairs_from n room (min (from + room) to) to)

-- a message that 64 fragments have room for has no more of them
pub few_fragments : (n size : ℕ) → 4 ≤ size → n ≤ 64 * (size - 3) → length (pairs_of n size) ≤ 64
unfolding pairs_of
few_fragments n size least most =
    let room = size - 3 in
    let few : (max n 1 - 1) / room < 64 =
    (div-lt_iff_lt-mul {k = room} {x = max n 1 - 1} {y = 64} (omega (arith, least))).1 (omega (arith, most, least)) in
    omega (arith, length-pairs_from (fragments_of n room) room 0 n, few)

-- ---- what one fragment adds

-- the octets of a message that lie behind a place, up to so many of them
abbrev pub piece_at : ℕ → ℕ → List ℕ → List ℕ
piece_at room from m = take room (drop from m)

last_fragment : (m : List ℕ) (from : ℕ)
    → fragment_octets m (from, length m) ≡ packet_of (spelling_of_data true (drop from m))
last_fragment m from =
    ap (λ last. packet_of (spelling_of_data last (slice_range m from (length m)))) (eq-eqb (length m) (length m) refl)
    ∙ ap (λ user. packet_of (spelling_of_data true user)) (between_to_end m from (length m) (omega arith))

early_fragment : (m : List ℕ) (room from : ℕ) → from + room < length m
    → fragment_octets m (from, from + room) ≡ packet_of (spelling_of_data false (piece_at room from m))
early_fragment m room from less =
    let long : from + room - from ≡ room = omega arith in
    ap (λ last. packet_of (spelling_of_data last (slice_range m from (from + room))))
    (ne_eqb (from + room) (length m) (λ e. omega (arith, e, less)))
    ∙ ap (λ n. packet_of (spelling_of_data false (take n (drop from m)))) long

piece_short : (m : List ℕ) (room from : ℕ) → length (piece_at room from m) ≤ room
piece_short m room from = omega (arith, length-take room (drop from m))

-- ---- how fragments are joined

-- a fragment is held with those before it, and the last ends the message
pub joined_by : (octets user : List ℕ) (count : ℕ) (last : Bool) → count < 64 → length (octets ++ user) ≤ message_limit
    → joined_with message_limit octets count (record { last = last; user = user })
    ≡ cond last (whole (octets ++ user)) (more (octets ++ user) (count + 1))
joined_by octets user count last few most =
    let joined : Step = cond last (whole (octets ++ user)) (more (octets ++ user) (count + 1)) in
    ap (λ t. cond t too_many_fragments (cond (ltb message_limit (length octets + length user)) too_long joined))
    (lt-leb 64 count few)
    ∙ ap (λ t. cond t too_long joined)
    (le-ltb message_limit (length octets + length user) (omega (arith, length-append octets user, most)))

-- ---- packets, as they are joined

-- Whoever joins messages, with room for so many octets in a fragment: what holds where fragments of a message came,
-- with their octets and how many they are, at a strict front of a packet, and where a message is whole.
pub record Joins (room : ℕ) (Held : List ℕ → List ℕ → ℕ → Type 0) (Front : List ℕ → Type 0)
    (Whole : List ℕ → List ℕ → Type 0) : Type 0 where
  pub front : (b octets user u v : List ℕ) (count : ℕ) (last : Bool) → Held b octets count → length user ≤ room
      → u ++ v ≡ packet_of (spelling_of_data last user) → 0 < length v → Front (b ++ u)
  pub early : (b octets user : List ℕ) (count : ℕ) → Held b octets count → length user ≤ room → count < 64
      → length (octets ++ user) ≤ message_limit
      → Held (b ++ packet_of (spelling_of_data false user)) (octets ++ user) (count + 1)
  pub final : (b octets user : List ℕ) (count : ℕ) → Held b octets count → length user ≤ room → count < 64
      → length (octets ++ user) ≤ message_limit
      → Whole (b ++ packet_of (spelling_of_data true user)) (octets ++ user)

module _ {room : ℕ} {Held : List ℕ → List ℕ → ℕ → Type 0} {Front : List ℕ → Type 0}
    {Whole : List ℕ → List ℕ → Type 0} (joins : Joins room Held Front Whole) (m : List ℕ)
    (most : length m ≤ message_limit) where
  abbrev packets_with : List (ℕ × ℕ) → List ℕ
  packets_with ps = flat_map (fragment_octets m) ps

  -- one fragment that isn't the last
  early_held : (from count : ℕ) (b : List ℕ) → from + room < length m → count < 64 → Held b (take from m) count
      → Held (b ++ fragment_octets m (from, from + room)) (take (from + room) m) (count + 1)
  early_held from count b less few held =
      let user = piece_at room from m in
      let all : take from m ++ user ≡ take (from + room) m = sym (take-add from room m) in
      subst (λ x. Held (b ++ x) (take (from + room) m) (count + 1)) (sym (early_fragment m room from less))
      (subst (λ x. Held (b ++ packet_of (spelling_of_data false user)) x (count + 1)) all
      (joins.early b (take from m) user count held (piece_short m room from) few
      (omega (arith, ap length all, length-take (from + room) m, most))))

  -- and the last
  last_whole : (from count : ℕ) (b : List ℕ) → from ≤ length m → length m ≤ from + room → count < 64
      → Held b (take from m) count → Whole (b ++ fragment_octets m (from, length m)) m
  last_whole from count b start short few held =
      let user = drop from m in
      let all : take from m ++ user ≡ m = take-append-drop from m in
      subst (λ x. Whole (b ++ x) m) (sym (last_fragment m from))
      (subst (λ x. Whole (b ++ packet_of (spelling_of_data true user)) x) all
      (joins.final b (take from m) user count held (omega (arith, length-drop from m, short)) few
      (omega (arith, ap length all, most))))

  whole_from : (from count : ℕ) (b : List ℕ) (ps : List (ℕ × ℕ)) → IsCut room from (length m) ps
      → count + length ps ≤ 64 → Held b (take from m) count → Whole (b ++ packets_with ps) m
  whole_from from count b [] cut few held = absurd cut
  whole_from from count b (p ∷ []) cut few held =
      subst (λ x. Whole (b ++ x) m)
      (ap (fragment_octets m) (sym cut.0) ∙ sym (append-nil (fragment_octets m p)))
      (last_whole from count b cut.1 cut.2 (omega (arith, few)) held)
  whole_from from count b (p ∷ q ∷ ps) cut few held =
      let packet = fragment_octets m (from, from + room) in
      subst (λ x. Whole x m)
      (append_assoc b packet (packets_with (q ∷ ps))
      ∙ ap (λ x. b ++ (x ++ packets_with (q ∷ ps))) (ap (fragment_octets m) (sym cut.0)))
      (whole_from (from + room) (count + 1) (b ++ packet) (q ∷ ps) cut.2 (omega (arith, few))
      (early_held from count b cut.1 (omega (arith, few)) held))

  -- a strict front of the packets ends in one of them
  front_from : (from count : ℕ) (b u v : List ℕ) (ps : List (ℕ × ℕ)) → IsCut room from (length m) ps
      → count + length ps ≤ 64 → Held b (take from m) count → u ++ v ≡ packets_with ps → 0 < length v → Front (b ++ u)
  front_from from count b u v [] cut few held is some = absurd cut
  front_from from count b u v (p ∷ []) cut few held is some =
      joins.front b (take from m) (drop from m) u v count true held (omega (arith, length-drop from m, cut.2))
      (is ∙ (append-nil (fragment_octets m p) ∙ (ap (fragment_octets m) cut.0 ∙ last_fragment m from))) some
  front_from from count b u v (p ∷ q ∷ ps) cut few held is some =
      let packet = fragment_octets m (from, from + room) in
      let rest = packets_with (q ∷ ps) in
      let same : packet ++ rest ≡ u ++ v = ap (λ x. fragment_octets m x ++ rest) (sym cut.0) ∙ sym is in
      elim (parts packet rest u v same) as (λ _. Front (b ++ u)) [
        | inl k ↦
            joins.front b (take from m) (piece_at room from m) u k.0 count false held (piece_short m room from)
            (k.1 ∙ early_fragment m room from cut.1) k.2
        | inr k ↦
            subst Front (append_assoc b packet k.0 ∙ ap (λ x. b ++ x) (sym k.1))
            (front_from (from + room) (count + 1) (b ++ packet) k.0 v (q ∷ ps) cut.2 (omega (arith, few))
            (early_held from count b cut.1 (omega (arith, few)) held) (sym k.2) some)
      ]

-- ---- whole messages

-- All packets of a message are the whole message, where nothing of a message came before.
pub message_whole : {Held : List ℕ → List ℕ → ℕ → Type 0} {Front : List ℕ → Type 0}
    {Whole : List ℕ → List ℕ → Type 0} (size : ℕ) (b m : List ℕ) → Joins (size - 3) Held Front Whole → 4 ≤ size
    → length m ≤ message_limit → length (pairs_of (length m) size) ≤ 64 → Held b [] 0
    → Whole (b ++ sent_message size m) m
message_whole size b m joins least most few held =
    whole_from joins m most 0 0 b (pairs_of (length m) size) (pairs_cut (length m) size least)
    (omega (arith, few)) held

-- A strict front of them is a front of a packet.
pub message_front : {Held : List ℕ → List ℕ → ℕ → Type 0} {Front : List ℕ → Type 0}
    {Whole : List ℕ → List ℕ → Type 0} (size : ℕ) (b m u v : List ℕ) → Joins (size - 3) Held Front Whole → 4 ≤ size
    → length m ≤ message_limit → length (pairs_of (length m) size) ≤ 64 → Held b [] 0 → u ++ v ≡ sent_message size m
    → 0 < length v → Front (b ++ u)
message_front size b m u v joins least most few held is some =
    front_from joins m most 0 0 b u v (pairs_of (length m) size) (pairs_cut (length m) size least)
    (omega (arith, few)) held is some
