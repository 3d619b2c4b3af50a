-- The laws of parts.
use Rattle.std.proofs.Common.{◌≡◌, ℕ, zero, suc, ◌+◌, ◌-◌, ◌*◌, ◌/◌, ◌<◌, ◌≤◌, min, Bool, true, false, cond, eqb, leb, List, [], ◌∷◌, refl, sym, ◌∙◌, subst, arith, add-one, mul-suc}
use Rattle.std.specs.Prelude.{IsSome}
use Rattle.std.specs.List.{AllByRecursion}
use Rattle.std.proofs.Math.Nat.{mul-le-mul_left}
use Rattle.std.proofs.lemmas.Bool.{and_from, le-leb, eqb-true}
use Rattle.s7_item.specs.Word.{size_of}
use Rattle.s7_item.specs.Sizes.{request_size}
use Rattle.s7_item.specs.declared.item.Item.{Item}
use Rattle.s7_split.specs.Fits.{size, fits, answer_length}
use Rattle.s7_split.specs.Parts.{is_numbered, elements, room_of, parts_from, parts_of, AreParts, CanBeSplit, CanBeAsked, PartsAreExact, PartsCanBeAsked}
use Rattle.s7_split.proofs.PartLemmas.{size_some, quotient_some, are_parts, same_parts, counts_low}

-- there is room for an element of a known word
pub room_some : (item : Item) (pdu : ℕ) (write : Bool) → IsSome (size_of item.word) → 64 ≤ pdu → 0 < room_of item pdu write
room_some item pdu true known least =
    let sized = size_some item.word known in
    quotient_some (pdu - 35) (size item) sized.0 (omega (arith, sized.1, least))
room_some item pdu false known least =
    let sized = size_some item.word known in
    quotient_some (pdu - 18) (size item) sized.0 (omega (arith, sized.1, least))

times_le : (c m s : ℕ) → 0 < s → c ≤ m / s → c * s ≤ m
times_le c m s some less = omega (arith, mul-le-mul_left s less)

-- the part's telegrams fit
part_fits : (item : Item) (pdu : ℕ) (write : Bool) (from count : ℕ) → 0 < size item → 64 ≤ pdu → count ≤ room_of item pdu write → fits pdu write (elements item from count ∷ []) ≡ true
unfolding fits
part_fits item pdu true from count some least room =
    let few : count * size item ≤ pdu - 35 = times_le count (pdu - 35) (size item) some room in
    let part : List Item = elements item from count ∷ [] in
    and_from (leb (request_size part true) pdu) (leb (answer_length part true) pdu)
    (le-leb (request_size part true) pdu (omega (arith, few))) (le-leb (answer_length part true) pdu (omega arith))
part_fits item pdu false from count some least room =
    let few : count * size item ≤ pdu - 18 = times_le count (pdu - 18) (size item) some room in
    let part : List Item = elements item from count ∷ [] in
    and_from (leb (request_size part false) pdu) (leb (answer_length part false) pdu)
    (le-leb (request_size part false) pdu (omega arith)) (le-leb (answer_length part false) pdu (omega (arith, few)))

-- where a part begins and ends
begins : (numbered bit : Bool) (a f c n s : ℕ) → 0 < s → 0 < c → f + c ≤ n → (bit ≡ true → n ≡ 1) → cond numbered (a + n) (cond bit (a + 1) (8 * (a / 8 + n * s))) ≤ 16777216 → a + f * cond numbered 1 (8 * s) < 16777216
begins true bit a f c n s some any within one inside = omega arith
begins false true a f c n s some any within one inside =
    let e : n ≡ 1 = one refl in
    let none : f ≤ 0 = omega arith in
    omega (arith, mul-le-mul_left s none)
begins false false a f c n s some any within one inside =
    let less : f + 1 ≤ n = omega arith in
    omega (arith, mul-le-mul_left s less)

ends : (numbered bit : Bool) (a f c n s : ℕ) → 0 < s → 0 < c → f + c ≤ n → (bit ≡ true → n ≡ 1) → cond numbered (a + n) (cond bit (a + 1) (8 * (a / 8 + n * s))) ≤ 16777216 → cond numbered (a + f * cond numbered 1 (8 * s) + c) (cond bit (a + f * cond numbered 1 (8 * s) + 1) (8 * ((a + f * cond numbered 1 (8 * s)) / 8 + c * s))) ≤ 16777216
ends true bit a f c n s some any within one inside = omega arith
ends false true a f c n s some any within one inside =
    let e : n ≡ 1 = one refl in
    let none : f ≤ 0 = omega arith in
    omega (arith, mul-le-mul_left s none)
ends false false a f c n s some any within one inside = omega (arith, mul-le-mul_left s within)

part_asked : (item : Item) (pdu : ℕ) (write : Bool) (from count : ℕ) → CanBeSplit item → 64 ≤ pdu → 0 < count → count ≤ room_of item pdu write → from + count ≤ item.count → CanBeAsked pdu write (elements item from count)
part_asked item pdu write from count split least any room within =
    let some : 0 < size item = (size_some item.word split.known).0 in
    let one : eqb item.word 1 ≡ true → item.count ≡ 1 = λ e. split.bit (eqb-true item.word 1 e) in
    record {
      fits = part_fits item pdu write from count some least room;
      address = begins (is_numbered item.area) (eqb item.word 1) item.address from count item.count (size item) some any within one split.inside;
      inside = ends (is_numbered item.area) (eqb item.word 1) item.address from count item.count (size item) some any within one split.inside;
    }

asked_from : (n room : ℕ) (item : Item) (pdu : ℕ) (write : Bool) (from : ℕ) → CanBeSplit item → 64 ≤ pdu → room ≡ room_of item pdu write → 0 < room → from + room * n < item.count → AllByRecursion (CanBeAsked pdu write) (parts_from (suc n) room item from)
asked_from zero room item pdu write from split least same some more =
    (part_asked item pdu write from (min room (item.count - from)) split least (omega arith) (omega (arith, same)) (omega arith), tt)
asked_from (suc n) room item pdu write from split least same some more =
    let one = mul-suc room n in (
      part_asked item pdu write from (min room (item.count - from)) split least (omega arith) (omega (arith, same)) (omega arith),
      asked_from n room item pdu write (from + min room (item.count - from)) split least same some (omega arith),
    )

-- each part can be asked for
pub parts_asked : PartsCanBeAsked
unfolding parts_of
parts_asked item pdu write split least =
    let room : ℕ = room_of item pdu write in
    let some : 0 < room = room_some item pdu write split.known least in
    let n : ℕ = (item.count - 1) / room in
    let low : room * n < item.count = counts_low item.count room some split.some in
    subst (λ (x : ℕ). AllByRecursion (CanBeAsked pdu write) (parts_from x room item 0)) (sym (add-one n))
    (asked_from n room item pdu write 0 split least refl some (omega (arith, low)))

-- no other items are the parts
pub parts_exact : PartsAreExact
parts_exact item pdu write parts split least =
    let right : AreParts item pdu write (parts_of item pdu write) =
    are_parts item pdu write split.some (room_some item pdu write split.known least) in (
      λ e. subst (AreParts item pdu write) (sym e) right,
      λ h. same_parts (room_of item pdu write) item item.address parts (parts_of item pdu write) h.alike right.alike h.adjoin right.adjoin (h.whole ∙ sym right.whole) h.filled right.filled,
    )
