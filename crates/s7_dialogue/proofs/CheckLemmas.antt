-- Lemmas on jobs that pass their check.
use Rattle.std.proofs.Common.{◌≡◌, ℕ, zero, suc, ◌+◌, ◌*◌, ◌/◌, ◌<◌, ◌≤◌, Bool, true, false, not, cond, eqb, leb, ltb, Ok, Err, List, [], ◌∷◌, length, refl, ap, arith}
use Rattle.std.specs.Prelude.{◌||◌, ◌&&◌, Result}
use Rattle.std.specs.List.{list_all}
use Rattle.std.proofs.lemmas.Bool.{and_parts, and_from, leb-true, lt-ltb, eqb-true}
use Rattle.std.proofs.Math.Nat.{mul-le-mul_left}
use Rattle.s7_item.specs.declared.item.Item.{Item}
use Rattle.s7_split.specs.Fits.{size}
use Rattle.s7_split.specs.Parts.{is_numbered, range_end, CanBeSplit}
use Rattle.s7_split.specs.Groups.{packed_of}
use Rattle.s7_split.specs.declared.packing.PackFault.{PackFault}
use Rattle.s7_split.proofs.PartLemmas.{size_some}
use Rattle.s7_dialogue.specs.Checks.{is_known, is_placed, check_item, check_items, pack_check}
use Rattle.s7_dialogue.specs.Stages.{is_addressed}

-- what a good check of one item says
good_item : (known placed has : Bool) → ◌≡◌ {A = ℕ} (cond (not known) 5242880 (cond (not (placed && has)) 2097152 0)) 0 → (known ≡ true) × (placed ≡ true) × (has ≡ true)
good_item true true true good = (refl, refl, refl)
good_item true true false good = absurd (omega (arith, good))
good_item true false true good = absurd (omega (arith, good))
good_item true false false good = absurd (omega (arith, good))
good_item false placed has good = absurd (omega (arith, good))

pub item_checked : (item : Item) (has : Bool) → check_item item has ≡ 0 → (is_known item ≡ true) × (is_placed item ≡ true) × (has ≡ true)
item_checked item has good = good_item (is_known item) (is_placed item) has good

-- what a good check of several items says
packed_good : (result : Result Unit PackFault) → pack_check result ≡ 0 → result ≡ Ok tt
packed_good (Ok tt) good = refl
packed_good (Err fault) good = absurd (omega (arith, good))

good_items : (many known placed has : Bool) (result : Result Unit PackFault) → ◌≡◌ {A = ℕ} (cond many 4194304 (cond (not known) 5242880 (cond (not (placed && has)) 2097152 (pack_check result)))) 0
    → (many ≡ false) × (known ≡ true) × (placed ≡ true) × (has ≡ true) × (result ≡ Ok tt)
good_items true known placed has result good = absurd (omega (arith, good))
good_items false true true true result good = (refl, refl, refl, refl, packed_good result good)
good_items false true true false result good = absurd (omega (arith, good))
good_items false true false true result good = absurd (omega (arith, good))
good_items false true false false result good = absurd (omega (arith, good))
good_items false false placed has result good = absurd (omega (arith, good))

pub items_checked : (items : List Item) (has : Bool) (pdu : ℕ) (write : Bool) → check_items items has pdu write ≡ 0
    → (ltb 20 (length items) ≡ false) × (list_all is_known items ≡ true) × (list_all is_placed items ≡ true) × (has ≡ true) × (packed_of pdu write items ≡ Ok tt)
items_checked items has pdu write good =
    good_items (ltb 20 (length items)) (list_all is_known items) (list_all is_placed items) has (packed_of pdu write items) good

-- an item in place can be split
one_by : (b c : Bool) → (not b || c) ≡ true → b ≡ true → c ≡ true
one_by true c h is = h
one_by false c h is = absurd (cc)

one_bit : (word count : ℕ) → (not (eqb word 1) || eqb count 1) ≡ true → word ≡ 1 → count ≡ 1
one_bit word count h is = eqb-true count 1 (one_by (eqb word 1) (eqb count 1) h (ap (λ w. eqb w 1) is))

some_by : (count : ℕ) → not (eqb count 0) ≡ true → 0 < count
some_by zero h = absurd (cc)
some_by (suc n) h = omega arith

pub can_split : (item : Item) → is_known item ≡ true → is_placed item ≡ true → CanBeSplit item
can_split item known placed =
    let outer = and_parts (not (eqb item.count 0) && (not (eqb item.word 1) || eqb item.count 1)) (leb (range_end item) 16777216) placed in
    let inner = and_parts (not (eqb item.count 0)) (not (eqb item.word 1) || eqb item.count 1) outer.0 in
    record {
      known = known;
      some = some_by item.count inner.0;
      bit = one_bit item.word item.count inner.1;
      inside = leb-true (range_end item) 16777216 outer.1;
    }

pub product_some : (n s : ℕ) → 0 < n → 0 < s → 1 ≤ n * s
product_some n s some any =
    let one : 1 ≤ n = omega arith in
    omega (arith, mul-le-mul_left s one)

-- an item in place has an address that fits its field
below : (numbered bit : Bool) (a n s : ℕ) → 0 < n → 0 < s → cond numbered (a + n) (cond bit (a + 1) (8 * (a / 8 + n * s))) ≤ 16777216 → a < 16777216
below true bit a n s some any inside = omega arith
below false true a n s some any inside = omega arith
below false false a n s some any inside =
    let more : 1 ≤ n * s = product_some n s some any in
    omega (arith, more, inside)

pub addressed_by : (item : Item) → is_known item ≡ true → is_placed item ≡ true → is_addressed item ≡ true
addressed_by item known placed =
    let split : CanBeSplit item = can_split item known placed in
    lt-ltb item.address 16777216 (below (is_numbered item.area) (eqb item.word 1) item.address item.count (size item) split.some (size_some item.word known).0 split.inside)

pub all_addressed : (items : List Item) → list_all is_known items ≡ true → list_all is_placed items ≡ true → list_all is_addressed items ≡ true
all_addressed [] known placed = refl
all_addressed (item ∷ items) known placed =
    let k = and_parts (is_known item) (list_all is_known items) known in
    let p = and_parts (is_placed item) (list_all is_placed items) placed in
    and_from (is_addressed item) (list_all is_addressed items) (addressed_by item k.0 p.0) (all_addressed items k.1 p.1)
