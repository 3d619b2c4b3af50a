-- Items that stand in the areas: they pass their check, and their parts stand there too.
use Rattle.std.proofs.Common.{◌≡◌, ◌⊎◌, inl, inr, ℕ, zero, suc, ◌+◌, ◌-◌, ◌*◌, ◌/◌, ◌<◌, ◌≤◌, min, Bool, true, false, cond, eqb, leb, not, ◌&&◌, ◌||◌, Option, None, Some, List, [], ◌∷◌, length, refl, sym, ap, ◌∙◌, subst, arith, add-one, mul-suc}
use Rattle.std.specs.Prelude.{is_none, is_some, unwrap_or, IsSome}
use Rattle.std.specs.List.{AllByRecursion}
use Rattle.std.specs.Map.{lookup}
use Rattle.std.specs.BTreeMap.{is_at}
use Rattle.std.proofs.Math.Nat.{mul-le-mul_left}
use Rattle.std.proofs.lemmas.Bool.{and_parts, and_from, eqb-true, leb-true, le-leb}
use Rattle.std.proofs.lemmas.Bool.Decides.{nat_tests}
use Rattle.s7_item.specs.Item.{octet_count}
use Rattle.s7_item.specs.Word.{size_of}
use Rattle.s7_item.specs.declared.item.Item.{Item}
use Rattle.s7_area.specs.declared.key.AreaKey.{AreaKey}
use Rattle.s7_area.specs.declared.guard.Guard.{Guard}
use Rattle.s7_area.specs.Guards.{level_of, is_read_barred, is_write_barred}
use Rattle.s7_area.specs.Keys.{is_numbered}
use Rattle.s7_area.specs.Places.{differ, is_misfit, key_of, start_of, is_inside}
use Rattle.s7_area.specs.Registers.{IsArea}
use Rattle.s7_area.specs.Memory.{AreaList, Memory, key_cmp, area_octets, code_in, place_code, put_code, read_code, write_code}
use Rattle.s7_split.specs.Fits.{size}
use Rattle.s7_split.specs.Parts.{range_end, elements, room_of, parts_from, parts_of, CanBeSplit}
use Rattle.s7_split.proofs.PartLemmas.{size_some, counts_low}
use Rattle.s7_split.proofs.PartLaws.{room_some}
use Rattle.s7_dialogue.specs.Checks.{is_known, is_placed, check_item}
use Rattle.s7_dialogue.proofs.CheckLemmas.{item_checked, can_split}
use Rattle.s7_rig.proofs.ShapeLemmas.{SameShape, read_code_same, write_code_same, read_code_placed, write_code_placed}

-- ---- the place of an item

-- the word goes with the area and the count, and the octets of the area have those of the item among them
record HasPlace (m : Memory) (item : Item) : Type 0 where
  octets : List ℕ
  fits : is_misfit item ≡ false
  found : area_octets m (key_of item) ≡ Some octets
  inside : is_inside item (length octets) ≡ true

place_inside : (m : Memory) (item : Item) (octets : List ℕ) (inside : Bool) → is_misfit item ≡ false
    → area_octets m (key_of item) ≡ Some octets → is_inside item (length octets) ≡ inside
    → ◌≡◌ {A = ℕ} (cond inside 0xFF 0x05) 0xFF → HasPlace m item
place_inside m item octets true fits found is good =
    record { octets = octets; fits = fits; found = found; inside = is }
place_inside m item octets false fits found is good = absurd (omega (arith, good))

place_found : (m : Memory) (item : Item) (found : Option (List ℕ)) → is_misfit item ≡ false
    → area_octets m (key_of item) ≡ found → code_in found item ≡ 0xFF → HasPlace m item
place_found m item None fits is good = absurd (omega (arith, good))
place_found m item (Some octets) fits is good =
    place_inside m item octets (is_inside item (length octets)) fits is refl good

place_by : (m : Memory) (item : Item) (misfit : Bool) → is_misfit item ≡ misfit
    → cond misfit 0x06 (code_in (area_octets m (key_of item)) item) ≡ 0xFF → HasPlace m item
place_by m item true is good = absurd (omega (arith, good))
place_by m item false is good = place_found m item (area_octets m (key_of item)) is refl good

has_place : (m : Memory) (item : Item) → place_code m item ≡ 0xFF → HasPlace m item
has_place m item good = place_by m item (is_misfit item) refl good

good_place : (m : Memory) (item : Item) → HasPlace m item → place_code m item ≡ 0xFF
good_place m item place =
    ap (λ b. cond b 0x06 (code_in (area_octets m (key_of item)) item)) place.fits
    ∙ (ap (λ found. code_in found item) place.found ∙ ap (λ b. cond b 0xFF 0x05) place.inside)

-- ---- words that go with their areas

known_of : {A : Type 0} (o : Option A) → is_none o ≡ false → is_some o ≡ true
known_of None some = absurd (cc)
known_of (Some x) some = refl

fit_parts : (a b c d : Bool) → (a || b || c || d) ≡ false → (a ≡ false) × (b ≡ false)
fit_parts true b c d fits = absurd (cc)
fit_parts false true c d fits = absurd (cc)
fit_parts false false c d fits = (refl, refl)

-- where another count is right too
fit_again : (a b b' c d : Bool) → b' ≡ false → (a || b || c || d) ≡ false → (a || b' || c || d) ≡ false
fit_again true b b' c d none fits = absurd (cc)
fit_again false true b' c d none fits = absurd (cc)
fit_again false false b' c d none fits = ap (λ x. x || c || d) none ∙ fits

-- a numbered area has its own word
numbered_by : (a b c c' d d' : Bool) → (a || b || differ c c' || differ d d') ≡ false → (c' || d') ≡ true
    → (c ≡ true) ⊎ (d ≡ true)
numbered_by true b c c' d d' fits is = absurd (cc)
numbered_by false true c c' d d' fits is = absurd (cc)
numbered_by false false true c' d d' fits is = inl refl
numbered_by false false false true d d' fits is = absurd (cc)
numbered_by false false false false true d' fits is = inr refl
numbered_by false false false false false true fits is = absurd (cc)
numbered_by false false false false false false fits is = absurd (cc)

size_by : (word : ℕ) → (eqb word 0x1C ≡ true) ⊎ (eqb word 0x1D ≡ true) → unwrap_or (size_of word) 0 ≡ 2
unfolding size_of
size_by word (inl is) = ap (λ w. unwrap_or (size_of w) 0) (eqb-true word 0x1C is)
size_by word (inr is) = ap (λ w. unwrap_or (size_of w) 0) (eqb-true word 0x1D is)

-- counters and timers have two octets each
numbered_size : (item : Item) → is_misfit item ≡ false → is_numbered item.area ≡ true → size item ≡ 2
unfolding is_misfit
numbered_size item fits numbered =
    size_by item.word
    (numbered_by (is_none (size_of item.word)) (eqb item.word 0x01 && not (eqb item.count 1))
    (eqb item.word 0x1C) (eqb item.area 0x1C) (eqb item.word 0x1D) (eqb item.area 0x1D) fits numbered)

-- ---- what stands in the areas passes its check

short_step : (here : Bool) (found later : Option (List ℕ)) (first octets : List ℕ)
    → found ≡ cond here (Some first) later → length first ≤ 2097152
    → (later ≡ Some octets → length octets ≤ 2097152) → found ≡ Some octets → length octets ≤ 2097152
short_step true found later first octets is most more e =
    let same : first ≡ octets = cc in omega (arith, most, ap length same)
short_step false found later first octets is most more e = more (sym is ∙ e)

-- no area has more octets than an address can name
short_by : (test : AreaKey → Bool) (areas : AreaList) (octets : List ℕ) → AllByRecursion IsArea areas
    → lookup test areas ≡ Some octets → length octets ≤ 2097152
short_by test [] octets all found = absurd (cc)
short_by test (area ∷ areas) octets all found =
    short_step (test area.0) _ (lookup test areas) area.1 octets refl all.0.most
    (short_by test areas octets all.1) found

range_within : (numbered bit : Bool) (a n s len : ℕ) → (numbered ≡ true → s ≡ 2) → 1 ≤ n * s → len ≤ 2097152
    → cond numbered (a * 2) (a / 8) + n * s ≤ len
    → cond numbered (a + n) (cond bit (a + 1) (8 * (a / 8 + n * s))) ≤ 16777216
range_within true bit a n s len two some most inside = omega (arith, ap (λ x. n * x) (two refl), most, inside)
range_within false true a n s len two some most inside = omega (arith, some, most, inside)
range_within false false a n s len two some most inside = omega (arith, most, inside)

one_of : (bit one : Bool) → (bit && not one) ≡ false → (not bit || one) ≡ true
one_of true true fits = refl
one_of true false fits = absurd (cc)
one_of false one fits = refl

some_of : (count : ℕ) → not (eqb count 0) ≡ true → 0 < count
some_of count some = grind (arith, nat_tests)

octets_some : (n s : ℕ) → 0 < n → 0 < s → 1 ≤ n * s
octets_some n s some any = let one : 1 ≤ n = omega (arith, some) in omega (arith, mul-le-mul_left s one)

place_known : (m : Memory) (item : Item) → HasPlace m item → is_known item ≡ true
unfolding is_misfit
place_known m item place =
    known_of (size_of item.word) (fit_parts _ (eqb item.word 0x01 && not (eqb item.count 1)) _ _ place.fits).0

place_range : (m : Memory) (item : Item) → AllByRecursion IsArea m.areas → HasPlace m item → range_end item ≤ 16777216
place_range m item areas place =
    let end : ℕ = start_of item + octet_count item in
    let inside = and_parts (not (eqb item.count 0)) (leb end (length place.octets)) place.inside in
    let sized = size_some item.word (place_known m item place) in
    range_within (is_numbered item.area) (eqb item.word 0x01) item.address item.count (size item)
    (length place.octets) (numbered_size item place.fits)
    (octets_some item.count (size item) (some_of item.count inside.0) sized.0)
    (short_by (is_at (key_cmp (key_of item))) m.areas place.octets areas place.found)
    (leb-true end (length place.octets) inside.1)

place_placed : (m : Memory) (item : Item) → AllByRecursion IsArea m.areas → HasPlace m item → is_placed item ≡ true
unfolding is_misfit
place_placed m item areas place =
    let end : ℕ = start_of item + octet_count item in
    let inside = and_parts (not (eqb item.count 0)) (leb end (length place.octets)) place.inside in
    let fits = fit_parts (is_none (size_of item.word)) (eqb item.word 0x01 && not (eqb item.count 1)) _ _ place.fits in
    and_from _ _ (and_from _ _ inside.0 (one_of (eqb item.word 0x01) (eqb item.count 1) fits.1))
    (le-leb (range_end item) 16777216 (place_range m item areas place))

-- an item that stands in the areas of a memory has a known word, and is in place
pub placed_is_known : (m : Memory) (item : Item) → place_code m item ≡ 0xFF → is_known item ≡ true
placed_is_known m item good = place_known m item (has_place m item good)

pub placed_is_placed : (m : Memory) (item : Item) → AllByRecursion IsArea m.areas → place_code m item ≡ 0xFF
    → is_placed item ≡ true
placed_is_placed m item areas good = place_placed m item areas (has_place m item good)

checked_by : (known placed has : Bool) → known ≡ true → placed ≡ true → has ≡ true
    → ◌≡◌ {A = ℕ} (cond (not known) 0x00500000 (cond (not (placed && has)) 0x00200000 0)) 0
checked_by true true true k p h = refl
checked_by false placed has k p h = absurd (cc)
checked_by true false has k p h = absurd (cc)
checked_by true true false k p h = absurd (cc)

-- so it passes its check, with as many octets as it has
pub placed_is_checked : (m : Memory) (item : Item) (has : Bool) → AllByRecursion IsArea m.areas
    → place_code m item ≡ 0xFF → has ≡ true → check_item item has ≡ 0
placed_is_checked m item has areas good all =
    checked_by (is_known item) (is_placed item) has (placed_is_known m item good)
    (placed_is_placed m item areas good) all

-- ---- some elements of an item that has a place

-- these elements are some of the item's
record AreIn (item : Item) (from count : ℕ) : Type 0 where
  some : 0 < count
  within : from + count ≤ item.count

one_left : (bit : Bool) (n f c : ℕ) → (bit ≡ true → n ≡ 1) → 0 < c → f + c ≤ n → (bit && not (eqb c 1)) ≡ false
one_left true n f c one some within = let is : c ≡ 1 = omega (arith, one refl) in ap (λ x. not (eqb x 1)) is
one_left false n f c one some within = refl

elements_fit : (item : Item) (from count : ℕ) → CanBeSplit item → AreIn item from count → is_misfit item ≡ false
    → is_misfit (elements item from count) ≡ false
unfolding is_misfit
elements_fit item from count split are fits =
    fit_again (is_none (size_of item.word)) _ _
    (differ (eqb item.word 0x1C) (eqb item.area 0x1C)) (differ (eqb item.word 0x1D) (eqb item.area 0x1D))
    (one_left (eqb item.word 0x01) item.count from count (λ e. split.bit (eqb-true item.word 0x01 e))
    are.some are.within)
    fits

ends_inside : (numbered : Bool) (a f c n s : ℕ) → (numbered ≡ true → s ≡ 2) → f + c ≤ n
    → cond numbered ((a + f * cond numbered 1 (8 * s)) * 2) ((a + f * cond numbered 1 (8 * s)) / 8) + c * s
    ≤ cond numbered (a * 2) (a / 8) + n * s
ends_inside true a f c n s two within =
    let is : s ≡ 2 = two refl in omega (arith, ap (λ x. c * x) is, ap (λ x. n * x) is)
ends_inside false a f c n s two within = omega (arith, mul-le-mul_left s within)

pub not_none : (c : ℕ) → 0 < c → not (eqb c 0) ≡ true
not_none c some = grind (arith, nat_tests)

elements_inside : (item : Item) (from count len : ℕ) → AreIn item from count → is_misfit item ≡ false
    → is_inside item len ≡ true → is_inside (elements item from count) len ≡ true
elements_inside item from count len are fits inside =
    let part = elements item from count in
    let end : ℕ = start_of item + octet_count item in
    let ends = leb-true end len (and_parts (not (eqb item.count 0)) (leb end len) inside).1 in
    let less : start_of part + octet_count part ≤ end =
    ends_inside (is_numbered item.area) item.address from count item.count (size item) (numbered_size item fits)
    are.within in
    and_from (not (eqb count 0)) (leb (start_of part + octet_count part) len) (not_none count are.some)
    (le-leb (start_of part + octet_count part) len (omega (arith, ends, less)))

-- they have a place too
elements_placed : (m : Memory) (item : Item) (from count : ℕ) → CanBeSplit item → AreIn item from count
    → place_code m item ≡ 0xFF → place_code m (elements item from count) ≡ 0xFF
elements_placed m item from count split are good =
    let place = has_place m item good in
    good_place m (elements item from count) (record {
      octets = place.octets;
      fits = elements_fit item from count split are place.fits;
      found = place.found;
      inside = elements_inside item from count (length place.octets) are place.fits place.inside;
    })

-- ---- all parts

-- what holds of any elements of an item holds of each of its parts
each_from : (P : Item → Type 0) (n room : ℕ) (item : Item) (from : ℕ) → 0 < room → from + room * n < item.count
    → ((f c : ℕ) → AreIn item f c → P (elements item f c)) → AllByRecursion P (parts_from (suc n) room item from)
each_from P zero room item from some more so =
    (so from (min room (item.count - from)) (record { some = omega arith; within = omega arith }), tt)
each_from P (suc n) room item from some more so =
    let one = mul-suc room n in (
      so from (min room (item.count - from)) (record { some = omega arith; within = omega arith }),
      each_from P n room item (from + min room (item.count - from)) some (omega arith) so,
    )

each_part : (P : Item → Type 0) (item : Item) (pdu : ℕ) (write : Bool) → CanBeSplit item → 64 ≤ pdu
    → ((f c : ℕ) → AreIn item f c → P (elements item f c)) → AllByRecursion P (parts_of item pdu write)
unfolding parts_of
each_part P item pdu write split least so =
    let room : ℕ = room_of item pdu write in
    let some : 0 < room = room_some item pdu write split.known least in
    let n : ℕ = (item.count - 1) / room in
    let low : room * n < item.count = counts_low item.count room some split.some in
    subst (λ (x : ℕ). AllByRecursion P (parts_from x room item 0)) (sym (add-one n))
    (each_from P n room item 0 some (omega (arith, low)) so)

checked_split : (item : Item) (has : Bool) → check_item item has ≡ 0 → CanBeSplit item
checked_split item has good = let told = item_checked item has good in can_split item told.0 told.1

-- each part has a place where the item has one
pub parts_placed : (m : Memory) (item : Item) (has : Bool) (pdu : ℕ) (write : Bool) → check_item item has ≡ 0 → 64 ≤ pdu
    → place_code m item ≡ 0xFF → AllByRecursion (λ (part : Item). place_code m part ≡ 0xFF) (parts_of item pdu write)
parts_placed m item has pdu write checked least good =
    let split = checked_split item has checked in
    each_part (λ (part : Item). place_code m part ≡ 0xFF) item pdu write split least
    (λ f c are. elements_placed m item f c split are good)

-- and has the item's word, which is known
pub parts_known : (item : Item) (has : Bool) (pdu : ℕ) (write : Bool) → check_item item has ≡ 0 → 64 ≤ pdu
    → AllByRecursion (λ (part : Item). IsSome (size_of part.word)) (parts_of item pdu write)
parts_known item has pdu write checked least =
    let split = checked_split item has checked in
    each_part (λ (part : Item). IsSome (size_of part.word)) item pdu write split least (λ f c are. split.known)

-- ---- what the code of an item says

-- nothing bars the item, and it has a place
pub record IsOpen (m : Memory) (item : Item) (barred : Bool) : Type 0 where
  pub free : barred ≡ false
  pub placed : place_code m item ≡ 0xFF

open_by : (m : Memory) (item : Item) (barred : Bool) (code : ℕ) → (code ≡ 0xFF → place_code m item ≡ 0xFF)
    → cond barred 0x03 code ≡ 0xFF → IsOpen m item barred
open_by m item true code so good = absurd (omega (arith, good))
open_by m item false code so good = record { free = refl; placed = so good }

put_good : (code : ℕ) (good counts : Bool) → eqb code 0xFF ≡ good → cond (good && not counts) 0x07 code ≡ 0xFF
    → code ≡ 0xFF
put_good code true counts is all = eqb-true code 0xFF is
put_good code false counts is all = all

pub read_open : (m : Memory) (right : Bool) (item : Item) → read_code m right item ≡ 0xFF
    → IsOpen m item (is_read_barred m.guard right)
unfolding read_code
read_open m right item good = open_by m item (is_read_barred m.guard right) (place_code m item) (λ code. code) good

pub write_open : (m : Memory) (right : Bool) (item : Item) (octets : List ℕ) → write_code m right item octets ≡ 0xFF
    → IsOpen m item (is_write_barred m.guard right)
unfolding write_code
write_open m right item octets good =
    open_by m item (is_write_barred m.guard right) (put_code m item octets)
    (put_good (place_code m item) _ (eqb (length octets) (octet_count item)) refl) good

-- what isn't barred with one right isn't barred with another that is there where that one is
freed : (right other b : Bool) → (right ≡ true → other ≡ true) → (not right && b) ≡ false → (not other && b) ≡ false
freed true other b has free = ap (λ r. not r && b) (has refl)
freed false true b has free = refl
freed false false b has free = free

pub read_freed : (guard : Option Guard) (right other : Bool) → (right ≡ true → other ≡ true)
    → is_read_barred guard right ≡ false → is_read_barred guard other ≡ false
read_freed guard right other has free = freed right other (eqb (level_of guard) 3) has free

pub write_freed : (guard : Option Guard) (right other : Bool) → (right ≡ true → other ≡ true)
    → is_write_barred guard right ≡ false → is_write_barred guard other ≡ false
write_freed guard right other has free =
    freed right other (eqb (level_of guard) 2 || eqb (level_of guard) 3) has free

-- ---- items that stand in the first of some memories

-- such an item is read in each memory, where nothing bars it
pub placed_is_read : (m n : Memory) (right : Bool) (item : Item) → SameShape m n → is_read_barred n.guard right ≡ false
    → place_code n item ≡ 0xFF → read_code m right item ≡ 0xFF
placed_is_read m n right item same free placed =
    read_code_same m n right item same ∙ (read_code_placed n right item free ∙ placed)

-- and written with as many octets as it has
pub placed_is_written : (m n : Memory) (right : Bool) (item : Item) (octets : List ℕ) → SameShape m n
    → is_write_barred n.guard right ≡ false → place_code n item ≡ 0xFF → length octets ≡ octet_count item
    → write_code m right item octets ≡ 0xFF
placed_is_written m n right item octets same free placed whole =
    write_code_same m n right item octets same
    ∙ (write_code_placed n right item octets free whole ∙ placed)

-- ---- the codes of the parts of an item

-- each part of an item that is read is read
pub parts_read : (m : Memory) (right : Bool) (item : Item) (has : Bool) (pdu : ℕ) → check_item item has ≡ 0 → 64 ≤ pdu
    → read_code m right item ≡ 0xFF
    → AllByRecursion (λ (part : Item). read_code m right part ≡ 0xFF) (parts_of item pdu false)
parts_read m right item has pdu checked least good =
    let is = read_open m right item good in
    let split = checked_split item has checked in
    each_part (λ (part : Item). read_code m right part ≡ 0xFF) item pdu false split least
    (λ f c are. read_code_placed m right (elements item f c) is.free ∙ elements_placed m item f c split are is.placed)

-- an item is written with as many octets as it has
abbrev pub IsWritten : Memory → Bool → Item → Type 0
IsWritten m right item = (octets : List ℕ) → length octets ≡ octet_count item → write_code m right item octets ≡ 0xFF

-- each part of an item that is written is written
pub parts_written : (m : Memory) (right : Bool) (item : Item) (octets : List ℕ) (has : Bool) (pdu : ℕ)
    → check_item item has ≡ 0 → 64 ≤ pdu → write_code m right item octets ≡ 0xFF
    → AllByRecursion (IsWritten m right) (parts_of item pdu true)
parts_written m right item octets has pdu checked least good =
    let is = write_open m right item octets good in
    let split = checked_split item has checked in
    each_part (IsWritten m right) item pdu true split least
    (λ f c are os whole.
    write_code_placed m right (elements item f c) os is.free whole ∙ elements_placed m item f c split are is.placed)
