-- What is answered to each item of a read or a write.
use Rattle.std.proofs.Common.{◌≡◌, ℕ, ◌&&◌, not, Bool, true, false, cond, eqb, eq-eqb, Option, None, Some, List, [], ◌∷◌, length}
use Rattle.std.proofs.Common.{map, refl, ap, sym, ◌∙◌, subst, arith, unwrap_or}
use Rattle.std.specs.Map.{lookup}
use Rattle.std.specs.BTreeMap.{is_at}
use Rattle.s7_item.specs.declared.item.Item.{Item}
use Rattle.s7_item.specs.declared.places.DataPlace.{DataPlace}
use Rattle.s7_item.specs.DataItem.{DataItem, octets_at}
use Rattle.s7_item.specs.Item.{octet_count}
use Rattle.s7_area.specs.Guards.{is_read_barred, is_write_barred}
use Rattle.s7_area.specs.declared.key.AreaKey.{AreaKey}
use Rattle.s7_area.specs.Memory.{AreaList, Memory, key_cmp, area_octets, lengths_of, shape_of, with_octets, code_in, place_code, put_code}
use Rattle.s7_area.specs.Memory.{read_code, read_octets, write_code, written}
use Rattle.s7_area.specs.Places.{is_misfit, is_inside, key_of, value_at, changed_at}
use Rattle.s7_area.proofs.ShapeLemmas.{writes_keep}
use Rattle.s7_area.proofs.WriteLemmas.{read_back}
use Rattle.s7_plant.specs.Answers.{read_item, write_all, write_codes}
use Rattle.s7_listener.specs.Complete.{IsInRange, IsReadAs, AreReadAs, IsPutAs, ArePutAs}

chosen : (b : Bool) (x y : ℕ) → b ≡ true → cond b x y ≡ x
chosen b x y is = ap (λ (v : Bool). cond v x y) is

passed : (b : Bool) (x y : ℕ) → b ≡ false → cond b x y ≡ y
passed b x y is = ap (λ (v : Bool). cond v x y) is

these : (b : Bool) (xs ys : List ℕ) → b ≡ true → cond b xs ys ≡ xs
these b xs ys is = ap (λ (v : Bool). cond v xs ys) is

-- ---- reads

-- the place of an item in range has FF
place_good : (m : Memory) (item : Item) (area : List ℕ) → IsInRange m item area → place_code m item ≡ 0xFF
place_good m item area range =
    passed (is_misfit item) 6 (code_in (area_octets m (key_of item)) item) range.fits
    ∙ (ap (λ (o : Option (List ℕ)). code_in o item) range.there
    ∙ chosen (is_inside item (length area)) 0xFF 5 range.inside)

code_good : (m : Memory) (right : Bool) (item : Item) (area : List ℕ) → IsInRange m item area → is_read_barred m.guard right ≡ false
    → read_code m right item ≡ 0xFF
unfolding read_code
code_good m right item area range may =
    passed (is_read_barred m.guard right) 3 (place_code m item) may ∙ place_good m item area range

octets_good : (m : Memory) (right : Bool) (item : Item) (area : List ℕ) → IsInRange m item area → read_code m right item ≡ 0xFF
    → read_octets m right item ≡ value_at item area
unfolding read_octets
octets_good m right item area range is =
    these (eqb (read_code m right item) 0xFF) (value_at item (unwrap_or (area_octets m (key_of item)) [])) [] (eq-eqb (read_code m right item) 0xFF is)
    ∙ ap (λ (o : Option (List ℕ)). value_at item (unwrap_or o [])) range.there

abbrev data_item : ℕ → Item → List ℕ → DataItem
data_item code item octets = record { code = code; word = item.word; octets = octets }

read_good : (m : Memory) (right : Bool) (item : Item) (area : List ℕ) → IsInRange m item area → is_read_barred m.guard right ≡ false
    → read_item m right item ≡ data_item 0xFF item (value_at item area)
read_good m right item area range may =
    let code = code_good m right item area range may in
    ap (λ (c : ℕ). data_item c item (read_octets m right item)) code
    ∙ ap (λ (os : List ℕ). data_item 0xFF item os) (octets_good m right item area range code)

read_as : (m : Memory) (right : Bool) (item : Item) → IsReadAs m right item (read_item m right item)
read_as m right item =
    record { told_is = refl; good = λ area range may. read_good m right item area range may }

pub reads_as : (m : Memory) (right : Bool) (items : List Item) → AreReadAs m right items (map (read_item m right) items)
reads_as m right [] = tt
reads_as m right (item ∷ items) = (read_as m right item, reads_as m right items)

-- ---- writes

-- the code of a write from that of the place
put_good : (m : Memory) (item : Item) (octets area : List ℕ) → IsInRange m item area → length octets ≡ octet_count item
    → put_code m item octets ≡ 0xFF
put_good m item octets area range count =
    let place = place_good m item area range in
    let many = eq-eqb (length octets) (octet_count item) count in
    passed (eqb (place_code m item) 0xFF && not (eqb (length octets) (octet_count item))) 7 (place_code m item)
    (ap (λ (b : Bool). eqb (place_code m item) 0xFF && not b) many
    ∙ ap (λ (c : ℕ). eqb c 0xFF && not true) place)
    ∙ place

write_good : (m : Memory) (right : Bool) (item : Item) (octets area : List ℕ) → IsInRange m item area → length octets ≡ octet_count item
    → is_write_barred m.guard right ≡ false → write_code m right item octets ≡ 0xFF
unfolding write_code
write_good m right item octets area range count may =
    passed (is_write_barred m.guard right) 3 (put_code m item octets) may ∙ put_good m item octets area range count

-- ---- areas that writes changed

abbrev length_found : Option (List ℕ) → Option ℕ
length_found None = None
length_found (Some octets) = Some (length octets)

length_if : (b : Bool) (octets : List ℕ) (found : Option ℕ) (later : Option (List ℕ)) → found ≡ length_found later
    → cond b (Some (length octets)) found ≡ length_found (cond b (Some octets) later)
length_if true octets found later is = refl
length_if false octets found later is = is

-- the length of an area stands in the shape
found_length : (test : AreaKey → Bool) (es : AreaList) → lookup test (lengths_of es) ≡ length_found (lookup test es)
found_length test [] = refl
found_length test (e ∷ es) = length_if (test e.0) e.1 (lookup test (lengths_of es)) (lookup test es) (found_length test es)

found_again : (m found : Memory) (key : AreaKey) → shape_of m ≡ shape_of found
    → length_found (area_octets m key) ≡ length_found (area_octets found key)
found_again m found key same =
    sym (found_length (is_at (key_cmp key)) m.areas)
    ∙ (ap (λ (shape : List (AreaKey × ℕ)). lookup (is_at (key_cmp key)) shape) same
    ∙ found_length (is_at (key_cmp key)) found.areas)

same_number : (a b : ℕ) → Some a ≡ Some b → a ≡ b
same_number a b is = cc (is)

there_by : (found : Option (List ℕ)) (n : ℕ) → length_found found ≡ Some n → (old : List ℕ) × (found ≡ Some old) × (length old ≡ n)
there_by None n is = absurd (cc (is))
there_by (Some old) n is = (old, refl, same_number (length old) n is)

-- the areas have the guard of those that the telegram found, and their names and lengths
record AreAlike (found m : Memory) : Type 0 where
  shape : shape_of m ≡ shape_of found
  guard : m.guard ≡ found.guard

in_range_on : (found m : Memory) (item : Item) (area : List ℕ) → AreAlike found m → IsInRange found item area
    → (old : List ℕ) × IsInRange m item old
in_range_on found m item area alike range =
    let again = there_by (area_octets m (key_of item)) (length area) (found_again m found (key_of item) alike.shape ∙ ap (λ (o : Option (List ℕ)). length_found o) range.there) in (
      again.0,
      record {
        fits = range.fits;
        there = again.1;
        inside = ap (λ (n : ℕ). is_inside item n) again.2 ∙ range.inside;
      },
    )

guard_if : (b : Bool) (x y : Memory) → x.guard ≡ y.guard → (cond b x y).guard ≡ y.guard
guard_if true x y same = same
guard_if false x y same = refl

guard_kept : (m : Memory) (right : Bool) (item : Item) (octets : List ℕ) → (written m right item octets).guard ≡ m.guard
unfolding written
guard_kept m right item octets =
    guard_if (eqb (write_code m right item octets) 0xFF)
    (with_octets m (key_of item) (changed_at item octets (unwrap_or (area_octets m (key_of item)) []))) m refl

alike_on : (found m : Memory) (right : Bool) (item : Item) (octets : List ℕ) → AreAlike found m → AreAlike found (written m right item octets)
alike_on found m right item octets alike = record {
  shape = writes_keep m right item octets ∙ alike.shape;
  guard = guard_kept m right item octets ∙ alike.guard;
}

-- ---- writes one after another

put_as : (found m : Memory) (right : Bool) (item : Item) (octets : List ℕ) (code : ℕ) → AreAlike found m → code ≡ write_code m right item octets
    → IsPutAs found m right item octets code
put_as found m right item octets code alike is =
    record { code_is = is; good = good_here; stands = λ good_code no_bit. (read_back m right item octets no_bit (sym is ∙ good_code)).1 } where
      good_here : (area : List ℕ) → IsInRange found item area → length octets ≡ octet_count item → is_write_barred found.guard right ≡ false → code ≡ 0xFF
      good_here area range count may =
          let on = in_range_on found m item area alike range in
          is ∙ write_good m right item octets on.0 on.1 count (ap (λ g. is_write_barred g right) alike.guard ∙ may)

same_first : (x y : List ℕ) (xs ys : List (List ℕ)) → x ∷ xs ≡ y ∷ ys → x ≡ y
same_first x y xs ys is = cc (is)

same_others : (x y : List ℕ) (xs ys : List (List ℕ)) → x ∷ xs ≡ y ∷ ys → xs ≡ ys
same_others x y xs ys is = cc (is)

none_first : (y : List ℕ) (ys : List (List ℕ)) → [] ≡ y ∷ ys → ⊥
none_first y ys is = cc (is)

abbrev octets_in : List DataItem → List (List ℕ)
octets_in values = map (λ (value : DataItem). value.octets) values

-- the ranges have the octets of these data items
put_from : (found m : Memory) (right : Bool) (items : List Item) (values : List DataItem) (places : List DataPlace) (octets : List ℕ)
    → AreAlike found m → length values ≡ length items → map (octets_at octets) places ≡ octets_in values
    → ArePutAs found m right items values (write_codes m right items places octets) (write_all m right items places octets)
put_from found m right [] [] places octets alike many same = refl
put_from found m right [] (value ∷ values) places octets alike many same = absurd (omega (arith, many))
put_from found m right (item ∷ items) [] places octets alike many same = absurd (omega (arith, many))
put_from found m right (item ∷ items) (value ∷ values) [] octets alike many same = absurd (none_first value.octets (octets_in values) same)
put_from found m right (item ∷ items) (value ∷ values) (place ∷ places) octets alike many same =
    let here : octets_at octets place ≡ value.octets = same_first (octets_at octets place) value.octets _ _ same in
    let after : Memory = written m right item (octets_at octets place) in (
      put_as found m right item value.octets _ alike (ap (λ (os : List ℕ). write_code m right item os) here),
      subst (λ (n : Memory). ArePutAs found n right items values (write_codes after right items places octets) (write_all after right items places octets))
          (ap (λ (os : List ℕ). written m right item os) here)
          (put_from found after right items values places octets (alike_on found m right item (octets_at octets place) alike) (omega (arith, many)) (same_others (octets_at octets place) value.octets _ _ same)),
    )

pub puts_as : (m : Memory) (right : Bool) (items : List Item) (values : List DataItem) (places : List DataPlace) (octets : List ℕ)
    → length values ≡ length items → map (octets_at octets) places ≡ octets_in values
    → ArePutAs m m right items values (write_codes m right items places octets) (write_all m right items places octets)
puts_as m right items values places octets many same =
    put_from m m right items values places octets (record { shape = refl; guard = refl }) many same
