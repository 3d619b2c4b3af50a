-- What a memory gives to a read: the octets of the item, or a code that refuses it.
use Rattle.std.proofs.Common.{◌≡◌, ◌⊎◌, inl, inr, ℕ, Bool, true, false, cond, eqb, List, [], length, Option, None, Some, refl, sym, ap, ◌∙◌, arith}
use Rattle.std.specs.Prelude.{unwrap_or}
use Rattle.std.proofs.lemmas.Bool.{eqb-true}
use Rattle.std.proofs.lemmas.Grind.{common_steps}
use Rattle.s7_item.specs.declared.item.Item.{Item}
use Rattle.s7_item.specs.Item.{octet_count}
use Rattle.s7_item.specs.DataItem.{carries}
use Rattle.s7_item.specs.Word.{size_of}
use Rattle.s7_area.specs.Guards.{is_read_barred}
use Rattle.s7_area.specs.Places.{is_misfit, key_of, is_inside, value_at}
use Rattle.s7_area.specs.Memory.{Memory, area_octets, code_in, place_code, read_code, read_octets}

-- the item is read: it fits its area, and its octets are inside
record IsGood (m : Memory) (item : Item) : Type 0 where
  octets : List ℕ
  fits : is_misfit item ≡ false
  found : area_octets m (key_of item) ≡ Some octets
  inside : is_inside item (length octets) ≡ true

-- the code refuses the item
pub record IsRefusing (code : ℕ) : Type 0 where
  pub other : eqb code 0xFF ≡ false
  pub carried : carries code ≡ false

abbrev Judged : Memory → Item → ℕ → Type 0
Judged m item code = ((code ≡ 0xFF) × IsGood m item) ⊎ IsRefusing code

judged_inside : (m : Memory) (item : Item) (octets : List ℕ) (inside : Bool) → is_misfit item ≡ false → area_octets m (key_of item) ≡ Some octets → is_inside item (length octets) ≡ inside
    → Judged m item (cond inside 0xFF 0x05)
judged_inside m item octets true fits found e = inl (refl, record { octets = octets; fits = fits; found = found; inside = e })
judged_inside m item octets false fits found e = inr (record { other = refl; carried = refl })

judged_found : (m : Memory) (item : Item) (found : Option (List ℕ)) → is_misfit item ≡ false → area_octets m (key_of item) ≡ found → Judged m item (code_in found item)
judged_found m item None fits e = inr (record { other = refl; carried = refl })
judged_found m item (Some octets) fits e = judged_inside m item octets (is_inside item (length octets)) fits e refl

judged_fit : (m : Memory) (item : Item) (misfit : Bool) → is_misfit item ≡ misfit → Judged m item (cond misfit 0x06 (code_in (area_octets m (key_of item)) item))
judged_fit m item true fits = inr (record { other = refl; carried = refl })
judged_fit m item false fits = judged_found m item (area_octets m (key_of item)) fits refl

-- what the guard bars is refused
judged_barred : (m : Memory) (item : Item) (barred : Bool) → Judged m item (cond barred 0x03 (place_code m item))
judged_barred m item true = inr (record { other = refl; carried = refl })
judged_barred m item false = judged_fit m item (is_misfit item) refl

judged : (m : Memory) (right : Bool) (item : Item) → Judged m item (read_code m right item)
unfolding read_code
judged m right item = judged_barred m item (is_read_barred m.guard right)

-- ---- the octets that are read

-- a bit has one octet
bit_count : (item : Item) → is_misfit item ≡ false → item.word ≡ 1 → octet_count item ≡ 1
unfolding is_misfit size_of
bit_count item fits bit = grind (arith, common_steps)

count_at : (item : Item) (octets : List ℕ) (bit : Bool) → eqb item.word 1 ≡ bit → is_misfit item ≡ false → is_inside item (length octets) ≡ true → length (value_at item octets) ≡ octet_count item
unfolding value_at
count_at item octets true e fits inside = rw e (sym (bit_count item fits (eqb-true item.word 1 e)))
count_at item octets false e fits inside = rw e (grind (arith, common_steps))

abbrev given : Memory → Item → Bool → List ℕ
given m item read = cond read (value_at item (unwrap_or (area_octets m (key_of item)) [])) []

given_whole : (m : Memory) (item : Item) → IsGood m item → length (given m item true) ≡ octet_count item
given_whole m item good =
    ap (λ (found : Option (List ℕ)). length (value_at item (unwrap_or found []))) good.found
    ∙ count_at item good.octets (eqb item.word 1) refl good.fits good.inside

whole_by : (m : Memory) (right : Bool) (item : Item) → read_code m right item ≡ 0xFF → Judged m item (read_code m right item) → length (read_octets m right item) ≡ octet_count item
unfolding read_octets
whole_by m right item code (inl good) = ap (λ c. length (given m item (eqb c 0xFF))) code ∙ given_whole m item good.1
whole_by m right item code (inr refused) = absurd (absurd_code (read_code m right item) code refused.other)
  where
    absurd_code : (c : ℕ) → c ≡ 0xFF → eqb c 0xFF ≡ false → ⊥
    absurd_code c is other = cc

-- an item that is read has all its octets
pub read_whole : (m : Memory) (right : Bool) (item : Item) → read_code m right item ≡ 0xFF → length (read_octets m right item) ≡ octet_count item
read_whole m right item code = whole_by m right item code (judged m right item)

-- an item that is refused has none
pub read_nothing : (m : Memory) (right : Bool) (item : Item) → IsRefusing (read_code m right item) → read_octets m right item ≡ []
unfolding read_octets
read_nothing m right item refused = ap (given m item) refused.other

read_or_refused_by : (m : Memory) (item : Item) (code : ℕ) → Judged m item code → (code ≡ 0xFF) ⊎ IsRefusing code
read_or_refused_by m item code (inl good) = inl good.0
read_or_refused_by m item code (inr refused) = inr refused

pub read_or_refused : (m : Memory) (right : Bool) (item : Item) → (read_code m right item ≡ 0xFF) ⊎ IsRefusing (read_code m right item)
read_or_refused m right item = read_or_refused_by m item (read_code m right item) (judged m right item)
