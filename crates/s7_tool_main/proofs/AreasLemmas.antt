-- The areas that `gen` runs on.
use Rattle.std.proofs.Common.{◌≡◌, ◌+◌, ◌%◌, ℕ, refl, ap, arith, [], ◌∷◌, ◌++◌, length, map, sum, sum_by}
use Rattle.std.specs.Prelude.{option_map, unwrap_or}
use Rattle.std.specs.BTreeMap.{is_at}
use Rattle.std.specs.Map.{keys_of, lookup, values_of}
use Rattle.std.proofs.lemmas.List.FromFn.{length-map-range_with_len, map-range_with_len_more}
use Rattle.s7_area.specs.declared.key.AreaKey.{AreaKey}
use Rattle.s7_area.specs.Memory.{AreaList, key_cmp}
use Rattle.s7_tool_main.specs.Gen.{block_key, flags_key, rising_octets}

-- ---- octets that go up

pub rising_none : (first : ℕ) → rising_octets first 0 ≡ []
unfolding rising_octets
rising_none first = refl

pub rising_more : (first k : ℕ) → rising_octets first (k + 1) ≡ rising_octets first k ++ ((first + k) % 256) ∷ []
unfolding rising_octets
rising_more first k = map-range_with_len_more (λ n. (first + n) % 256) 0 k k (omega arith)

pub length-rising : (first count : ℕ) → length (rising_octets first count) ≡ count
unfolding rising_octets
length-rising first count = length-map-range_with_len (λ n. (first + n) % 256) 0 count

-- ---- the octets of all areas

-- the sum of the octets of a name's area
abbrev sum_in : AreaList → AreaKey → ℕ
sum_in areas key = unwrap_or (option_map sum (lookup (is_at (key_cmp key)) areas)) 0

from_none : (n : ℕ) → n ≡ 0 + n
from_none n = omega arith

-- of the flags and four data blocks
pub sum_of_five : (areas : AreaList) → keys_of areas ≡ flags_key ∷ map block_key (1 ∷ 2 ∷ 3 ∷ 4 ∷ [])
    → sum_in areas flags_key + sum_in areas (block_key 1) + sum_in areas (block_key 2) + sum_in areas (block_key 3)
    + sum_in areas (block_key 4) ≡ sum_by sum (values_of areas)
sum_of_five [] names = cc
sum_of_five (a ∷ []) names = cc
sum_of_five (a ∷ b ∷ []) names = cc
sum_of_five (a ∷ b ∷ c ∷ []) names = cc
sum_of_five (a ∷ b ∷ c ∷ d ∷ []) names = cc
sum_of_five (a ∷ b ∷ c ∷ d ∷ e ∷ f ∷ areas) names = cc
sum_of_five (a ∷ b ∷ c ∷ d ∷ e ∷ []) names =
    let a_is : a.0 ≡ flags_key = cc in
    let b_is : b.0 ≡ block_key 1 = cc in
    let c_is : c.0 ≡ block_key 2 = cc in
    let d_is : d.0 ≡ block_key 3 = cc in
    let e_is : e.0 ≡ block_key 4 = cc in
    rw (a_is, b_is, c_is, d_is, e_is) (ap (λ n. n + sum b.1 + sum c.1 + sum d.1 + sum e.1) (from_none (sum a.1)))
