-- How telegrams name blocks (Snap7 1.4 sources, s7_types.h: TReqFunStartUploadParams, TReqFunGetBlockInfo): by the
-- kind, the number in decimal digits, and the block's location.
use Rattle.std.specs.Prelude.{◌≡◌, ◌<◌, ◌^◌, true, ℕ, zero, suc, ◌+◌, ◌/◌, ◌%◌, ◌==◌, ◌&&◌, nat_lt, is_some, Bool}
use Rattle.std.specs.Prelude.{if◌then◌else◌, Option, None, Some, List, [], ◌∷◌, ◌++◌, length, take, drop, slice_index}
use Rattle.std.specs.List.{list_all}
use Rattle.std.specs.Char.{is_ascii_digit}
use Rattle.std.specs.Str.Parse.{digits_value}
use Rattle.s7_block.specs.declared.block.BlockName.{BlockName}
use Rattle.s7_block.specs.Kinds.{head_code}

-- ---- digits

-- a number in this number of decimal digits
abbrev pub digits : ℕ → ℕ → List ℕ
digits zero number = []
digits (suc count) number = digits count (number / 10) ++ (0x30 + number % 10) ∷ []

-- the number of these digits; `None` if an octet isn't a digit
abbrev pub number_in : List ℕ → Option ℕ
number_in octets = if list_all is_ascii_digit octets then Some (digits_value 10 octets) else None

-- ---- names

-- there is such a kind, and the number fits two octets
abbrev pub is_name : ℕ → ℕ → Bool
is_name kind number = is_some (head_code kind) && nat_lt number 65536

-- a block's name with its location: `30`, the kind, five digits and the location
abbrev pub name_octets : BlockName → ℕ → List ℕ
name_octets name place = 0x30 ∷ name.kind ∷ (digits 5 name.number ++ place ∷ [])

abbrev pub named_by : ℕ → Option ℕ → Option BlockName
named_by kind None = None
named_by kind (Some number) = if is_name kind number then Some (record { kind = kind; number = number }) else None

-- THE BLOCK THAT OCTETS NAME at this location; `None` if they aren't the eight octets of such a name
abbrev pub named : List ℕ → ℕ → Option BlockName
named octets place =
    if length octets == 8 && slice_index octets 0 == 0x30 && slice_index octets 7 == place
    then named_by (slice_index octets 1) (number_in (take 5 (drop 2 octets))) else None

-- ---- a law

-- a number that is written is read as that number, and a name as that name
pub record NamesAreRead : Type 0 where
  pub numbers : (count number : ℕ) → number < 10 ^ count → number_in (digits count number) ≡ Some number
  pub names : (name : BlockName) (place : ℕ) → is_name name.kind name.number ≡ true
      → named (name_octets name place) place ≡ Some name
