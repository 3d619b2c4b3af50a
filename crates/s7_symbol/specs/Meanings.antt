-- The meaning of a tag's value, by the tag's type. The types are those of STEP 7 (Siemens, S7-300 instruction list,
-- data types); the texts of their values are this profile's own.
use Rattle.std.specs.Prelude.{ℕ, Bool, false, ◌==◌, ◌&&◌, nat_le, List}
use Rattle.s7_clock.specs.Moment.{is_within}
use Rattle.s7_text.specs.Moments.{Parts}
use Rattle.s7_symbol.specs.declared.numbers.Signed.{Signed}
use Rattle.s7_symbol.specs.Numbers.{fits_half}
use Rattle.s7_symbol.specs.declared.kind.TagKind.{TagKind}
use Rattle.s7_symbol.specs.declared.kind.TagKind.TheVariants as kind

pub data Meaning : Type 0 where
  number : ℕ → Meaning
  signed : Signed → Meaning
  -- a count of units, and the number of the unit: 0 for 10 ms to 3 for 10 s
  duration : (count : ℕ) → (unit : ℕ) → Meaning
  -- a string: the number of characters for which it has room, the number that it has, and the characters
  string : (room : ℕ) → (count : ℕ) → List ℕ → Meaning
  date : Parts → Meaning

-- a string has room for 1 to 254 characters
abbrev pub has_room : ℕ → Bool
has_room most = nat_le 1 most && nat_le most 254

-- THE RANGE of each type
abbrev pub is_in_range : TagKind → Meaning → Bool
is_in_range kind.Bool (number n) = nat_le n 1
is_in_range kind.Int (signed z) = fits_half 32768 z
is_in_range kind.Dint (signed z) = fits_half 2147483648 z
is_in_range kind.Bcd (number n) = nat_le n 9999
is_in_range kind.S5Time (duration count unit) = nat_le count 999 && nat_le unit 3
is_in_range (kind.Text most) (string room count characters) = room == most && (nat_le count most && has_room most)
is_in_range kind.DateTime (date p) = is_within 1990 2089 p.year
is_in_range _ _ = false
