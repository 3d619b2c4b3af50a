-- The octets of tag values.
use Rattle.std.specs.Prelude.{ℕ, ◌+◌, ◌-◌, ◌*◌, ◌/◌, ◌%◌, ◌==◌, ◌&&◌, if◌then◌else◌, List, [], ◌∷◌, ◌++◌, length, take, drop, replicate, Option, None, Some, option_and_then, option_map}
use Rattle.std.specs.Str.{bytes_eq}
use Rattle.s7_clock.specs.Clock.{bcd, digit, number_in, parts_in}
use Rattle.s7_clock.specs.Moment.{is_date, is_time, moment_at, moment_octets}
use Rattle.s7_outer.specs.Numbers.{two_octets}
use Rattle.s7_text.specs.Moments.{Parts}
use Rattle.s7_symbol.specs.Numbers.{complement, signed_by}
use Rattle.s7_symbol.specs.Meanings.{Meaning, number, signed, duration, string, date}
use Rattle.s7_symbol.specs.declared.kind.TagKind.{TagKind}
use Rattle.s7_symbol.specs.declared.kind.TagKind.TheVariants as kind

-- a number below 4,294,967,296 in four octets, the high one first
abbrev pub four_octets : ℕ → List ℕ
four_octets n = n / 16777216 ∷ n / 65536 % 256 ∷ n / 256 % 256 ∷ n % 256 ∷ []

abbrev pub number_of_four : ℕ → ℕ → ℕ → ℕ → ℕ
number_of_four a b c d = ((a * 256 + b) * 256 + c) * 256 + d

-- ---- reading

abbrev pub one_number : List ℕ → Option Meaning
one_number (n ∷ []) = Some (number n)
one_number _ = None

abbrev pub signed_of_two : List ℕ → Option Meaning
signed_of_two (a ∷ b ∷ []) = Some (signed (signed_by 32768 (a * 256 + b)))
signed_of_two _ = None

abbrev pub signed_of_four : List ℕ → Option Meaning
signed_of_four (a ∷ b ∷ c ∷ d ∷ []) = Some (signed (signed_by 2147483648 (number_of_four a b c d)))
signed_of_four _ = None

-- a number of two digits after hundreds
abbrev pub behind : ℕ → Option ℕ → Option ℕ
behind hundreds None = None
behind hundreds (Some n) = Some (hundreds * 100 + n)

abbrev pub hundreds_of : Option ℕ → ℕ → Option ℕ
hundreds_of None low = None
hundreds_of (Some hundreds) low = behind hundreds (number_in low)

-- four BCD digits
abbrev pub four_digits_of : List ℕ → Option Meaning
four_digits_of (high ∷ low ∷ []) = option_map number (hundreds_of (number_in high) low)
four_digits_of _ = None

abbrev pub duration_by : ℕ → ℕ → Meaning
duration_by unit count = duration count unit

-- a unit in the high half of the first octet, and three BCD digits
abbrev pub duration_in : List ℕ → Option Meaning
duration_in (high ∷ low ∷ []) = option_map (duration_by (high / 16)) (hundreds_of (digit (high % 16)) low)
duration_in _ = None

-- the room, the number of characters, and as many octets as the room; the first of these are the characters, and the
-- others are ignored
abbrev pub string_in : List ℕ → Option Meaning
string_in (room ∷ count ∷ rest) =
    if length rest == room then Some (string room count (take count rest)) else None
string_in _ = None

-- the octets are the clock octets of a date and time from the year on, with its weekday
abbrev pub date_with : List ℕ → Parts → Option Meaning
date_with octets p =
    if (is_date p && is_time p) && bytes_eq octets (drop 2 (moment_octets (moment_at p))) then Some (date p) else None

abbrev pub date_in : List ℕ → Option Meaning
date_in octets = option_and_then (date_with octets) (parts_in (0x00 ∷ 0x19 ∷ octets))

-- THE MEANING OF OCTETS for a type, whether or not it is in the type's range; `None` if they have no value of the type
abbrev pub octets_meaning : TagKind → List ℕ → Option Meaning
octets_meaning kind.Bool octets = one_number octets
octets_meaning kind.Int octets = signed_of_two octets
octets_meaning kind.Dint octets = signed_of_four octets
octets_meaning kind.Bcd octets = four_digits_of octets
octets_meaning kind.S5Time octets = duration_in octets
octets_meaning (kind.Text most) octets = string_in octets
octets_meaning kind.DateTime octets = date_in octets

-- ---- writing

abbrev pub two_bcd : ℕ → List ℕ
two_bcd n = bcd (n / 100) ∷ bcd (n % 100) ∷ []

-- THE OCTETS of a value in the range of a type; the unused octets of a string are 00
abbrev pub octets_spelling : TagKind → Meaning → List ℕ
octets_spelling kind.Bool (number n) = n ∷ []
octets_spelling kind.Int (signed z) = two_octets (complement 32768 z)
octets_spelling kind.Dint (signed z) = four_octets (complement 2147483648 z)
octets_spelling kind.Bcd (number n) = two_bcd n
octets_spelling kind.S5Time (duration count unit) = (unit * 16 + count / 100) ∷ bcd (count % 100) ∷ []
octets_spelling (kind.Text most) (string room count characters) =
    room ∷ count ∷ (characters ++ replicate (room - length characters) 0x00)
octets_spelling kind.DateTime (date p) = drop 2 (moment_octets (moment_at p))
octets_spelling _ _ = []
