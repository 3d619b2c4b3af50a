-- The texts of tag values.
use Rattle.std.specs.Prelude.{◌≡◌, ℕ, Bool, ◌&&◌, ◌||◌, nat_le, nat_lt, if◌then◌else◌, List, [], ◌∷◌, ◌++◌, length, codes, Option, None, Some, option_map, Result, Ok, Err}
use Rattle.std.specs.List.{list_all}
use Rattle.std.specs.Result.{result_unwrap_or}
use Rattle.std.specs.Fmt.{decimal}
use Rattle.std.specs.Str.{bytes_eq}
use Rattle.hex.specs.Hex.{decode_of, encode_lower}
use Rattle.hex.specs.declared.error.FromHexError.{FromHexError}
use Rattle.s7_text.specs.Lines.{Text}
use Rattle.s7_text.specs.Fields.{parts_around}
use Rattle.s7_text.specs.Moments.{date_named, date_text}
use Rattle.s7_symbol.specs.declared.numbers.Signed.{Signed}
use Rattle.s7_symbol.specs.Numbers.{plain_number, signed_number}
use Rattle.s7_symbol.specs.Meanings.{Meaning, number, signed, duration, string, date}
use Rattle.s7_symbol.specs.declared.kind.TagKind.{TagKind}
use Rattle.s7_symbol.specs.declared.kind.TagKind.TheVariants as kind

-- ---- reading

-- two numbers with a point between them
abbrev pub with_unit : Option ℕ → ℕ → Option Meaning
with_unit None count = None
with_unit (Some unit) count = Some (duration count unit)

abbrev pub counted : Option ℕ → Option ℕ → Option Meaning
counted None unit = None
counted (Some count) unit = with_unit unit count

abbrev pub duration_of : Option (Text × Text) → Option Meaning
duration_of None = None
duration_of (Some parts) = counted (plain_number parts.0) (plain_number parts.1)

-- a hexadecimal digit in lower case
abbrev pub is_lower_digit : ℕ → Bool
is_lower_digit b = (nat_le 48 b && nat_le b 57) || (nat_le 97 b && nat_le b 102)

abbrev pub or_none : Result (List ℕ) FromHexError → Option (List ℕ)
or_none (Ok octets) = Some octets
or_none (Err e) = None

-- `-` for no characters, otherwise their octets in pairs of such digits
abbrev pub characters_in : Text → Option (List ℕ)
characters_in text =
    if bytes_eq text (codes "-") then Some []
    else (if nat_lt 0 (length text) && list_all is_lower_digit text then or_none (decode_of text) else None)

-- the octets of pairs of digits
abbrev pub decoded : List ℕ → List ℕ
decoded digits = result_unwrap_or (decode_of digits) []

-- these are the digits of the characters that a text writes
pub record AreDigitsOf (digits : List ℕ) (text : Text) : Type 0 where
  pub characters : List ℕ
  pub decoded : decode_of digits ≡ Ok characters
  pub said : characters_in text ≡ Some characters

abbrev pub string_for : ℕ → List ℕ → Meaning
string_for room characters = string room (length characters) characters

-- THE MEANING OF A TEXT for a type, whether or not it is in the type's range; `None` if it writes no value of the type
abbrev pub text_meaning : TagKind → Text → Option Meaning
text_meaning kind.Bool text = option_map number (plain_number text)
text_meaning kind.Int text = option_map signed (signed_number text)
text_meaning kind.Dint text = option_map signed (signed_number text)
text_meaning kind.Bcd text = option_map number (plain_number text)
text_meaning kind.S5Time text = duration_of (parts_around 46 text)
text_meaning (kind.Text most) text = option_map (string_for most) (characters_in text)
text_meaning kind.DateTime text = option_map date (date_named text)

-- ---- writing

abbrev pub signed_text : Signed → Text
signed_text z = if z.is_negative then 45 ∷ decimal z.size else decimal z.size

abbrev pub characters_text : List ℕ → Text
characters_text [] = codes "-"
characters_text (c ∷ cs) = encode_lower (c ∷ cs)

-- THE TEXT of a value
abbrev pub text_spelling : Meaning → Text
text_spelling (number n) = decimal n
text_spelling (signed z) = signed_text z
text_spelling (duration count unit) = decimal count ++ 46 ∷ decimal unit
text_spelling (string room count characters) = characters_text characters
text_spelling (date p) = date_text p
