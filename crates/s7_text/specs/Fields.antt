-- The fields of a line, separated by one space, and the numbers among them.
use Rattle.std.specs.Prelude.{ℕ, Bool, ◌==◌, ◌&&◌, ◌+◌, nat_lt, nat_le, length, take, drop, Option, Some, None, if◌then◌else◌}
use Rattle.std.specs.List.{list_all, position}
use Rattle.std.specs.Char.{is_ascii_digit}
use Rattle.std.specs.Str.Parse.{digits_value}
use Rattle.s7_text.specs.Lines.{Text}

abbrev pub is_space : ℕ → Bool
is_space b = b == 32

-- the field before the first space
abbrev pub first_field : Text → Option ℕ → Text
first_field text None = text
first_field text (Some end) = take end text

-- the fields after the first space
abbrev pub fields_after : Text → Option ℕ → Option Text
fields_after text None = None
fields_after text (Some end) = Some (drop (end + 1) text)

-- the first field of a line
abbrev pub field_of : Text → Text
field_of text = first_field text (position is_space text)

-- the fields after the first field, without the space between them
abbrev pub rest_of : Text → Option Text
rest_of text = fields_after text (position is_space text)

-- the octets before and after an index of a text
abbrev pub parts_at : Text → Option ℕ → Option (Text × Text)
parts_at text None = None
parts_at text (Some place) = Some (take place text, drop (place + 1) text)

-- the octets before and after the first octet of this value
abbrev pub parts_around : ℕ → Text → Option (Text × Text)
parts_around mark text = parts_at text (position (λ b. b == mark) text)

-- the number in one to ten decimal digits
abbrev pub number_of : Text → Option ℕ
number_of text =
    if (nat_lt 0 (length text) && nat_le (length text) 10) && list_all is_ascii_digit text
    then Some (digits_value 10 text) else None
