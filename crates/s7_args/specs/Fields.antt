-- Fields of commands, and the numbers and texts that were given for them.
use Rattle.std.specs.Prelude.{ℕ, true, false, codes, Option, Some, None, option_map, unwrap_or}
use Rattle.s7_args.specs.CommandLine.{Text, Field, Given, number_of, value_of}

-- a required operand
abbrev pub operand : Text → Field
operand name = record { name = name; range = None; is_required = true; is_many = false }

-- operands, at least one of which is required
abbrev pub operands : Text → Field
operands name = record { name = name; range = None; is_required = true; is_many = true }

-- an optional operand
abbrev pub optional : Text → Field
optional name = record { name = name; range = None; is_required = false; is_many = false }

-- a required operand of a number from low to high
abbrev pub numeral : Text → ℕ → ℕ → Field
numeral name low high = record { name = name; range = Some (low, high); is_required = true; is_many = false }

-- an option of any text
abbrev pub text : Text → Field
text name = record { name = name; range = None; is_required = false; is_many = false }

-- an option of a number from low to high
abbrev pub number : Text → ℕ → ℕ → Field
number name low high =
    record { name = name; range = Some (low, high); is_required = false; is_many = false }

-- the areas, which several commands take
abbrev pub areas : Field
areas = operand (codes "AREAS")

-- the TCP port, of the server or of the controller
abbrev pub port : Field
port = number (codes "port") 1 65535

-- the greatest number of entries in the journal
abbrev pub journal : Field
journal = number (codes "journal") 1 262144

-- ---- what was given, or the default

abbrev pub number_given : Given → Field → Option ℕ
number_given given f = option_map number_of (value_of given f.name)

abbrev pub number_or : Given → Field → ℕ → ℕ
number_or given f default = unwrap_or (number_given given f) default

abbrev pub text_or : Given → Field → Text → Text
text_or given f default = unwrap_or (value_of given f.name) default
