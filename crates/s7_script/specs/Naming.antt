-- What an AREAS word names: a data block that is given inline, or a path. A word is inline exactly if it begins with DB
-- and contains =.
use Rattle.std.specs.Prelude.{ℕ, ◌&&◌, nat_le, List, length, take, drop, codes, Option, Some, None, Result, Ok, Err, if◌then◌else◌}
use Rattle.std.specs.Str.{bytes_eq}
use Rattle.hex.specs.Hex.{decode_of}
use Rattle.hex.specs.declared.error.FromHexError.{FromHexError}
use Rattle.s7_area.specs.Registers.{most_octets}
use Rattle.s7_text.specs.Lines.{Text}
use Rattle.s7_text.specs.Fields.{number_of, parts_around}

pub data Named : Type 0 where
  path : Text → Named
  -- one data block with its octets
  block : (number : ℕ) → (octets : List ℕ) → Named
  -- an inline word that can't be read
  faulty : Named

-- the number of a data block
abbrev pub block_number : Option ℕ → Option ℕ
block_number None = None
block_number (Some n) = if nat_le 1 n && nat_le n 65535 then Some n else None

-- the octets of an inline word, if an area may have as many
abbrev pub block_octets : Result (List ℕ) FromHexError → Option (List ℕ)
block_octets (Err e) = None
block_octets (Ok octets) = if nat_le 1 (length octets) && nat_le (length octets) most_octets then Some octets else None

abbrev pub block_with : ℕ → Option (List ℕ) → Named
block_with number None = faulty
block_with number (Some octets) = block number octets

abbrev pub block_named : Option ℕ → Text → Named
block_named None digits = faulty
block_named (Some number) digits = block_with number (block_octets (decode_of digits))

-- the number and the digits of an inline word, before and after its =
abbrev pub inline_parts : Text → Option (Text × Text)
inline_parts word =
    if bytes_eq (take 2 word) (codes "DB") then parts_around 61 (drop 2 word) else None

abbrev pub named_by : Text → Option (Text × Text) → Named
named_by word None = path word
named_by word (Some parts) = block_named (block_number (number_of parts.0)) parts.1

-- WHAT A WORD NAMES
abbrev pub naming : Text → Named
naming word = named_by word (inline_parts word)
