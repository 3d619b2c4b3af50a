-- The places that the lines of tag files and of scripts name: KEY and START.
use Rattle.std.specs.Prelude.{ℕ, ◌+◌, ◌*◌, Bool, ◌&&◌, nat_le, take, drop, codes, Option, None, Some, if◌then◌else◌}
use Rattle.std.specs.Str.{bytes_eq}
use Rattle.s7_item.specs.Codes.{data_blocks, flags, inputs, outputs}
use Rattle.s7_text.specs.Lines.{Text}
use Rattle.s7_text.specs.Fields.{number_of, parts_around}

-- an area, and the number of a data block, which is 0 for other areas
pub record Key : Type 0 where
  pub area : ℕ
  pub db : ℕ

abbrev pub up_to : ℕ → ℕ → Option ℕ → Option ℕ
up_to low high None = None
up_to low high (Some n) = if nat_le low n && nat_le n high then Some n else None

abbrev pub block : Option ℕ → Option Key
block None = None
block (Some n) = Some (record { area = data_blocks; db = n })

abbrev pub single : ℕ → Option Key
single area = Some (record { area = area; db = 0 })

-- the area that a field names: PE, PA, MK, or DB and a number from 1 to 65,535
abbrev pub key_of : Text → Option Key
key_of field =
    if bytes_eq (take 2 field) (codes "DB") then block (up_to 1 65535 (number_of (drop 2 field)))
    else (if bytes_eq field (codes "PE") then single inputs
    else (if bytes_eq field (codes "PA") then single outputs
    else (if bytes_eq field (codes "MK") then single flags
    else None)))

-- ---- addresses in an area, in bits

abbrev pub bit_behind : Option ℕ → ℕ → Option ℕ
bit_behind None octet = None
bit_behind (Some bit) octet = Some (octet * 8 + bit)

abbrev pub bit_at : Option ℕ → Option ℕ → Option ℕ
bit_at None bit = None
bit_at (Some octet) bit = bit_behind bit octet

-- the address of an octet and a bit with a point between them
abbrev pub bit_place : Option (Text × Text) → Option ℕ
bit_place None = None
bit_place (Some parts) = bit_at (up_to 0 2097151 (number_of parts.0)) (up_to 0 7 (number_of parts.1))

abbrev pub in_bits : Option ℕ → Option ℕ
in_bits None = None
in_bits (Some octet) = Some (octet * 8)

-- the address that a start names: an octet, or for a bit an octet, a point and a bit
abbrev pub address_of : Bool → Text → Option ℕ
address_of is_bit field = if is_bit then bit_place (parts_around 46 field) else in_bits (up_to 0 2097151 (number_of field))
