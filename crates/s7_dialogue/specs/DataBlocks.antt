-- Whole data blocks, as a client reads and fills them. A data block's head states its number of octets (Snap7 1.4
-- reference manual, `Cli_DBGet`, `Cli_DBFill`). They are read or written item by item.
use Rattle.std.specs.Prelude.{ℕ, zero, suc, ◌+◌, ◌-◌, ◌*◌, ◌/◌, min, ◌==◌, ◌&&◌, nat_le, Bool, List, [], ◌∷◌, length}
use Rattle.std.specs.List.{flat_map}
use Rattle.s7_item.specs.declared.item.Item.{Item}
use Rattle.s7_block.specs.Heads.{four_at}
use Rattle.s7_split.specs.Parts.{parts_of}

-- The answer is the head of a data block of 1 to 2,097,152 octets: `30`, the kind and `00 22` come before the head,
-- and its load length counts its own 36 octets too. The layout is this profile's own, after Snap7 1.4 sources,
-- s7_types.h: TResDataBlockInfo.
abbrev pub tells_data : List ℕ → Bool
tells_data octets = length octets == 40 && (nat_le 37 (four_at octets 12) && nat_le (four_at octets 12) 2097188)

-- the number of octets of the data block with this head
abbrev pub data_length : List ℕ → ℕ
data_length octets = four_at octets 12 - 36

-- an item of `count` bytes of a data block from an offset on (Snap7 1.4 sources, s7_types.h: TReqFunReadItem)
abbrev pub data_item : ℕ → ℕ → ℕ → Item
data_item number from count = record { area = 0x84; db = number; word = 0x02; count = count; address = 8 * from }

-- a number of items from an offset on, after which `left` octets are left: each has 65,535 bytes, and the last has
-- the rest
abbrev pub data_items_from : ℕ → ℕ → ℕ → ℕ → List Item
data_items_from zero number from left = []
data_items_from (suc n) number from left =
    data_item number from (min 65535 left) ∷ data_items_from n number (from + min 65535 left) (left - min 65535 left)

-- the items of a data block of `size` octets
abbrev pub data_items : ℕ → ℕ → List Item
data_items number size = data_items_from ((size + 65534) / 65535) number 0 size

-- THE PARTS of a whole data block: those of each item, in order
abbrev pub data_parts : ℕ → ℕ → ℕ → Bool → List Item
data_parts number size pdu write = flat_map (λ item. parts_of item pdu write) (data_items number size)
