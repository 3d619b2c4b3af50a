-- How an item that is too long for a telegram is split into parts (Snap7 1.4 reference manual, `Cli_ReadArea` and
-- `Cli_WriteArea`, which split what doesn't fit the PDU).
use Rattle.std.specs.Prelude.{◌≡◌, ℕ, zero, suc, ◌+◌, ◌-◌, ◌*◌, ◌/◌, ◌^◌, ◌<◌, ◌≤◌, ◌==◌, ◌||◌, min, Bool, true, if◌then◌else◌, IsSome, List, [], ◌∷◌, ◌↔◌}
use Rattle.std.specs.List.{AllByRecursion}
use Rattle.s7_item.specs.Word.{size_of}
use Rattle.s7_item.specs.declared.item.Item.{Item}
use Rattle.s7_split.specs.Fits.{size, fits}

-- counters and timers are addressed by their number, all other areas by octet and bit (Snap7 1.4 sources,
-- s7_types.h: TReqFunReadItem)
abbrev pub is_numbered : ℕ → Bool
is_numbered area = area == 0x1C || area == 0x1D

-- how much the address rises from one element to the next
abbrev pub step : Item → ℕ
step item = if is_numbered item.area then 1 else 8 * size item

-- the address after the item's last element
abbrev pub address_after : Item → ℕ
address_after item = item.address + item.count * step item

-- the first address after the item's range: a number for counters and timers, the next bit for a bit, and else the
-- first bit of the octet after the last one, whichever bit the item's address names
abbrev pub range_end : Item → ℕ
range_end item =
    if is_numbered item.area then item.address + item.count
    else (if item.word == 0x01 then item.address + 1
    else 8 * (item.address / 8 + item.count * size item))

-- The item can be split: its word length is known, it has elements, exactly one if they are bits, and its range
-- ends inside the address field.
pub record CanBeSplit (item : Item) : Type 0 where
  pub known : IsSome (size_of item.word)
  pub some : 0 < item.count
  pub bit : item.word ≡ 0x01 → item.count ≡ 1
  pub inside : range_end item ≤ 2 ^ 24

-- the greatest number of elements of a part: a read's answer has 18 octets besides them (Snap7 1.4 sources,
-- s7_types.h: TS7ResHeader23, TResFunReadItem), and a write reserves 35 octets for its other fields
abbrev pub room_of : Item → ℕ → Bool → ℕ
room_of item pdu write = (if write then pdu - 35 else pdu - 18) / size item

-- the item of `count` elements of this one, beginning with the element of index `from`
abbrev pub elements : Item → ℕ → ℕ → Item
elements item from count = record {
  area = item.area;
  db = item.db;
  word = item.word;
  count = count;
  address = item.address + from * step item;
}

-- a number of parts from an element on; each has as many elements as there is room for and as are left
abbrev pub parts_from : ℕ → ℕ → Item → ℕ → List Item
parts_from zero room item from = []
parts_from (suc n) room item from =
    elements item from (min room (item.count - from))
    ∷ parts_from n room item (from + min room (item.count - from))

-- the parts of an item of at least one element
unfoldable pub parts_of : Item → ℕ → Bool → List Item
parts_of item pdu write =
    parts_from ((item.count - 1) / room_of item pdu write + 1) (room_of item pdu write) item 0

-- an item of the same area, data block and word length, with at least one element
pub record IsAlike (item part : Item) : Type 0 where
  pub area : part.area ≡ item.area
  pub db : part.db ≡ item.db
  pub word : part.word ≡ item.word
  pub some : 0 < part.count

-- the items adjoin: the first has this address, and each other one the address after the one before
abbrev pub Adjoin : ℕ → List Item → Type 0
Adjoin address [] = Unit {0}
Adjoin address (part ∷ parts) = (part.address ≡ address) × Adjoin (address_after part) parts

-- the number of elements of all items together
abbrev pub count_of : List Item → ℕ
count_of [] = 0
count_of (part ∷ parts) = part.count + count_of parts

-- each item has exactly as many elements as there is room for; the last has at most that number
abbrev pub AreFilled : ℕ → List Item → Type 0
AreFilled room [] = Unit {0}
AreFilled room (part ∷ []) = part.count ≤ room
AreFilled room (part ∷ next ∷ parts) = (part.count ≡ room) × AreFilled room (next ∷ parts)

-- The items are the parts of an item: they are alike and not empty, they adjoin from its address on, together they
-- have its elements, and each but the last has as many as there is room for.
pub record AreParts (item : Item) (pdu : ℕ) (write : Bool) (parts : List Item) : Type 0 where
  pub alike : AllByRecursion (IsAlike item) parts
  pub adjoin : Adjoin item.address parts
  pub whole : count_of parts ≡ item.count
  pub filled : AreFilled (room_of item pdu write) parts

-- A part can be asked for: request and answer fit the PDU length, and its range ends inside the
-- address field.
pub record CanBeAsked (pdu : ℕ) (write : Bool) (part : Item) : Type 0 where
  pub fits : fits pdu write (part ∷ []) ≡ true
  pub address : part.address < 2 ^ 24
  pub inside : range_end part ≤ 2 ^ 24

-- `AreParts` holds of what `parts_of` gives, and of nothing else
abbrev pub PartsAreExact : Type 0
PartsAreExact =
    (item : Item) (pdu : ℕ) (write : Bool) (parts : List Item) → CanBeSplit item → 64 ≤ pdu
    → (parts ≡ parts_of item pdu write) ↔ AreParts item pdu write parts

-- each part can be asked for
abbrev pub PartsCanBeAsked : Type 0
PartsCanBeAsked =
    (item : Item) (pdu : ℕ) (write : Bool) → CanBeSplit item → 64 ≤ pdu
    → AllByRecursion (CanBeAsked pdu write) (parts_of item pdu write)
