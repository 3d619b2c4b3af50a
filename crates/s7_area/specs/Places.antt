-- The ranges of items, and the octets there (Snap7 1.4 reference manual, `Cli_ReadArea` and `Cli_WriteArea`: areas,
-- word lengths, and start addresses).
use Rattle.std.specs.Prelude.{ℕ, ◌+◌, ◌-◌, ◌*◌, ◌/◌, ◌%◌, ◌^◌, ◌==◌, ◌&&◌, ◌||◌, Bool, not, nat_le, if◌then◌else◌, is_none, List, [], ◌∷◌, ◌++◌, length, take, drop, slice_index, slice_set}
use Rattle.s7_item.specs.Codes.{bits, counters, data_blocks, timers}
use Rattle.s7_item.specs.Item.{octet_count}
use Rattle.s7_item.specs.Word.{size_of}
use Rattle.s7_item.specs.declared.item.Item.{Item}
use Rattle.s7_area.specs.Keys.{is_numbered}
use Rattle.s7_area.specs.declared.key.AreaKey.{AreaKey}

-- exactly one of the two is true
abbrev pub differ : Bool → Bool → Bool
differ a b = if a then not b else b

-- the word length is unknown, a bit's count isn't 1, or exactly one of word length and area is counters, or exactly
-- one is timers
unfoldable pub is_misfit : Item → Bool
is_misfit item =
    is_none (size_of item.word) || (item.word == bits && not (item.count == 1))
    || differ (item.word == counters) (item.area == counters) || differ (item.word == timers) (item.area == timers)

-- the name of the item's area; only data blocks have a number
abbrev pub key_of : Item → AreaKey
key_of item = record { area = item.area; number = if item.area == data_blocks then item.db else 0 }

-- the offset at which the item's range begins: an address of counters and timers counts elements of two octets, and
-- any other address counts bits (Snap7 1.4 sources, s7_types.h: TReqFunReadItem)
abbrev pub start_of : Item → ℕ
start_of item = if is_numbered item.area then item.address * 2 else item.address / 8

-- the range has octets, and all of them lie inside an area of this length
abbrev pub is_inside : Item → ℕ → Bool
is_inside item len = not (item.count == 0) && nat_le (start_of item + octet_count item) len

-- the value of the k-th bit of an octet
abbrev pub bit_of : ℕ → ℕ → ℕ
bit_of octet k = octet / 2 ^ k % 2

-- the octet with its k-th bit turned on or off
abbrev pub with_bit : ℕ → ℕ → Bool → ℕ
with_bit octet k on = octet - bit_of octet k * 2 ^ k + (if on then 2 ^ k else 0)

-- the octets after `octets` was written over them from offset `start` on
abbrev pub put_at : ℕ → List ℕ → List ℕ → List ℕ
put_at start octets old = take start old ++ octets ++ drop (start + length octets) old

-- what the item's range holds
unfoldable pub value_at : Item → List ℕ → List ℕ
value_at item octets =
    if item.word == bits then bit_of (slice_index octets (start_of item)) (item.address % 8) ∷ []
    else take (octet_count item) (drop (start_of item) octets)

-- the octets of an area after a write of these octets to the item's range; any octet but 00 turns a bit on
unfoldable pub changed_at : Item → List ℕ → List ℕ → List ℕ
changed_at item octets old =
    if item.word == bits
    then slice_set old (start_of item)
    (with_bit (slice_index old (start_of item)) (item.address % 8) (not (slice_index octets 0 == 0x00)))
    else put_at (start_of item) octets old
