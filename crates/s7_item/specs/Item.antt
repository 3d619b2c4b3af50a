-- Items and their octets (Snap7 1.4 sources, s7_types.h: TReqFunReadItem).
use Rattle.std.specs.Prelude.{ℕ, ◌*◌, ◌==◌, ◌&&◌, if◌then◌else◌, Option, Some, None, unwrap_or, List, ◌∷◌, ◌++◌, slice_index}
use Rattle.s7_outer.specs.Numbers.{number_of_two, number_of_three, two_octets, three_octets}
use Rattle.s7_item.specs.Word.{size_of}
use Rattle.s7_item.specs.declared.item.Item.{Item}

-- the twelve octets of an item: 12 0A 10, word length, count, number of the data block, area, address
abbrev pub item_octets : Item → List ℕ
item_octets item =
    0x12 ∷ 0x0A ∷ 0x10 ∷ item.word ∷ two_octets item.count ++ two_octets item.db
    ++ item.area ∷ three_octets item.address

-- the item that twelve octets spell, if they begin 12 0A 10
abbrev pub item_in : List ℕ → Option Item
item_in octets =
    if slice_index octets 0 == 0x12 && slice_index octets 1 == 0x0A && slice_index octets 2 == 0x10
    then Some (record {
      word = slice_index octets 3;
      count = number_of_two (slice_index octets 4) (slice_index octets 5);
      db = number_of_two (slice_index octets 6) (slice_index octets 7);
      area = slice_index octets 8;
      address = number_of_three (slice_index octets 9) (slice_index octets 10) (slice_index octets 11);
    })
    else None

-- the number of octets of all elements of the item together; 0 if its word length is unknown
abbrev pub octet_count : Item → ℕ
octet_count item = item.count * unwrap_or (size_of item.word) 0
