-- Laws of reads and writes, and of areas that are added.
use Rattle.std.specs.Prelude.{◌≡◌, ℕ, ◌+◌, ◌%◌, ◌<◌, ◌≤◌, ◌==◌, Bool, true, false, if◌then◌else◌, List, length, None}
use Rattle.std.specs.Cmp.{IsTotalOrder}
use Rattle.std.specs.List.Sorted.{IsStrictlySortedBy}
use Rattle.std.specs.Map.{keys_of}
use Rattle.s7_item.specs.Codes.{good, bits}
use Rattle.s7_item.specs.declared.item.Item.{Item}
use Rattle.s7_area.specs.Places.{bit_of, with_bit}
use Rattle.s7_area.specs.Keys.{is_key, is_numbered}
use Rattle.s7_area.specs.Memory.{Memory, key_cmp, area_octets, with_area, shape_of, read_code, read_octets, write_code, written}
use Rattle.s7_area.specs.Registers.{most_octets, most_in_all, total_of, is_wrong_size, is_db_too_many, fault_of}
use Rattle.s7_area.specs.declared.key.AreaKey.{AreaKey}

-- a bit that was turned on or off is on or off afterwards, and every other bit of the octet stays
abbrev pub BitsStandAlone : Type 0
BitsStandAlone =
    (octet k j : ℕ) (on : Bool) → octet < 256 → k < 8 → j < 8
    → bit_of (with_bit octet k on) j ≡ (if j == k then (if on then 1 else 0) else bit_of octet j)

-- a read of the same item, with the same right, gives the octets that a write with code FF wrote, unless the item is a
-- bit
abbrev pub WrittenIsRead : Type 0
WrittenIsRead =
    (m : Memory) (right : Bool) (item : Item) (octets : List ℕ)
    → (item.word == bits) ≡ false → write_code m right item octets ≡ good
    → (read_code (written m right item octets) right item ≡ good)
    × (read_octets (written m right item octets) right item ≡ octets)

-- a write leaves the names of the areas and their lengths unchanged
abbrev pub WritesKeepTheShape : Type 0
WritesKeepTheShape =
    (m : Memory) (right : Bool) (item : Item) (octets : List ℕ) → shape_of (written m right item octets) ≡ shape_of m

-- an area of this name and length may be added
pub record IsFaultless (m : Memory) (key : AreaKey) (len : ℕ) : Type 0 where
  pub name : is_key key ≡ true
  pub size : is_wrong_size m key len ≡ false
  pub some : 0 < len
  pub most : len ≤ most_octets
  pub even : is_numbered key.area ≡ true → len % 2 ≡ 0
  pub fits : total_of m + len ≤ most_in_all
  pub absent : area_octets m key ≡ None
  pub few : is_db_too_many m key ≡ false

-- names have a total order; an area that is added adds its octets to the total; and an area without a fault is as
-- `IsFaultless` states
pub record AreasJoin : Type 0 where
  pub ordered : IsTotalOrder key_cmp
  pub total :
      (m : Memory) (key : AreaKey) (octets : List ℕ)
      → IsStrictlySortedBy key_cmp (keys_of m.areas) → area_octets m key ≡ None
      → total_of (with_area m key octets) ≡ total_of m + length octets
  pub faultless : (m : Memory) (key : AreaKey) (len : ℕ) → fault_of m key len ≡ None → IsFaultless m key len
