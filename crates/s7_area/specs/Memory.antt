-- A memory: its areas in the order of their names, its guard, and what items read and write there. The codes are
-- those of items (Snap7 1.4 sources, s7_types.h: TResFunReadItem, TResFunWrite); the order in which they are tested
-- is this profile's own.
use Rattle.std.specs.Prelude.{ℕ, ◌==◌, ◌&&◌, Bool, not, if◌then◌else◌, Option, None, Some, unwrap_or, List, [], length, map}
use Rattle.std.specs.declared.cmp.Ordering.{Ordering}
use Rattle.std.specs.Ordering.{nat_cmp, ordering_then}
use Rattle.std.specs.Map.{lookup, set_value, remove_entry}
use Rattle.std.specs.BTreeMap.{BTreeMap, is_at, insert_entry}
use Rattle.s7_item.specs.Codes.{good, not_allowed, out_of_range, wrong_word, wrong_size, no_area}
use Rattle.s7_item.specs.Item.{octet_count}
use Rattle.s7_item.specs.declared.item.Item.{Item}
use Rattle.s7_area.specs.declared.guard.Guard.{Guard}
use Rattle.s7_area.specs.declared.key.AreaKey.{AreaKey}
use Rattle.s7_area.specs.Guards.{is_read_barred, is_write_barred}
use Rattle.s7_area.specs.Places.{is_misfit, key_of, is_inside, value_at, changed_at}

-- areas: their names and octets
abbrev pub AreaList : Type 0
AreaList = List (AreaKey × List ℕ)

pub record Memory : Type 0 where
  -- the areas, in the order of their names
  pub areas : AreaList
  pub guard : Option Guard

-- no areas and no guard
abbrev pub no_areas : Memory
no_areas = record { areas = []; guard = None }

-- the order of names: by area, and then by number
abbrev pub key_cmp : AreaKey → AreaKey → Ordering
key_cmp a b = ordering_then (nat_cmp a.area b.area) (nat_cmp a.number b.number)

abbrev pub area_octets : Memory → AreaKey → Option (List ℕ)
area_octets m key = lookup (is_at (key_cmp key)) m.areas

-- the memory with one more area
abbrev pub with_area : Memory → AreaKey → List ℕ → Memory
with_area m key octets = record m { areas = insert_entry key_cmp m.areas key octets }

-- the memory without the area of this name
abbrev pub without_area : Memory → AreaKey → Memory
without_area m key = record m { areas = remove_entry (is_at (key_cmp key)) m.areas }

-- the memory with other octets in an area that exists
abbrev pub with_octets : Memory → AreaKey → List ℕ → Memory
with_octets m key octets = record m { areas = set_value (is_at (key_cmp key)) m.areas octets }

-- the name of each area and the number of its octets
abbrev pub lengths_of : AreaList → List (AreaKey × ℕ)
lengths_of areas = map (λ e. (e.0, length e.1)) areas

-- the names and lengths of a memory's areas, which no write changes
abbrev pub shape_of : Memory → List (AreaKey × ℕ)
shape_of m = lengths_of m.areas

-- the code of an item whose area has these octets
abbrev pub code_in : Option (List ℕ) → Item → ℕ
code_in None item = no_area
code_in (Some octets) item = if is_inside item (length octets) then good else out_of_range

-- the code of a read of an item with a right to it
abbrev pub place_code : Memory → Item → ℕ
place_code m item = if is_misfit item then wrong_word else code_in (area_octets m (key_of item)) item

-- the code of a read; the flag says whether there is a right to it
unfoldable pub read_code : Memory → Bool → Item → ℕ
read_code m right item = if is_read_barred m.guard right then not_allowed else place_code m item

-- the octets that a read gives
unfoldable pub read_octets : Memory → Bool → Item → List ℕ
read_octets m right item =
    if read_code m right item == good then value_at item (unwrap_or (area_octets m (key_of item)) []) else []

-- the code of a write with a right to it; wrong_size if the number of octets isn't the item's
abbrev pub put_code : Memory → Item → List ℕ → ℕ
put_code m item octets =
    if place_code m item == good && not (length octets == octet_count item) then wrong_size else place_code m item

-- the code of a write; the flag says whether there is a right to it
unfoldable pub write_code : Memory → Bool → Item → List ℕ → ℕ
write_code m right item octets =
    if is_write_barred m.guard right then not_allowed else put_code m item octets

-- the memory after a write
unfoldable pub written : Memory → Bool → Item → List ℕ → Memory
written m right item octets =
    if write_code m right item octets == good
    then with_octets m (key_of item) (changed_at item octets (unwrap_or (area_octets m (key_of item)) []))
    else m

-- the entries of a map; none if it wasn't made yet
abbrev pub entries_of : Option (BTreeMap AreaKey (List ℕ)) → AreaList
entries_of None = []
entries_of (Some map) = map.entries

-- the memory of such a map with this guard
abbrev pub memory_of : Option (BTreeMap AreaKey (List ℕ)) → Option Guard → Memory
memory_of map guard = record { areas = entries_of map; guard = guard }
