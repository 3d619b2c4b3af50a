-- Windows: near areas that are parts of areas of another server. The codes with which items are refused near are those
-- of items (Snap7 1.4 sources, s7_types.h: TResFunReadItem, TResFunWrite), in the order in which an area refuses them.
use Rattle.std.specs.Prelude.{ℕ, ◌+◌, ◌*◌, ◌==◌, ◌&&◌, not, if◌then◌else◌, Option, None, Some, List, [], ◌∷◌, find, length}
use Rattle.s7_item.specs.Codes.{good, no_area, out_of_range, wrong_size, wrong_word}
use Rattle.s7_item.specs.DataItem.{octets_at}
use Rattle.s7_item.specs.Item.{octet_count}
use Rattle.s7_item.specs.declared.item.Item.{Item}
use Rattle.s7_item.specs.declared.places.DataPlace.{DataPlace}
use Rattle.s7_area.specs.Places.{is_inside, is_misfit, key_of}
use Rattle.s7_area.specs.declared.key.AreaKey.{AreaKey}
use Rattle.s7_relay.specs.Keys.{same_key}
use Rattle.s7_relay.specs.declared.windows.Window.{Window}

-- THE WINDOW of a near area: the first one that has this near area
abbrev pub window_of : List Window → AreaKey → Option Window
window_of windows key = find (λ (w : Window). same_key w.near key) windows

-- ---- codes near

abbrev pub code_in : Option Window → Item → ℕ
code_in None item = no_area
code_in (Some w) item = if is_inside item w.length then good else out_of_range

-- THE NEAR CODE of an item that is read: FF if the item is inside its window
abbrev pub near_code : List Window → Item → ℕ
near_code windows item =
    if is_misfit item then wrong_word else code_in (window_of windows (key_of item)) item

-- the near code of an item that is written: that of a read, or 07 if that is FF and the number of octets isn't the
-- item's
abbrev pub near_put_code : List Window → Item → List ℕ → ℕ
near_put_code windows item octets =
    if near_code windows item == good && not (length octets == octet_count item) then wrong_size
    else near_code windows item

-- the near codes of items that are written with the octets at these places
abbrev pub put_codes : List Window → List Item → List DataPlace → List ℕ → List ℕ
put_codes windows [] places octets = []
put_codes windows (item ∷ items) [] octets = []
put_codes windows (item ∷ items) (place ∷ places) octets =
    near_put_code windows item (octets_at octets place) ∷ put_codes windows items places octets

-- ---- items far

-- the item in the far area, further on by the window's offset; an address counts bits, eight for an octet
abbrev pub moved : Window → Item → Item
moved w item = record {
  area = w.far.area;
  db = w.far.number;
  word = item.word;
  count = item.count;
  address = item.address + 8 * w.offset;
}

abbrev pub moved_by : Option Window → Item → Item
moved_by None item = item
moved_by (Some w) item = moved w item

-- THE FAR ITEM of an item that is inside its window
abbrev pub far_item : List Window → Item → Item
far_item windows item = moved_by (window_of windows (key_of item)) item
