-- Data items (Snap7 1.4 sources, s7_types.h: TReqFunWriteDataItem, TResFunReadItem) that are written are read back.
-- Octets are read as data items exactly if they spell data items.
use Rattle.std.specs.Prelude.{◌≡◌, ℕ, ◌+◌, ◌<◌, ◌==◌, Bool, true, IsTrue, IsSome, Ok, List, [], ◌∷◌, ◌++◌, length, map, ◌↔◌}
use Rattle.std.specs.List.{AllByRecursion}
use Rattle.s7_outer.specs.Numbers.{number_of_two}
use Rattle.s7_item.specs.Word.{size_of, transport_of, is_transport}
use Rattle.s7_item.specs.DataItem.{carries, stated_length, octets_meant, padding_of, DataItem, data_octets, span_of, data_places_of, octets_at}
use Rattle.s7_item.specs.declared.places.DataPlace.{DataPlace}

-- the item has octets, its word length is known, and the stated length fits two octets
pub record HasOctets (item : DataItem) : Type 0 where
  pub carried : IsTrue (carries item.code)
  pub known : IsSome (size_of item.word)
  pub fits : stated_length (transport_of item.word) (length item.octets) < 65536

-- the range of a data item's octets, if the item begins at offset `at`
abbrev pub place_of : ℕ → DataItem → DataPlace
place_of at item = record { transport = transport_of item.word; from = at + 4; len = length item.octets }

-- the ranges of the octets of data items that are written from offset `at` on
abbrev pub places_of : ℕ → List DataItem → List DataPlace
places_of at [] = []
places_of at (item ∷ items) =
    place_of at item ∷ places_of (at + span_of (place_of at item) (length items == 0)) items

-- what is written for data items with octets is read as their ranges, and these ranges have their octets
pub record ReadsBack (items : List DataItem) : Type 0 where
  pub places : data_places_of (length items) (data_octets items) ≡ Ok (places_of 0 items)
  pub octets : map (octets_at (data_octets items)) (places_of 0 items) ≡ map (λ (item : DataItem). item.octets) items

abbrev pub DataItemsReadBack : Type 0
DataItemsReadBack = (items : List DataItem) → AllByRecursion HasOctets items → ReadsBack items

-- the octets begin with a data item whose octets have this range, and the rest follows; `last` says whether it is
-- the last. The code and the padding octet may be anything; the transport size is that of the range, and the stated
-- length means its number of octets
pub record Begins (at : ℕ) (last : Bool) (place : DataPlace) (octets rest : List ℕ) : Type 0 where
  pub code : ℕ
  pub high : ℕ
  pub low : ℕ
  pub body : List ℕ
  pub pad : List ℕ
  pub transport : is_transport place.transport ≡ true
  pub from : place.from ≡ at + 4
  pub meant : octets_meant place.transport (number_of_two high low) ≡ place.len
  pub long : length body ≡ place.len
  pub padded : length pad ≡ padding_of place.len last
  pub spelled : octets ≡ code ∷ place.transport ∷ high ∷ low ∷ body ++ pad ++ rest

-- the octets from offset `at` on are data items whose octets have these ranges, and nothing more
abbrev pub SpellsData : ℕ → List ℕ → List DataPlace → Type 0
SpellsData at octets [] = octets ≡ []
SpellsData at octets (place ∷ places) =
    (rest : List ℕ) × Begins at (length places == 0) place octets rest
    × SpellsData (at + span_of place (length places == 0)) rest places

-- octets are read as data items with these ranges exactly if they spell such data items
abbrev pub DataItemsAreExact : Type 0
DataItemsAreExact =
    (octets : List ℕ) (places : List DataPlace)
    → (data_places_of (length places) octets ≡ Ok places) ↔ SpellsData 0 octets places

-- if octets are read as n data items, there are n ranges
abbrev pub AreAsMany : Type 0
AreAsMany =
    (n : ℕ) (octets : List ℕ) (places : List DataPlace)
    → data_places_of n octets ≡ Ok places → length places ≡ n
