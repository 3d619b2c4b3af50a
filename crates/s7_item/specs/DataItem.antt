-- Data items (Snap7 1.4 sources, s7_types.h: TReqFunWriteDataItem, TResFunReadItem): code, transport size, stated
-- length and octets, and a padding octet if the number of octets is odd and another data item follows (Snap7 1.4
-- sources, s7_micro_client.cpp: TSnap7MicroClient::opReadMultiVars, TSnap7MicroClient::opWriteMultiVars).
use Rattle.std.specs.Prelude.{ℕ, zero, suc, ◌+◌, ◌*◌, ◌/◌, ◌%◌, ◌==◌, ◌||◌, ◌&&◌, Bool, not, nat_lt, if◌then◌else◌, Result, Ok, Err, List, [], ◌∷◌, ◌++◌, length, take, drop, slice_index}
use Rattle.s7_outer.specs.Numbers.{number_of_two, two_octets}
use Rattle.s7_item.specs.Codes.{good, requested, bit_transport}
use Rattle.s7_item.specs.Word.{transport_of, is_transport, counts_bits}
use Rattle.s7_item.specs.declared.places.DataPlace.{DataPlace}
use Rattle.s7_item.specs.declared.read_data.DataFault.{DataFault}
use Rattle.s7_item.specs.declared.read_data.DataFault.TheVariants.{Transport, Short, Rest}

-- the number of octets that a stated length means; a number of bits is rounded up to whole octets
abbrev pub octets_meant : ℕ → ℕ → ℕ
octets_meant transport stated = if counts_bits transport then (stated + 7) / 8 else stated

-- the length stated for n octets: one octet of bits is one bit; otherwise an octet counts as 8 where bits are
-- counted, and as 1 elsewhere (Snap7 1.4 sources, s7_micro_client.cpp: TSnap7MicroClient::opWriteArea)
abbrev pub stated_length : ℕ → ℕ → ℕ
stated_length transport n =
    if transport == bit_transport && n == 1 then 1
    else (if counts_bits transport then 8 * n else n)

-- a data item with this code was read or written
abbrev pub is_good : ℕ → Bool
is_good code = code == good

-- a data item with this code has octets: a good one in an answer, or one in a write request
abbrev pub carries : ℕ → Bool
carries code = is_good code || code == requested

-- the number of padding octets after n octets, by whether the item is the last (Snap7 1.4 sources,
-- s7_micro_client.cpp: TSnap7MicroClient::opReadMultiVars, TSnap7MicroClient::opWriteMultiVars)
abbrev pub padding_of : ℕ → Bool → ℕ
padding_of n last = if last then 0 else n % 2

-- the padding after n octets
abbrev pub padding : ℕ → Bool → List ℕ
padding n last = if padding_of n last == 1 then 0x00 ∷ [] else []

-- the octets before the n octets of a data item: code, transport size, stated length
-- (Snap7 1.4 sources, s7_types.h: TReqFunWriteDataItem, TResFunReadItem)
abbrev pub head_octets : ℕ → ℕ → ℕ → List ℕ
head_octets code word n = code ∷ transport_of word ∷ two_octets (stated_length (transport_of word) n)

-- the octets of a data item as it is written; with a code that refuses the item they are the code and three octets
-- 00
abbrev pub data_item_octets : ℕ → ℕ → List ℕ → Bool → List ℕ
data_item_octets code word octets last =
    if carries code then head_octets code word (length octets) ++ octets ++ padding (length octets) last
    else code ∷ 0x00 ∷ 0x00 ∷ 0x00 ∷ []

-- a data item to be written
pub record DataItem : Type 0 where
  pub code : ℕ
  pub word : ℕ
  pub octets : List ℕ

-- the octets of data items as they are written, one after another
abbrev pub data_octets : List DataItem → List ℕ
data_octets [] = []
data_octets (item ∷ items) =
    data_item_octets item.code item.word item.octets (length items == 0) ++ data_octets items

-- the range of the octets of the data item that begins at offset `at`, or the first refusal. These are tested in
-- order: the octets end before the transport size; the transport size is unknown; the octets end before the length,
-- the item's octets or the padding do
abbrev pub place_in : ℕ → Bool → List ℕ → Result DataPlace DataFault
place_in at last octets =
    let transport = slice_index octets 1 in
    let len = octets_meant transport (number_of_two (slice_index octets 2) (slice_index octets 3)) in
    if nat_lt (length octets) 2 then Err Short
    else (if not (is_transport transport) then Err Transport
    else (if nat_lt (length octets) 4 || nat_lt (length octets) (4 + len + padding_of len last) then Err Short
    else Ok (record { transport = transport; from = at + 4; len = len })))

-- the number of octets of the data item with this range, padding included
abbrev pub span_of : DataPlace → Bool → ℕ
span_of place last = 4 + place.len + padding_of place.len last

-- the other ranges with this one before them, or the refusal of the others
abbrev pub with_place : DataPlace → Result (List DataPlace) DataFault → Result (List DataPlace) DataFault
with_place place (Ok places) = Ok (place ∷ places)
with_place place (Err fault) = Err fault

-- a range and the ranges after it, or the first refusal
abbrev pub then_places : Result DataPlace DataFault → (DataPlace → Result (List DataPlace) DataFault) → Result (List DataPlace) DataFault
then_places (Ok place) others = with_place place (others place)
then_places (Err fault) others = Err fault

-- the ranges of exactly n data items, which begin at offset `at` and use up the octets
abbrev pub places_in : ℕ → ℕ → List ℕ → Result (List DataPlace) DataFault
places_in zero at octets = if length octets == 0 then Ok [] else Err Rest
places_in (suc n) at octets =
    then_places (place_in at (n == 0) octets)
    (λ place. places_in n (at + span_of place (n == 0)) (drop (span_of place (n == 0)) octets))

-- the ranges of n data items in the octets, or the first refusal in the order of the octets
unfoldable pub data_places_of : ℕ → List ℕ → Result (List DataPlace) DataFault
data_places_of n octets = places_in n 0 octets

-- the octets in a range
abbrev pub octets_at : List ℕ → DataPlace → List ℕ
octets_at octets place = take place.len (drop place.from octets)
