-- What a client's write of items asks of the plant, and the codes in the answer.
use Rattle.std.specs.Prelude.{ℕ, Bool, List, [], ◌∷◌, take, drop}
use Rattle.s7_item.specs.declared.item.Item.{Item}
use Rattle.s7_item.specs.declared.places.DataPlace.{DataPlace}
use Rattle.s7_item.specs.Item.{octet_count}
use Rattle.s7_item.specs.DataItem.{data_octets}
use Rattle.s7_item.specs.DataLaws.{places_of}
use Rattle.s7_area.specs.Memory.{Memory, write_code}
use Rattle.s7_plant.specs.declared.request.Request.{Request}
use Rattle.s7_plant.specs.declared.request.Request.TheVariants.{Write}
use Rattle.s7_dialogue.specs.Question.{written}

-- the data of a write, the ranges of the items' octets in it, and the request
abbrev pub own_data : List Item → List ℕ → List ℕ
own_data items octets = data_octets (written items octets)

abbrev pub own_places : List Item → List ℕ → List DataPlace
own_places items octets = places_of 0 (written items octets)

abbrev pub own_write : List Item → List ℕ → Request
own_write items octets = Write items (own_places items octets) (own_data items octets)

-- the code of each item, written with its own share of the octets
abbrev pub own_codes : Memory → Bool → List Item → List ℕ → List ℕ
own_codes m right [] octets = []
own_codes m right (item ∷ items) octets =
    write_code m right item (take (octet_count item) octets) ∷ own_codes m right items (drop (octet_count item) octets)
