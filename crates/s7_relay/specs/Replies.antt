-- What is answered near.
use Rattle.std.specs.Prelude.{◌≡◌, ℕ, ◌+◌, ◌≤◌, ◌==◌, Bool, if◌then◌else◌, List, [], ◌∷◌, ◌++◌, length, take, drop, slice_index}
use Rattle.s7_item.specs.Codes.{good, read_function, write_function}
use Rattle.s7_item.specs.DataItem.{DataItem, data_item_octets}
use Rattle.s7_item.specs.Sizes.{answer_size}
use Rattle.s7_item.specs.declared.item.Item.{Item}
use Rattle.s7_plant.specs.Answers.{refused}
use Rattle.s7_plant.specs.Replies.{Said, said}
use Rattle.s7_plant.specs.declared.request.Request.{Request}
use Rattle.s7_plant.specs.declared.request.Request.TheVariants.{Read, Write}
use Rattle.s7_dialogue.specs.Codes.{no_fault}
use Rattle.s7_dialogue.specs.declared.job.JobResult.{JobResult}
use Rattle.s7_client.specs.Form.{count_read}
use Rattle.s7_relay.specs.Errors.{error_of, no_function, no_link, too_long}
use Rattle.s7_relay.specs.declared.passage.Passage.{Passage}
use Rattle.s7_relay.specs.declared.passage.Passage.TheVariants as passage

-- ---- far codes and far octets, which are those of the items that travelled, in order

-- the far codes that are left after an item with this near code
abbrev pub rest_codes : ℕ → List ℕ → List ℕ
rest_codes near codes = if near == good then drop 1 codes else codes

-- the far octets that are left after that item
abbrev pub rest_octets : Item → ℕ → List ℕ → List ℕ → List ℕ
rest_octets item near codes octets =
    if near == good then drop (count_read item (slice_index codes 0)) octets else octets

-- the code of an item in the answer: the first of the far codes if it travelled
abbrev pub answered_code : ℕ → List ℕ → ℕ
answered_code near codes = if near == good then slice_index codes 0 else near

-- ---- items that are read

-- an item in the answer: its code, and the first of the far octets if it was read far
abbrev pub answered_item : Item → ℕ → List ℕ → List ℕ → DataItem
answered_item item near codes octets = record {
  code = answered_code near codes;
  word = item.word;
  octets = if near == good then take (count_read item (slice_index codes 0)) octets else [];
}

-- all items of an answer, by their near codes, the far codes and the far octets
abbrev pub answered_items : List Item → List ℕ → List ℕ → List ℕ → List DataItem
answered_items [] near codes octets = []
answered_items (item ∷ items) [] codes octets = []
answered_items (item ∷ items) (code ∷ near) codes octets =
    answered_item item code codes octets
    ∷ answered_items items near (rest_codes code codes) (rest_octets item code codes octets)

-- the octets of an item in an answer: any code but FF is followed by three octets 00
abbrev pub answer_octets : DataItem → Bool → List ℕ
answer_octets item last =
    if item.code == good then data_item_octets good item.word item.octets last
    else item.code ∷ 0x00 ∷ 0x00 ∷ 0x00 ∷ []

-- the octets of several items in an answer, one after another
abbrev pub answers_octets : List DataItem → List ℕ
answers_octets [] = []
answers_octets (item ∷ items) = answer_octets item (length items == 0) ++ answers_octets items

-- ---- items that are written

-- all codes of an answer, by the near codes and the far codes
abbrev pub answered_codes : List ℕ → List ℕ → List ℕ
answered_codes [] codes = []
answered_codes (code ∷ near) codes = answered_code code codes ∷ answered_codes near (rest_codes code codes)

-- ---- replies

-- the reply to a request by its near codes, and the far codes and octets of the items that travelled
abbrev pub reply_with : Request → List ℕ → List ℕ → List ℕ → Said
reply_with (Read items) near codes octets =
    said 0 (read_function ∷ length items ∷ []) (answers_octets (answered_items items near codes octets))
reply_with (Write items places written) near codes octets =
    said 0 (write_function ∷ length items ∷ []) (answered_codes near codes)
reply_with _ near codes octets = refused no_function

-- the return codes in a result
abbrev pub codes_in : JobResult → List ℕ
codes_in result = take result.count result.codes

-- the reply by the result of the far job
abbrev pub reply_by : Request → List ℕ → JobResult → Said
reply_by request near result =
    if result.code == no_fault then reply_with request near (codes_in result) result.octets
    else refused (error_of result.code)

-- THE REPLY to a request with these near codes that got so far
abbrev pub reply_of : Request → List ℕ → Passage → Said
reply_of request near passage.Near = reply_with request near [] []
reply_of request near passage.Undialled = refused no_link
reply_of request near (passage.Unconnected connect) = refused (error_of connect.code)
reply_of request near (passage.Unpacked connect) = refused too_long
reply_of request near (passage.Asked connect result) = reply_by request near result

-- ---- what a reply needs

-- the number of items that travel
abbrev pub codes_wanted : List ℕ → ℕ
codes_wanted [] = 0
codes_wanted (code ∷ near) = (if code == good then 1 else 0) + codes_wanted near

-- the number of octets of the items that were read far
abbrev pub octets_wanted : List Item → List ℕ → List ℕ → ℕ
octets_wanted [] near codes = 0
octets_wanted (item ∷ items) [] codes = 0
octets_wanted (item ∷ items) (code ∷ near) codes =
    (if code == good then count_read item (slice_index codes 0) else 0)
    + octets_wanted items near (rest_codes code codes)

-- there is a near code for each item
abbrev pub AreNear : Request → List ℕ → Type 0
AreNear (Read items) near = length near ≡ length items
AreNear (Write items places octets) near = length near ≡ length items
AreNear _ near = Unit {0}

abbrev pub AreOctetsFor : Request → List ℕ → List ℕ → ℕ → Type 0
AreOctetsFor (Read items) near codes n = n ≡ octets_wanted items near codes
AreOctetsFor _ near codes n = Unit {0}

-- there are as many far codes and far octets as the items that travelled need
pub record AreEnough (request : Request) (near codes octets : List ℕ) : Type 0 where
  pub as_many : length codes ≡ codes_wanted near
  pub as_long : AreOctetsFor request near codes (length octets)

-- a result with code 0 has as many far codes and far octets as the items that travelled need
pub record HasEnough (request : Request) (near : List ℕ) (result : JobResult) : Type 0 where
  pub few : result.code ≡ no_fault → result.count ≤ 20
  pub good : result.code ≡ no_fault → AreEnough request near (codes_in result) result.octets

-- there are as many far codes and far octets as needed, if no item travelled, or if the far job ended with code 0
abbrev pub GivesEnough : Request → List ℕ → Passage → Type 0
GivesEnough request near passage.Near = AreEnough request near [] []
GivesEnough request near passage.Undialled = Unit {0}
GivesEnough request near (passage.Unconnected connect) = Unit {0}
GivesEnough request near (passage.Unpacked connect) = Unit {0}
GivesEnough request near (passage.Asked connect result) = HasEnough request near result

-- the greatest number of octets of an answer's body
abbrev pub most_body : Request → ℕ
most_body (Read items) = answer_size items
most_body (Write items places octets) = length items
most_body _ = 0
