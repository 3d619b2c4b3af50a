-- The progress of a job that reads or fills a whole data block, and what the job still has to ask.
use Rattle.std.specs.Prelude.{ℕ, ◌+◌, ◌-◌, ◌/◌, min, Bool, ◌==◌, ◌&&◌, not, nat_lt, nat_le, if◌then◌else◌, List, [], ◌∷◌, ◌++◌, replicate, Option, None, Some, is_some}
use Rattle.std.specs.List.{flat_map}
use Rattle.s7_header.specs.Negotiation.{least_pdu, most_pdu}
use Rattle.s7_szl.specs.Joining.{most_joined}
use Rattle.s7_item.specs.declared.item.Item.{Item}
use Rattle.s7_split.specs.Parts.{parts_of}
use Rattle.s7_dialogue.specs.declared.transfers.data_block.DataBlock.{DataBlock}
use Rattle.s7_dialogue.specs.declared.transfers.data_block.Place.{Place}
use Rattle.s7_dialogue.specs.Codes.{partly_written}
use Rattle.s7_dialogue.specs.DataBlocks.{data_item, data_items_from, data_parts}
use Rattle.s7_dialogue.specs.Question.{Question, reads, writes}
use Rattle.s7_dialogue.specs.Answer.{Answer}
use Rattle.s7_dialogue.specs.Refusals.{part_refusal}
use Rattle.s7_dialogue.specs.Dialogue.{Conduct, read_questions, write_questions, alone, first_refusal, by_refusal, plain_number, fill_number, octets_told, good_end, next_of_data, block_octets}

-- the greatest number of octets of a data block, which is this profile's own
abbrev pub most_data : ℕ
most_data = 2097152

-- ---- places

-- the place at offset `from` with `left` octets left, of which at most 65,535 are in its item
abbrev pub place_from : ℕ → ℕ → Option Place
place_from from left =
    if left == 0 then None
    else Some (record { from = from; here = min 65535 left; later = left - min 65535 left })

-- the place `count` octets further
abbrev pub place_behind : Place → ℕ → Option Place
place_behind place count =
    if nat_lt count place.here
    then Some (record { from = place.from + count; here = place.here - count; later = place.later })
    else place_from (place.from + count) place.later

-- the number of octets left from a place on
abbrev pub octets_behind : Option Place → ℕ
octets_behind None = 0
octets_behind (Some place) = place.here + place.later

-- ---- parts

-- the room of a part in octets: a read's answer has 18 octets besides the part's (Snap7 1.4 sources, s7_types.h:
-- TS7ResHeader23, TResFunReadItem), and a write reserves 35 for its other fields
abbrev pub part_room : DataBlock → ℕ
part_room block = if is_some block.value then block.pdu - 35 else block.pdu - 18

abbrev pub part_count : DataBlock → Place → ℕ
part_count block place = min (part_room block) place.here

-- the item of the part at a place
abbrev pub part_at : DataBlock → Place → Item
part_at block place = data_item block.number place.from (part_count block place)

abbrev pub next_part : DataBlock → Place → Option Place
next_part block place = place_behind place (part_count block place)

-- the items of `left` octets from an offset on
abbrev pub items_behind : ℕ → ℕ → ℕ → List Item
items_behind number from left = data_items_from ((left + 65534) / 65535) number from left

-- the parts of items
abbrev pub parts_of_all : ℕ → Bool → List Item → List Item
parts_of_all pdu write items = flat_map (λ item. parts_of item pdu write) items

-- the parts from a place on
abbrev pub parts_behind : DataBlock → Option Place → List Item
parts_behind block None = []
parts_behind block (Some place) =
    parts_of (data_item block.number place.from place.here) block.pdu (is_some block.value)
    ++ parts_of_all block.pdu (is_some block.value) (items_behind block.number (place.from + place.here) place.later)

-- ---- questions

-- the read of an item, or the write of a value to all its octets
abbrev pub question_for : Option ℕ → Item → Question
question_for None item = reads (item ∷ [])
question_for (Some value) item = writes (item ∷ []) (replicate item.count value)

abbrev pub part_question : DataBlock → Place → Question
part_question block place = question_for block.value (part_at block place)

-- the reads of parts, or the writes of a value to all octets of parts, which have `size` octets in all
abbrev pub questions_for : Option ℕ → List Item → ℕ → List Question
questions_for None parts size = read_questions (alone parts)
questions_for (Some value) parts size = write_questions (alone parts) (replicate size value)

-- the questions from a place on, and all questions
abbrev pub questions_behind : DataBlock → Option Place → List Question
questions_behind block place = questions_for block.value (parts_behind block place) (octets_behind place)

abbrev pub data_questions : DataBlock → ℕ → List Question
data_questions block size =
    questions_for block.value (data_parts block.number size block.pdu (is_some block.value)) size

-- ---- how the questions are asked

-- the octets that the answers of parts give
abbrev pub told_for : Option ℕ → List (Option Answer) → List ℕ
told_for None answers = octets_told answers
told_for (Some value) answers = []

-- the error number of a refusal
abbrev pub number_for : Option ℕ → List (Option Answer) → ℕ → ℕ → ℕ
number_for None answers = plain_number
number_for (Some value) answers = fill_number answers

-- how a job that reads or fills the data block asks its questions
abbrev pub block_conduct : DataBlock → Conduct
block_conduct block = record {
  width = 1;
  question_at = next_of_data (block_octets 0x41 block.number) (data_questions block);
  refusal = part_refusal;
  ended = λ (answers : List (Option Answer)).
      by_refusal (number_for block.value answers) (first_refusal part_refusal 0 answers)
      (good_end (told_for block.value answers) []);
}

-- the error number with which a refusal of the part at a place ends the job; in a write it depends on whether the part
-- is the first
abbrev pub refused_number : DataBlock → Place → ℕ → ℕ
refused_number block place number = if is_some block.value && not (place.from == 0) then partly_written else number

-- ---- the room that is needed

-- the greatest number of octets kept of the answers: those of the head, and then those that are read
abbrev pub room_for_value : Option ℕ → ℕ
room_for_value None = most_data
room_for_value (Some value) = most_joined

-- the number of octets that are read from a place on
abbrev pub comes_for : Option ℕ → ℕ → ℕ
comes_for None left = left
comes_for (Some value) left = 0

abbrev pub has_pdu : DataBlock → Bool
has_pdu block = nat_le least_pdu block.pdu && nat_le block.pdu most_pdu

-- there are octets from a place on, and they are inside the longest data block
abbrev pub is_inside : Place → Bool
is_inside place = nat_lt 0 place.here && nat_le (place.from + place.here + place.later) most_data
