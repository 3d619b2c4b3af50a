-- The data items of a read's answer (Snap7 1.4 sources, s7_types.h: TResFunReadItem), taken one after another.
use Rattle.std.specs.Prelude.{◌+◌, Bool, List, [], map, take, drop, slice_index, ℕ, Option, None, Some, if◌then◌else◌}
use Rattle.s7_item.specs.declared.item.Item.{Item}
use Rattle.s7_item.specs.Item.{octet_count}
use Rattle.s7_item.specs.DataItem.{padding_of}
use Rattle.s7_dialogue.specs.declared.answers.data_items.First.{First as Taken}
use Rattle.s7_dialogue.specs.declared.answers.data_items.ItemAnswer.{ItemAnswer as Kept}
use Rattle.s7_dialogue.specs.Answer.{ItemAnswer, begins_read, begins_refused}

-- the answer for an item that a value of the code represents, and the answers for several items
abbrev pub answer_in : Kept → ItemAnswer
answer_in kept = record { code = kept.code; octets = kept.octets.now }

abbrev pub answers_in : List Kept → List ItemAnswer
answers_in kept = map answer_in kept

-- the answer in a data item, and the octets that follow it
pub record First : Type 0 where
  pub answer : ItemAnswer
  pub rest : List ℕ

-- the data item for this item at the beginning of the octets, if there is one; the flag says whether it is the last
abbrev pub first_of : Item → Bool → List ℕ → Option First
first_of item last octets =
    if begins_read item last octets
    then Some (record {
      answer = record { code = 0xFF; octets = take (octet_count item) (drop 4 octets) };
      rest = drop (4 + octet_count item + padding_of (octet_count item) last) octets;
    })
    else (if begins_refused octets
    then Some (record { answer = record { code = slice_index octets 0; octets = [] }; rest = drop 4 octets })
    else None)

-- the first data item that a value of the code represents
abbrev pub first_told : Taken → First
first_told taken = record { answer = answer_in taken.answer; rest = taken.rest.now }
