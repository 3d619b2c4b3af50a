use Rattle.std.proofs.Common.{◌≡◌, length, drop}
use Rattle.s7_dialogue.specs.Answer.{item_answers}
use Rattle.s7_dialogue.specs.DataItems.{answers_in}
use Rattle.s7_dialogue.proofs.ItemLemmas.{read_with}
use Rattle.s7_dialogue.proofs.answers.data_items.read_item_answers.Given as goal

-- the answers so far, with those for the items to come, are those for all
abbrev pub invariant-loop-k : goal.invariant-loop-k
invariant-loop-k l = record {
  read : read_with (answers_in l.answers.items) (item_answers (drop l.k l.items) l.rest) ≡ item_answers l.items l.octets;
  many : length l.answers.items ≡ l.k;
}
