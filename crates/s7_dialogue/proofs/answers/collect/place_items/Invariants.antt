use Rattle.std.specs.Iterator.Adapters.{zip_first, zip_second}
use Rattle.std.specs.Slice.Iter.{iter_rest}
use Rattle.s7_dialogue.specs.DataItems.{answers_in}
use Rattle.s7_dialogue.specs.Taking.{with_codes, with_octets}
use Rattle.s7_dialogue.proofs.ItemLemmas.{IsPlaced, codes_told}
use Rattle.s7_dialogue.proofs.answers.collect.place_items.Given as goal

-- what was placed so far, with what is to come, is all
abbrev pub invariant-loop-item : goal.invariant-loop-item
invariant-loop-item l =
    let items = iter_rest (zip_first l.initial.item-iterator) in
    let answers = answers_in (iter_rest (zip_second l.initial.item-iterator)) in
    IsPlaced (iter_rest (zip_first l.item-iterator)) (iter_rest (zip_second l.item-iterator)) l.at l.next
    18446744073709551615 l.found l.codes (with_octets l.initial.at items answers l.initial.found)
    (with_codes l.initial.next (codes_told answers) l.initial.codes)
