use Rattle.std.proofs.Common.{rules, ◌≡◌, Ok, refl, ◌∙◌, arith}
use Rattle.s7_item.specs.DataItem.{data_places_of}
use Rattle.s7_item.proofs.DataLaws.{are_as_many}
use Rattle.s7_session.proofs.PlaceLemmas.{places_inside}
use Rattle.s7_session.proofs.judge.judge_write.Goals as goal

pub returns-clause-within : goal.returns-clause-within
returns-clause-within c =
    let read : data_places_of c.len.result c.args.body.now ≡ Ok c.read_data_items.new.into = search rules in
    (c.args.pdu, refl, omega arith, are_as_many _ _ _ read ∙ c.len.ensures.len, places_inside _ _ _ read)
