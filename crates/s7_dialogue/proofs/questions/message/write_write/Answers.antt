use Rattle.std.proofs.Common.{◌-◌, ◌++◌, ◌∙◌, ap}
use Rattle.std.proofs.Math.Path.{ap₂}
use Rattle.s7_item.specs.DataItem.{data_octets}
use Rattle.s7_dialogue.specs.Question.{written}
use Rattle.s7_dialogue.proofs.MessageLemmas.{write_spelled}
use Rattle.s7_dialogue.proofs.questions.message.write_write.Goals as goal

pub returns-clause-octets : goal.returns-clause-octets
returns-clause-octets c =
    let front = c.begin_items.new.message.octets in
    let items = c.args.items.now in
    let octets = c.args.octets.now in
    write_spelled c.args.sequence _ items octets front c.add_data_items.new.message.octets c.requires.all
    (ap₂ (λ a b. a - b) c.request_size.ensures c.request_size-2.ensures) c.begin_items.ensures.octets
    (c.add_data_items.ensures.octets ∙ ap (λ xs. front ++ data_octets (written xs octets)) c.as_slice.ensures.items)
