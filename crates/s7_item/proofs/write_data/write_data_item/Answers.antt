use Rattle.std.proofs.Common.{◌≡◌, true, rules, ◌∙◌}
use Rattle.s7_item.specs.DataItem.{carries}
use Rattle.s7_item.proofs.WriteLemmas.{item_padded}
use Rattle.s7_item.proofs.write_data.write_data_item.Goals as goal

pub returns-clause-written : goal.returns-clause-written
returns-clause-written c =
    let some : carries c.args.code ≡ true = search rules in
    item_padded c.args.code c.args.word _ _ _ _ _ some (λ e. c.if-padding_of-eq0.false (c.padding_of.ensures.padding ∙ e)) c.requires.room
    (c.copy_from_slice-2.ensures.after ∙ c.head.ensures) c.copy_from_slice-3.ensures.after
