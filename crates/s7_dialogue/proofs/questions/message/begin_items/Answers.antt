use Rattle.std.proofs.Common.{◌∙◌, arith}
use Rattle.s7_dialogue.proofs.MessageLemmas.{items_front}
use Rattle.s7_dialogue.proofs.questions.message.begin_items.Goals as goal

pub begin_message-requires-clause-fits : goal.begin_message-requires-clause-fits
begin_message-requires-clause-fits c =
    omega (arith, c.requires.fits, items_front _ _ _ _ _ c.write_items-len.ensures.written c.write_items-len.ensures.len)

pub returns-clause-len : goal.returns-clause-len
returns-clause-len c = c.begin_message.ensures.len ∙ items_front _ _ _ _ _ c.write_items-len.ensures.written c.write_items-len.ensures.len
