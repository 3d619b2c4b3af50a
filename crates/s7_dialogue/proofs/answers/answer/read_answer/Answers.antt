use Rattle.std.proofs.Common.{sym, ◌∙◌}
use Rattle.s7_dialogue.proofs.AnswerLemmas.{told_some, told_none, refusal_told, acknowledgement_told}
use Rattle.s7_dialogue.proofs.answers.answer.read_answer.Goals as goal

pub returns-in-Ack-clause-some : goal.returns-in-Ack-clause-some
returns-in-Ack-clause-some c question is =
    told_some question c.read_refusal.result _
    (refusal_told c.args.asked.now question c.args.sequence c.args.message.now c.in-Ok.header c.read_refusal.result is
    (sym c.read_header.ensures ∙ c.in-Ok.is) c.if-header-sequence.false c.in-Ack.is (c.read_refusal.ensures question))

pub returns-in-Ack-clause-none : goal.returns-in-Ack-clause-none
returns-in-Ack-clause-none c question is =
    told_none question c.read_refusal.result _
    (refusal_told c.args.asked.now question c.args.sequence c.args.message.now c.in-Ok.header c.read_refusal.result is
    (sym c.read_header.ensures ∙ c.in-Ok.is) c.if-header-sequence.false c.in-Ack.is (c.read_refusal.ensures question))

pub returns-in-AckData-clause-some : goal.returns-in-AckData-clause-some
returns-in-AckData-clause-some c question is =
    told_some question c.read_acknowledgement.result _
    (acknowledgement_told c.args.asked.now question c.args.sequence c.args.message.now _ _ c.in-Ok.header
    c.read_acknowledgement.result is
    (sym c.read_header.ensures ∙ c.in-Ok.is) c.if-header-sequence.false c.in-AckData.is c.parts.ensures.params
    c.parts.ensures.body (c.read_acknowledgement.ensures question is))

pub returns-in-AckData-clause-none : goal.returns-in-AckData-clause-none
returns-in-AckData-clause-none c question is =
    told_none question c.read_acknowledgement.result _
    (acknowledgement_told c.args.asked.now question c.args.sequence c.args.message.now _ _ c.in-Ok.header
    c.read_acknowledgement.result is
    (sym c.read_header.ensures ∙ c.in-Ok.is) c.if-header-sequence.false c.in-AckData.is c.parts.ensures.params
    c.parts.ensures.body (c.read_acknowledgement.ensures question is))
