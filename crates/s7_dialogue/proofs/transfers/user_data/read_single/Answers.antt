use Rattle.std.proofs.Common.{sym, ◌∙◌}
use Rattle.s7_header.specs.declared.header.Kind.TheVariants.{Ack, AckData}
use Rattle.s7_dialogue.proofs.UserReadLemmas.{some_told, none_told, awaits_none, kind_told, acknowledgement_told}
use Rattle.s7_dialogue.proofs.transfers.user_data.read_single.Goals as goal

pub returns-in-Ack-clause-some : goal.returns-in-Ack-clause-some
returns-in-Ack-clause-some c =
    some_told c.args.ask.now c.args.so_far.now c.read_refusal.result _
    (kind_told c.args.job.now c.args.ask.now c.args.so_far.now c.args.sequence c.args.message.now c.in-Ok.header Ack
    c.read_refusal.result
    (awaits_none c.args.job.now c.args.ask.now c.args.so_far.now c.in_default-ask.not-AwaitCall
    c.in_default-ask.not-Give)
    (sym c.read_header.ensures ∙ c.in-Ok.is) c.if-header-sequence.false c.in-Ack.is
    (c.read_refusal.ensures c.args.so_far.now))

pub returns-in-Ack-clause-none : goal.returns-in-Ack-clause-none
returns-in-Ack-clause-none c =
    none_told c.args.ask.now c.args.so_far.now c.read_refusal.result _
    (kind_told c.args.job.now c.args.ask.now c.args.so_far.now c.args.sequence c.args.message.now c.in-Ok.header Ack
    c.read_refusal.result
    (awaits_none c.args.job.now c.args.ask.now c.args.so_far.now c.in_default-ask.not-AwaitCall
    c.in_default-ask.not-Give)
    (sym c.read_header.ensures ∙ c.in-Ok.is) c.if-header-sequence.false c.in-Ack.is
    (c.read_refusal.ensures c.args.so_far.now))

pub returns-in-AckData-clause-some : goal.returns-in-AckData-clause-some
returns-in-AckData-clause-some c =
    some_told c.args.ask.now c.args.so_far.now c.read_acknowledgement.result _
    (kind_told c.args.job.now c.args.ask.now c.args.so_far.now c.args.sequence c.args.message.now c.in-Ok.header
    AckData c.read_acknowledgement.result
    (awaits_none c.args.job.now c.args.ask.now c.args.so_far.now c.in_default-ask.not-AwaitCall
    c.in_default-ask.not-Give)
    (sym c.read_header.ensures ∙ c.in-Ok.is) c.if-header-sequence.false c.in-AckData.is
    (acknowledgement_told c.args.job.now c.args.ask.now c.args.so_far.now c.args.message.now _ _ c.in-Ok.header
    c.read_acknowledgement.result c.parts.ensures.params c.parts.ensures.body
    (c.read_acknowledgement.ensures c.args.job.now)))

pub returns-in-AckData-clause-none : goal.returns-in-AckData-clause-none
returns-in-AckData-clause-none c =
    none_told c.args.ask.now c.args.so_far.now c.read_acknowledgement.result _
    (kind_told c.args.job.now c.args.ask.now c.args.so_far.now c.args.sequence c.args.message.now c.in-Ok.header
    AckData c.read_acknowledgement.result
    (awaits_none c.args.job.now c.args.ask.now c.args.so_far.now c.in_default-ask.not-AwaitCall
    c.in_default-ask.not-Give)
    (sym c.read_header.ensures ∙ c.in-Ok.is) c.if-header-sequence.false c.in-AckData.is
    (acknowledgement_told c.args.job.now c.args.ask.now c.args.so_far.now c.args.message.now _ _ c.in-Ok.header
    c.read_acknowledgement.result c.parts.ensures.params c.parts.ensures.body
    (c.read_acknowledgement.ensures c.args.job.now)))
