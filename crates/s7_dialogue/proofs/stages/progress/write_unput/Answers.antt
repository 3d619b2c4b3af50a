use Rattle.std.proofs.Common.{◌<◌, arith}
use Rattle.s7_dialogue.proofs.SingleLemmas.{one_unput, put_last}
use Rattle.s7_dialogue.proofs.stages.progress.write_unput.Goals as goal
use Rattle.s7_dialogue.proofs.stages.progress.write_unput.Goals.{in-Insert+else-single-gt1, in_default}

pub returns-clause-octets : goal.returns-clause-octets
returns-clause-octets c = λ size.
    let single = c.args.single.now in
    let last : single.unput < 2 =
    elim c.match-single.branch [
      | in-Insert+else-single-gt1 w ↦ omega (arith, w.if-single-gt1.false)
      | in_default w ↦ one_unput single.ask single.unput single.few (λ pieces call. w.in_default.not-Insert pieces call)
    ] in
    put_last size c.args.job.now single.ask c.args.sequence single.unput c.write_single.new.message.octets
    c.requires.some last single.few (c.write_single.ensures.octets (omega (arith, single.few, c.requires.some)))
