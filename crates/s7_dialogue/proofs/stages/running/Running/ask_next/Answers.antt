use Rattle.std.proofs.Common.{refl}
use Rattle.s7_dialogue.proofs.SingleLemmas.{none_unput}
use Rattle.s7_dialogue.proofs.stages.running.Running.ask_next.Goals as goal

pub returns-clause-reached : goal.returns-clause-reached
returns-clause-reached c = λ config granted course next same.
    c.go_on.ensures.reached config granted course (record { goes_on = next _ refl refl refl }) same
    (none_unput course.size c.args.self.now.job c.args.ask 0 0 refl)
