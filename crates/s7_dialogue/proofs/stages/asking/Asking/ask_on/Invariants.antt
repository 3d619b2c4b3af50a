use Rattle.std.proofs.Common.{◌≡◌, ℕ, ◌+◌, length, List, Option, true}
use Rattle.s7_dialogue.specs.declared.config.Config.{Config}
use Rattle.s7_dialogue.specs.declared.grant.Grant.{Grant}
use Rattle.s7_dialogue.specs.declared.job.Job.{Job}
use Rattle.s7_dialogue.specs.declared.stages.running.Stage.TheVariants as stage
use Rattle.s7_dialogue.specs.Left.{questions_left}
use Rattle.s7_dialogue.specs.Course.{Course}
use Rattle.s7_dialogue.specs.Stages.{is_ready}
use Rattle.s7_dialogue.specs.GoesOn.{Conducts}
use Rattle.s7_dialogue.proofs.AskLemmas.{AsksSoFar}
use Rattle.s7_dialogue.proofs.stages.asking.Asking.ask_on.Given as goal

-- what was asked so far, and may be asked yet, is all that may go out
abbrev pub invariant-loop-next : goal.invariant-loop-next
invariant-loop-next l = record {
  asks : (config : Config) (granted : Option Grant) (job : Job) (found codes : List ℕ) (course : Course)
      → Conducts config granted course.rows course.rows job found codes l.fn.self → course.sequence ≡ l.fn.sequence
      → AsksSoFar config granted job found codes l.fn.self course l.self l.last;
  as_many : length l.self.flights.items + questions_left l.self.left
      ≡ length l.fn.self.flights.items + questions_left l.fn.self.left;
  ready : (job : Job) (found : ℕ) → is_ready job found (stage.Asking l.fn.self) ≡ true
      → is_ready job found (stage.Asking l.self) ≡ true;
}

abbrev pub decreases-loop-next : goal.decreases-loop-next
decreases-loop-next l = questions_left l.self.left
