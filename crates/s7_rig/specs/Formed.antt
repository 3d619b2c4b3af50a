-- The form of a rig's results.
use Rattle.std.specs.Prelude.{ℕ, List, All}
use Rattle.s7_area.specs.Memory.{Memory}
use Rattle.s7_dialogue.specs.declared.config.Config.{Config}
use Rattle.s7_dialogue.specs.declared.job.Job.{Job}
use Rattle.s7_dialogue.specs.declared.job.JobResult.{JobResult}
use Rattle.s7_dialogue.specs.Dialogue.{End}
use Rattle.s7_client.specs.Form.{HasForm}
use Rattle.s7_dialogue.specs.Running.{IsResult}
use Rattle.s7_rig.specs.Scripts.{Script}
use Rattle.s7_rig.specs.Shown.{ClientTold, EndTold}
use Rattle.s7_rig.specs.Rigs.{RigRan, Turning}

-- The result has the form of its job: it is the result of some end of a job, and that end has the form of the job.
pub record IsFormed (told : JobResult) : Type 0 where
  pub asked : Job
  pub end : End
  pub carried : List ℕ
  pub result : IsResult told asked end carried
  pub form : HasForm asked end

abbrev pub AreFormed : ClientTold → Type 0
AreFormed c = All IsFormed c.results

-- However a rig ran, each of its results has its form.
pub record RigsAreFormed : Type 0 where
  pub results : (opening : Memory) (limit : ℕ) (config : Config) (scripts : List Script) (turning : Turning)
      (end : EndTold)
      → RigRan opening limit config scripts turning end → All AreFormed end.clients
