-- How a job begins.
use Rattle.std.specs.Prelude.{◌≡◌, ℕ, ◌≤◌, true, List, [], replicate, Option, None}
use Rattle.s7_dialogue.specs.declared.config.Config.{Config}
use Rattle.s7_dialogue.specs.declared.grant.Grant.{Grant}
use Rattle.s7_dialogue.specs.declared.job.Job.{Job}
use Rattle.s7_dialogue.specs.declared.questions.left.Left.{Left}
use Rattle.s7_dialogue.specs.declared.stages.running.Stage.{Stage}
use Rattle.s7_dialogue.specs.declared.stages.running.Stage.TheVariants as stage
use Rattle.s7_dialogue.specs.Dialogue.{nothing, connect_request, disconnect_request, over, plan_of}
use Rattle.s7_dialogue.specs.Stages.{is_ready}
use Rattle.s7_dialogue.specs.Asks.{IsNew}
use Rattle.s7_dialogue.specs.GoesOn.{Conducts, AsksSingly}

-- the stage asks these questions, beginning with the first
abbrev pub AsksFirst : Stage → ℕ → Left → Type 0
AsksFirst stage.Opening width questions = ⊥
AsksFirst (stage.Asking a) width questions = IsNew a width questions
AsksFirst (stage.Single s) width questions = ⊥
AsksFirst stage.Leaving width questions = ⊥
AsksFirst (stage.Over code leaves) width questions = ⊥

-- how a job begins, by what its plan sends first
abbrev pub BeginsWith : Job → Config → Option Grant → List ℕ → List ℕ → Stage → Type 0
BeginsWith job config granted found codes stage.Opening = (plan_of job config granted).first ≡ connect_request
BeginsWith job config granted found codes (stage.Asking a) =
    ((plan_of job config granted).first ≡ nothing) × (a.unput ≡ 0) × Conducts config granted [] [] job found codes a
BeginsWith job config granted found codes (stage.Single s) =
    ((plan_of job config granted).first ≡ nothing) × (s.out ≡ None) × AsksSingly config granted [] job found codes s
BeginsWith job config granted found codes stage.Leaving = (plan_of job config granted).first ≡ disconnect_request
BeginsWith job config granted found codes (stage.Over code leaves) =
    plan_of job config granted ≡ over (record { code = code; octets = found; codes = codes; leaves = leaves })

-- The job begins at this stage with 00 for each octet and each code that it gives, at most twenty codes (Snap7 1.4
-- reference manual, `Cli_ReadMultiVars`), and what it asks can be asked.
pub record Starts (job : Job) (granted : Option Grant) (at : Stage) (octets codes : ℕ) : Type 0 where
  pub ready : is_ready job octets at ≡ true
  pub begins : (config : Config) → BeginsWith job config granted (replicate octets 0) (replicate codes 0) at
  pub few : codes ≤ 20
