-- What contracts see of a job that was started.
use Rattle.std.specs.Prelude.{◌≡◌, ℕ, ◌≤◌, List, [], ◌++◌, length, take, slice_index, Option, None}
use Rattle.s7_dialogue.specs.declared.config.Config.{Config}
use Rattle.s7_dialogue.specs.declared.grant.Grant.{Grant}
use Rattle.s7_dialogue.specs.declared.grant.Ending.{Ending}
use Rattle.s7_dialogue.specs.declared.job.Job.{Job}
use Rattle.s7_dialogue.specs.declared.job.JobResult.{JobResult}
use Rattle.s7_dialogue.specs.declared.stages.running.Running.{Running}
use Rattle.s7_dialogue.specs.declared.stages.running.Stage.{Stage}
use Rattle.s7_dialogue.specs.declared.stages.running.Stage.TheVariants as stage
use Rattle.s7_dialogue.specs.Flight.{Row}
use Rattle.s7_dialogue.specs.Dialogue.{End, Conduct, nothing, connect_request, disconnect_request, over, plan_of}
use Rattle.s7_dialogue.specs.Course.{Awaits, Course, for_nothing}
use Rattle.s7_dialogue.specs.GoesOn.{GoesOn}
use Rattle.s7_dialogue.specs.Stages.{LeavesLink, LeavesOpen}
pub use Rattle.s7_dialogue.specs.Stages.{octets_of, question_of, unput_by, awaited_by, IsOpening, IsAsking, IsLeaving, IsOver, IsGrant, IsGoodLeave, answers_left}

-- what the job awaits; `carried` is the message that was no answer, if one came
abbrev pub awaited_in : Running → List ℕ → Awaits
awaited_in r carried = awaited_by r.found.items r.codes carried r.stage

-- the octets of the telegrams that aren't queued yet, by the TPDU size
abbrev pub unput_of : Config → ℕ → Running → List ℕ
unput_of config size r = unput_by config size r.job r.stage

abbrev pub conduct_in : Running → Config → Option Grant → Conduct
conduct_in r config granted = (plan_of r.job config granted).conduct

-- The job asks as its conduct states, and these telegrams were sent for it, with these answers.
pub record Follows (r : Running) (config : Config) (granted : Option Grant) (rows : List Row) : Type 0 where
  pub goes_on : GoesOn r config granted rows

-- how a job begins, by what its plan sends first
abbrev pub BeginsAt : Running → Config → Option Grant → Stage → Type 0
BeginsAt r config granted stage.Opening = (plan_of r.job config granted).first ≡ connect_request
BeginsAt r config granted (stage.Asking a) =
    ((plan_of r.job config granted).first ≡ nothing) × (a.unput ≡ 0) × Follows r config granted []
BeginsAt r config granted (stage.Single s) =
    ((plan_of r.job config granted).first ≡ nothing) × (s.out ≡ None) × Follows r config granted []
BeginsAt r config granted stage.Leaving = (plan_of r.job config granted).first ≡ disconnect_request
BeginsAt r config granted (stage.Over code leaves) =
    plan_of r.job config granted ≡ over (record { code = code; octets = r.found.items; codes = r.codes; leaves = leaves })

abbrev pub Begins : Running → Config → Option Grant → Type 0
Begins r config granted = BeginsAt r config granted r.stage

-- The job has gone from one position of its course to another, and has this last sequence. What it asked since then
-- isn't queued yet.
pub record Reached (config : Config) (granted : Option Grant) (before course : Course) (r : Running) (last : ℕ)
    : Type 0 where
  pub awaits : course.awaits ≡ awaited_in r []
  pub follows : IsAsking r.stage → Follows r config granted course.rows
  pub sequence : last ≡ course.sequence
  pub out : course.out ≡ before.out ++ unput_of config before.size r

-- The job is over with this ending.
pub record IsEnding (r : Running) (ending : Ending) : Type 0 where
  pub over : IsOver r.stage
  pub code : (end : End) → awaited_in r [] ≡ for_nothing end [] → ending.code ≡ end.code
  pub leaves : (end : End) → awaited_in r [] ≡ for_nothing end [] → ending.leaves ≡ end.leaves
  pub granted : IsGoodLeave ending.leaves
  pub kept : LeavesLink ending.leaves → LeavesOpen r.stage

-- the result of a job that ended so; `message` is the message that was no answer
pub record IsResult (result : JobResult) (done : Job) (end : End) (message : List ℕ) : Type 0 where
  pub job : result.job ≡ done
  pub code : result.code ≡ end.code
  pub octets : result.octets ≡ end.octets
  pub few : result.count ≤ length result.codes
  pub codes : take result.count result.codes ≡ end.codes
  pub blank : (k : ℕ) → result.count ≤ k → slice_index result.codes k ≡ 0
  pub carried : result.carried ≡ message
