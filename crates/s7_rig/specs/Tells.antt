-- What a completion is notified of.
use Rattle.std.specs.Prelude.{◌≡◌, List, ◌++◌, Option, option_map}
use Rattle.s7_dialogue.specs.declared.job.JobResult.{JobResult}
use Rattle.s7_client.specs.Completions.{Told, told_of_results}
use Rattle.s7_rig.specs.State.{State}
use Rattle.s7_rig.specs.Shown.{first_results, state_told}

-- A COMPLETION, if there is one, was notified of each result that came after the old ones: once, in order, and of
-- nothing else
pub record Tells (old new : List JobResult) (before after : Option Told) : Type 0 where
  pub gained : List JobResult
  pub results : new ≡ old ++ gained
  pub told : after ≡ option_map (λ t. told_of_results t gained) before

-- a completion was notified of each new result of a rig's first client, as `Tells` states
abbrev pub TellsFirst : State → State → Option Told → Option Told → Type 0
TellsFirst old new before after = Tells (first_results (state_told old)) (first_results (state_told new)) before after

-- IF AN ALLOCATION FAILED, at a turn at which these runs stop, the completion was notified of each result that the
-- first client had gained until then
pub record TellsWanting (stops : State → State → Type 0) (old : State) (before after : Option Told) : Type 0 where
  pub last : State
  pub stopped : stops old last
  pub tells : TellsFirst old last before after
