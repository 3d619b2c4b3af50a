-- What running the jobs of a script does.
use Rattle.std.specs.Prelude.{◌≡◌, ℕ, ◌≤◌, ◌⊎◌, ◌==◌, Bool, true, false, None, List, [], ◌∷◌, ◌++◌, map}
use Rattle.std.specs.List.{list_all}
use Rattle.s7_outer.specs.Count.{Rose}
use Rattle.s7_outer.specs.Out.{AppendsPrefix}
use Rattle.s7_outer.specs.OutShown.{OutShown}
use Rattle.s7_outer.specs.Shown.{Shown}
use Rattle.s7_dialogue.specs.declared.config.Config.{Config}
use Rattle.s7_dialogue.specs.declared.job.Job.{Job}
use Rattle.s7_dialogue.specs.declared.job.Job.TheVariants as job
use Rattle.s7_dialogue.specs.declared.job.JobResult.{JobResult}
use Rattle.s7_dialogue.specs.Codes.{no_fault}
use Rattle.s7_client.specs.Completions.{connection_of}
use Rattle.s7_client.specs.Runs.{Between, JobRun, between_of, fresh}
use Rattle.s7_script.specs.declared.scripts.script_list.ScriptLine.{ScriptLine}
use Rattle.s7_program.specs.Lines.{memory_line}
use Rattle.s7_program.specs.Output.{Gains, Printed}
use Rattle.s7_tool_main.specs.declared.ended.Ended.{Ended}
use Rattle.s7_tool_main.specs.declared.ended.Ended.TheVariants as ended
use Rattle.s7_tool_main.specs.declared.scripts.jobs.ScriptRun.{ScriptRun}
use Rattle.s7_tool_main.specs.Report.{line_text, report}

-- ---- jobs

-- JOBS ONE AFTER ANOTHER, each with its result: each runs from the link and the client as the job before left them
unfoldable pub RunsJobs : Config → Between → List Job → Shown → List JobResult → Shown → Between → Type 0
RunsJobs config before [] link [] link' after = (link' ≡ link) × (after ≡ before)
RunsJobs config before [] link (told ∷ results) link' after = ⊥
RunsJobs config before (next ∷ jobs) link [] link' after = ⊥
RunsJobs config before (next ∷ jobs) link (told ∷ results) link' after =
    (middle : Shown) × (between : Between) × JobRun config before next link middle told between
    × RunsJobs config between jobs middle results link' after

abbrev pub job_in : ScriptLine → Job
job_in next = next.job

-- the connect is printed as the job of line 0
abbrev pub connect_line : ScriptLine
connect_line = record { line = 0; job = job.Connect; tag = None }

-- the jobs of a whole run: a connect, those of the script, and a disconnect
abbrev pub jobs_of : List ScriptLine → List Job
jobs_of lines = job.Connect ∷ (map job_in lines ++ job.Disconnect ∷ [])

-- the job succeeded
abbrev pub is_good : JobResult → Bool
is_good told = told.code == no_fault

-- ---- points of a run

-- a point of a run: the link, the state of the client, the results so far, and what the output shows
pub record Place : Type 0 where
  pub link : Shown
  pub between : Between
  pub results : List JobResult
  pub out : OutShown

-- the point at which a run begins over a link
abbrev pub first_place : Shown → OutShown → Place
first_place link out = record { link = link; between = fresh; results = []; out = out }

-- the point that a run under way has reached
abbrev pub place : {L C : Type 0} → (L → Shown) → ScriptRun L C → OutShown → Place
place shows run out =
    record {
      link = shows run.line;
      between = between_of (connection_of run.client);
      results = run.results.items;
      out = out;
    }

-- ---- from point to point

-- a job was done, and its result kept
pub record DoesJob (config : Config) (asked : Job) (old new : Place) : Type 0 where
  pub told : JobResult
  pub run : JobRun config old.between asked old.link new.link told new.between
  pub results : new.results ≡ old.results ++ told ∷ []

-- the jobs of these lines were done in order, and each result was kept and printed
pub record DoesLines (config : Config) (lines : List ScriptLine) (old new : Place) : Type 0 where
  pub told : List JobResult
  pub runs : RunsJobs config old.between (map job_in lines) old.link told new.link new.between
  pub results : new.results ≡ old.results ++ told
  pub text : Gains old.out new.out (report lines told)

-- a prefix of a line was printed
abbrev pub PrintsFront : OutShown → OutShown → List ℕ → Type 0
PrintsFront old new line = AppendsPrefix old.text new.text line

-- nothing of a line was printed, and the output didn't fail
abbrev pub PrintsNothing : OutShown → OutShown → List ℕ → Type 0
PrintsNothing old new line = new ≡ old

-- the job of the first line was done, and its result was printed in this way
pub record DoesUnprinted (prints : OutShown → OutShown → List ℕ → Type 0) (config : Config) (next : ScriptLine)
    (old new : Place) : Type 0 where
  pub does : DoesJob config next.job old new
  pub text : prints old.out new.out (line_text next does.told)

abbrev pub DoesFirst : (OutShown → OutShown → List ℕ → Type 0) → Config → List ScriptLine → Place → Place → Type 0
DoesFirst prints config [] old new = ⊥
DoesFirst prints config (next ∷ lines) old new = DoesUnprinted prints config next old new

-- A RUN THAT ENDED EARLY: the first of these lines were done, and then at most one job more, whose result was kept
pub record EndsEarly (prints : OutShown → OutShown → List ℕ → Type 0) (config : Config) (lines : List ScriptLine)
    (old new : Place) : Type 0 where
  pub front : List ScriptLine
  pub rest : List ScriptLine
  pub broken : Place
  pub split : lines ≡ front ++ rest
  pub done : DoesLines config front old broken
  pub stop : (new ≡ broken) ⊎ DoesFirst prints config rest broken new

-- a run that ended early because the output failed while the result of a job was printed
pub record FailsOutput (config : Config) (lines : List ScriptLine) (old new : Place) : Type 0 where
  pub early : EndsEarly PrintsFront config lines old new
  pub rose : Rose old.out.faults new.out.faults

-- a run that ended early because memory ran out: every result until then was printed, and then the line for this
pub record WantsMemory (config : Config) (lines : List ScriptLine) (old new : Place) : Type 0 where
  pub middle : OutShown
  pub early : EndsEarly PrintsNothing config lines old (record new { out = middle })
  pub count : old.out.faults ≤ middle.faults
  pub line : Printed middle new.out memory_line

-- A WHOLE RUN: a connect, each job of the script and a disconnect, in order and none left out; the results of all but
-- the disconnect were printed, and nothing else
pub record DoesAll (config : Config) (lines : List ScriptLine) (old new : Place) : Type 0 where
  pub told : List JobResult
  pub runs : RunsJobs config old.between (jobs_of lines) old.link told new.link new.between
  pub results : new.results ≡ old.results ++ told
  pub text : Gains old.out new.out (report (connect_line ∷ lines) told)

-- HOW THE JOBS OF A SCRIPT ENDED: all were done, and all succeeded or not, or they ended early
abbrev pub Goes : Config → List ScriptLine → Place → Place → Ended → Type 0
Goes config lines old new ended.Done = DoesAll config lines old new × (list_all is_good new.results ≡ true)
Goes config lines old new ended.Jobs = DoesAll config lines old new × (list_all is_good new.results ≡ false)
Goes config lines old new ended.Output = FailsOutput config (connect_line ∷ lines) old new
Goes config lines old new ended.Memory = WantsMemory config (connect_line ∷ lines) old new
Goes config lines old new ended.Refused = ⊥
Goes config lines old new ended.File = ⊥
Goes config lines old new ended.Dial = ⊥
