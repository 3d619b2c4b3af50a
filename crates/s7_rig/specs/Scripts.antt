-- The jobs of clients' scripts.
use Rattle.std.specs.Prelude.{◌-◌, ◌==◌, Bool, true, false, List, [], ◌∷◌, length, drop, if◌then◌else◌}
use Rattle.std.specs.List.{AllByRecursion}
use Rattle.s7_dialogue.specs.declared.job.Job.{Job}
use Rattle.s7_dialogue.specs.declared.job.Job.TheVariants as job
use Rattle.s7_dialogue.specs.declared.job.JobResult.{JobResult}

-- the jobs of a client, and whether the client halts: if a read of several items fails, only the last job is left
pub record Script : Type 0 where
  pub jobs : List Job
  pub halts : Bool

-- the script of these jobs for a client that doesn't halt
abbrev pub goes_on : List Job → Script
goes_on jobs = record { jobs = jobs; halts = false }

-- a job that reads several items
abbrev pub reads_many : Job → Bool
reads_many (job.ReadMany items) = true
reads_many _ = false

-- the jobs that are left after the result of a job; a client that halts keeps only the last one after a failed read of
-- several items
abbrev pub left_behind : Bool → JobResult → List Job → List Job
left_behind false told rest = rest
left_behind true told rest =
    if reads_many told.job then (if told.code == 0 then rest else drop (length rest - 1) rest) else rest

-- a job that doesn't connect
abbrev pub IsNoConnect : Job → Type 0
IsNoConnect job.Connect = ⊥
IsNoConnect _ = Unit {0}

abbrev pub NoneConnects : List Job → Type 0
NoneConnects jobs = AllByRecursion IsNoConnect jobs

-- the first job connects, and no later one does
abbrev pub ConnectsFirst : List Job → Type 0
ConnectsFirst [] = ⊥
ConnectsFirst (job.Connect ∷ jobs) = NoneConnects jobs
ConnectsFirst (_ ∷ jobs) = ⊥

-- the first job of the script connects, and no later one does
abbrev pub BeginsWell : Script → Type 0
BeginsWell s = ConnectsFirst s.jobs
