-- The state of a rig: one book, and what each of its clients has.
use Rattle.std.specs.Prelude.{ℕ, ◌==◌, ◌&&◌, Bool, List, Option, is_none, length}
use Rattle.std.specs.List.{list_all}
use Rattle.s7_memory.specs.PipesHeld.{PipesHeld}
use Rattle.s7_client.specs.declared.connection.Connection.{Connection}
use Rattle.s7_dialogue.specs.declared.job.Job.{Job}
use Rattle.s7_dialogue.specs.declared.job.JobResult.{JobResult}
use Rattle.s7_client.specs.Polling.{job_of}
use Rattle.s7_plant.specs.Books.{BookTold}
use Rattle.s7_session.specs.declared.session.Session.{Session}

-- a client, the session that serves it, and the pipes between them
pub record Post : Type 0 where
  -- the number of their link
  pub link : ℕ
  -- the jobs that weren't started yet
  pub rest : List Job
  -- the client halts: if a read of several items fails, only the last job is left
  pub halts : Bool
  pub client : Connection
  pub session : Session
  -- the octets on their way in either direction
  pub pipes : PipesHeld
  -- the result of each job that is done, and the numbers of the entries that the session made while it was under way
  pub results : List JobResult
  pub places : List (List ℕ)
  -- the numbers of the entries since the job under way was started, `None` if no job is under way
  pub noted : Option (List ℕ)

pub record State : Type 0 where
  pub book : BookTold
  pub posts : List Post

-- every job was started and none is outstanding
abbrev pub is_finished : Post → Bool
is_finished p = length p.rest == 0 && is_none (job_of p.client)

abbrev pub are_finished : State → Bool
are_finished s = list_all is_finished s.posts
