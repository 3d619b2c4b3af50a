-- Jobs that are carried out whole, one after another, on one client.
use Rattle.std.specs.Prelude.{◌≡◌, ◌⊎◌, ℕ, Bool, false, List, [], ◌++◌, Option, None, Some, IsSome, if◌then◌else◌}
use Rattle.s7_outer.specs.Shown.{Shown}
use Rattle.s7_outer.specs.Count.{RoseExactly}
use Rattle.s7_wire.specs.Bounds.{size_of_code}
use Rattle.s7_dialogue.specs.declared.config.Config.{Config}
use Rattle.s7_dialogue.specs.declared.job.Job.{Job}
use Rattle.s7_dialogue.specs.declared.job.JobResult.{JobResult}
use Rattle.s7_dialogue.specs.declared.grant.Grant.{Grant}
use Rattle.s7_dialogue.specs.Codes.{timed_out}
use Rattle.s7_client.specs.declared.connection.Connection.{Connection}
use Rattle.s7_dialogue.specs.Dialogue.{End}
use Rattle.s7_dialogue.specs.Running.{IsResult}
use Rattle.s7_client.specs.Form.{HasForm, IsWhole}
use Rattle.s7_dialogue.specs.Course.{Origin, begins_anew, asked_size_code, course}
use Rattle.s7_client.specs.Counts.{FailedAsTold, EndedAsTold, WaitedAsTold}
use Rattle.s7_client.specs.Standing.{Moves, IsOrderly, HasCause, HasMetNotYet, IsUnderWay, IsFault}
use Rattle.s7_client.specs.Polling.{StandsFor, grant_of, closed_of, tpdu_size_of, sequence_of, unread_of, config_of, waited_of, job_of, grant_after, closed_after}

-- the state of a client between two jobs
pub record Between : Type 0 where
  -- what was granted; `None` on a client that isn't connected
  pub granted : Option Grant
  pub is_closed : Bool
  -- the TPDU size of its link, and the sequence of the last numbered telegram on it
  pub size : ℕ
  pub sequence : ℕ
  -- the octets that were received and not used yet
  pub unread : List ℕ

abbrev pub between_of : Connection → Between
between_of c = record {
  granted = grant_of c;
  is_closed = closed_of c;
  size = tpdu_size_of c;
  sequence = sequence_of c;
  unread = unread_of c;
}

-- the state of a client before its first job
abbrev pub fresh : Between
fresh = record { granted = None; is_closed = false; size = size_of_code asked_size_code; sequence = 0; unread = [] }

-- where a job starts
abbrev pub origin_from : Config → Between → Job → Origin
origin_from config before job = record {
  job = job;
  config = config;
  granted = before.granted;
  size = before.size;
  sequence = before.sequence;
}

-- the octets that were received before and not used, unless the link begins anew
abbrev pub unread_at : Between → Job → List ℕ
unread_at before job = if begins_anew before.granted job then [] else before.unread

-- the job timed out: the link wasn't ready in as many polls as allowed
pub record IsTired (origin : Origin) (link link' : Shown) (kept : List ℕ) (end : End)
    (carried b written : List ℕ) : Type 0 where
  pub rose : RoseExactly origin.config.polls link.waits link'.waits
  pub met : HasMetNotYet origin kept link' b written
  pub under_way : IsUnderWay origin b written
  pub fault : IsFault timed_out end carried

-- One job from its start to its end, by the octets that it used and transmitted.
pub record JobRun (config : Config) (before : Between) (asked : Job) (link link' : Shown) (told : JobResult)
    (after : Between) : Type 0 where
  pub moves : Moves (unread_at before asked) link after.unread link'
  -- what the job moved consists of deeds in order: octets were used only if all was sent, and received only if none
  -- was unused
  pub orderly : IsOrderly (origin_from config before asked) (unread_at before asked) [] [] moves
  -- no failure and no end was ignored, and no poll went on after a call that found the link not ready
  pub faults : FailedAsTold told.code link link'
  pub ended : EndedAsTold told.code link link'
  pub waits : WaitedAsTold config.polls told.code link link'
  pub end : End
  pub carried : List ℕ
  pub result : IsResult told asked end carried
  -- the form of the result, by the kind of job
  pub form : HasForm asked end
  pub whole : IsWhole asked end
  pub cause : HasCause (origin_from config before asked) link link' after.unread end carried moves.used moves.written
      ⊎ IsTired (origin_from config before asked) link link' after.unread end carried moves.used moves.written
  pub granted : after.granted ≡ grant_after end.leaves before.granted
  pub closed : after.is_closed ≡ closed_after end.leaves
      (if begins_anew before.granted asked then false else before.is_closed)
  pub size : after.size ≡ (course (origin_from config before asked) moves.used).size
  pub sequence : after.sequence ≡ (course (origin_from config before asked) moves.used).sequence

-- ---- the parts of such a run

-- polls after which the job is still outstanding
pub record StillWaits (old : Connection) (link : Shown) (c : Connection) (link' : Shown) : Type 0 where
  pub moves : Moves (unread_of old) link (unread_of c) link'
  pub orderly : (origin : Origin) (b w : List ℕ) → StandsFor old origin b w
      → IsOrderly origin (unread_of old) b w moves
  pub config : config_of c ≡ config_of old
  pub granted : grant_of c ≡ grant_of old
  pub closed : closed_of c ≡ closed_of old
  pub some : IsSome (job_of c)
  pub polls : ℕ
  pub waited : waited_of c ≡ Some polls
  pub rose : RoseExactly polls link.waits link'.waits
  pub faults : link'.faults ≡ link.faults
  pub ended : link'.has_ended ≡ link.has_ended
  pub stood : (origin : Origin) (b w : List ℕ) → StandsFor old origin b w
      → StandsFor c origin (b ++ moves.used) (w ++ moves.written)

-- the result of a job that had used and transmitted these octets before
pub record IsOverNow (origin : Origin) (link link' : Shown) (old new : Connection) (told : JobResult)
    (b written : List ℕ) : Type 0 where
  pub end : End
  pub carried : List ℕ
  pub result : IsResult told origin.job end carried
  pub granted : grant_of new ≡ grant_after end.leaves (grant_of old)
  pub closed : closed_of new ≡ closed_after end.leaves (closed_of old)
  pub cause : HasCause origin link link' (unread_of new) end carried b written
      ⊎ IsTired origin link link' (unread_of new) end carried b written
  pub size : tpdu_size_of new ≡ (course origin b).size
  pub sequence : sequence_of new ≡ (course origin b).sequence

-- polls up to the one in which the job is done
pub record Completes (old : Connection) (link : Shown) (new : Connection) (link' : Shown) (told : JobResult) : Type 0 where
  pub moves : Moves (unread_of old) link (unread_of new) link'
  pub orderly : (origin : Origin) (b w : List ℕ) → StandsFor old origin b w
      → IsOrderly origin (unread_of old) b w moves
  pub config : config_of new ≡ config_of old
  pub idle : job_of new ≡ None
  pub faults : FailedAsTold told.code link link'
  pub ended : EndedAsTold told.code link link'
  pub waits : WaitedAsTold (config_of old).polls told.code link link'
  pub over : (origin : Origin) (b w : List ℕ) → StandsFor old origin b w
      → IsOverNow origin link link' old new told (b ++ moves.used) (w ++ moves.written)
