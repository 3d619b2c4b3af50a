-- What the code of a job says about its link, and what a connect that succeeds leaves.
use Rattle.std.specs.Prelude.{◌≡◌, ◌≢◌, ◌⊎◌, ℕ, ◌<◌, ◌≤◌, ◌==◌, ◌||◌, max, Bool, false, List, [], None, Some}
use Rattle.s7_outer.specs.Shown.{Shown}
use Rattle.s7_outer.specs.Count.{RoseExactly}
use Rattle.s7_dialogue.specs.declared.config.Config.{Config}
use Rattle.s7_dialogue.specs.declared.grant.Grant.{Grant}
use Rattle.s7_dialogue.specs.declared.job.Job.{Job}
use Rattle.s7_dialogue.specs.declared.job.Job.TheVariants.{Connect}
use Rattle.s7_dialogue.specs.declared.job.JobResult.{JobResult}
use Rattle.s7_dialogue.specs.Codes.{link_ended, no_fault, receive_failed, send_failed, timed_out}
use Rattle.s7_dialogue.specs.Dialogue.{End}
use Rattle.s7_dialogue.specs.Course.{Origin, conduct_of, course, for_departure, for_nothing}
use Rattle.s7_client.specs.Runs.{Between, JobRun}

-- Whether only the link gives this code: a transmit or a receive failed, or the link wasn't ready in as many polls as
-- allowed. The code of a link that ended isn't one of these: a disconnect request ends a job with it too.
abbrev pub is_of_link : ℕ → Bool
is_of_link code = (code == send_failed || code == receive_failed) || code == timed_out

-- OCTETS END JOBS OTHERWISE: an end that follows from octets, or from the transmission of a disconnect request, has no
-- code that only the link gives.
pub record OctetsEndOtherwise : Type 0 where
  pub octets : (origin : Origin) (b : List ℕ) (end : End) (carried : List ℕ)
      → (course origin b).awaits ≡ for_nothing end carried → is_of_link end.code ≡ false
  pub departure : (origin : Origin) (b : List ℕ) → (course origin b).awaits ≡ for_departure
      → is_of_link ((conduct_of origin).ended []).code ≡ false

-- What a job with this code, which may find the link not ready in this many polls, did to the counts of its link. The
-- link failed once if the code says that a transmit or a receive failed, and otherwise not at all. It wasn't ready as
-- often as allowed if the code says that the job timed out, and otherwise less often. Its stream ended only if the code
-- says so.
pub record TellsOfLink (polls code : ℕ) (link link' : Shown) : Type 0 where
  pub failed : (code ≡ send_failed) ⊎ (code ≡ receive_failed) → RoseExactly 1 link.faults link'.faults
  pub sound : code ≢ send_failed → code ≢ receive_failed → link'.faults ≡ link.faults
  pub tired : code ≡ timed_out → RoseExactly polls link.waits link'.waits
  pub patient : code ≢ timed_out → (times : ℕ) × (times < polls) × RoseExactly times link.waits link'.waits
  pub unended : code ≢ link_ended → link'.has_ended ≡ link.has_ended

-- CODES TELL OF LINKS: the code of a job that was carried out says what the job did to the counts of its link.
abbrev pub CodesTellOfLinks : Type 0
CodesTellOfLinks =
    (config : Config) (before : Between) (asked : Job) (link link' : Shown) (told : JobResult) (after : Between)
    → JobRun config before asked link link' told after → TellsOfLink config.polls told.code link link'

-- A client is connected, with a PDU from 64 to the one that it asked for, and at least one parallel job. The last
-- sequence on its link is that of the negotiation.
pub record IsJoined (config : Config) (after : Between) : Type 0 where
  pub grant : Grant
  pub granted : after.granted ≡ Some grant
  pub least : 64 ≤ grant.pdu
  pub most : grant.pdu ≤ config.pdu
  pub some : 1 ≤ grant.jobs
  pub few : grant.jobs ≤ max 1 config.jobs
  pub unclosed : after.is_closed ≡ false
  pub sequence : after.sequence ≡ 1

-- CONNECTS ARE GRANTED: a connect on a client that isn't connected leaves it connected if its code is 0, and otherwise
-- unconnected.
pub record ConnectsAreGranted : Type 0 where
  pub granted : (config : Config) (before : Between) (link link' : Shown) (told : JobResult) (after : Between)
      → before.granted ≡ None → JobRun config before Connect link link' told after → told.code ≡ no_fault
      → IsJoined config after
  pub refused : (config : Config) (before : Between) (link link' : Shown) (told : JobResult) (after : Between)
      → before.granted ≡ None → JobRun config before Connect link link' told after → told.code ≢ no_fault
      → after.granted ≡ None
