-- The far side: a dial, the link that it gave last, and the client over that link.
use Rattle.std.specs.Prelude.{◌≡◌, ◌≢◌, ◌⊎◌, ℕ, ◌+◌, ◌-◌, ◌^◌, min, Bool, true, false, is_some, if◌then◌else◌, List, Option, None, Some, option_map, string_bytes}
use Rattle.s7_outer.specs.Calls.{shut_down}
use Rattle.s7_outer.specs.Count.{Rose, RoseExactly, raised}
use Rattle.s7_outer.specs.Dial.{GivesTold, NoHostFell, NoHostRoseTwice}
use Rattle.s7_outer.specs.DialShown.{DialShown}
use Rattle.s7_outer.specs.Shown.{Shown}
use Rattle.s7_outer.specs.declared.dial.Dialled.TheVariants as dialled
use Rattle.s7_dialogue.specs.Codes.{no_fault}
use Rattle.s7_dialogue.specs.declared.config.Config.{Config}
use Rattle.s7_dialogue.specs.declared.grant.Grant.{Grant}
use Rattle.s7_dialogue.specs.declared.job.Job.{Job}
use Rattle.s7_dialogue.specs.declared.job.Job.TheVariants.{Connect}
use Rattle.s7_dialogue.specs.declared.job.JobResult.{JobResult}
use Rattle.s7_client.specs.Polling.{config_of}
use Rattle.s7_client.specs.Runs.{Between, JobRun, between_of, fresh}
use Rattle.s7_relay.specs.Errors.{is_failure}
use Rattle.s7_relay.specs.declared.far.Far.{Far}

-- where the far server is, and how its client connects
pub record FarServer : Type 0 where
  pub host : List ℕ
  pub port : ℕ
  pub config : Config

-- the far side between two jobs
pub record FarModel (M : Type 0) : Type 0 where
  pub dial : DialShown M
  -- the link that was dialled last; `None` before the first
  pub link : Option Shown
  pub client : Between
  -- the number of connects and jobs in which a link failed, held at 2^64 - 1
  pub failures : ℕ

abbrev pub server_of : {K M : Type 0} → Far K M → FarServer
server_of far = record { host = string_bytes far.host; port = far.port; config = config_of far.client }

abbrev pub far_model : {K M : Type 0} → (K → DialShown M) → (M → Shown) → Far K M → FarModel M
far_model dials shows far = record {
  dial = dials far.dial;
  link = option_map shows far.link;
  client = between_of far.client;
  failures = far.failures;
}

-- the far side before the first call of this dial
abbrev pub first_far : {M : Type 0} → DialShown M → FarModel M
first_far dial = record { dial = dial; link = None; client = fresh; failures = 0 }

-- the length of a PDU that was granted; `None` if the client isn't connected
abbrev pub granted_in : Between → Option ℕ
granted_in between = option_map (λ (g : Grant). g.pdu) between.granted

abbrev pub is_connected : Between → Bool
is_connected between = is_some between.granted

-- THE COUNT of far faults: the dial's faults for the host and the port, and the failures of its links. It is held at
-- 2^64 - 1.
abbrev pub far_faults : {M : Type 0} → FarServer → FarModel M → ℕ
far_faults server far = min (far.dial.faults server.host server.port + far.failures) (2 ^ 64 - 1)

-- ---- the dial

-- the dial was called once, and failed
pub record FailsToDial {M : Type 0} (server : FarServer) (old new : FarModel M) : Type 0 where
  pub called : RoseExactly 1 old.dial.calls new.dial.calls
  pub rose : Rose (old.dial.faults server.host server.port) (new.dial.faults server.host server.port)
  pub hosts : NoHostFell old.dial.faults new.dial.faults
  pub once : NoHostRoseTwice old.dial.faults new.dial.faults
  pub kept : new.dial.next ≡ old.dial.next
  pub same : new ≡ record old { dial = new.dial }

-- THE DIAL WAS CALLED once and gave a link, the one that it shows if it shows its next. This link replaces the one
-- before.
pub record Dials {M : Type 0} (shows : M → Shown) (server : FarServer) (old new : FarModel M) : Type 0 where
  pub line : M
  pub given : GivesTold (old.dial.next server.host server.port) (dialled.Link line)
  pub called : RoseExactly 1 old.dial.calls new.dial.calls
  pub faults : new.dial.faults ≡ old.dial.faults
  pub same : new ≡ record old { dial = new.dial; link = Some (shows line) }

-- ---- jobs

-- a link is shut as soon as its client isn't connected
abbrev pub left_as : Between → Shown → Shown
left_as between link = if is_connected between then link else shut_down link

-- a connect or job counts as a failure if its code says that the link failed
abbrev pub failures_by : ℕ → ℕ → ℕ
failures_by code before = if is_failure code then raised before else before

-- A CONNECT OR JOB WAS CARRIED OUT over the link. Its result follows from the octets that were received before and not
-- used, and those received in it; or it has a cause that the link shows.
pub record Does {M : Type 0} (server : FarServer) (asked : Job) (old new : FarModel M) (told : JobResult)
    : Type 0 where
  pub link : Shown
  pub was : old.link ≡ Some link
  pub after : Shown
  pub run : JobRun server.config old.client asked link after told new.client
  pub failures : new.failures ≡ failures_by told.code old.failures
  pub dial : new.dial ≡ old.dial
  pub left : new.link ≡ Some (left_as new.client after)

-- THE CLIENT IS CONNECTED: it was before, or the dial gave a link and a connect over it succeeded
abbrev pub Reaches : {M : Type 0} → (M → Shown) → FarServer → FarModel M → FarModel M → Option JobResult → Type 0
Reaches shows server old new None = (is_connected old.client ≡ true) × (new ≡ old)
Reaches {M} shows server old new (Some told) =
    (is_connected old.client ≡ false) × (told.code ≡ no_fault)
    × (middle : FarModel M) × Dials shows server old middle × Does server Connect middle new told

-- the dial gave a link, and the connect over it failed
pub record FailsToConnect {M : Type 0} (shows : M → Shown) (server : FarServer) (old new : FarModel M)
    (told : JobResult) : Type 0 where
  pub unconnected : is_connected old.client ≡ false
  pub failed : told.code ≢ no_fault
  pub middle : FarModel M
  pub dials : Dials shows server old middle
  pub does : Does server Connect middle new told

-- An allocation failed, and the job wasn't begun. A link may have been dialled, and its client connected.
abbrev pub Lacks : {M : Type 0} → (M → Shown) → FarServer → FarModel M → FarModel M → Type 0
Lacks shows server old new =
    (new ≡ old) ⊎ ((is_connected old.client ≡ false) × Dials shows server old new)
    ⊎ ((told : JobResult) × Reaches shows server old new (Some told))
