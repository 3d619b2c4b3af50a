-- What relaying a telegram does.
use Rattle.std.specs.Prelude.{◌≡◌, ◌==◌, ℕ, Bool, true, false, List, [], ◌∷◌, Option, None, Some}
use Rattle.s7_outer.specs.Count.{RoseExactly}
use Rattle.s7_outer.specs.Shown.{Shown}
use Rattle.s7_plant.specs.Replies.{said_of}
use Rattle.s7_plant.specs.declared.request.Request.{Request}
use Rattle.s7_dialogue.specs.Codes.{link_ended, timed_out}
use Rattle.s7_dialogue.specs.declared.job.Job.{Job}
use Rattle.s7_relay.specs.Errors.{is_failure}
use Rattle.s7_relay.specs.Far.{Does, FailsToConnect, FailsToDial, FarModel, FarServer, Lacks, Reaches, far_faults, granted_in, is_connected}
use Rattle.s7_relay.specs.Replies.{reply_of}
use Rattle.s7_relay.specs.Travel.{far_job, fits_one, request_codes, travels}
use Rattle.s7_relay.specs.declared.passage.Passage.{Passage}
use Rattle.s7_relay.specs.declared.passage.Passage.TheVariants as passage
use Rattle.s7_relay.specs.declared.passage.Relayed.{Relayed}
use Rattle.s7_relay.specs.declared.windows.Window.{Window}

-- HOW FAR A JOB GOT. If the client isn't connected, the server is dialled and the client connected first. A job that
-- doesn't fit into one telegram isn't begun.
abbrev pub GetsTo : {M : Type 0} → (M → Shown) → FarServer → Job → FarModel M → FarModel M → Passage → Type 0
GetsTo shows server job old new passage.Near = ⊥
GetsTo shows server job old new passage.Undialled =
    (is_connected old.client ≡ false) × FailsToDial server old new
GetsTo shows server job old new (passage.Unconnected connect) = FailsToConnect shows server old new connect
GetsTo shows server job old new (passage.Unpacked connect) =
    Reaches shows server old new connect × (fits_one (granted_in new.client) job ≡ false)
GetsTo {M} shows server job old new (passage.Asked connect told) =
    (middle : FarModel M) × Reaches shows server old middle connect
    × (fits_one (granted_in middle.client) job ≡ true) × Does server job middle new told

-- nothing of a telegram was asked far
abbrev pub StaysNear : {M : Type 0} → FarModel M → FarModel M → Passage → Type 0
StaysNear old new p = (p ≡ passage.Near) × (new ≡ old)

abbrev pub GetsBy : {M : Type 0} → (M → Shown) → FarServer → Bool → Option Job → FarModel M → FarModel M → Passage
    → Type 0
GetsBy shows server false job old new p = StaysNear old new p
GetsBy shows server true None old new p = StaysNear old new p
GetsBy shows server true (Some job) old new p = GetsTo shows server job old new p

-- HOW FAR A REQUEST GOT: it stays near if no item of it travels
abbrev pub Passes : {M : Type 0} → (M → Shown) → FarServer → List Window → Request → FarModel M → FarModel M → Passage
    → Type 0
Passes shows server windows request old new p =
    GetsBy shows server (travels windows request) (far_job windows request) old new p

-- ---- failures

-- whether the dial or a link failed in a telegram that got so far
abbrev pub is_failed : Passage → Bool
is_failed passage.Near = false
is_failed passage.Undialled = true
is_failed (passage.Unconnected connect) = is_failure connect.code
is_failed (passage.Unpacked connect) = false
is_failed (passage.Asked connect told) = is_failure told.code

-- whether the far server ended the link in a telegram that got so far
abbrev pub is_ended : Passage → Bool
is_ended passage.Near = false
is_ended passage.Undialled = false
is_ended (passage.Unconnected connect) = connect.code == link_ended
is_ended (passage.Unpacked connect) = false
is_ended (passage.Asked connect told) = told.code == link_ended

-- whether the far server didn't answer in as many polls as allowed
abbrev pub is_late : Passage → Bool
is_late passage.Near = false
is_late passage.Undialled = false
is_late (passage.Unconnected connect) = connect.code == timed_out
is_late (passage.Unpacked connect) = false
is_late (passage.Asked connect told) = told.code == timed_out

-- a count rose by one, or to 2^64 - 1, if there was a failure; else it stayed
abbrev pub CountsBy : Bool → ℕ → ℕ → Type 0
CountsBy true before now = RoseExactly 1 before now
CountsBy false before now = now ≡ before

-- ---- a telegram

-- A TELEGRAM WAS RELAYED: the reply that is kept is the one for how far it got, and the count of far faults rose if
-- there was a failure
pub record IsRelayed {M : Type 0} (shows : M → Shown) (server : FarServer) (windows : List Window)
    (old new : FarModel M) (r : Relayed) : Type 0 where
  pub passes : Passes shows server windows r.ask.request old new r.passage
  pub said : said_of r.reply ≡ reply_of r.ask.request (request_codes windows r.ask.request) r.passage
  pub counted : CountsBy (is_failed r.passage) (far_faults server old) (far_faults server new)

-- ---- telegrams one after another

-- a telegram that was relayed, or one for which an allocation failed
pub data Act : Type 0 where
  relays : (r : Relayed) → Act
  lacks : Act

-- the telegrams that were relayed, in order
abbrev pub relayed_in : List Act → List Relayed
relayed_in [] = []
relayed_in (relays r ∷ acts) = r ∷ relayed_in acts
relayed_in (lacks ∷ acts) = relayed_in acts

-- one act leads from one state of the far side to the next
abbrev pub Leads : {M : Type 0} → (M → Shown) → FarServer → List Window → FarModel M → FarModel M → Act → Type 0
Leads shows server windows old new (relays r) = IsRelayed shows server windows old new r
Leads shows server windows old new lacks = Lacks shows server old new

-- THE ACTS lead one after another from one state of the far side to another
unfoldable pub Lead : {M : Type 0} → (M → Shown) → FarServer → List Window → FarModel M → List Act → FarModel M → Type 0
Lead shows server windows old [] new = new ≡ old
Lead {M} shows server windows old (act ∷ acts) new =
    (middle : FarModel M) × Leads shows server windows old middle act × Lead shows server windows middle acts new
