-- What a reader holds of the octets that it has read, and what it finds in further octets.
use Rattle.std.specs.Prelude.{◌≡◌, ◌≢◌, ℕ, ◌-◌, ◌^◌, min, List, [], ◌∷◌, ◌++◌, Option, None, Some}
use Rattle.s7_tpkt.specs.Packets.{HoldsRest}
use Rattle.s7_cotp.specs.Told.{connection_of}
use Rattle.s7_cotp.specs.Gathered.{Gathered}
use Rattle.s7_cotp.specs.Messages.{open_octets}
use Rattle.s7_cotp.specs.declared.joining.Joined.TheVariants.{Whole}
use Rattle.s7_wire.specs.Reading.{Unfinished, Event, opened, message, Ending, disconnected, faulted, Progress, limits, reading}
use Rattle.s7_wire.specs.declared.found.Opening.{Opening}
use Rattle.s7_wire.specs.declared.found.Found.{Found}
use Rattle.s7_wire.specs.declared.found.Found.TheVariants as finding
use Rattle.s7_wire.specs.declared.found.Ended.{Ended}
use Rattle.s7_wire.specs.declared.found.Ended.TheVariants as end_of
use Rattle.s7_wire.specs.declared.transport.Transport.{Transport}
use Rattle.s7_wire.specs.declared.reader.Reader.{Reader}

-- ---- what a finding means

-- the event of this finding, with this message
abbrev pub events_by : Found → List ℕ → ℕ → List Event
events_by finding.More octets at = []
events_by (finding.Opened c) octets at = opened (connection_of c) ∷ []
events_by finding.Message octets at = message octets at ∷ []
events_by finding.Disconnected octets at = []
events_by (finding.Fault fault) octets at = []

-- the ending that was found, if one was; `at` is the number of octets before the packet
abbrev pub ending_by : Found → ℕ → Option Ending
ending_by finding.More at = None
ending_by (finding.Opened c) at = None
ending_by finding.Message at = None
ending_by finding.Disconnected at = Some disconnected
ending_by (finding.Fault fault) at = Some (faulted fault at)

-- what is found on a link that has ended
abbrev pub found_by : Ended → Found
found_by end_of.Disconnected = finding.Disconnected
found_by (end_of.Faulted fault) = finding.Fault fault

abbrev pub ending_at : Option Ended → ℕ → Option Ending
ending_at None at = None
ending_at (Some end) at = ending_by (found_by end) at

-- ---- what is held

-- a count of 64 bits, which stays at its greatest value
abbrev pub counted : ℕ → ℕ
counted n = min n (2 ^ 64 - 1)

abbrev pub unfinished_in : Gathered → Unfinished
unfinished_in joiner = record { octets = open_octets joiner; count = joiner.count }

-- The transport holds what was read from the packets so far.
pub record IsAt (t : Transport) (p : Progress) : Type 0 where
  pub at : t.at ≡ counted p.at
  pub size : t.size ≡ p.size
  pub unfinished : unfinished_in t.joiner ≡ p.unfinished
  pub ending : p.ending ≡ ending_at t.ended p.at
  -- the packet that ended the link is the last one
  pub place : (end : Ended) → t.ended ≡ Some end → t.place ≡ t.at

-- `found` is what one more packet, or octets that show a fault, add to what was read.
pub record Finds (p p' : Progress) (t : Transport) (found : Found) : Type 0 where
  pub is : IsAt t p'
  pub events : p'.events ≡ p.events ++ events_by found t.joiner.octets p.at
  pub ending : p'.ending ≡ ending_by found p.at
  pub place : found ≢ finding.More → t.place ≡ counted p.at

-- ---- readers

-- which TPDU opens the link
abbrev pub opens_by : Reader → Opening
opens_by r = r.transport.opening

-- why nothing more is read, if the link has ended
abbrev pub ended_with : Reader → Option Ended
ended_with r = r.transport.ended

-- the octets of the open packet, or of a packet at fault
abbrev pub held_by : Reader → List ℕ
held_by r = r.cutter.held

-- the greatest length of the packet
abbrev pub limit_at : Reader → ℕ
limit_at r = r.cutter.limit

-- the TPDU size; `None` before the opening
abbrev pub size_at : Reader → Option ℕ
size_at r = r.transport.size

-- the number of octets before the last packet that was whole or at fault
abbrev pub place_at : Reader → ℕ
place_at r = r.transport.place

-- a message is whole, and no fragment came after it
abbrev pub HasMessage : Reader → Type 0
HasMessage r = r.transport.joiner.state ≡ Whole

-- the message that was found last
abbrev pub message_at : Reader → List ℕ
message_at r = r.transport.joiner.octets

-- THE READER HAS READ THESE OCTETS: it holds their rest, and what they are read as.
pub record HasRead (r : Reader) (b : List ℕ) : Type 0 where
  pub rest : ended_with r ≡ None → HoldsRest (limits (opens_by r)) b r.cutter
  pub is : IsAt r.transport (reading (opens_by r) b)

-- THE READER HAS READ FURTHER OCTETS after these, and has found this in them.
pub record HasFound (r : Reader) (b more : List ℕ) (found : Found) : Type 0 where
  pub read : HasRead r (b ++ more)
  pub events : (reading (opens_by r) (b ++ more)).events
      ≡ (reading (opens_by r) b).events ++ events_by found (message_at r) (reading (opens_by r) b).at
  pub ending : (reading (opens_by r) (b ++ more)).ending ≡ ending_by found (reading (opens_by r) b).at
  pub place : found ≢ finding.More → place_at r ≡ counted (reading (opens_by r) b).at
