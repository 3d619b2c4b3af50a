-- The position of a job in its course, by what the client holds.
use Rattle.std.specs.Prelude.{◌≡◌, ◌⊎◌, ℕ, ◌+◌, ◌-◌, ◌*◌, ◌≤◌, List, [], ◌++◌, length, Option, None, unwrap_or}
use Rattle.s7_cotp.specs.Gathered.{Gathered}
use Rattle.s7_cotp.specs.Messages.{open_octets}
use Rattle.s7_wire.specs.Bounds.{most_packets, most_waiting, size_of_code}
use Rattle.s7_wire.specs.Reads.{HasRead, opens_by, ended_with, size_at, unfinished_in}
use Rattle.s7_wire.specs.declared.found.Opening.TheVariants.{Confirm}
use Rattle.s7_wire.specs.declared.found.ReadFault.{ReadFault}
use Rattle.s7_wire.specs.declared.found.ReadFault.TheVariants.{BadFrame, FrameTooLong, BadTpdu, Unexpected, TooManyFragments, TooLong}
use Rattle.s7_wire.specs.declared.reader.Reader.{Reader}
use Rattle.s7_dialogue.specs.declared.stages.running.Stage.{Stage}
use Rattle.s7_dialogue.specs.declared.stages.running.Stage.TheVariants as stage
use Rattle.s7_client.specs.declared.talk.Talk.{Talk}
use Rattle.s7_client.specs.declared.under_way.UnderWay.{UnderWay}
use Rattle.s7_dialogue.specs.declared.config.Config.{Config}
use Rattle.s7_dialogue.specs.declared.stages.running.Running.{Running}
use Rattle.s7_dialogue.specs.declared.grant.Grant.{Grant}
use Rattle.s7_dialogue.specs.Codes.{not_connected, bad_packet, message_too_fragmented, message_too_long}
use Rattle.s7_dialogue.specs.Flight.{Row}
use Rattle.s7_dialogue.specs.Dialogue.{connect_request, disconnect_request, plan_of}
use Rattle.s7_dialogue.specs.Running.{awaited_in, unput_of, Begins, Follows, IsOver, IsOpening, IsAsking, IsLeaving, answers_left}
use Rattle.s7_dialogue.specs.Course.{Origin, Course, asked_size_code, blank, begun}
pub use Rattle.s7_dialogue.specs.Stages.{LeavesLink, LeavesOpen}

abbrev pub joiner_in : Talk → Gathered
joiner_in t = t.reader.transport.joiner

-- the TPDU size of the link: the size that was asked for, until the confirm states another
abbrev pub size_by : Reader → ℕ
size_by r = unwrap_or (size_at r) (size_of_code asked_size_code)

abbrev pub size_in : Talk → ℕ
size_in t = size_by t.reader

-- the reader is that of a link that this side called, and the link hasn't ended
pub record IsReading (r : Reader) : Type 0 where
  pub opening : opens_by r ≡ Confirm
  pub going : ended_with r ≡ None
  pub some : ∥ ((b : List ℕ) × HasRead r b) ∥₁

-- The client is at this position of the course of the job that started at `origin`.
pub record IsAt (origin : Origin) (course : Course) (t : Talk) (u : UnderWay) : Type 0 where
  pub job : u.running.job ≡ origin.job
  pub size : size_in t ≡ course.size
  pub sequence : t.sequence ≡ course.sequence
  pub unfinished : (IsOver u.running.stage → ⊥) → unfinished_in (joiner_in t) ≡ course.unfinished
  pub awaits : course.awaits ≡ awaited_in u.running u.carried.octets
  -- a job that isn't over goes on as its plan states, and no message came that is no answer
  pub opens : IsOpening u.running.stage
      → ((plan_of origin.job origin.config origin.granted).first ≡ connect_request) × (course.rows ≡ [])
  pub follows : IsAsking u.running.stage → Follows u.running origin.config origin.granted course.rows
  pub departs : IsLeaving u.running.stage
      → (plan_of origin.job origin.config origin.granted).first ≡ disconnect_request
  pub silent : (IsOver u.running.stage → ⊥) → u.carried.octets ≡ []

-- what is still to be sent: the octets of the telegrams that are queued, and of those that aren't queued yet
abbrev pub pending : Config → Talk → Running → List ℕ
pending config t r = t.outbox.unsent ++ unput_of config (size_in t) r

-- The client is at this position of the course. What is still to be sent is what may be sent there, beyond what
-- might be sent before.
pub record Reaches (origin : Origin) (before course : Course) (t : Talk) (u : UnderWay) : Type 0 where
  pub at : IsAt origin course t u
  pub out : course.out ≡ before.out ++ pending origin.config t u.running

-- the job awaits octets
abbrev pub IsAwaiting : Stage → Type 0
IsAwaiting stage.Opening = Unit {0}
IsAwaiting (stage.Asking a) = Unit {0}
IsAwaiting (stage.Single s) = Unit {0}
IsAwaiting stage.Leaving = ⊥
IsAwaiting (stage.Over code leaves) = ⊥

-- no message is begun
pub record IsClear (joiner : Gathered) : Type 0 where
  pub octets : open_octets joiner ≡ []
  pub count : joiner.count ≡ 0

-- more octets than a message and one further packet can have: 65 packets of at most 8,199 octets
abbrev pub octets_of_message : ℕ
octets_of_message = 65 * 8200

-- the greatest number of messages that the job still takes: its answers, and one that is no answer
abbrev pub messages_left : Stage → ℕ
messages_left stage.Opening = answers_left stage.Opening + 1
messages_left (stage.Asking a) = answers_left (stage.Asking a) + 1
messages_left (stage.Single s) = answers_left (stage.Single s) + 1
messages_left stage.Leaving = 0
messages_left (stage.Over code leaves) = 0

-- the greatest number of octets that the job still uses, by the fragments of the message that isn't whole and the
-- octets of the packet
abbrev pub budget : Stage → ℕ → ℕ → ℕ
budget stage fragments held = messages_left stage * octets_of_message - (fragments * 8200 + held)

-- the greatest number of octets that aren't queued yet: those of 8 telegrams
abbrev pub most_unput : ℕ
most_unput = 8 * most_packets

-- the effect of the confirm or of a message on what the client holds, whatever the course is
pub record Settles (config : Config) (t : Talk) (u : UnderWay) (t' : Talk) (u' : UnderWay) : Type 0 where
  pub reader : t'.reader ≡ t.reader
  pub none : t'.outbox.unsent ≡ []
  pub few : (size : ℕ) → 128 ≤ size → length (unput_of config size u'.running) ≤ most_unput
  pub not_before : IsOpening u'.running.stage → ⊥
  -- one message fewer is left to take
  pub fewer : messages_left u'.running.stage + 1 ≤ messages_left u.running.stage
  pub room : u'.carried.room ≡ u.carried.room
  pub waited : u'.waited ≡ u.waited

-- ---- packets at fault

-- the error number of a TPDU that isn't allowed; while the confirm is awaited it is that of a failed connect
abbrev pub unexpected_at : Stage → ℕ
unexpected_at stage.Opening = not_connected
unexpected_at (stage.Asking a) = bad_packet
unexpected_at (stage.Single s) = bad_packet
unexpected_at stage.Leaving = bad_packet
unexpected_at (stage.Over code leaves) = bad_packet

abbrev pub code_at : Stage → ReadFault → ℕ
code_at s BadFrame = bad_packet
code_at s FrameTooLong = message_too_long
code_at s BadTpdu = bad_packet
code_at s Unexpected = unexpected_at s
code_at s TooManyFragments = message_too_fragmented
code_at s TooLong = message_too_long

-- ---- what is queued

-- Telegrams were queued after those that were queued before, or none was. What is still to be sent stays the same.
pub record Queues (config : Config) (t : Talk) (r : Running) (t' : Talk) (r' : Running) : Type 0 where
  pub pending : pending config t' r' ≡ pending config t r
  pub reader : t'.reader ≡ t.reader
  pub sequence : t'.sequence ≡ t.sequence
  pub same : ((t'.outbox.unsent ≡ t.outbox.unsent) × (r' ≡ r)) ⊎ (IsAsking r.stage × IsAsking r'.stage)
  pub follows : (granted : Option Grant) (rows : List Row) → Follows r config granted rows
      → Follows r' config granted rows
  pub awaits : (carried : List ℕ) → awaited_in r' carried ≡ awaited_in r carried
  pub as_many : answers_left r'.stage ≡ answers_left r.stage
  pub job : r'.job ≡ r.job

-- The next telegrams were queued, if the outbox was empty and there was one. What is still to be sent stays the same.
pub record Puts (config : Config) (t : Talk) (r : Running) (t' : Talk) (r' : Running) : Type 0 where
  pub pending : pending config t' r' ≡ pending config t r
  -- if the outbox is empty after that, nothing is left to send
  pub none : t'.outbox.unsent ≡ [] → (size : ℕ) → unput_of config size r' ≡ []
  pub few : length t.outbox.unsent ≤ most_waiting → length t'.outbox.unsent ≤ most_waiting
  pub reader : t'.reader ≡ t.reader
  pub sequence : t'.sequence ≡ t.sequence
  pub same : ((t'.outbox.unsent ≡ t.outbox.unsent) × (r' ≡ r)) ⊎ (IsAsking r.stage × IsAsking r'.stage)
  pub follows : (granted : Option Grant) (rows : List Row) → Follows r config granted rows
      → Follows r' config granted rows
  pub awaits : (carried : List ℕ) → awaited_in r' carried ≡ awaited_in r carried
  pub as_many : answers_left r'.stage ≡ answers_left r.stage
  pub job : r'.job ≡ r.job

-- The client is at a position of the course at which nothing was used yet, and what is still to be sent is all that
-- may be sent there.
pub record StartsAt (origin : Origin) (course : Course) (t : Talk) (r : Running) : Type 0 where
  pub size : size_in t ≡ course.size
  pub sequence : t.sequence ≡ course.sequence
  pub awaits : course.awaits ≡ awaited_in r []
  pub opens : IsOpening r.stage
      → ((plan_of origin.job origin.config origin.granted).first ≡ connect_request) × (course.rows ≡ [])
  pub follows : IsAsking r.stage → Follows r origin.config origin.granted course.rows
  pub departs : IsLeaving r.stage → (plan_of origin.job origin.config origin.granted).first ≡ disconnect_request
  pub out : course.out ≡ pending origin.config t r

-- The first questions of the job were asked, or its request was queued.
pub record BeginsTalk (config : Config) (t : Talk) (r : Running) (t' : Talk) (r' : Running) : Type 0 where
  pub starts : (origin : Origin) → origin.config ≡ config → r.job ≡ origin.job → size_in t ≡ (blank origin).size
      → t.sequence ≡ (blank origin).sequence → Begins r config origin.granted → StartsAt origin (begun origin) t' r'
  pub few : length t'.outbox.unsent ≤ most_packets
  pub quiet : IsOver r'.stage → t'.outbox.unsent ≡ []
  pub opening : IsOpening r.stage → IsOpening r'.stage
  pub opens : IsOpening r'.stage → IsOpening r.stage
  pub reader : t'.reader ≡ t.reader
  pub job : r'.job ≡ r.job
