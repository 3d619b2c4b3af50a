-- The course of a job on its link: the effect of the octets that were used, and what may be sent. `s7_wire` defines
-- what is read in the octets: an opening, messages and faults. This file defines their effect on a job.
use Rattle.std.specs.Prelude.{ℕ, ◌+◌, zero, suc, Bool, false, ◌==◌, ◌&&◌, nat_lt, List, [], ◌∷◌, ◌++◌, length, is_none, Option, None, Some, if◌then◌else◌}
use Rattle.s7_outer.specs.Numbers.{two_octets}
use Rattle.s7_tpkt.specs.Packets.{packet_of, packets_of, rest_of, state_of}
use Rattle.s7_tpkt.specs.declared.state.FedState.{FedState}
use Rattle.s7_cotp.specs.Told.{ConnectionTold}
use Rattle.s7_cotp.specs.Spelling.{spelling_of_connect, spelling_of_disconnect}
use Rattle.s7_wire.specs.Bounds.{size_of_code}
use Rattle.s7_wire.specs.Sent.{sent_messages}
use Rattle.s7_wire.specs.Reading.{Event, opened, message, Ending, disconnected, faulted, Progress, limit_by, with_body, with_state}
use Rattle.s7_wire.specs.declared.found.Opening.TheVariants.{Confirm}
use Rattle.s7_wire.specs.declared.found.ReadFault.{ReadFault}
use Rattle.s7_wire.specs.declared.found.ReadFault.TheVariants.{BadFrame, FrameTooLong, BadTpdu, Unexpected, TooManyFragments, TooLong}
use Rattle.s7_dialogue.specs.declared.config.Config.{Config}
use Rattle.s7_dialogue.specs.declared.job.Job.{Job}
use Rattle.s7_dialogue.specs.declared.grant.Grant.{Grant}
use Rattle.s7_dialogue.specs.Codes.{not_connected, link_ended, bad_packet, short_message, message_too_fragmented, message_too_long, invalid_answer}
use Rattle.s7_dialogue.specs.Question.{Question, is_numbered, messages_of}
use Rattle.s7_dialogue.specs.Flight.{Row, answers_of, open_count, filled}
use Rattle.s7_dialogue.specs.Dialogue.{End, fault_end, Conduct, First, nothing, connect_request, disconnect_request, first_refusal, is_connect, plan_of}
pub use Rattle.s7_wire.specs.Reading.{Unfinished, nothing_unfinished}

-- where a job starts: the state of the client at that time
pub record Origin : Type 0 where
  pub job : Job
  pub config : Config
  -- what was granted; `None` on a client that isn't connected
  pub granted : Option Grant
  -- the TPDU size of the link, and the sequence of the last numbered telegram on it
  pub size : ℕ
  pub sequence : ℕ

-- what a job waits for
pub data Awaits : Type 0 where
  -- the confirm of the connection request
  for_confirm : Awaits
  -- answers to its questions
  for_answers : Awaits
  -- the transmission of its disconnect request
  for_departure : Awaits
  -- nothing: the job is over, with the message that was no answer, if there was one
  for_nothing : (end : End) → (carried : List ℕ) → Awaits

pub record Course : Type 0 where
  -- the questions that were asked, in order, with their answers
  pub rows : List Row
  -- the TPDU size of the link, and the message on it that isn't whole
  pub size : ℕ
  pub unfinished : Unfinished
  pub sequence : ℕ
  -- all octets that may have been sent by now
  pub out : List ℕ
  pub awaits : Awaits

-- ---- what is sent

-- the next sequence: 1, 2 and so on, and 1 again after FFFF, which is this profile's own
abbrev pub next_sequence : ℕ → ℕ
next_sequence sequence = if sequence == 0xFFFF then 1 else sequence + 1

-- the TPDU size to ask for, by its code and in octets (ISO 8073, 13.3.4); the choice is this profile's own
abbrev pub asked_size_code : ℕ
asked_size_code = 0x0A

-- the connection request (ISO 8073, 13.3): the client's reference is 0001, the class 00
abbrev pub request_of : Config → ConnectionTold
request_of config = record {
  dst_ref = 0;
  src_ref = 1;
  class = 0;
  size_code = asked_size_code;
  calling = two_octets config.calling;
  called = two_octets config.called;
}

abbrev pub connect_octets : Config → List ℕ
connect_octets config = packet_of (spelling_of_connect (request_of config))

-- a disconnect request by the user of the link (ISO 8073, 13.5)
abbrev pub disconnect_octets : List ℕ
disconnect_octets = packet_of (spelling_of_disconnect 1 1 0x80)

-- ---- what is asked

abbrev pub conduct_of : Origin → Conduct
conduct_of origin = (plan_of origin.job origin.config origin.granted).conduct

-- the question that may be asked next, if there is one: it may be asked while fewer questions are unanswered than
-- allowed, and no answer refuses
abbrev pub next_question : Conduct → List Row → Option Question
next_question c rows =
    if nat_lt (open_count rows) c.width && is_none (first_refusal c.refusal 0 (answers_of rows))
    then c.question_at (answers_of rows) else None

-- The last sequence once a question is asked. A question that is numbered is asked under the next sequence, and any
-- other question uses none.
abbrev pub sequence_behind : ℕ → Question → ℕ
sequence_behind sequence question = if is_numbered question then next_sequence sequence else sequence

-- the course after a question is asked
abbrev pub asked : Course → Question → Course
asked course question = record course {
  rows =
      course.rows
      ++ record { question = question; number = sequence_behind course.sequence question; answer = None } ∷ [];
  sequence = sequence_behind course.sequence question;
  out =
      course.out
      ++ sent_messages course.size (messages_of (sequence_behind course.sequence question) question);
}

abbrev pub if_some : Option Question → Course → (Question → Course) → Course
if_some None course later = course
if_some (Some question) course later = later question

-- the course after at most n questions are asked, one after another
unfoldable pub asked_on : ℕ → Conduct → Course → Course
asked_on zero c course = course
asked_on (suc others) c course =
    if_some (next_question c course.rows) course (λ question. asked_on others c (asked course question))

-- the job is over if no question is unanswered
abbrev pub settled : Conduct → Course → Course
settled c course = record course {
  awaits = if open_count course.rows == 0 then for_nothing (c.ended (answers_of course.rows)) [] else for_answers;
}

-- THE COURSE after all questions that may be asked now are asked
abbrev pub asking : Conduct → Course → Course
asking c course = settled c (asked_on c.width c course)

-- ---- the effect of a message

abbrev pub with_fault : Course → ℕ → Course
with_fault course code = record course { awaits = for_nothing (fault_end code) [] }

abbrev pub by_rows : Conduct → Course → List ℕ → Option (List Row) → Course
by_rows c course octets None = record course { awaits = for_nothing (fault_end invalid_answer) octets }
by_rows c course octets (Some rows) = asking c (record course { rows = rows })

-- the effect of a whole message: a header has at least ten octets (Snap7 1.4 sources, s7_types.h: TS7ReqHeader)
abbrev pub with_message : Conduct → Course → List ℕ → Course
with_message c course octets =
    if nat_lt (length octets) 10 then with_fault course short_message
    else by_rows c course octets (filled course.rows octets)

-- ---- the effect of what is read

-- the TPDU size by which the link is read; `None` while its opening is awaited
abbrev pub size_where : Awaits → ℕ → Option ℕ
size_where for_confirm size = None
size_where for_answers size = Some size
size_where for_departure size = Some size
size_where (for_nothing end carried) size = Some size

-- what was read from the link before its next packet
abbrev pub read_before : Course → Progress
read_before course = record {
  at = 0;
  size = size_where course.awaits course.size;
  unfinished = course.unfinished;
  events = [];
  ending = None;
}

-- the effect of an event: after the confirm the first questions are asked, and a message is taken
abbrev pub with_event : Conduct → Course → Event → Course
with_event c course (opened connection) = asking c (record course { size = size_of_code connection.size_code })
with_event c course (message octets at) = with_message c course octets

abbrev pub with_events : Conduct → Course → List Event → Course
with_events c course [] = course
with_events c course (event ∷ events) = with_events c (with_event c course event) events

-- the error number of a TPDU that isn't allowed; while the confirm is awaited it is that of a failed connect
abbrev pub unexpected_where : Awaits → ℕ
unexpected_where for_confirm = not_connected
unexpected_where for_answers = bad_packet
unexpected_where for_departure = bad_packet
unexpected_where (for_nothing end carried) = bad_packet

abbrev pub code_where : Awaits → ReadFault → ℕ
code_where awaits BadFrame = bad_packet
code_where awaits FrameTooLong = message_too_long
code_where awaits BadTpdu = bad_packet
code_where awaits Unexpected = unexpected_where awaits
code_where awaits TooManyFragments = message_too_fragmented
code_where awaits TooLong = message_too_long

abbrev pub with_ending : Course → Option Ending → Course
with_ending course None = course
with_ending course (Some disconnected) = with_fault course link_ended
with_ending course (Some (faulted fault at)) = with_fault course (code_where course.awaits fault)

-- the effect of what was read from one more packet
abbrev pub with_reading : Conduct → Course → Progress → Course
with_reading c course p = with_ending (with_events c (record course { unfinished = p.unfinished }) p.events) p.ending

-- a job that awaits no octets uses none
abbrev pub unless_over : Course → Course → Awaits → Course
unless_over next course for_confirm = next
unless_over next course for_answers = next
unless_over next course for_departure = course
unless_over next course (for_nothing end carried) = course

-- the effect of a packet with this body
unfoldable pub with_packet : Origin → Course → List ℕ → Course
with_packet origin course body =
    unless_over (with_reading (conduct_of origin) course (with_body Confirm (read_before course) body)) course
    course.awaits

-- ---- whole courses

-- the job is a connect on a client that isn't connected, which begins the link anew
abbrev pub begins_anew : Option Grant → Job → Bool
begins_anew None job = is_connect job
begins_anew (Some granted) job = false

-- the TPDU size and the last sequence at the start: a link that begins anew has the TPDU size that is asked for,
-- until the confirm states another, and its first sequence is 1
abbrev pub size_at : Bool → ℕ → ℕ
size_at anew size = if anew then size_of_code asked_size_code else size

abbrev pub sequence_at : Bool → ℕ → ℕ
sequence_at anew sequence = if anew then 0 else sequence

abbrev pub blank : Origin → Course
blank origin = record {
  rows = [];
  size = size_at (begins_anew origin.granted origin.job) origin.size;
  unfinished = nothing_unfinished;
  sequence = sequence_at (begins_anew origin.granted origin.job) origin.sequence;
  out = [];
  awaits = for_confirm;
}

abbrev pub by_first : Config → Conduct → Course → First → Course
by_first config c course nothing = asking c course
by_first config c course connect_request = record course { out = connect_octets config; awaits = for_confirm }
by_first config c course disconnect_request = record course { out = disconnect_octets; awaits = for_departure }

-- the course at the start of a job
unfoldable pub begun : Origin → Course
begun origin =
    by_first origin.config (conduct_of origin) (blank origin) (plan_of origin.job origin.config origin.granted).first

abbrev pub run : Origin → Course → List (List ℕ) → Course
run origin course [] = course
run origin course (body ∷ bodies) = run origin (with_packet origin course body) bodies

-- the greatest length of the next packet
abbrev pub limit_in : Course → ℕ
limit_in course = limit_by (size_where course.awaits course.size)

-- the greatest length of the next packet, by the bodies of the packets before it
abbrev pub limits : Origin → List (List ℕ) → ℕ
limits origin bodies = limit_in (run origin (begun origin) bodies)

-- the effect of octets that can't be a packet: they end a job that isn't over
abbrev pub with_rest : Course → FedState → Course
with_rest course state =
    unless_over (with_ending course (with_state (read_before course) state).ending) course course.awaits

-- the course after the whole packets
abbrev pub packets_run : Origin → List ℕ → Course
packets_run origin b = run origin (begun origin) (packets_of (limits origin) b)

-- THE COURSE of a job after the octets that it used
unfoldable pub course : Origin → List ℕ → Course
course origin b =
    with_rest (packets_run origin b)
    (state_of (limits origin (packets_of (limits origin) b)) (rest_of (limits origin) b))

-- THE OCTETS THAT MAY BE SENT after these octets were used
abbrev pub may_send : Origin → List ℕ → List ℕ
may_send origin b = (course origin b).out
