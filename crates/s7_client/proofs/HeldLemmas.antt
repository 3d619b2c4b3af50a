-- What each step of a course keeps, with the codes that octets give.
use Rattle.std.proofs.Common.{◌≡◌, ◌≢◌, ℕ, Bool, true, false, cond, ltb, Option, Some, None, List, [], ◌∷◌, length, refl, arith}
use Rattle.s7_tpkt.specs.Packets.{packets_of, rest_of, state_of}
use Rattle.s7_wire.specs.Bounds.{size_of_code}
use Rattle.s7_wire.specs.Reading.{Ending, Event, Progress, disconnected, faulted, message, opened, with_body, with_state}
use Rattle.s7_wire.specs.declared.found.Opening.TheVariants.{Confirm}
use Rattle.s7_wire.specs.declared.found.ReadFault.{ReadFault}
use Rattle.s7_wire.specs.declared.found.ReadFault.TheVariants.{BadFrame, FrameTooLong, BadTpdu, Unexpected, TooManyFragments, TooLong}
use Rattle.s7_dialogue.specs.Codes.{invalid_answer, link_ended, short_message}
use Rattle.s7_dialogue.specs.Flight.{Row, filled}
use Rattle.s7_dialogue.specs.Dialogue.{Conduct, fault_end}
use Rattle.s7_dialogue.specs.Course.{Awaits, Course, Origin, Unfinished, asking, begun, by_rows, code_where, conduct_of, course, for_answers, for_confirm, for_departure, for_nothing, limits, packets_run, read_before, run, unless_over, with_ending, with_event, with_events, with_fault, with_message, with_packet, with_reading}
use Rattle.s7_client.specs.Causes.{is_of_link}

-- a code with which octets that are no answer end a job
pub record IsOfOctets (code : ℕ) : Type 0 where
  pub some : code ≢ 0
  pub otherwise : is_of_link code ≡ false

-- P holds on, whatever comes.
pub record IsHeld (conduct : Conduct) (P : Course → Type 0) : Type 0 where
  pub faulted : (c : Course) (code : ℕ) (carried : List ℕ) → IsOfOctets code → P c
      → P (record c { awaits = for_nothing (fault_end code) carried })
  pub joined : (c : Course) (unfinished : Unfinished) → P c → P (record c { unfinished = unfinished })
  pub confirmed : (c : Course) (code : ℕ) → P c → P (asking conduct (record c { size = size_of_code code }))
  pub answered : (c : Course) (message : List ℕ) (rows : List Row) → filled c.rows message ≡ Some rows → P c
      → P (asking conduct (record c { rows = rows }))

read_code : (awaits : Awaits) (fault : ReadFault) → IsOfOctets (code_where awaits fault)
read_code awaits BadFrame = record { some = λ e. omega (arith, e); otherwise = refl }
read_code awaits FrameTooLong = record { some = λ e. omega (arith, e); otherwise = refl }
read_code awaits BadTpdu = record { some = λ e. omega (arith, e); otherwise = refl }
read_code for_confirm Unexpected = record { some = λ e. omega (arith, e); otherwise = refl }
read_code for_answers Unexpected = record { some = λ e. omega (arith, e); otherwise = refl }
read_code for_departure Unexpected = record { some = λ e. omega (arith, e); otherwise = refl }
read_code (for_nothing end carried) Unexpected = record { some = λ e. omega (arith, e); otherwise = refl }
read_code awaits TooManyFragments = record { some = λ e. omega (arith, e); otherwise = refl }
read_code awaits TooLong = record { some = λ e. omega (arith, e); otherwise = refl }

ended_code : IsOfOctets link_ended
ended_code = record { some = λ e. omega (arith, e); otherwise = refl }

short_code : IsOfOctets short_message
short_code = record { some = λ e. omega (arith, e); otherwise = refl }

no_answer_code : IsOfOctets invalid_answer
no_answer_code = record { some = λ e. omega (arith, e); otherwise = refl }

module _ (origin : Origin) (P : Course → Type 0) (keeps : IsHeld (conduct_of origin) P) where
  fault_held : (c : Course) (code : ℕ) → IsOfOctets code → P c → P (with_fault c code)
  fault_held c code is p = keeps.faulted c code [] is p

  rows_held : (c : Course) (octets : List ℕ) (rows : Option (List Row)) → filled c.rows octets ≡ rows → P c
      → P (by_rows (conduct_of origin) c octets rows)
  rows_held c octets None is p = keeps.faulted c invalid_answer octets no_answer_code p
  rows_held c octets (Some rows) is p = keeps.answered c octets rows is p

  if_held : (b : Bool) (x y : Course) → P x → P y → P (cond b x y)
  if_held true x y p q = p
  if_held false x y p q = q

  message_held : (c : Course) (octets : List ℕ) → P c → P (with_message (conduct_of origin) c octets)
  message_held c octets p =
      if_held (ltb (length octets) 10) _ _ (fault_held c short_message short_code p)
      (rows_held c octets (filled c.rows octets) refl p)

  event_held : (c : Course) (event : Event) → P c → P (with_event (conduct_of origin) c event)
  event_held c (opened connection) p = keeps.confirmed c connection.size_code p
  event_held c (message octets at) p = message_held c octets p

  events_held : (c : Course) (events : List Event) → P c → P (with_events (conduct_of origin) c events)
  events_held c [] p = p
  events_held c (event ∷ events) p =
      events_held (with_event (conduct_of origin) c event) events (event_held c event p)

  ending_held : (c : Course) (ending : Option Ending) → P c → P (with_ending c ending)
  ending_held c None p = p
  ending_held c (Some disconnected) p = fault_held c link_ended ended_code p
  ending_held c (Some (faulted fault at)) p = fault_held c _ (read_code c.awaits fault) p

  reading_held : (c : Course) (p : Progress) → P c → P (with_reading (conduct_of origin) c p)
  reading_held c p h =
      ending_held (with_events (conduct_of origin) (record c { unfinished = p.unfinished }) p.events) p.ending
      (events_held (record c { unfinished = p.unfinished }) p.events (keeps.joined c p.unfinished h))

  unless_held : (next c : Course) (awaits : Awaits) → P next → P c → P (unless_over next c awaits)
  unless_held next c for_confirm p q = p
  unless_held next c for_answers p q = p
  unless_held next c for_departure p q = q
  unless_held next c (for_nothing end carried) p q = q

  packet_held : (c : Course) (body : List ℕ) → P c → P (with_packet origin c body)
  unfolding with_packet
  packet_held c body p =
      unless_held _ c c.awaits (reading_held c (with_body Confirm (read_before c) body) p) p

  run_held : (c : Course) (bodies : List (List ℕ)) → P c → P (run origin c bodies)
  run_held c [] p = p
  run_held c (body ∷ bodies) p = run_held (with_packet origin c body) bodies (packet_held c body p)

  -- what holds at the start and is kept holds of the course after all octets
  pub course_held : P (begun origin) → (b : List ℕ) → P (course origin b)
  unfolding course
  course_held start b =
      let p = run_held (begun origin) (packets_of (limits origin) b) start in
      let c = packets_run origin b in
      let state = state_of (limits origin (packets_of (limits origin) b)) (rest_of (limits origin) b) in
      let ending = (with_state (read_before c) state).ending in
      unless_held (with_ending c ending) c c.awaits (ending_held c ending p) p
