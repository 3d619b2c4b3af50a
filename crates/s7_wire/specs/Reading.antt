-- What the octets of a link are read as, whichever side reads: a TPDU that opens the link, the messages after it,
-- and how the link ends. The octets are packets (RFC 1006, section 6) whose bodies are TPDUs of class 0 (ISO 8073,
-- 13.3 to 13.7).
use Rattle.std.specs.Prelude.{◌≡◌, ℕ, ◌+◌, ◌==◌, ◌&&◌, if◌then◌else◌, List, [], ◌∷◌, ◌++◌, length, Option, None, Some, Result, Ok, Err}
use Rattle.s7_tpkt.specs.Packets.{Packed, packets_of, rest_of, state_of}
use Rattle.s7_tpkt.specs.declared.state.FedState.{FedState}
use Rattle.s7_tpkt.specs.declared.state.FedState.TheVariants as fed
use Rattle.s7_cotp.specs.Told.{Told, ConnectionTold, connect, confirm, fragment, disconnect, reject}
use Rattle.s7_cotp.specs.Reading.{tpdu_of}
use Rattle.s7_cotp.specs.Messages as joining
use Rattle.s7_cotp.specs.Messages.{Fragment, octets_of, messages_of, Step, more, whole, too_many_fragments, too_long, joined_with}
use Rattle.s7_cotp.specs.declared.tpdu.CotpFault.{CotpFault}
use Rattle.s7_wire.specs.Bounds.{message_limit, first_limit, size_of_code, limit_of_size}
use Rattle.s7_wire.specs.declared.found.Opening.{Opening}
use Rattle.s7_wire.specs.declared.found.Opening.TheVariants.{Request, Confirm}
use Rattle.s7_wire.specs.declared.found.ReadFault.{ReadFault}
use Rattle.s7_wire.specs.declared.found.ReadFault.TheVariants.{BadFrame, FrameTooLong, BadTpdu, Unexpected, TooManyFragments, TooLong}

-- ---- the opening

-- the connection of the TPDU that opens: a connection request (ISO 8073, 13.3) or a connection confirm (13.4)
abbrev pub opening_of : Opening → Told → Option ConnectionTold
opening_of Request (connect c) = Some c
opening_of Request (confirm c) = None
opening_of Request (fragment last user) = None
opening_of Request (disconnect reason) = None
opening_of Request (reject cause) = None
opening_of Confirm (connect c) = None
opening_of Confirm (confirm c) = Some c
opening_of Confirm (fragment last user) = None
opening_of Confirm (disconnect reason) = None
opening_of Confirm (reject cause) = None

-- the greatest length of a packet: by the TPDU size (ISO 8073, 13.3.4), or before one is agreed
abbrev pub limit_by : Option ℕ → ℕ
limit_by None = first_limit
limit_by (Some size) = limit_of_size size

-- the TPDU size that an opening states (ISO 8073, 13.3.4)
abbrev pub size_told : Option ConnectionTold → Option ℕ
size_told None = None
size_told (Some c) = Some (size_of_code c.size_code)

-- the greatest length of the packets after the first one
abbrev pub limit_after : Opening → Result Told CotpFault → ℕ
limit_after opening (Ok told) = limit_by (size_told (opening_of opening told))
limit_after opening (Err fault) = first_limit

-- the greatest length of the next packet, by the bodies of the packets before it; the first of them opens
abbrev pub limits : Opening → List (List ℕ) → ℕ
limits opening [] = first_limit
limits opening (body ∷ bodies) = limit_after opening (tpdu_of body)

-- ---- what is read

-- the fragments of a message that isn't whole (ISO 8073, 13.7): their octets and their number
pub record Unfinished : Type 0 where
  pub octets : List ℕ
  pub count : ℕ

abbrev pub nothing_unfinished : Unfinished
nothing_unfinished = record { octets = []; count = 0 }

pub data Event : Type 0 where
  -- the link was opened
  opened : (connection : ConnectionTold) → Event
  -- a message is whole; `at` is the number of octets before the packet that ended it
  message : (octets : List ℕ) → (at : ℕ) → Event

pub data Ending : Type 0 where
  -- a disconnect request came (13.5)
  disconnected : Ending
  -- a packet is at fault; `at` is the number of octets before it
  faulted : (fault : ReadFault) → (at : ℕ) → Ending

pub record Progress : Type 0 where
  -- the number of octets of the packets so far
  pub at : ℕ
  -- the TPDU size; `None` before the opening
  pub size : Option ℕ
  pub unfinished : Unfinished
  pub events : List Event
  pub ending : Option Ending

-- no octet was read
abbrev pub start : Progress
start = record { at = 0; size = None; unfinished = nothing_unfinished; events = []; ending = None }

abbrev pub with_ending : Progress → Ending → Progress
with_ending p ending = record p { ending = Some ending }

abbrev pub with_fault : Progress → ReadFault → Progress
with_fault p fault = with_ending p (faulted fault p.at)

-- the number of octets read after a packet, which has four octets before its body (RFC 1006, section 6)
abbrev pub after_packet : ℕ → List ℕ → ℕ
after_packet at body = at + 4 + length body

-- before the opening no other TPDU may come (ISO 8073, 6.5)
abbrev pub with_opening : Progress → List ℕ → Option ConnectionTold → Progress
with_opening p body None = with_fault p Unexpected
with_opening p body (Some c) =
    record p {
      at = after_packet p.at body;
      size = Some (size_of_code c.size_code);
      events = p.events ++ opened c ∷ [];
    }

-- the effect of a fragment (ISO 8073, 13.7)
abbrev pub with_joining : Progress → List ℕ → Step → Progress
with_joining p body (more octets count) =
    record p { at = after_packet p.at body; unfinished = record { octets = octets; count = count } }
with_joining p body (whole octets) =
    record p {
      at = after_packet p.at body;
      unfinished = nothing_unfinished;
      events = p.events ++ message octets p.at ∷ [];
    }
with_joining p body too_many_fragments = with_fault p TooManyFragments
with_joining p body too_long = with_fault p TooLong

-- after the opening fragments may come (ISO 8073, 13.7), and a disconnect request ends the link (ISO 8073, 13.5)
abbrev pub connected : Progress → List ℕ → Told → Progress
connected p body (fragment last user) =
    with_joining p body
    (joined_with message_limit p.unfinished.octets p.unfinished.count (record { last = last; user = user }))
connected p body (disconnect reason) = with_ending p disconnected
connected p body (connect c) = with_fault p Unexpected
connected p body (confirm c) = with_fault p Unexpected
connected p body (reject cause) = with_fault p Unexpected

abbrev pub with_told : Opening → Progress → List ℕ → Option ℕ → Told → Progress
with_told opening p body None told = with_opening p body (opening_of opening told)
with_told opening p body (Some size) told = connected p body told

abbrev pub with_tpdu : Opening → Progress → List ℕ → Result Told CotpFault → Progress
with_tpdu opening p body (Err fault) = with_fault p BadTpdu
with_tpdu opening p body (Ok told) = with_told opening p body p.size told

-- after an ending nothing is read
abbrev pub unless_ended : Option Ending → Progress → Progress → Progress
unless_ended None next p = next
unless_ended (Some ending) next p = p

-- WHAT IS READ AFTER A PACKET WITH THIS BODY, by what was read before it
unfoldable pub with_body : Opening → Progress → List ℕ → Progress
with_body opening p body = unless_ended p.ending (with_tpdu opening p body (tpdu_of body)) p

abbrev pub with_bodies : Opening → Progress → List (List ℕ) → Progress
with_bodies opening p [] = p
with_bodies opening p (body ∷ bodies) = with_bodies opening (with_body opening p body) bodies

-- the octets after the last whole packet may show that they can't be a packet (RFC 1006, section 6)
abbrev pub with_state : Progress → FedState → Progress
with_state p fed.BadVersion = with_fault p BadFrame
with_state p fed.BadLength = with_fault p BadFrame
with_state p fed.TooLong = with_fault p FrameTooLong
with_state p fed.More = p
with_state p fed.Whole = p

abbrev pub with_rest : Progress → FedState → Progress
with_rest p state = unless_ended p.ending (with_state p state) p

-- what the octets after the last whole packet show
abbrev pub state_behind : Opening → List ℕ → FedState
state_behind opening b = state_of (limits opening (packets_of (limits opening) b)) (rest_of (limits opening) b)

-- WHAT OCTETS ARE READ AS
unfoldable pub reading : Opening → List ℕ → Progress
reading opening b = with_rest (with_bodies opening start (packets_of (limits opening) b)) (state_behind opening b)

-- ---- what is unfinished if no more octets come

-- the octets of the open packet; after an ending none is open
abbrev pub open_packet : Option Ending → List ℕ → List ℕ
open_packet None rest = rest
open_packet (Some ending) rest = []

-- A message with only empty fragments is unfinished too.
abbrev pub torn_by : ℕ → Unfinished → Option ℕ
torn_by held unfinished =
    if held == 0 && unfinished.count == 0 then None else Some (held + length unfinished.octets)

-- the number of octets of an open packet and an open message; `None` if neither is open
abbrev pub torn_of : Opening → List ℕ → Option ℕ
torn_of opening b =
    let p = reading opening b in
    torn_by (length (open_packet p.ending (rest_of (limits opening) b))) p.unfinished

-- ---- the messages

abbrev pub messages_in : List Event → List (List ℕ)
messages_in [] = []
messages_in (opened c ∷ events) = messages_in events
messages_in (message octets at ∷ events) = octets ∷ messages_in events

-- ---- what is known of readings

-- Later octets are read from where the earlier ones end: they add further packets and a new rest. It makes no
-- difference where octets are cut.
pub record ReadsOn (opening : Opening) (b rest : List ℕ) : Type 0 where
  pub further : List (List ℕ)
  pub packets : packets_of (limits opening) (b ++ rest) ≡ packets_of (limits opening) b ++ further
  pub reading : reading opening (b ++ rest)
      ≡ with_rest (with_bodies opening (reading opening b) further) (state_behind opening (b ++ rest))

-- Further events may follow, and the events before stay.
pub record GrowsTo (p p' : Progress) : Type 0 where
  pub further : List Event
  pub events : p'.events ≡ p.events ++ further

-- the number of octets of the packets with these bodies (RFC 1006, section 6)
abbrev pub octets_in : List (List ℕ) → ℕ
octets_in [] = 0
octets_in (body ∷ bodies) = 4 + length body + octets_in bodies

-- What comes after the packets `before` is at fault: the next packet, or, if there is none, octets that can't be the
-- beginning of a packet.
abbrev pub IsFaultAfter : Opening → List (List ℕ) → List (List ℕ) → List ℕ → Ending → Type 0
IsFaultAfter opening before [] rest ending =
    (with_state (with_bodies opening start before) (state_of (limits opening before) rest)).ending ≡ Some ending
IsFaultAfter opening before (body ∷ bodies) rest ending =
    (with_body opening (with_bodies opening start before) body).ending ≡ Some ending

-- THE PLACE OF A FAULT is the sum of the lengths of the packets before it. None of these ends the link, and they are
-- the octets up to the place.
pub record IsFaultPlace (opening : Opening) (b : List ℕ) (fault : ReadFault) (at : ℕ) : Type 0 where
  pub before : List (List ℕ)
  pub further : List (List ℕ)
  pub packets : packets_of (limits opening) b ≡ before ++ further
  pub sound : (with_bodies opening start before).ending ≡ None
  pub next : IsFaultAfter opening before further (rest_of (limits opening) b) (faulted fault at)
  pub sum : at ≡ octets_in before
  pub octets : List ℕ
  pub later : List ℕ
  pub cut : b ≡ octets ++ later
  pub packed : Packed (limits opening) [] octets before []
  pub place : length octets ≡ at

-- The bodies are data TPDUs with these fragments, in order (ISO 8073, 13.7).
abbrev pub AreData : List (List ℕ) → List Fragment → Type 0
AreData [] [] = Unit {0}
AreData [] (f ∷ fs) = ⊥
AreData (body ∷ bodies) [] = ⊥
AreData (body ∷ bodies) (f ∷ fs) = (tpdu_of body ≡ Ok (fragment f.last f.user)) × AreData bodies fs

-- The first body opens the link (ISO 8073, 13.3 and 13.4).
pub record Opens (opening : Opening) (body : List ℕ) (connection : ConnectionTold) : Type 0 where
  pub told : Told
  pub spelled : tpdu_of body ≡ Ok told
  pub opens : opening_of opening told ≡ Some connection

-- These bodies are read as an opening, and as the messages of the fragments after it.
pub record JoinsMessages (opening : Opening) (first : List ℕ) (bodies : List (List ℕ)) (p : Progress) : Type 0 where
  pub connection : ConnectionTold
  pub opens : Opens opening first connection
  pub further : List Event
  pub events : p.events ≡ opened connection ∷ further
  pub fragments : List Fragment
  pub spelled : AreData bodies fragments
  pub messages : messages_in p.events ≡ messages_of message_limit fragments
  pub octets : p.unfinished.octets ≡ octets_of (joining.rest_of message_limit fragments)
  pub count : p.unfinished.count ≡ length (joining.rest_of message_limit fragments)
