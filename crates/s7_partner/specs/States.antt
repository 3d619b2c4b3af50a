-- The states of a partner: what it is given to send, what it reads, hands out and acknowledges, and what it may
-- send (Snap7 1.4 reference manual, `Par_BSend` and `Par_BRecv`).
use Rattle.std.specs.Prelude.{ℕ, ◌+◌, Bool, false, ◌==◌, ◌&&◌, not, nat_le, nat_lt, min, if◌then◌else◌, List, [], ◌∷◌}
use Rattle.std.specs.Prelude.{◌++◌, length, is_none, Option, None, Some, Result, Ok, Err}
use Rattle.s7_cotp.specs.Told.{ConnectionTold}
use Rattle.s7_cotp.specs.Spelling.{spelling_of_confirm}
use Rattle.s7_tpkt.specs.Packets.{packet_of}
use Rattle.s7_header.specs.declared.header.Header.{Header}
use Rattle.s7_header.specs.declared.header.Kind.{Kind}
use Rattle.s7_header.specs.declared.header.Kind.TheVariants.{Job, Ack, AckData, User}
use Rattle.s7_header.specs.declared.faults.HeaderFault.{HeaderFault}
use Rattle.s7_header.specs.declared.faults.BadParams.{BadParams}
use Rattle.s7_header.specs.declared.negotiation.Negotiation.{Negotiation}
use Rattle.s7_header.specs.Header.{header_of, params_of}
use Rattle.s7_header.specs.Negotiation.{negotiation_of, negotiation_spelling, least_pdu, jobs_granted}
use Rattle.s7_wire.specs.Bounds.{size_of_code}
use Rattle.s7_wire.specs.Sent.{sent_message}
use Rattle.s7_wire.specs.Reading.{Event, opened, message}
use Rattle.s7_dialogue.specs.declared.config.Config.{Config}
use Rattle.s7_dialogue.specs.declared.grant.Grant.{Grant}
use Rattle.s7_dialogue.specs.Codes.{negotiation_failed, short_message, invalid_answer}
use Rattle.s7_dialogue.specs.Question.{negotiates, question_octets, message_octets}
use Rattle.s7_dialogue.specs.Answer.{Answer, grants, tells, notes, stands, brings, uploads, slices, uploaded, announced, calls, refuses, answer_of}
use Rattle.s7_dialogue.specs.Dialogue.{asked_by, taken_grant}
use Rattle.s7_dialogue.specs.Course.{connect_octets, asked_size_code, next_sequence}
use Rattle.s7_partner.specs.declared.role.Role.{Role}
use Rattle.s7_partner.specs.declared.role.Role.TheVariants.{Active, Passive}
use Rattle.s7_partner.specs.Telegrams.{Piece, piece_from, piece_message, confirm_message, room, piece_in, confirms}
use Rattle.s7_partner.specs.Telegrams.{sequence_of}

-- ---- what a partner has

-- a block that is being sent
pub record Sending : Type 0 where
  pub number : ℕ
  pub rid : ℕ
  pub body : List ℕ
  -- the offset of the fragment in flight, or of the next one
  pub from : ℕ
  -- the sequence of that fragment, once it was sent
  pub sequence : Option ℕ

-- a block of which fragments have come
pub record Receiving : Type 0 where
  pub number : ℕ
  pub rid : ℕ
  -- the number of octets of the whole block
  pub total : ℕ
  pub octets : List ℕ

-- a block that has arrived whole, and the sequence and number for the acknowledgement of its last fragment
pub record Block : Type 0 where
  pub rid : ℕ
  pub octets : List ℕ
  pub sequence : ℕ
  pub number : ℕ

pub data Stage : Type 0 where
  -- the TPDU that opens the link is awaited: the confirm, or the request
  opening : Stage
  -- the negotiation, or its answer, is awaited
  negotiating : Stage
  -- fragments are exchanged, with this PDU
  going : (pdu : ℕ) → Stage
  -- messages closed the partner, with this error number
  closed : (code : ℕ) → Stage

pub record State : Type 0 where
  pub stage : Stage
  -- the TPDU size of the link
  pub size : ℕ
  -- the sequence of the last telegram that this side numbered
  pub sequence : ℕ
  -- the number of the last send
  pub number : ℕ
  pub sending : Option Sending
  pub receiving : Option Receiving
  -- a block that has arrived whole and wasn't handed out yet
  pub whole : Option Block
  -- a block that was handed out and whose last fragment isn't acknowledged yet
  pub handed : Option Block
  -- all octets that may have been sent by now
  pub out : List ℕ

abbrev pub starting_octets : Role → Config → List ℕ
starting_octets Active config = connect_octets config
starting_octets Passive config = []

abbrev pub start : Role → Config → State
start role config = record {
  stage = opening;
  size = size_of_code asked_size_code;
  sequence = 0;
  number = 0;
  sending = None;
  receiving = None;
  whole = None;
  handed = None;
  out = starting_octets role config;
}

-- ---- the acts of a partner

pub data Act : Type 0 where
  -- it is given a block to send
  gives : (rid : ℕ) → (body : List ℕ) → Act
  -- it reads an opening or a message
  reads : (event : Event) → Act
  -- it hands out the block that came whole
  hands : Act
  -- it acknowledges the last fragment of the block that it handed out
  acknowledges : Act

-- ---- fragments that are sent

-- the number of the next send: 1, 2 and so on, and 1 again after 255, which is this profile's own
abbrev pub next_number : ℕ → ℕ
next_number number = if number == 0xFF then 1 else number + 1

-- the next fragment is sent with the next sequence
abbrev pub with_piece : State → ℕ → Sending → State
with_piece s pdu sending = record s {
  sequence = next_sequence s.sequence;
  sending = Some (record sending { sequence = Some (next_sequence s.sequence) });
  out = s.out
      ++ sent_message s.size
      (piece_message (next_sequence s.sequence) (piece_from pdu sending.number sending.rid sending.body sending.from));
}

abbrev pub if_sending : State → ℕ → Option Sending → State
if_sending s pdu None = s
if_sending s pdu (Some sending) = with_piece s pdu sending

-- a fragment is sent only on a link that was negotiated
abbrev pub if_going : State → Stage → State
if_going s opening = s
if_going s negotiating = s
if_going s (going pdu) = if_sending s pdu s.sending
if_going s (closed code) = s

abbrev pub given : State → ℕ → List ℕ → State
given s rid body =
    if_going (record s {
      number = next_number s.number;
      sending = Some (record {
        number = next_number s.number;
        rid = rid;
        body = body;
        from = 0;
        sequence = None;
      });
    }) s.stage

-- ---- the opening

-- the confirm of a connection request (ISO 8073, 13.4): its destination is the source of the request, this side's
-- reference is 0001, the class 00
abbrev pub confirmed : ConnectionTold → ConnectionTold
confirmed c = record {
  dst_ref = c.src_ref;
  src_ref = 1;
  class = 0;
  size_code = c.size_code;
  calling = c.calling;
  called = c.called;
}

-- the effect of the opening: after the confirm an active partner asks for the negotiation (Snap7 1.4 sources,
-- s7_types.h: TReqFunNegotiateParams), and a passive one confirms the request
abbrev pub opened_by : Role → Config → State → ConnectionTold → State
opened_by Active config s c = record s {
  stage = negotiating;
  size = size_of_code c.size_code;
  sequence = 1;
  out = s.out ++ sent_message (size_of_code c.size_code) (question_octets 1 (negotiates (asked_by config)));
}
opened_by Passive config s c = record s {
  stage = negotiating;
  size = size_of_code c.size_code;
  out = s.out ++ packet_of (spelling_of_confirm (confirmed c));
}

abbrev pub with_code : State → ℕ → State
with_code s code = record s { stage = closed code }

-- the state once the link was negotiated: the first fragment of a block that was given before is sent
abbrev pub goes : State → ℕ → State
goes s pdu = if_going (record s { stage = going pdu }) (going pdu)

abbrev pub by_grant : State → Option Grant → State
by_grant s None = with_code s negotiation_failed
by_grant s (Some granted) = goes s granted.pdu

-- the effect of the answer to the negotiation on an active partner
abbrev pub by_answer : Config → State → Option Answer → State
by_answer config s None = with_code s invalid_answer
by_answer config s (Some (grants n)) = by_grant s (taken_grant config n)
by_answer config s (Some (refuses error)) = with_code s negotiation_failed
by_answer config s (Some (tells items)) = with_code s negotiation_failed
by_answer config s (Some (notes codes)) = with_code s negotiation_failed
by_answer config s (Some (stands status)) = with_code s negotiation_failed
by_answer config s (Some (brings octet more octets)) = with_code s negotiation_failed
by_answer config s (Some (uploads id size)) = with_code s negotiation_failed
by_answer config s (Some (slices more octets)) = with_code s negotiation_failed
by_answer config s (Some uploaded) = with_code s negotiation_failed
by_answer config s (Some announced) = with_code s negotiation_failed
by_answer config s (Some (calls sequence)) = with_code s negotiation_failed

-- what a passive partner grants: at most the PDU of its configuration, and one to eight jobs in each direction,
-- this profile's own limits
abbrev pub granted_by : Config → Negotiation → Negotiation
granted_by config asked = record {
  calling = jobs_granted asked.calling;
  called = jobs_granted asked.called;
  pdu = min asked.pdu config.pdu;
}

-- a passive partner answers a negotiation
abbrev pub granting : Config → State → ℕ → Negotiation → State
granting config s sequence asked =
    if nat_lt asked.pdu least_pdu then with_code s negotiation_failed
    else goes
    (record s {
      out = s.out
          ++ sent_message s.size
          (message_octets AckData sequence (negotiation_spelling (granted_by config asked)) []);
    })
    (granted_by config asked).pdu

abbrev pub by_negotiation : Config → State → ℕ → Result Negotiation BadParams → State
by_negotiation config s sequence (Err bad) = with_code s negotiation_failed
by_negotiation config s sequence (Ok asked) = granting config s sequence asked

abbrev pub by_kind : Config → State → Header → List ℕ → Kind → State
by_kind config s h octets Job = by_negotiation config s h.sequence (negotiation_of (params_of octets h))
by_kind config s h octets Ack = with_code s negotiation_failed
by_kind config s h octets AckData = with_code s negotiation_failed
by_kind config s h octets User = with_code s negotiation_failed

abbrev pub by_header : Config → State → List ℕ → Result Header HeaderFault → State
by_header config s octets (Err fault) = with_code s negotiation_failed
by_header config s octets (Ok h) = by_kind config s h octets h.kind

abbrev pub negotiated : Role → Config → State → List ℕ → State
negotiated Active config s octets = by_answer config s (answer_of (negotiates (asked_by config)) 1 octets)
negotiated Passive config s octets = by_header config s octets (header_of octets)

-- ---- fragments and their acknowledgements (Snap7 1.4 reference manual, `Par_BSend` and `Par_BRecv`)

-- a message acknowledges the fragment in flight
abbrev pub is_awaited : Option ℕ → ℕ → List ℕ → Bool
is_awaited None number octets = false
is_awaited (Some sequence) number octets = confirms sequence number octets

abbrev pub is_acknowledged : Option Sending → List ℕ → Bool
is_acknowledged None octets = false
is_acknowledged (Some sending) octets = is_awaited sending.sequence sending.number octets

-- the effect of that acknowledgement: the next fragment is sent; after the last one the block was sent
abbrev pub sent_on : State → ℕ → Sending → State
sent_on s pdu sending =
    if nat_lt (sending.from + room pdu) (length sending.body)
    then with_piece s pdu (record sending { from = sending.from + room pdu })
    else record s { sending = None }

abbrev pub acknowledged : State → ℕ → Option Sending → State
acknowledged s pdu None = s
acknowledged s pdu (Some sending) = sent_on s pdu sending

-- a fragment continues its block: only a fragment with octets may have successors, and after the last one all
-- octets have come
abbrev pub goes_on_with : ℕ → List ℕ → Piece → Bool
goes_on_with total came p =
    if p.more then nat_lt 0 (length p.octets) && nat_le (length came + length p.octets) total
    else length came + length p.octets == total

-- a fragment is kept: it is acknowledged if more follow, and else the block is whole
abbrev pub kept : State → ℕ → Receiving → Piece → State
kept s sequence r p =
    if p.more
    then record s {
      receiving = Some (record r { octets = r.octets ++ p.octets });
      out = s.out ++ sent_message s.size (confirm_message sequence p.number);
    }
    else record s {
      receiving = None;
      whole = Some (record {
        rid = r.rid;
        octets = r.octets ++ p.octets;
        sequence = sequence;
        number = p.number;
      });
    }

abbrev pub if_goes_on : State → ℕ → Receiving → Piece → State
if_goes_on s sequence r p =
    if goes_on_with r.total r.octets p then kept s sequence r p else with_code s invalid_answer

-- the effect of the first fragment of a block
abbrev pub begun : State → ℕ → Piece → Option ℕ → State
begun s sequence p None = with_code s invalid_answer
begun s sequence p (Some total) =
    if_goes_on s sequence (record { number = p.number; rid = p.rid; total = total; octets = [] }) p

-- a further fragment has the number and the R_ID of its block
abbrev pub is_of : Receiving → Piece → Bool
is_of r p = p.number == r.number && p.rid == r.rid

abbrev pub by_piece : State → ℕ → Option Receiving → Option Piece → State
by_piece s sequence r None = with_code s invalid_answer
by_piece s sequence None (Some p) = begun s sequence p p.total
by_piece s sequence (Some r) (Some p) =
    if is_of r p then if_goes_on s sequence r p else with_code s invalid_answer

abbrev pub exchanged : State → ℕ → List ℕ → State
exchanged s pdu octets =
    if is_acknowledged s.sending octets then acknowledged s pdu s.sending
    else by_piece s (sequence_of octets) s.receiving (piece_in (is_none s.receiving) octets)

-- ---- acts

abbrev pub by_stage : Role → Config → State → List ℕ → Stage → State
by_stage role config s octets opening = s
by_stage role config s octets negotiating = negotiated role config s octets
by_stage role config s octets (going pdu) = exchanged s pdu octets
by_stage role config s octets (closed code) = s

-- the effect of a message, which has at least ten octets (Snap7 1.4 sources, s7_types.h: TS7ReqHeader)
abbrev pub with_message : Role → Config → State → List ℕ → State
with_message role config s octets =
    if nat_lt (length octets) 10 then with_code s short_message else by_stage role config s octets s.stage

abbrev pub with_event : Role → Config → State → Event → State
with_event role config s (opened c) = opened_by role config s c
with_event role config s (message octets at) = with_message role config s octets

abbrev pub handed_out : State → Option Block → State
handed_out s None = s
handed_out s (Some block) = record s { whole = None; handed = Some block }

abbrev pub last_acknowledged : State → Option Block → State
last_acknowledged s None = s
last_acknowledged s (Some block) = record s {
  handed = None;
  out = s.out ++ sent_message s.size (confirm_message block.sequence block.number);
}

-- WHAT AN ACT DOES to a partner's state
unfoldable pub with_act : Role → Config → State → Act → State
with_act role config s (gives rid body) = given s rid body
with_act role config s (reads event) = with_event role config s event
with_act role config s hands = handed_out s s.whole
with_act role config s acknowledges = last_acknowledged s s.handed

abbrev pub with_acts : Role → Config → State → List Act → State
with_acts role config s [] = s
with_acts role config s (act ∷ acts) = with_acts role config (with_act role config s act) acts

-- THE STATE OF A PARTNER after these acts
abbrev pub after : Role → Config → List Act → State
after role config acts = with_acts role config (start role config) acts

-- ---- what follows from the acts

-- a block that is sent or received
pub record Parcel : Type 0 where
  pub rid : ℕ
  pub body : List ℕ

abbrev pub given_by : Act → List Parcel
given_by (gives rid body) = record { rid = rid; body = body } ∷ []
given_by (reads event) = []
given_by hands = []
given_by acknowledges = []

-- the blocks that were given to be sent, in order
abbrev pub given_in : List Act → List Parcel
given_in [] = []
given_in (act ∷ acts) = given_by act ++ given_in acts

abbrev pub read_by : Act → List Event
read_by (gives rid body) = []
read_by (reads event) = event ∷ []
read_by hands = []
read_by acknowledges = []

-- the events that were read, in order
abbrev pub read_in : List Act → List Event
read_in [] = []
read_in (act ∷ acts) = read_by act ++ read_in acts

abbrev pub parcel_of : Option Block → List Parcel
parcel_of None = []
parcel_of (Some block) = record { rid = block.rid; body = block.octets } ∷ []

abbrev pub handed_by : State → Act → List Parcel
handed_by s (gives rid body) = []
handed_by s (reads event) = []
handed_by s hands = parcel_of s.whole
handed_by s acknowledges = []

-- the blocks that were handed out, in order
abbrev pub handed_from : Role → Config → State → List Act → List Parcel
handed_from role config s [] = []
handed_from role config s (act ∷ acts) = handed_by s act ++ handed_from role config (with_act role config s act) acts

abbrev pub handed_in : Role → Config → List Act → List Parcel
handed_in role config acts = handed_from role config (start role config) acts

-- a block is being sent and isn't acknowledged yet
abbrev pub is_sending : State → Bool
is_sending s = not (is_none s.sending)
