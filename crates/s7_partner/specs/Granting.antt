-- How a message is read while the negotiation (Snap7 1.4 sources, s7_types.h: TReqFunNegotiateParams), or its
-- answer, is awaited.
use Rattle.std.specs.Prelude.{ℕ, nat_lt, if◌then◌else◌, List, [], ◌++◌, Option, None, Some, Result, Ok, Err}
use Rattle.s7_header.specs.declared.header.Header.{Header}
use Rattle.s7_header.specs.declared.header.Kind.{Kind}
use Rattle.s7_header.specs.declared.header.Kind.TheVariants.{Job, Ack, AckData, User}
use Rattle.s7_header.specs.declared.faults.HeaderFault.{HeaderFault}
use Rattle.s7_header.specs.declared.faults.BadParams.{BadParams}
use Rattle.s7_header.specs.declared.negotiation.Negotiation.{Negotiation}
use Rattle.s7_header.specs.Header.{header_of, params_of}
use Rattle.s7_header.specs.Negotiation.{negotiation_of, negotiation_spelling, least_pdu}
use Rattle.s7_wire.specs.Sent.{sent_message}
use Rattle.s7_dialogue.specs.declared.config.Config.{Config}
use Rattle.s7_dialogue.specs.declared.grant.Grant.{Grant}
use Rattle.s7_dialogue.specs.Codes.{negotiation_failed, invalid_answer}
use Rattle.s7_dialogue.specs.Question.{negotiates, message_octets}
use Rattle.s7_dialogue.specs.Answer.{Answer, grants, tells, notes, stands, brings, uploads, slices, uploaded, announced, calls, refuses, answer_of}
use Rattle.s7_dialogue.specs.Dialogue.{asked_by, taken_grant}
use Rattle.s7_partner.specs.States.{State, with_code, goes, granted_by}

-- ---- the answer to the negotiation

abbrev pub pdu_of_grant : Option Grant → Result ℕ ℕ
pdu_of_grant None = Err negotiation_failed
pdu_of_grant (Some granted) = Ok granted.pdu

-- the PDU that is granted, or an error number
abbrev pub pdu_of_answer : Config → Option Answer → Result ℕ ℕ
pdu_of_answer config None = Err invalid_answer
pdu_of_answer config (Some (grants n)) = pdu_of_grant (taken_grant config n)
pdu_of_answer config (Some (refuses error)) = Err negotiation_failed
pdu_of_answer config (Some (tells items)) = Err negotiation_failed
pdu_of_answer config (Some (notes codes)) = Err negotiation_failed
pdu_of_answer config (Some (stands status)) = Err negotiation_failed
pdu_of_answer config (Some (brings octet more octets)) = Err negotiation_failed
pdu_of_answer config (Some (uploads id size)) = Err negotiation_failed
pdu_of_answer config (Some (slices more octets)) = Err negotiation_failed
pdu_of_answer config (Some uploaded) = Err negotiation_failed
pdu_of_answer config (Some announced) = Err negotiation_failed
pdu_of_answer config (Some (calls sequence)) = Err negotiation_failed

abbrev pub granted_pdu : Config → List ℕ → Result ℕ ℕ
granted_pdu config octets = pdu_of_answer config (answer_of (negotiates (asked_by config)) 1 octets)

abbrev pub by_pdu : State → Result ℕ ℕ → State
by_pdu s (Ok pdu) = goes s pdu
by_pdu s (Err code) = with_code s code

-- ---- the negotiation

abbrev pub if_least : ℕ → Negotiation → Option (ℕ × Negotiation)
if_least sequence asked = if nat_lt asked.pdu least_pdu then None else Some (sequence, asked)

abbrev pub asked_by_params : ℕ → Result Negotiation BadParams → Option (ℕ × Negotiation)
asked_by_params sequence (Err bad) = None
asked_by_params sequence (Ok asked) = if_least sequence asked

abbrev pub asked_by_kind : Header → List ℕ → Kind → Option (ℕ × Negotiation)
asked_by_kind h octets Job = asked_by_params h.sequence (negotiation_of (params_of octets h))
asked_by_kind h octets Ack = None
asked_by_kind h octets AckData = None
asked_by_kind h octets User = None

abbrev pub asked_by_header : List ℕ → Result Header HeaderFault → Option (ℕ × Negotiation)
asked_by_header octets (Err fault) = None
asked_by_header octets (Ok h) = asked_by_kind h octets h.kind

-- the negotiation that a message asks for, with its sequence, if it can be granted
abbrev pub asked_in : List ℕ → Option (ℕ × Negotiation)
asked_in octets = asked_by_header octets (header_of octets)

abbrev pub by_asked : Config → State → Option (ℕ × Negotiation) → State
by_asked config s None = with_code s negotiation_failed
by_asked config s (Some asked) = goes
    (record s {
      out = s.out
          ++ sent_message s.size
          (message_octets AckData asked.0 (negotiation_spelling (granted_by config asked.1)) []);
    })
    (granted_by config asked.1).pdu
