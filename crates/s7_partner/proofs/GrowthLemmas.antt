-- What may be sent only grows.
use Rattle.std.proofs.Common.{◌≡◌, ℕ, Bool, true, false, List, [], ◌∷◌, ◌++◌, length, refl, ap, sym, ◌∙◌, append-nil}
use Rattle.std.proofs.Common.{append_assoc, if◌then◌else◌, nat_lt}
use Rattle.std.specs.Prelude.{Option, None, Some, Result, Ok, Err, is_none}
use Rattle.s7_cotp.specs.Told.{ConnectionTold}
use Rattle.s7_header.specs.declared.header.Header.{Header}
use Rattle.s7_header.specs.declared.header.Kind.{Kind}
use Rattle.s7_header.specs.declared.header.Kind.TheVariants.{Job, Ack, AckData, User}
use Rattle.s7_header.specs.declared.faults.HeaderFault.{HeaderFault}
use Rattle.s7_header.specs.declared.faults.BadParams.{BadParams}
use Rattle.s7_header.specs.declared.negotiation.Negotiation.{Negotiation}
use Rattle.s7_header.specs.Header.{header_of, params_of}
use Rattle.s7_header.specs.Negotiation.{negotiation_of, negotiation_spelling, least_pdu}
use Rattle.s7_wire.specs.Sent.{sent_message}
use Rattle.s7_wire.specs.Reading.{Event, opened, message}
use Rattle.s7_dialogue.specs.declared.config.Config.{Config}
use Rattle.s7_dialogue.specs.declared.grant.Grant.{Grant}
use Rattle.s7_dialogue.specs.Question.{negotiates, message_octets}
use Rattle.s7_dialogue.specs.Answer.{Answer, grants, tells, notes, stands, brings, uploads, slices, uploaded, announced, calls, refuses, answer_of}
use Rattle.s7_dialogue.specs.Dialogue.{asked_by, taken_grant}
use Rattle.s7_partner.specs.declared.role.Role.{Role}
use Rattle.s7_partner.specs.declared.role.Role.TheVariants.{Active, Passive}
use Rattle.s7_partner.specs.Telegrams.{Piece, piece_in, sequence_of}
use Rattle.s7_partner.specs.States.{Sending, Receiving, Block, Stage, opening, negotiating, going, closed, State, Act}
use Rattle.s7_partner.specs.States.{gives, reads, hands, acknowledges, if_sending, if_going, given, next_number}
use Rattle.s7_partner.specs.States.{opened_by, goes, by_grant, by_answer, granted_by, granting, by_negotiation}
use Rattle.s7_partner.specs.States.{by_kind, by_header, negotiated, is_acknowledged, acknowledged, goes_on_with, kept}
use Rattle.s7_partner.specs.States.{if_goes_on, begun, is_of, by_piece, exchanged, by_stage, with_message, with_event}
use Rattle.s7_partner.specs.States.{handed_out, last_acknowledged, with_act, with_acts}
use Rattle.s7_partner.specs.Partners.{IsPrefixOf}

pub prefix_same : (xs : List ℕ) → IsPrefixOf xs xs
prefix_same xs = ([], sym (append-nil xs))

pub prefix_more : (xs more : List ℕ) → IsPrefixOf xs (xs ++ more)
prefix_more xs more = (more, refl)

pub prefix_both : (xs ys zs : List ℕ) → IsPrefixOf xs ys → IsPrefixOf ys zs → IsPrefixOf xs zs
prefix_both xs ys zs p q = (p.0 ++ q.0, q.1 ∙ (ap (λ x. x ++ q.0) p.1 ∙ append_assoc xs p.0 q.0))

pub prefix_to : (xs ys zs : List ℕ) → IsPrefixOf xs ys → ys ≡ zs → IsPrefixOf xs zs
prefix_to xs ys zs p e = (p.0, sym e ∙ p.1)

-- All that might be sent may still be sent, and the TPDU size stays.
abbrev pub Grows : State → State → Type 0
Grows s s' = IsPrefixOf s.out s'.out × (s'.size ≡ s.size)

if_both : (b : Bool) (s p q : State) → Grows s p → Grows s q → Grows s (if b then p else q)
if_both true s p q g h = g
if_both false s p q g h = h

sending_grows : (s : State) (pdu : ℕ) (o : Option Sending) → Grows s (if_sending s pdu o)
sending_grows s pdu None = (prefix_same s.out, refl)
sending_grows s pdu (Some sending) = (prefix_more s.out _, refl)

going_grows : (s : State) (stage : Stage) → Grows s (if_going s stage)
going_grows s opening = (prefix_same s.out, refl)
going_grows s negotiating = (prefix_same s.out, refl)
going_grows s (going pdu) = sending_grows s pdu s.sending
going_grows s (closed code) = (prefix_same s.out, refl)

opened_grows : (role : Role) (config : Config) (s : State) (c : ConnectionTold)
    → IsPrefixOf s.out (opened_by role config s c).out
opened_grows Active config s c = prefix_more s.out _
opened_grows Passive config s c = prefix_more s.out _

grant_grows : (s : State) (o : Option Grant) → Grows s (by_grant s o)
grant_grows s None = (prefix_same s.out, refl)
grant_grows s (Some granted) = going_grows (record s { stage = going granted.pdu }) (going granted.pdu)

answer_grows : (config : Config) (s : State) (o : Option Answer) → Grows s (by_answer config s o)
answer_grows config s None = (prefix_same s.out, refl)
answer_grows config s (Some (grants n)) = grant_grows s (taken_grant config n)
answer_grows config s (Some (refuses error)) = (prefix_same s.out, refl)
answer_grows config s (Some (tells items)) = (prefix_same s.out, refl)
answer_grows config s (Some (notes codes)) = (prefix_same s.out, refl)
answer_grows config s (Some (stands status)) = (prefix_same s.out, refl)
answer_grows config s (Some (brings octet more octets)) = (prefix_same s.out, refl)
answer_grows config s (Some (uploads id size)) = (prefix_same s.out, refl)
answer_grows config s (Some (slices more octets)) = (prefix_same s.out, refl)
answer_grows config s (Some uploaded) = (prefix_same s.out, refl)
answer_grows config s (Some announced) = (prefix_same s.out, refl)
answer_grows config s (Some (calls sequence)) = (prefix_same s.out, refl)

-- behind something that is put too
goes_grows : (s p : State) (pdu : ℕ) → Grows s p → Grows s (goes p pdu)
goes_grows s p pdu g =
    let h = going_grows (record p { stage = going pdu }) (going pdu) in
    (prefix_both s.out p.out (goes p pdu).out g.0 h.0, h.1 ∙ g.1)

granting_grows : (config : Config) (s : State) (sequence : ℕ) (n : Negotiation) → Grows s (granting config s sequence n)
granting_grows config s sequence n =
    let more = sent_message s.size
    (message_octets AckData sequence (negotiation_spelling (granted_by config n)) []) in
    if_both (nat_lt n.pdu least_pdu) s _ _ (prefix_same s.out, refl)
    (goes_grows s (record s { out = s.out ++ more }) (granted_by config n).pdu (prefix_more s.out more, refl))

negotiation_grows : (config : Config) (s : State) (sequence : ℕ) (r : Result Negotiation BadParams)
    → Grows s (by_negotiation config s sequence r)
negotiation_grows config s sequence (Err bad) = (prefix_same s.out, refl)
negotiation_grows config s sequence (Ok asked) = granting_grows config s sequence asked

kind_grows : (config : Config) (s : State) (h : Header) (octets : List ℕ) (kind : Kind)
    → Grows s (by_kind config s h octets kind)
kind_grows config s h octets Job = negotiation_grows config s h.sequence (negotiation_of (params_of octets h))
kind_grows config s h octets Ack = (prefix_same s.out, refl)
kind_grows config s h octets AckData = (prefix_same s.out, refl)
kind_grows config s h octets User = (prefix_same s.out, refl)

header_grows : (config : Config) (s : State) (octets : List ℕ) (r : Result Header HeaderFault)
    → Grows s (by_header config s octets r)
header_grows config s octets (Err fault) = (prefix_same s.out, refl)
header_grows config s octets (Ok h) = kind_grows config s h octets h.kind

negotiated_grows : (role : Role) (config : Config) (s : State) (octets : List ℕ)
    → Grows s (negotiated role config s octets)
negotiated_grows Active config s octets = answer_grows config s (answer_of (negotiates (asked_by config)) 1 octets)
negotiated_grows Passive config s octets = header_grows config s octets (header_of octets)

acknowledged_grows : (s : State) (pdu : ℕ) (o : Option Sending) → Grows s (acknowledged s pdu o)
acknowledged_grows s pdu None = (prefix_same s.out, refl)
acknowledged_grows s pdu (Some sending) =
    if_both (nat_lt _ (length sending.body)) s _ _ (prefix_more s.out _, refl) (prefix_same s.out, refl)

kept_grows : (s : State) (sequence : ℕ) (r : Receiving) (p : Piece) → Grows s (kept s sequence r p)
kept_grows s sequence r p = if_both p.more s _ _ (prefix_more s.out _, refl) (prefix_same s.out, refl)

on_grows : (s : State) (sequence : ℕ) (r : Receiving) (p : Piece) → Grows s (if_goes_on s sequence r p)
on_grows s sequence r p =
    if_both (goes_on_with r.total r.octets p) s _ _ (kept_grows s sequence r p) (prefix_same s.out, refl)

begun_grows : (s : State) (sequence : ℕ) (p : Piece) (o : Option ℕ) → Grows s (begun s sequence p o)
begun_grows s sequence p None = (prefix_same s.out, refl)
begun_grows s sequence p (Some total) =
    on_grows s sequence (record { number = p.number; rid = p.rid; total = total; octets = [] }) p

piece_grows : (s : State) (sequence : ℕ) (r : Option Receiving) (p : Option Piece) → Grows s (by_piece s sequence r p)
piece_grows s sequence None None = (prefix_same s.out, refl)
piece_grows s sequence (Some r) None = (prefix_same s.out, refl)
piece_grows s sequence None (Some p) = begun_grows s sequence p p.total
piece_grows s sequence (Some r) (Some p) =
    if_both (is_of r p) s _ _ (on_grows s sequence r p) (prefix_same s.out, refl)

exchanged_grows : (s : State) (pdu : ℕ) (octets : List ℕ) → Grows s (exchanged s pdu octets)
exchanged_grows s pdu octets =
    if_both (is_acknowledged s.sending octets) s _ _ (acknowledged_grows s pdu s.sending)
    (piece_grows s (sequence_of octets) s.receiving (piece_in (is_none s.receiving) octets))

stage_grows : (role : Role) (config : Config) (s : State) (octets : List ℕ) (stage : Stage)
    → Grows s (by_stage role config s octets stage)
stage_grows role config s octets opening = (prefix_same s.out, refl)
stage_grows role config s octets negotiating = negotiated_grows role config s octets
stage_grows role config s octets (going pdu) = exchanged_grows s pdu octets
stage_grows role config s octets (closed code) = (prefix_same s.out, refl)

pub message_grows : (role : Role) (config : Config) (s : State) (octets : List ℕ)
    → Grows s (with_message role config s octets)
message_grows role config s octets =
    if_both (nat_lt (length octets) 10) s _ _ (prefix_same s.out, refl) (stage_grows role config s octets s.stage)

event_grows : (role : Role) (config : Config) (s : State) (event : Event)
    → IsPrefixOf s.out (with_event role config s event).out
event_grows role config s (opened c) = opened_grows role config s c
event_grows role config s (message octets at) = (message_grows role config s octets).0

pub handed_grows : (s : State) (o : Option Block) → Grows s (handed_out s o)
handed_grows s None = (prefix_same s.out, refl)
handed_grows s (Some block) = (prefix_same s.out, refl)

pub last_grows : (s : State) (o : Option Block) → Grows s (last_acknowledged s o)
last_grows s None = (prefix_same s.out, refl)
last_grows s (Some block) = (prefix_more s.out _, refl)

pub given_grows : (s : State) (rid : ℕ) (body : List ℕ) → Grows s (given s rid body)
given_grows s rid body = going_grows (record s {
  number = next_number s.number;
  sending = Some (record { number = next_number s.number; rid = rid; body = body; from = 0; sequence = None });
}) s.stage

pub act_grows : (role : Role) (config : Config) (s : State) (act : Act)
    → IsPrefixOf s.out (with_act role config s act).out
unfolding with_act
act_grows role config s (gives rid body) = (given_grows s rid body).0
act_grows role config s (reads event) = event_grows role config s event
act_grows role config s hands = (handed_grows s s.whole).0
act_grows role config s acknowledges = (last_grows s s.handed).0

pub acts_grow : (role : Role) (config : Config) (s : State) (acts : List Act)
    → IsPrefixOf s.out (with_acts role config s acts).out
acts_grow role config s [] = prefix_same s.out
acts_grow role config s (act ∷ acts) =
    prefix_both s.out (with_act role config s act).out (with_acts role config (with_act role config s act) acts).out
    (act_grows role config s act) (acts_grow role config (with_act role config s act) acts)
