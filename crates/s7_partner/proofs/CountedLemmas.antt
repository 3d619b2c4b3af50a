-- As many blocks as were given were ended, but for one that is being sent.
use Rattle.std.proofs.Common.{◌≡◌, ℕ, ◌+◌, ◌&&◌, not, Bool, true, false, List, [], ◌∷◌, length, refl}
use Rattle.std.proofs.Common.{arith, if◌then◌else◌, length-append}
use Rattle.std.specs.Prelude.{Option, None, Some, Result, Ok, Err, is_none}
use Rattle.s7_header.specs.declared.header.Header.{Header}
use Rattle.s7_header.specs.declared.header.Kind.{Kind}
use Rattle.s7_header.specs.declared.header.Kind.TheVariants.{Job, Ack, AckData, User}
use Rattle.s7_header.specs.declared.faults.HeaderFault.{HeaderFault}
use Rattle.s7_header.specs.declared.faults.BadParams.{BadParams}
use Rattle.s7_header.specs.declared.negotiation.Negotiation.{Negotiation}
use Rattle.s7_header.specs.Header.{header_of, params_of}
use Rattle.s7_header.specs.Negotiation.{negotiation_of}
use Rattle.s7_wire.specs.Reading.{Event, opened, message}
use Rattle.s7_dialogue.specs.declared.config.Config.{Config}
use Rattle.s7_dialogue.specs.declared.grant.Grant.{Grant}
use Rattle.s7_dialogue.specs.Question.{negotiates}
use Rattle.s7_dialogue.specs.Answer.{Answer, grants, tells, notes, stands, brings, uploads, slices, uploaded, announced, calls, refuses, answer_of}
use Rattle.s7_dialogue.specs.Dialogue.{asked_by, taken_grant}
use Rattle.s7_partner.specs.declared.role.Role.{Role}
use Rattle.s7_partner.specs.declared.role.Role.TheVariants.{Active, Passive}
use Rattle.s7_partner.specs.Telegrams.{Piece, piece_in, sequence_of}
use Rattle.s7_partner.specs.States.{Stage, opening, negotiating, going, closed, State, Sending, Receiving, Act, gives}
use Rattle.s7_partner.specs.States.{reads, hands, acknowledges, with_act, with_acts, given_by, given_in, is_sending}
use Rattle.s7_partner.specs.States.{if_going, goes, by_grant, by_answer, by_negotiation, by_kind, by_header}
use Rattle.s7_partner.specs.States.{negotiated, granting, kept, if_goes_on, begun, by_piece, exchanged, by_stage}
use Rattle.s7_partner.specs.States.{Block, handed_out, last_acknowledged}
use Rattle.s7_partner.specs.States.{with_event, is_acknowledged, acknowledged}
use Rattle.s7_partner.specs.Acts.{MayTake, AreTaken}
use Rattle.s7_partner.specs.Pairs.{ends_send, sends_ended}

-- ---- nothing begins to be sent by what is read

abbrev Idle : State → Type 0
Idle s = s.sending ≡ None

if_idle : (s : State) (pdu : ℕ) → Idle s → Idle (goes s pdu)
if_idle s pdu e = rw e refl

out_idle : (s : State) (out : List ℕ) (pdu : ℕ) → Idle s → Idle (goes (record s { out = out }) pdu)
out_idle s out pdu e = if_idle (record s { out = out }) pdu e

granted_idle : (s : State) (o : Option Grant) → Idle s → Idle (by_grant s o)
granted_idle s None e = e
granted_idle s (Some granted) e = if_idle s granted.pdu e

answer_idle : (config : Config) (s : State) (o : Option Answer) → Idle s → Idle (by_answer config s o)
answer_idle config s None e = e
answer_idle config s (Some (grants n)) e = granted_idle s (taken_grant config n) e
answer_idle config s (Some (refuses error)) e = e
answer_idle config s (Some (tells items)) e = e
answer_idle config s (Some (notes codes)) e = e
answer_idle config s (Some (stands status)) e = e
answer_idle config s (Some (brings octet more octets)) e = e
answer_idle config s (Some (uploads id size)) e = e
answer_idle config s (Some (slices more octets)) e = e
answer_idle config s (Some uploaded) e = e
answer_idle config s (Some announced) e = e
answer_idle config s (Some (calls sequence)) e = e

cond_idle : (b : Bool) (x y : State) → Idle x → Idle y → Idle (if b then x else y)
cond_idle true x y h k = h
cond_idle false x y h k = k

granting_idle : (config : Config) (s : State) (sequence : ℕ) (n : Negotiation) → Idle s
    → Idle (granting config s sequence n)
granting_idle config s sequence n e = cond_idle _ _ _ e (out_idle s _ _ e)

negotiation_idle : (config : Config) (s : State) (sequence : ℕ) (r : Result Negotiation BadParams) → Idle s
    → Idle (by_negotiation config s sequence r)
negotiation_idle config s sequence (Err bad) e = e
negotiation_idle config s sequence (Ok n) e = granting_idle config s sequence n e

kind_idle : (config : Config) (s : State) (h : Header) (octets : List ℕ) (k : Kind) → Idle s
    → Idle (by_kind config s h octets k)
kind_idle config s h octets Job e = negotiation_idle config s h.sequence (negotiation_of (params_of octets h)) e
kind_idle config s h octets Ack e = e
kind_idle config s h octets AckData e = e
kind_idle config s h octets User e = e

header_idle : (config : Config) (s : State) (octets : List ℕ) (r : Result Header HeaderFault) → Idle s
    → Idle (by_header config s octets r)
header_idle config s octets (Err fault) e = e
header_idle config s octets (Ok h) e = kind_idle config s h octets h.kind e

negotiated_idle : (role : Role) (config : Config) (s : State) (octets : List ℕ) → Idle s
    → Idle (negotiated role config s octets)
negotiated_idle Active config s octets e =
    answer_idle config s (answer_of (negotiates (asked_by config)) 1 octets) e
negotiated_idle Passive config s octets e = header_idle config s octets (header_of octets) e

kept_idle : (b : Bool) (s : State) (sequence : ℕ) (r : Receiving) (p : Piece) → p.more ≡ b → Idle s
    → Idle (kept s sequence r p)
kept_idle true s sequence r p is e = rw is e
kept_idle false s sequence r p is e = rw is e

goes_on_idle : (s : State) (sequence : ℕ) (r : Receiving) (p : Piece) → Idle s → Idle (if_goes_on s sequence r p)
goes_on_idle s sequence r p e = cond_idle _ _ _ (kept_idle p.more s sequence r p refl e) e

begun_idle : (s : State) (sequence : ℕ) (p : Piece) (o : Option ℕ) → Idle s → Idle (begun s sequence p o)
begun_idle s sequence p None e = e
begun_idle s sequence p (Some total) e =
    goes_on_idle s sequence (record { number = p.number; rid = p.rid; total = total; octets = [] }) p e

piece_idle : (s : State) (sequence : ℕ) (r : Option Receiving) (p : Option Piece) → Idle s
    → Idle (by_piece s sequence r p)
piece_idle s sequence r None e = e
piece_idle s sequence None (Some p) e = begun_idle s sequence p p.total e
piece_idle s sequence (Some r) (Some p) e = cond_idle _ _ _ (goes_on_idle s sequence r p e) e

exchanged_by : (s : State) (pdu : ℕ) (octets : List ℕ) (o : Option Sending) (next : State) → o ≡ None → Idle next
    → Idle (if is_acknowledged o octets then acknowledged s pdu o else next)
exchanged_by s pdu octets None next none e = e
exchanged_by s pdu octets (Some x) next some e = absurd (cc)

exchanged_idle : (s : State) (pdu : ℕ) (octets : List ℕ) → Idle s → Idle (exchanged s pdu octets)
exchanged_idle s pdu octets e =
    exchanged_by s pdu octets s.sending _ e
    (piece_idle s (sequence_of octets) s.receiving (piece_in (is_none s.receiving) octets) e)

stage_idle : (role : Role) (config : Config) (s : State) (octets : List ℕ) (st : Stage) → Idle s
    → Idle (by_stage role config s octets st)
stage_idle role config s octets opening e = e
stage_idle role config s octets negotiating e = negotiated_idle role config s octets e
stage_idle role config s octets (going pdu) e = exchanged_idle s pdu octets e
stage_idle role config s octets (closed code) e = e

event_idle : (role : Role) (config : Config) (s : State) (event : Event) → Idle s
    → Idle (with_event role config s event)
event_idle Active config s (opened c) e = e
event_idle Passive config s (opened c) e = e
event_idle role config s (message octets at) e = cond_idle _ _ _ e (stage_idle role config s octets s.stage e)

-- ---- counts

abbrev pub pending : Bool → ℕ
pending b = if b then 1 else 0

read_counts : (a b : Bool) → (a ≡ false → b ≡ false) → pending a ≡ pending (a && not b) + pending b
read_counts true true h = refl
read_counts true false h = refl
read_counts false true h = absurd (let e = h refl in cc)
read_counts false false h = refl

is_idle : (o : Option Sending) → not (is_none o) ≡ false → o ≡ None
is_idle None e = refl
is_idle (Some x) e = absurd (cc)

idle_is : (s : State) → Idle s → is_sending s ≡ false
idle_is s e = rw e refl

given_sends : (s : State) (st : Stage) (n : ℕ) (x : Sending)
    → is_sending (if_going (record s { number = n; sending = Some x }) st) ≡ true
given_sends s opening n x = refl
given_sends s negotiating n x = refl
given_sends s (going pdu) n x = refl
given_sends s (closed code) n x = refl

same_counts : (a b : Bool) → b ≡ a → pending a ≡ pending (a && not b) + pending b
same_counts true b e = rw e refl
same_counts false b e = rw e refl

given_counts : (a b : Bool) → a ≡ false → b ≡ true → 1 + pending a ≡ pending (a && not b) + pending b
given_counts a b e f = rw (e, f) refl

pub sends_on : (s : State) (o : Option Block) → is_sending (last_acknowledged s o) ≡ is_sending s
sends_on s None = refl
sends_on s (Some block) = refl

pub hands_on : (s : State) (o : Option Block) → is_sending (handed_out s o) ≡ is_sending s
hands_on s None = refl
hands_on s (Some block) = refl

none_first : (x y : ℕ) → x ≡ y → 0 + x ≡ y
none_first x y e = omega (arith, e)

module _ (role : Role) (config : Config) where
  act_counts : (s : State) (act : Act) → MayTake s act
      → length (given_by act) + pending (is_sending s)
      ≡ pending (ends_send role config s act) + pending (is_sending (with_act role config s act))
  unfolding with_act
  act_counts s (gives rid body) t = given_counts _ _ (idle_is s t.1.idle) (given_sends s s.stage _ _)
  act_counts s (reads event) t =
      none_first _ _ (read_counts _ _ (λ e. idle_is (with_event role config s event) (event_idle role config s event (is_idle s.sending e))))
  act_counts s hands t = none_first _ _ (same_counts _ _ (hands_on s s.whole))
  act_counts s acknowledges t = none_first _ _ (same_counts _ _ (sends_on s s.handed))

  pub acts_count : (s : State) (acts : List Act) → AreTaken role config s acts
      → length (given_in acts) + pending (is_sending s)
      ≡ sends_ended role config s acts + pending (is_sending (with_acts role config s acts))
  acts_count s [] t = refl
  acts_count s (act ∷ acts) t =
      let next = with_act role config s act in
      let one = act_counts s act t.0 in
      let rest = acts_count next acts t.1 in
      let all = length-append (given_by act) (given_in acts) in
      omega (arith, one, rest, all)
