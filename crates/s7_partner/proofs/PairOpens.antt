-- The acts of a partner until fragments go: before the link is opened, and while the negotiation is awaited.
use Rattle.std.proofs.Common.{◌≡◌, ◌⊎◌, inl, inr, ℕ, ◌+◌, ◌≤◌, ◌&&◌, not, min, max, Bool, true, false, List, [], ◌∷◌}
use Rattle.std.proofs.Common.{◌++◌, length, refl, ap, sym, ◌∙◌, subst, arith, if◌then◌else◌, nat_lt, append_assoc}
use Rattle.std.proofs.Common.{append-nil}
use Rattle.std.specs.Prelude.{Option, None, Some, Result, Ok, Err, ◌||◌}
use Rattle.std.proofs.lemmas.Bool.{ltb-false}
use Rattle.s7_header.specs.declared.header.Header.{Header}
use Rattle.s7_header.specs.declared.header.Kind.{Kind}
use Rattle.s7_header.specs.declared.header.Kind.TheVariants.{Job, Ack, AckData, User}
use Rattle.s7_header.specs.declared.faults.HeaderFault.{HeaderFault}
use Rattle.s7_header.specs.declared.faults.BadParams.{BadParams}
use Rattle.s7_header.specs.declared.negotiation.Negotiation.{Negotiation}
use Rattle.s7_header.specs.Header.{header_of, params_of}
use Rattle.s7_header.specs.Negotiation.{negotiation_of, negotiation_spelling, least_pdu}
use Rattle.s7_wire.specs.Reading.{opened, message}
use Rattle.s7_wire.specs.Sent.{sent_message, sent_messages}
use Rattle.s7_dialogue.specs.declared.config.Config.{Config}
use Rattle.s7_dialogue.specs.declared.grant.Grant.{Grant}
use Rattle.s7_dialogue.specs.Codes.{short_message, invalid_answer, negotiation_failed}
use Rattle.s7_dialogue.specs.Course.{next_sequence}
use Rattle.s7_dialogue.specs.Question.{negotiates, message_octets}
use Rattle.s7_dialogue.specs.Answer.{Answer, grants, tells, notes, stands, brings, uploads, slices, uploaded, announced, calls, refuses, answer_of}
use Rattle.s7_dialogue.specs.Dialogue.{asked_by, taken_grant}
use Rattle.s7_partner.specs.declared.role.Role.{Role}
use Rattle.s7_partner.specs.declared.role.Role.TheVariants.{Active, Passive}
use Rattle.s7_partner.specs.States.{Sending, negotiating, State, Act, gives, reads, hands, acknowledges, with_code}
use Rattle.s7_partner.specs.States.{goes, by_grant, by_answer, granted_by, by_negotiation, by_kind, by_header}
use Rattle.s7_partner.specs.States.{negotiated, with_message, with_act, with_acts, Parcel, given_in, read_in}
use Rattle.s7_partner.specs.States.{handed_from, is_sending}
use Rattle.s7_partner.specs.Acts.{AreTaken}
use Rattle.s7_partner.specs.Pairs.{IsConfig, sends_ended}
use Rattle.s7_partner.proofs.StateLemmas.{same_some}
use Rattle.s7_partner.proofs.PairFronts.{AreMessages, none, one}
use Rattle.s7_partner.proofs.PairOpening.{OnlyMessages}
use Rattle.s7_partner.proofs.PairTelegrams.{Said, piece, octets_of, messages_of}
use Rattle.s7_partner.proofs.PairTraces.{idle, busy, nothing, piece_out, first_out, Trace, gave, said, given, heard}
use Rattle.s7_partner.proofs.PairTraces.{delivered, ended}
use Rattle.s7_partner.proofs.PairFacts.{closed_facts, same_still, none_of, not_some}
use Rattle.s7_partner.proofs.PairGoing.{traced, only_later}
use Rattle.s7_partner.proofs.PairTalks.{Talk, quiet_talk, trace_talk}

-- ---- a block that waits for the negotiation

abbrev pub number_waiting : Option Parcel → ℕ
number_waiting None = 0
number_waiting (Some parcel) = 1

abbrev pub sending_waiting : Option Parcel → Option Sending
sending_waiting None = None
sending_waiting (Some parcel) =
    Some (record { number = 1; rid = parcel.rid; body = parcel.body; from = 0; sequence = None })

abbrev pub waiting_parcels : Option Parcel → List Parcel
waiting_parcels None = []
waiting_parcels (Some parcel) = parcel ∷ []

-- no fragment went out or came
abbrev pub waits : State → Option Parcel → State
waits s o = record s {
  number = number_waiting o;
  sending = sending_waiting o;
  receiving = None;
  whole = None;
  handed = None;
}

-- ---- the link was negotiated

-- what the acts make and tell from where fragments begin to go, by a trace
record Began (role : Role) (config : Config) (s nx : State) (acts : List Act) (o : Option Parcel)
    (pdu : ℕ) : Type 0 where
  trace : Trace pdu (idle 0) None nothing
  out : (with_acts role config nx acts).out ≡ s.out ++ sent_messages s.size (messages_of (said pdu trace))
  gives_them : waiting_parcels o ++ given_in acts ≡ given pdu trace
  hears : AreMessages (read_in acts) (heard pdu trace)
  hands_them : handed_from role config nx acts ≡ delivered pdu trace
  ends_them : sends_ended role config nx acts ≡ ended pdu trace

goes_began : (role : Role) (config : Config) (s : State) (acts : List Act) (o : Option Parcel) (pdu : ℕ)
    → OnlyMessages (read_in acts) → AreTaken role config (goes (waits s o) pdu) acts
    → Began role config s (goes (waits s o) pdu) acts o pdu
goes_began role config s acts None pdu only t =
    let later = traced role config pdu acts only s (idle 0) None nothing t in
    record {
      trace = later.trace;
      out = later.facts.out;
      gives_them = later.facts.gives_them;
      hears = later.facts.hears;
      hands_them = later.facts.hands_them;
      ends_them = later.facts.ends_them;
    }
goes_began role config s acts (Some parcel) pdu only t =
    let q = next_sequence s.sequence in
    let out = first_out 1 parcel.rid parcel.body q in
    let first = sent_message s.size (octets_of (piece q (piece_out pdu out))) in
    let s' : State = record s { sequence = q; out = s.out ++ first } in
    let later = traced role config pdu acts only s' (busy out) None nothing t in
    record {
      trace = gave 0 parcel.rid parcel.body q later.trace;
      out = later.facts.out
          ∙ append_assoc s.out first (sent_messages s.size (messages_of (said pdu later.trace)));
      gives_them = ap (λ z. parcel ∷ z) later.facts.gives_them;
      hears = later.facts.hears;
      hands_them = later.facts.hands_them;
      ends_them = later.facts.ends_them;
    }

-- ---- while the negotiation is awaited

-- what the acts make and tell: with the negotiation a passive partner answers it
abbrev pub IsAnswer : Role → List (List ℕ) → List Said → Type 0
IsAnswer Active answer says = answer ≡ []
IsAnswer Passive answer says = ((answer ≡ []) × (says ≡ [])) ⊎ ((m : List ℕ) × (answer ≡ m ∷ []) × (length m ≤ 20))

pub record Spoken (role : Role) (config : Config) (s st : State) (acts : List Act) (o : Option Parcel) : Type 0 where
  pub ms : List (List ℕ)
  pub hears : AreMessages (read_in acts) ms
  pub answer : List (List ℕ)
  pub says : List Said
  pub is_answer : IsAnswer role answer says
  pub out : (with_acts role config st acts).out ≡ s.out ++ sent_messages s.size (answer ++ messages_of says)
  pub talk : Talk (waiting_parcels o ++ given_in acts) (handed_from role config st acts)
      (sends_ended role config st acts) ms says

no_answer : (role : Role) → IsAnswer role [] []
no_answer Active = refl
no_answer Passive = inl (refl, refl)

quiet : (role : Role) (config : Config) (s : State) (o : Option Parcel) → Spoken role config s (waits s o) [] o
quiet role config s o = record {
  ms = [];
  hears = none;
  answer = [];
  says = [];
  is_answer = no_answer role;
  out = sym (append-nil s.out);
  talk = quiet_talk (waiting_parcels o ++ []) [];
}

-- the state behind a message
record Reading (role : Role) (config : Config) (s : State) (acts : List Act) (o : Option Parcel) (m : List ℕ)
    (nx : State) : Type 0 where
  answer : List (List ℕ)
  says : List Said
  is_answer : IsAnswer role answer says
  out : (with_acts role config nx acts).out ≡ s.out ++ sent_messages s.size (answer ++ messages_of says)
  ms : List (List ℕ)
  hears : AreMessages (read_in acts) ms
  sends : is_sending nx ≡ is_sending (waits s o)
  talk : Talk (waiting_parcels o ++ given_in acts) (handed_from role config nx acts) (sends_ended role config nx acts)
      (m ∷ ms) says

abbrev ReadBy : Role → Config → State → List Act → Option Parcel → List ℕ → State → Type 0
ReadBy role config s acts o m nx = AreTaken role config nx acts → Reading role config s acts o m nx

pub talk_of : (gs gs' ps ps' : List Parcel) (n n' : ℕ) (ms : List (List ℕ)) (says : List Said) → gs' ≡ gs → ps' ≡ ps
    → n' ≡ n → Talk gs ps n ms says → Talk gs' ps' n' ms says
talk_of gs gs' ps ps' n n' ms says e f g t =
    subst (λ x. Talk x ps' n' ms says) (sym e)
    (subst (λ x. Talk gs x n' ms says) (sym f) (subst (λ x. Talk gs ps x ms says) (sym g) t))

shut_reading : (role : Role) (config : Config) (s : State) (acts : List Act) (o : Option Parcel) (m : List ℕ) (code : ℕ)
    → ReadBy role config s acts o m (with_code (waits s o) code)
shut_reading role config s acts o m code t =
    let f = closed_facts role config (with_code (waits s o) code) acts code refl t in
    record {
      answer = [];
      says = [];
      is_answer = no_answer role;
      out = f.out;
      ms = [];
      hears = f.hears;
      sends = refl;
      talk = talk_of _ _ [] _ 0 _ (m ∷ []) [] refl f.hands_them f.ends_them
          (quiet_talk (waiting_parcels o ++ given_in acts) (m ∷ []));
    }

goes_sends : (s s' : State) (o : Option Parcel) (pdu : ℕ) → is_sending (goes (waits s o) pdu) ≡ is_sending (waits s' o)
goes_sends s s' None pdu = refl
goes_sends s s' (Some parcel) pdu = refl

-- fragments go behind an answer, or with none
goes_reading : (role : Role) (config : Config) (s s' : State) (acts : List Act) (o : Option Parcel) (m : List ℕ)
    (pdu : ℕ) (answer : List (List ℕ)) → 64 ≤ pdu → pdu ≤ 1920 → ((says : List Said) → IsAnswer role answer says)
    → ((says : List Said) → s'.out ++ sent_messages s'.size (messages_of says)
    ≡ s.out ++ sent_messages s.size (answer ++ messages_of says))
    → OnlyMessages (read_in acts)
    → ReadBy role config s acts o m (goes (waits s' o) pdu)
goes_reading role config s s' acts o m pdu answer least most is sent only t =
    let f = goes_began role config s' acts o pdu only t in
    record {
      answer = answer;
      says = said pdu f.trace;
      is_answer = is (said pdu f.trace);
      out = f.out ∙ sent (said pdu f.trace);
      ms = heard pdu f.trace;
      hears = f.hears;
      sends = goes_sends s' s o pdu;
      talk = talk_of (given pdu f.trace) _ (delivered pdu f.trace) _ (ended pdu f.trace) _ (m ∷ heard pdu f.trace)
          (said pdu f.trace) f.gives_them f.hands_them f.ends_them (trace_talk pdu m f.trace least most);
    }

-- ---- an active partner hears the grant

abbrev grant_of : Config → Negotiation → Grant
grant_of config n = record { pdu = n.pdu; jobs = max 1 (min (min n.calling n.called) config.jobs) }

grant_within : (config : Config) (n : Negotiation) (granted : Grant) → taken_grant config n ≡ Some granted
    → (64 ≤ granted.pdu) × (granted.pdu ≤ config.pdu)
grant_within config n granted = by (nat_lt n.pdu least_pdu) (nat_lt config.pdu n.pdu) refl refl
  where
    by : (a b : Bool) → nat_lt n.pdu least_pdu ≡ a → nat_lt config.pdu n.pdu ≡ b
        → (if a || b then None else Some (grant_of config n)) ≡ Some granted
        → (64 ≤ granted.pdu) × (granted.pdu ≤ config.pdu)
    by true b e f g = absurd (cc)
    by false true e f g = absurd (cc)
    by false false e f g =
        let pdu : n.pdu ≡ granted.pdu = ap (λ (x : Grant). x.pdu) (same_some (grant_of config n) granted g) in
        (omega (arith, ltb-false n.pdu least_pdu e, pdu), omega (arith, ltb-false config.pdu n.pdu f, pdu))

grant_reading : (config : Config) (s : State) (acts : List Act) (o : Option Parcel) (m : List ℕ) (n : Negotiation)
    (g : Option Grant) → IsConfig config → taken_grant config n ≡ g → OnlyMessages (read_in acts)
    → ReadBy Active config s acts o m (by_grant (waits s o) g)
grant_reading config s acts o m n None is e only = shut_reading Active config s acts o m negotiation_failed
grant_reading config s acts o m n (Some granted) is e only =
    let within = grant_within config n granted e in
    goes_reading Active config s s acts o m granted.pdu [] within.0 (omega (arith, within.1, is.most_pdu))
    (λ says. refl)
    (λ says. refl) only

answer_reading : (config : Config) (s : State) (acts : List Act) (o : Option Parcel) (m : List ℕ) (a : Option Answer)
    → IsConfig config → OnlyMessages (read_in acts) → ReadBy Active config s acts o m (by_answer config (waits s o) a)
answer_reading config s acts o m None is only = shut_reading Active config s acts o m invalid_answer
answer_reading config s acts o m (Some (grants n)) is only =
    grant_reading config s acts o m n (taken_grant config n) is refl only
answer_reading config s acts o m (Some (refuses error)) is only =
    shut_reading Active config s acts o m negotiation_failed
answer_reading config s acts o m (Some (tells items)) is only =
    shut_reading Active config s acts o m negotiation_failed
answer_reading config s acts o m (Some (notes codes)) is only =
    shut_reading Active config s acts o m negotiation_failed
answer_reading config s acts o m (Some (stands status)) is only =
    shut_reading Active config s acts o m negotiation_failed
answer_reading config s acts o m (Some (brings octet more octets)) is only =
    shut_reading Active config s acts o m negotiation_failed
answer_reading config s acts o m (Some (uploads id size)) is only =
    shut_reading Active config s acts o m negotiation_failed
answer_reading config s acts o m (Some (slices more octets)) is only =
    shut_reading Active config s acts o m negotiation_failed
answer_reading config s acts o m (Some uploaded) is only =
    shut_reading Active config s acts o m negotiation_failed
answer_reading config s acts o m (Some announced) is only =
    shut_reading Active config s acts o m negotiation_failed
answer_reading config s acts o m (Some (calls sequence)) is only =
    shut_reading Active config s acts o m negotiation_failed

-- ---- a passive partner hears the negotiation

abbrev granting_octets : Config → ℕ → Negotiation → List ℕ
granting_octets config sequence asked =
    message_octets AckData sequence (negotiation_spelling (granted_by config asked)) []

granted_reading : (config : Config) (s : State) (acts : List Act) (o : Option Parcel) (m : List ℕ) (sequence : ℕ)
    (asked : Negotiation) (b : Bool) → IsConfig config → nat_lt asked.pdu least_pdu ≡ b → OnlyMessages (read_in acts)
    → ReadBy Passive config s acts o m
    (if b then with_code (waits s o) negotiation_failed
    else goes
    (waits (record s { out = s.out ++ sent_message s.size (granting_octets config sequence asked) }) o)
    (granted_by config asked).pdu)
granted_reading config s acts o m sequence asked true is e only =
    shut_reading Passive config s acts o m negotiation_failed
granted_reading config s acts o m sequence asked false is e only =
    let answer = granting_octets config sequence asked in
    let least = ltb-false asked.pdu least_pdu e in
    goes_reading Passive config s (record s { out = s.out ++ sent_message s.size answer }) acts o m
    (granted_by config asked).pdu (answer ∷ []) (omega (arith, least, is.least_pdu)) (omega (arith, is.most_pdu))
    (λ says. inr (answer, refl, omega arith))
    (λ says. append_assoc s.out (sent_message s.size answer) (sent_messages s.size (messages_of says))) only

asked_reading : (config : Config) (s : State) (acts : List Act) (o : Option Parcel) (m : List ℕ) (sequence : ℕ)
    (r : Result Negotiation BadParams) → IsConfig config → OnlyMessages (read_in acts)
    → ReadBy Passive config s acts o m (by_negotiation config (waits s o) sequence r)
asked_reading config s acts o m sequence (Err bad) is only = shut_reading Passive config s acts o m negotiation_failed
asked_reading config s acts o m sequence (Ok asked) is only =
    granted_reading config s acts o m sequence asked (nat_lt asked.pdu least_pdu) is refl only

kind_reading : (config : Config) (s : State) (acts : List Act) (o : Option Parcel) (m : List ℕ) (h : Header)
    (kind : Kind) → IsConfig config → OnlyMessages (read_in acts)
    → ReadBy Passive config s acts o m (by_kind config (waits s o) h m kind)
kind_reading config s acts o m h Job is only =
    asked_reading config s acts o m h.sequence (negotiation_of (params_of m h)) is only
kind_reading config s acts o m h Ack is only = shut_reading Passive config s acts o m negotiation_failed
kind_reading config s acts o m h AckData is only = shut_reading Passive config s acts o m negotiation_failed
kind_reading config s acts o m h User is only = shut_reading Passive config s acts o m negotiation_failed

header_reading : (config : Config) (s : State) (acts : List Act) (o : Option Parcel) (m : List ℕ)
    (r : Result Header HeaderFault) → IsConfig config → OnlyMessages (read_in acts)
    → ReadBy Passive config s acts o m (by_header config (waits s o) m r)
header_reading config s acts o m (Err fault) is only = shut_reading Passive config s acts o m negotiation_failed
header_reading config s acts o m (Ok h) is only = kind_reading config s acts o m h h.kind is only

-- ---- the negotiation is heard

negotiated_reading : (role : Role) (config : Config) (s : State) (acts : List Act) (o : Option Parcel) (m : List ℕ)
    → IsConfig config → OnlyMessages (read_in acts)
    → ReadBy role config s acts o m (negotiated role config (waits s o) m)
negotiated_reading Active config s acts o m is only =
    answer_reading config s acts o m (answer_of (negotiates (asked_by config)) 1 m) is only
negotiated_reading Passive config s acts o m is only = header_reading config s acts o m (header_of m) is only

long_reading : (role : Role) (config : Config) (s : State) (acts : List Act) (o : Option Parcel) (m : List ℕ) (b : Bool)
    → IsConfig config → OnlyMessages (read_in acts)
    → ReadBy role config s acts o m
    (if b then with_code (waits s o) short_message else negotiated role config (waits s o) m)
long_reading role config s acts o m true is only = shut_reading role config s acts o m short_message
long_reading role config s acts o m false is only = negotiated_reading role config s acts o m is only

abbrev pub negotiating_of : State → State
negotiating_of s = record s { stage = negotiating }

pub zero_plus : (n : ℕ) → 0 + n ≡ n
zero_plus n = omega arith

reads_spoken : (role : Role) (config : Config) (s : State) (acts : List Act) (o : Option Parcel) (m : List ℕ)
    (place : ℕ) → IsConfig config → OnlyMessages (read_in acts)
    → AreTaken role config (with_act role config (waits (negotiating_of s) o) (reads (message m place))) acts
    → Spoken role config (negotiating_of s) (waits (negotiating_of s) o) (reads (message m place) ∷ acts) o
unfolding with_act
reads_spoken role config s acts o m place is only t =
    let st = waits (negotiating_of s) o in
    let nx = with_message role config st m in
    let r = long_reading role config (negotiating_of s) acts o m (nat_lt (length m) 10) is only t in
    let n = sends_ended role config nx acts in
    record {
      ms = m ∷ r.ms;
      hears = one r.hears;
      answer = r.answer;
      says = r.says;
      is_answer = r.is_answer;
      out = r.out;
      talk = talk_of (waiting_parcels o ++ given_in acts) _ (handed_from role config nx acts) _ n _ (m ∷ r.ms) r.says
          refl refl
          (ap (λ b. (if is_sending st && not b then 1 else 0) + n) r.sends
          ∙ (ap (λ z. z + n) (same_still (is_sending st)) ∙ zero_plus n))
          r.talk;
    }

gives_spoken : (role : Role) (config : Config) (s : State) (acts : List Act) (rid : ℕ) (body : List ℕ)
    → (let p : Parcel = record { rid = rid; body = body } in
    (AreTaken role config (waits (negotiating_of s) (Some p)) acts
    → Spoken role config (negotiating_of s) (waits (negotiating_of s) (Some p)) acts (Some p))
    → AreTaken role config (with_act role config (waits (negotiating_of s) None) (gives rid body)) acts
    → Spoken role config (negotiating_of s) (waits (negotiating_of s) None) (gives rid body ∷ acts) None)
unfolding with_act
gives_spoken role config s acts rid body later t =
    let p : Parcel = record { rid = rid; body = body } in
    let st = waits (negotiating_of s) (Some p) in
    let k = later t in
    let n = sends_ended role config st acts in
    record {
      ms = k.ms;
      hears = k.hears;
      answer = k.answer;
      says = k.says;
      is_answer = k.is_answer;
      out = k.out;
      talk = talk_of (p ∷ given_in acts) _ (handed_from role config st acts) _ n _ k.ms k.says refl refl
          (zero_plus n) k.talk;
    }

pub awaited : (role : Role) (config : Config) → IsConfig config → (acts : List Act) → OnlyMessages (read_in acts)
    → (s : State) (o : Option Parcel) → AreTaken role config (waits (negotiating_of s) o) acts
    → Spoken role config (negotiating_of s) (waits (negotiating_of s) o) acts o
awaited role config is [] only s o t = quiet role config (negotiating_of s) o
awaited role config is (gives rid body ∷ acts) only s None t =
    gives_spoken role config s acts rid body (awaited role config is acts only s
    (Some (record { rid = rid; body = body }))) t.1
awaited role config is (gives rid body ∷ acts) only s (Some parcel) t = absurd (none_of _ t.0.1.idle)
awaited role config is (reads (opened c) ∷ acts) only s o t = elim only [ ]
awaited role config is (reads (message m place) ∷ acts) only s o t =
    reads_spoken role config s acts o m place is (only_later only) t.1
awaited role config is (hands ∷ acts) only s o t = absurd (not_some t.0.1)
awaited role config is (acknowledges ∷ acts) only s o t = absurd (not_some t.0.1)
