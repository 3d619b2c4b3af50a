-- All that a partner of a pair says and hears, from its opening on.
use Rattle.std.proofs.Common.{◌≡◌, inl, inr, ℕ, ◌+◌, ◌&&◌, not, List, [], ◌∷◌, ◌++◌, refl, ap, sym, ◌∙◌, subst, arith}
use Rattle.std.proofs.Common.{if◌then◌else◌, append_assoc, append-nil}
use Rattle.std.specs.Prelude.{Option, None, Some}
use Rattle.s7_cotp.specs.Told.{ConnectionTold}
use Rattle.s7_cotp.specs.Spelling.{spelling_of_connect, spelling_of_confirm}
use Rattle.s7_tpkt.specs.Packets.{packet_of}
use Rattle.s7_wire.specs.Bounds.{size_of_code}
use Rattle.s7_wire.specs.Reading.{Event, opened, message}
use Rattle.s7_wire.specs.Sent.{sent_message, sent_messages}
use Rattle.s7_dialogue.specs.declared.config.Config.{Config}
use Rattle.s7_dialogue.specs.Course.{request_of}
use Rattle.s7_dialogue.specs.Dialogue.{asked_by}
use Rattle.s7_dialogue.specs.Question.{negotiates, question_octets}
use Rattle.s7_partner.specs.declared.role.Role.{Role}
use Rattle.s7_partner.specs.declared.role.Role.TheVariants.{Active, Passive}
use Rattle.s7_partner.specs.States.{State, start, starting_octets, Act, gives, reads, hands, acknowledges, confirmed}
use Rattle.s7_partner.specs.States.{opened_by, with_act, with_acts, after, Parcel, given_in, read_in, handed_from}
use Rattle.s7_partner.specs.States.{handed_in, is_sending}
use Rattle.s7_partner.specs.Acts.{AreTaken}
use Rattle.s7_partner.specs.Pairs.{IsConfig, sends_ended, sent_in}
use Rattle.s7_partner.proofs.ListLemmas.{head_same, tail_same}
use Rattle.s7_partner.proofs.PairFronts.{AreMessages, none, AreShort}
use Rattle.s7_partner.proofs.PairOpening.{OnlyMessages}
use Rattle.s7_partner.proofs.PairTelegrams.{Said, messages_of}
use Rattle.s7_partner.proofs.PairFacts.{same_still, none_of, not_some}
use Rattle.s7_partner.proofs.PairTalks.{Talk, quiet_talk, IsSpoken, says_short}
use Rattle.s7_partner.proofs.PairFollows.{start_of}
use Rattle.s7_partner.proofs.PairOpens.{waits, waiting_parcels, negotiating_of, IsAnswer, awaited, talk_of, zero_plus}

-- ---- nothing is read

pub record Unread (role : Role) (config : Config) (st : State) (acts : List Act) : Type 0 where
  pub out : (with_acts role config st acts).out ≡ starting_octets role config
  pub hands_them : handed_from role config st acts ≡ []
  pub ends_them : sends_ended role config st acts ≡ 0

gives_unread : (role : Role) (config : Config) (acts : List Act) (rid : ℕ) (body : List ℕ)
    → (AreTaken role config (waits (start role config) (Some (record { rid = rid; body = body }))) acts
    → Unread role config (waits (start role config) (Some (record { rid = rid; body = body }))) acts)
    → AreTaken role config (with_act role config (waits (start role config) None) (gives rid body)) acts
    → Unread role config (waits (start role config) None) (gives rid body ∷ acts)
unfolding with_act
gives_unread role config acts rid body later t =
    let k = later t in
    let st = waits (start role config) (Some (record { rid = rid; body = body })) in
    record {
      out = k.out;
      hands_them = k.hands_them;
      ends_them = zero_plus (sends_ended role config st acts) ∙ k.ends_them;
    }

unread_from : (role : Role) (config : Config) (acts : List Act) → read_in acts ≡ [] → (o : Option Parcel)
    → AreTaken role config (waits (start role config) o) acts → Unread role config (waits (start role config) o) acts
unread_from role config [] e o t = record { out = refl; hands_them = refl; ends_them = refl }
unread_from role config (gives rid body ∷ acts) e None t =
    gives_unread role config acts rid body
    (unread_from role config acts e (Some (record { rid = rid; body = body }))) t.1
unread_from role config (gives rid body ∷ acts) e (Some parcel) t = absurd (none_of _ t.0.1.idle)
unread_from role config (reads event ∷ acts) e o t = absurd (cc)
unread_from role config (hands ∷ acts) e o t = absurd (not_some t.0.1)
unread_from role config (acknowledges ∷ acts) e o t = absurd (not_some t.0.1)

-- a partner that read nothing
pub unread : (role : Role) (config : Config) (acts : List Act) → AreTaken role config (after role config []) acts
    → read_in acts ≡ [] → Unread role config (start role config) acts
unread role config acts t e = unread_from role config acts e None t

-- ---- the opening is read

-- the state behind it, where no block waits
abbrev opened_state : Role → Config → ConnectionTold → State
opened_state role config c = opened_by role config (start role config) c

opened_waits : (role : Role) (config : Config) (c : ConnectionTold) (o : Option Parcel)
    → opened_by role config (waits (start role config) o) c ≡ waits (negotiating_of (opened_state role config c)) o
opened_waits Active config c o = refl
opened_waits Passive config c o = refl

record Opened (role : Role) (config : Config) (c : ConnectionTold) (further : List Event) (st : State)
    (acts : List Act) (o : Option Parcel) : Type 0 where
  ms : List (List ℕ)
  hears : AreMessages further ms
  answer : List (List ℕ)
  says : List Said
  is_answer : IsAnswer role answer says
  out : (with_acts role config st acts).out
      ≡ (opened_state role config c).out
      ++ sent_messages (opened_state role config c).size (answer ++ messages_of says)
  talk : Talk (waiting_parcels o ++ given_in acts) (handed_from role config st acts)
      (sends_ended role config st acts) ms says

reads_opened : (role : Role) (config : Config) (acts : List Act) (c : ConnectionTold) (further : List Event)
    (o : Option Parcel) → IsConfig config → read_in acts ≡ further → OnlyMessages further
    → AreTaken role config (with_act role config (waits (start role config) o) (reads (opened c))) acts
    → Opened role config c further (waits (start role config) o) (reads (opened c) ∷ acts) o
unfolding with_act
reads_opened role config acts c further o is e only t =
    let st = waits (start role config) o in
    let base = opened_state role config c in
    let nx = waits (negotiating_of base) o in
    let same = opened_waits role config c o in
    let k = awaited role config is acts (subst OnlyMessages (sym e) only) base o
    (subst (λ z. AreTaken role config z acts) same t) in
    let n = sends_ended role config nx acts in
    record {
      ms = k.ms;
      hears = subst (λ es. AreMessages es k.ms) e k.hears;
      answer = k.answer;
      says = k.says;
      is_answer = k.is_answer;
      out = ap (λ (z : State). (with_acts role config z acts).out) same ∙ k.out;
      talk = talk_of (waiting_parcels o ++ given_in acts) _ (handed_from role config nx acts) _ n _ k.ms k.says refl
          (ap (λ z. handed_from role config z acts) same)
          (ap
          (λ (z : State). (if is_sending st && not (is_sending z) then 1 else 0) + sends_ended role config z acts)
          same
          ∙ (ap (λ z. z + n) (same_still (is_sending st)) ∙ zero_plus n))
          k.talk;
    }

gives_opened : (role : Role) (config : Config) (acts : List Act) (c : ConnectionTold) (further : List Event) (rid : ℕ)
    (body : List ℕ)
    → (let p : Parcel = record { rid = rid; body = body } in
    (AreTaken role config (waits (start role config) (Some p)) acts
    → Opened role config c further (waits (start role config) (Some p)) acts (Some p))
    → AreTaken role config (with_act role config (waits (start role config) None) (gives rid body)) acts
    → Opened role config c further (waits (start role config) None) (gives rid body ∷ acts) None)
unfolding with_act
gives_opened role config acts c further rid body later t =
    let p : Parcel = record { rid = rid; body = body } in
    let st = waits (start role config) (Some p) in
    let k = later t in
    let n = sends_ended role config st acts in
    record {
      ms = k.ms;
      hears = k.hears;
      answer = k.answer;
      says = k.says;
      is_answer = k.is_answer;
      out = k.out;
      talk = talk_of (p ∷ given_in acts) _ (handed_from role config st acts) _ n _ k.ms k.says refl refl
          (zero_plus n) k.talk;
    }

same_opened : (c c' : ConnectionTold) → opened c ≡ opened c' → c ≡ c'
same_opened c c' e = cc

no_message : (c : ConnectionTold) (m : List ℕ) (place : ℕ) → message m place ≡ opened c → ⊥
no_message c m place e = cc

opened_from : (role : Role) (config : Config) → IsConfig config → (c : ConnectionTold) (further : List Event)
    → OnlyMessages further → (acts : List Act) → read_in acts ≡ opened c ∷ further → (o : Option Parcel)
    → AreTaken role config (waits (start role config) o) acts
    → Opened role config c further (waits (start role config) o) acts o
opened_from role config is c further only [] e o t = absurd (cc)
opened_from role config is c further only (gives rid body ∷ acts) e None t =
    gives_opened role config acts c further rid body
    (opened_from role config is c further only acts e (Some (record { rid = rid; body = body }))) t.1
opened_from role config is c further only (gives rid body ∷ acts) e (Some parcel) t = absurd (none_of _ t.0.1.idle)
opened_from role config is c further only (reads (opened c') ∷ acts) e o t =
    let same = same_opened c' c (head_same (opened c') (opened c) (read_in acts) further e) in
    subst (λ z. Opened role config z further (waits (start role config) o) (reads (opened c') ∷ acts) o) same
    (reads_opened role config acts c' further o is (tail_same (opened c') (opened c) (read_in acts) further e) only t.1)
opened_from role config is c further only (reads (message m place) ∷ acts) e o t =
    absurd (no_message c m place (head_same (message m place) (opened c) (read_in acts) further e))
opened_from role config is c further only (hands ∷ acts) e o t = absurd (not_some t.0.1)
opened_from role config is c further only (acknowledges ∷ acts) e o t = absurd (not_some t.0.1)

-- ---- a side of a pair

-- The octets of a side are a packet that opens the link and messages behind it: the negotiation, and what is said; and
-- what comes of the messages that it heard.
pub record Side (role : Role) (config : Config) (acts : List Act) (body : List ℕ) (further : List Event) : Type 0 where
  pub ms : List (List ℕ)
  pub hears : AreMessages further ms
  pub first : List (List ℕ)
  pub says : List Said
  pub spoken : IsSpoken first says
  pub out : (after role config acts).out ≡ packet_of body ++ sent_messages 1024 (first ++ messages_of says)
  pub short : AreShort (first ++ messages_of says)
  pub talk : Talk (given_in acts) (handed_in role config acts) (sent_in role config acts) ms says

-- an active side that read nothing
pub active_unread : (config : Config) (acts : List Act) → AreTaken Active config (after Active config []) acts
    → read_in acts ≡ [] → Side Active config acts (spelling_of_connect (request_of config)) []
active_unread config acts t e =
    let u = unread Active config acts t e in
    record {
      ms = [];
      hears = none;
      first = [];
      says = [];
      spoken = inl (refl, refl);
      out = u.out ∙ sym (append-nil (packet_of (spelling_of_connect (request_of config))));
      short = tt;
      talk = talk_of (given_in acts) _ [] _ 0 _ [] [] refl u.hands_them u.ends_them (quiet_talk (given_in acts) []);
    }

-- and one that read the confirm
pub active_side : (config : Config) (acts : List Act) (c : ConnectionTold) (further : List Event) → IsConfig config
    → size_of_code c.size_code ≡ 1024 → OnlyMessages further → AreTaken Active config (after Active config []) acts
    → read_in acts ≡ opened c ∷ further
    → Side Active config acts (spelling_of_connect (request_of config)) further
active_side config acts c further is size only t e =
    let k = opened_from Active config is c further only acts e None t in
    let question = question_octets 1 (negotiates (asked_by config)) in
    let packet = packet_of (spelling_of_connect (request_of config)) in
    record {
      ms = k.ms;
      hears = k.hears;
      first = question ∷ [];
      says = k.says;
      spoken = inr (question, refl);
      out = k.out
          ∙ (ap (λ z. (packet ++ sent_message z question) ++ sent_messages z (k.answer ++ messages_of k.says)) size
          ∙ (ap (λ z. (packet ++ sent_message 1024 question) ++ sent_messages 1024 (z ++ messages_of k.says))
          k.is_answer
          ∙ append_assoc packet (sent_message 1024 question) (sent_messages 1024 (messages_of k.says))));
      short = (omega arith, says_short k.talk.pdu (start_of 0 (given_in acts)) k.says k.talk.most k.talk.follows);
      talk = k.talk;
    }

answer_spoken : (answer : List (List ℕ)) (says : List Said) → IsAnswer Passive answer says → IsSpoken answer says
answer_spoken answer says (inl h) = inl h
answer_spoken answer says (inr h) = inr (h.0, h.1)

answer_short : (answer : List (List ℕ)) (says : List Said) → IsAnswer Passive answer says → AreShort (messages_of says)
    → AreShort (answer ++ messages_of says)
answer_short answer says (inl h) short = subst (λ z. AreShort (z ++ messages_of says)) (sym h.0) short
answer_short answer says (inr h) short =
    subst (λ z. AreShort (z ++ messages_of says)) (sym h.1) (omega (arith, h.2), short)

-- a passive side that read the request
pub passive_side : (config : Config) (acts : List Act) (c : ConnectionTold) (further : List Event) → IsConfig config
    → size_of_code c.size_code ≡ 1024 → OnlyMessages further → AreTaken Passive config (after Passive config []) acts
    → read_in acts ≡ opened c ∷ further
    → Side Passive config acts (spelling_of_confirm (confirmed c)) further
passive_side config acts c further is size only t e =
    let k = opened_from Passive config is c further only acts e None t in
    let packet = packet_of (spelling_of_confirm (confirmed c)) in
    record {
      ms = k.ms;
      hears = k.hears;
      first = k.answer;
      says = k.says;
      spoken = answer_spoken k.answer k.says k.is_answer;
      out = k.out ∙ ap (λ z. packet ++ sent_messages z (k.answer ++ messages_of k.says)) size;
      short = answer_short k.answer k.says k.is_answer
          (says_short k.talk.pdu (start_of 0 (given_in acts)) k.says k.talk.most k.talk.follows);
      talk = k.talk;
    }
