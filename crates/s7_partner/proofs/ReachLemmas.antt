-- States that a partner reaches.
use Rattle.std.proofs.Common.{◌≡◌, ℕ, ◌≤◌, Bool, true, false, nat_lt, if◌then◌else◌, List, [], ◌++◌, length, refl, ap}
use Rattle.std.proofs.Common.{sym, ◌∙◌, subst}
use Rattle.std.specs.Prelude.{Option, None, Some, option_map, Result, Ok, Err}
use Rattle.std.proofs.lemmas.Bool.{le-ltb}
use Rattle.s7_outer.specs.Held.{Held as Room}
use Rattle.s7_wire.specs.Outgoing.{Outgoing}
use Rattle.s7_wire.specs.Reads.{size_at}
use Rattle.s7_wire.specs.Sent.{sent_message}
use Rattle.s7_header.specs.declared.header.Header.{Header}
use Rattle.s7_header.specs.declared.header.Kind.{Kind}
use Rattle.s7_header.specs.declared.header.Kind.TheVariants.{Job, Ack, AckData, User}
use Rattle.s7_header.specs.declared.faults.HeaderFault.{HeaderFault}
use Rattle.s7_header.specs.declared.faults.BadParams.{BadParams}
use Rattle.s7_header.specs.declared.negotiation.Negotiation.{Negotiation}
use Rattle.s7_header.specs.Header.{header_of, params_of}
use Rattle.s7_header.specs.Negotiation.{negotiation_of, negotiation_spelling, least_pdu}
use Rattle.s7_dialogue.specs.declared.config.Config.{Config}
use Rattle.s7_dialogue.specs.declared.grant.Grant.{Grant}
use Rattle.s7_dialogue.specs.Codes.{negotiation_failed, short_message}
use Rattle.s7_dialogue.specs.Question.{negotiates, message_octets}
use Rattle.s7_dialogue.specs.Answer.{Answer, grants, tells, notes, stands, brings, uploads, slices, uploaded, announced, calls, refuses, answer_of}
use Rattle.s7_dialogue.specs.Dialogue.{asked_by, taken_grant}
use Rattle.s7_partner.specs.declared.role.Role.{Role}
use Rattle.s7_partner.specs.declared.role.Role.TheVariants.{Active, Passive}
use Rattle.s7_partner.specs.declared.partner.Partner.{Partner}
use Rattle.s7_partner.specs.declared.partner.Stage.TheVariants as held
use Rattle.s7_partner.specs.declared.partner.Arrived.{Arrived}
use Rattle.s7_partner.specs.States.{State, going, if_sending, with_code, goes, by_grant, by_answer, granted_by}
use Rattle.s7_partner.specs.States.{by_negotiation, by_kind, by_header, negotiated, exchanged, by_stage, with_message}
use Rattle.s7_partner.specs.Held.{stage_in, sending_in, receiving_in, block_in, HoldsHanded}
use Rattle.s7_partner.specs.Granting.{pdu_of_grant, pdu_of_answer, granted_pdu, by_pdu, asked_by_params}
use Rattle.s7_partner.specs.Granting.{asked_by_kind, asked_by_header, asked_in, by_asked}
use Rattle.s7_partner.specs.Outboxes.{Puts}
use Rattle.s7_partner.specs.At.{HoldsState, IsAt, KeepsLink, KeepsState, Reaches}
use Rattle.s7_partner.proofs.StateLemmas.{same_some, put_behind}

pub keeps_both : (a b c : Partner) → KeepsLink a b → KeepsLink b c → KeepsLink a c
keeps_both a b c k l = record {
  role = l.role ∙ k.role;
  config = l.config ∙ k.config;
  reader = l.reader ∙ k.reader;
  inbox = l.inbox ∙ k.inbox;
}

-- where both make the same of the states that the partner holds
pub reaches_same : (old new : Partner) (f g : State → State)
    → ((s : State) (written : List ℕ) → size_at old.reader ≡ Some s.size → IsAt old s written → f s ≡ g s)
    → Reaches old new f → Reaches old new g
reaches_same old new f g same r = record {
  keeps = r.keeps;
  reaches = λ s written size at.
      subst (λ (x : State). IsAt new x written) (same s written size at) (r.reaches s written size at);
}

-- first one, and then the other
pub reaches_both : (old mid new : Partner) (f g : State → State) → KeepsLink old mid
    → ((s : State) (written : List ℕ) → size_at old.reader ≡ Some s.size → IsAt old s written → IsAt mid (f s) written)
    → ((s : State) → (f s).size ≡ s.size) → Reaches mid new g → Reaches old new (λ s. g (f s))
reaches_both old mid new f g keeps first same_size r = record {
  keeps = keeps_both old mid new keeps r.keeps;
  reaches = λ s written size at.
      r.reaches (f s) written (ap size_at keeps.reader ∙ (size ∙ ap Some (sym (same_size s))))
      (first s written size at);
}

pub holds_same : (old new : Partner) (s : State) → KeepsState old new → HoldsState old s → HoldsState new s
holds_same old new s k h = record {
  stage = ap stage_in k.stage ∙ h.stage;
  sequence = k.sequence ∙ h.sequence;
  number = k.number ∙ h.number;
  sending = ap (option_map sending_in) k.sending ∙ h.sending;
  receiving =
      ap (λ (o : Room). option_map (receiving_in o.octets) new.receiving) k.octets
      ∙ (ap (option_map (receiving_in old.octets.octets)) k.receiving ∙ h.receiving);
  whole =
      ap (λ (o : Room). option_map (block_in o.octets) new.whole) k.octets
      ∙ (ap (option_map (block_in old.octets.octets)) k.whole ∙ h.whole);
  handed = subst (λ (x : Option Arrived). HoldsHanded x s.handed) (sym k.handed) h.handed;
}

-- octets are put
pub put_at : (old new : Partner) (octets : List ℕ) (s : State) (written : List ℕ) → KeepsState old new
    → Puts old.outbox new.outbox octets → IsAt old s written → IsAt new (record s { out = s.out ++ octets }) written
put_at old new octets s written k puts at =
    let h = holds_same old new s k at.holds in
    record {
      holds = record {
        stage = h.stage;
        sequence = h.sequence;
        number = h.number;
        sending = h.sending;
        receiving = h.receiving;
        whole = h.whole;
        handed = h.handed;
      };
      out = put_behind s.out written old.outbox.unsent new.outbox.unsent octets at.out puts.unsent;
    }

-- ---- the link is negotiated

-- only the stage is another one
going_at : (old mid : Partner) (pdu : ℕ) (s : State) (written : List ℕ) → mid.stage ≡ held.Going pdu
    → mid.sequence ≡ old.sequence → mid.number ≡ old.number → mid.sending ≡ old.sending
    → mid.receiving ≡ old.receiving → mid.octets ≡ old.octets → mid.whole ≡ old.whole → mid.handed ≡ old.handed
    → mid.outbox ≡ old.outbox → IsAt old s written → IsAt mid (record s { stage = going pdu }) written
going_at old mid pdu s written stage sequence number sending receiving octets whole handed outbox at =
    let h = at.holds in
    record {
      holds = record {
        stage = ap stage_in stage;
        sequence = sequence ∙ h.sequence;
        number = number ∙ h.number;
        sending = ap (option_map sending_in) sending ∙ h.sending;
        receiving =
            ap (λ (o : Room). option_map (receiving_in o.octets) mid.receiving) octets
            ∙ (ap (option_map (receiving_in old.octets.octets)) receiving ∙ h.receiving);
        whole =
            ap (λ (o : Room). option_map (block_in o.octets) mid.whole) octets
            ∙ (ap (option_map (block_in old.octets.octets)) whole ∙ h.whole);
        handed = subst (λ (x : Option Arrived). HoldsHanded x s.handed) (sym handed) h.handed;
      };
      out = at.out ∙ ap (λ (o : Outgoing). written ++ o.unsent) (sym outbox);
    }

pub sets_out : (old mid new : Partner) (pdu : ℕ) → KeepsLink old mid → mid.stage ≡ held.Going pdu
    → mid.sequence ≡ old.sequence → mid.number ≡ old.number → mid.sending ≡ old.sending
    → mid.receiving ≡ old.receiving → mid.octets ≡ old.octets → mid.whole ≡ old.whole → mid.handed ≡ old.handed
    → mid.outbox ≡ old.outbox → Reaches mid new (λ s. if_sending s pdu s.sending) → Reaches old new (λ s. goes s pdu)
sets_out old mid new pdu keeps stage sequence number sending receiving octets whole handed outbox r =
    reaches_both old mid new (λ s. record s { stage = going pdu }) (λ s. if_sending s pdu s.sending) keeps
    (λ s written size at.
    going_at old mid pdu s written stage sequence number sending receiving octets whole handed outbox at)
    (λ s. refl) r

-- ---- the negotiation is answered

-- what is made of the negotiation that a message asks for
least_by : (config : Config) (s : State) (sequence : ℕ) (n : Negotiation) (b : Bool)
    → (if b then with_code s negotiation_failed
    else goes
    (record s {
      out = s.out
          ++ sent_message s.size (message_octets AckData sequence (negotiation_spelling (granted_by config n)) []);
    })
    (granted_by config n).pdu)
    ≡ by_asked config s (if b then None else Some (sequence, n))
least_by config s sequence n true = refl
least_by config s sequence n false = refl

params_by : (config : Config) (s : State) (sequence : ℕ) (r : Result Negotiation BadParams)
    → by_negotiation config s sequence r ≡ by_asked config s (asked_by_params sequence r)
params_by config s sequence (Err bad) = refl
params_by config s sequence (Ok n) = least_by config s sequence n (nat_lt n.pdu least_pdu)

kind_by : (config : Config) (s : State) (h : Header) (octets : List ℕ) (kind : Kind)
    → by_kind config s h octets kind ≡ by_asked config s (asked_by_kind h octets kind)
kind_by config s h octets Job = params_by config s h.sequence (negotiation_of (params_of octets h))
kind_by config s h octets Ack = refl
kind_by config s h octets AckData = refl
kind_by config s h octets User = refl

header_by : (config : Config) (s : State) (octets : List ℕ) (r : Result Header HeaderFault)
    → by_header config s octets r ≡ by_asked config s (asked_by_header octets r)
header_by config s octets (Err fault) = refl
header_by config s octets (Ok h) = kind_by config s h octets h.kind

grant_by : (s : State) (o : Option Grant) → by_grant s o ≡ by_pdu s (pdu_of_grant o)
grant_by s None = refl
grant_by s (Some granted) = refl

answer_by : (config : Config) (s : State) (o : Option Answer) → by_answer config s o ≡ by_pdu s (pdu_of_answer config o)
answer_by config s None = refl
answer_by config s (Some (grants n)) = grant_by s (taken_grant config n)
answer_by config s (Some (refuses error)) = refl
answer_by config s (Some (tells items)) = refl
answer_by config s (Some (notes codes)) = refl
answer_by config s (Some (stands status)) = refl
answer_by config s (Some (brings octet more octets)) = refl
answer_by config s (Some (uploads id size)) = refl
answer_by config s (Some (slices more octets)) = refl
answer_by config s (Some uploaded) = refl
answer_by config s (Some announced) = refl
answer_by config s (Some (calls sequence)) = refl

pub negotiates_active : (old new : Partner) (octets : List ℕ) (role : Role) → role ≡ Active
    → Reaches old new (λ s. by_pdu s (granted_pdu old.config octets))
    → Reaches old new (λ s. negotiated role old.config s octets)
negotiates_active old new octets role is r =
    reaches_same old new (λ s. by_pdu s (granted_pdu old.config octets)) (λ s. negotiated role old.config s octets)
    (λ s written size at.
    sym (answer_by old.config s (answer_of (negotiates (asked_by old.config)) 1 octets))
    ∙ ap (λ (x : Role). negotiated x old.config s octets) (sym is)) r

pub negotiates_passive : (old new : Partner) (octets : List ℕ) (role : Role) → role ≡ Passive
    → Reaches old new (λ s. by_asked old.config s (asked_in octets))
    → Reaches old new (λ s. negotiated role old.config s octets)
negotiates_passive old new octets role is r =
    reaches_same old new (λ s. by_asked old.config s (asked_in octets)) (λ s. negotiated role old.config s octets)
    (λ s written size at.
    sym (header_by old.config s octets (header_of octets))
    ∙ ap (λ (x : Role). negotiated x old.config s octets) (sym is)) r

-- the state with the answer
abbrev answered : Config → ℕ → Negotiation → State → State
answered config sequence asked s = record s {
  out = s.out
      ++ sent_message s.size (message_octets AckData sequence (negotiation_spelling (granted_by config asked)) []);
}

pub reaches_grant : (old mid new : Partner) (octets : List ℕ) (size sequence : ℕ) (asked granted : Negotiation)
    → asked_in octets ≡ Some (sequence, asked) → size_at old.reader ≡ Some size
    → granted ≡ granted_by old.config asked
    → Puts old.outbox mid.outbox
    (sent_message size (message_octets AckData sequence (negotiation_spelling granted) []))
    → KeepsState old mid → KeepsLink old mid → Reaches mid new (λ s. goes s granted.pdu)
    → Reaches old new (λ s. by_asked old.config s (asked_in octets))
reaches_grant old mid new octets size sequence asked granted is sized grants_is puts k keeps r =
    let more : Negotiation → ℕ → List ℕ = λ n z.
    sent_message z (message_octets AckData sequence (negotiation_spelling n) []) in
    let puts' : Puts old.outbox mid.outbox (more (granted_by old.config asked) size) =
    subst (λ (n : Negotiation). Puts old.outbox mid.outbox (more n size)) grants_is puts in
    reaches_same old new (λ s. goes (answered old.config sequence asked s) granted.pdu)
    (λ s. by_asked old.config s (asked_in octets))
    (λ s written size_is at.
    ap (λ (n : Negotiation). goes (answered old.config sequence asked s) n.pdu) grants_is
    ∙ ap (by_asked old.config s) (sym is))
    (reaches_both old mid new (answered old.config sequence asked) (λ s. goes s granted.pdu) keeps
    (λ s written size_is at.
    subst (λ (z : ℕ). IsAt mid (record s { out = s.out ++ more (granted_by old.config asked) z }) written)
    (same_some size s.size (sym sized ∙ size_is))
    (put_at old mid (more (granted_by old.config asked) size) s written k puts' at))
    (λ s. refl) r)

-- ---- a partner with the same parts

pub same_at : (old mid : Partner) (s : State) (written : List ℕ) → KeepsState old mid → mid.outbox ≡ old.outbox
    → IsAt old s written → IsAt mid s written
same_at old mid s written k outbox at = record {
  holds = holds_same old mid s k at.holds;
  out = at.out ∙ ap (λ (o : Outgoing). written ++ o.unsent) (sym outbox);
}

pub reaches_from : (old mid new : Partner) (f : State → State) → KeepsLink old mid → KeepsState old mid
    → mid.outbox ≡ old.outbox → Reaches mid new f → Reaches old new f
reaches_from old mid new f keeps k outbox r =
    reaches_both old mid new (λ s. s) f keeps (λ s written size at. same_at old mid s written k outbox at) (λ s. refl) r

-- ---- a message by how far the link is

long_message : (role : Role) (config : Config) (s : State) (octets : List ℕ) → 10 ≤ length octets
    → by_stage role config s octets s.stage ≡ with_message role config s octets
long_message role config s octets least =
    ap (λ (b : Bool). if b then with_code s short_message else by_stage role config s octets s.stage)
    (sym (le-ltb (length octets) 10 least))

pub message_negotiating : (old new : Partner) (octets : List ℕ) → 10 ≤ length octets → old.stage ≡ held.Negotiating
    → Reaches old new (λ s. negotiated old.role old.config s octets)
    → Reaches old new (λ s. with_message old.role old.config s octets)
message_negotiating old new octets least stage r =
    reaches_same old new (λ s. negotiated old.role old.config s octets) (λ s. with_message old.role old.config s octets)
    (λ s written size at.
    ap (by_stage old.role old.config s octets) (ap stage_in (sym stage) ∙ at.holds.stage)
    ∙ long_message old.role old.config s octets least) r

pub message_going : (old new : Partner) (octets : List ℕ) (pdu : ℕ) → 10 ≤ length octets → old.stage ≡ held.Going pdu
    → Reaches old new (λ s. exchanged s pdu octets)
    → Reaches old new (λ s. with_message old.role old.config s octets)
message_going old new octets pdu least stage r =
    reaches_same old new (λ s. exchanged s pdu octets) (λ s. with_message old.role old.config s octets)
    (λ s written size at.
    ap (by_stage old.role old.config s octets) (ap stage_in (sym stage) ∙ at.holds.stage)
    ∙ long_message old.role old.config s octets least) r
