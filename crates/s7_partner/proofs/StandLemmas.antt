-- What a partner stands for after an act.
use Rattle.std.proofs.Common.{◌≡◌, ℕ, ◌<◌, List, [], ◌∷◌, ◌++◌, refl, ap, sym, ◌∙◌, subst}
use Rattle.std.specs.Prelude.{Option, None, Some, option_map}
use Rattle.s7_outer.specs.Held.{Held as Room}
use Rattle.s7_wire.specs.Outgoing.{Outgoing}
use Rattle.s7_wire.specs.Reads.{HasRead, opens_by, ended_with, size_at}
use Rattle.s7_wire.specs.declared.reader.Reader.{Reader}
use Rattle.s7_dialogue.specs.declared.config.Config.{Config}
use Rattle.s7_partner.specs.declared.role.Role.{Role}
use Rattle.s7_partner.specs.declared.partner.Partner.{Partner}
use Rattle.s7_partner.specs.declared.partner.Stage.{Stage as Held}
use Rattle.s7_partner.specs.declared.partner.Stage.TheVariants as held
use Rattle.s7_partner.specs.declared.partner.Sending.{Sending as HeldSending}
use Rattle.s7_partner.specs.declared.partner.Arrived.{Arrived}
use Rattle.s7_partner.specs.States.{State, Stage, Act, gives, with_act, after, read_by, next_number, given}
use Rattle.s7_partner.specs.Acts.{IsOpen, MayTake}
use Rattle.s7_partner.specs.Partners.{opening_by, Course}
use Rattle.s7_partner.specs.Held.{closed_of, code_in, stage_in, sending_in, receiving_in, block_in, sending_of}
use Rattle.s7_partner.specs.Held.{HoldsHanded, Holds, StandsFor}
use Rattle.s7_partner.specs.Calls.{HasSize}
use Rattle.s7_partner.specs.At.{HoldsState, IsAt, KeepsLink, GoesOut}
use Rattle.s7_partner.proofs.GrowthLemmas.{given_grows}
use Rattle.s7_partner.proofs.ActLemmas.{after-append}
use Rattle.s7_partner.proofs.CourseLemmas.{course_act}

-- ---- states that are held

pub holds_state : (p : Partner) (s : State) → Holds p s → HoldsState p s
holds_state p s h = record {
  stage = h.stage;
  sequence = h.sequence;
  number = h.number;
  sending = h.sending;
  receiving = h.receiving;
  whole = h.whole;
  handed = h.handed;
}

pub holds : (p : Partner) (s : State) → HoldsState p s → ((n : ℕ) → size_at p.reader ≡ Some n → n ≡ s.size) → Holds p s
holds p s h size = record {
  stage = h.stage;
  size = size;
  sequence = h.sequence;
  number = h.number;
  sending = h.sending;
  receiving = h.receiving;
  whole = h.whole;
  handed = h.handed;
}

-- the state that it stands for is held, with what is still to be sent
pub stands_at : (p : Partner) (acts : List Act) (b written : List ℕ) → StandsFor p acts b written
    → IsAt p (after p.role p.config acts) written
stands_at p acts b written s = record { holds = holds_state p (after p.role p.config acts) s.holds; out = s.owed }

open_by : (s : Held) (t : Stage) → code_in s ≡ None → stage_in s ≡ t → IsOpen t
open_by held.Opening t none e = subst IsOpen e tt
open_by held.Negotiating t none e = subst IsOpen e tt
open_by (held.Going pdu) t none e = subst IsOpen e tt
open_by (held.Closed code) t none e = absurd (let x : Some code ≡ None = none in cc)

-- it is open
pub stands_open : (p : Partner) (acts : List Act) (b written : List ℕ) → StandsFor p acts b written
    → IsOpen (after p.role p.config acts).stage
stands_open p acts b written s = open_by p.stage (after p.role p.config acts).stage s.opened s.holds.stage

pub after_act : (role : Role) (config : Config) (acts : List Act) (act : Act)
    → after role config (acts ++ act ∷ []) ≡ with_act role config (after role config acts) act
after_act role config acts act = after-append role config acts (act ∷ [])

-- ---- what it takes to stand for acts and octets

record StandsIn (role : Role) (config : Config) (p : Partner) (acts : List Act) (b written : List ℕ) : Type 0 where
  pub opened : closed_of p ≡ None
  pub holds : Holds p (after role config acts)
  pub opens : opens_by p.reader ≡ opening_by role
  pub read : HasRead p.reader b
  pub going : ended_with p.reader ≡ None
  pub course : Course role config acts b written
  pub owed : (after role config acts).out ≡ written ++ p.outbox.unsent

stands_in : (role : Role) (config : Config) (p : Partner) (acts : List Act) (b written : List ℕ) → role ≡ p.role
    → config ≡ p.config → StandsIn role config p acts b written → StandsFor p acts b written
stands_in role config p acts b written same_role same_config s =
    let t = subst (λ (c : Config). StandsIn p.role c p acts b written) same_config
    (subst (λ (r : Role). StandsIn r config p acts b written) same_role s) in
    record {
      opened = t.opened;
      holds = t.holds;
      opens = t.opens;
      read = t.read;
      going = t.going;
      course = t.course;
      owed = t.owed;
    }

pub stands_by : (role : Role) (config : Config) (p : Partner) (acts : List Act) (s : State) (b written : List ℕ)
    → p.role ≡ role → p.config ≡ config → s ≡ after role config acts → closed_of p ≡ None → IsAt p s written
    → ((n : ℕ) → size_at p.reader ≡ Some n → n ≡ s.size) → opens_by p.reader ≡ opening_by role
    → HasRead p.reader b → ended_with p.reader ≡ None → Course role config acts b written → StandsFor p acts b written
stands_by role config p acts s b written same_role same_config is opened at size opens read unended course =
    stands_in role config p acts b written (sym same_role) (sym same_config) (record {
      opened = opened;
      holds = subst (λ (x : State). Holds p x) is (holds p s at.holds size);
      opens = opens;
      read = read;
      going = unended;
      course = course;
      owed = ap (λ (x : State). x.out) (sym is) ∙ at.out;
    })

-- ---- an act that reads nothing

pub stands_act : (old new : Partner) (acts : List Act) (act : Act) (s : State) (b written : List ℕ)
    → KeepsLink old new → closed_of new ≡ None → read_by act ≡ []
    → s ≡ with_act old.role old.config (after old.role old.config acts) act
    → MayTake (after old.role old.config acts) act → s.size ≡ (after old.role old.config acts).size
    → IsAt new s written → StandsFor old acts b written → StandsFor new (acts ++ act ∷ []) b written
stands_act old new acts act s b written keeps opened none is may size at stands =
    stands_by old.role old.config new (acts ++ act ∷ []) s b written keeps.role keeps.config
    (is ∙ sym (after_act old.role old.config acts act)) opened at
    (λ n e. stands.holds.size n (ap size_at (sym keeps.reader) ∙ e) ∙ sym size)
    (ap opens_by keeps.reader ∙ stands.opens)
    (subst (λ (r : Reader). HasRead r b) (sym keeps.reader) stands.read)
    (ap ended_with keeps.reader ∙ stands.going)
    (course_act old.role old.config acts act b written none may stands.course)

-- ---- a block is given

-- before its first fragment goes out
abbrev pub with_given : State → ℕ → List ℕ → State
with_given s rid body = record s {
  number = next_number s.number;
  sending = Some (record {
    number = next_number s.number;
    rid = rid;
    body = body;
    from = 0;
    sequence = None;
  });
}

pub given_at : (old mid : Partner) (held : HeldSending) (rid : ℕ) (body : List ℕ) (s : State) (written : List ℕ)
    → mid.sending ≡ Some held
    → sending_in held ≡ record { number = mid.number; rid = rid; body = body; from = 0; sequence = None }
    → mid.number ≡ next_number old.number → mid.stage ≡ old.stage → mid.sequence ≡ old.sequence
    → mid.receiving ≡ old.receiving → mid.octets ≡ old.octets → mid.whole ≡ old.whole → mid.handed ≡ old.handed
    → mid.outbox ≡ old.outbox → IsAt old s written → IsAt mid (with_given s rid body) written
given_at old mid held rid body s written is same number stage sequence receiving octets whole handed outbox at =
    let h = at.holds in
    let now : mid.number ≡ next_number s.number = number ∙ ap next_number h.number in
    record {
      holds = record {
        stage = ap stage_in stage ∙ h.stage;
        sequence = sequence ∙ h.sequence;
        number = now;
        sending =
            ap (option_map sending_in) is
            ∙ ap Some (same
            ∙ ap (λ (n : ℕ). record { number = n; rid = rid; body = body; from = 0; sequence = None }) now);
        receiving =
            ap (λ (o : Room). option_map (receiving_in o.octets) mid.receiving) octets
            ∙ (ap (option_map (receiving_in old.octets.octets)) receiving ∙ h.receiving);
        whole =
            ap (λ (o : Room). option_map (block_in o.octets) mid.whole) octets
            ∙ (ap (option_map (block_in old.octets.octets)) whole ∙ h.whole);
        handed = subst (λ (x : Option Arrived). HoldsHanded x s.handed) (sym handed) h.handed;
      };
      out = at.out ∙ ap (λ (o : Outgoing). written ++ o.unsent) (sym outbox);
    }

pub gives_stands : (old mid new : Partner) (held : HeldSending) (rid : ℕ) (body : List ℕ) → closed_of new ≡ None
    → sending_of old ≡ None → rid < 4294967296 → HasSize body → KeepsLink old new
    → mid.sending ≡ Some held
    → sending_in held ≡ record { number = mid.number; rid = rid; body = body; from = 0; sequence = None }
    → mid.number ≡ next_number old.number → mid.stage ≡ old.stage → mid.sequence ≡ old.sequence
    → mid.receiving ≡ old.receiving → mid.octets ≡ old.octets → mid.whole ≡ old.whole → mid.handed ≡ old.handed
    → mid.outbox ≡ old.outbox → mid.reader ≡ old.reader → GoesOut mid new
    → (acts : List Act) (b written : List ℕ) → StandsFor old acts b written
    → StandsFor new (acts ++ gives rid body ∷ []) b written
unfolding with_act
gives_stands old mid new held rid body opened idle numbered size keeps is same number stage sequence receiving octets
    whole handed outbox reader goes acts b written stands =
    let s = after old.role old.config acts in
    let at_mid = given_at old mid held rid body s written is same number stage sequence receiving octets whole handed
    outbox (stands_at old acts b written stands) in
    stands_act old new acts (gives rid body) (given s rid body) b written keeps opened refl refl (
      stands_open old acts b written stands,
      record {
        idle = sym stands.holds.sending ∙ idle;
        numbered = numbered;
        some = size.0;
        most = size.1;
      },
    )
    (given_grows s rid body).1
    (goes (with_given s rid body) written (λ n e. stands.holds.size n (ap size_at (sym reader) ∙ e)) at_mid) stands
