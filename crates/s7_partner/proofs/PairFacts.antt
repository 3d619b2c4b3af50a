-- What acts make and tell, one after another.
use Rattle.std.proofs.Common.{◌≡◌, ℕ, ◌+◌, ◌&&◌, not, Bool, true, false, List, [], ◌∷◌, ◌++◌, refl, ap}
use Rattle.std.proofs.Common.{sym, ◌∙◌, subst, if◌then◌else◌, append_assoc, append-nil}
use Rattle.std.specs.Prelude.{None, Some}
use Rattle.s7_wire.specs.Reading.{Event, message}
use Rattle.s7_wire.specs.Sent.{sent_message, sent_messages}
use Rattle.s7_dialogue.specs.declared.config.Config.{Config}
use Rattle.s7_partner.specs.declared.role.Role.{Role}
use Rattle.s7_partner.specs.States.{closed, State, Act, gives, reads, hands, acknowledges}
use Rattle.s7_partner.specs.States.{with_act, with_acts, Parcel, given_by, given_in, read_by, read_in}
use Rattle.s7_partner.specs.States.{handed_by, handed_from, is_sending}
use Rattle.s7_partner.specs.Acts.{IsOpen, AreTaken}
use Rattle.s7_partner.specs.Pairs.{sends_ended}
use Rattle.s7_partner.proofs.PairFronts.{AreMessages, none, one}
use Rattle.s7_partner.proofs.PairTelegrams.{Said, octets_of, messages_of}

-- ---- what the acts from a state on make and tell

pub record Facts (role : Role) (config : Config) (st : State) (acts : List Act) (says : List Said) (gs : List Parcel)
    (ms : List (List ℕ)) (ps : List Parcel) (n : ℕ) : Type 0 where
  pub out : (with_acts role config st acts).out ≡ st.out ++ sent_messages st.size (messages_of says)
  pub gives_them : given_in acts ≡ gs
  pub hears : AreMessages (read_in acts) ms
  pub hands_them : handed_from role config st acts ≡ ps
  pub ends_them : sends_ended role config st acts ≡ n

pub no_acts : (role : Role) (config : Config) (st : State) → Facts role config st [] [] [] [] [] 0
no_acts role config st =
    record { out = sym (append-nil st.out); gives_them = refl; hears = none; hands_them = refl; ends_them = refl }

pub are_both : {xs ys : List Event} {ms ns : List (List ℕ)} → AreMessages xs ms → AreMessages ys ns
    → AreMessages (xs ++ ys) (ms ++ ns)
are_both none k = k
are_both (one h) k = one (are_both h k)

sent_both : (size : ℕ) (xs ys : List Said)
    → sent_messages size (messages_of (xs ++ ys))
    ≡ sent_messages size (messages_of xs) ++ sent_messages size (messages_of ys)
sent_both size [] ys = refl
sent_both size (x ∷ xs) ys =
    ap (λ e. sent_message size (octets_of x) ++ e) (sent_both size xs ys)
    ∙ sym
    (append_assoc (sent_message size (octets_of x)) (sent_messages size (messages_of xs))
    (sent_messages size (messages_of ys)))

-- what one act makes and tells
pub record Fact (role : Role) (config : Config) (st nx : State) (act : Act) (says : List Said) (gs : List Parcel)
    (ms : List (List ℕ)) (ps : List Parcel) (n : ℕ) : Type 0 where
  pub makes : with_act role config st act ≡ nx
  pub out : nx.out ≡ st.out ++ sent_messages st.size (messages_of says)
  pub size : nx.size ≡ st.size
  pub gives_them : given_by act ≡ gs
  pub hears : AreMessages (read_by act) ms
  pub hands_them : handed_by st act ≡ ps
  pub ends_them : (if is_sending st && not (is_sending nx) then 1 else 0) ≡ n

pub join : {says xs : List Said} {gs hs : List Parcel} {ms ns : List (List ℕ)} {ps qs : List Parcel} {n k m : ℕ}
    (role : Role) (config : Config) (st nx : State) (act : Act) (acts : List Act)
    → Fact role config st nx act says gs ms ps n → Facts role config nx acts xs hs ns qs k → n + k ≡ m
    → Facts role config st (act ∷ acts) (says ++ xs) (gs ++ hs) (ms ++ ns) (ps ++ qs) m
join {says} {xs} {gs} {hs} {ms} {ns} {ps} {qs} {n} {k} {m} role config st nx act acts f g e =
    let sent = sent_messages st.size (messages_of says) in
    record {
      out =
          ap (λ (z : State). (with_acts role config z acts).out) f.makes
          ∙ (g.out
          ∙ (ap (λ z. nx.out ++ sent_messages z (messages_of xs)) f.size
          ∙ (ap (λ z. z ++ sent_messages st.size (messages_of xs)) f.out
          ∙ (append_assoc st.out sent (sent_messages st.size (messages_of xs))
          ∙ ap (λ z. st.out ++ z) (sym (sent_both st.size says xs))))));
      gives_them = ap (λ z. z ++ given_in acts) f.gives_them ∙ ap (λ z. gs ++ z) g.gives_them;
      hears = are_both f.hears g.hears;
      hands_them =
          ap (λ (z : State). handed_by st act ++ handed_from role config z acts) f.makes
          ∙ (ap (λ z. z ++ handed_from role config nx acts) f.hands_them ∙ ap (λ z. ps ++ z) g.hands_them);
      ends_them =
          ap (λ (z : State). (if is_sending st && not (is_sending z) then 1 else 0) + sends_ended role config z acts)
          f.makes
          ∙ (ap (λ z. z + sends_ended role config nx acts) f.ends_them ∙ (ap (λ z. n + z) g.ends_them ∙ e));
    }

pub same_still : (b : Bool) → ◌≡◌ {A = ℕ} (if b && not b then 1 else 0) 0
same_still true = refl
same_still false = refl

pub none_of : {A : Type 0} (x : A) → Some x ≡ None → ⊥
none_of x e = cc

-- there is no value
pub not_some : false ≡ true → ⊥
not_some h = cc

-- ---- what a state may send

abbrev pub said_on : State → Said → State
said_on s says = record s { out = s.out ++ sent_message s.size (octets_of says) }

pub says_one : (s : State) (says : Said) → (said_on s says).out ≡ s.out ++ sent_messages s.size (messages_of (says ∷ []))
says_one s says = ap (λ z. s.out ++ z) (sym (append-nil (sent_message s.size (octets_of says))))

pub says_none : (s : State) → s.out ≡ s.out ++ sent_messages s.size (messages_of [])
says_none s = sym (append-nil s.out)

-- a message is read
pub read_fact : (role : Role) (config : Config) (st nx : State) (m : List ℕ) (place : ℕ) (says : List Said) (n : ℕ)
    → with_act role config st (reads (message m place)) ≡ nx
    → nx.out ≡ st.out ++ sent_messages st.size (messages_of says) → nx.size ≡ st.size
    → (if is_sending st && not (is_sending nx) then 1 else 0) ≡ n
    → Fact role config st nx (reads (message m place)) says [] (m ∷ []) [] n
read_fact role config st nx m place says n makes out size ends_them = record {
  makes = makes;
  out = out;
  size = size;
  gives_them = refl;
  hears = one none;
  hands_them = refl;
  ends_them = ends_them;
}

-- ---- a partner that closed does nothing

closed_stops : (role : Role) (config : Config) (st : State) (acts : List Act) (code : ℕ) → st.stage ≡ closed code
    → AreTaken role config st acts → acts ≡ []
closed_stops role config st [] code e t = refl
closed_stops role config st (gives rid body ∷ acts) code e t = absurd (subst IsOpen e t.0.0)
closed_stops role config st (reads event ∷ acts) code e t = absurd (subst IsOpen e t.0.0)
closed_stops role config st (hands ∷ acts) code e t = absurd (subst IsOpen e t.0.0)
closed_stops role config st (acknowledges ∷ acts) code e t = absurd (subst IsOpen e t.0.0)

pub closed_facts : (role : Role) (config : Config) (st : State) (acts : List Act) (code : ℕ) → st.stage ≡ closed code
    → AreTaken role config st acts → Facts role config st acts [] [] [] [] 0
closed_facts role config st acts code e t =
    subst (λ xs. Facts role config st xs [] [] [] [] 0) (sym (closed_stops role config st acts code e t))
    (no_acts role config st)
