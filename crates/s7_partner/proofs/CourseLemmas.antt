-- How a course goes on.
use Rattle.std.proofs.Common.{◌≡◌, inl, inr, ℕ, ◌+◌, ◌<◌, ◌≤◌, List, [], ◌∷◌, ◌++◌, length, refl, ap, sym, ◌∙◌}
use Rattle.std.proofs.Common.{append-nil, arith, length-append}
use Rattle.s7_wire.specs.Reading.{Event, reading}
use Rattle.s7_wire.proofs.GrowthLemmas.{reading_grows}
use Rattle.s7_dialogue.specs.declared.config.Config.{Config}
use Rattle.s7_partner.specs.declared.role.Role.{Role}
use Rattle.s7_partner.specs.States.{Act, reads, start, after, read_by, read_in}
use Rattle.s7_partner.specs.Acts.{MayTake}
use Rattle.s7_partner.specs.Partners.{opening_by, IsPrefixOf, EndInRead, SentFirst, Course}
use Rattle.s7_partner.proofs.ListLemmas.{none_behind, none_left, last_same, Cut, before, last, cut_at, Front, shorter}
use Rattle.s7_partner.proofs.ListLemmas.{whole, front_of, front_within}
use Rattle.s7_partner.proofs.GrowthLemmas.{prefix_more, prefix_both, prefix_to}
use Rattle.s7_partner.proofs.ActLemmas.{AreTaken-append, read_in-append, after_grows, front_grows}

abbrev Events : Role → List ℕ → List Event
Events role b = (reading (opening_by role) b).events

-- nothing was used or transmitted
pub course_none : (role : Role) (config : Config)
    → (reading (opening_by role) []).events ≡ [] → Course role config [] [] []
course_none role config none = record {
  taken = tt;
  events = sym none;
  owed = ((after role config []).out, refl);
  sent_first = record {
    events = λ front rest event e. absurd (none_behind front rest (reads event) e);
    octets = λ front rest used unused e ends f some g. absurd (none_left used unused f some);
  };
}

-- ---- an act that reads nothing

not_read : (act : Act) (event : Event) → read_by act ≡ [] → act ≡ reads event → ⊥
not_read act event none e = let x : event ∷ [] ≡ [] = sym (ap read_by e) ∙ none in cc

not_ended : (acts front : List Act) (act : Act) → read_by act ≡ [] → front ≡ acts ++ act ∷ [] → EndInRead front → ⊥
not_ended acts front act none e (inl f) = none_behind acts [] act (sym f ∙ e)
not_ended acts front act none e (inr (xs, event, f)) =
    not_read act event none (last_same acts xs act (reads event) (sym e ∙ f))

events_by_cut : (role : Role) (config : Config) (acts front rest : List Act) (act : Act) (event : Event)
    (b written : List ℕ) → read_by act ≡ [] → SentFirst role config acts b written
    → Cut acts front rest act (reads event) → IsPrefixOf (after role config front).out written
events_by_cut role config acts front rest act event b written none s (before behind e) = s.events front behind event e
events_by_cut role config acts front rest act event b written none s (last e f n) = absurd (not_read act event none f)

octets_by_front : (role : Role) (config : Config) (acts front : List Act) (act : Act) (b written used unused : List ℕ)
    → read_by act ≡ [] → SentFirst role config acts b written → EndInRead front → b ≡ used ++ unused
    → 0 < length unused → read_in front ≡ (reading (opening_by role) used).events
    → Front acts front act → IsPrefixOf (after role config front).out written
octets_by_front role config acts front act b written used unused none s ends f some g (shorter behind e) =
    s.octets front behind used unused e ends f some g
octets_by_front role config acts front act b written used unused none s ends f some g (whole e) =
    absurd (not_ended acts front act none e ends)

pub course_act : (role : Role) (config : Config) (acts : List Act) (act : Act) (b written : List ℕ)
    → read_by act ≡ [] → MayTake (after role config acts) act → Course role config acts b written
    → Course role config (acts ++ act ∷ []) b written
course_act role config acts act b written none may c = record {
  taken = AreTaken-append role config (start role config) acts (act ∷ []) c.taken (may, tt);
  events = read_in-append acts (act ∷ [])
      ∙ (ap (λ (e : List Event). read_in acts ++ (e ++ [])) none ∙ (append-nil (read_in acts) ∙ c.events));
  owed = prefix_both written (after role config acts).out (after role config (acts ++ act ∷ [])).out c.owed
      (after_grows role config acts (act ∷ []));
  sent_first = record {
    events = λ front rest event e.
        events_by_cut role config acts front rest act event b written none c.sent_first
        (cut_at acts front rest act (reads event) e);
    octets = λ front rest used unused e ends f some g.
        octets_by_front role config acts front act b written used unused none c.sent_first ends f some g
        (front_of acts front rest act e);
  };
}

-- ---- octets are transmitted

pub course_sent : (role : Role) (config : Config) (acts : List Act) (b written more rest : List ℕ)
    → (after role config acts).out ≡ (written ++ more) ++ rest → Course role config acts b written
    → Course role config acts b (written ++ more)
course_sent role config acts b written more rest out c = record {
  taken = c.taken;
  events = c.events;
  owed = (rest, out);
  sent_first = record {
    events = λ front behind event e.
        prefix_both (after role config front).out written (written ++ more) (c.sent_first.events front behind event e)
        (prefix_more written more);
    octets = λ front behind used unused e ends f some g.
        prefix_both (after role config front).out written (written ++ more)
        (c.sent_first.octets front behind used unused e ends f some g) (prefix_more written more);
  };
}

-- ---- octets are used where all was sent

-- nothing is read in them
pub course_used : (role : Role) (config : Config) (acts : List Act) (b used written : List ℕ)
    → (after role config acts).out ≡ written
    → (reading (opening_by role) (b ++ used)).events ≡ (reading (opening_by role) b).events
    → Course role config acts b written → Course role config acts (b ++ used) written
course_used role config acts b used written sent same c = record {
  taken = c.taken;
  events = c.events ∙ sym same;
  owed = c.owed;
  sent_first = record {
    events = c.sent_first.events;
    octets = λ front rest u unused e ends f some g.
        prefix_to (after role config front).out (after role config acts).out written
        (front_grows role config acts front rest e) sent;
  };
}

event_by_cut : (role : Role) (config : Config) (acts front rest : List Act) (event e' : Event) (b written : List ℕ)
    → (after role config acts).out ≡ written → SentFirst role config acts b written
    → Cut acts front rest (reads event) (reads e') → IsPrefixOf (after role config front).out written
event_by_cut role config acts front rest event e' b written sent s (before behind e) = s.events front behind e' e
event_by_cut role config acts front rest event e' b written sent s (last e f n) =
    prefix_to (after role config front).out (after role config acts).out written
    (front_grows role config acts front [] (sym e ∙ sym (append-nil front))) sent

-- what was read of fewer octets doesn't have the event
earlier : (role : Role) (acts front : List Act) (event : Event) (b used u unused : List ℕ) → length used ≤ 1
    → read_in acts ≡ (reading (opening_by role) b).events → front ≡ acts ++ reads event ∷ []
    → b ++ used ≡ u ++ unused → 0 < length unused → read_in front ≡ (reading (opening_by role) u).events → ⊥
earlier role acts front event b used u unused few events whole_front f some g =
    let behind = front_within b used u unused few some f in
    let grows = reading_grows (opening_by role) u behind.0 in
    let more : Events role b ≡ Events role u ++ grows.further =
    ap (Events role) behind.1 ∙ grows.events in
    let read : read_in front ≡ read_in acts ++ event ∷ [] =
    ap read_in whole_front ∙ read_in-append acts (reads event ∷ []) in
    let len : length (read_in front) ≡ length (read_in acts) + 1 =
    ap length read ∙ length-append (read_in acts) (event ∷ []) in
    omega (arith, len, ap length g, ap length events, ap length more, length-append (Events role u) grows.further)

octets_by_event : (role : Role) (config : Config) (acts front : List Act) (event : Event)
    (b used written u unused : List ℕ)
    → length used ≤ 1 → (after role config acts).out ≡ written → Course role config acts b written
    → b ++ used ≡ u ++ unused → 0 < length unused → read_in front ≡ (reading (opening_by role) u).events
    → Front acts front (reads event) → IsPrefixOf (after role config front).out written
octets_by_event role config acts front event b used written u unused few sent c f some g (shorter behind e) =
    prefix_to (after role config front).out (after role config acts).out written
    (front_grows role config acts front behind e) sent
octets_by_event role config acts front event b used written u unused few sent c f some g (whole e) =
    absurd (earlier role acts front event b used u unused few c.events e f some g)

-- an event is read, which the last octet ends
pub course_read : (role : Role) (config : Config) (acts : List Act) (event : Event) (b used written : List ℕ)
    → length used ≤ 1 → (after role config acts).out ≡ written → MayTake (after role config acts) (reads event)
    → (reading (opening_by role) (b ++ used)).events ≡ (reading (opening_by role) b).events ++ event ∷ []
    → Course role config acts b written → Course role config (acts ++ reads event ∷ []) (b ++ used) written
course_read role config acts event b used written few sent may read c = record {
  taken = AreTaken-append role config (start role config) acts (reads event ∷ []) c.taken (may, tt);
  events = read_in-append acts (reads event ∷ []) ∙ (ap (λ (e : List Event). e ++ event ∷ []) c.events ∙ sym read);
  owed = prefix_to written _ (after role config (acts ++ reads event ∷ [])).out
      (prefix_both written (after role config acts).out (after role config (acts ++ reads event ∷ [])).out c.owed
      (after_grows role config acts (reads event ∷ []))) refl;
  sent_first = record {
    events = λ front rest e' e.
        event_by_cut role config acts front rest event e' b written sent c.sent_first
        (cut_at acts front rest (reads event) (reads e') e);
    octets = λ front rest u unused e ends f some g.
        octets_by_event role config acts front event b used written u unused few sent c f some g
        (front_of acts front rest (reads event) e);
  };
}
