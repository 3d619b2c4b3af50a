-- Links that live, or that their octets closed: no telegram of theirs stopped them, and none waits for its verdict.
use Rattle.std.proofs.Common.{◌≡◌, ◌≢◌, ◌⊎◌, inl, inr, ℕ, Bool, true, false, cond, List, [], ◌∷◌, ◌++◌, refl, ap, sym}
use Rattle.std.proofs.Common.{◌∙◌, subst}
use Rattle.std.specs.Prelude.{Option, None, Some}
use Rattle.std.specs.List.{AllByRecursion}
use Rattle.s7_outer.specs.Shown.{Shown}
use Rattle.s7_wire.specs.declared.found.Opening.TheVariants.{Request}
use Rattle.s7_wire.specs.Reading.{Event, opened, message, Ending, reading, torn_of}
use Rattle.s7_session.specs.declared.outcome.Outcome.{Outcome}
use Rattle.s7_session.specs.declared.outcome.Outcome.TheVariants as outcome
use Rattle.s7_session.specs.declared.session.Session.{Session}
use Rattle.s7_session.specs.Events.{Standing, lives, stops, unjudged, closes, Made, made, by_judgement, is_s7}
use Rattle.s7_session.specs.Events.{asks, by_clock}
use Rattle.s7_session.specs.Judgement.{Judgement, Asking, refuse, own, ask, judge, sequence_of}
use Rattle.s7_session.specs.LinkState.{LinkState}
use Rattle.s7_session.specs.Owed.{Past, start, with_made, if_lives, next, run, with_ending, past, telegrams}
use Rattle.s7_session.specs.Owed.{standing_with, end_by, end_of}
use Rattle.s7_session.specs.Stands.{HasCause}
use Rattle.s7_session.specs.Telegrams.{Met, verdicts_of}
use Rattle.s7_session.specs.Verdict.{Verdict, Entered, Full, ClockFailed, NoMemory}
use Rattle.s7_session.proofs.PastLemmas.{with_more, made_more}
use Rattle.s7_session.proofs.TurnLemmas.{verdicts-append}

-- no telegram stopped the link, and none waits for its verdict
abbrev pub IsSound : Standing → Type 0
IsSound lives = Unit {0}
IsSound stops = ⊥
IsSound unjudged = ⊥
IsSound (closes end) = Unit {0}

pub live_sound : (s : Standing) → s ≡ lives → IsSound s
live_sound s live = subst IsSound (sym live) tt

-- ---- verdicts that come later

clock_waits : (timed : Bool) (size : ℕ) (link : LinkState) (sequence : ℕ) (asking : Asking) (js vs : List Verdict)
    → by_clock timed size link sequence asking (js ++ vs) ≡ made_more (by_clock timed size link sequence asking js) vs
clock_waits true size link sequence asking js vs = refl
clock_waits false size link sequence asking js vs = refl

asks_wait : (size : ℕ) (link : LinkState) (sequence : ℕ) (asking : Asking) (js vs : List Verdict)
    → IsSound (asks size link sequence asking js).standing
    → asks size link sequence asking (js ++ vs) ≡ made_more (asks size link sequence asking js) vs
asks_wait size link sequence asking [] vs sound = absurd sound
asks_wait size link sequence asking (Entered reply moment ∷ js) vs sound = refl
asks_wait size link sequence asking (Full ∷ js) vs sound = refl
asks_wait size link sequence asking (ClockFailed ∷ js) vs sound =
    clock_waits asking.is_timed size link sequence asking js vs
asks_wait size link sequence asking (NoMemory ∷ js) vs sound = refl

judgement_waits : (size : ℕ) (link : LinkState) (sequence : ℕ) (js vs : List Verdict) (j : Judgement)
    → IsSound (by_judgement size link sequence js j).standing
    → by_judgement size link sequence (js ++ vs) j ≡ made_more (by_judgement size link sequence js j) vs
judgement_waits size link sequence js vs (refuse refusal) sound = refl
judgement_waits size link sequence js vs (own messages next) sound = refl
judgement_waits size link sequence js vs (ask asking) sound = asks_wait size link sequence asking js vs sound

kind_waits : (b : Bool) (m m' other other' : Made) (vs : List Verdict) → IsSound (cond b m other).standing
    → (IsSound m.standing → m' ≡ made_more m vs) → other' ≡ made_more other vs
    → cond b m' other' ≡ made_more (cond b m other) vs
kind_waits true m m' other other' vs sound f is = f sound
kind_waits false m m' other other' vs sound f is = is

made_waits : (size : Option ℕ) (link : LinkState) (e : Event) (js vs : List Verdict)
    → IsSound (made size link e js).standing → made size link e (js ++ vs) ≡ made_more (made size link e js) vs
unfolding made
made_waits size link (opened c) js vs sound = refl
made_waits None link (message m at) js vs sound = refl
made_waits (Some size) link (message m at) js vs sound =
    kind_waits (is_s7 m) (by_judgement size link (sequence_of m) js (judge link m))
    (by_judgement size link (sequence_of m) (js ++ vs) (judge link m)) _ _ vs sound
    (judgement_waits size link (sequence_of m) js vs (judge link m)) refl

next_waits : (s : Standing) (p : Past) (m m' : Made) (vs : List Verdict)
    → IsSound (if_lives s (with_made p m) p).standing → (IsSound m.standing → m' ≡ made_more m vs)
    → if_lives s (with_made (with_more p vs) m') (with_more p vs) ≡ with_more (if_lives s (with_made p m) p) vs
next_waits lives p m m' vs sound f = ap (λ x. with_made (with_more p vs) x) (f sound)
next_waits stops p m m' vs sound f = refl
next_waits unjudged p m m' vs sound f = refl
next_waits (closes end) p m m' vs sound f = refl

-- a link that is sound was so before
sound_by : (s : Standing) (p q : Past) → p.standing ≡ s → IsSound (if_lives s q p).standing → IsSound p.standing
sound_by lives p q is sound = live_sound p.standing is
sound_by stops p q is sound = sound
sound_by unjudged p q is sound = sound
sound_by (closes end) p q is sound = sound

sound_before : (p : Past) (events : List Event) → IsSound (run p events).standing → IsSound p.standing
sound_before p [] sound = sound
sound_before p (e ∷ events) sound =
    sound_by p.standing p (with_made p (made p.size p.link e p.verdicts)) refl (sound_before (next p e) events sound)

run_waits : (p : Past) (events : List Event) (vs : List Verdict) → IsSound (run p events).standing
    → run (with_more p vs) events ≡ with_more (run p events) vs
run_waits p [] vs sound = refl
run_waits p (e ∷ events) vs sound =
    let m = made p.size p.link e p.verdicts in
    let one = next_waits p.standing p m (made p.size p.link e (p.verdicts ++ vs)) vs
    (sound_before (next p e) events sound) (made_waits p.size p.link e p.verdicts vs) in
    ap (λ q. run q events) one ∙ run_waits (next p e) events vs sound

sound_within : (torn : Option ℕ) (s : Standing) (ending : Option Ending) → IsSound (standing_with torn s ending)
    → IsSound s
sound_within torn lives ending sound = tt
sound_within torn stops ending sound = sound
sound_within torn unjudged ending sound = sound
sound_within torn (closes end) ending sound = tt

-- verdicts that come later wait, where the link is sound
pub past_waits : (first : LinkState) (b : List ℕ) (js vs : List Verdict) → IsSound (past first b js).standing
    → past first b (js ++ vs) ≡ with_more (past first b js) vs
unfolding past
past_waits first b js vs sound =
    let read = reading Request b in
    let torn = torn_of Request b in
    ap (with_ending torn read.ending)
    (run_waits (start first js) read.events vs
    (sound_within torn (run (start first js) read.events).standing read.ending sound))

-- ---- want of memory

abbrev pub AreRemembered : List Verdict → Type 0
AreRemembered verdicts = AllByRecursion (λ (verdict : Verdict). verdict ≢ NoMemory) verdicts

-- memory was wanting for a telegram, which stopped the link, or for none of these
abbrev StopsOr : Standing → List Met → Type 0
StopsOr s mets = (s ≡ stops) ⊎ AreRemembered (verdicts_of mets)

clock_remembers : (timed : Bool) (size : ℕ) (link : LinkState) (sequence : ℕ) (asking : Asking) (js : List Verdict)
    → AreRemembered (verdicts_of (by_clock timed size link sequence asking js).mets)
clock_remembers true size link sequence asking js = (λ is. absurd (cc), tt)
clock_remembers false size link sequence asking js = (λ is. absurd (cc), tt)

abbrev MakesOr : Made → Type 0
MakesOr m = StopsOr m.standing m.mets

asks_remember : (size : ℕ) (link : LinkState) (sequence : ℕ) (asking : Asking) (js : List Verdict)
    → MakesOr (asks size link sequence asking js)
asks_remember size link sequence asking [] = inr tt
asks_remember size link sequence asking (Entered reply moment ∷ js) = inr (λ is. absurd (cc), tt)
asks_remember size link sequence asking (Full ∷ js) = inr (λ is. absurd (cc), tt)
asks_remember size link sequence asking (ClockFailed ∷ js) =
    inr (clock_remembers asking.is_timed size link sequence asking js)
asks_remember size link sequence asking (NoMemory ∷ js) = inl refl

judgement_remembers : (size : ℕ) (link : LinkState) (sequence : ℕ) (js : List Verdict) (j : Judgement)
    → MakesOr (by_judgement size link sequence js j)
judgement_remembers size link sequence js (refuse refusal) = inr tt
judgement_remembers size link sequence js (own messages next) = inr tt
judgement_remembers size link sequence js (ask asking) = asks_remember size link sequence asking js

kind_remembers : (b : Bool) (m other : Made) → MakesOr m → MakesOr other → MakesOr (cond b m other)
kind_remembers true m other one two = one
kind_remembers false m other one two = two

made_remembers : (size : Option ℕ) (link : LinkState) (e : Event) (js : List Verdict) → MakesOr (made size link e js)
unfolding made
made_remembers size link (opened c) js = inr tt
made_remembers None link (message m at) js = inr tt
made_remembers (Some size) link (message m at) js =
    kind_remembers (is_s7 m) _ _ (judgement_remembers size link (sequence_of m) js (judge link m)) (inr tt)

remembered-append : (xs ys : List Verdict) → AreRemembered xs → AreRemembered ys → AreRemembered (xs ++ ys)
remembered-append [] ys one two = two
remembered-append (x ∷ xs) ys one two = (one.0, remembered-append xs ys one.1 two)

more_remembered : (s : Standing) (xs ys : List Met) → AreRemembered (verdicts_of xs) → StopsOr s ys
    → StopsOr s (xs ++ ys)
more_remembered s xs ys had (inl is) = inl is
more_remembered s xs ys had (inr more) =
    inr (subst AreRemembered (sym (verdicts-append xs ys))
    (remembered-append (verdicts_of xs) (verdicts_of ys) had more))

one_remembers : (p : Past) (m : Made) → p.standing ≡ lives → StopsOr p.standing p.mets → MakesOr m
    → StopsOr m.standing (p.mets ++ m.mets)
one_remembers p m live (inl is) more = absurd (lives_not_stops (sym live ∙ is))
  where
    lives_not_stops : lives ≡ stops → ⊥
    lives_not_stops e = cc
one_remembers p m live (inr had) more = more_remembered m.standing p.mets m.mets had more

next_remembers : (s : Standing) (p : Past) (m : Made) → p.standing ≡ s → StopsOr p.standing p.mets → MakesOr m
    → StopsOr (if_lives s (with_made p m) p).standing (if_lives s (with_made p m) p).mets
next_remembers lives p m is had more = one_remembers p m is had more
next_remembers stops p m is had more = had
next_remembers unjudged p m is had more = had
next_remembers (closes end) p m is had more = had

run_remembers : (p : Past) (events : List Event) → StopsOr p.standing p.mets
    → StopsOr (run p events).standing (run p events).mets
run_remembers p [] had = had
run_remembers p (e ∷ events) had =
    let m = made p.size p.link e p.verdicts in
    run_remembers (next p e) events
    (next_remembers p.standing p m refl had (made_remembers p.size p.link e p.verdicts))

sound_remembers : (s : Standing) (mets : List Met) → IsSound s → StopsOr s mets → AreRemembered (verdicts_of mets)
sound_remembers s mets sound (inl is) = absurd (subst IsSound is sound)
sound_remembers s mets sound (inr are) = are

-- memory was wanting for none of the telegrams of a sound link
pub past_remembers : (first : LinkState) (b : List ℕ) (js : List Verdict) → IsSound (past first b js).standing
    → AreRemembered (verdicts_of (telegrams first b js))
unfolding past
past_remembers first b js sound =
    let read = reading Request b in
    let p = run (start first js) read.events in
    sound_remembers p.standing p.mets (sound_within (torn_of Request b) p.standing read.ending sound)
    (run_remembers (start first js) read.events (inr tt))

-- ---- why a session closed

end_sound : (s : Standing) (torn : Option ℕ) (o : Outcome) → end_by s torn ≡ o → o ≢ outcome.Memory
    → o ≢ outcome.WriteFault → IsSound s
end_sound lives torn o is no_memory no_fault = tt
end_sound stops torn o is no_memory no_fault = no_memory (sym is)
end_sound unjudged torn o is no_memory no_fault = no_fault (sym is)
end_sound (closes end) torn o is no_memory no_fault = tt

fault_sound : (first : LinkState) (b : List ℕ) (js : List Verdict) (o : Outcome) → end_of first b js ≡ o
    → o ≢ outcome.Memory → o ≢ outcome.WriteFault → IsSound (past first b js).standing
fault_sound first b js o is no_memory no_fault =
    end_sound (past first b js).standing (torn_of Request b) o is no_memory no_fault

-- a link whose session closed for another cause than want of memory is sound
pub cause_sound : (k k' : Shown) (first : LinkState) (s : Session) (b : List ℕ) (js : List Verdict) (o : Outcome)
    → o ≢ outcome.Memory → HasCause k k' first s b js o → IsSound (past first b js).standing
cause_sound k k' first s b js outcome.Ended other cause =
    fault_sound first b js outcome.Ended cause.end other (λ is. absurd (cc))
cause_sound k k' first s b js (outcome.Torn n) other cause =
    fault_sound first b js (outcome.Torn n) cause.end other (λ is. absurd (cc))
cause_sound k k' first s b js (outcome.BadFrame at) other cause =
    fault_sound first b js (outcome.BadFrame at) cause.end other (λ is. absurd (cc))
cause_sound k k' first s b js (outcome.FrameTooLong at) other cause =
    fault_sound first b js (outcome.FrameTooLong at) cause.end other (λ is. absurd (cc))
cause_sound k k' first s b js (outcome.BadTpdu at) other cause =
    fault_sound first b js (outcome.BadTpdu at) cause.end other (λ is. absurd (cc))
cause_sound k k' first s b js (outcome.Unexpected at) other cause =
    fault_sound first b js (outcome.Unexpected at) cause.end other (λ is. absurd (cc))
cause_sound k k' first s b js (outcome.TooManyFragments at) other cause =
    fault_sound first b js (outcome.TooManyFragments at) cause.end other (λ is. absurd (cc))
cause_sound k k' first s b js (outcome.TooLong at) other cause =
    fault_sound first b js (outcome.TooLong at) cause.end other (λ is. absurd (cc))
cause_sound k k' first s b js (outcome.NotS7 at) other cause =
    fault_sound first b js (outcome.NotS7 at) cause.end other (λ is. absurd (cc))
cause_sound k k' first s b js outcome.ReadFault other cause = live_sound (past first b js).standing cause.2
cause_sound k k' first s b js outcome.WriteFault other cause = live_sound (past first b js).standing cause.2
cause_sound k k' first s b js outcome.Spent other cause = live_sound (past first b js).standing cause.2
cause_sound k k' first s b js outcome.Memory other cause = absurd (other refl)
