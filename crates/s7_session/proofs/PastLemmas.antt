-- Laws of what became of events, and of the octets that they are read from.
use Rattle.std.proofs.Common.{◌⊎◌, inl, inr, ◌≡◌, ℕ, Bool, true, false, cond, List, [], ◌∷◌, ◌++◌, length, refl, ap}
use Rattle.std.proofs.Common.{sym, ◌∙◌, subst, append_assoc, append-nil}
use Rattle.std.specs.Prelude.{Option, None, Some}
use Rattle.s7_wire.specs.declared.found.Opening.TheVariants.{Request}
use Rattle.s7_wire.specs.Reading.{Event, opened, message, Ending, Progress, reading, torn_of, torn_by, open_packet}
use Rattle.s7_wire.specs.Reading.{limits}
use Rattle.s7_wire.proofs.GrowthLemmas.{reading_grows, reading_ended}
use Rattle.s7_tpkt.specs.Packets.{rest_of, packets_of}
use Rattle.s7_session.specs.Events.{Standing, lives, stops, unjudged, closes, Made, made, is_s7, by_judgement, asks}
use Rattle.s7_session.specs.Events.{by_clock}
use Rattle.s7_session.specs.Judgement.{Judgement, Asking, refuse, own, ask, judge, sequence_of}
use Rattle.s7_session.specs.LinkState.{LinkState}
use Rattle.s7_session.specs.Owed.{Past, start, with_made, if_lives, next, run, past, telegrams, end_of, end_by}
use Rattle.s7_session.specs.Owed.{standing_with, with_ending, ended_by}
use Rattle.s7_session.specs.Telegrams.{Met, met, verdicts_of, MemoryIsLast}
use Rattle.s7_session.specs.Verdict.{Verdict, Entered, Full, ClockFailed, NoMemory}
use Rattle.s7_session.specs.declared.outcome.Outcome.{Outcome}

-- ---- events one after another

pub run-append : (p : Past) (xs ys : List Event) → run p (xs ++ ys) ≡ run (run p xs) ys
run-append p [] ys = refl
run-append p (x ∷ xs) ys = run-append (next p x) xs ys

-- an event of a link that lives
pub next_at : (p : Past) (e : Event) → p.standing ≡ lives → next p e ≡ with_made p (made p.size p.link e p.verdicts)
next_at p e h = ap (λ s. if_lives s (with_made p (made p.size p.link e p.verdicts)) p) h

lives_before : (s : Standing) (q p : Past) → p.standing ≡ s → (if_lives s q p).standing ≡ lives → s ≡ lives
lives_before lives q p e h = refl
lives_before stops q p e h = sym e ∙ h
lives_before unjudged q p e h = sym e ∙ h
lives_before (closes end) q p e h = sym e ∙ h

-- a link that lives has lived before
next_lives : (p : Past) (e : Event) → (next p e).standing ≡ lives → p.standing ≡ lives
next_lives p e h = lives_before p.standing (with_made p (made p.size p.link e p.verdicts)) p refl h

pub run_lives : (p : Past) (events : List Event) → (run p events).standing ≡ lives → p.standing ≡ lives
run_lives p [] h = h
run_lives p (e ∷ events) h = next_lives p e (run_lives (next p e) events h)

-- a link that doesn't live
abbrev pub IsOver : Standing → Type 0
IsOver lives = ⊥
IsOver stops = Unit {0}
IsOver unjudged = Unit {0}
IsOver (closes end) = Unit {0}

pub standing_cases : (s : Standing) → (s ≡ lives) ⊎ IsOver s
standing_cases lives = inl refl
standing_cases stops = inr tt
standing_cases unjudged = inr tt
standing_cases (closes end) = inr tt

over_same : (s : Standing) (q p : Past) → IsOver s → if_lives s q p ≡ p
over_same lives q p h = absurd h
over_same stops q p h = refl
over_same unjudged q p h = refl
over_same (closes end) q p h = refl

run_over : (p : Past) (events : List Event) → IsOver p.standing → run p events ≡ p
run_over p [] h = refl
run_over p (e ∷ events) h =
    ap (λ q. run q events) (over_same p.standing (with_made p (made p.size p.link e p.verdicts)) p h) ∙ run_over p events h

-- ---- verdicts that come later change nothing before

abbrev pub with_more : Past → List Verdict → Past
with_more p vs = record { size = p.size; link = p.link; owed = p.owed; mets = p.mets; verdicts = p.verdicts ++ vs; standing = p.standing }

abbrev pub made_more : Made → List Verdict → Made
made_more m vs = record { size = m.size; link = m.link; out = m.out; mets = m.mets; verdicts = m.verdicts ++ vs; standing = m.standing }

clock_with : (timed : Bool) (size : ℕ) (link : LinkState) (sequence : ℕ) (asking : Asking) (js vs : List Verdict)
    → (by_clock timed size link sequence asking js).standing ≡ lives
    → by_clock timed size link sequence asking (js ++ vs) ≡ made_more (by_clock timed size link sequence asking js) vs
clock_with true size link sequence asking js vs h = refl
clock_with false size link sequence asking js vs h = absurd (cc)

asks_with : (size : ℕ) (link : LinkState) (sequence : ℕ) (asking : Asking) (js vs : List Verdict)
    → (asks size link sequence asking js).standing ≡ lives
    → asks size link sequence asking (js ++ vs) ≡ made_more (asks size link sequence asking js) vs
asks_with size link sequence asking [] vs h = absurd (cc)
asks_with size link sequence asking (Entered reply moment ∷ js) vs h = refl
asks_with size link sequence asking (Full ∷ js) vs h = refl
asks_with size link sequence asking (ClockFailed ∷ js) vs h = clock_with asking.is_timed size link sequence asking js vs h
asks_with size link sequence asking (NoMemory ∷ js) vs h = absurd (cc)

judgement_with : (size : ℕ) (link : LinkState) (sequence : ℕ) (js vs : List Verdict) (j : Judgement)
    → (by_judgement size link sequence js j).standing ≡ lives
    → by_judgement size link sequence (js ++ vs) j ≡ made_more (by_judgement size link sequence js j) vs
judgement_with size link sequence js vs (refuse refusal) h = refl
judgement_with size link sequence js vs (own messages next) h = refl
judgement_with size link sequence js vs (ask asking) h = asks_with size link sequence asking js vs h

kind_with : (b : Bool) (m m' : Made) (other other' : Made) (vs : List Verdict) → (cond b m other).standing ≡ lives
    → (m.standing ≡ lives → m' ≡ made_more m vs) → (other.standing ≡ lives → ⊥) → cond b m' other' ≡ made_more (cond b m other) vs
kind_with true m m' other other' vs h f g = f h
kind_with false m m' other other' vs h f g = absurd (g h)

not_closed : (end : Outcome) → closes end ≡ lives → ⊥
not_closed end e = cc

-- verdicts that come later change nothing of an event after which the link lives
made_with : (size : Option ℕ) (link : LinkState) (e : Event) (js vs : List Verdict) → (made size link e js).standing ≡ lives
    → made size link e (js ++ vs) ≡ made_more (made size link e js) vs
unfolding made
made_with size link (opened c) js vs h = refl
made_with None link (message m at) js vs h = refl
made_with (Some size) link (message m at) js vs h =
    kind_with (is_s7 m) (by_judgement size link (sequence_of m) js (judge link m)) (by_judgement size link (sequence_of m) (js ++ vs) (judge link m)) _ _ vs h
    (λ k. judgement_with size link (sequence_of m) js vs (judge link m) k) (λ k. not_closed _ k)

next_with : (p : Past) (vs : List Verdict) (e : Event) → (next p e).standing ≡ lives → next (with_more p vs) e ≡ with_more (next p e) vs
next_with p vs e h =
    let live = next_lives p e h in
    let here = next_at p e live in
    next_at (with_more p vs) e live
    ∙ (ap (λ m. with_made (with_more p vs) m) (made_with p.size p.link e p.verdicts vs (ap (λ (q : Past). q.standing) (sym here) ∙ h))
    ∙ ap (λ q. with_more q vs) (sym here))

pub run_with : (p : Past) (vs : List Verdict) (events : List Event) → (run p events).standing ≡ lives → run (with_more p vs) events ≡ with_more (run p events) vs
run_with p vs [] h = refl
run_with p vs (e ∷ events) h =
    ap (λ q. run q events) (next_with p vs e (run_lives (next p e) events h)) ∙ run_with (next p e) vs events h

-- ---- octets

abbrev events_of : List ℕ → List Event
events_of b = (reading Request b).events

abbrev torn_at : List ℕ → Option ℕ
torn_at b = torn_of Request b

-- where nothing ended, the octets end nothing
pub standing_none : (torn : Option ℕ) (s : Standing) → standing_with torn s None ≡ s
standing_none torn lives = refl
standing_none torn stops = refl
standing_none torn unjudged = refl
standing_none torn (closes end) = refl

pub ending_none : (torn : Option ℕ) (p : Past) → with_ending torn None p ≡ p
ending_none torn p =
    ap (λ (s : Standing). record { size = p.size; link = p.link; owed = p.owed; mets = p.mets; verdicts = p.verdicts; standing = s }) (standing_none torn p.standing)

-- a link that lives has read no ending, and its messages ended nothing
record IsAlive (s : Standing) (ending : Option Ending) : Type 0 where
  standing : s ≡ lives
  none : ending ≡ None

is_alive : (torn : Option ℕ) (s : Standing) (ending : Option Ending) → standing_with torn s ending ≡ lives → IsAlive s ending
is_alive torn lives None h = record { standing = refl; none = refl }
is_alive torn lives (Some ending) h = absurd (not_closed (ended_by torn ending) h)
is_alive torn stops ending h = absurd (cc)
is_alive torn unjudged ending h = absurd (cc)
is_alive torn (closes end) ending h = absurd (not_closed end h)

alive : (first : LinkState) (b : List ℕ) (js : List Verdict) → (past first b js).standing ≡ lives → IsAlive (run (start first js) (events_of b)).standing (reading Request b).ending
unfolding past
alive first b js h = is_alive (torn_at b) (run (start first js) (events_of b)).standing (reading Request b).ending h

pub none_ended : (first : LinkState) (b : List ℕ) (js : List Verdict) → (past first b js).standing ≡ lives → (reading Request b).ending ≡ None
none_ended first b js h = (alive first b js h).none

pub past_is_run : (first : LinkState) (b : List ℕ) (js : List Verdict) → (past first b js).standing ≡ lives → past first b js ≡ run (start first js) (events_of b)
unfolding past
past_is_run first b js h =
    ap (λ e. with_ending (torn_at b) e (run (start first js) (events_of b))) (none_ended first b js h) ∙ ending_none (torn_at b) (run (start first js) (events_of b))

-- the same, with these verdicts to come
abbrev with_verdicts : Past → List Verdict → Past
with_verdicts p vs = record { size = p.size; link = p.link; owed = p.owed; mets = p.mets; verdicts = vs; standing = p.standing }

-- the events of more octets come behind those before
past_behind : (first : LinkState) (b used : List ℕ) (js vs : List Verdict) (events : List Event) (ending : Option Ending)
    → (past first b js).standing ≡ lives → (past first b js).verdicts ≡ []
    → events_of (b ++ used) ≡ events_of b ++ events → (reading Request (b ++ used)).ending ≡ ending
    → past first (b ++ used) (js ++ vs) ≡ with_ending (torn_at (b ++ used)) ending (run (with_verdicts (past first b js) vs) events)
unfolding past
past_behind first b used js vs events ending live empty more ends =
    let p = run (start first js) (events_of b) in
    let same = past_is_run first b js live in
    let before : run (start first (js ++ vs)) (events_of b) ≡ with_verdicts (past first b js) vs =
    run_with (start first js) vs (events_of b) ((alive first b js live).standing)
    ∙ (ap (λ q. with_more q vs) (sym same)
    ∙ ap (λ (ws : List Verdict). with_verdicts (past first b js) (ws ++ vs)) empty) in
    ap (λ e. with_ending (torn_at (b ++ used)) e (run (start first (js ++ vs)) (events_of (b ++ used)))) ends
    ∙ ap (with_ending (torn_at (b ++ used)) ending)
    (ap (run (start first (js ++ vs))) more ∙ (run-append (start first (js ++ vs)) (events_of b) events ∙ ap (λ q. run q events) before))

-- octets that bring nothing change nothing
pub past_more : (first : LinkState) (b used : List ℕ) (js : List Verdict) → (past first b js).standing ≡ lives → (past first b js).verdicts ≡ []
    → events_of (b ++ used) ≡ events_of b ++ [] → (reading Request (b ++ used)).ending ≡ None
    → past first (b ++ used) (js ++ []) ≡ past first b js
past_more first b used js live empty more ends =
    past_behind first b used js [] [] None live empty more ends
    ∙ (ending_none (torn_at (b ++ used)) (with_verdicts (past first b js) [])
    ∙ ap (with_verdicts (past first b js)) (sym empty))

-- an event is handled after those before it
pub past_event : (first : LinkState) (b used : List ℕ) (js vs : List Verdict) (e : Event) → (past first b js).standing ≡ lives → (past first b js).verdicts ≡ []
    → events_of (b ++ used) ≡ events_of b ++ e ∷ [] → (reading Request (b ++ used)).ending ≡ None
    → past first (b ++ used) (js ++ vs) ≡ with_made (past first b js) (made (past first b js).size (past first b js).link e vs)
past_event first b used js vs e live empty more ends =
    past_behind first b used js vs (e ∷ []) None live empty more ends
    ∙ (ending_none (torn_at (b ++ used)) (next (with_verdicts (past first b js) vs) e)
    ∙ next_at (with_verdicts (past first b js) vs) e live)

-- octets that end the link close it
pub past_ended : (first : LinkState) (b used : List ℕ) (js : List Verdict) (ending : Ending) → (past first b js).standing ≡ lives → (past first b js).verdicts ≡ []
    → events_of (b ++ used) ≡ events_of b ++ [] → (reading Request (b ++ used)).ending ≡ Some ending
    → past first (b ++ used) (js ++ []) ≡ with_ending (torn_at (b ++ used)) (Some ending) (past first b js)
past_ended first b used js ending live empty more ends =
    past_behind first b used js [] [] (Some ending) live empty more ends
    ∙ ap (λ vs. with_ending (torn_at (b ++ used)) (Some ending) (with_verdicts (past first b js) vs)) (sym empty)

pub closes_by : (torn : Option ℕ) (ending : Ending) (p : Past) → p.standing ≡ lives → (with_ending torn (Some ending) p).standing ≡ closes (ended_by torn ending)
closes_by torn ending p live = ap (λ s. standing_with torn s (Some ending)) live

pub past_nothing : (first : LinkState) (js : List Verdict) → past first [] js ≡ start first js
unfolding past reading packets_of rest_of
past_nothing first js = refl

-- ---- octets that come later

-- what events add: octets, and nothing that asks where no verdict is left
pub record Grows (p q : Past) : Type 0 where
  pub tail : List ℕ
  pub owed : q.owed ≡ p.owed ++ tail
  pub met : p.verdicts ≡ [] → q.verdicts ≡ []
  pub mets : p.verdicts ≡ [] → q.mets ≡ p.mets

grows_none : (p : Past) → Grows p p
grows_none p = record { tail = []; owed = sym (append-nil p.owed); met = λ h. h; mets = λ h. refl }

record IsEmpty (m : Made) : Type 0 where
  met : m.verdicts ≡ []
  mets : m.mets ≡ []

judgement_empty : (size : ℕ) (link : LinkState) (sequence : ℕ) (j : Judgement) → IsEmpty (by_judgement size link sequence [] j)
judgement_empty size link sequence (refuse refusal) = record { met = refl; mets = refl }
judgement_empty size link sequence (own messages next) = record { met = refl; mets = refl }
judgement_empty size link sequence (ask asking) = record { met = refl; mets = refl }

kind_empty : (b : Bool) (m other : Made) → IsEmpty m → IsEmpty other → IsEmpty (cond b m other)
kind_empty true m other p q = p
kind_empty false m other p q = q

made_empty : (size : Option ℕ) (link : LinkState) (e : Event) → IsEmpty (made size link e [])
unfolding made
made_empty size link (opened c) = record { met = refl; mets = refl }
made_empty None link (message m at) = record { met = refl; mets = refl }
made_empty (Some size) link (message m at) =
    kind_empty (is_s7 m) _ _ (judgement_empty size link (sequence_of m) (judge link m)) (record { met = refl; mets = refl })

step_grows : (p : Past) (e : Event) → Grows p (with_made p (made p.size p.link e p.verdicts))
step_grows p e = record {
  tail = (made p.size p.link e p.verdicts).out;
  owed = refl;
  met = λ none. ap (λ vs. (made p.size p.link e vs).verdicts) none ∙ (made_empty p.size p.link e).met;
  mets = λ none. ap (λ vs. p.mets ++ (made p.size p.link e vs).mets) none ∙ (ap (λ x. p.mets ++ x) (made_empty p.size p.link e).mets ∙ append-nil p.mets);
}

next_grows_by : (s : Standing) (p q : Past) → Grows p q → Grows p (if_lives s q p)
next_grows_by lives p q h = h
next_grows_by stops p q h = grows_none p
next_grows_by unjudged p q h = grows_none p
next_grows_by (closes end) p q h = grows_none p

run_grows : (p : Past) (events : List Event) → Grows p (run p events)
run_grows p [] = grows_none p
run_grows p (e ∷ events) =
    let a = next_grows_by p.standing p (with_made p (made p.size p.link e p.verdicts)) (step_grows p e) in
    let b = run_grows (next p e) events in
    record {
      tail = a.tail ++ b.tail;
      owed = b.owed ∙ (ap (λ x. x ++ b.tail) a.owed ∙ append_assoc p.owed a.tail b.tail);
      met = λ h. b.met (a.met h);
      mets = λ h. b.mets (a.met h) ∙ a.mets h;
    }

-- octets that come later add to what is owed
pub past_grows : (first : LinkState) (b more : List ℕ) (js : List Verdict) → Grows (past first b js) (past first (b ++ more) js)
unfolding past
past_grows first b more js =
    let f = reading_grows Request b more in
    let p = run (start first js) (events_of b) in
    let P : Past → Type 0 = λ q. Grows p q in
    let g = subst P (sym (ap (run (start first js)) f.events ∙ run-append (start first js) (events_of b) f.further)) (run_grows p f.further) in
    record { tail = g.tail; owed = g.owed; met = g.met; mets = g.mets }

standing_over : (torn : Option ℕ) (s : Standing) (ending : Option Ending) → IsOver s → standing_with torn s ending ≡ s
standing_over torn lives ending h = absurd h
standing_over torn stops ending h = refl
standing_over torn unjudged ending h = refl
standing_over torn (closes end) ending h = refl

ending_over : (torn torn' : Option ℕ) (ending ending' : Option Ending) (p : Past) → IsOver p.standing → with_ending torn ending p ≡ with_ending torn' ending' p
ending_over torn torn' ending ending' p h =
    ap (λ (s : Standing). record { size = p.size; link = p.link; owed = p.owed; mets = p.mets; verdicts = p.verdicts; standing = s })
    (standing_over torn p.standing ending h ∙ sym (standing_over torn' p.standing ending' h))

-- behind an ending no packet is open
torn_ended : (b : List ℕ) (ending : Ending) → (reading Request b).ending ≡ Some ending → torn_at b ≡ torn_by 0 (reading Request b).unfinished
torn_ended b ending is = ap (λ e. torn_by (length (open_packet e (rest_of (limits Request) b))) (reading Request b).unfinished) is

torn_stays : (b more : List ℕ) (ending : Ending) → (reading Request b).ending ≡ Some ending → torn_at (b ++ more) ≡ torn_at b
torn_stays b more ending is =
    let same = reading_ended Request b more ending is in
    torn_ended (b ++ more) ending (ap (λ (p : Progress). p.ending) same ∙ is)
    ∙ (ap (λ (p : Progress). torn_by 0 p.unfinished) same ∙ sym (torn_ended b ending is))

abbrev past_by : LinkState → List Verdict → Option ℕ → Progress → Past
past_by first js torn p = with_ending torn p.ending (run (start first js) p.events)

over_by : (first : LinkState) (b more : List ℕ) (js : List Verdict) (ending : Option Ending) → (reading Request b).ending ≡ ending
    → IsOver (standing_with (torn_at b) (run (start first js) (events_of b)).standing ending)
    → past_by first js (torn_at (b ++ more)) (reading Request (b ++ more)) ≡ past_by first js (torn_at b) (reading Request b)
over_by first b more js (Some ending) is h =
    ap (past_by first js (torn_at (b ++ more))) (reading_ended Request b more ending is)
    ∙ ap (λ t. past_by first js t (reading Request b)) (torn_stays b more ending is)
over_by first b more js None is h =
    let p = run (start first js) (events_of b) in
    let o : IsOver p.standing = subst IsOver (standing_none (torn_at b) p.standing) h in
    let f = reading_grows Request b more in
    let same : run (start first js) (events_of (b ++ more)) ≡ p =
    ap (run (start first js)) f.events ∙ (run-append (start first js) (events_of b) f.further ∙ run_over p f.further o) in
    ap (with_ending (torn_at (b ++ more)) (reading Request (b ++ more)).ending) same
    ∙ ending_over (torn_at (b ++ more)) (torn_at b) (reading Request (b ++ more)).ending (reading Request b).ending p o

-- where a link is over, octets that come later add nothing
pub past_over : (first : LinkState) (b more : List ℕ) (js : List Verdict) → IsOver (past first b js).standing → past first (b ++ more) js ≡ past first b js
unfolding past
past_over first b more js h = over_by first b more js (reading Request b).ending refl h

over_end : (s : Standing) (n m : Option ℕ) → IsOver s → end_by s n ≡ end_by s m
over_end lives n m h = absurd h
over_end stops n m h = refl
over_end unjudged n m h = refl
over_end (closes end) n m h = refl

-- nor do they change the end
pub end_over : (first : LinkState) (b more : List ℕ) (js : List Verdict) → IsOver (past first b js).standing → end_of first (b ++ more) js ≡ end_of first b js
end_over first b more js h =
    ap (λ (p : Past). end_by p.standing (torn_at (b ++ more))) (past_over first b more js h)
    ∙ over_end (past first b js).standing (torn_at (b ++ more)) (torn_at b) h

-- ---- want of memory

-- memory was wanting for none
abbrev NoneLacked : List Verdict → Type 0
NoneLacked [] = Unit {0}
NoneLacked (Full ∷ verdicts) = NoneLacked verdicts
NoneLacked (Entered reply moment ∷ verdicts) = NoneLacked verdicts
NoneLacked (ClockFailed ∷ verdicts) = NoneLacked verdicts
NoneLacked (NoMemory ∷ verdicts) = ⊥

none_is_last : (vs : List Verdict) → NoneLacked vs → MemoryIsLast vs
none_is_last [] h = tt
none_is_last (Full ∷ vs) h = none_is_last vs h
none_is_last (Entered reply moment ∷ vs) h = none_is_last vs h
none_is_last (ClockFailed ∷ vs) h = none_is_last vs h
none_is_last (NoMemory ∷ vs) h = absurd h

-- memory was wanting for none of a link that lives, and else for the last one at most
record Remembers (s : Standing) (vs : List Verdict) : Type 0 where
  none : s ≡ lives → NoneLacked vs
  last : MemoryIsLast vs

one_more : (xs : List Verdict) (v : Verdict) → NoneLacked xs → MemoryIsLast (xs ++ v ∷ [])
one_more [] Full h = tt
one_more [] (Entered reply moment) h = tt
one_more [] ClockFailed h = tt
one_more [] NoMemory h = refl
one_more (Full ∷ xs) v h = one_more xs v h
one_more (Entered reply moment ∷ xs) v h = one_more xs v h
one_more (ClockFailed ∷ xs) v h = one_more xs v h
one_more (NoMemory ∷ xs) v h = absurd h

none_more : (xs ys : List Verdict) → NoneLacked xs → NoneLacked ys → NoneLacked (xs ++ ys)
none_more [] ys p q = q
none_more (Full ∷ xs) ys p q = none_more xs ys p q
none_more (Entered reply moment ∷ xs) ys p q = none_more xs ys p q
none_more (ClockFailed ∷ xs) ys p q = none_more xs ys p q
none_more (NoMemory ∷ xs) ys p q = absurd p

-- what one event adds: nothing, or one verdict, which lets the link live only where memory was there
data AddsOne (m : Made) : Type 0 where
  adds_none : m.mets ≡ [] → AddsOne m
  adds_one : (asking : Asking) (v : Verdict) → m.mets ≡ met asking v ∷ [] → (m.standing ≡ lives → NoneLacked (v ∷ [])) → AddsOne m

clock_adds : (timed : Bool) (size : ℕ) (link : LinkState) (sequence : ℕ) (asking : Asking) (js : List Verdict) → AddsOne (by_clock timed size link sequence asking js)
clock_adds true size link sequence asking js = adds_one asking ClockFailed refl (λ h. tt)
clock_adds false size link sequence asking js = adds_one asking ClockFailed refl (λ h. tt)

asks_adds : (size : ℕ) (link : LinkState) (sequence : ℕ) (asking : Asking) (js : List Verdict) → AddsOne (asks size link sequence asking js)
asks_adds size link sequence asking [] = adds_none refl
asks_adds size link sequence asking (Entered reply moment ∷ js) = adds_one asking (Entered reply moment) refl (λ h. tt)
asks_adds size link sequence asking (Full ∷ js) = adds_one asking Full refl (λ h. tt)
asks_adds size link sequence asking (ClockFailed ∷ js) = clock_adds asking.is_timed size link sequence asking js
asks_adds size link sequence asking (NoMemory ∷ js) = adds_one asking NoMemory refl (λ h. absurd (cc))

judgement_adds : (size : ℕ) (link : LinkState) (sequence : ℕ) (js : List Verdict) (j : Judgement) → AddsOne (by_judgement size link sequence js j)
judgement_adds size link sequence js (refuse refusal) = adds_none refl
judgement_adds size link sequence js (own messages next) = adds_none refl
judgement_adds size link sequence js (ask asking) = asks_adds size link sequence asking js

kind_adds : (b : Bool) (m other : Made) → AddsOne m → AddsOne other → AddsOne (cond b m other)
kind_adds true m other p q = p
kind_adds false m other p q = q

made_adds : (size : Option ℕ) (link : LinkState) (e : Event) (js : List Verdict) → AddsOne (made size link e js)
unfolding made
made_adds size link (opened c) js = adds_none refl
made_adds None link (message m at) js = adds_none refl
made_adds (Some size) link (message m at) js =
    kind_adds (is_s7 m) _ _ (judgement_adds size link (sequence_of m) js (judge link m)) (adds_none refl)

abbrev verdicts_in : Past → List Verdict
verdicts_in p = verdicts_of p.mets

verdicts-append : (xs ys : List Met) → verdicts_of (xs ++ ys) ≡ verdicts_of xs ++ verdicts_of ys
verdicts-append [] ys = refl
verdicts-append (x ∷ xs) ys = ap (λ vs. x.verdict ∷ vs) (verdicts-append xs ys)

adds_remembers : (p : Past) (m : Made) → NoneLacked (verdicts_in p) → AddsOne m → Remembers m.standing (verdicts_in (with_made p m))
adds_remembers p m none (adds_none is) =
    let same : verdicts_of (p.mets ++ m.mets) ≡ verdicts_of p.mets = ap (λ x. verdicts_of (p.mets ++ x)) is ∙ ap verdicts_of (append-nil p.mets) in
    record { none = λ h. subst NoneLacked (sym same) none; last = subst MemoryIsLast (sym same) (none_is_last (verdicts_in p) none) }
adds_remembers p m none (adds_one asking v is lets) =
    let same : verdicts_of (p.mets ++ m.mets) ≡ verdicts_of p.mets ++ v ∷ [] =
    ap (λ x. verdicts_of (p.mets ++ x)) is ∙ verdicts-append p.mets (met asking v ∷ []) in
    record {
      none = λ h. subst NoneLacked (sym same) (none_more (verdicts_of p.mets) (v ∷ []) none (lets h));
      last = subst MemoryIsLast (sym same) (one_more (verdicts_of p.mets) v none);
    }

next_remembers_by : (s : Standing) (p : Past) (m : Made) → p.standing ≡ s → Remembers p.standing (verdicts_in p) → AddsOne m
    → Remembers (if_lives s (with_made p m) p).standing (verdicts_in (if_lives s (with_made p m) p))
next_remembers_by lives p m is r a = adds_remembers p m (r.none is) a
next_remembers_by stops p m is r a = r
next_remembers_by unjudged p m is r a = r
next_remembers_by (closes end) p m is r a = r

run_remembers : (p : Past) (events : List Event) → Remembers p.standing (verdicts_in p) → MemoryIsLast (verdicts_in (run p events))
run_remembers p [] r = r.last
run_remembers p (e ∷ events) r =
    run_remembers (next p e) events (next_remembers_by p.standing p (made p.size p.link e p.verdicts) refl r (made_adds p.size p.link e p.verdicts))

-- memory is wanting for the last telegram at most
pub memory_is_last : (first : LinkState) (b : List ℕ) (js : List Verdict) → MemoryIsLast (verdicts_of (telegrams first b js))
unfolding past
memory_is_last first b js = run_remembers (start first js) (events_of b) (record { none = λ h. tt; last = tt })

-- where no verdict is left, none is that memory was wanting
record NeverStops (m : Made) : Type 0 where
  goes_on : m.standing ≡ stops → ⊥

judgement_never : (size : ℕ) (link : LinkState) (sequence : ℕ) (j : Judgement) → NeverStops (by_judgement size link sequence [] j)
judgement_never size link sequence (refuse refusal) = record { goes_on = λ e. absurd (cc) }
judgement_never size link sequence (own messages next) = record { goes_on = λ e. absurd (cc) }
judgement_never size link sequence (ask asking) = record { goes_on = λ e. absurd (cc) }

kind_never : (b : Bool) (m other : Made) → NeverStops m → NeverStops other → NeverStops (cond b m other)
kind_never true m other p q = p
kind_never false m other p q = q

made_never : (size : Option ℕ) (link : LinkState) (e : Event) → NeverStops (made size link e [])
unfolding made
made_never size link (opened c) = record { goes_on = λ h. absurd (cc) }
made_never None link (message m at) = record { goes_on = λ h. absurd (cc) }
made_never (Some size) link (message m at) =
    kind_never (is_s7 m) _ _ (judgement_never size link (sequence_of m) (judge link m)) (record { goes_on = λ h. absurd (cc) })

next_never_by : (s : Standing) (p q : Past) → p.standing ≡ s → (p.standing ≡ stops → ⊥) → (q.standing ≡ stops → ⊥) → (if_lives s q p).standing ≡ stops → ⊥
next_never_by lives p q is h k = k
next_never_by stops p q is h k = h
next_never_by unjudged p q is h k = h
next_never_by (closes end) p q is h k = h

run_never : (p : Past) (events : List Event) → p.verdicts ≡ [] → (p.standing ≡ stops → ⊥) → (run p events).standing ≡ stops → ⊥
run_never p [] none h = h
run_never p (e ∷ events) none h =
    run_never (next p e) events
    ((next_grows_by p.standing p (with_made p (made p.size p.link e p.verdicts)) (step_grows p e)).met none)
    (next_never_by p.standing p (with_made p (made p.size p.link e p.verdicts)) refl h
    (λ k. (made_never p.size p.link e).goes_on (ap (λ vs. (made p.size p.link e vs).standing) (sym none) ∙ k)))

standing_stops : (torn : Option ℕ) (s : Standing) (ending : Option Ending) → standing_with torn s ending ≡ stops → s ≡ stops
standing_stops torn lives None h = h
standing_stops torn lives (Some ending) h = absurd (cc)
standing_stops torn stops ending h = refl
standing_stops torn unjudged ending h = absurd (cc)
standing_stops torn (closes end) ending h = absurd (cc)

-- a link that lives, and whose telegrams have all met their verdicts, never stops for want of memory
pub never_stops : (first : LinkState) (b more : List ℕ) (js : List Verdict) → (past first b js).standing ≡ lives → (past first b js).verdicts ≡ []
    → (past first (b ++ more) js).standing ≡ stops → ⊥
unfolding past
never_stops first b more js live none h =
    let p = run (start first js) (events_of b) in
    let f = reading_grows Request b more in
    let a : p.standing ≡ lives = (alive first b js live).standing in
    run_never p f.further none (λ k. lives_not_stops (sym a ∙ k))
    (ap (λ (q : Past). q.standing) (sym (ap (run (start first js)) f.events ∙ run-append (start first js) (events_of b) f.further))
    ∙ standing_stops (torn_at (b ++ more)) (run (start first js) (events_of (b ++ more))).standing (reading Request (b ++ more)).ending h)
  where
    lives_not_stops : lives ≡ stops → ⊥
    lives_not_stops e = cc
