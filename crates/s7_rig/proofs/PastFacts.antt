-- Facts about what became of octets, and about verdicts among more.
use Rattle.std.proofs.Common.{◌≡◌, ℕ, true, cond, List, [], ◌∷◌, ◌++◌, refl, ap, sym, ◌∙◌, append_assoc, append-nil}
use Rattle.std.specs.Prelude.{None, Some}
use Rattle.s7_plant.specs.declared.request.Ask.{Ask}
use Rattle.s7_plant.specs.Replies.{Said}
use Rattle.s7_wire.specs.declared.found.Opening.TheVariants.{Request}
use Rattle.s7_wire.specs.Reading.{Event, message, Progress, reading, torn_of}
use Rattle.s7_wire.proofs.GrowthLemmas.{reading_grows}
use Rattle.s7_session.specs.declared.outcome.Outcome.TheVariants.{NotS7}
use Rattle.s7_session.specs.Events.{Standing, lives, stops, unjudged, closes, Made, made, by_judgement, is_s7}
use Rattle.s7_session.specs.Judgement.{judge, sequence_of}
use Rattle.s7_session.specs.LinkState.{LinkState}
use Rattle.s7_session.specs.Owed.{Past, start, with_made, if_lives, next, run, with_ending, past, telegrams, entered}
use Rattle.s7_session.specs.Telegrams.{Met, entered_of, AnyFull}
use Rattle.s7_session.specs.Verdict.{Verdict, Entered, Full, ClockFailed, NoMemory}
use Rattle.s7_session.proofs.ConsumeLemmas.{entered-append}
use Rattle.s7_session.proofs.PastLemmas.{with_more, run-append, run_with, ending_none, none_ended, past_is_run}

-- what a message of this protocol makes
pub made_message : (size : ℕ) (link : LinkState) (m : List ℕ) (at : ℕ) (vs : List Verdict) → is_s7 m ≡ true
    → made (Some size) link (message m at) vs ≡ by_judgement size link (sequence_of m) vs (judge link m)
unfolding made
made_message size link m at vs is =
    let other : Made = record { size = Some size; link = link; out = []; mets = []; verdicts = vs; standing = closes (NotS7 at) } in
    ap (λ t. cond t (by_judgement size link (sequence_of m) vs (judge link m)) other) is

-- verdicts that come later wait for their telegrams
pub past_with : (first : LinkState) (b : List ℕ) (js vs : List Verdict) → (past first b js).standing ≡ lives → past first b (js ++ vs) ≡ with_more (past first b js) vs
unfolding past
past_with first b js vs live =
    let es = (reading Request b).events in
    let torn = torn_of Request b in
    let same : past first b js ≡ run (start first js) es = past_is_run first b js live in
    ap (λ e. with_ending torn e (run (start first (js ++ vs)) es)) (none_ended first b js live)
    ∙ (ending_none torn (run (start first (js ++ vs)) es)
    ∙ (run_with (start first js) vs es (ap (λ (q : Past). q.standing) (sym same) ∙ live)
    ∙ ap (λ (q : Past). with_more q vs) (sym same)))

-- octets that bring no event and end nothing change nothing
pub past_alike : (first : LinkState) (b c : List ℕ) (js : List Verdict)
    → (reading Request c).events ≡ (reading Request b).events → (reading Request c).ending ≡ None
    → (reading Request b).ending ≡ None → past first c js ≡ past first b js
unfolding past
past_alike first b c js same none none' =
    let p = run (start first js) (reading Request b).events in
    let torn = torn_of Request b in
    let torn' = torn_of Request c in
    ap (λ es. with_ending torn' (reading Request c).ending (run (start first js) es)) same
    ∙ (ap (λ e. with_ending torn' e p) none
    ∙ (ending_none torn' p
    ∙ sym (ap (λ e. with_ending torn e p) none' ∙ ending_none torn p)))

-- nor do octets that are read as those before
pub past_same : (first : LinkState) (b c : List ℕ) (js : List Verdict) → reading Request c ≡ reading Request b → (reading Request b).ending ≡ None → past first c js ≡ past first b js
past_same first b c js same none =
    past_alike first b c js (ap (λ (q : Progress). q.events) same) (ap (λ (q : Progress). q.ending) same ∙ none) none

-- ---- what was entered grows

abbrev Asks : Past → Past → Type 0
Asks p q = (new : List Met) × (q.mets ≡ p.mets ++ new)

asks_none : (p : Past) → Asks p p
asks_none p = ([], sym (append-nil p.mets))

asks_both : (p q r : Past) → Asks p q → Asks q r → Asks p r
asks_both p q r h k = (h.0 ++ k.0, k.1 ∙ (ap (λ x. x ++ k.0) h.1 ∙ append_assoc p.mets h.0 k.0))

if_asks : (s : Standing) (p q : Past) → Asks p q → Asks p (if_lives s q p)
if_asks lives p q h = h
if_asks stops p q h = asks_none p
if_asks unjudged p q h = asks_none p
if_asks (closes end) p q h = asks_none p

run_asks : (p : Past) (events : List Event) → Asks p (run p events)
run_asks p [] = asks_none p
run_asks p (event ∷ events) =
    let m = made p.size p.link event p.verdicts in
    asks_both p (next p event) (run (next p event) events) (if_asks p.standing p (with_made p m) (m.mets, refl)) (run_asks (next p event) events)

-- more telegrams ask in more octets
asks_more : (first : LinkState) (b more : List ℕ) (js : List Verdict) → Asks (past first b js) (past first (b ++ more) js)
unfolding past
asks_more first b more js =
    let g = reading_grows Request b more in
    let es = (reading Request b).events in
    let p = run (start first js) es in
    let h = run_asks p g.further in
    (h.0, ap (λ (q : Past). q.mets) (ap (run (start first js)) g.events ∙ run-append (start first js) es g.further) ∙ h.1)

-- with more octets more is entered
pub entered_grows : (first : LinkState) (b more : List ℕ) (js : List Verdict) → (new : List (Ask × Said)) × (entered first (b ++ more) js ≡ entered first b js ++ new)
entered_grows first b more js =
    let h = asks_more first b more js in
    (entered_of h.0, ap entered_of h.1 ∙ entered-append (telegrams first b js) h.0)

-- ---- a telegram that met a full history did so among more of them

pub full_within : (xs ys : List Verdict) → AnyFull xs → AnyFull (xs ++ ys)
full_within [] ys any = absurd any
full_within (Full ∷ xs) ys any = any
full_within (Entered reply at ∷ xs) ys any = full_within xs ys any
full_within (ClockFailed ∷ xs) ys any = full_within xs ys any
full_within (NoMemory ∷ xs) ys any = full_within xs ys any

pub full_behind : (xs ys : List Verdict) → AnyFull ys → AnyFull (xs ++ ys)
full_behind [] ys any = any
full_behind (Full ∷ xs) ys any = tt
full_behind (Entered reply at ∷ xs) ys any = full_behind xs ys any
full_behind (ClockFailed ∷ xs) ys any = full_behind xs ys any
full_behind (NoMemory ∷ xs) ys any = full_behind xs ys any
