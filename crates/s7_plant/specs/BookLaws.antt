-- Laws of books: the plant that a history leads to, and what observers have seen of it.
use Rattle.std.proofs.Common.{◌≡◌, ℕ, suc, ◌+◌, List, [], ◌∷◌, ◌++◌, length, map, refl, ap, sym, ◌∙◌, arith}
use Rattle.std.proofs.lemmas.List.Sums.{fold-append}
use Rattle.s7_turn.specs.declared.view.Entry.{Entry as Call}
use Rattle.s7_turn.specs.Histories.{entry, replay}
use Rattle.s7_plant.specs.declared.event.Event.{Event}
use Rattle.s7_plant.specs.declared.journal.Entry.{Entry}
use Rattle.s7_plant.specs.declared.request.Ask.{Ask}
use Rattle.s7_plant.specs.Answers.{after}
use Rattle.s7_plant.specs.Books.{BookState, after_entry}
use Rattle.s7_plant.specs.Events.{event_at, events_from}
use Rattle.s7_plant.specs.Journals.{CallsLeadTheSame, after_call, calls_of}
use Rattle.s7_plant.specs.Observers.{Seen, Watch, told, told_one, watch, watch_all}
use Rattle.s7_plant.specs.State.{State}

-- ---- lists

map_same : {A : Type 0} (one : A → A) → ((x : A) → one x ≡ x) → (xs : List A) → map one xs ≡ xs
map_same one same [] = refl
map_same one same (x ∷ xs) = λ i. same x i ∷ map_same one same xs i

map_both : {A : Type 0} (first second both : A → A) → ((x : A) → second (first x) ≡ both x)
    → (xs : List A) → map second (map first xs) ≡ map both xs
map_both first second both same [] = refl
map_both first second both same (x ∷ xs) = λ i. same x i ∷ map_both first second both same xs i

-- ---- journals as histories

pub calls_more : (xs ys : List Entry) → calls_of (xs ++ ys) ≡ calls_of xs ++ calls_of ys
calls_more [] ys = refl
calls_more (x ∷ xs) ys = ap (λ cs. entry x.link x.ask ∷ cs) (calls_more xs ys)

pub length_calls : (xs : List Entry) → length (calls_of xs) ≡ length xs
length_calls [] = refl
length_calls (x ∷ xs) = ap suc (length_calls xs)

pub calls_lead : CallsLeadTheSame
calls_lead s [] = refl
calls_lead s (x ∷ xs) = calls_lead (after s x.ask) xs

-- ---- a history, as that of a machine

-- the plant changes as it does without observers
pub plant_of_replay : (s : BookState) (history : List (Call Ask))
    → (replay after_entry s history).plant ≡ replay after_call s.plant history
plant_of_replay s [] = refl
plant_of_replay s (call ∷ history) = plant_of_replay (after_entry s call) history

-- each observer was notified of the history's events
pub seen_of_replay : (s : BookState) (history : List (Call Ask))
    → (replay after_entry s history).seen ≡ map (λ (x : Seen). told x (events_from s.plant s.number history)) s.seen
seen_of_replay s [] = sym (map_same (λ x. x) (λ x. refl) s.seen)
seen_of_replay s (call ∷ history) =
    let first = event_at s.plant s.number call in
    let others = events_from (after_call s.plant call) (s.number + 1) history in
    seen_of_replay (after_entry s call) history
    ∙ map_both (λ x. told_one x first) (λ x. told x others) (λ x. told x (first ∷ others)) (λ x. refl) s.seen

-- ---- events

-- the events of more calls are those of the first, and those of the others at the state that the first left
pub events_more : (s : State) (number : ℕ) (xs ys : List (Call Ask))
    → events_from s number (xs ++ ys)
    ≡ events_from s number xs ++ events_from (replay after_call s xs) (number + length xs) ys
events_more s number [] ys = ap (λ n. events_from s n ys) (omega arith)
events_more s number (x ∷ xs) ys =
    let left = after_call s x in
    let first = event_at s number x in
    let step : number + 1 + length xs ≡ number + suc (length xs) = omega arith in
    ap (λ es. first ∷ es) (events_more left (number + 1) xs ys)
    ∙ ap (λ n. first ∷ events_from left (number + 1) xs ++ events_from (replay after_call left xs) n ys) step

-- one event for each call
pub length_events : (s : State) (number : ℕ) (xs : List (Call Ask)) → length (events_from s number xs) ≡ length xs
length_events s number [] = refl
length_events s number (x ∷ xs) = ap suc (length_events (after_call s x) (number + 1) xs)

-- ---- who watches

-- an empty list of events changes nothing
pub watch_none : (ws : List Watch) → map (watch_all []) ws ≡ ws
watch_none ws = map_same (watch_all []) (λ w. refl) ws

-- being notified of two lists of events one after another is being notified of all of them
pub watch_more : (es es' : List Event) (ws : List Watch)
    → map (watch_all es') (map (watch_all es) ws) ≡ map (watch_all (es ++ es')) ws
watch_more es es' ws =
    map_both (watch_all es) (watch_all es') (watch_all (es ++ es'))
    (λ w. ap (λ (x : Seen). watch x w.since) (sym (fold-append told_one w.seen es es'))) ws
