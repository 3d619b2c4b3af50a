-- What the observers of a book were told while its links were served.
use Rattle.std.proofs.Common.{◌≡◌, ℕ, List, [], ◌∷◌, ◌++◌, map, length, refl, ap, ap₂, sym, ◌∙◌}
use Rattle.std.specs.List.{AllByRecursion}
use Rattle.s7_turn.specs.Histories.{replay}
use Rattle.s7_plant.specs.declared.event.Event.{Event}
use Rattle.s7_plant.specs.declared.watcher.Watcher.{Watcher}
use Rattle.s7_plant.specs.BookLaws.{seen_of_replay}
use Rattle.s7_plant.specs.Books.{BookTold, BookState, after_entry, book_state}
use Rattle.s7_plant.specs.Events.{events, events_from}
use Rattle.s7_plant.specs.Journals.{after_call}
use Rattle.s7_plant.specs.Observers.{IsFresh, Seen, Watch, fresh, told, watch, watch_all}
use Rattle.s7_plant.specs.State.{State, state_of}
use Rattle.s7_session.specs.Books.{AreToldOn, History, history_of}
use Rattle.s7_server_main.specs.Told.{events_of}

-- what watches have, without since when
seen_in : {W : Type 0} (show : W → Seen) (since : W → ℕ) (ws : List W)
    → map (λ (w : Watch). w.seen) (map (λ w. watch (show w) (since w)) ws) ≡ map show ws
seen_in show since [] = refl
seen_in show since (w ∷ ws) = ap (λ l. show w ∷ l) (seen_in show since ws)

-- watches that were told of events have what their observers have then
told_in : {W : Type 0} (show : W → Seen) (since : W → ℕ) (es : List Event) (ws : List W)
    → map (λ (w : Watch). w.seen) (map (watch_all es) (map (λ w. watch (show w) (since w)) ws))
    ≡ map (λ s. told s es) (map show ws)
told_in show since es [] = refl
told_in show since es (w ∷ ws) = ap (λ l. told (show w) es ∷ l) (told_in show since es ws)

-- what has just come to a book has what it had
pub just_come : {O : Type 0} (seen : O → Seen) (ws : List (Watcher O)) (os : List O)
    → map (λ w. watch (seen w.observer) w.since) ws ≡ map (λ o. watch (seen o) 0) os
    → map (λ w. seen w.observer) ws ≡ map seen os
just_come seen ws os same =
    sym (seen_in (λ w. seen w.observer) (λ w. w.since) ws)
    ∙ ap (map (λ (w : Watch). w.seen)) same ∙ seen_in seen (λ _. 0) os

-- nothing was counted yet
pub all_fresh : {O : Type 0} (seen : O → Seen) (os : List O) → AllByRecursion (λ o. IsFresh (seen o)) os
    → map fresh (map seen os) ≡ map seen os
all_fresh seen [] all = refl
all_fresh seen (o ∷ os) all = ap₂ (λ s l. s ∷ l) (sym all.0) (all_fresh seen os all.1)

-- told after told, and the observers in between
pub told_each : {O : Type 0} (seen : O → Seen) (es : List Event) (os : List O)
    → map (λ s. told s es) (map seen os) ≡ map (λ o. told (seen o) es) os
told_each seen es [] = refl
told_each seen es (o ∷ os) = ap (λ l. told (seen o) es ∷ l) (told_each seen es os)

-- a book without entries went on to this one: its observers were told of all that there is to tell of it
pub told_alone : {O : Type 0} (seen : O → Seen) (a b : BookTold) (ws ws' : List (Watcher O))
    → history_of a ≡ [] → b.opening ≡ a.opening
    → AreToldOn a b (map (λ w. watch (seen w.observer) w.since) ws) (map (λ w. watch (seen w.observer) w.since) ws')
    → map (λ w. seen w.observer) ws' ≡ map (λ s. told s (events_of b)) (map (λ w. seen w.observer) ws)
told_alone seen a b ws ws' none opening t =
    let show = λ (w : Watcher _). seen w.observer in
    let start = λ (h : History). events_from (replay after_call (state_of a.opening) h) (length h) t.calls in
    let all : t.calls ≡ history_of b = sym (t.history ∙ ap (λ h. h ++ t.calls) none) in
    let same : start (history_of a) ≡ events_of b =
    ap start none ∙ ap₂ (λ o h. events (state_of o) h) (sym opening) all in
    sym (seen_in show (λ w. w.since) ws')
    ∙ ap (map (λ (w : Watch). w.seen)) t.told
    ∙ told_in show (λ w. w.since) (start (history_of a)) ws
    ∙ ap (λ es. map (λ s. told s es) (map show ws)) same

-- a machine that is the replay of its history has told its observers of all that there is to tell of it
pub told_hosted : (s : State) (history : History) (now asked : List Seen) (plant : State) (n : ℕ)
    → book_state plant n now ≡ replay after_entry (book_state s 0 (map fresh now)) history
    → map fresh now ≡ map fresh asked → map fresh asked ≡ asked
    → now ≡ map (λ x. told x (events s history)) asked
told_hosted s history now asked plant n is same fresh_too =
    ap (λ (b : BookState). b.seen) is
    ∙ seen_of_replay (book_state s 0 (map fresh now)) history
    ∙ ap (map (λ x. told x (events s history))) (same ∙ fresh_too)

-- nothing was told of a book without entries
pub told_none : (b : BookTold) (now : List Seen) → history_of b ≡ [] → now ≡ map (λ s. told s (events_of b)) now
told_none b now none = kept now ∙ ap (λ h. map (λ s. told s (events (state_of b.opening) h)) now) (sym none)
  where
    kept : (ss : List Seen) → ss ≡ map (λ s. told s []) ss
    kept [] = refl
    kept (s ∷ ss) = ap (λ l. s ∷ l) (kept ss)
