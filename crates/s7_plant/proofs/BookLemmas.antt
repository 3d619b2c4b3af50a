-- A book's step: what it leads to as a machine's, and what its observers were told of.
use Rattle.std.proofs.Common.{◌≡◌, ℕ, Bool, List, [], ◌∷◌, ◌++◌, length, map, Result, Ok, Err, OnOk, IfErr}
use Rattle.std.proofs.Common.{refl, sym, ap, ◌∙◌, subst, length-append}
use Rattle.std.specs.List.{AllByRecursion}
use Rattle.std.proofs.lemmas.List.Sums.{fold-append}
use Rattle.s7_turn.specs.declared.view.Entry.{Entry as Call}
use Rattle.s7_turn.specs.Histories.{entry, replay}
use Rattle.s7_plant.specs.declared.book.Book.{Book}
use Rattle.s7_plant.specs.declared.event.Event.{Event}
use Rattle.s7_plant.specs.declared.journal.Entry.{Entry}
use Rattle.s7_plant.specs.declared.request.Ask.{Ask}
use Rattle.s7_plant.specs.declared.request.Request.{Request}
use Rattle.s7_plant.specs.Answers.{answer, after}
use Rattle.s7_plant.specs.BookLaws.{calls_more, length_calls, calls_lead}
use Rattle.s7_plant.specs.Books.{BookState, after_entry, book_state, seen_of, watches_of}
use Rattle.s7_plant.specs.Events.{AreTold, code_of, event_at}
use Rattle.s7_plant.specs.Journals.{Entries, after_call, calls_of, entered, entries_of, replay_entries}
use Rattle.s7_plant.specs.Observers.{IsFresh, Seen, Watch, fresh, told_one, watch, watch_one}
use Rattle.s7_plant.specs.Requests.{asked, kept, kept_request}
use Rattle.s7_plant.specs.State.{State, state_of}
use Rattle.s7_plant.proofs.KeptLemmas.{same_request, same_code}
use Rattle.s7_plant.proofs.ObserverLemmas.{all_told_more, fresh_told_one}

event : ℕ → ℕ → ℕ → ℕ → Event
event number link code error = record { number = number; link = link; code = code; error = error }

-- the event of what is kept of a call is that of the call
pub event_kept : (s : State) (number link : ℕ) (ask : Ask) → event_at s number (entry link (kept ask)) ≡ event_at s number (entry link ask)
unfolding event
event_kept s number link ask =
    λ i. event number link (same_code ask.request i) ((same_request s ask.right ask.request).1 i).error

-- ---- what observers were told of

-- who was told of a journal's events is told of one more of it
pub told_by_step : (opening s : State) (entries : List Entry) (journal : Entries) (limit number link code error : ℕ) (right : Bool) (request done : Request) (ws ws' : List Watch)
    → s ≡ replay_entries opening entries
    → number ≡ length entries
    → code ≡ code_of done
    → done ≡ kept_request request
    → error ≡ (answer s right request).error
    → journal ≡ entries_of (entries ++ entered link (asked right done) ∷ []) limit
    → ws' ≡ map (watch_one (record { number = number; link = link; code = code; error = error })) ws
    → AreTold opening (calls_of entries) ws → AreTold opening (calls_of journal.entries) ws'
unfolding event
told_by_step opening s entries journal limit number link code error right request done ws ws' state numbered coded kept_is said pushed told are =
    let call : Call Ask = entry link (asked right done) in
    let history = calls_of entries in
    let left : replay after_call opening history ≡ s = calls_lead opening entries ∙ sym state in
    let told_of : event_at (replay after_call opening history) (length history) call ≡ event number link code error =
    (λ i. event_at (left i) ((length_calls entries ∙ sym numbered) i) call)
    ∙ (λ i. event number link (sym coded i) ((ap (answer s right) kept_is ∙ (same_request s right request).1) i).error)
    ∙ ap (event number link code) (sym said) in
    let calls : calls_of journal.entries ≡ history ++ call ∷ [] =
    ap (λ (j : Entries). calls_of j.entries) pushed ∙ calls_more entries (entered link (asked right done) ∷ []) in
    subst (λ h. AreTold opening h ws') (sym calls)
    (subst (AreTold opening (history ++ call ∷ [])) (ap (λ e. map (watch_one e) ws) told_of ∙ sym told)
    (all_told_more opening history call ws are))

-- ---- as a machine

-- what the observers of a book have, of whom watches it
seen_in : {W : Type 0} (shown : W → Seen) (since : W → ℕ) (ws : List W) → map (λ (w : Watch). w.seen) (map (λ w. watch (shown w) (since w)) ws) ≡ map shown ws
seen_in shown since [] = refl
seen_in shown since (w ∷ ws) = ap (λ xs. shown w ∷ xs) (seen_in shown since ws)

seen_after : (e : Event) (ws : List Watch) → map (λ (w : Watch). w.seen) (map (watch_one e) ws) ≡ map (λ x. told_one x e) (map (λ (w : Watch). w.seen) ws)
seen_after e [] = refl
seen_after e (w ∷ ws) = ap (λ xs. told_one w.seen e ∷ xs) (seen_after e ws)

fresh_after : (e : Event) (xs : List Seen) → map fresh (map (λ x. told_one x e) xs) ≡ map fresh xs
fresh_after e [] = refl
fresh_after e (x ∷ xs) = λ i. fresh_told_one x e i ∷ fresh_after e xs i

-- those who have counted nothing have done so as watchers
fresh_all : {O : Type 0} (shown : O → Seen) (os : List O) → AllByRecursion (λ o. IsFresh (shown o)) os → map shown os ≡ map fresh (map shown os)
fresh_all shown [] all = refl
fresh_all shown (o ∷ os) all = λ i. all.0 i ∷ fresh_all shown os all.1 i

pub untold : {W O : Type 0} (shown : W → Seen) (since : W → ℕ) (ws : List W) (shown_alone : O → Seen) (os : List O) → AllByRecursion (λ o. IsFresh (shown_alone o)) os → map (λ w. watch (shown w) (since w)) ws ≡ map (λ o. watch (shown_alone o) 0) os → map shown ws ≡ map fresh (map shown ws)
untold shown since ws shown_alone os all watched =
    let same : map shown ws ≡ map shown_alone os = sym (seen_in shown since ws) ∙ ap (map (λ (w : Watch). w.seen)) watched ∙ seen_in shown_alone (λ o. 0) os in
    same ∙ fresh_all shown_alone os all ∙ sym (ap (map fresh) same)

-- the opening of a book as a machine, and its state
abbrev opening_in : {O : Type 0} → (O → Seen) → Book O → BookState
opening_in shown book = book_state (state_of book.opening) 0 (map fresh (seen_of shown book))

abbrev state_in : {O : Type 0} → (O → Seen) → Book O → BookState
state_in shown book = book_state (state_of book.plant) (length book.journal.entries) (seen_of shown book)

module _ {O : Type 0} (shown : O → Seen) (old new : Book O) where
  -- each observer has what it had, and the event
  seen_more : (e : Event) → watches_of shown new ≡ map (watch_one e) (watches_of shown old) → seen_of shown new ≡ map (λ x. told_one x e) (seen_of shown old)
  seen_more e told =
      sym (seen_in (λ w. shown w.observer) (λ w. w.since) new.observers.items)
      ∙ ap (map (λ (w : Watch). w.seen)) told
      ∙ seen_after e (watches_of shown old)
      ∙ ap (map (λ x. told_one x e)) (seen_in (λ w. shown w.observer) (λ w. w.since) old.observers.items)

  fresh_same : (e : Event) → watches_of shown new ≡ map (watch_one e) (watches_of shown old) → map fresh (seen_of shown new) ≡ map fresh (seen_of shown old)
  fresh_same e told = ap (map fresh) (seen_more e told) ∙ fresh_after e (seen_of shown old)

  same_opening : (e : Event) → new.opening ≡ old.opening → watches_of shown new ≡ map (watch_one e) (watches_of shown old) → opening_in shown new ≡ opening_in shown old
  same_opening e opening told = λ i. book_state (state_of (opening i)) 0 (fresh_same e told i)

  -- one more call acts on the state
  state_more : (link : ℕ) (ask : Ask) → new.journal ≡ entries_of (old.journal.entries ++ entered link (kept ask) ∷ []) old.journal.limit → state_of new.plant ≡ after (state_of old.plant) ask → watches_of shown new ≡ map (watch_one (event_at (state_of old.plant) (length old.journal.entries) (entry link ask))) (watches_of shown old) → state_in shown new ≡ after_entry (state_in shown old) (entry link (kept ask))
  state_more link ask pushed changed told =
      let plant = state_of old.plant in
      let number = length old.journal.entries in
      let one_more = ap (λ (j : Entries). length j.entries) pushed ∙ length-append old.journal.entries (entered link (kept ask) ∷ []) in
      let heard = seen_more (event_at plant number (entry link ask)) told ∙ ap (λ e. map (λ x. told_one x e) (seen_of shown old)) (sym (event_kept plant number link ask)) in
      λ i. book_state ((changed ∙ sym (same_request plant ask.right ask.request).0) i) (one_more i) (heard i)

  replayed_more : (link : ℕ) (ask : Ask) → new.opening ≡ old.opening → new.journal ≡ entries_of (old.journal.entries ++ entered link (kept ask) ∷ []) old.journal.limit → state_of new.plant ≡ after (state_of old.plant) ask → watches_of shown new ≡ map (watch_one (event_at (state_of old.plant) (length old.journal.entries) (entry link ask))) (watches_of shown old) → state_in shown old ≡ replay after_entry (opening_in shown old) (calls_of old.journal.entries) → state_in shown new ≡ replay after_entry (opening_in shown new) (calls_of new.journal.entries)
  replayed_more link ask opening pushed changed told replayed =
      let call : Call Ask = entry link (kept ask) in
      let calls : calls_of new.journal.entries ≡ calls_of old.journal.entries ++ call ∷ [] = ap (λ (j : Entries). calls_of j.entries) pushed ∙ calls_more old.journal.entries (entered link (kept ask) ∷ []) in
      state_more link ask pushed changed told
      ∙ ap (λ s. after_entry s call) replayed
      ∙ sym (fold-append after_entry (opening_in shown old) (calls_of old.journal.entries) (call ∷ []))
      ∙ (λ i. replay after_entry (sym (same_opening _ opening told) i) (sym calls i))

  -- ---- a step, which took what was asked or gave it back

  pub fixed_by_step : (X : Type 0) (result : Result ℕ Ask) (link : ℕ) (ask : Ask) → new.opening ≡ old.opening
      → IfErr result (λ back. (back ≡ ask) × (new ≡ old) × X)
      → OnOk result (watches_of shown new ≡ map (watch_one (event_at (state_of old.plant) (length old.journal.entries) (entry link ask))) (watches_of shown old))
      → opening_in shown new ≡ opening_in shown old
  fixed_by_step X (Ok number) link ask opening err told = same_opening _ opening told
  fixed_by_step X (Err back) link ask opening err told = ap (opening_in shown) err.1

  pub replayed_by_step : (X : Type 0) (result : Result ℕ Ask) (link : ℕ) (ask : Ask) → new.opening ≡ old.opening
      → IfErr result (λ back. (back ≡ ask) × (new ≡ old) × X)
      → OnOk result (new.journal ≡ entries_of (old.journal.entries ++ entered link (kept ask) ∷ []) old.journal.limit)
      → OnOk result (state_of new.plant ≡ after (state_of old.plant) ask)
      → OnOk result (watches_of shown new ≡ map (watch_one (event_at (state_of old.plant) (length old.journal.entries) (entry link ask))) (watches_of shown old))
      → state_in shown old ≡ replay after_entry (opening_in shown old) (calls_of old.journal.entries)
      → state_in shown new ≡ replay after_entry (opening_in shown new) (calls_of new.journal.entries)
  replayed_by_step X (Ok number) link ask opening err pushed changed told replayed =
      replayed_more link ask opening pushed changed told replayed
  replayed_by_step X (Err back) link ask opening err pushed changed told replayed =
      subst (λ book. state_in shown book ≡ replay after_entry (opening_in shown book) (calls_of book.journal.entries)) (sym err.1) replayed
