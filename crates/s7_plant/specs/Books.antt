-- What contracts see of a book.
use Rattle.std.specs.Prelude.{◌≡◌, ℕ, ◌+◌, List, map}
use Rattle.s7_turn.specs.declared.view.Entry.{Entry as Call}
use Rattle.s7_plant.specs.declared.book.Book.{Book}
use Rattle.s7_plant.specs.declared.plant.Plant.{Plant}
use Rattle.s7_plant.specs.declared.request.Ask.{Ask}
use Rattle.s7_plant.specs.Events.{event_at}
use Rattle.s7_plant.specs.Journals.{Entries, after_call, replay_entries}
use Rattle.s7_plant.specs.Observers.{Seen, Watch, told_one, watch}
use Rattle.s7_plant.specs.State.{State, state_of}

-- the plants and the journal of a book, without its observers
pub record BookTold : Type 0 where
  pub opening : Plant
  pub plant : Plant
  pub journal : Entries
  pub replayed : state_of plant ≡ replay_entries (state_of opening) journal.entries

abbrev pub book_told : {O : Type 0} → Book O → BookTold
book_told book =
    record { opening = book.opening; plant = book.plant; journal = book.journal; replayed = book.replayed }

-- the observers of a book, and since when each watches, as `seen` shows them
abbrev pub watches_of : {O : Type 0} → (O → Seen) → Book O → List Watch
watches_of seen book = map (λ w. watch (seen w.observer) w.since) book.observers.items

-- what is seen of each observer of a book, in order
abbrev pub seen_of : {O : Type 0} → (O → Seen) → Book O → List Seen
seen_of seen book = map (λ w. seen w.observer) book.observers.items

-- ---- as a machine

-- the plant's state, the number of the next entry, and what is seen of each observer
pub record BookState : Type 0 where
  pub plant : State
  pub number : ℕ
  pub seen : List Seen

abbrev pub book_state : State → ℕ → List Seen → BookState
book_state plant number seen = record { plant = plant; number = number; seen = seen }

-- A CALL changes the plant, and each observer is notified of it once
abbrev pub after_entry : BookState → Call Ask → BookState
after_entry s call =
    book_state (after_call s.plant call) (s.number + 1)
    (map (λ (seen : Seen). told_one seen (event_at s.plant s.number call)) s.seen)
