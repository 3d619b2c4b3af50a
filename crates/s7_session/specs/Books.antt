-- The calls of one link among those of all links in a history.
use Rattle.std.specs.Prelude.{◌≡◌, ℕ, ◌+◌, ◌==◌, List, [], ◌∷◌, ◌++◌, length, map, if◌then◌else◌}
use Rattle.std.specs.List.{AllByRecursion}
use Rattle.s7_turn.specs.declared.view.Entry.{Entry as Call}
use Rattle.s7_turn.specs.Histories.{replay}
use Rattle.s7_plant.specs.declared.request.Ask.{Ask}
use Rattle.s7_plant.specs.Answers.{answer_of, after}
use Rattle.s7_plant.specs.Books.{BookTold}
use Rattle.s7_plant.specs.Events.{events_from}
use Rattle.s7_plant.specs.Journals.{after_call, calls_of}
use Rattle.s7_plant.specs.Observers.{Watch, watch_all}
use Rattle.s7_plant.specs.State.{State, state_of}
use Rattle.s7_session.specs.Entry.{Entry}

-- what links asked, in the order in which it was carried out; a caller is the number of a link
abbrev pub History : Type 0
History = List (Call Ask)

-- the history of a book
abbrev pub history_of : BookTold → History
history_of book = calls_of book.journal.entries

-- an entry of this number, with the answer that this state gives
abbrev pub entry_at : ℕ → State → Ask → Entry
entry_at number s ask = record { number = number; ask = ask; reply = answer_of s ask }

-- the calls of a link in a history, each with its number there, and each answered by the state that all calls before it
-- left
abbrev pub own_from : ℕ → State → ℕ → History → List Entry
own_from number s link [] = []
own_from number s link (call ∷ history) =
    if call.caller == link
    then entry_at number s call.request ∷ own_from (number + 1) (after s call.request) link history
    else own_from (number + 1) (after s call.request) link history

-- the calls of a link in a history that begins at a state
abbrev pub own : State → ℕ → History → List Entry
own s link history = own_from 0 s link history

-- the calls are all of this link
abbrev pub AreOf : ℕ → History → Type 0
AreOf link history = AllByRecursion (λ (call : Call Ask). call.caller ≡ link) history

-- What calls of one link leave of a book: its opening and its limit stay, no entry is lost, and each new entry is a
-- call of this link.
pub record GoesOnBy (link : ℕ) (old new : BookTold) : Type 0 where
  pub opening : new.opening ≡ old.opening
  pub limit : new.journal.limit ≡ old.journal.limit
  pub calls : History
  pub history : history_of new ≡ history_of old ++ calls
  pub own : AreOf link calls

-- While a book gained entries, each of its observers was notified of the events of the calls that were entered, in
-- order and of each once, and of nothing else.
pub record AreToldOn (old new : BookTold) (ws ws' : List Watch) : Type 0 where
  pub calls : History
  pub history : history_of new ≡ history_of old ++ calls
  pub told : ws' ≡ map (watch_all (events_from (replay after_call (state_of old.opening) (history_of old))
      (length (history_of old)) calls)) ws
