-- Journals: entries one after another, and the state that they lead to.
use Rattle.std.specs.Prelude.{◌≡◌, ℕ, ◌%◌, ◌≤◌, List, All, map, take}
use Rattle.s7_turn.specs.declared.view.Entry.{Entry as Call}
use Rattle.s7_turn.specs.Histories.{entry, replay as replay_calls}
use Rattle.s7_plant.specs.declared.journal.Entry.{Entry}
use Rattle.s7_plant.specs.declared.request.Ask.{Ask}
use Rattle.s7_plant.specs.Requests.{IsReady}
use Rattle.s7_plant.specs.Answers.{after}
use Rattle.s7_plant.specs.Histories.{replay}
use Rattle.s7_plant.specs.State.{State}

-- the entries in order, and the greatest number of them
pub record Entries : Type 0 where
  pub entries : List Entry
  pub limit : ℕ

abbrev pub entries_of : List Entry → ℕ → Entries
entries_of entries limit = record { entries = entries; limit = limit }

-- the entry of this link for this request
abbrev pub entered : ℕ → Ask → Entry
entered link ask = record { link = link; ask = ask }

-- what the entries asked, in order
abbrev pub asks_of : List Entry → List Ask
asks_of entries = map (λ (e : Entry). e.ask) entries

-- the state after all entries
abbrev pub replay_entries : State → List Entry → State
replay_entries s entries = replay s (asks_of entries)

-- the state after the first n entries
abbrev pub at : State → List Entry → ℕ → State
at s entries n = replay_entries s (take n entries)

-- an image of the plant is kept each time that this number of entries has been added
abbrev pub image_interval : ℕ
image_interval = 4096

-- the number of steps to that state from the newest image at or before it
abbrev pub steps_to : ℕ → ℕ
steps_to n = n % image_interval

-- the entries as a history of calls, whose callers are the links
abbrev pub calls_of : List Entry → List (Call Ask)
calls_of entries = map (λ (e : Entry). entry e.link e.ask) entries

-- the state after a call
abbrev pub after_call : State → Call Ask → State
after_call s call = after s call.request

-- the entries lead to one state, whether they are read as entries or as calls of a history
abbrev pub CallsLeadTheSame : Type 0
CallsLeadTheSame =
    (s : State) (entries : List Entry)
    → replay_calls after_call s (calls_of entries) ≡ replay_entries s entries

-- each entry's request can be carried out again
abbrev pub AreReady : List Entry → Type 0
AreReady entries = All (λ (e : Entry). IsReady e.ask.request) entries

-- the entries fit the limit, and the capacity is enough for the limit
pub record IsJournal (entries : List Entry) (len limit capacity : ℕ) : Type 0 where
  pub some : 1 ≤ limit
  pub few : limit ≤ 262144
  pub fits : len ≤ limit
  pub taken : limit ≤ capacity
  pub ready : AreReady entries
