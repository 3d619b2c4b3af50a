-- What was served, as contracts see it.
use Rattle.std.specs.Prelude.{Bool, List, map}
use Rattle.s7_plant.specs.declared.event.Event.{Event}
use Rattle.s7_outer.specs.Shown.{Shown}
use Rattle.s7_plant.specs.Books.{BookTold, book_told}
use Rattle.s7_plant.specs.Events.{events}
use Rattle.s7_plant.specs.State.{state_of}
use Rattle.s7_session.specs.Books.{history_of}
use Rattle.s7_listener.specs.Served.{ServedTold, told_of}
use Rattle.s7_listener.specs.declared.served.Served.{Served}
use Rattle.s7_server_main.specs.declared.run.Run.{Run}

abbrev pub all_told : {L : Type 0} → (L → Shown) → List (Served L) → List ServedTold
all_told shows links = map (told_of shows) links

-- a run as contracts see it
pub record RunTold : Type 0 where
  pub book : BookTold
  pub links : List ServedTold
  pub door_failed : Bool

abbrev pub run_told : {L O : Type 0} → (L → Shown) → Run L O → RunTold
run_told shows run =
    record { book = book_told run.book; links = all_told shows run.links.items; door_failed = run.door_failed }

-- the events of a book, one for each entry
abbrev pub events_of : BookTold → List Event
events_of book = events (state_of book.opening) (history_of book)
