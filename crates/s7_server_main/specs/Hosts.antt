-- Links that a command served over a book.
use Rattle.std.specs.Prelude.{◌≡◌, ℕ, false, List, [], ◌∷◌, map}
use Rattle.s7_outer.specs.DoorShown.{DoorShown}
use Rattle.s7_outer.specs.Shown.{Shown}
use Rattle.s7_area.specs.Memory.{Memory}
use Rattle.s7_plant.specs.Books.{BookTold}
use Rattle.s7_plant.specs.State.{begins_with}
use Rattle.s7_session.specs.Books.{history_of}
use Rattle.s7_session.specs.Legal.{IsLegalBook}
use Rattle.s7_session.specs.LinkState.{LinkState, first_link}
use Rattle.s7_listener.specs.Given.{HasGiven}
use Rattle.s7_listener.specs.Hosted.{AreHosted, counts_of}
use Rattle.s7_listener.specs.Served.{ServedTold}
use Rattle.s7_server_main.specs.Told.{RunTold}

-- the number of the one link that `pipe` serves
abbrev pub piped_link : ℕ
piped_link = 1

-- the state in which a link to areas of this memory begins, with their guard
abbrev pub first_of : Memory → LinkState
first_of opening = first_link opening.guard

-- LINKS THAT SHOWED THIS WERE SERVED over these areas, with a journal of this limit: each over the history of the one
-- book that is left, which is legal for them
pub record HostsOver (opening : Memory) (limit : ℕ) (pipes : List Shown)
    (links : List ServedTold) (book : BookTold) : Type 0 where
  pub hosted : AreHosted (begins_with opening) limit (first_of opening) (history_of book) pipes links
  pub legal_book : IsLegalBook (begins_with opening) limit (counts_of links) book

-- the one link was served, and no door failed
pub record ServesPipe (opening : Memory) (limit : ℕ) (pipe : Shown) (run : RunTold) : Type 0 where
  pub hosts : HostsOver opening limit (pipe ∷ []) run.links run.book
  pub door : run.door_failed ≡ false

-- the links that a door gave while it listened on this port, at most `most`, were served
pub record ServesDoor {L : Type 0} (shows : L → Shown) (port most : ℕ) (opening : Memory) (limit : ℕ)
    (old new : DoorShown L) (run : RunTold) : Type 0 where
  pub lines : List L
  pub given : HasGiven port most old new lines run.door_failed
  pub hosts : HostsOver opening limit (map shows lines) run.links run.book
