-- What a whole rig leaves.
use Rattle.std.specs.Prelude.{◌≡◌, ◌⊎◌, ℕ, ◌<◌, List, [], length, slice_get, Option, Some, option_map}
use Rattle.std.specs.List.{AllByRecursion}
use Rattle.s7_area.specs.Memory.{Memory}
use Rattle.s7_dialogue.specs.declared.config.Config.{Config}
use Rattle.s7_client.specs.Completions.{Told, told_of_results}
use Rattle.s7_plant.specs.Journals.{entries_of}
use Rattle.s7_plant.specs.State as plant
use Rattle.s7_session.specs.Books.{history_of}
use Rattle.s7_session.specs.Legal.{IsLegalBook}
use Rattle.s7_rig.specs.State.{Post, State}
use Rattle.s7_rig.specs.Scripts.{Script}
use Rattle.s7_rig.specs.Shown.{ClientTold, EndTold, first_results, state_told}
use Rattle.s7_rig.specs.Legal.{IsLegalPost, links_of}
use Rattle.s7_rig.specs.Sent.{sent_by, answered_by}
use Rattle.s7_rig.specs.Split.{AllStand}
use Rattle.s7_rig.specs.Complete.{AllComeOff}
use Rattle.s7_rig.specs.Runs.{AreFresh, IsRun}
use Rattle.s7_rig.specs.Stopped.{RunStops}

-- which turns are taken: the stated ones, and a number of turns drawn from a seed
pub record Turning : Type 0 where
  pub turns : List ℕ
  pub seed : ℕ
  pub steps : ℕ

-- A RIG over these areas, with a journal of this limit and a client for each script, was run, and this is what it
-- left
pub record RigRan (opening : Memory) (limit : ℕ) (config : Config) (scripts : List Script) (turning : Turning)
    (end : EndTold) : Type 0 where
  pub start : State
  pub last : State
  -- it began with the areas, an empty journal, and clients and sessions that had done nothing
  pub opened : plant.state_of start.book.opening ≡ plant.begins_with opening
  pub unchanged : plant.state_of start.book.plant ≡ plant.begins_with opening
  pub journal : start.book.journal ≡ entries_of [] limit
  pub fresh : AreFresh opening.guard config 1 scripts start.posts
  pub run : IsRun turning.turns turning.seed turning.steps start last
  pub ends : end ≡ state_told last
  -- the book is what the calls of the links make of the areas
  pub book : IsLegalBook (plant.begins_with opening) limit (links_of last.posts) last.book
  -- its history is legal for all links, given what their clients and sessions transmitted
  pub legal : (k : ℕ) (p : Post) → slice_get last.posts k ≡ Some p
      → IsLegalPost opening limit config.pdu (history_of last.book) p
      (sent_by k turning.turns turning.seed turning.steps start last run)
      (answered_by k turning.turns turning.seed turning.steps start last run)
  -- what a read of one item, of several items or of a whole data block gave with code 0 is what the areas held at its
  -- entries
  pub reads : AllByRecursion (λ (c : ClientTold). AllStand (plant.begins_with opening) (history_of end.book) c.link
      config.pdu c.results c.places) end.clients
  -- if the journal has room left, each job that can succeed does, unless it timed out
  pub complete : length (history_of end.book) < limit
      → AllByRecursion (λ (c : ClientTold). AllComeOff opening (history_of end.book) config.pdu c.results c.places)
      end.clients

-- ---- a rig for which an allocation failed

-- a rig over these areas, with a client for each script, came to this state, in which its run stopped or ended
pub record CameTo (opening : Memory) (limit : ℕ) (config : Config) (scripts : List Script) (turning : Turning)
    (last : State) : Type 0 where
  pub start : State
  pub opened : plant.state_of start.book.opening ≡ plant.begins_with opening
  pub unchanged : plant.state_of start.book.plant ≡ plant.begins_with opening
  pub journal : start.book.journal ≡ entries_of [] limit
  pub fresh : AreFresh opening.guard config 1 scripts start.posts
  pub reached : RunStops turning.turns turning.seed turning.steps start last
      ⊎ IsRun turning.turns turning.seed turning.steps start last

-- AN ALLOCATION FAILED: the completion was notified of nothing, or of each result that the first client of such a rig
-- had by then, once and in order
abbrev pub ToldWanting : Memory → ℕ → Config → List Script → Turning → Option Told → Option Told → Type 0
ToldWanting opening limit config scripts turning before after =
    (after ≡ before)
    ⊎ ((last : State) × CameTo opening limit config scripts turning last
    × (after ≡ option_map (λ t. told_of_results t (first_results (state_told last))) before))
