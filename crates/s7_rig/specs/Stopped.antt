-- Runs of a rig that stopped at a turn.
use Rattle.std.specs.Prelude.{◌≡◌, ◌⊎◌, ℕ, ◌*◌, Bool, true, false, List, ◌∷◌, ◌++◌, zero, suc, length}
use Rattle.s7_schedule.specs.Drawing.{seeded}
use Rattle.s7_rig.specs.State.{State, are_finished}
use Rattle.s7_rig.specs.Runs.{Turns, actors_of, most_rounds}

-- the first turns of this schedule lead from one state to the other, and the turns `left` remain
pub record TurnsLead (schedule left : List ℕ) (old new : State) : Type 0 where
  pub made : List ℕ
  pub front : schedule ≡ made ++ left
  pub stirred : Bool
  pub turned : Turns made old new stirred

-- the turns of this schedule stopped at one of them
abbrev pub TurnsStop : List ℕ → State → State → Type 0
TurnsStop schedule old last = (actor : ℕ) × (left : List ℕ) × TurnsLead schedule (actor ∷ left) old last

-- at most this number of rounds of all actors in order stopped at a turn; all rounds before it made progress, as
-- `Rounds` states
unfoldable pub RoundsStop : ℕ → State → State → Type 0
RoundsStop zero old last = ⊥
RoundsStop (suc more) old last =
    (are_finished old ≡ false)
    × (TurnsStop (actors_of old) old last
    ⊎ ((middle : State) × Turns (actors_of old) old middle true × RoundsStop more middle last))

-- the turns of a run before its rounds: the stated ones, then the seeded ones
abbrev pub first_turns : List ℕ → ℕ → ℕ → State → List ℕ
first_turns turns seed steps s = turns ++ seeded seed steps (2 * length s.posts)

-- A RUN STOPPED at a turn: at one of its first turns, or at a turn of a round after all of them
abbrev pub RunStops : List ℕ → ℕ → ℕ → State → State → Type 0
RunStops turns seed steps old last =
    TurnsStop (first_turns turns seed steps old) old last
    ⊎ ((middle : State) × (stirred : Bool) × Turns (first_turns turns seed steps old) old middle stirred
    × RoundsStop most_rounds middle last)
