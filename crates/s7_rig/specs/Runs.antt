-- The runs of a rig: stated turns, seeded turns, and rounds.
use Rattle.std.specs.Prelude.{◌≡◌, ◌⊎◌, ℕ, ◌+◌, ◌*◌, ◌||◌, Bool, true, false, List}
use Rattle.std.specs.Prelude.{[], ◌∷◌, ◌++◌, zero, suc, length, Option, None}
use Rattle.s7_schedule.specs.Drawing.{seeded}
use Rattle.s7_memory.specs.Pipes.{empty_pipes}
use Rattle.s7_area.specs.declared.guard.Guard.{Guard}
use Rattle.s7_dialogue.specs.declared.config.Config.{Config}
use Rattle.s7_client.specs.Polling as client
use Rattle.s7_session.specs.LinkRun as session
use Rattle.s7_session.specs.LinkState.{first_link}
use Rattle.s7_session.specs.Stands.{number_of}
use Rattle.s7_rig.specs.Numbers.{count_from}
use Rattle.s7_rig.specs.Scripts.{Script}
use Rattle.s7_rig.specs.State.{Post, State, are_finished}
use Rattle.s7_rig.specs.Turns.{IsTurnOf}

-- ---- turns one after another

-- the turns of these actors in order, and whether one of them made progress
unfoldable pub Turns : List ℕ → State → State → Bool → Type 0
Turns [] old new stirs = (new ≡ old) × (stirs ≡ false)
Turns (actor ∷ actors) old new stirs =
    (middle : State) × (first : Bool) × (later : Bool) × IsTurnOf actor old middle first × Turns actors middle new later
    × (stirs ≡ (first || later))

-- all actors in order
abbrev pub actors_of : State → List ℕ
actors_of s = count_from 0 (2 * length s.posts)

-- ---- rounds

-- ROUNDS of all actors in order, at most this number: they end when every client is finished, or after a round that
-- made no progress
unfoldable pub Rounds : ℕ → State → State → Type 0
Rounds zero old new = new ≡ old
Rounds (suc more) old new =
    ((are_finished old ≡ true) × (new ≡ old))
    ⊎ ((are_finished old ≡ false) × (middle : State) × (stirs : Bool) × Turns (actors_of old) old middle stirs
    × (((stirs ≡ false) × (new ≡ middle)) ⊎ ((stirs ≡ true) × Rounds more middle new)))

-- the most rounds that are made
abbrev pub most_rounds : ℕ
most_rounds = 16777216

-- ---- whole runs

-- the octets that each pipe has room for
abbrev pub pipe_room : ℕ
pipe_room = 4096

-- 2024-01-01, in milliseconds since 1970
abbrev pub moment : ℕ
moment = 1704067200000

-- a client that has done nothing, with all its jobs still to start, and a session that has taken nothing, to areas with
-- this guard
pub record IsFreshPost (guard : Option Guard) (config : Config) (link : ℕ) (script : Script) (p : Post) : Type 0 where
  pub link_is : p.link ≡ link
  pub rest : p.rest ≡ script.jobs
  pub halts : p.halts ≡ script.halts
  pub client : client.IsFresh p.client config
  pub session : session.IsFresh (first_link guard) p.session
  pub number : number_of p.session ≡ link
  pub pipes : p.pipes ≡ empty_pipes pipe_room moment
  pub results : p.results ≡ []
  pub places : p.places ≡ []
  pub noted : p.noted ≡ None

-- for each script a client and a session that have done nothing; their links have consecutive numbers, from this one on
unfoldable pub AreFresh : Option Guard → Config → ℕ → List Script → List Post → Type 0
AreFresh guard config link [] [] = Unit {0}
AreFresh guard config link [] (p ∷ posts) = ⊥
AreFresh guard config link (script ∷ scripts) [] = ⊥
AreFresh guard config link (script ∷ scripts) (p ∷ posts) =
    IsFreshPost guard config link script p × AreFresh guard config (link + 1) scripts posts

-- A WHOLE RUN: the stated turns, then the seeded ones, then rounds
pub record IsRun (turns : List ℕ) (seed steps : ℕ) (old new : State) : Type 0 where
  pub middle : State
  pub stirred : Bool
  pub turned : Turns (turns ++ seeded seed steps (2 * length old.posts)) old middle stirred
  pub rounds : Rounds most_rounds middle new
