-- Requests one after another.
use Rattle.std.specs.Prelude.{◌≡◌, List, [], ◌∷◌, ◌++◌, map, fold}
use Rattle.s7_plant.specs.declared.request.Ask.{Ask}
use Rattle.s7_plant.specs.Requests.{kept}
use Rattle.s7_plant.specs.Answers.{answer_of, after}
use Rattle.s7_plant.specs.State.{State}

-- the state after all of these requests, in order
abbrev pub replay : State → List Ask → State
replay s asks = fold after s asks

-- what a history keeps of a request changes a state and is answered as the request itself
abbrev pub KeptIsTheSame : Type 0
KeptIsTheSame =
    (s : State) (ask : Ask)
    → (after s (kept ask) ≡ after s ask) × (answer_of s (kept ask) ≡ answer_of s ask)

-- a history of what is kept leaves the same state as the history of what was asked
abbrev pub KeptHistoriesAreTheSame : Type 0
KeptHistoriesAreTheSame =
    (s : State) (asks : List Ask) → replay s (map kept asks) ≡ replay s asks

-- one more request acts on the state that the requests before it left
abbrev pub GoesOn : Type 0
GoesOn =
    (s : State) (asks : List Ask) (ask : Ask)
    → replay s (asks ++ ask ∷ []) ≡ after (replay s asks) ask
