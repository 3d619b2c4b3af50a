-- What a door gives.
use Rattle.std.specs.Prelude.{◌≡◌, ℕ, ◌+◌, ◌≤◌, List, [], ◌∷◌, Option, Some, None}
use Rattle.s7_outer.specs.Count.{Rose}
use Rattle.s7_outer.specs.declared.door.Arrival.{Arrival}
use Rattle.s7_outer.specs.declared.door.Arrival.TheVariants as arrival

-- if the links to come are visible: a link given is the first of them, `End` is given only after the last, and a
-- failure takes none
abbrev pub GivesNext : {L : Type 0} → Option (List L) → Option (List L) → Arrival L → Type 0
GivesNext None new answer = new ≡ None
GivesNext (Some links) new (arrival.Link link) = (rest : List _) × (links ≡ link ∷ rest) × (new ≡ Some rest)
GivesNext (Some links) new arrival.End = (links ≡ []) × (new ≡ Some [])
GivesNext (Some links) new arrival.Failed = new ≡ Some links

-- one call for a port failed: its count rose, and no count fell or rose by more than one
abbrev pub PortFailed : ℕ → (ℕ → ℕ) → (ℕ → ℕ) → Type 0
PortFailed port old new =
    Rose (old port) (new port) × ((other : ℕ) → (old other ≤ new other) × (new other ≤ old other + 1))
