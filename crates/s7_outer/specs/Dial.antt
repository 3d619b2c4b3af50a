-- What a dial gives.
use Rattle.std.specs.Prelude.{◌≡◌, ℕ, ◌+◌, ◌≤◌, List, Option, Some, None}
use Rattle.s7_outer.specs.declared.dial.Dialled.{Dialled}
use Rattle.s7_outer.specs.declared.dial.Dialled.TheVariants as dialled

-- if the dial shows its next link, the call gives that link or fails
abbrev pub GivesTold : {L : Type 0} → Option L → Dialled L → Type 0
GivesTold None answer = Unit {0}
GivesTold (Some told) (dialled.Link link) = link ≡ told
GivesTold (Some told) dialled.Failed = Unit {0}

-- no count of a host and a port fell
abbrev pub NoHostFell : (List ℕ → ℕ → ℕ) → (List ℕ → ℕ → ℕ) → Type 0
NoHostFell old new = (host : List ℕ) (port : ℕ) → old host port ≤ new host port

-- no count of a host and a port rose by more than one
abbrev pub NoHostRoseTwice : (List ℕ → ℕ → ℕ) → (List ℕ → ℕ → ℕ) → Type 0
NoHostRoseTwice old new = (host : List ℕ) (port : ℕ) → new host port ≤ old host port + 1
