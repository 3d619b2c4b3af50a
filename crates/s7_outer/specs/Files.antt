-- What the calls on files do.
use Rattle.std.specs.Prelude.{◌≡◌, ◌≢◌, ℕ, ◌+◌, ◌<◌, ◌≤◌, List, Option, length, take, IsSomeAnd}

-- the length of the longest file that is read whole, in octets
abbrev pub file_limit : ℕ
file_limit = 67108864

-- the file is longer than the limit, and these are its first `file_limit + 1` octets
abbrev pub IsCutFrom : Option (List ℕ) → List ℕ → Type 0
IsCutFrom held octets = IsSomeAnd held (λ whole. (file_limit < length whole) × (octets ≡ take (file_limit + 1) whole))

-- every path but this one holds what it held before
abbrev pub KeepsOtherPaths : List ℕ → (List ℕ → Option (List ℕ)) → (List ℕ → Option (List ℕ)) → Type 0
KeepsOtherPaths path old new = (other : List ℕ) → other ≢ path → new other ≡ old other

-- no count of a path fell
abbrev pub NonePathFell : (List ℕ → ℕ) → (List ℕ → ℕ) → Type 0
NonePathFell old new = (path : List ℕ) → old path ≤ new path

-- no count of a path rose by more than one
abbrev pub NoPathRoseTwice : (List ℕ → ℕ) → (List ℕ → ℕ) → Type 0
NoPathRoseTwice old new = (path : List ℕ) → new path ≤ old path + 1
