-- What files show to contracts.
use Rattle.std.specs.Prelude.{ℕ, List, Option, Bool}

-- paths are given as lists of octets
pub record FilesShown : Type 0 where
  -- whether `held` is what lies under the paths
  pub tells : Bool
  -- the octets of the file under a path, if there is one
  pub held : List ℕ → Option (List ℕ)
  -- the number of failed calls on a path
  pub faults : List ℕ → ℕ
