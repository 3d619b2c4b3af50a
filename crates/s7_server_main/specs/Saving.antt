-- How the files change.
use Rattle.std.specs.Prelude.{◌≡◌, ℕ, List, Option, Some, None, IsTrue}
use Rattle.s7_outer.specs.FilesShown.{FilesShown}
use Rattle.s7_outer.specs.Files.{KeepsOtherPaths}
use Rattle.s7_area.specs.Memory.{Memory}
use Rattle.s7_script.specs.Loading.{FailedOnce}
use Rattle.s7_script.specs.Spelling.{spelling}

-- the content of every path but this one stays
abbrev pub KeepsBut : Option (List ℕ) → FilesShown → FilesShown → Type 0
KeepsBut None old new = (new.held ≡ old.held) × (new.tells ≡ old.tells)
KeepsBut (Some path) old new = KeepsOtherPaths path old.held new.held × (new.tells ≡ old.tells)

-- NO PATH BUT THIS ONE CHANGES, and at most one call on a path failed
pub record ChangesOnly (path : Option (List ℕ)) (old new : FilesShown) : Type 0 where
  pub kept : KeepsBut path old new
  pub counts : FailedOnce old.faults new.faults

-- the file of the path is the area file of these areas
abbrev pub HoldsAreas : Option (List ℕ) → FilesShown → FilesShown → Memory → Type 0
HoldsAreas None old new areas = Unit {0}
HoldsAreas (Some path) old new areas = IsTrue old.tells → new.held path ≡ Some (spelling areas)
