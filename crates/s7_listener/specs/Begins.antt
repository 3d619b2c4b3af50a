-- One history is a prefix of another.
use Rattle.std.specs.Prelude.{◌≡◌, List, ◌++◌}

pub record Begins {A : Type 0} (old new : List A) : Type 0 where
  pub rest : List A
  pub is : new ≡ old ++ rest
