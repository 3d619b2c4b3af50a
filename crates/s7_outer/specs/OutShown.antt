-- What an output shows to contracts.
use Rattle.std.specs.Prelude.{ℕ, List, Option}

pub record OutShown : Type 0 where
  -- the text so far, if the output makes it visible
  pub text : Option (List ℕ)
  -- the number of failed calls
  pub faults : ℕ
