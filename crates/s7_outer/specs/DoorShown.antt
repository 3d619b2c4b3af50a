-- What a door shows to contracts.
use Rattle.std.specs.Prelude.{ℕ, List, Option}
use Rattle.s7_outer.specs.Shown.{Lent}

pub record DoorShown (L : Type 0) : Type 0 where
  -- the links still to come, if the door makes them visible
  pub coming : Option (List L)
  -- the port of the last `listen`; 0 before the first
  pub heard : ℕ
  -- the number of calls of `listen`
  pub listens : ℕ
  -- the number of failed calls for a port
  pub faults : ℕ → ℕ
  -- what was lent to the door for its work, if anything; no call changes it
  pub lent : Option Lent
