-- The links that a door gave.
use Rattle.std.specs.Prelude.{◌≡◌, ◌⊎◌, ◌≤◌, ◌<◌, ℕ, Bool, true, false, List, [], ◌++◌, length, Option, None, Some}
use Rattle.s7_outer.specs.Count.{RoseExactly}
use Rattle.s7_outer.specs.Door.{PortFailed}
use Rattle.s7_outer.specs.DoorShown.{DoorShown}

-- if the door shows the links to come, these came first, and the others are left
abbrev pub Gave : {L : Type 0} → List L → Option (List L) → Option (List L) → Type 0
Gave lines None new = new ≡ None
Gave lines (Some links) new = (rest : List _) × (links ≡ lines ++ rest) × (new ≡ Some rest)

-- if the door shows the links to come, none is left
abbrev pub IsEmptied : {L : Type 0} → Option (List L) → Type 0
IsEmptied None = Unit {0}
IsEmptied (Some links) = links ≡ []

-- A door that was asked once to listen, on this port, gave these links in order.
pub record Gives {L : Type 0} (port : ℕ) (old new : DoorShown L) (lines : List L) : Type 0 where
  pub heard : new.heard ≡ port
  pub listened : RoseExactly 1 old.listens new.listens
  pub lent : new.lent ≡ old.lent
  pub gave : Gave lines old.coming new.coming

-- A DOOR LISTENED ON A PORT, ONCE, AND GAVE THESE LINKS in order, at most `most`. If it gave fewer, it had no more, or
-- it failed after the first one; then that was the only call for the port that failed. If it gave `most`, it didn't
-- fail.
pub record HasGiven {L : Type 0} (port most : ℕ) (old new : DoorShown L) (lines : List L) (failed : Bool) : Type 0 where
  pub gives : Gives port old new lines
  pub few : length lines ≤ most
  pub fault : failed ≡ true → (0 < length lines) × (length lines < most) × PortFailed port old.faults new.faults
  pub all : failed ≡ false → ((length lines ≡ most) ⊎ IsEmptied new.coming) × (new.faults ≡ old.faults)

-- A door failed before a link came; that was its only call that failed.
pub record HasFailed {L : Type 0} (port : ℕ) (old new : DoorShown L) : Type 0 where
  pub gives : Gives port old new []
  pub fault : PortFailed port old.faults new.faults
