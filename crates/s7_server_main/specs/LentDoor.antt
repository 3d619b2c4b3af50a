-- What a borrowed door shows.
use Rattle.std.specs.Prelude.{ℕ, ◌+◌, ◌*◌, Option, Some, None}
use Rattle.std.specs.Borrow.{GName}
use Rattle.s7_outer.specs.DoorShown.{DoorShown}
use Rattle.s7_outer.specs.Shown.{Lent}

-- one number for a pair of numbers; different pairs have different numbers
abbrev pub paired : ℕ → ℕ → ℕ
paired a b = (a + b) * (a + b) + a

-- the borrow, together with the external object of the door itself, as numbers, so that neither is lost
abbrev pub lent_with : GName → Option Lent → Lent
lent_with loan None = record { loan = loan; end = 0; room = 0 }
lent_with loan (Some of_door) = record { loan = loan; end = 1 + paired of_door.loan of_door.end; room = of_door.room }

-- what a borrowed door shows: what the door itself shows, and which borrow it is
abbrev pub lent_shown : {L : Type 0} → GName → DoorShown L → DoorShown L
lent_shown loan shown = record shown { lent = Some (lent_with loan shown.lent) }
