-- The verdict of a telegram that asks the plant.
use Rattle.std.specs.Prelude.{ℕ}
use Rattle.s7_plant.specs.Replies.{Said}

pub data Verdict : Type 0 where
  -- it was entered with this reply, at this moment, which is 0 if it needs none
  Entered : (reply : Said) (moment : ℕ) → Verdict
  -- the history was full
  Full : Verdict
  -- it needs the moment, and the clock failed
  ClockFailed : Verdict
  -- an allocation failed
  NoMemory : Verdict
