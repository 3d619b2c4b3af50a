-- What an output gained.
use Rattle.std.specs.Prelude.{◌≡◌, ◌⊎◌, ℕ, List}
use Rattle.std.specs.Io.KnownBytes.{append_known}
use Rattle.s7_outer.specs.Count.{Rose}
use Rattle.s7_outer.specs.Out.{AppendsPrefix}
use Rattle.s7_outer.specs.OutShown.{OutShown}

-- an output gained this text
abbrev pub Gains : OutShown → OutShown → List ℕ → Type 0
Gains old new text = new.text ≡ append_known old.text text

-- an output failed, and gained a prefix of this text
pub record BreaksOff (old new : OutShown) (text : List ℕ) : Type 0 where
  pub front : AppendsPrefix old.text new.text text
  pub failed : Rose old.faults new.faults

-- A LINE WAS PRINTED, or a prefix of it if the output failed
abbrev pub Printed : OutShown → OutShown → List ℕ → Type 0
Printed old new line = Gains old new line ⊎ BreaksOff old new line
