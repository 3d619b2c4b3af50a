-- What stays true of a machine that a hall serves.
use Rattle.std.specs.Prelude.{◌≡◌}
use Rattle.s7_turn.specs.declared.machine.Machine.{Ghosts}
use Rattle.s7_turn.specs.Histories.{replay}

module _ {M R P : Type 0} (g : Ghosts M R P) where
  -- the state is the replay of the history from the opening
  abbrev pub IsReplayed : M → Type 0
  IsReplayed m = g.state m ≡ replay g.after (g.opening m) (g.history m)

  -- a machine with the opening and the limit of the machine with which the hall was made, in the state of its history,
  -- and with all that its steps preserve
  abbrev pub IsFrom : M → M → Type 0
  IsFrom m first = (g.opening m ≡ g.opening first) × (g.limit m ≡ g.limit first) × IsReplayed m × g.holds m
