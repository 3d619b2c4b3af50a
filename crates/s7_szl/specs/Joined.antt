-- What contracts see of a join of slices.
use Rattle.std.specs.Prelude.{ℕ, Bool, true, false, List, []}
use Rattle.s7_szl.specs.declared.join.SzlAdded.{SzlAdded}
use Rattle.s7_szl.specs.declared.join.SzlAdded.TheVariants.{More, Whole, Bad}

pub record Joined : Type 0 where
  -- the octets of the last image if it is whole, otherwise those of the slices so far
  pub octets : List ℕ
  -- the last answer; `More` before the first
  pub state : SzlAdded

-- a join without slices
abbrev pub begun : Joined
begun = record { octets = []; state = More }

abbrev pub is_whole : SzlAdded → Bool
is_whole Whole = true
is_whole More = false
is_whole Bad = false

abbrev pub is_bad : SzlAdded → Bool
is_bad Bad = true
is_bad More = false
is_bad Whole = false
