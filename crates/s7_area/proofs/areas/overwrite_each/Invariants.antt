use Rattle.s7_area.proofs.OverwriteLemmas.{IsOverwritten}
use Rattle.s7_area.proofs.areas.overwrite_each.Given as goal

-- the areas so far were taken over
abbrev pub invariant-loop-key : goal.invariant-loop-key
invariant-loop-key l = IsOverwritten l.map.entries l.key-iterator l.from.entries
