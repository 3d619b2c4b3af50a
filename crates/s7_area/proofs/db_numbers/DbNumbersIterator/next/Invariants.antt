use Rattle.std.proofs.Common.{◌≡◌}
use Rattle.s7_area.specs.Registers.{db_numbers}
use Rattle.s7_area.proofs.db_numbers.DbNumbersIterator.next.Given as goal

-- names of other areas pass, and the numbers left stay the same
abbrev pub invariant-loop-key : goal.invariant-loop-key
invariant-loop-key l = record {
  may : (goal.iterator-loop-key).can_next l.keys;
  ends : (goal.iterator-loop-key).is_finite l.keys;
  left : db_numbers l.keys ≡ db_numbers l.initial.keys;
}
