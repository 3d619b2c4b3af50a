use Rattle.std.proofs.Common.{◌≡◌, ◌≤◌, ◌-◌, ◌++◌}
use Rattle.s7_rig.specs.Numbers.{count_from}
use Rattle.s7_rig.proofs.places.Places.add.Given as goal

-- the numbers below this one were added
abbrev pub invariant-loop-number : goal.invariant-loop-number
invariant-loop-number l = record {
  least : l.fn.first ≤ l.number;
  added : l.self-inside.numbers.items ≡ l.fn.self ++ count_from l.fn.first (l.number - l.fn.first);
}
