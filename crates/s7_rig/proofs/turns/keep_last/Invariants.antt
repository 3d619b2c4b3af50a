use Rattle.std.proofs.Common.{◌≡◌, ◌≤◌, ◌-◌, length, drop}
use Rattle.s7_rig.proofs.turns.keep_last.Given as goal

-- those that are left end as the jobs did
abbrev pub invariant-loop-rest : goal.invariant-loop-rest
invariant-loop-rest l = record {
  left : drop (length l.rest.items - 1) l.rest.items ≡ drop (length l.initial.rest.items - 1) l.initial.rest.items;
  fewer : length l.rest.items ≤ length l.initial.rest.items;
}

abbrev pub decreases-loop-rest : goal.decreases-loop-rest
decreases-loop-rest l = length l.rest.items
