use Rattle.std.proofs.Common.{◌≡◌, ◌++◌, ◌+◌, ◌≤◌, length, vec_capacity, map}
use Rattle.std.specs.Vec.Iter.{into_iter_items, into_iter_len}
use Rattle.s7_rig.specs.Shown.{post_of, script_told}
use Rattle.s7_rig.specs.Runs.{AreFresh}
use Rattle.s7_rig.proofs.rig.Rig.new.Given as goal

-- each list of jobs so far has its station
abbrev pub invariant-loop-script : goal.invariant-loop-script
invariant-loop-script l = record {
  may : (goal.iterator-loop-script).can_next l.script-iterator;
  ends : (goal.iterator-loop-script).is_finite l.script-iterator;
  all : l.yielded ++ into_iter_items l.script-iterator ≡ l.fn.scripts.items;
  left : into_iter_len l.script-iterator ≡ length (into_iter_items l.script-iterator);
  link : l.link ≡ 1 + length l.yielded;
  count : length l.stations.items ≡ length l.yielded;
  room : length l.fn.scripts.items ≤ vec_capacity l.stations;
  fresh : AreFresh l.fn.areas.guard l.fn.config 1 (map script_told l.yielded) (map post_of l.stations.items);
}
