use Rattle.std.proofs.Common.{◌≡◌, ◌++◌, ◌+◌, map, vec_len}
use Rattle.std.specs.Vec.Iter.{into_iter_items, into_iter_len}
use Rattle.s7_rig.specs.Shown.{script_told}
use Rattle.s7_tool_main.specs.Rigging.{client_script}
use Rattle.s7_tool_main.proofs.rigs.rigging.client_scripts.Given as goal

abbrev pub invariant-loop-script : goal.invariant-loop-script
invariant-loop-script l = record {
  scripts : map script_told l.all.items ++ map client_script (into_iter_items l.script-iterator)
      ≡ map client_script (into_iter_items l.initial.script-iterator);
  len : vec_len l.all + into_iter_len l.script-iterator ≡ into_iter_len l.initial.script-iterator;
}
