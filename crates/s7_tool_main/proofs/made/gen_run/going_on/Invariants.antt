use Rattle.std.proofs.Common.{◌≡◌, ◌++◌, ◌+◌, Vec, Global, map, vec_len}
use Rattle.std.specs.Vec.Iter.{into_iter_items, into_iter_len}
use Rattle.s7_dialogue.specs.declared.job.Job.{Job}
use Rattle.s7_rig.specs.Scripts.{goes_on}
use Rattle.s7_rig.specs.Shown.{script_told}
use Rattle.s7_tool_main.proofs.made.gen_run.going_on.Given as goal

abbrev pub invariant-loop-jobs : goal.invariant-loop-jobs
invariant-loop-jobs l = record {
  scripts : map script_told l.all.items ++ map goes_on (map (λ (v : Vec Job Global). v.items) (into_iter_items l.jobs-iterator))
      ≡ map goes_on (map (λ (v : Vec Job Global). v.items) (into_iter_items l.initial.jobs-iterator));
  len : vec_len l.all + into_iter_len l.jobs-iterator ≡ into_iter_len l.initial.jobs-iterator;
}
