use Rattle.std.proofs.Common.{◌≡◌, ◌∷◌, ◌++◌, map}
use Rattle.std.specs.Vec.Iter.{into_iter_items}
use Rattle.s7_dialogue.specs.declared.job.Job.TheVariants as job
use Rattle.s7_tool_main.specs.Run.{job_in}
use Rattle.s7_tool_main.proofs.rigs.rigging.jobs_of.Given as goal

abbrev pub invariant-loop-next : goal.invariant-loop-next
invariant-loop-next l =
    l.jobs.items ++ map job_in (into_iter_items l.next-iterator) ≡ job.Connect ∷ map job_in (into_iter_items l.initial.next-iterator)
