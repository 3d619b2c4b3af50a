use Rattle.std.proofs.Common.{◌≡◌, ◌++◌, length}
use Rattle.s7_watch.specs.Looks.{jobs_of}
use Rattle.s7_watch.specs.WatchShown.{watch_told}
use Rattle.s7_tool_main.proofs.rigs.watcher.add_reads.Given as goal

-- the jobs so far and those that are left are all
abbrev pub invariant-loop-job : goal.invariant-loop-job
invariant-loop-job l =
    l.jobs.items ++ jobs_of (watch_told l.watch).ahead ≡ l.initial.jobs.items ++ jobs_of (watch_told l.initial.watch).ahead

abbrev pub decreases-loop-job : goal.decreases-loop-job
decreases-loop-job l = length (watch_told l.watch).ahead
