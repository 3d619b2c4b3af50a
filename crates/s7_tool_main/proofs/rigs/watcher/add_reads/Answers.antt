use Rattle.s7_watch.specs.WatchShown.{watch_told}
use Rattle.s7_tool_main.proofs.WatchLemmas.{drawn_all, drawn_more}
use Rattle.s7_tool_main.proofs.rigs.watcher.add_reads.Goals as goal

pub loop-job-preserved : goal.loop-job-preserved
loop-job-preserved c =
    (drawn_more _ (watch_told c.loop-job.watch) (watch_told c.job.new.self) c.in_ok-job.field-0 c.in-Some.job _ _ _
    c.in_ok-job.ensures.ok c.in-Some.is c.in_ok-add_job.ensures c.loop-job.invariant).0

pub loop-job-smaller : goal.loop-job-smaller
loop-job-smaller c =
    (drawn_more _ (watch_told c.loop-job.watch) (watch_told c.job.new.self) c.in_ok-job.field-0 c.in-Some.job _ _ _
    c.in_ok-job.ensures.ok c.in-Some.is c.in_ok-add_job.ensures c.loop-job.invariant).1

pub returns : goal.returns
returns c =
    drawn_all _ (watch_told c.loop-job.watch) (watch_told c.job.new.self) c.in_ok-job.field-0 _ _ c.in_ok-job.ensures.ok
    c.in_default.is c.loop-job.invariant
