use Rattle.s7_watch.specs.WatchShown.{watch_told}
use Rattle.s7_tool_main.proofs.WatchLemmas.{taken_all, taken_more, taken_next}
use Rattle.s7_tool_main.proofs.rigs.watcher.add_lines.Goals as goal

pub add_next-requires : goal.add_next-requires
add_next-requires c =
    taken_next c.args.results.now c.loop-told.told-index c.told-item.result (watch_told c.loop-told.watch)
    c.loop-told-test.true c.told-item.is c.loop-told.invariant.taken

pub loop-told-preserved : goal.loop-told-preserved
loop-told-preserved c =
    let added = c.in_ok-add_next.ensures in
    let more =
    taken_more c.args.results.now c.loop-told.told-index c.told-item.result (watch_told c.loop-told.watch)
    (watch_told c.add_next.new.watch) c.loop-told.text.items c.add_next.new.text.items _ c.loop-told-test.true
    c.told-item.is added.text added.ahead added.lasts c.loop-told.invariant.taken c.loop-told.invariant.lines in
    record { taken = more.0; lines = more.1 }

pub returns : goal.returns
returns c =
    taken_all c.args.results.now c.loop-told.told-index (watch_told c.loop-told.watch) c.loop-told.text.items _
    c.loop-told-test.false c.loop-told.invariant.lines
