use Rattle.std.proofs.Common.{◌≡◌, ◌++◌, drop}
use Rattle.s7_watch.specs.Laws.{taken_lines}
use Rattle.s7_watch.specs.WatchShown.{watch_told}
use Rattle.s7_tool_main.specs.Taking.{AreTaken}
use Rattle.s7_tool_main.proofs.rigs.watcher.add_lines.Given as goal

-- the lines so far and those of the results that are left are all
abbrev pub invariant-loop-told : goal.invariant-loop-told
invariant-loop-told l = record {
  taken : AreTaken (watch_told l.watch).ahead (watch_told l.watch).lasts (drop l.told-index l.results);
  lines : l.text.items ++ taken_lines (watch_told l.watch).ahead (watch_told l.watch).lasts (drop l.told-index l.results)
      ≡ l.initial.text.items ++ taken_lines (watch_told l.initial.watch).ahead (watch_told l.initial.watch).lasts l.results;
}
