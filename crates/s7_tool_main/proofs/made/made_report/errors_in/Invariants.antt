use Rattle.std.proofs.Common.{◌≡◌, ◌≤◌, take}
use Rattle.s7_tool_main.specs.GenText.{errors_in}
use Rattle.s7_tool_main.proofs.made.made_report.errors_in.Given as goal

abbrev pub invariant-loop-told : goal.invariant-loop-told
invariant-loop-told l = record {
  errors : l.errors ≡ errors_in (take l.told-index l.results);
  few : l.errors ≤ l.told-index;
}
