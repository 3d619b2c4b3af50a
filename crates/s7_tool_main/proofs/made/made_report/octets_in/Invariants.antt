use Rattle.std.proofs.Common.{◌≡◌, ◌≤◌, ◌*◌, take}
use Rattle.s7_tool_main.specs.GenText.{octets_in}
use Rattle.s7_tool_main.proofs.made.made_report.octets_in.Given as goal

abbrev pub invariant-loop-told : goal.invariant-loop-told
invariant-loop-told l = record {
  count : l.count ≡ octets_in (take l.told-index l.results);
  most : l.count ≤ 18446744073709551616 * l.told-index;
}
