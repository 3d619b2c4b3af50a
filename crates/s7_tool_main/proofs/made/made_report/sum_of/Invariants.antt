use Rattle.std.proofs.Common.{◌≡◌, ◌≤◌, ◌*◌, sum, take}
use Rattle.s7_tool_main.proofs.made.made_report.sum_of.Given as goal

abbrev pub invariant-loop-octet : goal.invariant-loop-octet
invariant-loop-octet l = record {
  sum : l.sum ≡ sum (take l.octet-index l.octets);
  most : l.sum ≤ 255 * l.octet-index;
}
