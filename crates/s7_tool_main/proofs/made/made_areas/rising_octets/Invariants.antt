use Rattle.std.proofs.Common.{◌≡◌}
use Rattle.s7_tool_main.specs.Gen.{rising_octets}
use Rattle.s7_tool_main.proofs.made.made_areas.rising_octets.Given as goal

abbrev pub invariant-loop-k : goal.invariant-loop-k
invariant-loop-k l = l.octets.items ≡ rising_octets l.first l.k
