use Rattle.std.proofs.Common.{◌≡◌, ◌++◌, drop, map}
use Rattle.s7_tool_main.specs.RigText.{head_of, heads_of}
use Rattle.s7_tool_main.proofs.rigs.rigging.heads_of.Given as goal

abbrev pub invariant-loop-next : goal.invariant-loop-next
invariant-loop-next l = l.heads.items ++ map head_of (drop l.next-index l.next-items) ≡ heads_of l.next-items
