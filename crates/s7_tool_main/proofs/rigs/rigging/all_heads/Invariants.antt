use Rattle.std.proofs.Common.{◌≡◌, ◌++◌, Vec, Global, drop, map}
use Rattle.s7_tool_main.specs.declared.head.Head.{Head}
use Rattle.s7_tool_main.specs.RigText.{heads_of}
use Rattle.s7_tool_main.proofs.rigs.rigging.all_heads.Given as goal

abbrev pub invariant-loop-script : goal.invariant-loop-script
invariant-loop-script l =
    map (λ (v : Vec Head Global). v.items) l.all.items ++ map heads_of (drop l.script-index l.scripts) ≡ map heads_of l.scripts
