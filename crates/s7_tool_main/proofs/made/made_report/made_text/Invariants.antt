use Rattle.std.proofs.Common.{◌≡◌, ◌++◌, drop, map}
use Rattle.std.specs.List.{flat_map}
use Rattle.s7_rig.specs.Shown.{client_told}
use Rattle.s7_tool_main.specs.GenText.{client_tally}
use Rattle.s7_tool_main.proofs.made.made_report.made_text.Given as goal

-- the lines that are left to be added follow those that were
abbrev pub invariant-loop-client : goal.invariant-loop-client
invariant-loop-client l =
    l.text.items ++ flat_map client_tally (map client_told (drop l.client-index l.client-items))
    ≡ flat_map client_tally (map client_told l.client-items)
