use Rattle.std.proofs.Common.{◌≡◌, length, option_map}
use Rattle.s7_text.specs.Lines.{lines}
use Rattle.s7_script.specs.Tagged.{script_by, script_lines}
use Rattle.s7_script.specs.ScriptShown.{appended}
use Rattle.s7_script.proofs.scripts.reading.read_lines.Given as goal

abbrev pub invariant-loop-rest : goal.invariant-loop-rest
invariant-loop-rest l =
    appended l.found.items (script_lines (option_map (λ t. t.now) l.tags) l.line (lines l.rest))
    ≡ script_by (option_map (λ t. t.now) l.tags) l.text

abbrev pub decreases-loop-rest : goal.decreases-loop-rest
decreases-loop-rest l = length l.rest
