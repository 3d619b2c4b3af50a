use Rattle.std.proofs.Common.{◌≡◌, length}
use Rattle.s7_text.specs.Lines.{lines}
use Rattle.s7_script.specs.Sends.{send_lines}
use Rattle.s7_script.specs.ScriptShown.{appended}
use Rattle.s7_script.proofs.sends.read_sends.Given as goal

abbrev pub invariant-loop-rest : goal.invariant-loop-rest
invariant-loop-rest l = appended l.found.items (send_lines l.line (lines l.rest)) ≡ send_lines 1 (lines l.text)

abbrev pub decreases-loop-rest : goal.decreases-loop-rest
decreases-loop-rest l = length l.rest
