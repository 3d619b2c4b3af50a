use Rattle.std.proofs.Common.{◌≡◌, length}
use Rattle.s7_text.specs.Lines.{lines}
use Rattle.s7_script.specs.Reading.{nothing_read, read_lines}
use Rattle.s7_script.specs.Shown.{state_of}
use Rattle.s7_script.proofs.areas.read.read_rest.Given as goal

abbrev pub invariant-loop-rest : goal.invariant-loop-rest
invariant-loop-rest l = read_lines l.line (state_of l.state) (lines l.rest) ≡ read_lines 2 (nothing_read l.fn.version) (lines l.text)

abbrev pub decreases-loop-rest : goal.decreases-loop-rest
decreases-loop-rest l = length l.rest
