use Rattle.std.proofs.Common.{length, map}
use Rattle.s7_text.specs.Lines.{lines}
use Rattle.s7_relay.specs.File.{terms_in}
use Rattle.s7_relay.proofs.FileLemmas.{HasRead}
use Rattle.s7_relay.proofs.read.read_windows.Given as goal

abbrev pub invariant-loop-rest : goal.invariant-loop-rest
invariant-loop-rest l = HasRead (lines l.fn.text) (lines l.rest) l.line (map terms_in l.found.items)

abbrev pub decreases-loop-rest : goal.decreases-loop-rest
decreases-loop-rest l = length l.rest
