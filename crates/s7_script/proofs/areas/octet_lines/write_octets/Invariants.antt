use Rattle.std.proofs.Common.{◌≡◌, ◌++◌, length}
use Rattle.s7_script.specs.Spelling.{octet_lines}
use Rattle.s7_script.proofs.areas.octet_lines.write_octets.Given as goal

abbrev pub invariant-loop-rest : goal.invariant-loop-rest
invariant-loop-rest l =
    l.text.items ++ octet_lines (length l.rest) l.rest ≡ l.fn.text.items ++ octet_lines (length l.octets) l.octets

abbrev pub decreases-loop-rest : goal.decreases-loop-rest
decreases-loop-rest l = length l.rest
