use Rattle.std.proofs.Common.{◌≡◌, ◌++◌, length}
use Rattle.std.specs.List.{flat_map}
use Rattle.s7_script.specs.Printing.{numbers_told, spaced}
use Rattle.s7_script.proofs.print.add_numbers.Given as goal

abbrev pub invariant-loop-rest : goal.invariant-loop-rest
invariant-loop-rest l =
    l.text.items ++ flat_map spaced (numbers_told l.at l.rest)
    ≡ l.fn.text.items ++ flat_map spaced (numbers_told l.at l.octets)

abbrev pub decreases-loop-rest : goal.decreases-loop-rest
decreases-loop-rest l = length l.rest
