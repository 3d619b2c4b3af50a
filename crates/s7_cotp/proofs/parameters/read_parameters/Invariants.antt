use Rattle.std.proofs.Common.{◌≡◌, length}
use Rattle.s7_cotp.specs.Told.{said_of}
use Rattle.s7_cotp.specs.Reading.{said_in, nothing_said}
use Rattle.s7_cotp.proofs.parameters.read_parameters.Given as goal

-- what was said so far, with the parameters that are left, is what all say
abbrev pub invariant-loop-rest : goal.invariant-loop-rest
invariant-loop-rest l = said_in 0 l.rest (said_of l.said) ≡ said_in 0 l.fn.octets nothing_said

abbrev pub decreases-loop-rest : goal.decreases-loop-rest
decreases-loop-rest l = length l.rest
