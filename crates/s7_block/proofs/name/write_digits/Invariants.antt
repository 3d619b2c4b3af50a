use Rattle.std.proofs.Common.{◌≡◌, ◌++◌, drop, length}
use Rattle.s7_block.specs.Names.{digits}
use Rattle.s7_block.proofs.name.write_digits.Given as goal

-- what is written, behind the digits that are left
abbrev pub invariant-loop-at : goal.invariant-loop-at
invariant-loop-at l = digits l.at l.left ++ drop l.at l.into ≡ digits (length l.into) l.number
