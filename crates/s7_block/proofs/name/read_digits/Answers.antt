use Rattle.std.proofs.Common.{arith}
use Rattle.s7_block.proofs.DigitLemmas.{below_nine_digits}
use Rattle.s7_block.proofs.name.read_digits.Goals as goal

pub overflow_mul-number : goal.overflow_mul-number
overflow_mul-number c = omega (arith, below_nine_digits c.loop-octet.number c.loop-octet.octet-index)

pub overflow_add-number : goal.overflow_add-number
overflow_add-number c = omega (arith, below_nine_digits c.loop-octet.number c.loop-octet.octet-index)
