use Rattle.std.proofs.Common.{arith}
use Rattle.s7_block.proofs.StoreLemmas.{store-none}
use Rattle.s7_block.proofs.blocks.Blocks.new.Goals as goal

pub invariant_of-result : goal.invariant_of-result
invariant_of-result c = rw c.in_ok-with_capacity.ensures.items (store-none c.args.limit c.requires, omega (arith, c.in_ok-with_capacity.ensures.exact))
