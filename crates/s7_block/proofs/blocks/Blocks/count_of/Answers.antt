use Rattle.std.proofs.Common.{◌≤◌, length, inl, arith}
use Rattle.s7_block.proofs.StoreLemmas.{numbers_few}
use Rattle.s7_block.proofs.blocks.Blocks.count_of.Goals as goal

pub count-requires-clause-fits : goal.count-requires-clause-fits
count-requires-clause-fits c =
    let few : length c.numbers_of.result ≤ 1024 = rw c.numbers_of.ensures.numbers (numbers_few c.args.self.now c.args.kind c.numbers_of.ensures.store) in
    inl (omega arith)

pub overflow_cast-result : goal.overflow_cast-result
overflow_cast-result c =
    let few : length c.numbers_of.result ≤ 1024 = rw c.numbers_of.ensures.numbers (numbers_few c.args.self.now c.args.kind c.numbers_of.ensures.store) in
    omega (arith, c.count.ensures.bound)
