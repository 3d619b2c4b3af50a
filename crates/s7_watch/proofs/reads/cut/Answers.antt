use Rattle.std.proofs.Common.{arith}
use Rattle.s7_watch.proofs.CutLemmas.{count_fits}
use Rattle.s7_watch.proofs.reads.cut.Goals as goal

pub returns-clause-fits : goal.returns-clause-fits
returns-clause-fits c =
    omega (arith, c.split_at.ensures.front_len, c.count_read.ensures, count_fits c.args.item.now c.args.code)
