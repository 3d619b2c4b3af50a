use Rattle.std.proofs.Common.{◌-◌, arith}
use Rattle.s7_cotp.proofs.CutLemmas.{cut_at, cut_parts}
use Rattle.s7_cotp.proofs.cutting.fragments.Goals as goal

pub returns-clause-cut : goal.returns-clause-cut
returns-clause-cut c = cut_at c.args.len c.args.tpdu c.of.result (omega arith) c.of.ensures

pub returns-clause-parts : goal.returns-clause-parts
returns-clause-parts c = cut_parts (c.args.tpdu - 3) 0 c.args.len c.of.result (cut_at c.args.len c.args.tpdu c.of.result (omega arith) c.of.ensures)
