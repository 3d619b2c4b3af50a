use Rattle.s7_block.proofs.HeadLemmas.{read}
use Rattle.s7_block.proofs.laws.heads_are_read.Goals as goal

pub returns : goal.returns
returns c = read
