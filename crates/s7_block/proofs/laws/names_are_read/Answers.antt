use Rattle.s7_block.proofs.DigitLemmas.{names_read}
use Rattle.s7_block.proofs.laws.names_are_read.Goals as goal

pub returns : goal.returns
returns c = names_read
