use Rattle.s7_block.proofs.SliceLemmas.{slices_join}
use Rattle.s7_block.proofs.laws.slices_join.Goals as goal

pub returns : goal.returns
returns c = slices_join
