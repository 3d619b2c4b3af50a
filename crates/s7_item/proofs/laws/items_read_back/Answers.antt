use Rattle.s7_item.proofs.ItemLaws.{reads_back}
use Rattle.s7_item.proofs.laws.items_read_back.Goals as goal

pub returns : goal.returns
returns c = reads_back
