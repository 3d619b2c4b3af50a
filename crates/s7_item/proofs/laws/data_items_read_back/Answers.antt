use Rattle.s7_item.proofs.DataLaws.{data_reads_back}
use Rattle.s7_item.proofs.laws.data_items_read_back.Goals as goal

pub returns : goal.returns
returns c = data_reads_back
