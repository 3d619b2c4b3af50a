use Rattle.s7_item.proofs.DataLaws.{data_are_exact, are_as_many}
use Rattle.s7_item.proofs.laws.data_items_are_exact.Goals as goal

pub returns : goal.returns
returns c = record { exact = data_are_exact; many = are_as_many }
