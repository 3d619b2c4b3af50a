use Rattle.s7_item.proofs.ItemLaws.{are_exact}
use Rattle.s7_item.proofs.laws.items_are_exact.Goals as goal

pub returns : goal.returns
returns c = are_exact
