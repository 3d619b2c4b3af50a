use Rattle.s7_block.proofs.NameLemmas.{changes}
use Rattle.s7_block.proofs.laws.one_name_changes.Goals as goal

pub returns : goal.returns
returns c = changes
