use Rattle.s7_split.proofs.PartLaws.{parts_exact}
use Rattle.s7_split.proofs.laws.parts_are_exact.Goals as goal

pub returns : goal.returns
returns c = parts_exact
