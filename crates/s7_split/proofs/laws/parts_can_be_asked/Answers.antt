use Rattle.s7_split.proofs.PartLaws.{parts_asked}
use Rattle.s7_split.proofs.laws.parts_can_be_asked.Goals as goal

pub returns : goal.returns
returns c = parts_asked
