use Rattle.s7_area.proofs.BitLemmas.{stand_alone}
use Rattle.s7_area.proofs.laws.bits_stand_alone.Goals as goal

pub returns : goal.returns
returns c = stand_alone
