use Rattle.s7_partner.proofs.PairLaws.{delivers}
use Rattle.s7_partner.proofs.laws.blocks_are_delivered.Goals as goal

pub returns : goal.returns
returns c = delivers
