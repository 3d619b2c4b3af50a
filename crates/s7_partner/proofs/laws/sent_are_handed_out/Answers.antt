use Rattle.s7_partner.proofs.PairLaws.{sent_handed_out}
use Rattle.s7_partner.proofs.laws.sent_are_handed_out.Goals as goal

pub returns : goal.returns
returns c = sent_handed_out
