use Rattle.s7_relay.proofs.FarLemmas.{far_lies}
use Rattle.s7_relay.proofs.laws.far_items_lie.Goals as goal

pub returns : goal.returns
returns c = far_lies
