use Rattle.s7_wire.proofs.MessageLemmas.{joins_messages}
use Rattle.s7_wire.proofs.laws.fragments_are_joined.Goals as goal

pub returns : goal.returns
returns c = λ opening b first bodies packets none. joins_messages opening b first bodies packets none
