use Rattle.s7_tpkt.proofs.PacketLemmas.{whole_front, not_whole_front, fault_front}
use Rattle.s7_tpkt.proofs.laws.states_tell.Goals as goal

pub returns-clause-whole : goal.returns-clause-whole
returns-clause-whole c = λ limit b h. whole_front limit b h

pub returns-clause-not_whole : goal.returns-clause-not_whole
returns-clause-not_whole c = λ limit b h. not_whole_front limit b h

pub returns-clause-fault : goal.returns-clause-fault
returns-clause-fault c = λ limit b more h. fault_front limit b more h
