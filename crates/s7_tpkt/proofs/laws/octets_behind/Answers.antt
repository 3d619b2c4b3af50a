use Rattle.s7_tpkt.proofs.PacketLemmas.{goes_further, fault_goes_on, fault_stays}
use Rattle.s7_tpkt.proofs.laws.octets_behind.Goals as goal

pub returns-clause-further : goal.returns-clause-further
returns-clause-further c = λ limits b more. goes_further limits b more

pub returns-clause-fault : goal.returns-clause-fault
returns-clause-fault c = λ limits b more h. fault_goes_on limits b more h

pub returns-clause-fault_stays : goal.returns-clause-fault_stays
returns-clause-fault_stays c = λ limit held more h. fault_stays limit held more h
