use Rattle.s7_tpkt.proofs.PacketLemmas.{holds_nothing, holds_more, holds_next}
use Rattle.s7_tpkt.proofs.laws.held_is_rest.Goals as goal

pub returns-clause-begins : goal.returns-clause-begins
returns-clause-begins c = λ limits cutter held limit. holds_nothing limits cutter held limit

pub returns-clause-goes_on : goal.returns-clause-goes_on
returns-clause-goes_on c = λ limits b more old new h g held limit. holds_more limits b more old new h g held limit

pub returns-clause-ends_packet : goal.returns-clause-ends_packet
returns-clause-ends_packet c = λ limits b more body new e held limit. holds_next limits b more body new e held limit
