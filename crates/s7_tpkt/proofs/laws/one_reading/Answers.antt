use Rattle.s7_tpkt.proofs.PacketLemmas.{one_reading_reads, one_reading_only}
use Rattle.s7_tpkt.proofs.laws.one_reading.Goals as goal

pub returns-clause-reads : goal.returns-clause-reads
returns-clause-reads c = λ limits b. one_reading_reads limits b

pub returns-clause-only : goal.returns-clause-only
returns-clause-only c = λ limits b ps rest h. one_reading_only limits b ps rest h
