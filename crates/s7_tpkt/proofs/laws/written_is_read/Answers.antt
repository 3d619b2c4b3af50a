use Rattle.s7_tpkt.proofs.WriteLemmas.{packet_written, one_written}
use Rattle.s7_tpkt.proofs.laws.written_is_read.Goals as goal

pub returns-clause-packet : goal.returns-clause-packet
returns-clause-packet c = λ limit body least most. packet_written limit body least most

pub returns-clause-one : goal.returns-clause-one
returns-clause-one c = λ limits body least most. one_written limits body least most
