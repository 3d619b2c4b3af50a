use Rattle.s7_wire.proofs.ReaderLemmas.{reader_going, reader_ended}
use Rattle.s7_wire.proofs.laws.readers_end.Goals as goal

pub returns-clause-going : goal.returns-clause-going
returns-clause-going c = λ r b h none. reader_going r b h none

pub returns-clause-ended : goal.returns-clause-ended
returns-clause-ended c = λ r b end h e. reader_ended r b end h e
