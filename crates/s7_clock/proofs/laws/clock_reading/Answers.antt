use Rattle.s7_clock.proofs.ClockLemmas.{reads_back}
use Rattle.s7_clock.proofs.laws.clock_reading.Goals as goal

pub returns-clause-back : goal.returns-clause-back
returns-clause-back c = λ t read year reads. reads_back t read year reads
