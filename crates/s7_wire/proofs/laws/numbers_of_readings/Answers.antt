use Rattle.s7_wire.proofs.GrowthLemmas.{place_within}
use Rattle.s7_wire.proofs.ReadingLemmas.{limit_is}
use Rattle.s7_wire.proofs.laws.numbers_of_readings.Goals as goal

pub returns-clause-limit : goal.returns-clause-limit
returns-clause-limit c = λ opening b h. limit_is opening b h

pub returns-clause-place : goal.returns-clause-place
returns-clause-place c = λ opening b. place_within opening b
