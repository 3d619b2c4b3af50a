use Rattle.s7_wire.proofs.GrowthLemmas.{reads_on, reading_grows, reading_ended}
use Rattle.s7_wire.proofs.laws.reading_goes_on.Goals as goal

pub returns-clause-goes_on : goal.returns-clause-goes_on
returns-clause-goes_on c = λ opening b rest. reads_on opening b rest

pub returns-clause-events : goal.returns-clause-events
returns-clause-events c = λ opening b rest. reading_grows opening b rest

pub returns-clause-ended : goal.returns-clause-ended
returns-clause-ended c = λ opening b rest ending h. reading_ended opening b rest ending h
