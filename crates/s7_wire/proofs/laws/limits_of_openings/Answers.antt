use Rattle.s7_wire.proofs.ReadingLemmas.{limit_opened, limit_other, limit_no_tpdu}
use Rattle.s7_wire.proofs.laws.limits_of_openings.Goals as goal

pub returns-clause-opened : goal.returns-clause-opened
returns-clause-opened c = λ opening body bodies told c' h e. limit_opened opening body bodies told c' h e

pub returns-clause-other : goal.returns-clause-other
returns-clause-other c = λ opening body bodies told h e. limit_other opening body bodies told h e

pub returns-clause-no_tpdu : goal.returns-clause-no_tpdu
returns-clause-no_tpdu c = λ opening body bodies fault h. limit_no_tpdu opening body bodies fault h
