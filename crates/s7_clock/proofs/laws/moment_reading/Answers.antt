use Rattle.s7_clock.proofs.AgainLemmas.{read_again}
use Rattle.s7_clock.proofs.DayLemmas.{octets_are}
use Rattle.s7_clock.proofs.MomentLemmas.{has_clock_year, moment_is, moment_cut}
use Rattle.s7_clock.proofs.laws.moment_reading.Goals as goal

pub returns-clause-dates : goal.returns-clause-dates
returns-clause-dates c = λ t ms is has. (has_clock_year t ms is has, moment_is t ms has)

pub returns-clause-again : goal.returns-clause-again
returns-clause-again c = λ t u year has. moment_cut t u year has

pub returns-clause-octets : goal.returns-clause-octets
returns-clause-octets c = λ t year. octets_are t year

pub returns-clause-read : goal.returns-clause-read
returns-clause-read c = λ t year. read_again t year
