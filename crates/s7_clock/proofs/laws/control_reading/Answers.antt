use Rattle.s7_clock.proofs.ControlLemmas.{control_again, read_of_control, spells_control}
use Rattle.s7_clock.proofs.laws.control_reading.Goals as goal

pub returns-clause-read : goal.returns-clause-read
returns-clause-read c = λ params d. (spells_control params d, read_of_control params d)

pub returns-clause-again : goal.returns-clause-again
returns-clause-again c = λ d is. control_again d is
