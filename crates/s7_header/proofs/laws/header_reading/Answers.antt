use Rattle.s7_header.proofs.HeaderLemmas.{spells, read_of_spelled, spelled, one_header}
use Rattle.s7_header.proofs.laws.header_reading.Goals as goal

pub returns-clause-read : goal.returns-clause-read
returns-clause-read c = λ message h are. (spells message h are, read_of_spelled message h)

pub returns-clause-again : goal.returns-clause-again
returns-clause-again c = λ h params body is p b. spelled 0 0 h params body is p b

pub returns-clause-one : goal.returns-clause-one
returns-clause-one c = λ m x y s t. one_header m x y s t
