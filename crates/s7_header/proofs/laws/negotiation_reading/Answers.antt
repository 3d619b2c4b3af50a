use Rattle.s7_header.proofs.NegotiationLemmas.{spells_negotiation, read_of_negotiation, spelled_negotiation, one_negotiation}
use Rattle.s7_header.proofs.laws.negotiation_reading.Goals as goal

pub returns-clause-read : goal.returns-clause-read
returns-clause-read c = λ params n are. (spells_negotiation params n are, read_of_negotiation params n)

pub returns-clause-again : goal.returns-clause-again
returns-clause-again c = λ n is. spelled_negotiation 0 n

pub returns-clause-one : goal.returns-clause-one
returns-clause-one c = λ m x y s t. one_negotiation m x y s t
