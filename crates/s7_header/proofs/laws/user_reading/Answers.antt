use Rattle.s7_header.proofs.UserLemmas.{spells_user, read_of_user, spelled_user, one_user}
use Rattle.s7_header.proofs.laws.user_reading.Goals as goal

pub returns-clause-read : goal.returns-clause-read
returns-clause-read c = λ params u are. (spells_user params u are, read_of_user params u)

pub returns-clause-again : goal.returns-clause-again
returns-clause-again c = λ u is. spelled_user u is

pub returns-clause-one : goal.returns-clause-one
returns-clause-one c = λ m x y s t. one_user m x y s t
