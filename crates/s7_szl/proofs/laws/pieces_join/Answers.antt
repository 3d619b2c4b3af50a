use Rattle.s7_szl.proofs.JoinLemmas.{joins, joins_list, joins_table}
use Rattle.s7_szl.proofs.laws.pieces_join.Goals as goal

pub returns-clause-plain : goal.returns-clause-plain
returns-clause-plain c = λ j fronts last b h f. joins j fronts last b h f

pub returns-clause-list : goal.returns-clause-list
returns-clause-list c = λ j fronts last b h f a. joins_list j fronts last b h f a

pub returns-clause-tables : goal.returns-clause-tables
returns-clause-tables c = λ id index running fronts last h e. joins_table id index running fronts last h e
