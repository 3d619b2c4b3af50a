use Rattle.s7_szl.proofs.JoinLemmas.{is_open, is_in_order, open_list, list_is_tested}
use Rattle.s7_szl.proofs.laws.joins_hold.Goals as goal

pub returns-clause-open : goal.returns-clause-open
returns-clause-open c = λ j fronts w. is_open j fronts w

pub returns-clause-whole : goal.returns-clause-whole
returns-clause-whole c = λ j fronts last w. is_in_order j fronts last w

pub returns-clause-list_open : goal.returns-clause-list_open
returns-clause-list_open c = λ j fronts. open_list j fronts

pub returns-clause-list_whole : goal.returns-clause-list_whole
returns-clause-list_whole c = λ j fronts last. list_is_tested j fronts last
