use Rattle.s7_szl.proofs.JoinLemmas.{refused_plain, refused_list, keeps, keeps_list}
use Rattle.s7_szl.proofs.laws.refusals_are_exact.Goals as goal

pub returns-clause-plain : goal.returns-clause-plain
returns-clause-plain c = λ j p b. refused_plain j p b

pub returns-clause-list : goal.returns-clause-list
returns-clause-list c = λ j p b. refused_list j p b

pub returns-clause-plain_stays : goal.returns-clause-plain_stays
returns-clause-plain_stays c = λ j p b. keeps j p b

pub returns-clause-list_stays : goal.returns-clause-list_stays
returns-clause-list_stays c = λ j p b. keeps_list j p b
