use Rattle.s7_cotp.proofs.CutLemmas.{same_cut}
use Rattle.s7_cotp.proofs.laws.one_cut.Goals as goal

pub returns : goal.returns
returns c = λ room from to ps qs h g. same_cut room from to ps qs h g
