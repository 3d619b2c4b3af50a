use Rattle.s7_cotp.proofs.RoundLemmas.{joined_again}
use Rattle.s7_cotp.proofs.laws.cut_is_joined.Goals as goal

pub returns : goal.returns
returns c = λ limit tpdu message least fits few. joined_again limit tpdu message least fits few
