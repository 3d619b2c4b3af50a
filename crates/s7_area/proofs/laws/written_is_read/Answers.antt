use Rattle.s7_area.proofs.WriteLemmas.{read_back}
use Rattle.s7_area.proofs.laws.written_is_read.Goals as goal

pub returns : goal.returns
returns c = read_back
