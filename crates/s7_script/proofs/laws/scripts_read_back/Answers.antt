use Rattle.s7_script.proofs.BackLemmas.{scripts_read_back}
use Rattle.s7_script.proofs.laws.scripts_read_back.Goals as goal

pub returns : goal.returns
returns c = scripts_read_back
