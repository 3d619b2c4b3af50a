use Rattle.s7_script.proofs.SendLemmas.{sends_read_back}
use Rattle.s7_script.proofs.laws.sends_read_back.Goals as goal

pub returns : goal.returns
returns c = sends_read_back
