use Rattle.s7_script.proofs.MoveLemmas.{scripts_keep}
use Rattle.s7_script.proofs.laws.scripts_keep_links.Goals as goal

pub returns : goal.returns
returns c = record { keeps = scripts_keep }
