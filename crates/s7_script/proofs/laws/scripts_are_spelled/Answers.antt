use Rattle.s7_script.proofs.NamedLemmas.{scripts_are_spelled}
use Rattle.s7_script.proofs.laws.scripts_are_spelled.Goals as goal

pub returns : goal.returns
returns c = scripts_are_spelled
