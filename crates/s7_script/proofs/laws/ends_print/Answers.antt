use Rattle.s7_script.proofs.FormLemmas.{formed_prints}
use Rattle.s7_script.proofs.laws.ends_print.Goals as goal

pub returns : goal.returns
returns c = record { prints = formed_prints }
