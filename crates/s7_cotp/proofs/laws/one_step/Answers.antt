use Rattle.s7_cotp.proofs.StepLemmas.{one_step_says}
use Rattle.s7_cotp.proofs.laws.one_step.Goals as goal

pub returns : goal.returns
returns c = λ limit fs f o. one_step_says limit fs f o
