use Rattle.std.proofs.Common.{refl}
use Rattle.s7_cotp.proofs.StepLemmas.{begins}
use Rattle.s7_cotp.proofs.joining.Joiner.new.Goals as goal

pub returns-clause-holds : goal.returns-clause-holds
returns-clause-holds c = begins _ c.in_ok-new.ensures.0 refl refl
