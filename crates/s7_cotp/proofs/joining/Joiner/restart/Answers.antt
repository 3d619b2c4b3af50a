use Rattle.std.proofs.Common.{refl}
use Rattle.s7_cotp.proofs.StepLemmas.{begins}
use Rattle.s7_cotp.proofs.joining.Joiner.restart.Goals as goal

pub returns-clause-holds : goal.returns-clause-holds
returns-clause-holds c = begins _ c.clear.ensures.octets refl refl
