use Rattle.s7_listener.proofs.GrantLemmas.{grants_are_bounded}
use Rattle.s7_listener.proofs.laws.grants_are_bounded.Goals as goal

pub returns : goal.returns
returns c = grants_are_bounded
