use Rattle.s7_listener.proofs.CompleteLemmas.{writes_are_answered}
use Rattle.s7_listener.proofs.laws.spelled_writes_are_answered.Goals as goal

pub returns : goal.returns
returns c = writes_are_answered
