use Rattle.s7_session.proofs.SpelledLemmas.{writes_are_asked}
use Rattle.s7_session.proofs.laws.spelled_writes_are_asked.Goals as goal

pub returns : goal.returns
returns c = writes_are_asked
