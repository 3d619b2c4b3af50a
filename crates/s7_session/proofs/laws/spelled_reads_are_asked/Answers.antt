use Rattle.s7_session.proofs.SpelledLemmas.{reads_are_asked}
use Rattle.s7_session.proofs.laws.spelled_reads_are_asked.Goals as goal

pub returns : goal.returns
returns c = reads_are_asked
