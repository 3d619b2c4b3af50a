use Rattle.s7_listener.proofs.CompleteLemmas.{reads_are_answered}
use Rattle.s7_listener.proofs.laws.spelled_reads_are_answered.Goals as goal

pub returns : goal.returns
returns c = reads_are_answered
