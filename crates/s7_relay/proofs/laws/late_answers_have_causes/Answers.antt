use Rattle.s7_relay.proofs.ErrorLemmas.{late_have_causes}
use Rattle.s7_relay.proofs.laws.late_answers_have_causes.Goals as goal

pub returns : goal.returns
returns c = late_have_causes
