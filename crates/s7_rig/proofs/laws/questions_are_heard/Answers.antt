use Rattle.s7_rig.proofs.AnsweringLemmas.{question_answered, negotiation_answered}
use Rattle.s7_rig.proofs.laws.questions_are_heard.Goals as goal

pub returns : goal.returns
returns c = record { asked = question_answered; negotiated = negotiation_answered }
