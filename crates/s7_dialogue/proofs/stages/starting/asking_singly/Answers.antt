use Rattle.std.proofs.Common.{refl}
use Rattle.s7_dialogue.proofs.stages.starting.asking_singly.Goals as goal

pub returns-clause-stage : goal.returns-clause-stage
returns-clause-stage c = (_, refl, refl, refl, refl)
