use Rattle.s7_plant.specs.BookLaws.{calls_lead}
use Rattle.s7_plant.proofs.laws.calls_lead_the_same.Goals as goal

pub returns : goal.returns
returns c = calls_lead
