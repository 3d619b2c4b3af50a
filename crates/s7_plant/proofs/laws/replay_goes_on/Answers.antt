use Rattle.std.proofs.Common.{[], ◌∷◌, refl}
use Rattle.s7_plant.specs.Histories.{GoesOn}
use Rattle.s7_plant.specs.Answers.{after}
use Rattle.s7_plant.proofs.laws.replay_goes_on.Goals as goal

goes_on : GoesOn
goes_on m [] r = refl
goes_on m (first ∷ requests) r = goes_on (after m first) requests r

pub returns : goal.returns
returns c = goes_on
