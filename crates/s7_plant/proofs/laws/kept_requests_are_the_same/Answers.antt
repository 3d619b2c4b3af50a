use Rattle.std.proofs.Common.{[], ◌∷◌, map, refl, ap, ◌∙◌}
use Rattle.s7_plant.specs.Requests.{kept}
use Rattle.s7_plant.specs.Histories.{replay, KeptIsTheSame, KeptHistoriesAreTheSame}
use Rattle.s7_plant.specs.Answers.{after}
use Rattle.s7_plant.proofs.KeptLemmas.{same_request}
use Rattle.s7_plant.proofs.laws.kept_requests_are_the_same.Goals as goal

same : KeptIsTheSame
same s ask = same_request s ask.right ask.request

same_histories : KeptHistoriesAreTheSame
same_histories s [] = refl
same_histories s (ask ∷ asks) =
    ap (λ t. replay t (map kept asks)) ((same s ask).0) ∙ same_histories (after s ask) asks

pub returns-clause-requests : goal.returns-clause-requests
returns-clause-requests c = same

pub returns-clause-histories : goal.returns-clause-histories
returns-clause-histories c = same_histories
