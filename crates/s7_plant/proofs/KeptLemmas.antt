-- What a history keeps of a request.
use Rattle.std.proofs.Common.{◌≡◌, Bool, refl}
use Rattle.s7_plant.specs.declared.request.Request.{Request}
use Rattle.s7_plant.specs.declared.request.Request.TheVariants.{Read}
use Rattle.s7_plant.specs.Answers.{answer, changed}
use Rattle.s7_plant.specs.Events.{code_of}
use Rattle.s7_plant.specs.Requests.{kept_request}
use Rattle.s7_plant.specs.State.{State}

-- it is answered and changes a state as the request does
pub same_request : (s : State) (right : Bool) (r : Request)
    → (changed s right (kept_request r) ≡ changed s right r) × (answer s right (kept_request r) ≡ answer s right r)
same_request s right (Read items) = (refl, refl)
same_request s right other = (refl, refl)

-- observers are told of it as of the request
pub same_code : (r : Request) → code_of (kept_request r) ≡ code_of r
same_code (Read items) = refl
same_code other = refl
