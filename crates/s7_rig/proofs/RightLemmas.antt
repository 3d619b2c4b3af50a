-- A link's own calls at places where all calls have the right were asked with it.
use Rattle.std.proofs.Common.{◌≡◌, ℕ, Bool, true, List, [], ◌∷◌, ◌++◌, map, subst}
use Rattle.std.specs.List.{AllByRecursion}
use Rattle.s7_area.specs.Memory.{Memory}
use Rattle.s7_plant.specs.declared.request.Ask.{Ask}
use Rattle.s7_plant.specs.Replies.{Said}
use Rattle.s7_plant.specs.State.{State}
use Rattle.s7_session.specs.Books.{History, own}
use Rattle.s7_session.specs.Entry.{Entry, answered}
use Rattle.s7_rig.specs.Complete.{AreWithRight}
use Rattle.s7_rig.proofs.OwnLemmas.{AreOwnAt, numbers_of, own_at, own_back_at, own_shaped}
use Rattle.s7_rig.proofs.ShapeLemmas.{AreShaped, AreAllowed}

-- where there is a right, each was asked with one
abbrev HaveRight : Bool → List (Ask × Said) → Type 0
HaveRight right entries = AllByRecursion (λ (e : Ask × Said). right ≡ true → e.0.right ≡ true) entries

right_at : (s : State) (history : History) (link : ℕ) (right : Bool) (es : List Entry) → AreOwnAt s history link es
    → (right ≡ true → AreWithRight history (numbers_of es)) → HaveRight right (map answered es)
right_at s history link right [] all has = tt
right_at s history link right (e ∷ es) all has =
    (λ is. (has is).0 link e.ask all.0.call, right_at s history link right es all.1 (λ is. (has is).1))

allowed_by : (m : Memory) (right : Bool) (entries : List (Ask × Said)) → AreShaped m entries → HaveRight right entries
    → AreAllowed m right entries
allowed_by m right [] shaped has = tt
allowed_by m right (e ∷ entries) shaped has =
    ((shaped.0.0, shaped.0.1, shaped.0.2, has.0), allowed_by m right entries shaped.1 has.1)

-- a back part of them, where all calls of its numbers have the right
pub own_allowed : (s : State) (link : ℕ) (history : History) (right : Bool) (before mine : List Entry)
    → own s link history ≡ before ++ mine → (right ≡ true → AreWithRight history (numbers_of mine))
    → AreAllowed s.memory right (map answered mine)
own_allowed s link history right before mine split has =
    let at = own_back_at s history link before mine (subst (AreOwnAt s history link) split (own_at s link history)) in
    allowed_by s.memory right (map answered mine) (own_shaped s link history before mine split)
    (right_at s history link right mine at has)
