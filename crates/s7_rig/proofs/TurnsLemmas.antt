-- Turns one after another.
use Rattle.std.proofs.Common.{◌≡◌, ℕ, ◌+◌, ◌<◌, suc, length, take, get_or, ◌||◌, Bool, true, false, List, [], ◌∷◌, ◌++◌, refl, ap, sym, ◌∙◌, subst, arith}
use Rattle.std.proofs.Math.Bool.{or-false}
use Rattle.std.proofs.Math.Seq.{take-suc}
use Rattle.s7_rig.specs.State.{State}
use Rattle.s7_rig.specs.Turns.{IsTurnOf}
use Rattle.s7_rig.specs.Numbers.{count_from}
use Rattle.s7_rig.specs.Runs.{Turns}
use Rattle.s7_rig.proofs.NumbersLemmas.{count_from-push}

or_assoc : (a b c : Bool) → (a || (b || c)) ≡ ((a || b) || c)
or_assoc true b c = refl
or_assoc false b c = refl

pub Turns-none : (s : State) → Turns [] s s false
unfolding Turns
Turns-none s = (refl, refl)

pub Turns-append : (xs ys : List ℕ) (old middle new : State) (a b : Bool) → Turns xs old middle a → Turns ys middle new b → Turns (xs ++ ys) old new (a || b)
unfolding Turns
Turns-append [] ys old middle new a b h k = rw h.1 (subst (λ s. Turns ys s new b) h.0 k)
Turns-append (x ∷ xs) ys old middle new a b (s, first, later, t, ts, e) k =
    (s, first, (later || b), t, Turns-append xs ys s middle new later b ts k, ap (λ c. c || b) e ∙ sym (or_assoc first later b))

pub Turns-one : (x : ℕ) (old new : State) (stirs : Bool) → IsTurnOf x old new stirs → Turns (x ∷ []) old new stirs
unfolding Turns
Turns-one x old new stirs t = (new, stirs, false, t, (refl, refl), sym (or-false stirs))

pub Turns-push : (xs : List ℕ) (x : ℕ) (old middle new : State) (a b : Bool) → Turns xs old middle a → IsTurnOf x middle new b → Turns (xs ++ x ∷ []) old new (a || b)
Turns-push xs x old middle new a b h t = Turns-append xs (x ∷ []) old middle new a b h (Turns-one x middle new b t)

-- the actors in order, one more
pub Turns-count : (n : ℕ) (old middle new : State) (a b : Bool) → Turns (count_from 0 n) old middle a → IsTurnOf n middle new b → Turns (count_from 0 (n + 1)) old new (a || b)
Turns-count n old middle new a b h t =
    let e : 0 + n ≡ n = omega arith in
    let k : suc n ≡ n + 1 = omega arith in
    subst (λ xs. Turns xs old new (a || b))
    (ap (λ x. count_from 0 n ++ x ∷ []) (sym e) ∙ (count_from-push 0 n ∙ ap (count_from 0) k))
    (Turns-push (count_from 0 n) n old middle new a b h t)

-- the actors of a list, one more
pub Turns-take : (xs : List ℕ) (i : ℕ) (old middle new : State) (a b : Bool) → i < length xs → Turns (take i xs) old middle a → IsTurnOf (get_or xs i 0) middle new b
    → Turns (take (i + 1) xs) old new (a || b)
Turns-take xs i old middle new a b below h t =
    let k : suc i ≡ i + 1 = omega arith in
    subst (λ ys. Turns ys old new (a || b)) (sym (take-suc xs i 0 below) ∙ ap (λ n. take n xs) k) (Turns-push (take i xs) (get_or xs i 0) old middle new a b h t)
