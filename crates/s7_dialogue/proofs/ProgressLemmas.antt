-- Lemmas on the questions of a job and its answers.
use Rattle.std.proofs.Common.{◌≡◌, ℕ, zero, suc, ◌+◌, Some, None, List, [], ◌∷◌, drop, refl, sym, ap, ◌∙◌, arith}
use Rattle.std.specs.Prelude.{slice_get}
use Rattle.std.specs.List.{between}
use Rattle.s7_item.specs.declared.item.Item.{Item}
use Rattle.s7_split.specs.Groups.{cut_at}

-- from where there is no element on there are none
pub drop_none : {X : Type 0} (xs : List X) (n : ℕ) → slice_get xs n ≡ None → drop n xs ≡ []
drop_none [] zero none = refl
drop_none [] (suc n) none = refl
drop_none (x ∷ xs) zero none = absurd (cc)
drop_none (x ∷ xs) (suc n) none = drop_none xs n none

-- an element and those behind it
pub drop_some : {X : Type 0} (xs : List X) (n : ℕ) (x : X) → slice_get xs n ≡ Some x → drop n xs ≡ x ∷ drop (n + 1) xs
drop_some [] zero x some = absurd (cc)
drop_some [] (suc n) x some = absurd (cc)
drop_some (y ∷ ys) zero x some = cc
drop_some (y ∷ ys) (suc n) x some =
    let on : suc (n + 1) ≡ suc n + 1 = omega arith in
    drop_some ys n x some ∙ ap (λ m. x ∷ drop m (y ∷ ys)) on

-- the pieces where there is no end, and where there is one
pub cut_none : (ends : List ℕ) (n from : ℕ) (items : List Item) → slice_get ends n ≡ None
    → cut_at from (drop n ends) items ≡ []
cut_none ends n from items none = ap (λ es. cut_at from es items) (drop_none ends n none)

pub cut_some : (ends : List ℕ) (n from end : ℕ) (items group : List Item) → slice_get ends n ≡ Some end
    → group ≡ between from end items → cut_at from (drop n ends) items ≡ group ∷ cut_at end (drop (n + 1) ends) items
cut_some ends n from end items group some is =
    ap (λ es. cut_at from es items) (drop_some ends n end some)
    ∙ ap (λ g. g ∷ cut_at end (drop (n + 1) ends) items) (sym is)
