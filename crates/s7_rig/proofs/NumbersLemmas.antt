-- Numbers in order, one more at the end.
use Rattle.std.proofs.Common.{◌≡◌, ℕ, ◌+◌, ◌-◌, ◌≤◌, zero, suc, List, [], ◌∷◌, ◌++◌, refl, ap, sym, ◌∙◌, arith}
use Rattle.std.proofs.lemmas.List.{append_assoc, append-nil}
use Rattle.s7_rig.specs.Numbers.{count_from}

pub count_from-nil : (n : ℕ) → count_from n 0 ≡ []
unfolding count_from
count_from-nil n = refl

pub count_from-cons : (n more : ℕ) → count_from n (suc more) ≡ n ∷ count_from (n + 1) more
unfolding count_from
count_from-cons n more = refl

pub count_from-push : (n more : ℕ) → count_from n more ++ (n + more) ∷ [] ≡ count_from n (suc more)
unfolding count_from
count_from-push n zero =
    let e : n + 0 ≡ n = omega arith in
    ap (λ x. x ∷ []) e ∙ sym (count_from-cons n 0)
count_from-push n (suc more) =
    let e : n + suc more ≡ n + 1 + more = omega arith in
    rw e (ap (λ xs. n ∷ xs) (count_from-push (n + 1) more))

-- so many more
pub count_from-append : (n some more : ℕ) → count_from n (some + more) ≡ count_from n some ++ count_from (n + some) more
unfolding count_from
count_from-append n zero more =
    let none : 0 + more ≡ more = omega arith in
    let here : n + 0 ≡ n = omega arith in
    ap (count_from n) none ∙ ap (λ k. count_from k more) (sym here)
count_from-append n (suc some) more =
    let count : suc some + more ≡ suc (some + more) = omega arith in
    let next : n + 1 + some ≡ n + suc some = omega arith in
    ap (count_from n) count ∙ ap (λ xs. n ∷ xs) (count_from-append (n + 1) some more)
    ∙ ap (λ k. n ∷ count_from (n + 1) some ++ count_from k more) next

-- after those below n the number n comes
pub count_from-more : (first n : ℕ) → first ≤ n → count_from first (n - first) ++ n ∷ [] ≡ count_from first (n + 1 - first)
count_from-more first n h =
    let e : n + 1 - first ≡ suc (n - first) = omega arith in
    let k : first + (n - first) ≡ n = omega arith in
    ap (λ x. count_from first (n - first) ++ x ∷ []) (sym k) ∙ (count_from-push first (n - first) ∙ ap (count_from first) (sym e))

-- onto a list
pub count_from-onto : (xs ys : List ℕ) (first n : ℕ) → first ≤ n → xs ≡ ys ++ count_from first (n - first) → xs ++ n ∷ [] ≡ ys ++ count_from first (n + 1 - first)
count_from-onto xs ys first n h e =
    ap (λ x. x ++ n ∷ []) e ∙ (append_assoc ys _ _ ∙ ap (λ x. ys ++ x) (count_from-more first n h))

-- no number yet
pub count_from-begin : (xs : List ℕ) (first : ℕ) → xs ≡ xs ++ count_from first (first - first)
unfolding count_from
count_from-begin xs first =
    let e : first - first ≡ 0 = omega arith in
    rw e (sym (append-nil xs))
