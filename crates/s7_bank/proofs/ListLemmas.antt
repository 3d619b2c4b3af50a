-- Elements of lists by their indices, where an element is replaced, appended or removed.
use Rattle.std.proofs.Common.{◌≡◌, ◌⊎◌, inl, inr, ℕ, zero, suc, ◌+◌, ◌<◌, List, [], ◌∷◌, length, Some, None, slice_get, slice_set, get_or, below_more, append_assoc, refl, ap, sym, ◌∙◌, arith}
use Rattle.std.specs.Prelude.{◌++◌, unwrap_or, remove}
use Rattle.std.proofs.lemmas.List.{append-nil, nil_from_length}

pub same_some : {X : Type 0} (x y : X) → Some x ≡ Some y → x ≡ y
same_some x y e = ap (λ o. unwrap_or o x) e

pub none_isnt : {X A : Type 0} (x : X) → None ≡ Some x → A
none_isnt x e = cc

pub get_within : {X : Type 0} (xs : List X) (i : ℕ) → i < length xs → (x : X) × (slice_get xs i ≡ Some x)
get_within [] i l = absurd (omega (arith, l))
get_within (x ∷ xs) zero l = (x, refl)
get_within (x ∷ xs) (suc i) l = get_within xs i (omega (arith, l))

-- ---- an element is replaced

pub set_twice : {X : Type 0} (xs : List X) (i : ℕ) (x y : X) → slice_set (slice_set xs i x) i y ≡ slice_set xs i y
set_twice [] i x y = refl
set_twice (z ∷ xs) zero x y = refl
set_twice (z ∷ xs) (suc i) x y = ap (λ l. z ∷ l) (set_twice xs i x y)

pub length_of_set : {X : Type 0} (xs : List X) (i : ℕ) (x : X) → length (slice_set xs i x) ≡ length xs
length_of_set [] i x = refl
length_of_set (z ∷ xs) zero x = refl
length_of_set (z ∷ xs) (suc i) x = ap suc (length_of_set xs i x)

pub get_set_same : {X : Type 0} (xs : List X) (i : ℕ) (x : X) → i < length xs → slice_get (slice_set xs i x) i ≡ Some x
get_set_same [] i x l = absurd (omega (arith, l))
get_set_same (z ∷ xs) zero x l = refl
get_set_same (z ∷ xs) (suc i) x l = get_set_same xs i x (omega (arith, l))

pub get_set_other : {X : Type 0} (xs : List X) (i j : ℕ) (x : X) → (i ≡ j → ⊥) → slice_get (slice_set xs i x) j ≡ slice_get xs j
get_set_other [] i j x ne = refl
get_set_other (z ∷ xs) zero zero x ne = absurd (ne refl)
get_set_other (z ∷ xs) zero (suc j) x ne = refl
get_set_other (z ∷ xs) (suc i) zero x ne = refl
get_set_other (z ∷ xs) (suc i) (suc j) x ne = get_set_other xs i j x (λ e. ne (ap suc e))

later : {B C : Type 0} (i j : ℕ) → ((i ≡ j) × B) ⊎ C → ((suc i ≡ suc j) × B) ⊎ C
later i j (inl p) = inl (ap suc p.0, p.1)
later i j (inr c) = inr c

-- an element is the new one, or stood there before
pub set_cases : {X : Type 0} (xs : List X) (i j : ℕ) (x y : X) → slice_get (slice_set xs i x) j ≡ Some y → ((i ≡ j) × (x ≡ y)) ⊎ (slice_get xs j ≡ Some y)
set_cases [] i j x y e = inr e
set_cases (z ∷ xs) zero zero x y e = inl (refl, same_some x y e)
set_cases (z ∷ xs) zero (suc j) x y e = inr e
set_cases (z ∷ xs) (suc i) zero x y e = inr e
set_cases (z ∷ xs) (suc i) (suc j) x y e = later i j (set_cases xs i j x y e)

-- ---- an element is appended

pub get_left : {X : Type 0} (xs : List X) (x : X) (i : ℕ) (y : X) → slice_get xs i ≡ Some y → slice_get (xs ++ x ∷ []) i ≡ Some y
get_left [] x i y e = none_isnt y e
get_left (z ∷ xs) x zero y e = e
get_left (z ∷ xs) x (suc i) y e = get_left xs x i y e

get_end : {X : Type 0} (xs : List X) (x : X) → slice_get (xs ++ x ∷ []) (length xs) ≡ Some x
get_end [] x = refl
get_end (z ∷ xs) x = get_end xs x

pub get_last : {X : Type 0} (xs : List X) (x : X) (i : ℕ) → length xs ≡ i → slice_get (xs ++ x ∷ []) i ≡ Some x
get_last xs x i e = ap (slice_get (xs ++ x ∷ [])) (sym e) ∙ get_end xs x

pub length_more : {X : Type 0} (xs : List X) (x : X) (i : ℕ) → length xs ≡ i → length (xs ++ x ∷ []) ≡ i + 1
length_more [] x i e = omega (arith, e)
length_more (z ∷ xs) x i e = let l = length_more xs x (length xs) refl in omega (arith, l, e)

-- an element is the last one, or stood there before
pub append_cases : {X : Type 0} (xs : List X) (x : X) (i : ℕ) (y : X) → slice_get (xs ++ x ∷ []) i ≡ Some y → ((length xs ≡ i) × (x ≡ y)) ⊎ (slice_get xs i ≡ Some y)
append_cases [] x zero y e = inl (refl, same_some x y e)
append_cases [] x (suc i) y e = none_isnt y e
append_cases (z ∷ xs) x zero y e = inr e
append_cases (z ∷ xs) x (suc i) y e = later (length xs) i (append_cases xs x i y e)

-- ---- the first element is removed

pub get_rest : {X : Type 0} (xs : List X) (i : ℕ) → slice_get (remove xs 0) i ≡ slice_get xs (suc i)
get_rest [] i = refl
get_rest (x ∷ xs) i = refl

-- ---- numbers

get_or_set_same : (xs : List ℕ) (i x : ℕ) → i < length xs → get_or (slice_set xs i x) i 0 ≡ x
get_or_set_same [] i x l = absurd (omega (arith, l))
get_or_set_same (z ∷ xs) zero x l = refl
get_or_set_same (z ∷ xs) (suc i) x l = get_or_set_same xs i x (omega (arith, l))

get_or_set_other : (xs : List ℕ) (i j x : ℕ) → (i ≡ j → ⊥) → get_or (slice_set xs i x) j 0 ≡ get_or xs j 0
get_or_set_other [] i j x ne = refl
get_or_set_other (z ∷ xs) zero zero x ne = absurd (ne refl)
get_or_set_other (z ∷ xs) zero (suc j) x ne = refl
get_or_set_other (z ∷ xs) (suc i) zero x ne = refl
get_or_set_other (z ∷ xs) (suc i) (suc j) x ne = get_or_set_other xs i j x (λ e. ne (ap suc e))

-- one more number of a list is this function's
pub numbers_more : (f : ℕ → ℕ) (xs : List ℕ) (i x : ℕ) → i < length xs → ((j : ℕ) → j < i → get_or xs j 0 ≡ f j) → x ≡ f i → (j : ℕ) → j < i + 1 → get_or (slice_set xs i x) j 0 ≡ f j
numbers_more f xs i x l so is =
    below_more (λ j. get_or (slice_set xs i x) j 0 ≡ f j) i
    (λ j below. get_or_set_other xs i j x (λ e. absurd (omega (arith, below, e))) ∙ so j below)
    (get_or_set_same xs i x l ∙ is)

-- ---- a walk over a list: the elements taken, and those left

pub walk_more : {A : Type 0} (taken left left' all : List A) (x : A) → taken ++ left ≡ all → left ≡ x ∷ left' → taken ++ x ∷ [] ++ left' ≡ all
walk_more taken left left' all x e h = append_assoc taken (x ∷ []) left' ∙ (ap (λ l. taken ++ l) (sym h) ∙ e)

pub walk_left : {A : Type 0} (left left' : List A) (x : A) (n n' : ℕ) → left ≡ x ∷ left' → n' + 1 ≡ n → n ≡ length left → n' ≡ length left'
walk_left left left' x n n' h e k =
    let d = ap length h in
    omega arith

pub walk_end : {A : Type 0} (taken left all : List A) → taken ++ left ≡ all → length left ≡ 0 → taken ≡ all
walk_end taken left all e h = sym (append-nil taken) ∙ (ap (λ l. taken ++ l) (sym (nil_from_length left h)) ∙ e)
