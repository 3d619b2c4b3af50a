-- Facts about lists of octets, and about what may be there.
use Rattle.std.proofs.Common.{◌≡◌, ◌⊎◌, inl, inr, ℕ, ◌<◌, Option, None, Some, List, [], ◌∷◌, ◌++◌, length, refl, ap, sym, ◌∙◌, arith, append_assoc, append-nil}
use Rattle.std.proofs.lemmas.List.{append_cancel_left}

abbrev pub head_of : List ℕ → ℕ
head_of [] = 0
head_of (x ∷ xs) = x

abbrev pub tail_of : List ℕ → List ℕ
tail_of [] = []
tail_of (x ∷ xs) = xs

pub some_of : (xs : List ℕ) → (xs ≡ [] → ⊥) → 0 < length xs
some_of [] h = absurd (h refl)
some_of (x ∷ xs) h = omega arith

pub none_of : (xs : List ℕ) → (0 < length xs → ⊥) → xs ≡ []
none_of [] h = refl
none_of (x ∷ xs) h = absurd (h (omega arith))

-- nothing has no front
pub none_before : (xs ys : List ℕ) → xs ++ ys ≡ [] → xs ≡ []
none_before [] ys none = refl
none_before (x ∷ xs) ys none = absurd (cc)

-- nothing lies behind a list that is all
pub none_behind : (xs ys : List ℕ) → xs ≡ xs ++ ys → ys ≡ []
none_behind xs ys same = append_cancel_left xs ys [] (sym same ∙ sym (append-nil xs))

pub two_behind : (b x y : List ℕ) → b ++ (x ++ (y ++ [])) ≡ (b ++ x) ++ y
two_behind b x y = ap (λ z. b ++ (x ++ z)) (append-nil y) ∙ sym (append_assoc b x y)

pub not_both : {A : Type 0} (o : Option A) (x : A) → o ≡ None → o ≡ Some x → ⊥
not_both o x none some = cc

-- ---- two fronts of a list

-- the second ends in the first, or takes it whole
abbrev pub Parts : List ℕ → List ℕ → List ℕ → List ℕ → Type 0
Parts xs behind front rest = ((z : List ℕ) × (front ++ z ≡ xs) × (0 < length z)) ⊎ ((z : List ℕ) × (front ≡ xs ++ z) × (behind ≡ z ++ rest))

parts_behind : (x y : ℕ) (xs front behind rest : List ℕ) → x ≡ y → Parts xs behind front rest → Parts (x ∷ xs) behind (y ∷ front) rest
parts_behind x y xs front behind rest same (inl h) = inl (h.0, ap (λ a. a ∷ (front ++ h.0)) (sym same) ∙ ap (λ zs. x ∷ zs) h.1, h.2)
parts_behind x y xs front behind rest same (inr h) = inr (h.0, ap (λ a. a ∷ front) (sym same) ∙ ap (λ zs. x ∷ zs) h.1, h.2)

pub parts : (xs behind front rest : List ℕ) → xs ++ behind ≡ front ++ rest → Parts xs behind front rest
parts [] behind front rest e = inr (front, refl, e)
parts (x ∷ xs) behind [] rest e = inl (x ∷ xs, refl, omega arith)
parts (x ∷ xs) behind (y ∷ front) rest e = parts_behind x y xs front behind rest (ap head_of e) (parts xs behind front rest (ap tail_of e))
