-- A walk over a list that is taken apart: what was taken, and what is left.
use Rattle.std.proofs.Common.{◌≡◌, ℕ, ◌+◌, ◌<◌, List, [], ◌∷◌, ◌++◌, length, map, sym, ap, ◌∙◌, arith}
use Rattle.std.proofs.lemmas.List.{length-append, length-map, append_assoc, append-nil, map-append, nil_from_length}

pub walk_more : {A : Type 0} (taken left left' all : List A) (x : A) → taken ++ left ≡ all → left ≡ x ∷ left' → taken ++ x ∷ [] ++ left' ≡ all
walk_more taken left left' all x e h = append_assoc taken (x ∷ []) left' ∙ (ap (λ l. taken ++ l) (sym h) ∙ e)

-- its length is that of what is left
pub walk_left : {A : Type 0} (left left' : List A) (x : A) (n n' : ℕ) → left ≡ x ∷ left' → n' + 1 ≡ n → n ≡ length left → n' ≡ length left'
walk_left left left' x n n' h e k =
    let d = ap length h in
    omega arith

pub walk_below : {A : Type 0} (taken left left' all : List A) (x : A) → taken ++ left ≡ all → left ≡ x ∷ left' → length taken < length all
walk_below taken left left' all x e h =
    let a = length-append taken left in
    let b = ap length e in
    let d = ap length h in
    omega arith

pub walk_end : {A : Type 0} (taken left all : List A) → taken ++ left ≡ all → length left ≡ 0 → taken ≡ all
walk_end taken left all e h = sym (append-nil taken) ∙ (ap (λ l. taken ++ l) (sym (nil_from_length left h)) ∙ e)

-- two lists that show the same, one more
pub shown_more : {A B C : Type 0} (f : B → C) (g : A → C) (ys ys' : List B) (xs : List A) (y : B) (x : A)
    → ys' ≡ ys ++ y ∷ [] → map f ys ≡ map g xs → f y ≡ g x → map f ys' ≡ map g (xs ++ x ∷ [])
shown_more f g ys ys' xs y x e h k =
    ap (map f) e ∙ (map-append f ys (y ∷ []) ∙ (ap (λ l. l ++ f y ∷ []) h ∙ (ap (λ z. map g xs ++ z ∷ []) k ∙ sym (map-append g xs (x ∷ [])))))

pub shown_count : {A B C : Type 0} (f : B → C) (g : A → C) (ys : List B) (xs : List A) → map f ys ≡ map g xs → length ys ≡ length xs
shown_count f g ys xs h = sym (length-map ys f) ∙ (ap length h ∙ length-map xs g)

-- one more of both
pub count_more : {A B : Type 0} (ys ys' : List B) (xs : List A) (y : B) (x : A) → ys' ≡ ys ++ y ∷ [] → length ys ≡ length xs → length ys' ≡ length (xs ++ x ∷ [])
count_more ys ys' xs y x e h = ap length e ∙ (length-append ys (y ∷ []) ∙ (ap (λ n. n + 1) h ∙ sym (length-append xs (x ∷ []))))
