-- The parts of a text, one octet after another.
use Rattle.std.proofs.Common.{◌≡◌, ◌∙◌, ◌<◌, ◌≤◌, ℕ, Option, None, Some, Bool, true, false, cond, zero, suc, refl, sym, ap, arith, List, [], ◌∷◌, ◌++◌, length, take, drop, append-nil, ◌+◌}
use Rattle.std.proofs.lemmas.Grind.{common_steps}
use Rattle.std.specs.Prelude.{codes, ◌==◌, ◌&&◌}
use Rattle.std.specs.Str.{bytes_eq}
use Rattle.s7_text.specs.Lines.{Text, with_first}
use Rattle.s7_script.specs.Script.{parts}

-- the parts of a text, of which the first octets have been seen
abbrev pub begun : Text → List Text → List Text
begun seen [] = seen ∷ []
begun seen (part ∷ rest) = (seen ++ part) ∷ rest

abbrev pub begins : Text → Type 0
begins xs = bytes_eq (codes " ; ") (take 3 xs) ≡ true

abbrev pub differs : Text → Type 0
differs xs = bytes_eq (codes " ; ") (take 3 xs) ≡ false

short : (x : Bool) → (x && false) ≡ true → ⊥
short true h = cc
short false h = cc

shorter : (x y : Bool) → (x && (y && false)) ≡ true → ⊥
shorter true y h = short y h
shorter false y h = cc

pub at_joint : (xs : Text) → begins xs → parts xs ≡ [] ∷ parts (drop 3 xs)
unfolding parts
at_joint [] h = cc
at_joint (a ∷ []) h = absurd (short (32 == a) h)
at_joint (a ∷ b ∷ []) h = absurd (shorter (32 == a) (59 == b) h)
at_joint (a ∷ b ∷ c ∷ rest) h = rw h refl

pub no_joint : (x : ℕ) (xs : Text) → differs (x ∷ xs) → parts (x ∷ xs) ≡ with_first x (parts xs)
unfolding parts
no_joint a [] h = refl
no_joint a (b ∷ []) h = refl
no_joint a (b ∷ c ∷ rest) h = rw h refl

begun-first : (x : ℕ) (seen : Text) (ps : List Text) → begun (x ∷ seen) ps ≡ with_first x (begun seen ps)
begun-first x seen [] = refl
begun-first x seen (p ∷ ps) = refl

begun-none : (x : ℕ) (ps : List Text) → begun [] (with_first x ps) ≡ begun (x ∷ []) ps
begun-none x [] = refl
begun-none x (p ∷ ps) = refl

begun-cond : (test : Bool) (a : ℕ) (ps qs : List Text) → cond test ([] ∷ ps) (with_first a qs) ≡ begun [] (cond test ([] ∷ ps) (with_first a qs))
begun-cond true a ps qs = refl
begun-cond false a ps [] = refl
begun-cond false a ps (q ∷ qs) = refl

-- nothing has been seen
pub parts-begun : (xs : Text) → parts xs ≡ begun [] (parts xs)
unfolding parts
parts-begun [] = refl
parts-begun (a ∷ []) = refl
parts-begun (a ∷ b ∷ []) = refl
parts-begun (a ∷ b ∷ c ∷ rest) = begun-cond (bytes_eq (codes " ; ") (a ∷ b ∷ c ∷ [])) a (parts rest) (parts (b ∷ c ∷ rest))

pub parts-step : (xs : Text) (k : ℕ) → k < length xs → differs (drop k xs) → begun (take k xs) (parts (drop k xs)) ≡ begun (take (suc k) xs) (parts (drop (suc k) xs))
parts-step [] k within h = absurd (omega arith)
parts-step (x ∷ xs) zero within h = ap (begun []) (no_joint x xs h) ∙ begun-none x (parts xs)
parts-step (x ∷ xs) (suc k) within h =
    begun-first x (take k xs) (parts (drop k xs)) ∙ ap (with_first x) (parts-step xs k (omega arith) h)
    ∙ sym (begun-first x (take (suc k) xs) (parts (drop (suc k) xs)))

drop-more : (n k : ℕ) (xs : Text) → drop n (drop k xs) ≡ drop (k + n) xs
drop-more n k xs = grind (arith, common_steps)

pub parts-found : (xs : Text) (k : ℕ) → begins (drop k xs) → begun (take k xs) (parts (drop k xs)) ≡ take k xs ∷ parts (drop (k + 3) xs)
parts-found xs k h =
    ap (begun (take k xs)) (at_joint (drop k xs) h)
    ∙ ap (λ t. t ∷ parts (drop 3 (drop k xs))) (append-nil (take k xs))
    ∙ ap (λ t. take k xs ∷ parts t) (drop-more 3 k xs)

pub parts-ended : (xs : Text) (k : ℕ) → length xs ≤ k → begun (take k xs) (parts (drop k xs)) ≡ xs ∷ []
unfolding parts
parts-ended [] zero all = refl
parts-ended [] (suc k) all = refl
parts-ended (x ∷ xs) zero all = absurd (omega arith)
parts-ended (x ∷ xs) (suc k) all = begun-first x (take k xs) (parts (drop k xs)) ∙ ap (with_first x) (parts-ended xs k (omega arith))

-- the measure of a text that is taken part by part
abbrev pub text_left : Option Text → ℕ
text_left None = 0
text_left (Some text) = suc (length text)
