-- Lists that are cut in two.
use Rattle.std.proofs.Common.{◌≡◌, ◌==◌, Bool, true, false, ℕ, zero, suc, ◌<◌, ◌≤◌, List, [], ◌∷◌, ◌++◌, length, take}
use Rattle.std.proofs.Common.{drop, refl, ap, sym, ◌∙◌, append-nil, arith, length-append}
use Rattle.std.proofs.lemmas.Bool.Decides.{nat_tests}

pub none_behind : {A : Type 0} (front rest : List A) (x : A) → [] ≡ front ++ x ∷ rest → ⊥
none_behind front rest x e = omega (arith, ap length e, length-append front (x ∷ rest))

pub none_left : {A : Type 0} (front rest : List A) → [] ≡ front ++ rest → 0 < length rest → ⊥
none_left front rest e some = omega (arith, ap length e, length-append front rest, some)

pub head_same : {A : Type 0} (x y : A) (xs ys : List A) → x ∷ xs ≡ y ∷ ys → x ≡ y
head_same x y xs ys e = cc

pub tail_same : {A : Type 0} (x y : A) (xs ys : List A) → x ∷ xs ≡ y ∷ ys → xs ≡ ys
tail_same x y xs ys e = cc

pub cons_same : {A : Type 0} (x y : A) (xs ys : List A) → x ≡ y → xs ≡ ys → x ∷ xs ≡ y ∷ ys
cons_same x y xs ys e f = cc

-- An element stands before the last one, or is the last one.
pub data Cut {A : Type 0} (xs front rest : List A) (x y : A) : Type 0 where
  before : (behind : List A) → xs ≡ front ++ y ∷ behind → Cut xs front rest x y
  last : front ≡ xs → x ≡ y → rest ≡ [] → Cut xs front rest x y

cut_on : {A : Type 0} (a f : A) (xs front rest : List A) (x y : A) → a ≡ f → Cut xs front rest x y
    → Cut (a ∷ xs) (f ∷ front) rest x y
cut_on a f xs front rest x y e (before behind h) =
    before behind (cons_same a f xs (front ++ y ∷ behind) e h)
cut_on a f xs front rest x y e (last h g n) = last (cons_same f a front xs (sym e) h) g n

pub cut_at : {A : Type 0} (xs front rest : List A) (x y : A) → xs ++ x ∷ [] ≡ front ++ y ∷ rest → Cut xs front rest x y
cut_at [] [] rest x y e = last refl (head_same x y [] rest e) (sym (tail_same x y [] rest e))
cut_at [] (f ∷ front) rest x y e = absurd (none_behind front rest y (tail_same x f [] (front ++ y ∷ rest) e))
cut_at (a ∷ xs) [] rest x y e = before xs (cons_same a y xs xs (head_same a y (xs ++ x ∷ []) rest e) refl)
cut_at (a ∷ xs) (f ∷ front) rest x y e =
    cut_on a f xs front rest x y (head_same a f (xs ++ x ∷ []) (front ++ y ∷ rest) e)
    (cut_at xs front rest x y (tail_same a f (xs ++ x ∷ []) (front ++ y ∷ rest) e))

-- A front of a list with one more element is a front without it, or the whole.
pub data Front {A : Type 0} (xs front : List A) (x : A) : Type 0 where
  shorter : (behind : List A) → xs ≡ front ++ behind → Front xs front x
  whole : front ≡ xs ++ x ∷ [] → Front xs front x

front_by : {A : Type 0} (xs front rest : List A) (x y : A) → Cut xs front rest x y → Front xs front x
front_by xs front rest x y (before behind e) = shorter (y ∷ behind) e
front_by xs front rest x y (last e f n) = shorter [] (sym e ∙ sym (append-nil front))

pub front_of : {A : Type 0} (xs front rest : List A) (x : A) → xs ++ x ∷ [] ≡ front ++ rest → Front xs front x
front_of xs front [] x e = whole (sym (append-nil front) ∙ sym e)
front_of xs front (y ∷ rest) x e = front_by xs front rest x y (cut_at xs front rest x y e)

pub last_same : {A : Type 0} (xs ys : List A) (x y : A) → xs ++ x ∷ [] ≡ ys ++ y ∷ [] → x ≡ y
last_same xs ys x y e = last_by (cut_at xs ys [] x y e)
  where
    last_by : Cut xs ys [] x y → x ≡ y
    last_by (before behind h) =
        absurd (omega (
          arith,
          ap length e,
          ap length h,
          length-append xs (x ∷ []),
          length-append ys (y ∷ []),
          length-append ys (y ∷ behind),
        ))
    last_by (last h f n) = f

-- Of a list with at most one more element a shorter front is a front without it.
pub front_within : {A : Type 0} (xs more front rest : List A) → length more ≤ 1 → 0 < length rest
    → xs ++ more ≡ front ++ rest → (behind : List A) × (xs ≡ front ++ behind)
front_within xs [] front rest few some e = (rest, sym (append-nil xs) ∙ e)
front_within xs (x ∷ []) front rest few some e = within (front_of xs front rest x e)
  where
    within : Front xs front x → (behind : _) × (xs ≡ front ++ behind)
    within (shorter behind h) = (behind, h)
    within (whole h) =
        absurd (omega (arith, ap length e, ap length h, length-append xs (x ∷ []), length-append front rest, some))
front_within xs (x ∷ y ∷ more) front rest few some e = absurd (omega (arith, few))

-- at most one element is cut off
pub cut_one : (n : ℕ) (xs : List ℕ) → n ≤ 1 → xs ≡ take n (take 1 xs) ++ drop n xs
cut_one zero xs h = refl
cut_one (suc zero) [] h = refl
cut_one (suc zero) (x ∷ xs) h = refl
cut_one (suc (suc n)) xs h = absurd (omega (arith, h))

-- ---- by the test whether there are none

pub some_of : (xs : List ℕ) (b : Bool) → b ≡ (length xs == 0) → b ≡ false → 0 < length xs
some_of [] b e h = cc
some_of (x ∷ xs) b e h = omega arith

zero_of : (n : ℕ) (b : Bool) → b ≡ (n == 0) → b ≡ true → n ≡ 0
zero_of n b e h = grind (arith, nat_tests)

pub empty_of : (xs : List ℕ) (b : Bool) → b ≡ (length xs == 0) → b ≡ true → xs ≡ []
empty_of [] b e h = refl
empty_of (x ∷ xs) b e h = absurd (omega (arith, zero_of (length (x ∷ xs)) b e h))
