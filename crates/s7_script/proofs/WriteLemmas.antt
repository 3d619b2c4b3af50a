-- The lines of the octets that are left.
use Rattle.std.proofs.Common.{◌≡◌, ◌∙◌, ◌<◌, ◌≤◌, ◌+◌, ◌-◌, ℕ, Bool, true, false, cond, zero, suc, refl, sym, ap, arith, List, [], ◌∷◌, ◌++◌, length, take, drop, min, replicate, Some, None, inl, inr, append_assoc, append-nil, length-drop}
use Rattle.std.specs.Prelude.{◌==◌, slice_get}
use Rattle.std.specs.List.{prefix_len}
use Rattle.std.specs.Fmt.{decimal}
use Rattle.std.proofs.lemmas.Bool.{le-leb, leb-true, lt-leb}
use Rattle.std.proofs.lemmas.Bool.Decides.{eqb_tells, leb_tells}
use Rattle.std.proofs.lemmas.List.{drop_more, drop_all, take_rest}
use Rattle.std.proofs.lemmas.List.Sums.{prefix_len-le-length}
use Rattle.hex.specs.Hex.{encode_lower}
use Rattle.s7_script.specs.Spelling.{before_run, begins_run, front_of, line_length, line_text, octet_lines}

-- ---- equal octets

repeats_step : (b x : ℕ) (xs : List ℕ) (n : ℕ) → take n xs ≡ replicate n b → take (cond (x == b) (1 + n) 0) (x ∷ xs) ≡ replicate (cond (x == b) (1 + n) 0) b
repeats_step b x xs n rest = elim (eqb_tells x b) [
  | inl same ↦
      let next : 1 + n ≡ suc n = omega arith in
      rw (same.0, next) (ap (λ t. x ∷ t) rest ∙ ap (λ y. y ∷ replicate n b) same.1)
  | inr other ↦ rw other.0 refl
]

repeats : (b : ℕ) (xs : List ℕ) → take (prefix_len (λ x. x == b) xs) xs ≡ replicate (prefix_len (λ x. x == b) xs) b
repeats b [] = refl
repeats b (x ∷ xs) = repeats_step b x xs (prefix_len (λ y. y == b) xs) (repeats b xs)

-- the front is all of one octet
pub front-repeats : (b : ℕ) (bs : List ℕ) → take (front_of (b ∷ bs)) (b ∷ bs) ≡ replicate (front_of (b ∷ bs)) b
unfolding front_of
front-repeats b bs = repeats b (b ∷ bs)

pub front-within : (xs : List ℕ) → front_of xs ≤ length xs
unfolding front_of
front-within [] = omega arith
front-within (b ∷ bs) = prefix_len-le-length (λ x. x == b) (b ∷ bs)

-- ---- up to the next run

before_within_step : (t : Bool) (n len : ℕ) → n ≤ len → cond t 0 (1 + n) ≤ suc len
before_within_step true n len h = omega arith
before_within_step false n len h = omega arith

before-within : (xs : List ℕ) → before_run xs ≤ length xs
unfolding before_run
before-within [] = omega arith
before-within (b ∷ bs) = before_within_step (begins_run (b ∷ bs)) (before_run bs) (length bs) (before-within bs)

pub some-before : (b : ℕ) (bs : List ℕ) → begins_run (b ∷ bs) ≡ false → 0 < before_run (b ∷ bs)
unfolding before_run
some-before b bs none = rw none (omega arith)

before_at : (ys : List ℕ) (y : ℕ) (zs : List ℕ) → ys ≡ y ∷ zs → begins_run ys ≡ false → before_run ys ≡ 1 + before_run zs
unfolding before_run
before_at ys y zs is none =
    let here : begins_run (y ∷ zs) ≡ false = sym (ap (λ l. begins_run l) is) ∙ none in
    ap before_run is ∙ rw here refl

-- no run begins at this place
pub before-step : (xs : List ℕ) (i : ℕ) → i < length xs → begins_run (drop i xs) ≡ false → before_run (drop i xs) ≡ 1 + before_run (drop (i + 1) xs)
before-step xs i within none = before_at (drop i xs) _ (drop (i + 1) xs) (drop_more xs i 0 within) none

-- a run begins
pub before-none : (xs : List ℕ) → begins_run xs ≡ true → before_run xs ≡ 0
unfolding before_run
before-none [] begins = refl
before-none (b ∷ bs) begins = rw begins refl

pub before-end : (xs : List ℕ) (i : ℕ) → length xs ≤ i → before_run (drop i xs) ≡ 0
unfolding before_run
before-end xs i all = ap before_run (drop_all i xs all)

-- a place of a loop over the places up to the next run
pub run-here : (xs : List ℕ) (i n : ℕ) → i < 32 → n ≡ front_of (take (length xs - i) (drop i xs)) → 33 ≤ n → before_run xs ≡ i + before_run (drop i xs) → i ≡ min 32 (before_run xs)
run-here xs i n low is many before =
    let here : n ≡ front_of (drop i xs) = is ∙ ap front_of (take_rest xs i) in
    let none = before-none (drop i xs) (le-leb 33 (front_of (drop i xs)) (omega arith)) in
    omega (arith, before, none)

pub no-run-here : (xs : List ℕ) (i n : ℕ) → i < length xs → n ≡ front_of (take (length xs - i) (drop i xs)) → n < 33 → before_run xs ≡ i + before_run (drop i xs)
    → before_run xs ≡ (i + 1) + before_run (drop (i + 1) xs)
no-run-here xs i n within is few before =
    let here : n ≡ front_of (drop i xs) = is ∙ ap front_of (take_rest xs i) in
    let step = before-step xs i within (lt-leb 33 (front_of (drop i xs)) (omega arith)) in
    omega (arith, before, step)

pub places-end : (xs : List ℕ) (most : ℕ) → most ≡ min (length xs) 32 → before_run xs ≡ most + before_run (drop most xs) → most ≡ min 32 (before_run xs)
places-end xs most is before = elim (leb_tells (length xs) 32) [
  | inl short ↦ let none = before-end xs most (omega arith) in omega (arith, before, none)
  | inr long ↦ omega arith
]

pub few-before : (xs : List ℕ) → min 32 (before_run xs) ≤ length xs
few-before xs = omega (arith, before-within xs)

-- ---- one line

pub first-front : (xs : List ℕ) (x n : ℕ) → Some x ≡ slice_get xs 0 → n ≡ prefix_len (λ b. b == x) xs → n ≡ front_of xs
unfolding front_of
first-front [] x n first is = cc
first-front (y ∷ ys) x n first is =
    let same : x ≡ y = cc in
    is ∙ ap (λ z. prefix_len (λ b. b == z) (y ∷ ys)) same

pub no-front : (xs : List ℕ) → None ≡ slice_get xs 0 → 0 ≡ front_of xs
unfolding front_of
no-front [] first = refl
no-front (y ∷ ys) first = cc

some_step : (t : Bool) (front before : ℕ) → (t ≡ true → 0 < front) → 0 < cond t front (min 32 (cond t 0 (1 + before)))
some_step true front before h = h refl
some_step false front before h = omega arith

pub some-line : (b : ℕ) (bs : List ℕ) → 0 < line_length (b ∷ bs)
unfolding line_length before_run
some-line b bs =
    some_step (begins_run (b ∷ bs)) (front_of (b ∷ bs)) (before_run bs)
    (λ begins. let many = leb-true 33 (front_of (b ∷ bs)) begins in omega arith)

within_step : (t : Bool) (front before len : ℕ) → front ≤ len → before ≤ len → cond t front (min 32 before) ≤ len
within_step true front before len a b = a
within_step false front before len a b = omega arith

pub line-within : (xs : List ℕ) → line_length xs ≤ length xs
unfolding line_length
line-within xs = within_step (begins_run xs) (front_of xs) (before_run xs) (length xs) (front-within xs) (before-within xs)

pub length-run : (xs : List ℕ) (n : ℕ) → n ≡ front_of xs → 33 ≤ n → n ≡ line_length xs
unfolding line_length
length-run xs n is many = let begins : begins_run xs ≡ true = le-leb 33 (front_of xs) (omega arith) in rw begins is

pub length-digits : (xs : List ℕ) (n : ℕ) → n ≡ min 32 (before_run xs) → front_of xs < 33 → n ≡ line_length xs
unfolding line_length
length-digits xs n is few = let none : begins_run xs ≡ false = lt-leb 33 (front_of xs) few in rw none is

pub some-count : (xs : List ℕ) (n : ℕ) → 0 < length xs → n ≡ min 32 (before_run xs) → front_of xs < 33 → 0 < n
some-count [] n some is few = absurd (omega arith)
some-count (b ∷ bs) n some is few =
    let before = some-before b bs (lt-leb 33 (front_of (b ∷ bs)) few) in
    omega (arith, is, before)

pub run-text : (xs : List ℕ) (n : ℕ) → n ≡ front_of xs → 33 ≤ n → decimal n ++ 42 ∷ encode_lower (take 1 xs) ≡ line_text xs
unfolding line_text
run-text xs n is many =
    let begins : begins_run xs ≡ true = le-leb 33 (front_of xs) (omega arith) in
    rw begins (ap (λ k. decimal k ++ 42 ∷ encode_lower (take 1 xs)) is)

pub digits-text : (xs : List ℕ) (n : ℕ) → n ≡ min 32 (before_run xs) → front_of xs < 33 → encode_lower (take n xs) ≡ line_text xs
unfolding line_text
digits-text xs n is few =
    let none : begins_run xs ≡ false = lt-leb 33 (front_of xs) few in
    rw none (ap (λ k. encode_lower (take k xs)) is)

-- ---- all lines

-- more lines than are needed change nothing
octet_lines-enough : (k n : ℕ) (xs : List ℕ) → length xs ≤ k → length xs ≤ n → octet_lines k xs ≡ octet_lines n xs
unfolding octet_lines
octet_lines-enough zero zero xs fits fits' = refl
octet_lines-enough zero (suc n) [] fits fits' = refl
octet_lines-enough zero (suc n) (b ∷ bs) fits fits' = absurd (omega arith)
octet_lines-enough (suc k) zero [] fits fits' = refl
octet_lines-enough (suc k) zero (b ∷ bs) fits fits' = absurd (omega arith)
octet_lines-enough (suc k) (suc n) [] fits fits' = refl
octet_lines-enough (suc k) (suc n) (b ∷ bs) fits fits' =
    let some = some-line b bs in
    let left = length-drop (line_length (b ∷ bs)) (b ∷ bs) in
    ap (λ t. line_text (b ∷ bs) ++ 10 ∷ t)
    (octet_lines-enough k n (drop (line_length (b ∷ bs)) (b ∷ bs)) (omega (arith, some, left)) (omega (arith, some, left)))

pub octet_lines-step : (xs : List ℕ) → 0 < length xs
    → octet_lines (length xs) xs ≡ line_text xs ++ 10 ∷ octet_lines (length (drop (line_length xs) xs)) (drop (line_length xs) xs)
unfolding octet_lines
octet_lines-step [] some = absurd (omega arith)
octet_lines-step (b ∷ bs) some =
    let more = some-line b bs in
    let left = length-drop (line_length (b ∷ bs)) (b ∷ bs) in
    ap (λ t. line_text (b ∷ bs) ++ 10 ∷ t)
    (octet_lines-enough (length bs) (length (drop (line_length (b ∷ bs)) (b ∷ bs))) (drop (line_length (b ∷ bs)) (b ∷ bs)) (omega (arith, more, left)) (omega arith))

pub octet_lines-none : (xs : List ℕ) → length xs ≡ 0 → octet_lines (length xs) xs ≡ []
unfolding octet_lines
octet_lines-none [] e = refl
octet_lines-none (x ∷ xs) e = absurd (omega arith)

-- one line more is written
pub lines-go_on : (text old rest all : List ℕ) (n : ℕ) → 0 < length rest → n ≡ line_length rest → text ≡ old ++ (line_text rest ++ 10 ∷ []) → old ++ octet_lines (length rest) rest ≡ all
    → text ++ octet_lines (length (take (length rest - n) (drop n rest))) (take (length rest - n) (drop n rest)) ≡ all
lines-go_on text old rest all n some count is before =
    let after : take (length rest - n) (drop n rest) ≡ drop (line_length rest) rest = take_rest rest n ∙ ap (λ k. drop k rest) count in
    let left : List ℕ = octet_lines (length (drop (line_length rest) rest)) (drop (line_length rest) rest) in
    let joined : (old ++ (line_text rest ++ 10 ∷ [])) ++ left ≡ old ++ (line_text rest ++ 10 ∷ left) =
    append_assoc old (line_text rest ++ 10 ∷ []) left ∙ ap (λ t. old ++ t) (append_assoc (line_text rest) (10 ∷ []) left) in
    ap (λ t. t ++ octet_lines (length (take (length rest - n) (drop n rest))) (take (length rest - n) (drop n rest))) is
    ∙ ap (λ r. (old ++ (line_text rest ++ 10 ∷ [])) ++ octet_lines (length r) r) after
    ∙ joined ∙ ap (λ t. old ++ t) (sym (octet_lines-step rest some)) ∙ before

pub lines-end : (text all rest : List ℕ) → length rest ≡ 0 → text ++ octet_lines (length rest) rest ≡ all → text ≡ all
lines-end text all rest none before = sym (append-nil text) ∙ ap (λ t. text ++ t) (sym (octet_lines-none rest none)) ∙ before
