-- Texts that lack an octet, and what stands around the first octet of a kind.
use Rattle.std.proofs.Common.{◌≡◌, ◌∙◌, ◌<◌, ◌+◌, ◌^◌, ℕ, suc, Bool, true, false, refl, ap, arith, [], ◌∷◌, ◌++◌, length, drop, Some, None, eq-eqb}
use Rattle.std.specs.Prelude.{◌==◌, not, nat_lt}
use Rattle.std.specs.List.{list_all, position, position_or_len}
use Rattle.std.specs.Char.{is_ascii_digit}
use Rattle.std.specs.Fmt.{decimal}
use Rattle.std.proofs.Math.Seq.{drop-append-add, take-append_seam}
use Rattle.std.proofs.lemmas.Bool.{and_parts, le-ltb, lt-ltb}
use Rattle.std.proofs.lemmas.Bool.Decides.{nat_tests}
use Rattle.std.proofs.lemmas.List.{length-append}
use Rattle.s7_text.specs.Lines.{Text}
use Rattle.s7_text.specs.Fields.{parts_around, parts_at}
use Rattle.s7_symbol.specs.Tags.{is_name_letter}
use Rattle.s7_symbol.proofs.PlainLemmas.{plain_digits}

-- ---- texts without an octet

abbrev pub lacks : ℕ → Text → Bool
lacks mark text = list_all (λ b. not (b == mark)) text

pub all_also : (p q : ℕ → Bool) → ((b : ℕ) → p b ≡ true → q b ≡ true) → (text : Text) → list_all p text ≡ true → list_all q text ≡ true
all_also p q also [] all = refl
all_also p q also (b ∷ bs) all =
    let both = and_parts (p b) _ all in
    rw (also b both.0, all_also p q also bs both.1) refl

pub digits_lack : (mark : ℕ) → ((b : ℕ) → is_ascii_digit b ≡ true → not (b == mark) ≡ true) → (n : ℕ) → n < 2 ^ 64 → lacks mark (decimal n) ≡ true
digits_lack mark other n small = all_also is_ascii_digit (λ b. not (b == mark)) other (decimal n) (plain_digits n small)

pub no_space : (b : ℕ) → is_ascii_digit b ≡ true → not (b == 32) ≡ true
no_space b is = grind (arith, nat_tests)

pub no_point : (b : ℕ) → is_ascii_digit b ≡ true → not (b == 46) ≡ true
no_point b is = grind (arith, nat_tests)

pub no_bracket : (b : ℕ) → is_ascii_digit b ≡ true → not (b == 93) ≡ true
no_bracket b is = grind (arith, nat_tests)

pub no_space_letter : (b : ℕ) → is_name_letter b ≡ true → not (b == 32) ≡ true
no_space_letter b is = grind (arith, nat_tests)

mark_place : (mark : ℕ) (xs rest : Text) → lacks mark xs ≡ true → position_or_len (λ b. b == mark) (xs ++ mark ∷ rest) ≡ length xs
mark_place mark [] rest all = rw (eq-eqb mark mark refl) refl
mark_place mark (x ∷ xs) rest all =
    let both = and_parts (not (x == mark)) _ all in
    let next : 1 + length xs ≡ suc (length xs) = omega arith in
    rw both.0 (ap (λ (n : ℕ). 1 + n) (mark_place mark xs rest both.1) ∙ next)

mark_none : (mark : ℕ) (xs : Text) → lacks mark xs ≡ true → position_or_len (λ b. b == mark) xs ≡ length xs
mark_none mark [] all = refl
mark_none mark (x ∷ xs) all =
    let both = and_parts (not (x == mark)) _ all in
    let next : 1 + length xs ≡ suc (length xs) = omega arith in
    rw both.0 (ap (λ (n : ℕ). 1 + n) (mark_none mark xs both.1) ∙ next)

pub found_at : (mark : ℕ) (xs rest : Text) → lacks mark xs ≡ true → position (λ b. b == mark) (xs ++ mark ∷ rest) ≡ Some (length xs)
found_at mark xs rest all =
    let place = mark_place mark xs rest all in
    let long = length-append xs (mark ∷ rest) in
    let within : nat_lt (length xs) (length (xs ++ mark ∷ rest)) ≡ true = lt-ltb (length xs) (length (xs ++ mark ∷ rest)) (omega (arith, long)) in
    rw (place, within) refl

pub found_none : (mark : ℕ) (xs : Text) → lacks mark xs ≡ true → position (λ b. b == mark) xs ≡ None
found_none mark xs all =
    let place = mark_none mark xs all in
    let past : nat_lt (length xs) (length xs) ≡ false = le-ltb (length xs) (length xs) (omega arith) in
    rw (place, past) refl

pub behind_mark : (mark : ℕ) (xs rest : Text) → drop (length xs + 1) (xs ++ mark ∷ rest) ≡ rest
behind_mark mark xs rest = drop-append-add xs (mark ∷ rest) 1

pub around : (mark : ℕ) (xs rest : Text) → lacks mark xs ≡ true → parts_around mark (xs ++ mark ∷ rest) ≡ Some (xs, rest)
around mark xs rest all =
    ap (parts_at (xs ++ mark ∷ rest)) (found_at mark xs rest all)
    ∙ (λ i. Some (take-append_seam xs (mark ∷ rest) i, behind_mark mark xs rest i))
