-- Decimal numbers without a zero in front: the text of a number says it, and no other text does.
use Rattle.std.proofs.Common.{◌≡◌, ◌∙◌, ◌<◌, ◌^◌, ℕ, Bool, true, false, refl, ap, sym, subst, arith, rules, [], ◌∷◌, length, get_or, Some, inl, inr}
use Rattle.std.specs.Prelude.{◌==◌, ◌&&◌, ◌||◌, not, nat_lt}
use Rattle.std.specs.List.{list_all}
use Rattle.std.specs.Char.{is_ascii_digit}
use Rattle.std.specs.Fmt.{decimal}
use Rattle.std.specs.Str.Parse.{digits_value}
use Rattle.std.proofs.lemmas.Bool.{and_parts, cases_eq, lt-ltb, ltb-true}
use Rattle.std.proofs.lemmas.Bool.Decides.{nat_tests}
use Rattle.std.proofs.lemmas.Fmt.{decimal-digits_value, decimal_digit, decimal_nonempty, digits_decimal, digits_value-decimal, first_decimal}
use Rattle.std.proofs.lemmas.Str.Parse.{IsDigitsTest, IsNumeralModel, numerals_by_value}
use Rattle.s7_text.specs.Lines.{Text}
use Rattle.s7_symbol.specs.Numbers.{is_plain, plain_number}

abbrev AreDigits : Text → Type 0
AreDigits text = list_all is_ascii_digit text ≡ true

tells_digits : IsDigitsTest AreDigits
tells_digits = search rules

own : IsNumeralModel AreDigits (digits_value 10)
own = numerals_by_value AreDigits tells_digits

-- ---- what the test says

pub record IsPlain (text : Text) : Type 0 where
  pub some : 0 < length text
  pub digits : list_all is_ascii_digit text ≡ true
  pub first : get_or text 0 0 ≡ 48 → length text ≡ 1

pub plain_parts : (text : Text) → is_plain text ≡ true → IsPlain text
plain_parts text is =
    let both = and_parts (nat_lt 0 (length text) && list_all is_ascii_digit text) _ is in
    let front = and_parts (nat_lt 0 (length text)) (list_all is_ascii_digit text) both.0 in
    record { some = ltb-true 0 (length text) front.0; digits = front.1; first = λ zero. first_by (get_or text 0 0) (length text) both.1 zero }
  where
    first_by : (b n : ℕ) → (not (b == 48) || n == 1) ≡ true → b ≡ 48 → n ≡ 1
    first_by b n h zero = grind (arith, nat_tests)

plain_from : (text : Text) → IsPlain text → is_plain text ≡ true
plain_from text is =
    let some : nat_lt 0 (length text) ≡ true = lt-ltb 0 (length text) is.some in
    rw (some, is.digits) (first_by (get_or text 0 0) (length text) is.first)
  where
    first_by : (b n : ℕ) → (b ≡ 48 → n ≡ 1) → (not (b == 48) || n == 1) ≡ true
    first_by b n h = elim (cases_eq b 48) [
      | inl zero ↦ let one = h zero in grind (arith, nat_tests)
      | inr other ↦ grind (arith, nat_tests)
    ]

-- ---- the text of a number

decimal_plain : (n : ℕ) → n < 2 ^ 64 → IsPlain (decimal n)
decimal_plain n small = record {
  some = decimal_nonempty n small;
  digits = digits_decimal own n small;
  first = λ zero. first_by zero;
}
  where
    first_by : get_or (decimal n) 0 0 ≡ 48 → length (decimal n) ≡ 1
    first_by zero = elim (cases_eq n 0) [
      | inl none ↦ ap (λ (k : ℕ). length (decimal k)) none ∙ ap length (decimal_digit 0 (omega arith))
      | inr some ↦ absurd (let high = first_decimal n (omega arith) small in omega (arith, high, zero))
    ]

pub plain_digits : (n : ℕ) → n < 2 ^ 64 → list_all is_ascii_digit (decimal n) ≡ true
plain_digits n small = digits_decimal own n small

pub digits_read : (n : ℕ) → n < 2 ^ 64 → digits_value 10 (decimal n) ≡ n
digits_read n small = digits_value-decimal own n small

-- says the number
pub plain_decimal : (n : ℕ) → n < 2 ^ 64 → plain_number (decimal n) ≡ Some n
plain_decimal n small =
    let is = plain_from (decimal n) (decimal_plain n small) in
    rw is (ap Some (digits_value-decimal own n small))

-- and what says a number is its text
pub plain_is : (text : Text) (n : ℕ) → plain_number text ≡ Some n → n < 2 ^ 64 → text ≡ decimal n
plain_is text n said small = go (is_plain text) refl
  where
    go : (b : Bool) → is_plain text ≡ b → text ≡ decimal n
    go true is =
        let value : digits_value 10 text ≡ n = cc (rw is at said) in
        let parts = plain_parts text is in
        let fits : digits_value 10 text < 2 ^ 64 = subst (λ (k : ℕ). k < 2 ^ 64) (sym value) small in
        sym (decimal-digits_value own text parts.digits parts.some parts.first fits) ∙ ap decimal value
    go false is = absurd (cc (rw is at said))

-- a text that says a number begins with a digit
pub plain_first : (b : ℕ) (bs : Text) (n : ℕ) → plain_number (b ∷ bs) ≡ Some n → (b == 45) ≡ false
plain_first b bs n said = go (is_plain (b ∷ bs)) refl
  where
    digit_first : is_ascii_digit b ≡ true → (b == 45) ≡ false
    digit_first is = grind (arith, nat_tests)

    go : (t : Bool) → is_plain (b ∷ bs) ≡ t → (b == 45) ≡ false
    go true is = digit_first (and_parts (is_ascii_digit b) _ (plain_parts (b ∷ bs) is).digits).0
    go false is = absurd (cc (rw is at said))

-- no number is said by no digits
pub plain_some : (n : ℕ) → plain_number [] ≡ Some n → ⊥
plain_some n said = cc said
