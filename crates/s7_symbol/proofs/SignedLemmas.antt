-- Whole numbers: their texts, and two's complement.
use Rattle.std.proofs.Common.{◌≡◌, ◌∙◌, ◌<◌, ◌≤◌, ◌+◌, ◌-◌, ◌*◌, ◌/◌, ◌%◌, ◌^◌, ℕ, Bool, true, false, refl, ap, sym, subst, arith, [], ◌∷◌, Option, Some, None, inl, inr}
use Rattle.std.specs.Prelude.{◌==◌, nat_lt, option_map}
use Rattle.std.specs.Fmt.{decimal}
use Rattle.std.proofs.lemmas.Bool.{leb-true, le-ltb, lt-ltb, ltb-true, ne_eqb, cases_lt}
use Rattle.std.proofs.lemmas.Bool.Decides.{eqb_tells}
use Rattle.s7_outer.specs.Numbers.{two_octets}
use Rattle.s7_text.specs.Lines.{Text}
use Rattle.s7_symbol.specs.Meanings.{signed}
use Rattle.s7_symbol.specs.Numbers.{below_zero, complement, fits_half, negative, plain_number, positive, signed_by, signed_number}
use Rattle.s7_symbol.specs.Octets.{four_octets, number_of_four, signed_of_four, signed_of_two}
use Rattle.s7_symbol.specs.Texts.{signed_text}
use Rattle.s7_symbol.specs.declared.numbers.Signed.{Signed}
use Rattle.s7_symbol.proofs.PlainLemmas.{plain_decimal, plain_first, plain_is, plain_some}

-- ---- texts

plain_signed : (text : Text) (n : ℕ) → plain_number text ≡ Some n → signed_number text ≡ Some (positive n)
plain_signed [] n said = absurd (plain_some n said)
plain_signed (b ∷ bs) n said = rw (plain_first b bs n said) (ap (option_map positive) said)

text_by : (b : Bool) (n : ℕ) → n < 2 ^ 64 → (b ≡ true → 0 < n)
    → signed_number (signed_text (record { is_negative = b; size = n })) ≡ Some (record { is_negative = b; size = n })
text_by true n small some =
    let other : (n == 0) ≡ false = ne_eqb n 0 (λ zero. absurd (let more = some refl in omega arith)) in
    ap below_zero (plain_decimal n small) ∙ rw other refl
text_by false n small some = plain_signed (decimal n) n (plain_decimal n small)

-- the text of a whole number says it
pub signed_text_read : (z : Signed) → z.size < 2 ^ 64 → (z.is_negative ≡ true → 0 < z.size) → signed_number (signed_text z) ≡ Some z
signed_text_read z small some = text_by z.is_negative z.size small some

record IsBelowZero (o : Option ℕ) (z : Signed) : Type 0 where
  number : ℕ
  said : o ≡ Some number
  some : 0 < number
  is : z ≡ negative number

below_zero_is : (o : Option ℕ) (z : Signed) → below_zero o ≡ Some z → IsBelowZero o z
below_zero_is None z said = absurd (cc)
below_zero_is (Some n) z said = elim (eqb_tells n 0) [
  | inl zero ↦ absurd (cc (rw zero.0 at said))
  | inr some ↦
      let same : negative n ≡ z = cc (rw some.0 at said) in
      record { number = n; said = refl; some = positive_by n some.1; is = sym same }
]
  where
    positive_by : (n : ℕ) → (n ≡ 0 → ⊥) → 0 < n
    positive_by n other = omega arith

record IsFromZero (o : Option ℕ) (z : Signed) : Type 0 where
  number : ℕ
  said : o ≡ Some number
  is : z ≡ positive number

from_zero_is : (o : Option ℕ) (z : Signed) → option_map positive o ≡ Some z → IsFromZero o z
from_zero_is None z said = absurd (cc)
from_zero_is (Some n) z said = let same : positive n ≡ z = cc in record { number = n; said = refl; is = sym same }

-- what says a whole number says one below zero with a size
pub negative_some : (text : Text) (z : Signed) → signed_number text ≡ Some z → z.is_negative ≡ true → 0 < z.size
negative_some [] z said minus = absurd (cc)
negative_some (b ∷ bs) z said minus = elim (eqb_tells b 45) [
  | inl sign ↦
      let below = below_zero_is (plain_number bs) z (rw sign.0 at said) in
      subst (λ (y : Signed). 0 < y.size) (sym below.is) below.some
  | inr other ↦
      let from = from_zero_is (plain_number (b ∷ bs)) z (rw other.0 at said) in
      absurd (cc (sym (ap (λ (y : Signed). y.is_negative) from.is) ∙ minus))
]

-- and is its text
pub signed_is : (text : Text) (z : Signed) → signed_number text ≡ Some z → z.size < 2 ^ 64 → text ≡ signed_text z
signed_is [] z said small = absurd (cc)
signed_is (b ∷ bs) z said small = elim (eqb_tells b 45) [
  | inl sign ↦
      let below = below_zero_is (plain_number bs) z (rw sign.0 at said) in
      let fits : below.number < 2 ^ 64 = subst (λ (y : Signed). y.size < 2 ^ 64) below.is small in
      let digits = plain_is bs below.number below.said fits in
      (λ i. sign.1 i ∷ digits i) ∙ sym (ap signed_text below.is)
  | inr other ↦
      let from = from_zero_is (plain_number (b ∷ bs)) z (rw other.0 at said) in
      let fits : from.number < 2 ^ 64 = subst (λ (y : Signed). y.size < 2 ^ 64) from.is small in
      plain_is (b ∷ bs) from.number from.said fits ∙ sym (ap signed_text from.is)
]

-- ---- two's complement

record IsComplement (half : ℕ) (z : Signed) : Type 0 where
  below : complement half z ≤ 2 * half
  back : signed_by half (complement half z) ≡ z

complement_by : (half : ℕ) (b : Bool) (n : ℕ) → fits_half half (record { is_negative = b; size = n }) ≡ true
    → IsComplement half (record { is_negative = b; size = n })
complement_by half true n fits =
    let most = leb-true n half fits in
    let high : nat_lt (2 * half - n) half ≡ false = le-ltb (2 * half - n) half (omega arith) in
    let back : 2 * half - (2 * half - n) ≡ n = omega arith in
    record { below = omega arith; back = rw high (ap negative back) }
complement_by half false n fits =
    let low = ltb-true n half fits in
    record { below = omega arith; back = rw fits refl }

complement_is : (half : ℕ) (z : Signed) → fits_half half z ≡ true → IsComplement half z
complement_is half z fits = complement_by half z.is_negative z.size fits

two_whole : (n : ℕ) → n / 256 * 256 + n % 256 ≡ n
two_whole n = omega arith

four_whole : (n : ℕ) → n ≤ 4294967296 → number_of_four (n / 16777216) (n / 65536 % 256) (n / 256 % 256) (n % 256) ≡ n
four_whole n most = omega arith

-- the octets of a whole number say it
pub two_read : (z : Signed) → fits_half 32768 z ≡ true → signed_of_two (two_octets (complement 32768 z)) ≡ Some (signed z)
two_read z fits =
    let is = complement_is 32768 z fits in
    ap (λ (n : ℕ). Some (signed (signed_by 32768 n))) (two_whole (complement 32768 z)) ∙ ap (λ (y : Signed). Some (signed y)) is.back

pub four_read : (z : Signed) → fits_half 2147483648 z ≡ true → signed_of_four (four_octets (complement 2147483648 z)) ≡ Some (signed z)
four_read z fits =
    let is = complement_is 2147483648 z fits in
    ap (λ (n : ℕ). Some (signed (signed_by 2147483648 n))) (four_whole (complement 2147483648 z) is.below) ∙ ap (λ (y : Signed). Some (signed y)) is.back

-- what octets say has them as its complement
complement_back : (half n : ℕ) → n < 2 * half → complement half (signed_by half n) ≡ n
complement_back half n below = elim (cases_lt n half) [
  | inl low ↦ rw (lt-ltb n half low) refl
  | inr high ↦ let back : 2 * half - (2 * half - n) ≡ n = omega arith in rw (le-ltb n half high) back
]

-- and a size where it is below zero
pub signed_some : (half n : ℕ) → n < 2 * half → (signed_by half n).is_negative ≡ true → 0 < (signed_by half n).size
signed_some half n below = elim (cases_lt n half) [
  | inl low ↦ rw (lt-ltb n half low) (λ minus. absurd (cc))
  | inr high ↦ rw (le-ltb n half high) (λ minus. less)
]
  where
    less : 0 < 2 * half - n
    less = omega arith

two_same : (a b n : ℕ) → b < 256 → n ≡ a * 256 + b → a ∷ b ∷ [] ≡ two_octets n
two_same a b n low is =
    let first : a ≡ n / 256 = omega arith in
    let second : b ≡ n % 256 = omega arith in
    (λ i. first i ∷ second i ∷ [])

four_same : (a b c d n : ℕ) → b < 256 → c < 256 → d < 256 → n ≡ number_of_four a b c d → a ∷ b ∷ c ∷ d ∷ [] ≡ four_octets n
four_same a b c d n f g h is =
    let first : a ≡ n / 16777216 = omega arith in
    let second : b ≡ n / 65536 % 256 = omega arith in
    let third : c ≡ n / 256 % 256 = omega arith in
    let last : d ≡ n % 256 = omega arith in
    (λ i. first i ∷ second i ∷ third i ∷ last i ∷ [])

pub two_is : (a b : ℕ) (z : Signed) → a < 256 → b < 256 → signed_by 32768 (a * 256 + b) ≡ z → a ∷ b ∷ [] ≡ two_octets (complement 32768 z)
two_is a b z f g is =
    let back = complement_back 32768 (a * 256 + b) (omega arith) in
    two_same a b (complement 32768 z) g (sym (ap (complement 32768) is) ∙ back)

pub four_is : (a b c d : ℕ) (z : Signed) → a < 256 → b < 256 → c < 256 → d < 256 → signed_by 2147483648 (number_of_four a b c d) ≡ z
    → a ∷ b ∷ c ∷ d ∷ [] ≡ four_octets (complement 2147483648 z)
four_is a b c d z e f g h is =
    let back = complement_back 2147483648 (number_of_four a b c d) (omega arith) in
    four_same a b c d (complement 2147483648 z) f g h (sym (ap (complement 2147483648) is) ∙ back)
