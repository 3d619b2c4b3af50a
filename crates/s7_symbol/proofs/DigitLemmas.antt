-- Numbers in BCD digits, and S5TIME.
use Rattle.std.proofs.Common.{◌≡◌, ◌∙◌, ◌≤◌, ◌+◌, ◌*◌, ◌/◌, ◌%◌, ℕ, Bool, refl, ap, sym, arith, List, [], ◌∷◌, ◌++◌, take, drop, get_or, Option, Some, None, inl, inr}
use Rattle.std.specs.Prelude.{◌==◌, option_map}
use Rattle.std.specs.List.{position}
use Rattle.std.specs.Fmt.{decimal}
use Rattle.std.proofs.lemmas.Bool.{eqb-true, le-leb}
use Rattle.std.proofs.lemmas.Bool.Decides.{leb_tells}
use Rattle.std.proofs.lemmas.List.{drop_more, take-append-drop}
use Rattle.std.proofs.lemmas.List.Quantifiers.{position-Some}
use Rattle.s7_clock.specs.Clock.{bcd, digit, number_in}
use Rattle.s7_text.specs.Lines.{Text}
use Rattle.s7_text.specs.Fields.{parts_around, parts_at}
use Rattle.s7_text.proofs.MomentLemmas.{number_in-bcd}
use Rattle.s7_symbol.specs.Meanings.{Meaning, duration, number}
use Rattle.s7_symbol.specs.Numbers.{plain_number}
use Rattle.s7_symbol.specs.Octets.{duration_by, duration_in, four_digits_of, hundreds_of, two_bcd}
use Rattle.s7_symbol.specs.Texts.{counted, duration_of}
use Rattle.s7_symbol.proofs.MarkLemmas.{around, digits_lack, no_point}
use Rattle.s7_symbol.proofs.PlainLemmas.{plain_decimal, plain_is}

-- ---- digits

digit_low : (d : ℕ) → d ≤ 9 → digit d ≡ Some d
digit_low d low = rw (le-leb d 9 low) refl

record IsOneDigit (d n : ℕ) : Type 0 where
  same : d ≡ n
  low : d ≤ 9

digit_is : (d n : ℕ) → digit d ≡ Some n → IsOneDigit d n
digit_is d n said = elim (leb_tells d 9) [
  | inl low ↦ let same : d ≡ n = cc (rw low.0 at said) in record { same = same; low = low.1 }
  | inr high ↦ absurd (cc (rw high.0 at said))
]

record IsTwoDigits (b n : ℕ) : Type 0 where
  is : b ≡ bcd n
  small : n ≤ 99

number_is : (b n : ℕ) → number_in b ≡ Some n → IsTwoDigits b n
number_is b n said = elim (leb_tells (b / 16) 9) [
  | inl high ↦ elim (leb_tells (b % 16) 9) [
    | inl low ↦
        let same : b / 16 * 10 + b % 16 ≡ n = cc (rw (high.0, low.0) at said) in
        record { is = by b n same high.1 low.1; small = omega (arith, same, high.1, low.1) }
    | inr past ↦ absurd (cc (rw (high.0, past.0) at said))
  ]
  | inr past ↦ absurd (cc (rw past.0 at said))
]
  where
    by : (b n : ℕ) → b / 16 * 10 + b % 16 ≡ n → b / 16 ≤ 9 → b % 16 ≤ 9 → b ≡ bcd n
    by b n same high low = omega arith

pub digit_small : (d n : ℕ) → digit d ≡ Some n → n ≤ 9
digit_small d n said = let is = digit_is d n said in omega (arith, is.same, is.low)

pub number_small : (b n : ℕ) → number_in b ≡ Some n → n ≤ 99
number_small b n said = (number_is b n said).small

-- ---- four digits

pub bcd_read : (n : ℕ) → n ≤ 9999 → four_digits_of (two_bcd n) ≡ Some (number n)
bcd_read n most =
    let whole : n / 100 * 100 + n % 100 ≡ n = omega arith in
    rw (number_in-bcd (n / 100) (omega arith), number_in-bcd (n % 100) (omega arith)) (ap (λ (k : ℕ). Some (number k)) whole)

record AreHundreds (o : Option ℕ) (low n : ℕ) : Type 0 where
  hundreds : ℕ
  rest : ℕ
  said : o ≡ Some hundreds
  read : number_in low ≡ Some rest
  is : hundreds * 100 + rest ≡ n

hundreds_are : (o : Option ℕ) (low n : ℕ) → hundreds_of o low ≡ Some n → AreHundreds o low n
hundreds_are None low n said = absurd (cc)
hundreds_are (Some h) low n said = go (number_in low) refl
  where
    go : (o : Option ℕ) → number_in low ≡ o → AreHundreds (Some h) low n
    go None read = absurd (cc (rw read at said))
    go (Some rest) read =
        let same : h * 100 + rest ≡ n = cc (rw read at said) in
        record { hundreds = h; rest = rest; said = refl; read = read; is = same }

some_number : (o : Option ℕ) (m : Meaning) → option_map number o ≡ Some m → (n : ℕ) × (o ≡ Some n) × (m ≡ number n)
some_number None m said = absurd (cc)
some_number (Some n) m said = let same : number n ≡ m = cc in (n, refl, sym same)

number_back : (n k : ℕ) → number n ≡ number k → n ≡ k
number_back n k same = cc same

pub bcd_is : (octets : List ℕ) (n : ℕ) → four_digits_of octets ≡ Some (number n) → octets ≡ two_bcd n
bcd_is [] n said = absurd (cc)
bcd_is (a ∷ []) n said = absurd (cc)
bcd_is (a ∷ b ∷ []) n said =
    let whole = some_number (hundreds_of (number_in a) b) (number n) said in
    let parts = hundreds_are (number_in a) b n (whole.1 ∙ ap Some (sym (number_back n whole.0 whole.2))) in
    let high = number_is a parts.hundreds parts.said in
    let low = number_is b parts.rest parts.read in
    let first : parts.hundreds ≡ n / 100 = by parts.hundreds parts.rest n low.small parts.is in
    let second : parts.rest ≡ n % 100 = rest_by parts.hundreds parts.rest n low.small parts.is in
    (λ i. (high.is ∙ ap bcd first) i ∷ (low.is ∙ ap bcd second) i ∷ [])
  where
    by : (h r n : ℕ) → r ≤ 99 → h * 100 + r ≡ n → h ≡ n / 100
    by h r n small is = omega arith

    rest_by : (h r n : ℕ) → r ≤ 99 → h * 100 + r ≡ n → r ≡ n % 100
    rest_by h r n small is = omega arith
bcd_is (a ∷ b ∷ c ∷ cs) n said = absurd (cc)

-- ---- S5TIME in octets

pub duration_read : (count unit : ℕ) → count ≤ 999 → duration_in ((unit * 16 + count / 100) ∷ bcd (count % 100) ∷ []) ≡ Some (duration count unit)
duration_read count unit most =
    let high : (unit * 16 + count / 100) / 16 ≡ unit = omega arith in
    let low : (unit * 16 + count / 100) % 16 ≡ count / 100 = omega arith in
    let whole : count / 100 * 100 + count % 100 ≡ count = omega arith in
    rw (high, low, digit_low (count / 100) (omega arith), number_in-bcd (count % 100) (omega arith))
    (ap (λ (k : ℕ). Some (duration k unit)) whole)

duration_back : (a b c d : ℕ) → duration a b ≡ duration c d → (a ≡ c) × (b ≡ d)
duration_back a b c d same = (cc same, cc same)

some_duration : (unit : ℕ) (o : Option ℕ) (m : Meaning) → option_map (duration_by unit) o ≡ Some m → (n : ℕ) × (o ≡ Some n) × (m ≡ duration n unit)
some_duration unit None m said = absurd (cc)
some_duration unit (Some n) m said = let same : duration n unit ≡ m = cc in (n, refl, sym same)

pub duration_is : (octets : List ℕ) (count unit : ℕ) → duration_in octets ≡ Some (duration count unit)
    → octets ≡ (unit * 16 + count / 100) ∷ bcd (count % 100) ∷ []
duration_is [] count unit said = absurd (cc)
duration_is (a ∷ []) count unit said = absurd (cc)
duration_is (a ∷ b ∷ []) count unit said =
    let whole = some_duration (a / 16) (hundreds_of (digit (a % 16)) b) (duration count unit) said in
    let same = duration_back count unit whole.0 (a / 16) whole.2 in
    let parts = hundreds_are (digit (a % 16)) b count (whole.1 ∙ ap Some (sym same.0)) in
    let high = digit_is (a % 16) parts.hundreds parts.said in
    let low = number_is b parts.rest parts.read in
    let first = by a unit parts.hundreds parts.rest count same.1 high.same low.small parts.is in
    let second : parts.rest ≡ count % 100 = rest_by parts.hundreds parts.rest count low.small parts.is in
    (λ i. first i ∷ (low.is ∙ ap bcd second) i ∷ [])
  where
    by : (a unit h r n : ℕ) → unit ≡ a / 16 → a % 16 ≡ h → r ≤ 99 → h * 100 + r ≡ n → a ≡ unit * 16 + n / 100
    by a unit h r n base high small is = omega arith

    rest_by : (h r n : ℕ) → r ≤ 99 → h * 100 + r ≡ n → r ≡ n % 100
    rest_by h r n small is = omega arith
duration_is (a ∷ b ∷ c ∷ cs) count unit said = absurd (cc)

-- ---- S5TIME in texts

abbrev is_point : ℕ → Bool
is_point b = b == 46

pub duration_text_read : (count unit : ℕ) → count ≤ 999 → unit ≤ 3 → duration_of (parts_around 46 (decimal count ++ 46 ∷ decimal unit)) ≡ Some (duration count unit)
duration_text_read count unit most few =
    let found = around 46 (decimal count) (decimal unit) (digits_lack 46 no_point count (omega arith)) in
    let first = plain_decimal count (omega arith) in
    let second = plain_decimal unit (omega arith) in
    ap duration_of found ∙ (λ i. counted (first i) (second i))

record AreParts (text : Text) (o : Option (Text × Text)) (count unit : ℕ) : Type 0 where
  before : Text
  behind : Text
  found : o ≡ Some (before, behind)
  first : plain_number before ≡ Some count
  second : plain_number behind ≡ Some unit

parts_are : (text : Text) (o : Option (Text × Text)) (count unit : ℕ) → duration_of o ≡ Some (duration count unit) → AreParts text o count unit
parts_are text None count unit said = absurd (cc)
parts_are text (Some p) count unit said = go (plain_number p.0) refl (plain_number p.1) refl
  where
    go : (a : Option ℕ) → plain_number p.0 ≡ a → (b : Option ℕ) → plain_number p.1 ≡ b → AreParts text (Some p) count unit
    go None e b f = absurd (cc (sym said ∙ ap (λ o. counted o (plain_number p.1)) e))
    go (Some n) e None f = absurd (cc (sym said ∙ (λ i. counted (e i) (f i))))
    go (Some n) e (Some u) f =
        let said_so : duration n u ≡ duration count unit = some_back (sym (λ i. counted (e i) (f i)) ∙ said) in
        let same = duration_back n u count unit said_so in
        record { before = p.0; behind = p.1; found = refl; first = e ∙ ap Some same.0; second = f ∙ ap Some same.1 }
      where
        some_back : {x y : Meaning} → ◌≡◌ {A = Option Meaning} (Some x) (Some y) → x ≡ y
        some_back same = cc same

-- what stands around the first point, with it
around_whole : (text : Text) (before behind : Text) → parts_around 46 text ≡ Some (before, behind) → text ≡ before ++ 46 ∷ behind
around_whole text before behind found = go (position is_point text) refl
  where
    go : (o : Option ℕ) → position is_point text ≡ o → text ≡ before ++ 46 ∷ behind
    go None place = absurd (cc (sym (ap (parts_at text) place) ∙ found))
    go (Some i) place =
        let at = position-Some is_point text i 0 place in
        let point = eqb-true (get_or text i 0) 46 at.1 in
        let pair : ◌≡◌ {A = Option (Text × Text)} (Some (take i text, drop (i + 1) text)) (Some (before, behind)) =
        sym (ap (parts_at text) place) ∙ found in
        let front : take i text ≡ before = ap (λ (q : Option (Text × Text)). first_of_pair q) pair in
        let back : drop (i + 1) text ≡ behind = ap (λ (q : Option (Text × Text)). second_of_pair q) pair in
        sym (take-append-drop i text) ∙ ap (λ l. take i text ++ l) (drop_more text i 0 at.0)
        ∙ (λ j. front j ++ point j ∷ back j)
      where
        first_of_pair : Option (Text × Text) → Text
        first_of_pair None = []
        first_of_pair (Some q) = q.0

        second_of_pair : Option (Text × Text) → Text
        second_of_pair None = []
        second_of_pair (Some q) = q.1

pub duration_text_is : (text : Text) (count unit : ℕ) → count ≤ 999 → unit ≤ 3 → duration_of (parts_around 46 text) ≡ Some (duration count unit)
    → text ≡ decimal count ++ 46 ∷ decimal unit
duration_text_is text count unit most few said =
    let parts = parts_are text (parts_around 46 text) count unit said in
    let first = plain_is parts.before count parts.first (omega arith) in
    let second = plain_is parts.behind unit parts.second (omega arith) in
    around_whole text parts.before parts.behind parts.found ∙ (λ i. first i ++ 46 ∷ second i)
