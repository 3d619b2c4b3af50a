-- Values that are read from octets and written as text.
use Rattle.std.proofs.Common.{◌≡◌, ◌∙◌, ◌<◌, ◌≤◌, ◌+◌, ◌*◌, ◌/◌, ◌%◌, ℕ, true, refl, ap, sym, subst, arith, List, [], ◌∷◌, ◌++◌, length, get_or, Some, Result, Ok, Err}
use Rattle.std.specs.Prelude.{codes, nat_le}
use Rattle.std.specs.Fmt.{decimal}
use Rattle.hex.specs.Hex.{encode_lower}
use Rattle.std.proofs.lemmas.Fmt.{decimal_digit}
use Rattle.std.proofs.lemmas.Bool.{le-leb}
use Rattle.s7_clock.specs.Clock.{digit, number_in}
use Rattle.s7_symbol.specs.Shown.{text_or_bad}
use Rattle.s7_symbol.specs.Values.{PutsSaid, Stands, text_said}
use Rattle.s7_symbol.specs.declared.fault.ValueFault.{ValueFault}
use Rattle.s7_symbol.specs.declared.kind.TagKind.TheVariants as kind
use Rattle.s7_symbol.proofs.DigitLemmas.{digit_small, number_small}

-- ---- octets of a known number

pub two_of : (o : List ℕ) → 2 ≤ length o → length o < 3 → o ≡ get_or o 0 0 ∷ get_or o 1 0 ∷ []
two_of [] a b = absurd (omega arith)
two_of (x ∷ []) a b = absurd (omega arith)
two_of (x ∷ y ∷ []) a b = refl
two_of (x ∷ y ∷ z ∷ zs) a b = absurd (omega arith)

-- ---- times

said_duration : (a b h l : ℕ) → digit (a % 16) ≡ Some h → number_in b ≡ Some l → a / 16 ≤ 3
    → text_said kind.S5Time (a ∷ b ∷ []) ≡ Ok (decimal (h * 100 + l) ++ 46 ∷ decimal (a / 16))
said_duration a b h l high low unit =
    let some : nat_le (h * 100 + l) 999 ≡ true = le-leb (h * 100 + l) 999 (omega (arith, digit_small (a % 16) h high, number_small b l low)) in
    let few : nat_le (a / 16) 3 ≡ true = le-leb (a / 16) 3 unit in
    rw (high, low, some, few) refl

pub duration_put : (octets : List ℕ) (h l : ℕ) (old new : List ℕ) (n : ℕ) (digits : List ℕ) → 2 ≤ length octets → length octets < 3
    → digit (get_or octets 0 0 % 16) ≡ Some h → number_in (get_or octets 1 0) ≡ Some l → get_or octets 0 0 / 16 ≤ 3
    → digits ≡ decimal (h * 100 + l)
    → Stands (digits ++ 46 ∷ (48 + get_or octets 0 0 / 16) ∷ []) old new n
    → PutsSaid (text_said kind.S5Time octets) old new (Ok n)
duration_put octets h l old new n digits least most high low unit is stands =
    let a : ℕ = get_or octets 0 0 in
    let b : ℕ = get_or octets 1 0 in
    let said = ap (text_said kind.S5Time) (two_of octets least most) ∙ said_duration a b h l high low unit in
    let text : digits ++ 46 ∷ (48 + a / 16) ∷ [] ≡ decimal (h * 100 + l) ++ 46 ∷ decimal (a / 16) =
    (λ i. is i ++ 46 ∷ sym (decimal_digit (a / 16) (omega arith)) i) in
    subst (λ (r : Result (List ℕ) ValueFault). PutsSaid r old new (Ok n)) (sym said)
    (subst (λ t. Stands t old new n) text stands)

-- ---- no value

pub bad_said : (octets : List ℕ) (r : Result (List ℕ) ValueFault) (old new : List ℕ) (e : ValueFault) → PutsSaid r old new (Err e)
    → text_or_bad octets r ≡ codes "bad " ++ encode_lower octets
bad_said octets (Ok said) old new e h = absurd h
bad_said octets (Err f) old new e h = refl
