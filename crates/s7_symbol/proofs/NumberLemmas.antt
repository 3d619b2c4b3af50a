-- Numbers as tags write them.
use Rattle.std.proofs.Common.{◌≡◌, ◌<◌, ◌≤◌, ◌+◌, ◌*◌, ◌^◌, ℕ, true, suc, refl, ap, arith, [], ◌∷◌, length, min, Some}
use Rattle.std.specs.Prelude.{◌==◌, ◌&&◌, ◌||◌, not, nat_lt, option_map}
use Rattle.std.specs.List.{list_all}
use Rattle.std.specs.Char.{digit_value, is_ascii_digit}
use Rattle.std.specs.Str.Parse.{digits_value, digits_value_after}
use Rattle.std.proofs.Math.Nat.{mul-le-mul_left, pow-le-pow_right}
use Rattle.std.proofs.lemmas.Bool.{and_parts}
use Rattle.std.proofs.lemmas.Bool.Decides.{nat_tests}
use Rattle.s7_text.specs.Lines.{Text}
use Rattle.s7_symbol.specs.Numbers.{beyond, counted_to, is_plain, plain_number}

-- what digits write that follow others is at least those moved up
after_least : (n : ℕ) (cs : Text) → n * 10 ^ length cs ≤ digits_value_after 10 n cs
after_least n [] = omega arith
after_least n (c ∷ cs) =
    let more = after_least (n * 10 + digit_value c) cs in
    let moved : n * (10 * 10 ^ length cs) ≤ (n * 10 + digit_value c) * 10 ^ length cs = omega arith in
    let next : 10 ^ suc (length cs) ≡ 10 * 10 ^ length cs = omega arith in
    omega (arith, more, moved, ap (λ p. n * p) next)

-- a number of more than ten digits is beyond
long_least : (text : Text) → is_plain text ≡ true → 10 < length text → beyond ≤ digits_value 10 text
long_least [] plain long = absurd (omega arith)
long_least (c ∷ cs) plain long =
    let parts = and_parts (nat_lt 0 (length (c ∷ cs)) && list_all is_ascii_digit (c ∷ cs)) _ plain in
    let digits = (and_parts (nat_lt 0 (length (c ∷ cs))) _ parts.0).1 in
    let first = (and_parts (is_ascii_digit c) _ digits).0 in
    let some : 1 ≤ digit_value c = digit_some c cs first parts.1 long in
    let more = after_least (0 * 10 + digit_value c) cs in
    let whole : digits_value 10 (c ∷ cs) ≡ digits_value_after 10 (0 * 10 + digit_value c) cs = refl in
    let room = pow-le-pow_right {n = 10} (omega arith) {i = 10} {j = length cs} (omega (arith, long)) in
    let scaled = mul-le-mul_left (10 ^ length cs) some in
    omega (arith, more, whole, room, scaled)
  where
    digit_some : (c : ℕ) (cs : Text) → is_ascii_digit c ≡ true → (not (c == 48) || length (c ∷ cs) == 1) ≡ true → 10 < length (c ∷ cs) → 1 ≤ digit_value c
    digit_some c cs first or long = grind (arith, nat_tests)

pub long_number : (text : Text) → is_plain text ≡ true → 10 < length text → Some beyond ≡ option_map counted_to (plain_number text)
long_number text plain long =
    let least = long_least text plain long in
    let is : beyond ≡ min beyond (digits_value 10 text) = omega arith in
    rw plain (ap Some is)

pub short_number : (text : Text) (n : ℕ) → is_plain text ≡ true → length text ≤ 10 → n ≡ digits_value 10 text → n < 10 ^ length text
    → Some n ≡ option_map counted_to (plain_number text)
short_number text n plain short value below =
    let room = pow-le-pow_right {n = 10} (omega arith) {i = length text} {j = 10} short in
    let is : n ≡ min beyond (digits_value 10 text) = omega (arith, room) in
    rw plain (ap Some is)
