-- Numbers in decimal digits, and names.
use Rattle.std.proofs.Common.{◌≡◌, ◌∙◌, ℕ, zero, suc, ◌+◌, ◌/◌, ◌%◌, ◌<◌, ◌≤◌, ◌^◌, true, nat_lt, Some, refl, ap, arith}
use Rattle.std.specs.Char.{digit_value, is_ascii_digit}
use Rattle.std.specs.List.{list_all}
use Rattle.std.specs.Str.Parse.{digits_value}
use Rattle.std.proofs.Math.Dec.{lit≤}
use Rattle.std.proofs.Math.Nat.{pow-le-pow_right}
use Rattle.std.proofs.lemmas.Bool.{and_parts, eq-eqb, ltb-true}
use Rattle.std.proofs.lemmas.Bool.Decides.{nat_tests}
use Rattle.std.proofs.lemmas.Int.Digits.{digits_value_push}
use Rattle.std.proofs.lemmas.List.Folds.{list_all-append}
use Rattle.s7_block.specs.declared.block.BlockName.{BlockName}
use Rattle.s7_block.specs.Names.{NamesAreRead, digits, is_name, name_octets, named, named_by, number_in}

-- a number of fewer than nine digits
pub below_nine_digits : (number count : ℕ) → number < 10 ^ count → count < 9 → number < 100000000
below_nine_digits number count small few =
    let room : count ≤ 8 = omega arith in
    let most : 10 ^ count ≤ 10 ^ 8 = pow-le-pow_right (lit≤ tt) room in omega arith

-- ---- digits

digit_is : (digit : ℕ) → digit < 10 → is_ascii_digit (0x30 + digit) ≡ true
digit_is digit low = grind (arith, nat_tests)

digit_read : (digit : ℕ) → digit < 10 → digit_value (0x30 + digit) ≡ digit
digit_read digit low = grind (arith, nat_tests)

all_digits : (count number : ℕ) → list_all is_ascii_digit (digits count number) ≡ true
all_digits zero number = refl
all_digits (suc count) number =
    list_all-append is_ascii_digit (digits count (number / 10)) _
    ∙ rw (all_digits count (number / 10), digit_is (number % 10) (omega arith)) refl

value_is : (count number : ℕ) → number < 10 ^ count → digits_value 10 (digits count number) ≡ number
value_is zero number none = omega arith
value_is (suc count) number small =
    let more : number / 10 < 10 ^ count = omega arith in
    digits_value_push 10 (digits count (number / 10)) (0x30 + number % 10)
    ∙ rw (value_is count (number / 10) more, digit_read (number % 10) (omega arith)) (omega arith)

number_read : (count number : ℕ) → number < 10 ^ count → number_in (digits count number) ≡ Some number
number_read count number small = rw all_digits (ap Some (value_is count number small))

-- ---- names

name_read : (name : BlockName) (place : ℕ) → is_name name.kind name.number ≡ true
    → named (name_octets name place) place ≡ Some name
name_read name place is =
    let number : name.number < 65536 = ltb-true name.number 65536 (and_parts _ (nat_lt name.number 65536) is).1 in
    let small : name.number < 10 ^ 5 = omega arith in
    rw (eq-eqb place place refl) (ap (named_by name.kind) (number_read 5 name.number small) ∙ rw is refl)

pub names_read : NamesAreRead
names_read = record { numbers = number_read; names = name_read }
