-- The octets of a head are read as that head.
use Rattle.std.proofs.Common.{◌≡◌, ℕ, ◌+◌, ◌*◌, ◌/◌, ◌%◌, sym, ap, ◌∙◌, arith}
use Rattle.std.proofs.Math.Nat.{div-div-eq-div-mul}
use Rattle.s7_block.specs.Laws.{HeadsAreRead}

two_read : (n : ℕ) → 256 * (n / 256) + n % 256 ≡ n
two_read n = omega arith

four_read : (n : ℕ) → 256 * (256 * (256 * (n / 16777216) + n / 65536 % 256) + n / 256 % 256) + n % 256 ≡ n
four_read n =
    let high : n / 65536 / 256 ≡ n / 16777216 = div-div-eq-div-mul n 65536 256 in
    let low : n / 256 / 256 ≡ n / 65536 = div-div-eq-div-mul n 256 256 in
    let first : 256 * (n / 16777216) + n / 65536 % 256 ≡ n / 65536 = ap (λ x. 256 * x + n / 65536 % 256) (sym high) ∙ two_read (n / 65536) in
    let second : 256 * (n / 65536) + n / 256 % 256 ≡ n / 256 = ap (λ x. 256 * x + n / 256 % 256) (sym low) ∙ two_read (n / 256) in
    ap (λ x. 256 * (256 * x + n / 256 % 256) + n % 256) first ∙ ap (λ x. 256 * x + n % 256) second ∙ two_read n

pub read : HeadsAreRead
read h more = λ i. record {
  version = h.version;
  flags = h.flags;
  language = h.language;
  code = h.code;
  number = two_read h.number i;
  load_length = four_read h.load_length i;
  security = four_read h.security i;
  code_time = record { milliseconds = four_read h.code_time.milliseconds i; days = two_read h.code_time.days i };
  interface_time = record { milliseconds = four_read h.interface_time.milliseconds i; days = two_read h.interface_time.days i };
  interface_length = two_read h.interface_length i;
  additional_length = two_read h.additional_length i;
  local_length = two_read h.local_length i;
  body_length = two_read h.body_length i;
}
