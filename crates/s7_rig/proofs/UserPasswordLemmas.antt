-- A password that was masked is read again, and has eight octets.
use Rattle.std.proofs.Common.{◌≡◌, ℕ, suc, ◌-◌, ◌≤◌, List, [], ◌∷◌, length, replicate, refl, ap, sym, ◌∙◌, arith, length-append}
use Rattle.std.specs.Prelude.{bit_xor}
use Rattle.std.specs.Int.Bits.{xor_assoc, xor_self, xor_zero_r}
use Rattle.std.proofs.lemmas.List.{length-replicate}
use Rattle.std.proofs.lemmas.Nat.{xor_comm}
use Rattle.std.proofs.Math.Path.{ap₂}
use Rattle.s7_dialogue.specs.UserData.{filled_text, encoded_after, encoded}
use Rattle.s7_session.specs.Passwords.{decoded_after, decoded}

-- what is masked twice is as it was
masked_twice : (octet mask : ℕ) → bit_xor (bit_xor octet mask) mask ≡ octet
masked_twice octet mask = xor_assoc octet mask mask ∙ (ap (bit_xor octet) (xor_self mask) ∙ xor_zero_r octet)

unmasked : (octet second : ℕ) → bit_xor (bit_xor (bit_xor (bit_xor octet 0x55) second) 0x55) second ≡ octet
unmasked octet second =
    let masked = bit_xor octet 0x55 in
    ap (λ n. bit_xor n second) (swapped masked second 0x55)
    ∙ (masked_twice (bit_xor masked 0x55) second ∙ masked_twice octet 0x55)
  where
    swapped : (n a b : ℕ) → bit_xor (bit_xor n a) b ≡ bit_xor (bit_xor n b) a
    swapped n a b = xor_assoc n a b ∙ (ap (bit_xor n) (xor_comm a b) ∙ sym (xor_assoc n b a))

read_after : (second first : ℕ) (text : List ℕ) → decoded_after second first (encoded_after second first text) ≡ text
read_after second first [] = refl
read_after second first (octet ∷ text) =
    ap₂ (λ x xs. x ∷ xs) (unmasked octet second)
    (read_after first (bit_xor (bit_xor octet 0x55) second) text)

-- with no octet before it
unmasked_first : (octet : ℕ) → bit_xor (bit_xor (bit_xor octet 0x55) 0) 0x55 ≡ octet
unmasked_first octet = ap (λ n. bit_xor n 0x55) (xor_zero_r (bit_xor octet 0x55)) ∙ masked_twice octet 0x55

pub password_read : (text : List ℕ) → decoded (encoded text) ≡ text
unfolding decoded encoded
password_read [] = refl
password_read (a ∷ []) = ap (λ x. x ∷ []) (unmasked_first a)
password_read (a ∷ b ∷ text) =
    let x = bit_xor (bit_xor a 0x55) 0 in
    let y = bit_xor (bit_xor b 0x55) 0 in
    ap₂ (λ u us. u ∷ us) (unmasked_first a) (ap₂ (λ v vs. v ∷ vs) (unmasked_first b) (read_after x y text))

length-masked : (second first : ℕ) (text : List ℕ) → length (encoded_after second first text) ≡ length text
length-masked second first [] = refl
length-masked second first (octet ∷ text) =
    ap suc (length-masked first (bit_xor (bit_xor octet 0x55) second) text)

pub length-password : (text : List ℕ) → length text ≤ 8 → length (encoded (filled_text text)) ≡ 8
unfolding encoded
length-password text most =
    let left = 8 - length text in
    length-masked 0 0 (filled_text text)
    ∙ omega (arith, length-append text (replicate left 0x20), length-replicate {A = ℕ} left 0x20)
