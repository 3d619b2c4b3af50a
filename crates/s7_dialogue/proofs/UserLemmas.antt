-- Lemmas on what is sent in user data.
use Rattle.std.proofs.Common.{◌≡◌, ℕ, List, ◌∷◌}
use Rattle.std.specs.Prelude.{bit_xor}
use Rattle.std.specs.Int.Bits.{xor_zero_r}
use Rattle.s7_dialogue.specs.UserData.{encoded_after, encoded}

-- the first two octets of a password are masked with 55 alone
pub encoded-first_two : (a b : ℕ) (text : List ℕ)
    → encoded (a ∷ b ∷ text) ≡ bit_xor a 0x55 ∷ bit_xor b 0x55 ∷ encoded_after (bit_xor a 0x55) (bit_xor b 0x55) text
unfolding encoded
encoded-first_two a b text = simp xor_zero_r
