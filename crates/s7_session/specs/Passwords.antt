-- How passwords are masked (Snap7 1.4 sources, s7_micro_client.cpp: TSnap7MicroClient::opSetPassword), and how the
-- right that they give changes.
use Rattle.std.specs.Prelude.{ℕ, Bool, ◌==◌, ◌&&◌, nat_eq, bit_xor, List, []}
use Rattle.std.specs.Prelude.{◌∷◌, length, Option, None, Some, if◌then◌else◌}
use Rattle.std.specs.List.{starts_with}
use Rattle.std.specs.Str.{bytes_eq}
use Rattle.s7_area.specs.declared.guard.Guard.{Guard}
use Rattle.s7_session.specs.Errors.{NO_GUARD, NO_RIGHT, WRONG_PASSWORD}

-- the text of octets, given the octets two and one before them: each is masked with 55 and with the octet two before it
abbrev pub decoded_after : ℕ → ℕ → List ℕ → List ℕ
decoded_after second first [] = []
decoded_after second first (octet ∷ octets) =
    bit_xor (bit_xor octet 0x55) second ∷ decoded_after first octet octets

-- THE TEXT of a masked password; the first two octets have no octet two before them
unfoldable pub decoded : List ℕ → List ℕ
decoded [] = []
decoded (a ∷ []) = bit_xor a 0x55 ∷ []
decoded (a ∷ b ∷ octets) = bit_xor a 0x55 ∷ bit_xor b 0x55 ∷ decoded_after a b octets

-- the data that sets a password: `FF 09 00 08` and eight octets (Snap7 1.4 sources, s7_types.h: TReqDataSecurity)
abbrev pub is_password : List ℕ → Bool
is_password octets = (length octets == 12) && starts_with nat_eq octets (0xFF ∷ 0x09 ∷ 0x00 ∷ 0x08 ∷ [])

-- the data part of a telegram that carries no data (Snap7 1.4 sources, s7_micro_client.cpp:
-- TSnap7MicroClient::opListBlocks)
abbrev pub no_data : List ℕ
no_data = 0x0A ∷ 0x00 ∷ 0x00 ∷ 0x00 ∷ []

-- the error word of the answer to a password that is set (Snap7 1.4 sources, s7_types.h: Code7NoPasswordToSet,
-- Code7InvalidPassword)
abbrev pub set_error : Option Guard → List ℕ → ℕ
set_error None text = NO_GUARD
set_error (Some guard) text = if bytes_eq text guard.password then 0 else WRONG_PASSWORD

-- the error word of the answer to a right that is cleared (Snap7 1.4 sources, s7_types.h: Code7NoPasswordToSet,
-- Code7NoPasswordToClear)
abbrev pub clear_error : Option Guard → Bool → ℕ
clear_error None right = NO_GUARD
clear_error (Some guard) right = if right then 0 else NO_RIGHT
