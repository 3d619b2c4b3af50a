-- Laws of what opens a link.
use Rattle.std.proofs.Common.{ℕ, ◌≤◌, List, [], ◌∷◌, length, arith, length-append}
use Rattle.s7_cotp.specs.Told.{ConnectionTold}
use Rattle.s7_cotp.specs.Spelling.{tsap_octets, spelling_of_confirm}

tsap_short : (code : ℕ) (octets : List ℕ) → length octets ≤ 16 → length (tsap_octets code octets) ≤ 18
tsap_short code [] h = omega arith
tsap_short code (x ∷ xs) h = omega (arith, h)

-- a confirm is short
pub confirm_short : (c : ConnectionTold) → length c.calling ≤ 16 → length c.called ≤ 16
    → length (spelling_of_confirm c) ≤ 46
confirm_short c calling called =
    omega (
      arith,
      length-append (tsap_octets 0xC1 c.calling) (tsap_octets 0xC2 c.called),
      tsap_short 0xC1 c.calling calling,
      tsap_short 0xC2 c.called called,
    )
