-- Numbers on the wire: big-endian, as RFC 1006 and ISO 8073 send them.
use Rattle.std.specs.Prelude.{ℕ, ◌+◌, ◌*◌, ◌/◌, ◌%◌, ◌<◌, List, [], ◌∷◌, slice_index}

-- the number in two octets, the high one first
abbrev pub number_of_two : ℕ → ℕ → ℕ
number_of_two high low = 256 * high + low

-- the number in three octets
abbrev pub number_of_three : ℕ → ℕ → ℕ → ℕ
number_of_three high middle low = 256 * (256 * high + middle) + low

-- a number below 65,536 in two octets
abbrev pub two_octets : ℕ → List ℕ
two_octets n = n / 256 ∷ n % 256 ∷ []

-- a number below 16,777,216 in three octets
abbrev pub three_octets : ℕ → List ℕ
three_octets n = n / 65536 ∷ n / 256 % 256 ∷ n % 256 ∷ []

-- each element is an octet
abbrev pub AreOctets : List ℕ → Type 0
AreOctets octets = (k : ℕ) → slice_index octets k < 256
