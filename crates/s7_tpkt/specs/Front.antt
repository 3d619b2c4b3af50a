-- How many octets of a packet (RFC 1006, section 6) a cutter takes at a time: no more than up to the next point
-- where they may show a state other than `More`.
use Rattle.std.specs.Prelude.{◌≡◌, ℕ, ◌+◌, ◌-◌, ◌*◌, List, [], ◌∷◌, length}
use Rattle.s7_tpkt.specs.declared.state.FedState.{FedState}
use Rattle.s7_tpkt.specs.declared.state.FedState.TheVariants.{Whole, More, BadVersion, BadLength, TooLong}

-- The header is taken one octet at a time, and the body up to its end.
abbrev pub wanted : List ℕ → ℕ
wanted [] = 1
wanted (v ∷ []) = 1
wanted (v ∷ r ∷ []) = 1
wanted (v ∷ r ∷ hi ∷ []) = 1
wanted (v ∷ r ∷ hi ∷ lo ∷ body) = 256 * hi + lo - (length body + 4)

-- A bad version shows at the first octet. A bad length shows at the fourth octet, where the length field ends.
abbrev pub IsShownAt : FedState → ℕ → Type 0
IsShownAt Whole n = Unit {0}
IsShownAt More n = Unit {0}
IsShownAt BadVersion n = n ≡ 1
IsShownAt BadLength n = n ≡ 4
IsShownAt TooLong n = n ≡ 4
