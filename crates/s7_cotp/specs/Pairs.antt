-- How a message is cut into fragments (ISO 8073, 6.3 and 13.7): where each begins and ends.
use Rattle.std.specs.Prelude.{◌≡◌, ℕ, zero, suc, ◌+◌, ◌-◌, ◌/◌, ◌<◌, ◌≤◌, ◌==◌, min, max, List, [], ◌∷◌, length, map}
use Rattle.std.specs.List.{between}
use Rattle.s7_cotp.specs.Messages.{Fragment}
use Rattle.s7_cotp.specs.Spelling.{spelling_of_data}

-- The pairs cut the octets from `from` to `to`. Each begins where the one before ends, each but the last has `room`
-- octets, and the last has at most that. The last has at least one octet if there are others before it.
abbrev pub IsCut : ℕ → ℕ → ℕ → List (ℕ × ℕ) → Type 0
IsCut room from to [] = ⊥
IsCut room from to (p ∷ []) = (p ≡ (from, to)) × (from ≤ to) × (to ≤ from + room)
IsCut room from to (p ∷ q ∷ ps) = (p ≡ (from, from + room)) × (from + room < to) × IsCut room (from + room) to (q ∷ ps)

-- The pair is a range within `len` octets, and has at most `room` octets.
pub record IsPart (room len : ℕ) (p : ℕ × ℕ) : Type 0 where
  pub order : p.0 ≤ p.1
  pub fits : p.1 ≤ p.0 + room
  pub within : p.1 ≤ len

-- a number of pairs from an offset on, none of which exceeds the end
abbrev pub pairs_from : ℕ → ℕ → ℕ → ℕ → List (ℕ × ℕ)
pairs_from zero room from to = []
pairs_from (suc n) room from to = (from, min (from + room) to) ∷ pairs_from n room (min (from + room) to) to

-- the number of fragments of a message; an empty message has one
abbrev pub fragments_of : ℕ → ℕ → ℕ
fragments_of len room = (max len 1 - 1) / room + 1

-- The fragments of a message of `len` octets. A TPDU has at most `tpdu` octets, of which three are its header.
unfoldable pub pairs_of : ℕ → ℕ → List (ℕ × ℕ)
pairs_of len tpdu = pairs_from (fragments_of len (tpdu - 3)) (tpdu - 3) 0 len

-- the fragment with the message's octets in this range; the last one has the end bit
abbrev pub part_of : List ℕ → ℕ × ℕ → Fragment
part_of message p = record { last = p.1 == length message; user = between p.0 p.1 message }

-- the DT of this fragment
abbrev pub data_of : List ℕ → ℕ × ℕ → List ℕ
data_of message p = spelling_of_data (p.1 == length message) (between p.0 p.1 message)

-- the fragments of a message
abbrev pub parts_of : ℕ → List ℕ → List Fragment
parts_of tpdu message = map (part_of message) (pairs_of (length message) tpdu)
