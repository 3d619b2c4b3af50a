-- An image cut into slices (Snap7 1.4 reference manual, `Cli_FullUpload` and `Cli_Download`).
use Rattle.std.specs.Prelude.{◌≡◌, ℕ, ◌+◌, ◌-◌, Bool, true, nat_lt, if◌then◌else◌, Option, None, Some, List, [], ◌∷◌, length, take, drop, flat_map, ⊤}

-- octets that are sent together, and whether further pieces follow
pub record Piece : Type 0 where
  pub more : Bool
  pub octets : List ℕ

-- the number of octets of an image that fit one telegram: header, parameters and the head of the data take 18
-- octets of the PDU (Snap7 1.4 sources, s7_types.h: TS7ResHeader23, TResDownloadDataHeader)
abbrev pub image_room : ℕ → ℕ
image_room pdu = pdu - 18

-- the first octets, at most `room` of them; more follow if octets are left
abbrev pub first_piece : ℕ → List ℕ → Piece
first_piece room octets = record { more = nat_lt room (length octets); octets = take room octets }

-- the octets after them; `None` if they were the last
abbrev pub left_behind : ℕ → List ℕ → Option (List ℕ)
left_behind room octets = if nat_lt room (length octets) then Some (drop room octets) else None

-- the sum of all rooms
abbrev pub total_of : List ℕ → ℕ
total_of [] = 0
total_of (room ∷ rooms) = room + total_of rooms

-- octets cut in order into pieces of these rooms, until no octet is left
abbrev pub pieces_of : List ℕ → List ℕ → List Piece
pieces_of [] octets = []
pieces_of (room ∷ rooms) octets =
    first_piece room octets ∷ (if nat_lt room (length octets) then pieces_of rooms (drop room octets) else [])

-- the octets of pieces, one after another
abbrev pub joined : List Piece → List ℕ
joined ps = flat_map (λ p. p.octets) ps

-- further pieces follow each but the last; they follow the last if the flag is true
abbrev pub AreMarked : Bool → List Piece → Type 0
AreMarked more [] = ⊤
AreMarked more (p ∷ []) = p.more ≡ more
AreMarked more (p ∷ q ∷ ps) = (p.more ≡ true) × AreMarked more (q ∷ ps)
