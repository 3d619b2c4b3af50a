-- Images joined from the slices in which they are sent (Snap7 1.4 sources, s7_types.h: TReqFunReadSZLFirst,
-- TReqFunReadSZLNext). The last-data-unit octet of user data says whether more slices follow. Which slices are
-- refused is this profile's own.
use Rattle.std.specs.Prelude.{ℕ, ◌+◌, ◌==◌, ◌&&◌, ◌||◌, not, nat_lt, Bool, true, false, if◌then◌else◌}
use Rattle.std.specs.Prelude.{List, [], ◌∷◌, ◌++◌, length}
use Rattle.s7_szl.specs.declared.join.SzlAdded.TheVariants.{More, Whole, Bad}
use Rattle.s7_szl.specs.Images.{adds_up}
use Rattle.s7_szl.specs.Joined.{Joined, is_whole, is_bad}

-- the greatest number of octets of an image, which is this profile's own
abbrev pub most_joined : ℕ
most_joined = 8448

-- a slice of an image
pub record Piece : Type 0 where
  pub octets : List ℕ
  -- whether more slices follow
  pub more : Bool

-- the octets of the open image; none if an image is whole
abbrev pub open_octets : Joined → List ℕ
open_octets j = if is_whole j.state then [] else j.octets

-- A slice is refused if the image would exceed the room, or if it is empty although more follow.
abbrev pub is_refused : List ℕ → Piece → Bool
is_refused octets p = nat_lt most_joined (length octets + length p.octets) || (p.more && (length p.octets == 0))

-- the effect of a slice on the open image: it is appended, or it is refused and the image stays
abbrev pub joined_with : List ℕ → Piece → Joined
joined_with octets p =
    if is_refused octets p then record { octets = octets; state = Bad }
    else record { octets = octets ++ p.octets; state = if p.more then More else Whole }

-- a slice of a status list is refused also if it ends an image that doesn't add up
abbrev pub is_list_refused : List ℕ → Piece → Bool
is_list_refused octets p = is_refused octets p || (not p.more && not (adds_up (octets ++ p.octets)))

-- what a join holds after a slice of any image; after a fault nothing changes
abbrev pub with_plain : Joined → Piece → Joined
with_plain j p = if is_bad j.state then j else joined_with (open_octets j) p

-- the test of a whole image: it is refused if it doesn't add up by its record length and count
abbrev pub tested : Joined → Joined
tested j = if is_whole j.state && not (adds_up j.octets) then record { octets = j.octets; state = Bad } else j

-- what a join holds after a slice of a status list
abbrev pub with_piece : Joined → Piece → Joined
with_piece j p = tested (with_plain j p)

-- what a join holds after these slices, one by one
abbrev pub with_each : (Joined → Piece → Joined) → Joined → List Piece → Joined
with_each step j [] = j
with_each step j (p ∷ ps) = with_each step (step j p) ps

-- the first slices of an image; each says that more follow
abbrev pub fronts_of : List (List ℕ) → List Piece
fronts_of [] = []
fronts_of (front ∷ fronts) = record { octets = front; more = true } ∷ fronts_of fronts

-- the slices of an image; each but the last says that more follow
abbrev pub pieces_of : List (List ℕ) → List ℕ → List Piece
pieces_of [] last = record { octets = last; more = false } ∷ []
pieces_of (front ∷ fronts) last = record { octets = front; more = true } ∷ pieces_of fronts last
