-- An image that is sent in pieces (Snap7 1.4 reference manual, `Cli_FullUpload` and `Cli_Download`). Which pieces
-- are refused is this profile's own.
use Rattle.std.specs.Prelude.{ℕ, ◌+◌, ◌==◌, ◌&&◌, ◌||◌, not, nat_lt, Bool, true, false, if◌then◌else◌, Option, None, Some, List, [], ◌++◌, length}
use Rattle.s7_block.specs.declared.assembly.Added.{Added}
use Rattle.s7_block.specs.declared.assembly.Added.TheVariants.{More, Last, Dropped}
use Rattle.s7_block.specs.Slices.{Piece}

-- the state of an image: nothing is held; pieces are awaited, for a stated length; or the image is whole
pub data Progress : Type 0 where
  idle : Progress
  awaiting : (len : ℕ) → (octets : List ℕ) → Progress
  whole : (octets : List ℕ) → Progress

-- the state of the image, and the greatest number of its octets
pub record Assembled : Type 0 where
  pub progress : Progress
  pub room : ℕ

abbrev pub is_awaiting : Progress → Bool
is_awaiting idle = false
is_awaiting (awaiting len octets) = true
is_awaiting (whole octets) = false

-- the octets added so far
abbrev pub octets_of : Progress → List ℕ
octets_of idle = []
octets_of (awaiting len octets) = octets
octets_of (whole octets) = octets

-- the image, if it is whole
abbrev pub whole_image : Progress → Option (List ℕ)
whole_image idle = None
whole_image (awaiting len octets) = None
whole_image (whole octets) = Some octets

-- the piece is refused: the octets exceed the stated length or the room, the piece is empty although more follow,
-- or the last piece leaves the image shorter than the stated length
abbrev pub is_wrong : ℕ → ℕ → List ℕ → Piece → Bool
is_wrong room len octets p =
    nat_lt len (length octets + length p.octets) || nat_lt room (length octets + length p.octets)
    || (p.more && length p.octets == 0) || (not p.more && not (length octets + length p.octets == len))

-- the outcome of a piece of an image that is awaited
abbrev pub answer_to : ℕ → Progress → Piece → Added
answer_to room idle p = Dropped
answer_to room (awaiting len octets) p = if is_wrong room len octets p then Dropped else (if p.more then More else Last)
answer_to room (whole octets) p = Dropped

abbrev pub with_piece : ℕ → Progress → Piece → Progress
with_piece room idle p = idle
with_piece room (awaiting len octets) p =
    if is_wrong room len octets p then idle
    else (if p.more then awaiting len (octets ++ p.octets) else whole (octets ++ p.octets))
with_piece room (whole octets) p = idle

-- the assembly after a piece
abbrev pub after_piece : Assembled → Piece → Assembled
after_piece a p = record { progress = with_piece a.room a.progress p; room = a.room }
