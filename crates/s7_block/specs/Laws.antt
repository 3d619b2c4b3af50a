-- Laws of stores, of slices, and of images that are sent in pieces.
use Rattle.std.specs.Prelude.{◌≡◌, ◌≢◌, ◌↔◌, ℕ, ◌<◌, ◌≤◌, ◌==◌, nat_lt, true, false, if◌then◌else◌, None, Some, List, [], ◌∷◌, ◌++◌, length, take, option_to_list}
use Rattle.std.specs.List.{AllByRecursion}
use Rattle.s7_block.specs.declared.block.BlockName.{BlockName}
use Rattle.s7_block.specs.declared.block.Block.{Block}
use Rattle.s7_block.specs.Heads.{Head, spelling_of_head, head_of}
use Rattle.s7_block.specs.Store.{Store, IsStore, name_of, image_at, with_block, without_block}
use Rattle.s7_block.specs.Slices.{Piece, total_of, pieces_of, joined, AreMarked}
use Rattle.s7_block.specs.Sides.{Uploads, slice_at, sliced}
use Rattle.s7_block.specs.Assembly.{Progress, awaiting, whole, with_piece}

-- what is written for a head is read as that head
abbrev pub HeadsAreRead : Type 0
HeadsAreRead = (h : Head) (more : List ℕ) → head_of (spelling_of_head h ++ more) ≡ h

-- a block that was stored is found, and no other block changes; a deleted block is gone, and no other is
pub record OneNameChanges : Type 0 where
  pub found : (s : Store) (block : Block) → image_at (with_block s block).images (name_of block) ≡ Some block.image
  pub others_stay :
      (s : Store) (block : Block) (other : BlockName) → other ≢ name_of block
      → image_at (with_block s block).images other ≡ image_at s.images other
  pub gone :
      (s : Store) (kind number : ℕ) → IsStore s
      → image_at (without_block s kind number).images (record { kind = kind; number = number }) ≡ None
  pub others_left :
      (s : Store) (kind number : ℕ) (other : BlockName) → other ≢ record { kind = kind; number = number }
      → image_at (without_block s kind number).images other ≡ image_at s.images other

-- the slices that these calls give, one after another; each call has an id and a room
abbrev pub given : Uploads → List (ℕ × ℕ) → List Piece
given u [] = []
given u (a ∷ asks) = option_to_list (slice_at u a.0 a.1) ++ given (sliced u a.0 a.1) asks

-- the rooms of the calls with this id
abbrev pub rooms_for : ℕ → List (ℕ × ℕ) → List ℕ
rooms_for id [] = []
rooms_for id (a ∷ asks) = if id == a.0 then a.1 ∷ rooms_for id asks else rooms_for id asks

-- Slices are the pieces of the image for the rooms asked for. Pieces join to as many octets as their rooms have
-- together, and so to the whole image if the rooms suffice; the last piece is marked as the last exactly then.
pub record SlicesJoin : Type 0 where
  pub given :
      (id room : ℕ) (image : List ℕ) (asks : List (ℕ × ℕ))
      → given (record { upload = Some (record { id = id; left = Some image }); room = room }) asks
      ≡ pieces_of (rooms_for id asks) image
  pub joined : (rooms image : List ℕ) → joined (pieces_of rooms image) ≡ take (total_of rooms) image
  pub marked : (rooms image : List ℕ) → AreMarked (nat_lt (total_of rooms) (length image)) (pieces_of rooms image)

-- the effect of pieces on an image, one after another
abbrev pub with_pieces : ℕ → Progress → List Piece → Progress
with_pieces room progress [] = progress
with_pieces room progress (p ∷ ps) = with_pieces room (with_piece room progress p) ps

-- These pieces are an image of the stated length: further pieces follow each but the last, each of those has
-- octets, and all of them join to the image, within the room.
pub record AreWhole (room len : ℕ) (ps : List Piece) (image : List ℕ) : Type 0 where
  pub some : 0 < length ps
  pub marked : AreMarked false ps
  pub filled : AllByRecursion (λ p. p.more ≡ true → 0 < length p.octets) ps
  pub joined : joined ps ≡ image
  pub stated : length image ≡ len
  pub fits : len ≤ room

-- an image that is awaited is whole exactly if its pieces are a whole image
abbrev pub PiecesAreJoined : Type 0
PiecesAreJoined =
    (room len : ℕ) (ps : List Piece) (image : List ℕ)
    → with_pieces room (awaiting len []) ps ≡ whole image ↔ AreWhole room len ps image
