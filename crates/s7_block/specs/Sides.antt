-- What the sides of an upload and of a download hold: this profile's own.
use Rattle.std.specs.Prelude.{ℕ, ◌==◌, ◌&&◌, Bool, false, if◌then◌else◌, Option, None, Some, List, option_map}
use Rattle.s7_block.specs.declared.block.BlockName.{BlockName}
use Rattle.s7_block.specs.Assembly.{Progress, whole_image}
use Rattle.s7_block.specs.Slices.{Piece, first_piece, left_behind}

-- an upload: its id, and what is left of the image; `None` once the last slice was given
pub record Upload : Type 0 where
  pub id : ℕ
  pub left : Option (List ℕ)

-- the upload that is held, and the greatest number of octets of an image
pub record Uploads : Type 0 where
  pub upload : Option Upload
  pub room : ℕ

-- what is left of the upload of this id, if it is held
abbrev pub left_in : Option Upload → ℕ → Option (List ℕ)
left_in None id = None
left_in (Some u) id = if u.id == id then u.left else None

-- the next slice of the upload of this id
abbrev pub slice_at : Uploads → ℕ → ℕ → Option Piece
slice_at u id room = option_map (first_piece room) (left_in u.upload id)

-- the upload after a slice from what is left
abbrev pub upload_after : Option Upload → ℕ → ℕ → Option (List ℕ) → Option Upload
upload_after held id room None = held
upload_after held id room (Some octets) = Some (record { id = id; left = left_behind room octets })

-- what is held after a slice
abbrev pub sliced : Uploads → ℕ → ℕ → Uploads
sliced u id room = record { upload = upload_after u.upload id room (left_in u.upload id); room = u.room }

-- an upload of this id is held
abbrev pub is_held : Option Upload → ℕ → Bool
is_held None id = false
is_held (Some u) id = u.id == id

-- what is held after the end of the upload of this id
abbrev pub ended : Uploads → ℕ → Uploads
ended u id = record { upload = if is_held u.upload id then None else u.upload; room = u.room }

-- the download that is held: the name that was stated last, the state of its image, and the greatest number of
-- octets of an image
pub record Downloads : Type 0 where
  pub name : BlockName
  pub progress : Progress
  pub room : ℕ

abbrev pub is_named : BlockName → ℕ → ℕ → Bool
is_named name kind number = name.kind == kind && name.number == number

-- the image of the finished download of this name
abbrev pub finished_image : Downloads → ℕ → ℕ → Option (List ℕ)
finished_image d kind number = if is_named d.name kind number then whole_image d.progress else None
