-- How an upload side holds its upload.
use Rattle.std.specs.Prelude.{ℕ, ◌≤◌, Option, None, Some, List, length, drop, ⊤}
use Rattle.s7_block.specs.declared.upload.Sending.{Sending}
use Rattle.s7_block.specs.declared.upload.Sending.TheVariants.{Idle, Open, Given}
use Rattle.s7_block.specs.Sides.{Upload}

abbrev pub upload_of : List ℕ → Sending → Option Upload
upload_of octets Idle = None
upload_of octets (Open id at) = Some (record { id = id; left = Some (drop at octets) })
upload_of octets (Given id) = Some (record { id = id; left = None })

-- the offset of the next slice is inside the image
abbrev pub IsInside : List ℕ → Sending → Type 0
IsInside octets Idle = ⊤
IsInside octets (Open id at) = at ≤ length octets
IsInside octets (Given id) = ⊤
