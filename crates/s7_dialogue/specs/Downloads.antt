-- Downloads of blocks, as a client announces, gives and closes them (after
-- Snap7 1.4 sources, s7_types.h: TReqStartDownloadParams, TReqDownloadParams). The layouts are this profile's own.
use Rattle.std.specs.Prelude.{ℕ, ◌==◌, ◌&&◌, Bool, if◌then◌else◌, List, [], ◌∷◌, ◌++◌, length, drop}
use Rattle.std.specs.Prelude.{◌%◌, slice_index}
use Rattle.std.specs.Str.{bytes_eq}
use Rattle.s7_block.specs.declared.block.BlockName.{BlockName}
use Rattle.s7_block.specs.Heads.{two_at}
use Rattle.s7_block.specs.Kinds.{kind_of_code}
use Rattle.s7_block.specs.Names.{digits, name_octets}
use Rattle.s7_block.specs.Slices.{Piece, first_piece}
use Rattle.s7_block.specs.Telegrams.{announce_function, piece_function, close_function, name_front, more_octet}

-- ---- the image

-- the name of the block in the head of an image; its number fits two octets (after Snap7 1.4 sources, s7_types.h:
-- TS7CompactBlockInfo)
abbrev pub name_in : List ℕ → BlockName
name_in image = record { kind = kind_of_code (slice_index image 5); number = two_at image 6 % 65536 }

-- the octets from an offset on, at most as many as there is room for
abbrev pub piece_at : List ℕ → ℕ → ℕ → Piece
piece_at image room from = first_piece room (drop from image)

-- ---- what is sent

-- The parameters that announce a download (after Snap7 1.4 sources, s7_types.h: TReqStartDownloadParams). The
-- block's location is `P`. Then `0D 31` follows, six digits of the image's length and six of the body's length,
-- which the head states.
abbrev pub announce_params : List ℕ → List ℕ
announce_params image =
    name_front announce_function ++ name_octets (name_in image) 0x50
    ++ 0x0D ∷ 0x31 ∷ digits 6 (length image) ++ digits 6 (two_at image 34)

-- the parameters of the answer to the server's job that asks for a piece, and to the one that closes the download
-- (after Snap7 1.4 sources, s7_types.h: TReqDownloadParams)
abbrev pub piece_params : Piece → List ℕ
piece_params piece = piece_function ∷ more_octet piece.more ∷ []

abbrev pub close_params : List ℕ
close_params = close_function ∷ []

-- ---- what the server asks

-- Parameters and data are the server's job with this function for the block at location `P`; it has no data (after
-- Snap7 1.4 sources, s7_types.h: TReqDownloadParams).
abbrev pub is_call : ℕ → BlockName → List ℕ → List ℕ → Bool
is_call function name params body =
    bytes_eq params (name_front function ++ name_octets name 0x50) && length body == 0

-- the function of the server's job after a piece: it asks for the next piece if more follow, and else closes the
-- download
abbrev pub function_behind : Piece → ℕ
function_behind piece = if piece.more then piece_function else close_function
