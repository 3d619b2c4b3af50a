-- Uploads of blocks, as a client asks for them, and their answers (after Snap7 1.4 sources, s7_types.h:
-- TReqFunStartUploadParams, TResFunStartUploadParams, TReqFunUploadParams, TReqFunEndUploadParams). The layouts are
-- this profile's own.
use Rattle.std.specs.Prelude.{ℕ, ◌==◌, ◌&&◌, nat_le, if◌then◌else◌, Option, None, Some}
use Rattle.std.specs.Prelude.{List, [], ◌∷◌, ◌++◌, length, take, drop, slice_index}
use Rattle.std.specs.Str.{bytes_eq}
use Rattle.s7_block.specs.declared.block.BlockName.{BlockName}
use Rattle.s7_block.specs.Assembly.{is_wrong}
use Rattle.s7_block.specs.Names.{name_octets, number_in}
use Rattle.s7_block.specs.Slices.{Piece}
use Rattle.s7_block.specs.Telegrams.{start_function, slice_function, name_front, id_front, is_image_data}

-- the number of octets of the longest image that is uploaded: a head and 65,536 octets, this profile's own limit
abbrev pub most_uploaded : ℕ
most_uploaded = 65572

-- ---- what is asked

-- the parameters of an upload's start; the block's location is `A` (after Snap7 1.4 sources, s7_types.h:
-- TReqFunStartUploadParams)
abbrev pub start_params : BlockName → List ℕ
start_params name = name_front start_function ++ name_octets name 0x41

-- the parameters that name an upload by its id (after Snap7 1.4 sources, s7_types.h: TReqFunUploadParams,
-- TReqFunEndUploadParams)
abbrev pub id_params : ℕ → ℕ → List ℕ
id_params function id = id_front function ++ id ∷ []

-- ---- what is answered

-- The length of the image of an upload that was started, from the parameters of the answer: after the id, which may
-- be any octet, `07` and seven digits follow (after Snap7 1.4 sources, s7_types.h: TResFunStartUploadParams).
abbrev pub upload_size : List ℕ → Option ℕ
upload_size params =
    if length params == 16 && bytes_eq (take 7 params) (id_front start_function) && slice_index params 8 == 0x07
    then number_in (drop 9 params) else None

-- the piece of an image in parameters and data; `None` if they aren't one. 01 says that more pieces follow (after
-- Snap7 1.4 sources, s7_types.h: TReqFunUploadParams, TResDownloadDataHeader)
abbrev pub slice_in : List ℕ → List ℕ → Option Piece
slice_in params body =
    if (length params == 2 && slice_index params 0 == slice_function && nat_le (slice_index params 1) 1)
    && is_image_data body
    then Some (record { more = slice_index params 1 == 1; octets = drop 4 body }) else None

-- A piece continues the octets so far of an image of `size` octets: it exceeds neither this size nor the room, it
-- isn't empty if more follow, and the last one reaches the stated length.
abbrev pub fitting : ℕ → List ℕ → Option Piece → Option Piece
fitting size so_far None = None
fitting size so_far (Some piece) = if is_wrong most_uploaded size so_far piece then None else Some piece
