-- The layouts of the telegrams of uploads and downloads (after Snap7 1.4 sources, s7_types.h: TReqFunStartUploadParams,
-- TReqFunUploadParams, TReqFunEndUploadParams, TReqStartDownloadParams, TReqDownloadParams), and how they change the
-- state of a link. The layouts are this profile's own.
use Rattle.std.specs.Prelude.{ℕ, ◌-◌, ◌==◌, ◌&&◌, nat_le, is_some, if◌then◌else◌, Option, None, Some}
use Rattle.std.specs.Prelude.{List, [], ◌∷◌, ◌++◌, length, take, drop, slice_index}
use Rattle.std.specs.Str.{bytes_eq}
use Rattle.s7_header.specs.declared.header.Kind.TheVariants.{Job}
use Rattle.s7_header.specs.Header.{spelling_of}
use Rattle.s7_block.specs.declared.block.BlockName.{BlockName}
use Rattle.s7_block.specs.Assembly.{Progress, idle, awaiting, whole, whole_image, with_piece}
use Rattle.s7_block.specs.Names.{name_octets, named, number_in}
use Rattle.s7_block.specs.Slices.{image_room, Piece}
use Rattle.s7_block.specs.Sides.{is_named}
pub use Rattle.s7_block.specs.Telegrams.{announce_function, piece_function, close_function, start_function}
pub use Rattle.s7_block.specs.Telegrams.{slice_function, end_function, name_front, id_front, more_octet}
pub use Rattle.s7_block.specs.Telegrams.{image_data, is_image_data}
use Rattle.s7_plant.specs.Replies.{Said}
use Rattle.s7_session.specs.LinkState.{LinkState, Download, next_octet, next_sequence}

-- ---- names in parameters

-- the block that the first 18 octets of parameters name
abbrev pub block_in : ℕ → ℕ → List ℕ → Option BlockName
block_in function place params =
    if bytes_eq (take 10 params) (name_front function) then named (take 8 (drop 10 params)) place else None

-- the block whose upload is asked for, at `A` (after Snap7 1.4 sources, s7_types.h: TReqFunStartUploadParams)
abbrev pub upload_asked : List ℕ → Option BlockName
upload_asked params = if length params == 18 then block_in start_function 0x41 params else None

-- a block whose download is announced, and the number of octets of its image
pub record Announced : Type 0 where
  pub name : BlockName
  pub size : ℕ

-- The length of an image: `0D 31`, six digits of it, and six digits of the body's length, which isn't used (after Snap7
-- 1.4 sources, s7_types.h: TReqStartDownloadParams).
abbrev pub size_announced : List ℕ → Option ℕ
size_announced octets =
    if bytes_eq (take 2 octets) (0x0D ∷ 0x31 ∷ []) && is_some (number_in (drop 8 octets))
    then number_in (take 6 (drop 2 octets)) else None

abbrev pub announced : Option BlockName → Option ℕ → Option Announced
announced None size = None
announced (Some name) None = None
announced (Some name) (Some size) = Some (record { name = name; size = size })

-- the download that is announced: of a block at `P`, with the length of its image (after
-- Snap7 1.4 sources, s7_types.h: TReqStartDownloadParams)
abbrev pub download_announced : List ℕ → Option Announced
download_announced params =
    if length params == 32
    then announced (block_in announce_function 0x50 params) (size_announced (drop 18 params)) else None

-- an upload's id, after the function and six octets 00 (after Snap7 1.4 sources, s7_types.h: TReqFunUploadParams,
-- TReqFunEndUploadParams)
abbrev pub id_in : ℕ → List ℕ → Option ℕ
id_in function params =
    if length params == 8
    && bytes_eq (take 7 params) (id_front function)
    then Some (slice_index params 7) else None

-- The piece of an image that the client sends: its parameters say whether others follow (after
-- Snap7 1.4 sources, s7_types.h: TReqDownloadParams, TResDownloadDataHeader).
abbrev pub piece_in : ℕ → List ℕ → List ℕ → Option Piece
piece_in pdu params body =
    if (length params == 2 && slice_index params 0 == piece_function && nat_le (slice_index params 1) 1)
    && is_image_data body && nat_le (length body - 4) (image_room pdu)
    then Some (record { more = slice_index params 1 == 1; octets = drop 4 body }) else None

-- ---- uploads

-- The link holds the upload that was started, under the next id, in place of the upload before. An upload that wasn't
-- started changes nothing.
abbrev pub with_upload : LinkState → Said → LinkState
with_upload link reply =
    if reply.error == 0
    then record link {
      upload_id = next_octet link.upload_id;
      upload = Some (record { id = next_octet link.upload_id; left = Some reply.body });
    }
    else link

-- the parameters of the answer to an upload's start, with the id filled in (after Snap7 1.4 sources, s7_types.h:
-- TResFunStartUploadParams)
abbrev pub with_id : List ℕ → ℕ → List ℕ
with_id params id = take 7 params ++ id ∷ drop 8 params

-- ---- downloads

-- a job of the server's: the function and the name of the block at `P`, without data (after
-- Snap7 1.4 sources, s7_types.h: TReqDownloadParams)
abbrev pub server_job_octets : ℕ → ℕ → BlockName → List ℕ
server_job_octets sequence function name =
    spelling_of (record { kind = Job; sequence = sequence; param_len = 18; body_len = 0; error = 0 })
    ++ name_front function ++ name_octets name 0x50

-- the link's state with a download at this progress, for which the server sends the next job
abbrev pub with_server_job : LinkState → ℕ → BlockName → Progress → LinkState
with_server_job link function name progress = record link {
  job_sequence = next_sequence link.job_sequence;
  download = Some (record { name = name; progress = progress });
  server_job = Some (record { sequence = next_sequence link.job_sequence; function = function });
}

-- the link holds no download and awaits no answer
abbrev pub without_download : LinkState → LinkState
without_download link = record link { download = None; server_job = None }

-- What a piece leads to, by what it makes of the image: the next piece is asked for, or the download is closed. A wrong
-- piece drops the download.
abbrev pub piece_left : LinkState → BlockName → Progress → LinkState
piece_left link name idle = without_download link
piece_left link name (awaiting len octets) = with_server_job link piece_function name (awaiting len octets)
piece_left link name (whole octets) = with_server_job link close_function name (whole octets)

-- images have at most 65,536 octets: this profile's own limit
abbrev pub with_next_piece : LinkState → Option Download → Piece → LinkState
with_next_piece link None piece = without_download link
with_next_piece link (Some d) piece = piece_left link d.name (with_piece 65536 d.progress piece)

-- the image of the finished download of this block
abbrev pub finished : Option Download → ℕ → ℕ → Option (List ℕ)
finished None kind number = None
finished (Some d) kind number = if is_named d.name kind number then whole_image d.progress else None
