-- What the telegrams of uploads and downloads have in common (after
-- Snap7 1.4 sources, s7_types.h: TReqStartDownloadParams, TReqDownloadParams, TReqFunStartUploadParams,
-- TReqFunUploadParams, TReqFunEndUploadParams). The layouts are this profile's own.
use Rattle.std.specs.Prelude.{ℕ, ◌-◌, ◌&&◌, nat_le, Bool, if◌then◌else◌, List, [], ◌∷◌, ◌++◌, length, take}
use Rattle.std.specs.Str.{bytes_eq}
use Rattle.s7_outer.specs.Numbers.{two_octets}

-- ---- functions

-- announces a download (Snap7 1.4 sources, s7_types.h: TReqStartDownloadParams)
abbrev pub announce_function : ℕ
announce_function = 0x1A

-- asks for a piece of a download (Snap7 1.4 sources, s7_types.h: TReqDownloadParams)
abbrev pub piece_function : ℕ
piece_function = 0x1B

-- closes a download (Snap7 1.4 sources, s7_types.h: TReqDownloadParams)
abbrev pub close_function : ℕ
close_function = 0x1C

-- starts an upload (Snap7 1.4 sources, s7_types.h: TReqFunStartUploadParams)
abbrev pub start_function : ℕ
start_function = 0x1D

-- asks for a slice of an upload (Snap7 1.4 sources, s7_types.h: TReqFunUploadParams)
abbrev pub slice_function : ℕ
slice_function = 0x1E

-- ends an upload (Snap7 1.4 sources, s7_types.h: TReqFunEndUploadParams)
abbrev pub end_function : ℕ
end_function = 0x1F

-- ---- parameters

-- the octets before a name: the function, seven octets 00, the name's length, and `5F` (after Snap7 1.4 sources,
-- s7_types.h: TReqFunStartUploadParams, TReqStartDownloadParams, TReqDownloadParams)
abbrev pub name_front : ℕ → List ℕ
name_front function =
    function ∷ 0x00 ∷ 0x00 ∷ 0x00 ∷ 0x00 ∷ 0x00 ∷ 0x00 ∷ 0x00 ∷ 0x09 ∷ 0x5F ∷ []

-- the octets before the id of an upload: the function and six octets 00 (after Snap7 1.4 sources, s7_types.h:
-- TReqFunUploadParams, TReqFunEndUploadParams)
abbrev pub id_front : ℕ → List ℕ
id_front function = function ∷ 0x00 ∷ 0x00 ∷ 0x00 ∷ 0x00 ∷ 0x00 ∷ 0x00 ∷ []

-- 01 if further octets follow, 00 after the last
abbrev pub more_octet : Bool → ℕ
more_octet more = if more then 0x01 else 0x00

-- ---- data

-- the data with octets of an image: their number, `00 FB`, and the octets (after Snap7 1.4 sources, s7_types.h:
-- TResDownloadDataHeader)
abbrev pub image_data : List ℕ → List ℕ
image_data octets = two_octets (length octets) ++ 0x00 ∷ 0xFB ∷ octets

abbrev pub is_image_data : List ℕ → Bool
is_image_data body =
    nat_le 4 (length body) && bytes_eq (take 4 body) (two_octets (length body - 4) ++ 0x00 ∷ 0xFB ∷ [])
