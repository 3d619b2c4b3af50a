-- The fields of images, read at their offsets (Snap7 1.4 reference manual, `Cli_ReadSZL`: TS7SZL). An image has a
-- field exactly if it is of the field's list: its head has the id, the index and the record length of that list,
-- and exactly the whole records that it states follow, at least one.
use Rattle.std.specs.Prelude.{ℕ, zero, suc, ◌==◌, ◌&&◌, nat_lt, Bool, true, false, if◌then◌else◌}
use Rattle.std.specs.Prelude.{List, [], ◌∷◌, take, drop, slice_index, Option, None, Some}
use Rattle.s7_szl.specs.Octets.{number_at}
use Rattle.s7_szl.specs.Images.{adds_up}

-- whether the image is of this list
abbrev pub is_of : ℕ → ℕ → ℕ → List ℕ → Bool
is_of id index record_len image =
    (number_at image 0 == id)
    && (number_at image 2 == index)
    && (number_at image 4 == record_len)
    && nat_lt 0 (number_at image 6)
    && adds_up image

-- a field of an image, if the image is of its list
abbrev pub field_of : {A : Type 0} → Bool → Option A → Option A
field_of is found = if is then found else None

-- whether the controller runs, by the octet of the operating mode (Snap7 1.4 reference manual, `Cli_GetPlcStatus`)
abbrev pub mode_said : ℕ → Option Bool
mode_said octet = if octet == 0x08 then Some true else (if octet == 0x04 then Some false else None)

-- whether the controller runs, by the fourth octet of the first record (Snap7 1.4 reference manual,
-- `Cli_GetPlcStatus`)
abbrev pub mode_of : List ℕ → Option Bool
mode_of image = field_of (is_of 0x0424 0 20 image) (mode_said (slice_index image 11))

-- the 20 octets after the index of the first record (Snap7 1.4 reference manual, `Cli_GetOrderCode`)
abbrev pub order_code_of : List ℕ → Option (List ℕ)
order_code_of image = field_of (is_of 0x0011 0 28 image) (Some (take 20 (drop 10 image)))

-- the greatest PDU, which follows the index of the first record (Snap7 1.4 reference manual, `Cli_GetCpInfo`)
abbrev pub pdu_of : List ℕ → Option ℕ
pdu_of image = field_of (is_of 0x0131 1 40 image) (Some (number_at image 10))

-- the level of protection in force (Snap7 1.4 reference manual, `Cli_GetProtection`: sch_rel), which follows the
-- index and the two other levels of the first record
abbrev pub protection_of : List ℕ → Option ℕ
protection_of image = field_of (is_of 0x0232 4 40 image) (Some (number_at image 14))

-- the records of the octets, by their length and their number (Snap7 1.4 reference manual, `Cli_ReadSZL`: TS7SZL)
abbrev pub records_in : ℕ → ℕ → List ℕ → List (List ℕ)
records_in record_len zero octets = []
records_in record_len (suc count) octets =
    take record_len octets ∷ records_in record_len count (drop record_len octets)

-- what follows the index in the first record that has this index
abbrev pub first_with : ℕ → List (List ℕ) → Option (List ℕ)
first_with index [] = None
first_with index (r ∷ rs) = if number_at r 0 == index then Some (drop 2 r) else first_with index rs

-- the text of a component (Snap7 1.4 reference manual, `Cli_GetCpuInfo`)
abbrev pub component_of : ℕ → List ℕ → Option (List ℕ)
component_of index image =
    field_of (is_of 0x001C 0 34 image) (first_with index (records_in 34 (number_at image 6) (drop 8 image)))
