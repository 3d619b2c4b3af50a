-- Parameters that control a PLC (Snap7 1.4 sources, s7_types.h: TReqFunPlcHotStart, TReqFunPlcColdStart,
-- TReqFunPlcStop, TReqFunCompress, TReqFunCopyRamToRom, TReqControlBlockParams): the call of a service by function 28,
-- or function 29 for a stop.
use Rattle.std.specs.Prelude.{◌≡◌, ℕ, ◌+◌, ◌*◌, ◌-◌, ◌/◌, ◌%◌, Bool, true, nat_lt, ◌==◌, ◌&&◌, ◌||◌, if◌then◌else◌, List, [], ◌∷◌, ◌++◌, length, slice_index, Result, Ok, Err}
use Rattle.std.specs.Str.{bytes_eq}
use Rattle.s7_outer.specs.Numbers.{two_octets}
use Rattle.s7_clock.specs.declared.control.Control.{Control}
use Rattle.s7_clock.specs.declared.control.Control.TheVariants.{Start, ColdStart, Stop, Compress, CopyRam, Insert, Delete}
use Rattle.s7_clock.specs.declared.faults.BadParams.{BadParams}

-- ---- the octets of a control

-- `P_PROGRAM`
abbrev pub program : List ℕ
program = 0x50 ∷ 0x5F ∷ 0x50 ∷ 0x52 ∷ 0x4F ∷ 0x47 ∷ 0x52 ∷ 0x41 ∷ 0x4D ∷ []

-- `_GARB`
abbrev pub garbage : List ℕ
garbage = 0x5F ∷ 0x47 ∷ 0x41 ∷ 0x52 ∷ 0x42 ∷ []

-- `_MODU`
abbrev pub module_memory : List ℕ
module_memory = 0x5F ∷ 0x4D ∷ 0x4F ∷ 0x44 ∷ 0x55 ∷ []

-- `_INSE`
abbrev pub insertion : List ℕ
insertion = 0x5F ∷ 0x49 ∷ 0x4E ∷ 0x53 ∷ 0x45 ∷ []

-- `_DELE`
abbrev pub deletion : List ℕ
deletion = 0x5F ∷ 0x44 ∷ 0x45 ∷ 0x4C ∷ 0x45 ∷ []

-- the call of a service: 28, six octets 00, FD, the argument with its length in two octets before it, and the name
-- with its length in one octet before it
abbrev pub service : List ℕ → List ℕ → List ℕ
service argument name =
    0x28 ∷ 0x00 ∷ 0x00 ∷ 0x00 ∷ 0x00 ∷ 0x00 ∷ 0x00 ∷ 0xFD ∷ (two_octets (length argument) ++ argument ++ (length name ∷ name))

-- a number below 100,000 in five ASCII digits
abbrev pub five_digits : ℕ → List ℕ
five_digits n = (0x30 + n / 10000) ∷ (0x30 + n / 1000 % 10) ∷ (0x30 + n / 100 % 10) ∷ (0x30 + n / 10 % 10) ∷ (0x30 + n % 10) ∷ []

-- the argument that names one block: `01 00 30`, its kind, its number and its location (Snap7 1.4 sources,
-- s7_types.h: TReqControlBlockParams)
abbrev pub block_argument : ℕ → ℕ → ℕ → List ℕ
block_argument kind number place = 0x01 ∷ 0x00 ∷ 0x30 ∷ kind ∷ (five_digits number ++ (place ∷ []))

-- the octets of a control. The argument of a cold start is `C `, and that of the copy is `EP`. A block to be
-- inserted has the location `P`, and a block to be deleted has `B`
abbrev pub control_spelling : Control → List ℕ
control_spelling Start = service [] program
control_spelling ColdStart = service (0x43 ∷ 0x20 ∷ []) program
control_spelling Stop = 0x29 ∷ 0x00 ∷ 0x00 ∷ 0x00 ∷ 0x00 ∷ 0x00 ∷ length program ∷ program
control_spelling Compress = service [] garbage
control_spelling CopyRam = service (0x45 ∷ 0x50 ∷ []) module_memory
control_spelling (Insert kind number) = service (block_argument kind number 0x50) insertion
control_spelling (Delete kind number) = service (block_argument kind number 0x42) deletion

-- ---- which controls there are

-- a kind of block: OB, DB, SDB, FC, SFC, FB or SFB (Snap7 1.4 reference manual, `Cli_ListBlocksOfType`)
abbrev pub is_kind : ℕ → Bool
is_kind kind =
    (kind == 0x38) || (kind == 0x41) || (kind == 0x42) || (kind == 0x43) || (kind == 0x44) || (kind == 0x45) || (kind == 0x46)

-- the kind is one of these, and the number fits two octets
abbrev pub is_block : ℕ → ℕ → Bool
is_block kind number = is_kind kind && nat_lt number 65536

-- a block that the control names has such a kind and number
abbrev pub is_control : Control → Bool
is_control Start = true
is_control ColdStart = true
is_control Stop = true
is_control Compress = true
is_control CopyRam = true
is_control (Insert kind number) = is_block kind number
is_control (Delete kind number) = is_block kind number

-- the parameters are those of this control
pub record SpellsControl (params : List ℕ) (c : Control) : Type 0 where
  pub octets : params ≡ control_spelling c
  pub is : is_control c ≡ true

-- ---- reading

-- the value of the digit at this offset
abbrev pub digit_at : List ℕ → ℕ → ℕ
digit_at params place = slice_index params place - 0x30

-- the number of the block, from its five digits
abbrev pub number_named : List ℕ → ℕ
number_named params =
    digit_at params 14 * 10000 + digit_at params 15 * 1000 + digit_at params 16 * 100 + digit_at params 17 * 10 + digit_at params 18

-- the control if it has these parameters, else the other result
abbrev pub if_spelled : List ℕ → Control → Result Control BadParams → Result Control BadParams
if_spelled params c other = if is_control c && bytes_eq params (control_spelling c) then Ok c else other

-- the control that names a block and has these parameters (Snap7 1.4 sources, s7_types.h: TReqControlBlockParams)
unfoldable pub block_control_of : List ℕ → Result Control BadParams
block_control_of params =
    if_spelled params (Insert (slice_index params 13) (number_named params))
    (if_spelled params (Delete (slice_index params 13) (number_named params)) (Err (record {})))

-- the control that has these parameters
unfoldable pub control_of : List ℕ → Result Control BadParams
control_of params =
    if_spelled params Start
    (if_spelled params ColdStart (if_spelled params Stop (if_spelled params Compress (if_spelled params CopyRam (block_control_of params)))))
