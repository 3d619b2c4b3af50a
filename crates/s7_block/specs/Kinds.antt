-- Kinds of blocks (Snap7 1.4 reference manual, `Cli_ListBlocksOfType`: block types; the types in heads are those of
-- `Cli_GetAgBlockInfo`: `TS7BlockInfo`).
use Rattle.std.specs.Prelude.{ℕ, ◌==◌, ◌||◌, Bool, if◌then◌else◌, Option, None, Some}

-- the kinds that a store of blocks keeps: organization blocks, functions and function blocks, a choice of this
-- profile's own
abbrev pub is_stored_kind : ℕ → Bool
is_stored_kind kind = kind == 0x38 || kind == 0x43 || kind == 0x45

-- the code that a head has for the kind: OB, DB, SDB, FC, SFC, FB, SFB (Snap7 1.4 reference manual,
-- `Cli_GetAgBlockInfo`: `TS7BlockInfo`)
abbrev pub head_code : ℕ → Option ℕ
head_code kind =
    if kind == 0x38 then Some 0x08
    else (if kind == 0x41 then Some 0x0A
    else (if kind == 0x42 then Some 0x0B
    else (if kind == 0x43 then Some 0x0C
    else (if kind == 0x44 then Some 0x0D
    else (if kind == 0x45 then Some 0x0E
    else (if kind == 0x46 then Some 0x0F
    else None))))))

-- the kind with this code in heads; 0 if there is none
abbrev pub kind_of_code : ℕ → ℕ
kind_of_code code =
    if code == 0x08 then 0x38
    else (if code == 0x0A then 0x41
    else (if code == 0x0B then 0x42
    else (if code == 0x0C then 0x43
    else (if code == 0x0D then 0x44
    else (if code == 0x0E then 0x45
    else (if code == 0x0F then 0x46
    else 0))))))
