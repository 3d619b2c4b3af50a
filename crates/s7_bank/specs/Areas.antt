-- Which bank an area is in. A data block is in the bank whose index is its number modulo the number of banks, and every
-- other area is in the first bank. This is this profile's own.
use Rattle.std.specs.Prelude.{ℕ, ◌%◌, ◌==◌, if◌then◌else◌, filter}
use Rattle.s7_item.specs.Codes.{data_blocks}
use Rattle.s7_item.specs.declared.item.Item.{Item}
use Rattle.s7_area.specs.declared.key.AreaKey.{AreaKey}
use Rattle.s7_area.specs.Memory.{Memory}

-- the bank of an area of this kind and number, if there are this many banks
abbrev pub bank_of : ℕ → ℕ → ℕ → ℕ
bank_of banks area number = if area == data_blocks then number % banks else 0

abbrev pub bank_of_key : ℕ → AreaKey → ℕ
bank_of_key banks key = bank_of banks key.area key.number

abbrev pub bank_of_item : ℕ → Item → ℕ
bank_of_item banks item = bank_of banks item.area item.db

-- THE AREAS OF A BANK: those of all areas whose names are in it, with their octets and in their order, and the guard of
-- all
abbrev pub part_of : ℕ → ℕ → Memory → Memory
part_of banks bank all =
    record { areas = filter (λ e. bank_of_key banks e.0 == bank) all.areas; guard = all.guard }
