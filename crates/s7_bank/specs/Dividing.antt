-- How areas are moved to their banks, seen by looking up each name.
use Rattle.std.specs.Prelude.{◌≡◌, ℕ, ◌==◌, if◌then◌else◌, None}
use Rattle.s7_item.specs.Codes.{data_blocks}
use Rattle.s7_area.specs.declared.key.AreaKey.{AreaKey}
use Rattle.s7_area.specs.Memory.{Memory, area_octets}
use Rattle.s7_area.specs.Registers.{IsMemory}
use Rattle.s7_bank.specs.Areas.{bank_of_key}

-- the name of a data block's area
abbrev pub block_key : ℕ → AreaKey
block_key number = record { area = data_blocks; number = number }

-- a memory that has the areas of a bank, and the guard of all
pub record ArePartOf (banks bank : ℕ) (all part : Memory) : Type 0 where
  pub areas :
      (key : AreaKey)
      → area_octets part key ≡ (if bank_of_key banks key == bank then area_octets all key else None)
  pub guard : part.guard ≡ all.guard
  pub memory : IsMemory part

-- the areas that are left when those of a bank are gone
pub record AreLeftBy (banks bank : ℕ) (all left : Memory) : Type 0 where
  pub areas :
      (key : AreaKey)
      → area_octets left key ≡ (if bank_of_key banks key == bank then None else area_octets all key)
  pub guard : left.guard ≡ all.guard
