-- Guards of a memory: levels and passwords (Snap7 1.4 reference manual, `Cli_GetProtection` and
-- `Cli_SetSessionPassword`). What each level guards, and which octets a password may have, is this profile's own.
use Rattle.std.specs.Prelude.{◌≡◌, ℕ, ◌-◌, ◌≤◌, ◌==◌, ◌&&◌, ◌||◌, ◌++◌, Bool, not, IsTrue, List, length, replicate, Option, None, Some}
use Rattle.std.specs.List.{AllByRecursion}
use Rattle.s7_area.specs.declared.guard.Guard.{Guard}

-- a password: one to eight printable octets without space, padded with spaces to eight
pub record IsPassword (octets : List ℕ) : Type 0 where
  pub word : List ℕ
  pub some : 1 ≤ length word
  pub most : length word ≤ 8
  pub printable : AllByRecursion (λ octet. (0x21 ≤ octet) × (octet ≤ 0x7E)) word
  pub filled : octets ≡ word ++ replicate (8 - length word) 0x20

-- a guard: level 2 guards writes, and level 3 guards reads of items too
pub record IsGuard (guard : Guard) : Type 0 where
  pub level : IsTrue (guard.level == 2 || guard.level == 3)
  pub password : IsPassword guard.password

-- the level of protection; 1 without a guard
abbrev pub level_of : Option Guard → ℕ
level_of None = 1
level_of (Some guard) = guard.level

-- there is no right, and reads of items need one
abbrev pub is_read_barred : Option Guard → Bool → Bool
is_read_barred guard right = not right && level_of guard == 3

-- there is no right, and writes need one
abbrev pub is_write_barred : Option Guard → Bool → Bool
is_write_barred guard right = not right && (level_of guard == 2 || level_of guard == 3)
