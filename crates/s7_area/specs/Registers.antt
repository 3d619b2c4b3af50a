-- What a memory is, and which areas may be added to it (Snap7 1.4 reference manual, `Srv_RegisterArea`). The limits
-- are this profile's own.
use Rattle.std.specs.Prelude.{◌≡◌, ℕ, ◌+◌, ◌%◌, ◌<◌, ◌≤◌, ◌==◌, ◌&&◌, ◌||◌, not, nat_lt, nat_le, if◌then◌else◌, Option, None, Some, is_some, IfSome, List, [], length, Bool, true, map, filter, sum_by}
use Rattle.std.specs.List.{AllByRecursion}
use Rattle.std.specs.List.Sorted.{IsStrictlySortedBy}
use Rattle.std.specs.Map.{keys_of, values_of}
use Rattle.s7_item.specs.Codes.{data_blocks}
use Rattle.s7_area.specs.declared.key.AreaKey.{AreaKey}
use Rattle.s7_area.specs.declared.register.RegisterFault.{RegisterFault}
use Rattle.s7_area.specs.declared.register.RegisterFault.TheVariants as fault
use Rattle.s7_area.specs.Keys.{is_key, is_numbered}
use Rattle.s7_area.specs.Guards.{IsGuard}
use Rattle.s7_area.specs.Memory.{Memory, key_cmp, area_octets}

-- the greatest number of octets of an area
abbrev pub most_octets : ℕ
most_octets = 2097152

-- the greatest number of octets of all areas together
abbrev pub most_in_all : ℕ
most_in_all = 16777216

-- the greatest number of data blocks
abbrev pub most_dbs : ℕ
most_dbs = 2048

-- the number of octets of all areas together
abbrev pub total_of : Memory → ℕ
total_of m = sum_by length (values_of m.areas)

-- the numbers of the data blocks
abbrev pub db_numbers : List AreaKey → List ℕ
db_numbers keys = map (λ key. key.number) (filter (λ key. key.area == data_blocks) keys)

-- the numbers of the data blocks among the names that are left, if there is a map
abbrev pub numbers_left : Option (List AreaKey) → List ℕ
numbers_left None = []
numbers_left (Some keys) = db_numbers keys

-- an area: a name that is allowed, at least one octet, and two octets for each counter or timer
pub record IsArea (e : AreaKey × List ℕ) : Type 0 where
  pub name : is_key e.0 ≡ true
  pub some : 0 < length e.1
  pub most : length e.1 ≤ most_octets
  pub even : is_numbered e.0.area ≡ true → length e.1 % 2 ≡ 0

-- areas in the order of their names, and a guard or none
pub record IsMemory (m : Memory) : Type 0 where
  pub areas : AllByRecursion IsArea m.areas
  pub ordered : IsStrictlySortedBy key_cmp (keys_of m.areas)
  pub total : total_of m ≤ most_in_all
  pub blocks : length (db_numbers (keys_of m.areas)) ≤ most_dbs
  pub guard : IfSome m.guard IsGuard

-- what `Areas` maintains: a memory, and the number of octets of all areas together
abbrev pub Keeps : Memory → ℕ → Type 0
Keeps m total = IsMemory m × (total ≡ total_of m)

-- an area of this name can't have this length, or the areas would have too many octets with it
abbrev pub is_wrong_size : Memory → AreaKey → ℕ → Bool
is_wrong_size m key len =
    len == 0 || nat_lt most_octets len || (is_numbered key.area && not (len % 2 == 0))
    || nat_lt most_in_all (total_of m + len)

-- the area is a data block, and there are as many of them as allowed
abbrev pub is_db_too_many : Memory → AreaKey → Bool
is_db_too_many m key = key.area == data_blocks && nat_le most_dbs (length (db_numbers (keys_of m.areas)))

-- the first fault of an area of this name and length, if it were added now
abbrev pub fault_of : Memory → AreaKey → ℕ → Option RegisterFault
fault_of m key len =
    if not (is_key key) then Some fault.Key
    else (if is_wrong_size m key len then Some fault.Size
    else (if is_some (area_octets m key) then Some fault.Exists
    else (if is_db_too_many m key then Some fault.TooManyDbs
    else None)))

-- the numbers of these faults (Snap7 1.4 sources, s7_server.h: errSrvInvalidParams, errSrvAreaAlreadyExists,
-- errSrvTooManyDB); a failed allocation has the number 0
abbrev pub fault_code : RegisterFault → ℕ
fault_code fault.Key = 0x0050_0000
fault_code fault.Size = 0x0050_0000
fault_code fault.Exists = 0x0030_0000
fault_code fault.TooManyDbs = 0x0060_0000
fault_code fault.Memory = 0
