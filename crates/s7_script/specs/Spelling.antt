-- The one text that is written for areas and their guard.
use Rattle.std.specs.Prelude.{ℕ, zero, suc, Bool, ◌+◌, ◌==◌, ◌<◌, nat_le, List, [], ◌∷◌, ◌++◌, length, map, min, codes, take, drop, Option, None, Some, IfSome, if◌then◌else◌}
use Rattle.std.specs.List.{flat_map, prefix_len}
use Rattle.std.specs.Map.{keys_of}
use Rattle.std.specs.Fmt.{decimal}
use Rattle.hex.specs.Hex.{IsBytes, encode_lower}
use Rattle.s7_item.specs.Codes.{inputs, outputs, flags, data_blocks, counters, timers}
use Rattle.s7_area.specs.Memory.{Memory, area_octets}
use Rattle.s7_area.specs.Registers.{db_numbers}
use Rattle.s7_area.specs.declared.guard.Guard.{Guard}
use Rattle.s7_area.specs.declared.key.AreaKey.{AreaKey}
use Rattle.s7_text.specs.Lines.{Text}
use Rattle.s7_text.specs.Fields.{field_of}

-- the first line
abbrev pub header : Text
header = codes "s7 areas 2"

-- ---- the line of the guard

-- a password without the spaces that pad it
abbrev pub word_of : List ℕ → Text
word_of password = field_of password

-- the line that gives a guard
abbrev pub guard_head : Guard → Text
guard_head guard = codes "protect " ++ (decimal guard.level ++ 32 ∷ word_of guard.password)

-- the line of the guard, if there is one
abbrev pub guard_text : Option Guard → Text
guard_text None = []
guard_text (Some guard) = guard_head guard ++ 10 ∷ []

-- ---- the lines of octets

-- the number of equal octets with which a list begins
unfoldable pub front_of : List ℕ → ℕ
front_of [] = 0
front_of (b ∷ bs) = prefix_len (λ x. x == b) (b ∷ bs)

-- a run begins: more equal octets than a line of digits has
abbrev pub begins_run : List ℕ → Bool
begins_run octets = nat_le 33 (front_of octets)

-- the number of octets before the first run
unfoldable pub before_run : List ℕ → ℕ
before_run [] = 0
before_run (b ∷ bs) = if begins_run (b ∷ bs) then 0 else 1 + before_run bs

-- the number of octets that the next line states: all octets of a run, or at most 32 that precede one
unfoldable pub line_length : List ℕ → ℕ
line_length octets = if begins_run octets then front_of octets else min 32 (before_run octets)

-- the next line
unfoldable pub line_text : List ℕ → Text
line_text octets =
    if begins_run octets then decimal (front_of octets) ++ 42 ∷ encode_lower (take 1 octets)
    else encode_lower (take (min 32 (before_run octets)) octets)

-- the lines of these octets, at most k lines
unfoldable pub octet_lines : ℕ → List ℕ → Text
octet_lines zero octets = []
octet_lines (suc k) [] = []
octet_lines (suc k) (b ∷ bs) =
    line_text (b ∷ bs) ++ 10 ∷ octet_lines k (drop (line_length (b ∷ bs)) (b ∷ bs))

-- ---- areas

abbrev pub name_of : ℕ → Text
name_of area =
    if area == inputs then codes "PE"
    else (if area == outputs then codes "PA"
    else (if area == flags then codes "MK"
    else (if area == counters then codes "CT"
    else codes "TM")))

-- the line that begins an area
abbrev pub head_text : AreaKey → ℕ → Text
head_text key size =
    if key.area == data_blocks then codes "DB " ++ (decimal key.number ++ 32 ∷ decimal size)
    else name_of key.area ++ 32 ∷ decimal size

abbrev pub area_text : AreaKey → List ℕ → Text
area_text key octets = head_text key (length octets) ++ 10 ∷ octet_lines (length octets) octets

-- the text of the area of this name, if there is one
abbrev pub part_of : AreaKey → Option (List ℕ) → Text
part_of key None = []
part_of key (Some octets) = area_text key octets

unfoldable pub part : Memory → AreaKey → Text
part m key = part_of key (area_octets m key)

-- the number fits two octets, and if there is an area of this name, its contents are octets
abbrev pub IsInRange : Memory → AreaKey → Type 0
IsInRange m key = (key.number < 65536) × IfSome (area_octets m key) IsBytes

-- inputs, outputs, flags, counters and timers
abbrev pub singles : List ℕ
singles = inputs ∷ outputs ∷ flags ∷ counters ∷ timers ∷ []

abbrev pub single : ℕ → AreaKey
single area = record { area = area; number = 0 }

abbrev pub block : ℕ → AreaKey
block number = record { area = data_blocks; number = number }

-- the names in the order in which their areas are written
abbrev pub order : Memory → List AreaKey
order m = map single singles ++ map block (db_numbers (keys_of m.areas))

abbrev pub spelling : Memory → Text
spelling m = header ++ 10 ∷ (guard_text m.guard ++ flat_map (part m) (order m))
