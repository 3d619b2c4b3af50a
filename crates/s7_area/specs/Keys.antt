-- Names of areas (Snap7 1.4 reference manual, `Cli_ReadArea` and `Srv_RegisterArea`).
use Rattle.std.specs.Prelude.{ℕ, Bool, ◌==◌, ◌&&◌, ◌||◌, not, if◌then◌else◌}
use Rattle.s7_item.specs.Codes.{inputs, outputs, flags, data_blocks, counters, timers}
use Rattle.s7_area.specs.declared.key.AreaKey.{AreaKey}

-- whether the area is that of counters or timers, whose elements have numbers
abbrev pub is_numbered : ℕ → Bool
is_numbered area = area == counters || area == timers

-- whether there is one area of this kind: inputs, outputs, flags, counters, timers
abbrev pub is_single : ℕ → Bool
is_single area = area == inputs || area == outputs || area == flags || is_numbered area

-- whether an area may have this name: data blocks have numbers from 1 on, and other areas have the number 0. This
-- is this profile's own
abbrev pub is_key : AreaKey → Bool
is_key key = if key.area == data_blocks then not (key.number == 0) else is_single key.area && key.number == 0
