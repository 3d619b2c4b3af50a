-- How windows are written in a windows file: this profile's own.
use Rattle.std.specs.Prelude.{◌==◌, ◌++◌, List, [], ◌∷◌, codes, if◌then◌else◌}
use Rattle.std.specs.Fmt.{decimal}
use Rattle.s7_item.specs.Codes.{data_blocks, inputs, outputs}
use Rattle.s7_area.specs.declared.key.AreaKey.{AreaKey}
use Rattle.s7_text.specs.Lines.{Text}
use Rattle.s7_relay.specs.declared.windows.Window.{Window}

-- KEY
abbrev pub key_text : AreaKey → Text
key_text key =
    if key.area == data_blocks then codes "DB" ++ decimal key.number
    else (if key.area == inputs then codes "PE" else (if key.area == outputs then codes "PA" else codes "MK"))

-- two texts with a space between them
abbrev pub spaced : Text → Text → Text
spaced before after = before ++ (32 ∷ after)

-- KEY LENGTH = KEY OFFSET
abbrev pub window_text : Window → Text
window_text w =
    spaced (key_text w.near) (spaced (decimal w.length)
    (spaced (codes "=") (spaced (key_text w.far) (decimal w.offset))))

-- THE TEXT of windows: a line for each, which ends with LF
abbrev pub windows_text : List Window → Text
windows_text [] = []
windows_text (w ∷ ws) = window_text w ++ (10 ∷ windows_text ws)
