-- The areas that windows may name, near and far: this profile's own.
use Rattle.std.specs.Prelude.{Bool, ◌==◌, ◌&&◌, not}
use Rattle.s7_area.specs.Keys.{is_key, is_numbered}
use Rattle.s7_area.specs.declared.key.AreaKey.{AreaKey}

-- inputs, outputs, flags, or a data block with a number from 1 on
abbrev pub has_octets : AreaKey → Bool
has_octets key = is_key key && not (is_numbered key.area)

-- two names are the same
abbrev pub same_key : AreaKey → AreaKey → Bool
same_key a b = a.area == b.area && a.number == b.number
