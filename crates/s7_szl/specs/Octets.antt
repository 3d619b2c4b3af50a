-- Numbers at their offsets in an image, the high octet first (Snap7 1.4 reference manual, `Cli_ReadSZL`: TS7SZL).
use Rattle.std.specs.Prelude.{ℕ, ◌+◌, List, slice_index}
use Rattle.s7_outer.specs.Numbers.{number_of_two}

-- the number in the two octets from this offset on
abbrev pub number_at : List ℕ → ℕ → ℕ
number_at octets place = number_of_two (slice_index octets place) (slice_index octets (place + 1))
