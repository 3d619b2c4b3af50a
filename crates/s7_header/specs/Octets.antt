-- Octets at their offsets, and the numbers in two of them, as in a header (Snap7 1.4 sources, s7_types.h:
-- TS7ReqHeader).
use Rattle.std.specs.Prelude.{ℕ, ◌+◌, List, slice_index}
use Rattle.s7_outer.specs.Numbers.{number_of_two}

-- the number in the two octets from this offset on, the high one first
abbrev pub number_at : List ℕ → ℕ → ℕ
number_at octets place = number_of_two (slice_index octets place) (slice_index octets (place + 1))
