-- What contracts see of a joiner.
use Rattle.std.specs.Prelude.{ℕ, Bool, true, false, List, []}
use Rattle.s7_cotp.specs.declared.joining.Joined.{Joined}
use Rattle.s7_cotp.specs.declared.joining.Joined.TheVariants.{Whole, More, TooManyFragments, TooLong}

pub record Gathered : Type 0 where
  -- the octets of the message that is whole, or else of the message that is open
  pub octets : List ℕ
  -- the number of fragments of the open message; 0 if a message is whole
  pub count : ℕ
  -- the last answer; `More` before the first
  pub state : Joined
  -- the greatest number of octets of a message
  pub limit : ℕ

-- a joiner without fragments
abbrev pub empty : ℕ → Gathered
empty limit = record { octets = []; count = 0; state = More; limit = limit }

abbrev pub is_whole : Joined → Bool
is_whole Whole = true
is_whole More = false
is_whole TooManyFragments = false
is_whole TooLong = false

abbrev pub is_fault : Joined → Bool
is_fault Whole = false
is_fault More = false
is_fault TooManyFragments = true
is_fault TooLong = true
