-- What the ends of two pipes show.
use Rattle.std.specs.Prelude.{ℕ, ◌-◌, min, List, [], length, None, Some, false}
use Rattle.std.specs.Borrow.{GName}
use Rattle.s7_memory.specs.PipesHeld.{PipesHeld}
use Rattle.s7_outer.specs.Shown.{Shown}
use Rattle.s7_memory.specs.declared.pipes.Side.{Side}
use Rattle.s7_memory.specs.declared.pipes.Side.TheVariants as side

-- the other side
abbrev pub across : Side → Side
across side.Client = side.Server
across side.Server = side.Client

-- the octets that wait to be received by a side
abbrev pub waiting_for : PipesHeld → Side → List ℕ
waiting_for p side.Client = p.to_client
waiting_for p side.Server = p.to_server

-- the pipes with other octets that wait for a side
abbrev pub with_waiting : PipesHeld → Side → List ℕ → PipesHeld
with_waiting p side.Client octets = record p { to_client = octets }
with_waiting p side.Server octets = record p { to_server = octets }

-- the number of octets that an end can still transmit
abbrev pub space_of : PipesHeld → Side → ℕ
space_of p s = p.room - length (waiting_for p (across s))

-- the number of octets that a receive into `room` octets moves
abbrev pub receives : PipesHeld → Side → ℕ → ℕ
receives p s room = min room (length (waiting_for p s))

-- the number of octets that a transmit of `count` octets moves
abbrev pub transmits : PipesHeld → Side → ℕ → ℕ
transmits p s count = min count (space_of p s)

abbrev pub number_of : Side → ℕ
number_of side.Client = 0
number_of side.Server = 1

-- what the end of a side shows; the pipes are lent to it by this loan
abbrev pub end_of : GName → PipesHeld → Side → Shown
end_of loan p s = record {
  left = Some (waiting_for p s);
  written = Some (waiting_for p (across s));
  has_ended = false;
  faults = 0;
  waits = p.waits;
  moment = Some p.moment;
  clock_faults = 0;
  looks = p.looks;
  space = Some (space_of p s);
  shut = None;
  lent = Some (record { loan = loan; end = number_of s; room = p.room });
}

-- pipes that weren't used yet
abbrev pub empty_pipes : ℕ → ℕ → PipesHeld
empty_pipes room moment = record { to_client = []; to_server = []; room = room; waits = 0; moment = moment; looks = 0 }
