-- What a link in memory shows.
use Rattle.std.specs.Prelude.{ℕ, ◌-◌, min, List, [], length, take, drop, false, None, Some, option_map}
use Rattle.s7_outer.specs.Shown.{Moved, Shown}
use Rattle.s7_memory.specs.declared.memory_link.Mark.{Mark}
use Rattle.s7_memory.specs.declared.memory_link.MemoryLink.{MemoryLink}

-- the octets left to receive
abbrev pub unread_of : MemoryLink → List ℕ
unread_of m = drop m.at m.input

-- the greatest number of octets that a call moves
abbrev pub most_of : MemoryLink → ℕ
most_of m = m.most

-- the greatest number of octets of output in all
abbrev pub room_of : MemoryLink → ℕ
room_of m = m.output.room

-- the number of octets of output that still fit
abbrev pub free_of : MemoryLink → ℕ
free_of m = m.output.room - length m.output.octets

-- the number of octets that a receive into `room` octets moves
abbrev pub receives : MemoryLink → ℕ → ℕ
receives m room = min room (min m.most (length (unread_of m)))

-- the number of octets that a transmit of `count` octets moves
abbrev pub transmits : MemoryLink → ℕ → ℕ
transmits m count = min count (min m.most (free_of m))

-- how far the link had come at a mark
abbrev pub moved_at : MemoryLink → Mark → Moved
moved_at m mark = record { left = Some (drop mark.at m.input); written = Some (take mark.written m.output.octets) }

abbrev pub shown_of : MemoryLink → Shown
shown_of m = record {
  left = Some (unread_of m);
  written = Some m.output.octets;
  has_ended = m.ended;
  faults = m.faults;
  waits = 0;
  moment = Some m.moment;
  clock_faults = 0;
  looks = m.looks;
  space = None;
  shut = Some (option_map (moved_at m) m.shut);
  lent = None;
}

-- a link that wasn't used yet
abbrev pub unused : List ℕ → ℕ → Shown
unused input moment = record {
  left = Some input;
  written = Some [];
  has_ended = false;
  faults = 0;
  waits = 0;
  moment = Some moment;
  clock_faults = 0;
  looks = 0;
  space = None;
  shut = Some None;
  lent = None;
}
