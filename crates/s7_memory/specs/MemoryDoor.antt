-- What a door in memory shows.
use Rattle.std.specs.Prelude.{ℕ, List, Option, None, Some}
use Rattle.std.specs.Vec.Iter.{into_iter_items}
use Rattle.s7_outer.specs.DoorShown.{DoorShown}
use Rattle.s7_memory.specs.declared.memory_door.MemoryDoor.{MemoryDoor}

abbrev pub door_of : {L : Type 0} → MemoryDoor L → DoorShown L
door_of d = record {
  coming = Some (into_iter_items d.links);
  heard = d.port;
  listens = d.listens;
  faults = λ _. d.faults;
  lent = None;
}

-- a door that wasn't used yet
abbrev pub unused_door : {L : Type 0} → List L → DoorShown L
unused_door links = record { coming = Some links; heard = 0; listens = 0; faults = λ _. 0; lent = None }

-- the number of the call of `next` that fails
abbrev pub failing_place : {L : Type 0} → MemoryDoor L → Option ℕ
failing_place d = d.fail_at

-- the number of calls of `next` so far
abbrev pub next_count : {L : Type 0} → MemoryDoor L → ℕ
next_count d = d.place

-- the number of failed calls
abbrev pub fault_count : {L : Type 0} → MemoryDoor L → ℕ
fault_count d = d.faults
