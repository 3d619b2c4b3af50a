-- What an output in memory shows.
use Rattle.std.specs.Prelude.{ℕ, List, [], Some}
use Rattle.s7_outer.specs.OutShown.{OutShown}
use Rattle.s7_memory.specs.declared.memory_out.MemoryOut.{MemoryOut}

abbrev pub text_of : MemoryOut → List ℕ
text_of m = m.output.octets

-- the greatest number of octets of text in all
abbrev pub room_of : MemoryOut → ℕ
room_of m = m.output.room

abbrev pub output_of : MemoryOut → OutShown
output_of m = record { text = Some (text_of m); faults = m.faults }

-- an output that wasn't used yet
abbrev pub empty_output : OutShown
empty_output = record { text = Some []; faults = 0 }
