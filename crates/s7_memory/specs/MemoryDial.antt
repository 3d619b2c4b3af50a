-- What a dial in memory shows.
use Rattle.std.specs.Prelude.{ℕ, Option, None, Some}
use Rattle.s7_outer.specs.DialShown.{DialShown}
use Rattle.s7_outer.specs.declared.dial.Dialled.{Dialled}
use Rattle.s7_outer.specs.declared.dial.Dialled.TheVariants as dialled
use Rattle.s7_memory.specs.declared.memory_dial.MemoryDial.{MemoryDial}

abbrev pub dial_of : {L : Type 0} → MemoryDial L → DialShown L
dial_of d = record { next = λ _ _. d.link; faults = λ _ _. d.faults; calls = d.calls }

-- a dial that wasn't used yet
abbrev pub unused_dial : {L : Type 0} → Option L → DialShown L
unused_dial link = record { next = λ _ _. link; faults = λ _ _. 0; calls = 0 }

-- the link that the dial has
abbrev pub link_of : {L : Type 0} → MemoryDial L → Option L
link_of d = d.link

-- the number of failed calls
abbrev pub fault_count : {L : Type 0} → MemoryDial L → ℕ
fault_count d = d.faults

-- a call gives the link if the dial has one, and fails otherwise
abbrev pub called : {L : Type 0} → Option L → Dialled L
called None = dialled.Failed
called (Some link) = dialled.Link link
