-- The settings of a gate that delays one link.
use Rattle.std.specs.Prelude.{ℕ}
use Rattle.s7_memory.specs.declared.hold_gate.HoldGate.{HoldGate}

-- the link whose first request is delayed
abbrev pub held_of : HoldGate → ℕ
held_of gate = gate.held

-- the link whose second request releases it
abbrev pub until_of : HoldGate → ℕ
until_of gate = gate.until

-- the greatest number of looks
abbrev pub turns_of : HoldGate → ℕ
turns_of gate = gate.turns
