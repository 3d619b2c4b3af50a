-- Counts of faults and waits. They never fall, and they stay at 2^64 - 1 once they reach it.
use Rattle.std.specs.Prelude.{ℕ, ◌+◌, ◌-◌, ◌≤◌, ◌^◌, min}

-- the count after one more; at 2^64 - 1 it stays
abbrev pub raised : ℕ → ℕ
raised before = min (before + 1) (2 ^ 64 - 1)

-- the count rose, or is 2^64 - 1
abbrev pub Rose : ℕ → ℕ → Type 0
Rose before now = min (before + 1) (2 ^ 64 - 1) ≤ now

-- the count rose by at least n, or is 2^64 - 1
abbrev pub RoseBy : ℕ → ℕ → ℕ → Type 0
RoseBy n before now = min (before + n) (2 ^ 64 - 1) ≤ now

-- the count rose by exactly n, or to 2^64 - 1
abbrev pub RoseExactly : ℕ → ℕ → ℕ → Type 0
RoseExactly n before now = RoseBy n before now × (now ≤ before + n)
