use Rattle.std.proofs.Common.{◌≡◌, ◌++◌, ◌+◌, ◌<◌, ◌≤◌, ℕ, length, vec_capacity}
use Rattle.std.specs.Vec.Iter.{into_iter_items, into_iter_len}
use Rattle.s7_bank.specs.Opening.{OpenedAt}
use Rattle.s7_bank.proofs.banks.Banks.over.Given as goal

-- the machines so far have their halls and seats
abbrev pub invariant-loop-machine : goal.invariant-loop-machine
invariant-loop-machine g l = record {
  may : (goal.iterator-loop-machine g).can_next l.machine-iterator;
  ends : (goal.iterator-loop-machine g).is_finite l.machine-iterator;
  all : l.yielded ++ into_iter_items l.machine-iterator ≡ l.fn.machines.items;
  left : into_iter_len l.machine-iterator ≡ length (into_iter_items l.machine-iterator);
  count : length l.halls.items + into_iter_len l.machine-iterator ≡ length l.fn.machines.items;
  room : length l.fn.machines.items ≤ vec_capacity l.halls;
  opened : (b : ℕ) → b < length l.yielded → OpenedAt l.yielded l.halls.items l.seat.seats.items b;
  many : length l.halls.items ≡ length l.yielded;
  seated : length l.seat.seats.items ≡ length l.yielded;
}
