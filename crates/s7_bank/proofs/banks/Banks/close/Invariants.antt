use Rattle.std.specs.Prelude.{◌≡◌, ◌+◌, ◌≤◌, ℕ, length, slice_get, vec_len, vec_capacity}
use Rattle.s7_bank.proofs.SharingLemmas.{ClosedSoFar}
use Rattle.s7_bank.proofs.banks.Banks.close.Given as goal

-- the banks so far are closed, and the halls and seats of the others are left
abbrev pub invariant-loop-bank : goal.invariant-loop-bank
invariant-loop-bank g l = record {
  halls_are : (b : ℕ) → slice_get l.halls.items b ≡ slice_get l.fn.self.halls.items (l.bank + b);
  seats_are : (b : ℕ) → slice_get l.seats.items b ≡ slice_get l.fn.seat.seats.items (l.bank + b);
  left : l.bank + length l.halls.items ≡ length l.fn.self.halls.items;
  seated : l.bank + length l.seats.items ≡ length l.fn.seat.seats.items;
  room : vec_len l.into + length l.halls.items ≤ vec_capacity l.into;
  made : ClosedSoFar l.fn.self.halls.items l.fn.seat.seats.items l.fn.into.items l.into.items l.bank;
}
