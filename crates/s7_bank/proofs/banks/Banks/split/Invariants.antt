use Rattle.std.specs.Prelude.{◌≡◌, ◌<◌, ◌≤◌, ℕ, length, slice_get}
use Rattle.s7_bank.specs.Seats.{AreSeated}
use Rattle.s7_bank.specs.Sharing.{SplitAt}
use Rattle.s7_bank.proofs.banks.Banks.split.Given as goal

-- a seat was split off at the banks so far, and the seats at the others are still those that were given
abbrev pub invariant-loop-bank : goal.invariant-loop-bank
invariant-loop-bank g l = record {
  halls : AreSeated l.self.halls.items l.seat.seats.items;
  done : (b : ℕ) → b < l.bank → SplitAt l.self.halls.items l.fn.seat.seats.items l.seat.seats.items l.new.seats.items b;
  kept : (b : ℕ) → l.bank ≤ b → slice_get l.seat.seats.items b ≡ slice_get l.fn.seat.seats.items b;
  many : length l.new.seats.items ≡ l.bank;
}
