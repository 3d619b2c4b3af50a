use Rattle.std.specs.Prelude.{◌≡◌, ◌<◌, ◌≤◌, ℕ, length, slice_get}
use Rattle.s7_bank.specs.Sharing.{MetAt}
use Rattle.s7_bank.proofs.banks.Banks.meet.Given as goal

-- the seats at the banks so far were joined, and those at the others are still there
abbrev pub invariant-loop-bank : goal.invariant-loop-bank
invariant-loop-bank g l = record {
  done : (b : ℕ) → b < l.bank → MetAt l.self.halls.items l.fn.one.seats.items l.fn.two.seats.items l.new.seats.items b;
  first : (b : ℕ) → l.bank ≤ b → slice_get l.first.seats.items b ≡ slice_get l.fn.one.seats.items b;
  second : (b : ℕ) → l.bank ≤ b → slice_get l.second.seats.items b ≡ slice_get l.fn.two.seats.items b;
  many : length l.new.seats.items ≡ l.bank;
}
