use Rattle.std.proofs.Common.{◌≡◌, ◌<◌, ℕ, get_or, length}
use Rattle.s7_bank.specs.Seats.{caller_at}
use Rattle.s7_bank.proofs.seat.BankSeat.callers.Given as goal

-- the callers at the banks so far are there
abbrev pub invariant-loop-bank : goal.invariant-loop-bank
invariant-loop-bank g l = record {
  len : length l.callers ≡ 16;
  so : (b : ℕ) → b < l.bank → get_or l.callers b 0 ≡ caller_at l.self.seats.items b;
}
