-- What the calls in a seat's name change of the seat, and what stays.
use Rattle.std.specs.Prelude.{◌≡◌, ℕ, ◌≤◌, length}
use Rattle.s7_turn.specs.declared.machine.Machine.{Ghosts}
use Rattle.s7_turn.specs.declared.hall.Seat.{Seat}
use Rattle.s7_turn.specs.Seats.{seen, caller, callers, next}
use Rattle.s7_listener.specs.Begins.{Begins}

-- A seat of a hall with this limit of its history went on: its caller, the callers that it represents and the number
-- that it hands out next stay, it lost nothing of what it had seen, and it saw no more calls than the limit.
pub record SeatGoesOn {M R P : Type 0} {g : Ghosts M R P} (limit : ℕ) (old new : Seat M R P g) : Type 0 where
  pub same_caller : caller new ≡ caller old
  pub same_callers : callers new ≡ callers old
  pub same_next : next new ≡ next old
  pub begins : Begins (seen old) (seen new)
  pub fits : length (seen old) ≤ limit → length (seen new) ≤ limit
