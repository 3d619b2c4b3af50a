-- A seat of a hall as contracts of a bench see it.
use Rattle.s7_turn.specs.declared.machine.Machine.{Ghosts}
use Rattle.s7_turn.specs.declared.hall.Seat.{Seat}
use Rattle.s7_turn.specs.Seats.{seen, caller, callers, next}
use Rattle.s7_plant.specs.declared.request.Ask.{Ask}
use Rattle.s7_session.specs.Books.{History}
use Rattle.s7_listener.specs.Benches.{SeatTold}

abbrev pub seat_told : {M P : Type 0} {g : Ghosts M Ask P} → Seat M Ask P g → SeatTold History
seat_told s = record { number = caller s; callers = callers s; next = next s; seen = seen s }
