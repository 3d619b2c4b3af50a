use Rattle.s7_turn.specs.Seats.{IsOf}
use Rattle.s7_service_tests.proofs.turns.add_ones.Given as goal

abbrev pub invariant-loop : goal.invariant-loop
invariant-loop g l = IsOf l.hall l.seat
