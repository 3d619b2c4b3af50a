use Rattle.std.proofs.Common.{◌≡◌, ◌+◌, ◌≤◌, Some}
use Rattle.s7_turn.specs.Seats.{IsOf, next}
use Rattle.s7_service_tests.proofs.turns.places.Given as goal

abbrev pub invariant-loop : goal.invariant-loop
invariant-loop l = IsOf l.hall l.seat × (next l.seat ≡ Some (l.counter + 1)) × (l.counter ≤ l.seats)
