use Rattle.s7_turn.specs.Seats.{IsOf}
use Rattle.s7_examples.proofs.turn.tell.Given as goal

abbrev pub invariant-loop-value : goal.invariant-loop-value
invariant-loop-value g l = IsOf l.hall l.seat
