use Rattle.std.proofs.Common.{◌-◌, map}
use Rattle.s7_schedule.specs.Drawing.{drawn, seeded}
use Rattle.s7_partner_run.specs.Pairs.{State, Turns, role_by, state_of}
use Rattle.s7_partner_run.proofs.pair.Pair.take_drawn.Given as goal

-- whatever the turns come to that are left to draw, all of them come to it
abbrev pub invariant-loop : goal.invariant-loop
invariant-loop l =
    (new : State) → Turns (map role_by (drawn l.draw (l.fn.steps - l.counter) 2)) (state_of l.self) new
    → Turns (map role_by (seeded l.fn.seed l.fn.steps 2)) (state_of l.fn.self) new
