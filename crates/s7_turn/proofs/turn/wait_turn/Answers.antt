use Rattle.std.proofs.Common.{rules, ap, ◌∙◌}
use Rattle.s7_turn.specs.Histories.{has}
use Rattle.s7_turn.proofs.Turning.{draws, looks}
use Rattle.s7_turn.proofs.turn.wait_turn.Goals as goal

pub fetch_add-ticket-requires : goal.fetch_add-ticket-requires
fetch_add-ticket-requires g c = let me = c.pass.ensures.seat.2 in
    (search rules, search rules, draws _ _ _ _ _ _ (ap (λ m. m.0.stage) me ∙ c.requires.idle.0) (ap (λ m. has m.0.callers m.0.caller) me ∙ c.requires.idle.1))

pub load-served-requires : goal.load-served-requires
load-served-requires g c = (search rules, search rules, looks _ _ _ _ _ _ _ (ap (λ m. m.0.stage) c.loop.invariant.2.2))
