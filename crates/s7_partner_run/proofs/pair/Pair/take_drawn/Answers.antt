use Rattle.std.proofs.Common.{◌-◌, arith}
use Rattle.s7_partner_run.specs.Pairs.{state_of}
use Rattle.s7_partner_run.proofs.TurnLemmas.{drawn-none, drawn-all, drawn-more}
use Rattle.s7_partner_run.proofs.pair.Pair.take_drawn.Goals as goal

pub loop-init : goal.loop-init
loop-init c new h = drawn-all c.new-draw.result _ c.args.steps (state_of c.args.self.now) new c.new-draw.ensures h

pub loop-preserved : goal.loop-preserved
loop-preserved c new h =
    c.loop.invariant new
    (drawn-more c.loop.draw _ c.args.steps c.loop.counter _ _ (state_of c.loop.self) (state_of c.turn.new.self) new
    c.loop-test.true c.actor-actor.ensures.x c.actor-actor.ensures.actor c.role_by.ensures c.in_ok-turn.ensures h)

pub returns : goal.returns
returns c =
    c.loop.invariant (state_of c.loop.self)
    (drawn-none c.loop.draw (c.args.steps - c.loop.counter) (state_of c.loop.self) (omega arith))
