use Rattle.std.proofs.Common.{◌≡◌, ◌*◌, ◌-◌, length, refl, subst, ◌∙◌, arith}
use Rattle.std.specs.Prelude.{option_map}
use Rattle.s7_rig.specs.Shown.{first_results, state_told, state_of}
use Rattle.s7_rig.specs.Stopped.{TurnsStop}
use Rattle.s7_schedule.specs.Drawing.{actor_by, seeded}
use Rattle.s7_rig.proofs.DrawnLemmas.{drawn-begin, drawn-none, drawn-stop, drawn-turn}
use Rattle.s7_rig.proofs.StoppedLemmas.{leads_all}
use Rattle.s7_rig.proofs.TellsLemmas.{any_err, tells_none, tells_then, wanting_here}
use Rattle.s7_rig.proofs.rig.Rig.take_drawn.Goals as goal

pub loop-init : goal.loop-init
loop-init g c = record {
  count = refl;
  tells = tells_none (first_results (state_told (state_of c.args.self.now))) (option_map g.C.Completion.told c.args.done.now);
  handed = refl;
  turns = drawn-begin c.new-draw.result _ c.args.steps _ (state_of c.args.self.now) c.new-draw.ensures;
}

pub loop-preserved : goal.loop-preserved
loop-preserved g c =
    let n = length c.args.self.now.stations.items in
    let actors : 2 * c.len.result ≡ 2 * n = omega (arith, c.len.ensures, c.loop.invariant.count, c.loop.self.stations.ok.0) in
    let next = c.actor-actor.ensures in record {
      count = c.turn.ensures.count ∙ c.loop.invariant.count;
      tells = tells_then _ _ _ _ _ _ c.loop.invariant.tells c.in_ok-turn.ensures.tells;
      handed = c.turn.ensures.handed ∙ c.loop.invariant.handed;
      turns = drawn-turn (seeded c.args.seed c.args.steps (2 * n)) c.loop.draw c.actor-actor.new.self c.args.steps
          c.loop.counter (2 * n) c.actor-actor.result _ (state_of c.loop.self) (state_of c.turn.new.self) _
          c.loop-test.true next.x
          (subst (λ k. c.actor-actor.result ≡ actor_by c.actor-actor.new.self k) actors next.actor)
          c.loop.invariant.turns c.in_ok-turn.ensures.turn;
    }

pub returns-clause-turns : goal.returns-clause-turns
returns-clause-turns g c =
    leads_all _ _ _ (state_of c.loop.self) (drawn-none c.loop.draw (c.args.steps - c.loop.counter) _ (omega arith)) c.loop.invariant.turns

pub returns-in_err-turn-clause-tells_wanting : goal.returns-in_err-turn-clause-tells_wanting
returns-in_err-turn-clause-tells_wanting g c =
    let drawn = seeded c.args.seed c.args.steps (2 * length c.args.self.now.stations.items) in
    any_err _ (wanting_here (TurnsStop drawn) _ _ _ _ _
    (drawn-stop drawn c.loop.draw c.args.steps c.loop.counter _ _ _ c.loop-test.true c.loop.invariant.turns)
    c.loop.invariant.tells c.in_err-turn.ensures.untold)
