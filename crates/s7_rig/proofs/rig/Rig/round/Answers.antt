use Rattle.std.proofs.Common.{◌≡◌, ◌*◌, ◌<◌, length, map, refl, ◌∙◌, subst, arith}
use Rattle.std.specs.Prelude.{option_map}
use Rattle.std.proofs.lemmas.List.{length-map}
use Rattle.s7_rig.specs.Numbers.{count_from}
use Rattle.s7_rig.specs.Shown.{first_results, state_told, post_of, state_of}
use Rattle.s7_rig.specs.Runs.{Turns, actors_of}
use Rattle.s7_rig.specs.Stopped.{TurnsStop}
use Rattle.s7_rig.proofs.StoppedLemmas.{stops_count}
use Rattle.s7_rig.proofs.TurnsLemmas.{Turns-none, Turns-count}
use Rattle.s7_rig.proofs.TellsLemmas.{any_err, tells_none, tells_then, wanting_here}
use Rattle.s7_rig.proofs.rig.Rig.round.Goals as goal

pub loop-actor-init : goal.loop-actor-init
unfolding count_from
loop-actor-init g c = record {
  end = omega arith;
  count = refl;
  tells = tells_none (first_results (state_told (state_of c.args.self.now))) (option_map g.C.Completion.told c.args.done.now);
  handed = refl;
  turns = Turns-none (state_of c.args.self.now);
}

pub loop-actor-preserved : goal.loop-actor-preserved
loop-actor-preserved g c = record {
  end = omega arith;
  count = c.turn.ensures.count ∙ c.loop-actor.invariant.count;
  tells = tells_then _ _ _ _ _ _ c.loop-actor.invariant.tells c.in_ok-stirred.ensures.tells;
  handed = c.turn.ensures.handed ∙ c.loop-actor.invariant.handed;
  turns = Turns-count c.loop-actor.actor _ (state_of c.loop-actor.self) _ _ _ c.loop-actor.invariant.turns c.in_ok-stirred.ensures.turn;
}

pub returns-clause-turns : goal.returns-clause-turns
returns-clause-turns g c =
    let n : c.loop-actor.actor ≡ 2 * length (map post_of c.args.self.now.stations.items) =
    omega (arith, length-map c.args.self.now.stations.items post_of) in
    subst (λ k. Turns (count_from 0 k) (state_of c.args.self.now) (state_of c.loop-actor.self) c.loop-actor.stirred) n c.loop-actor.invariant.turns

pub returns-in_err-stirred-clause-tells_wanting : goal.returns-in_err-stirred-clause-tells_wanting
returns-in_err-stirred-clause-tells_wanting g c =
    let n = 2 * length (map post_of c.args.self.now.stations.items) in
    let below : c.loop-actor.actor < n = omega (arith, length-map c.args.self.now.stations.items post_of) in
    any_err _ (wanting_here (TurnsStop (actors_of (state_of c.args.self.now))) _ _ _ _ _
    (stops_count c.loop-actor.actor n _ _ _ below c.loop-actor.invariant.turns) c.loop-actor.invariant.tells
    c.in_err-stirred.ensures.untold)
