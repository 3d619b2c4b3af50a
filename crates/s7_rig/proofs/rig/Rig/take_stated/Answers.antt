use Rattle.std.proofs.Common.{◌||◌, refl, ◌∙◌, false}
use Rattle.std.specs.Prelude.{option_map}
use Rattle.s7_rig.specs.Shown.{first_results, state_told, state_of}
use Rattle.s7_rig.specs.Stopped.{TurnsStop}
use Rattle.s7_rig.proofs.StoppedLemmas.{stops_at}
use Rattle.s7_rig.proofs.TurnsLemmas.{Turns-none, Turns-take}
use Rattle.s7_rig.proofs.TellsLemmas.{any_err, tells_none, tells_then, wanting_here}
use Rattle.s7_rig.proofs.rig.Rig.take_stated.Goals as goal

pub loop-actor-init : goal.loop-actor-init
loop-actor-init g c = record { count = refl; tells = tells_none (first_results (state_told (state_of c.args.self.now))) (option_map g.C.Completion.told c.args.done.now); handed = refl; turns = (false, Turns-none (state_of c.args.self.now)) }

pub loop-actor-preserved : goal.loop-actor-preserved
loop-actor-preserved g c =
    let before = c.loop-actor.invariant.turns in record {
      count = c.turn.ensures.count ∙ c.loop-actor.invariant.count;
      tells = tells_then _ _ _ _ _ _ c.loop-actor.invariant.tells c.in_ok-turn.ensures.tells;
      handed = c.turn.ensures.handed ∙ c.loop-actor.invariant.handed;
      turns = (
        before.0 || c.in_ok-turn.field-0,
        Turns-take c.args.turns.now c.loop-actor.actor-index _ (state_of c.loop-actor.self) _ before.0 c.in_ok-turn.field-0 c.loop-actor-test.true before.1 c.in_ok-turn.ensures.turn,
      );
    }

pub returns-in_err-turn-clause-tells_wanting : goal.returns-in_err-turn-clause-tells_wanting
returns-in_err-turn-clause-tells_wanting g c =
    let turns = c.args.turns.now in
    let before = c.loop-actor.invariant.turns in
    any_err _ (wanting_here (TurnsStop turns) _ _ _ _ _
    (stops_at turns c.loop-actor.actor-index _ _ before.0 c.loop-actor-test.true before.1) c.loop-actor.invariant.tells
    c.in_err-turn.ensures.untold)
