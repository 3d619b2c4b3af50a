use Rattle.std.proofs.Common.{◌^◌, arith}
use Rattle.s7_args.proofs.Actors.{actor_taken, actor_refused}
use Rattle.s7_args.proofs.turns.read_actor.Goals as goal

pub returns-in-Ok : goal.returns-in-Ok
returns-in-Ok c = actor_taken c.args.count c.in-Ok.actor c.args.text.now c.in-Ok.ensures.value.0.1 c.in-Ok.ensures.value.0.0.0 c.if-actor-count.true

pub returns-in_default-2 : goal.returns-in_default-2
returns-in_default-2 c =
    let fits = c.ranges.count.fits in
    actor_refused c.args.count (2 ^ 32) c.args.text.now (omega arith) c.in_default.ensures.value.0
