use Rattle.std.proofs.Common.{◌+◌, ◌∷◌, ◌++◌, [], length-append, ap, ◌∙◌, sym, arith}
use Rattle.s7_listener.proofs.StepLemmas.{stopped, none_of}
use Rattle.s7_listener.proofs.hosting.accept.Goals as goal

pub returns-then-is_some-clause-len : goal.returns-then-is_some-clause-len
returns-then-is_some-clause-len g c = omega (arith, c.arrive-all.ensures.few, c.loop.invariant.many, c.loop-test.true)

pub returns-then-is_some-clause-accepted : goal.returns-then-is_some-clause-accepted
returns-then-is_some-clause-accepted g c = λ port before first.
    let so_far = c.loop.invariant.serving port before first in (
      so_far.0,
      stopped _ _ _ _ port c.args.most before _ _ _ _ so_far.0 _ _ c.arrive-all.result.1 (sym c.if-is_some.ensures)
          c.arrive-all.ensures.stops so_far.2 (omega (arith, so_far.1, c.loop-test.true)),
    )

pub loop-preserved : goal.loop-preserved
loop-preserved g c =
    let none = none_of c.arrive-all.result.1 (sym c.if-is_some.ensures) in
    record {
      hall = c.arrive-all.ensures.hall;
      next = c.arrive-all.ensures.next none (c.loop.counter + 1) c.loop.invariant.next;
      room = c.arrive-all.ensures.capacity ∙ c.loop.invariant.room;
      many = c.arrive-all.ensures.len none ∙ ap (λ n. n + 1) c.loop.invariant.many;
      kept = c.arrive-all.ensures.kept c.loop.invariant.kept;
      serving = λ port before first.
          let so_far = c.loop.invariant.serving port before first in
          let more = c.arrive-all.ensures.goes_on none port before so_far.0 so_far.2 in
          (so_far.0 ++ more.0 ∷ [], omega (arith, so_far.1, length-append so_far.0 (more.0 ∷ [])), more.1);
    }

pub returns-clause-accepted : goal.returns-clause-accepted
returns-clause-accepted g c = λ port before first.
    let so_far = c.loop.invariant.serving port before first in
    (so_far.0, (so_far.2, omega (arith, so_far.1, c.loop.auto.counter-end, c.loop-test.false)))
