use Rattle.std.proofs.Common.{sym, ap, subst, arith}
use Rattle.s7_partner_run.specs.Alone.{most_turns}
use Rattle.s7_partner_run.specs.Talking.{post_of}
use Rattle.s7_partner_run.proofs.AloneLemmas.{tells_begin, tells_more, tells_over, tells_all, talked_out, talked_short}
use Rattle.s7_partner_run.proofs.alone.talk.Goals as goal

pub loop-init : goal.loop-init
loop-init g c = record { tells = tells_begin _ _ _; faults = omega arith }

pub returns-in-Err-clause-talked : goal.returns-in-Err-clause-talked
returns-in-Err-clause-talked g c =
    talked_short c.loop.counter _ (post_of c.loop.talker) _ _ _ _ _ _ _ c.in-Err.end c.loop-test.true
    (sym c.if-is_over.ensures) c.in-Err.ensures.talks c.loop.invariant.tells

pub loop-preserved : goal.loop-preserved
loop-preserved g c =
    let t = c.in_default.ensures.talks in
    let was = c.loop.invariant.faults in
    let now = c.talk_once.ensures.faults in
    record {
      tells = tells_more c.loop.counter _ (post_of c.loop.talker) _ _ _ _ _ _ _ t.0 (sym c.if-is_over.ensures) t.1 t.2
          c.loop.invariant.tells;
      faults = omega (arith, was, now);
    }

pub returns-then-is_over-clause-talked : goal.returns-then-is_over-clause-talked
returns-then-is_over-clause-talked g c =
    talked_out _ (post_of c.loop.talker) _ _ _ _ _ c.end_of.ensures
    (tells_over c.loop.counter most_turns _ (post_of c.loop.talker) _ _ _ _ c.loop-test.true (sym c.if-is_over.ensures)
    c.loop.invariant.tells)

pub returns-clause-talked : goal.returns-clause-talked
returns-clause-talked g c =
    talked_out _ (post_of c.loop.talker) _ _ _ _ _ c.end_of-2.ensures
    (tells_all c.loop.counter most_turns _ (post_of c.loop.talker) _ _ _ _ c.loop.auto.counter-end c.loop-test.false
    c.loop.invariant.tells)
