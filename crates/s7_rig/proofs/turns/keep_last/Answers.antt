use Rattle.std.proofs.Common.{◌∙◌, arith}
use Rattle.s7_rig.proofs.HaltLemmas.{last_stays}
use Rattle.s7_rig.proofs.turns.keep_last.Goals as goal

pub loop-rest-preserved : goal.loop-rest-preserved
loop-rest-preserved c =
    let one = last_stays c.loop-rest.rest.items c.pass_over.new.rest.items c.pass_over.ensures
    (omega (arith, c.loop-rest-test.true, c.len.ensures, c.loop-rest.rest.ok)) in record {
      left = one.0 ∙ c.loop-rest.invariant.left;
      fewer = omega (arith, one.1, c.loop-rest.invariant.fewer);
    }
