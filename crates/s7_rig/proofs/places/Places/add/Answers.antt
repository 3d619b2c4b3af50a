use Rattle.std.proofs.Common.{◌∙◌, arith}
use Rattle.s7_rig.proofs.NumbersLemmas.{count_from-begin, count_from-onto}
use Rattle.s7_rig.proofs.places.Places.add.Goals as goal

pub loop-number-init : goal.loop-number-init
loop-number-init c = record {
  least = omega arith;
  added = c.self.view_is ∙ count_from-begin c.args.self.now c.args.first;
}

pub loop-number-preserved : goal.loop-number-preserved
loop-number-preserved c = record {
  least = omega arith;
  added =
      let ok = c.if-is_err.ensures.negation in
      let items = c.push.ensures.items in
      (rw ok at items) ∙ count_from-onto _ _ _ _ c.loop-number.invariant.least c.loop-number.invariant.added;
}
