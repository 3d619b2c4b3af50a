use Rattle.std.proofs.Common.{◌∙◌}
use Rattle.s7_item.proofs.ItemLemmas.{spelled_more}
use Rattle.s7_item.proofs.params.write_each.Goals as goal

pub loop-k-preserved : goal.loop-k-preserved
loop-k-preserved c =
    spelled_more _ _ _ _ _ _ c.loop-k-test.true c.loop-k.invariant (c.copy_from_slice.ensures.after ∙ c.octets.ensures)
