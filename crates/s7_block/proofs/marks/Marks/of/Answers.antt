use Rattle.s7_block.proofs.MarkLemmas.{list-taken}
use Rattle.s7_block.proofs.marks.Marks.of.Goals as goal

pub invariant_of-result : goal.invariant_of-result
invariant_of-result c =
    (list-taken c.args.blocks.now c.as_slice-block-items.result.now c.loop-block.block-index c.limit-limit.result c.loop-block.marks.items c.limit-limit.ensures.store c.as_slice-block-items.ensures.images c.limit-limit.ensures.limit c.loop-block-test.false c.loop-block.invariant.marked, c.loop-block.invariant.room)
