use Rattle.std.proofs.Common.{arith}
use Rattle.s7_dialogue.proofs.ItemLemmas.{read_step}
use Rattle.s7_dialogue.proofs.answers.data_items.read_item_answers.Goals as goal

pub loop-k-preserved : goal.loop-k-preserved
loop-k-preserved c = record {
  read =
      read_step _ _ _ _ _ _ _ _ _ _ _ c.as_slice-item-items.ensures.items c.len.ensures.len c.loop-k-test.true
      c.first_item.ensures c.in_ok-first.was c.push.ensures.items c.loop-k.invariant.read;
  many = omega (arith, c.push.ensures.len, c.loop-k.invariant.many);
}
