use Rattle.s7_dialogue.proofs.MessageLemmas.{told_step, left_step, fits_step}
use Rattle.s7_dialogue.proofs.questions.message.add_data_items.Goals as goal

pub loop-k-preserved : goal.loop-k-preserved
loop-k-preserved c = record {
  told = told_step _ _ _ _ _ _ _ _ _ _ c.loop-k-test.true c.octet_count.ensures.count c.split_at.ensures.front c.split_at.ensures.back c.add_data_item.ensures.octets c.loop-k.invariant.told;
  left = left_step _ _ _ _ _ _ c.loop-k-test.true c.octet_count.ensures.count c.split_at.ensures.back c.loop-k.invariant.left;
  fits = fits_step _ _ _ _ _ _ _ _ c.loop-k-test.true c.octet_count.ensures.count c.split_at.ensures.front c.loop-k.invariant.left c.add_data_item.ensures.len c.loop-k.invariant.fits;
  same = c.add_data_item.ensures.room;
}
