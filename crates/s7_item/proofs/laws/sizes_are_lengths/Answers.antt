use Rattle.s7_item.proofs.SizeLaws.{reads_sized, writes_sized, answers_sized, answers_fit}
use Rattle.s7_item.proofs.laws.sizes_are_lengths.Goals as goal

pub returns : goal.returns
returns c = record { reads = reads_sized; writes = writes_sized; answers = answers_sized; fit = answers_fit }
