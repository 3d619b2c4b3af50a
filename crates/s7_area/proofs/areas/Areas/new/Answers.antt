use Rattle.s7_area.proofs.MemoryLemmas.{Keeps-none}
use Rattle.s7_area.proofs.areas.Areas.new.Goals as goal

pub invariant_of-result : goal.invariant_of-result
invariant_of-result c = Keeps-none
