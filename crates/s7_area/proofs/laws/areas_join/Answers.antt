use Rattle.s7_area.proofs.MemoryLemmas.{key_cmp_total, total-with_area, faultless}
use Rattle.s7_area.proofs.laws.areas_join.Goals as goal

pub returns : goal.returns
returns c = record { ordered = key_cmp_total; total = total-with_area; faultless = faultless }
