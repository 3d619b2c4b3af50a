use Rattle.s7_split.proofs.GroupLaws.{ends_cut}
use Rattle.s7_split.proofs.laws.ends_cut_groups.Goals as goal

pub returns : goal.returns
returns c = ends_cut
