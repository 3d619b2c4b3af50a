use Rattle.s7_split.proofs.GroupLaws.{groups_exact, groups_short}
use Rattle.s7_split.proofs.laws.groups_are_exact.Goals as goal

pub returns : goal.returns
returns c = record { exact = groups_exact; short = groups_short }
