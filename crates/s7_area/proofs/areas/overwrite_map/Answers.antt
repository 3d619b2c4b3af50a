use Rattle.s7_area.proofs.OverwriteLemmas.{none_left, none_right}
use Rattle.s7_area.proofs.areas.overwrite_map.Goals as goal

pub returns-in_default : goal.returns-in_default
returns-in_default c = none_left c.args.map.now c.args.from.now c.in_default.is c.requires

pub returns-in_default-from : goal.returns-in_default-from
returns-in_default-from c = none_right c.in-Some.map.entries c.args.from.now c.in_default-from.is (rw c.in-Some.is at c.requires)
