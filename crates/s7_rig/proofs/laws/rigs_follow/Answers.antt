use Rattle.s7_rig.proofs.RigFollows.{rig_follows, rig_rises}
use Rattle.s7_rig.proofs.laws.rigs_follow.Goals as goal

pub returns : goal.returns
returns c = record { follow = rig_follows; rise = rig_rises }
