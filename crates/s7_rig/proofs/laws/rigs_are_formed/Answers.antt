use Rattle.s7_rig.proofs.FormedLemmas.{rig_formed}
use Rattle.s7_rig.proofs.laws.rigs_are_formed.Goals as goal

pub returns : goal.returns
returns c = record { results = rig_formed c.ends_have_form.ensures }
