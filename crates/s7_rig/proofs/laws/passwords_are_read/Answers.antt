use Rattle.s7_rig.proofs.UserPasswordLemmas.{password_read}
use Rattle.s7_rig.proofs.laws.passwords_are_read.Goals as goal

pub returns : goal.returns
returns c = record { read = password_read }
