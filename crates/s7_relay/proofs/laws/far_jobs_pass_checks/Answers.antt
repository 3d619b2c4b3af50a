use Rattle.s7_relay.proofs.CheckLemmas.{far_passes}
use Rattle.s7_relay.proofs.laws.far_jobs_pass_checks.Goals as goal

pub returns : goal.returns
returns c = far_passes
