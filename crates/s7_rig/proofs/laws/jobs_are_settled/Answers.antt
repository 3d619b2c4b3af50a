use Rattle.s7_rig.proofs.JobLawLemmas.{job_stands}
use Rattle.s7_rig.proofs.OpeningLemmas.{connect_is_settled}
use Rattle.s7_rig.proofs.OverLemmas.{job_is_settled}
use Rattle.s7_rig.proofs.laws.jobs_are_settled.Goals as goal

pub returns : goal.returns
returns c = record { settled = job_is_settled; connected = connect_is_settled; stands = job_stands }
