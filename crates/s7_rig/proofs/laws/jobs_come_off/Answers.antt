use Rattle.s7_rig.proofs.JobLawLemmas.{job_comes_off}
use Rattle.s7_rig.proofs.laws.jobs_come_off.Goals as goal

pub returns : goal.returns
returns c = record { comes_off = job_comes_off }
