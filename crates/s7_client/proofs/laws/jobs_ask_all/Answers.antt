use Rattle.s7_client.proofs.PlanLemmas.{course_asks_all}
use Rattle.s7_client.proofs.laws.jobs_ask_all.Goals as goal

pub returns : goal.returns
returns c = course_asks_all
