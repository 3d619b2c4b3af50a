use Rattle.s7_session.proofs.judge.judge_job.Goals as goal

pub returns-then-code-clause-within : goal.returns-then-code-clause-within
returns-then-code-clause-within c = c.judge_negotiation.ensures.within c.args.granted
