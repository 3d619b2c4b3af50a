use Rattle.s7_session.proofs.judge.judge_function.Goals as goal

pub returns-in-40-clause-within : goal.returns-in-40-clause-within
returns-in-40-clause-within c = c.judge_control.ensures.within c.args.granted
