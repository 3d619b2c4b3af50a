use Rattle.s7_session.proofs.judge_user.judge_user.Goals as goal

pub returns-in-69-clause-within : goal.returns-in-69-clause-within
returns-in-69-clause-within c = c.judge_security.ensures.within c.args.held.now.granted
