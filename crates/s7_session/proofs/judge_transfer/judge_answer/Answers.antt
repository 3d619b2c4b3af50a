use Rattle.s7_session.proofs.judge_transfer.judge_answer.Goals as goal

pub returns-in-SendPiece-clause-within : goal.returns-in-SendPiece-clause-within
returns-in-SendPiece-clause-within c = c.judge_piece.ensures.within c.args.held.now.granted

pub returns-in-Close-clause-within : goal.returns-in-Close-clause-within
returns-in-Close-clause-within c = c.judge_close.ensures.within c.args.held.now.granted
