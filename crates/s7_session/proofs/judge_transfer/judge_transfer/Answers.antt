use Rattle.std.proofs.Common.{Some}
use Rattle.s7_session.proofs.judge_transfer.judge_transfer.Goals as goal

pub returns-in-26-clause-within : goal.returns-in-26-clause-within
returns-in-26-clause-within c = c.judge_download.ensures.within (Some c.args.pdu)

pub returns-in-29-clause-within : goal.returns-in-29-clause-within
returns-in-29-clause-within c = c.judge_upload.ensures.within (Some c.args.pdu)

pub returns-in_default-clause-within : goal.returns-in_default-clause-within
returns-in_default-clause-within c = c.judge_end.ensures.within (Some c.args.pdu)
