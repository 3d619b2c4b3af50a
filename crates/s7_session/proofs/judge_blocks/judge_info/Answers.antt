use Rattle.std.proofs.Common.{sym, ap, ◌∙◌}
use Rattle.s7_session.specs.Judgement.{informed}
use Rattle.s7_session.proofs.judge_blocks.judge_info.Goals as goal

pub returns-in-Some-clause-judged : goal.returns-in-Some-clause-judged
returns-in-Some-clause-judged c = λ link sequence.
    ap (informed link c.args.pdu sequence) (sym c.in-Some.is ∙ c.block_told.ensures)
