use Rattle.std.proofs.Common.{sym}
use Rattle.s7_rig.proofs.LoansLemmas.{same_loan, taken}
use Rattle.s7_rig.proofs.links.turn_over.Goals as goal

pub returns : goal.returns
returns c =
    let turn = c.turn.ensures.turn in
    let kept = c.turn.ensures.kept in
    let lent = same_loan _ _ c.args.pipes.now c.turn.new.line.pipes.now c.turn.new.line.side turn.moves.lent in
    let pipes = c.pipes-1.given.1 (sym lent) in
    let book = c.book-1.given.1 (sym kept.0) in
    rw pipes (rw book
    (taken _ _ _ _ c.turn.new.line.side c.args.session.now c.turn.new.self _ _ _ c.turn.new.doer c.turn.result turn
    (λ o e. (c.turn.ensures.stays o e).1) c.turn.ensures.number kept.1 kept.2))
