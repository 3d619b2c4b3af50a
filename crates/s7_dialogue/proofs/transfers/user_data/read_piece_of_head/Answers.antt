use Rattle.std.proofs.Common.{sym, subst}
use Rattle.s7_dialogue.specs.declared.stages.single.Ask.TheVariants as asked
use Rattle.s7_dialogue.specs.Singles.{TellsIfSome}
use Rattle.s7_dialogue.proofs.UserReadLemmas.{piece_of_head}
use Rattle.s7_dialogue.proofs.transfers.user_data.read_piece_of_head.Goals as goal

pub read_head-requires : goal.read_head-requires
read_head-requires c =
    let h =
    piece_of_head c.args.under c.args.so_far.now c.args.body.now c.args.params.now c.read_piece.result
    c.in_ok-told.told c.read_piece.ensures c.in_ok-told.was in
    (h.some, h.tells, h.whole)

pub returns : goal.returns
returns c =
    let h =
    piece_of_head c.args.under c.args.so_far.now c.args.body.now c.args.params.now c.read_piece.result
    c.in_ok-told.told c.read_piece.ensures c.in_ok-told.was in
    subst (TellsIfSome (asked.Head c.args.block) c.args.so_far.now c.read_head.result) (sym h.is)
    (c.read_head.ensures h.some h.tells h.whole)
