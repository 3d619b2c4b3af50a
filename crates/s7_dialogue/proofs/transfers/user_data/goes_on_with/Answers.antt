use Rattle.std.proofs.Common.{refl, arith, ◌∙◌}
use Rattle.s7_dialogue.proofs.UserReadLemmas.{joined, last_goes_on}
use Rattle.s7_dialogue.proofs.transfers.user_data.goes_on_with.Goals as goal

pub returns : goal.returns
returns c =
    c.is_whole.ensures
    ∙ last_goes_on c.args.subject c.args.so_far.now c.args.octets.now _ c.args.more c.if-more.false (omega arith)
    (joined _ _ _ _ _ _ _ _ refl refl c.copy_from_slice.ensures.after c.copy_from_slice-2.ensures.after)
