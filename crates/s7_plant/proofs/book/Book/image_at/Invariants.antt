use Rattle.std.proofs.Common.{◌≡◌, ◌+◌, drop}
use Rattle.std.specs.List.{AllZip}
use Rattle.std.specs.Vec.Iter.{into_iter_items}
use Rattle.s7_plant.specs.Journals.{at}
use Rattle.s7_plant.specs.Replies.{IsReadyReply}
use Rattle.s7_plant.specs.State.{state_of}
use Rattle.s7_plant.proofs.BlockCopyLemmas.{IsCopyFor}
use Rattle.s7_plant.proofs.book.Book.image_at.Given as goal

-- the entries so far were applied, at one step each, and those to come have their copies
abbrev pub invariant-loop-entry : goal.invariant-loop-entry
invariant-loop-entry g l = record {
  state : state_of l.image ≡ at (state_of l.self.opening) l.self.journal.entries (l.first + l.entry-index);
  steps : l.steps ≡ l.fn.steps + l.entry-index;
  copies : AllZip IsCopyFor (drop l.entry-index l.entries) (into_iter_items l.copies);
  reply : IsReadyReply l.reply;
}
