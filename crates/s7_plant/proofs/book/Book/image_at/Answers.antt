use Rattle.std.proofs.Common.{◌∙◌, ◌-◌, ◌%◌, ap, sym, subst, arith}
use Rattle.std.specs.Vec.Iter.{into_iter_items, into_iter_len}
use Rattle.s7_plant.specs.Answers.{changed}
use Rattle.s7_plant.specs.State.{state_of}
use Rattle.s7_plant.proofs.BlockReplayLemmas.{at_further}
use Rattle.s7_plant.proofs.BlockCopyLemmas.{IsCopyFor, first_copy}
use Rattle.s7_plant.proofs.book.Book.image_at.Goals as goal

pub act-requires-clause-copy : goal.act-requires-clause-copy
act-requires-clause-copy g c =
    let both = first_copy _ (into_iter_items c.loop-entry.copies) (into_iter_items c.next.new.self) (into_iter_len c.loop-entry.copies) (into_iter_len c.next.new.self) c.loop-entry.entry-index c.entry-item.result c.next.result (omega arith) c.entry-item.is c.loop-entry.invariant.copies c.loop-entry.copies.rest.ok.0 c.next.ensures.cases in
    subst (IsCopyFor c.entry-item.result) (sym c.flatten-copy.ensures) both.0

pub loop-entry-preserved : goal.loop-entry-preserved
loop-entry-preserved g c =
    let both = first_copy _ (into_iter_items c.loop-entry.copies) (into_iter_items c.next.new.self) (into_iter_len c.loop-entry.copies) (into_iter_len c.next.new.self) c.loop-entry.entry-index c.entry-item.result c.next.result (omega arith) c.entry-item.is c.loop-entry.invariant.copies c.loop-entry.copies.rest.ok.0 c.next.ensures.cases in
    let before = at_further (state_of c.args.self.now.opening) c.args.self.now.journal.entries c.args.n (c.args.n - c.args.n % 4096) c.loop-entry.entry-index c.entry-item.result c.requires (omega arith) (rw (← c.as_slice.ensures.entries) c.loop-entry-test.true) (rw (← c.as_slice.ensures.entries) c.entry-item.is) in
    record {
      state = c.act.ensures.after ∙ ap (λ s. changed s c.entry-item.result.ask.right c.entry-item.result.ask.request) c.loop-entry.invariant.state ∙ sym before;
      steps = omega arith;
      copies = both.1;
      reply = c.act.ensures.ready;
    }
