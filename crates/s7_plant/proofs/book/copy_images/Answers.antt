use Rattle.std.proofs.Common.{◌+◌, take, sym, subst, arith}
use Rattle.std.specs.List.{AllZip}
use Rattle.std.proofs.lemmas.List.{take_all}
use Rattle.s7_plant.proofs.BlockCopyLemmas.{IsCopyFor, copies_more}
use Rattle.s7_plant.proofs.book.copy_images.Goals as goal

pub loop-entry-preserved : goal.loop-entry-preserved
loop-entry-preserved c =
    let all = copies_more c.args.entries.now c.loop-entry.copies.items c.loop-entry.entry-index c.entry-item.result c.in_ok-copy.copy c.loop-entry-test.true c.entry-item.is c.loop-entry.invariant.copies c.in_ok-copy.ensures in
    record {
      copies = subst (AllZip IsCopyFor (take (c.loop-entry.entry-index + 1) c.args.entries.now)) (sym c.push_reserved.ensures.items) all;
      len = omega arith;
      room = omega arith;
    }

pub returns : goal.returns
returns c = subst (λ es. AllZip IsCopyFor es c.loop-entry.copies.items) (take_all c.loop-entry.entry-index c.args.entries.now c.loop-entry-test.false) c.loop-entry.invariant.copies
