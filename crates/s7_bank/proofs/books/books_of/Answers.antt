use Rattle.std.proofs.Common.{◌≡◌, ◌++◌, length, map, refl, ap, sym, subst, ◌∙◌, arith}
use Rattle.std.specs.Vec.Iter.{into_iter_items}
use Rattle.s7_bank.specs.Areas.{part_of}
use Rattle.s7_bank.proofs.ListLemmas.{length_more, walk_more, walk_left}
use Rattle.s7_bank.proofs.OpeningLemmas.{next_here}
use Rattle.s7_bank.proofs.BookLemmas.{AreOpened, later_opens, books_more}
use Rattle.s7_bank.proofs.books.books_of.Goals as goal

pub loop-part-preserved : goal.loop-part-preserved
loop-part-preserved g c =
    let at = c.loop-part in
    let seen = g.O.Observer.seen in
    let banks = c.args.banks in
    let limit = c.args.limit in
    let areas = c.args.areas in
    let blocks = c.args.blocks in
    let observers = map seen c.args.observers.items in
    let part = c.in-Some.part in
    let rest = into_iter_items c.next.new.self in
    let steps = c.in-Some.ensures.steps in
    let books = at.books.items in
    let book = c.in_ok-plain_book.field-0 in
    let opened = c.in_ok-plain_book.ensures in
    let here = next_here at.yielded rest _ part
    (ap (λ t. at.yielded ++ t) (sym steps.0) ∙ at.invariant.all ∙ c.into_iter-part-iterator.ensures.into_iter_gives.0) in
    let own : part ≡ part_of banks (length books) areas =
    c.in_ok-parts.ensures.parts (length at.yielded) part here ∙ ap (λ n. part_of banks n areas) (sym at.invariant.many) in
    let items = c.push_reserved-in-loop-part.ensures.items in
    let one_more = ap length items ∙ length_more books book (length books) refl in
    let yielded = length_more at.yielded part (length at.yielded) refl in
    let later = later_opens seen banks limit areas blocks observers (length books) part book (omega (arith, at.invariant.many)) own
    opened.opened opened.limited opened.unwatched in
    record {
      all = walk_more at.yielded _ rest _ part at.invariant.all steps.0;
      left = walk_left _ rest part _ _ steps.0 steps.1 at.invariant.left;
      opened = subst (AreOpened seen banks limit areas blocks observers) (sym items)
          (books_more seen banks limit areas blocks observers books book at.invariant.opened later opened.unused);
      many = let many = at.invariant.many in omega (arith, one_more, many, yielded);
      count = let count = at.invariant.count in omega (arith, one_more, count, steps.1);
      room = let room = at.invariant.room in omega (arith, room, c.push_reserved-in-loop-part.ensures.capacity);
    }
