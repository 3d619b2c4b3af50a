use Rattle.std.proofs.Common.{◌≡◌, ◌++◌, ◌+◌, ◌≤◌, length, map, vec_capacity}
use Rattle.std.specs.Vec.Iter.{into_iter_items, into_iter_len}
use Rattle.s7_bank.proofs.BookLemmas.{AreOpened}
use Rattle.s7_bank.proofs.books.books_of.Given as goal

-- the banks so far have their books
abbrev pub invariant-loop-part : goal.invariant-loop-part
invariant-loop-part g l = record {
  all : l.yielded ++ into_iter_items l.part-iterator ≡ into_iter_items l.initial.part-iterator;
  left : into_iter_len l.part-iterator ≡ length (into_iter_items l.part-iterator);
  opened : AreOpened g.O.Observer.seen l.banks l.limit l.fn.areas l.fn.blocks
      (map g.O.Observer.seen l.fn.observers.items) l.books.items;
  many : length l.books.items ≡ length l.yielded + 1;
  count : length l.books.items + into_iter_len l.part-iterator ≡ l.banks;
  room : l.banks ≤ vec_capacity l.books;
}
