use Rattle.std.proofs.Common.{◌≡◌, ◌++◌, length}
use Rattle.std.specs.Vec.Iter.{into_iter_items, into_iter_len}
use Rattle.s7_bank.proofs.DividingLemmas.{AreMoved}
use Rattle.s7_bank.proofs.dividing.take_part.Given as goal

-- the data blocks so far were moved
abbrev pub invariant-loop-number : goal.invariant-loop-number
invariant-loop-number l = record {
  all : l.yielded ++ into_iter_items l.number-iterator ≡ into_iter_items l.initial.number-iterator;
  left : into_iter_len l.number-iterator ≡ length (into_iter_items l.number-iterator);
  moved : AreMoved l.yielded l.fn.areas l.areas l.part;
}
