use Rattle.std.proofs.Common.{◌≡◌, length}
use Rattle.std.specs.Slice.Iter.{iter_rest}
use Rattle.s7_block.specs.Store.{numbers_of}
use Rattle.s7_block.specs.StoreView.{images_of}
use Rattle.s7_block.proofs.numbers.NumbersIterator.next.Given as goal

-- blocks of other kinds pass, and the numbers left stay the same
abbrev pub invariant-loop-block : goal.invariant-loop-block
invariant-loop-block l = record {
  kind : l.self-inside.kind ≡ l.initial.self-inside.kind;
  left : numbers_of (images_of (iter_rest l.self-inside.blocks)) l.self-inside.kind ≡ numbers_of (images_of (iter_rest l.initial.self-inside.blocks)) l.initial.self-inside.kind;
}

abbrev pub decreases-loop-block : goal.decreases-loop-block
decreases-loop-block l = length (iter_rest l.self-inside.blocks)
