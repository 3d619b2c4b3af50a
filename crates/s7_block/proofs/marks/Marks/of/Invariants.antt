use Rattle.std.proofs.Common.{◌≡◌, ◌≤◌, take, vec_len, vec_capacity}
use Rattle.s7_block.specs.StoreView.{images_of}
use Rattle.s7_block.specs.Marks.{unmarked}
use Rattle.s7_block.proofs.marks.Marks.of.Given as goal

-- the names so far are there, and there is room for those to come
abbrev pub invariant-loop-block : goal.invariant-loop-block
invariant-loop-block l = record {
  marked : l.marks.items ≡ unmarked (images_of (take l.block-index l.block-items));
  len : vec_len l.marks ≡ l.block-index;
  room : l.limit ≤ vec_capacity l.marks;
}
