use Rattle.std.proofs.Common.{◌≡◌, ◌≤◌, take, vec_capacity}
use Rattle.s7_block.proofs.blocks.Blocks.copy.Given as goal

-- the blocks so far are copied
abbrev pub invariant-loop-block : goal.invariant-loop-block
invariant-loop-block l = record {
  copied : l.blocks.items ≡ take l.block-index l.self-inside.blocks.items;
  same : l.block-items ≡ l.self-inside.blocks.items;
  room : l.self-inside.limit ≤ vec_capacity l.blocks;
}
