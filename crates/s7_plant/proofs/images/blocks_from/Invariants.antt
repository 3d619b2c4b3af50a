use Rattle.std.proofs.Common.{◌≡◌, take}
use Rattle.s7_plant.specs.Images.{all_there, sourced}
use Rattle.s7_plant.proofs.images.blocks_from.Given as goal

-- the blocks so far came from there
abbrev pub invariant-loop-mark : goal.invariant-loop-mark
invariant-loop-mark l = record {
  images : all_there l.blocks.images ≡ sourced l.opening.images l.entries (take l.mark-index l.mark-items);
  limit : l.blocks.limit ≡ l.opening.limit;
}
