-- How a store holds its blocks.
use Rattle.std.specs.Prelude.{◌≤◌, ℕ, List, map}
use Rattle.s7_block.specs.declared.block.BlockName.{BlockName}
use Rattle.s7_block.specs.declared.block.Block.{Block}
use Rattle.s7_block.specs.Store.{Images, IsStore, name_of}

abbrev pub entry_of : Block → BlockName × List ℕ
entry_of block = (name_of block, block.image)

abbrev pub images_of : List Block → Images
images_of blocks = map entry_of blocks

-- the blocks in a vector with this capacity are a store with this limit
abbrev pub Keeps : List Block → ℕ → ℕ → Type 0
Keeps blocks limit capacity = IsStore (record { images = images_of blocks; limit = limit }) × (limit ≤ capacity)
