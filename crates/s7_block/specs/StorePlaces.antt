-- The index of a name among entries in the order of their names, or the index at which it would be added.
use Rattle.std.specs.Prelude.{◌≡◌, ℕ, ◌<◌, ◌≤◌, List, length, slice_index_or}
use Rattle.std.specs.declared.cmp.Ordering.TheVariants.{Less, Greater}
use Rattle.s7_block.specs.declared.block.BlockName.{BlockName}
use Rattle.s7_block.specs.Store.{name_cmp}

-- the entry with this index has this name
pub record IsAt {X : Type 0} (entries : List (BlockName × X)) (name : BlockName) (at : ℕ) : Type 0 where
  pub within : at < length entries
  pub here : (d : BlockName × X) → (slice_index_or entries at d).0 ≡ name

-- all names before this index are below this one, and the name at the index is above it
pub record IsGapFor {X : Type 0} (entries : List (BlockName × X)) (name : BlockName) (at : ℕ) : Type 0 where
  pub within : at ≤ length entries
  pub before : (k : ℕ) (d : BlockName × X) → k < at → name_cmp name (slice_index_or entries k d).0 ≡ Greater
  pub after : (d : BlockName × X) → at < length entries → name_cmp name (slice_index_or entries at d).0 ≡ Less
