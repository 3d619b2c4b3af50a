-- A store of blocks: their images in the order of their names (Snap7 1.4 reference manual, `Cli_Download` and
-- `Cli_Delete`). Which blocks may be stored, and how many, is this profile's own.
use Rattle.std.specs.Prelude.{◌≡◌, ℕ, ◌≤◌, ◌==◌, ◌&&◌, not, nat_le, if◌then◌else◌, Option, None, Some, is_none, option_map, List, length, Bool, true, map, filter}
use Rattle.std.specs.declared.cmp.Ordering.{Ordering}
use Rattle.std.specs.Ordering.{nat_cmp, ordering_then}
use Rattle.std.specs.List.{AllByRecursion}
use Rattle.std.specs.List.Sorted.{IsStrictlySortedBy}
use Rattle.std.specs.Map.{keys_of, lookup, remove_entry}
use Rattle.std.specs.BTreeMap.{insert_entry, is_at}
use Rattle.s7_block.specs.declared.block.BlockName.{BlockName}
use Rattle.s7_block.specs.declared.block.Block.{Block}
use Rattle.s7_block.specs.declared.block.BlockFault.{BlockFault}
use Rattle.s7_block.specs.declared.block.BlockFault.TheVariants as fault
use Rattle.s7_block.specs.Kinds.{is_stored_kind}
use Rattle.s7_block.specs.Heads.{head_agrees}

abbrev pub Images : Type 0
Images = List (BlockName × List ℕ)

-- the images, and the greatest number of them
pub record Store : Type 0 where
  pub images : Images
  pub limit : ℕ

-- the order of names: by kind, and then by number
abbrev pub name_cmp : BlockName → BlockName → Ordering
name_cmp a b = ordering_then (nat_cmp a.kind b.kind) (nat_cmp a.number b.number)

abbrev pub name_of : Block → BlockName
name_of block = record { kind = block.kind; number = block.number }

abbrev pub image_at : Images → BlockName → Option (List ℕ)
image_at images name = lookup (is_at (name_cmp name)) images

-- the block of this name
abbrev pub block_at : Store → ℕ → ℕ → Option Block
block_at s kind number =
    option_map (λ image. record { kind = kind; number = number; image = image })
    (image_at s.images (record { kind = kind; number = number }))

-- the store with this block, in place of an earlier one of its name
abbrev pub with_block : Store → Block → Store
with_block s block = record { images = insert_entry name_cmp s.images (name_of block) block.image; limit = s.limit }

-- the store without the block of this name
abbrev pub without_block : Store → ℕ → ℕ → Store
without_block s kind number =
    record { images = remove_entry (is_at (name_cmp (record { kind = kind; number = number }))) s.images; limit = s.limit }

-- the numbers of the blocks of this kind
abbrev pub numbers_of : Images → ℕ → List ℕ
numbers_of images kind = map (λ e. e.0.number) (filter (λ e. e.0.kind == kind) images)

-- the limit is reached, and the name is new
abbrev pub is_full : Store → BlockName → Bool
is_full s name = nat_le s.limit (length s.images) && is_none (image_at s.images name)

-- the first fault of a block, if it were stored now
abbrev pub fault_of : Store → Block → Option BlockFault
fault_of s block =
    if not (is_stored_kind block.kind) then Some fault.Kind
    else (if not (head_agrees block.image block.kind block.number) then Some fault.BadHead
    else (if is_full s (name_of block) then Some fault.Full
    else None))

-- an image under its name: its kind is one that is stored, and its head agrees
pub record IsStored (e : BlockName × List ℕ) : Type 0 where
  pub kind : is_stored_kind e.0.kind ≡ true
  pub head : head_agrees e.1 e.0.kind e.0.number ≡ true

-- images in the order of their names, at most as many as the limit, which is at most 1,024
pub record IsStore (s : Store) : Type 0 where
  pub stored : AllByRecursion IsStored s.images
  pub ordered : IsStrictlySortedBy name_cmp (keys_of s.images)
  pub within : length s.images ≤ s.limit
  pub most : s.limit ≤ 1024
