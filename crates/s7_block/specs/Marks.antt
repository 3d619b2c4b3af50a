-- Names of blocks, each with or without a number.
use Rattle.std.specs.Prelude.{◌≤◌, ℕ, Option, None, Some, List, length, map}
use Rattle.std.specs.List.Sorted.{IsStrictlySortedBy}
use Rattle.std.specs.Map.{keys_of, lookup, remove_entry}
use Rattle.std.specs.BTreeMap.{insert_entry, is_at}
use Rattle.s7_block.specs.declared.block.BlockName.{BlockName}
use Rattle.s7_block.specs.Store.{Images, name_cmp}

abbrev pub Marked : Type 0
Marked = List (BlockName × Option ℕ)

-- the names in their order, and the greatest number of them
pub record MarkList : Type 0 where
  pub marks : Marked
  pub limit : ℕ

-- what a name is marked with, if it is in the list
abbrev pub mark_at : Marked → BlockName → Option (Option ℕ)
mark_at marks name = lookup (is_at (name_cmp name)) marks

-- the list with this number for the name, in place of an earlier one
abbrev pub with_mark : MarkList → BlockName → ℕ → MarkList
with_mark m name number = record { marks = insert_entry name_cmp m.marks name (Some number); limit = m.limit }

-- the list without this name
abbrev pub without_mark : MarkList → BlockName → MarkList
without_mark m name = record { marks = remove_entry (is_at (name_cmp name)) m.marks; limit = m.limit }

-- the names of images, each without a number
abbrev pub unmarked : Images → Marked
unmarked images = map (λ e. (e.0, None)) images

-- names in their order, at most as many as the limit
pub record IsMarkList (m : MarkList) : Type 0 where
  pub ordered : IsStrictlySortedBy name_cmp (keys_of m.marks)
  pub within : length m.marks ≤ m.limit

-- what a list maintains: the names, in a vector with this capacity
abbrev pub KeepsMarks : Marked → ℕ → ℕ → Type 0
KeepsMarks marks limit capacity = IsMarkList (record { marks = marks; limit = limit }) × (limit ≤ capacity)
