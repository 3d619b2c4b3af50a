use Rattle.std.proofs.Common.{◌≡◌, ◌≤◌, length, take, vec_len, vec_capacity}
use Rattle.std.specs.List.{AllZip}
use Rattle.s7_plant.proofs.BlockCopyLemmas.{IsCopyFor}
use Rattle.s7_plant.proofs.book.copy_images.Given as goal

-- the entries so far have their copies, and there is room for those to come
abbrev pub invariant-loop-entry : goal.invariant-loop-entry
invariant-loop-entry l = record {
  copies : AllZip IsCopyFor (take l.entry-index l.entries) l.copies.items;
  len : vec_len l.copies ≡ l.entry-index;
  room : length l.entries ≤ vec_capacity l.copies;
}
