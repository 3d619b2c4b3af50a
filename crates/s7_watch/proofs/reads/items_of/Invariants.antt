use Rattle.std.proofs.Common.{◌≡◌, ◌≤◌, length, map, take, vec_len, vec_capacity}
use Rattle.s7_watch.specs.Samples.{items_of}
use Rattle.s7_watch.specs.WatchShown.{tag_in}
use Rattle.s7_watch.proofs.reads.items_of.Given as goal

-- the items so far, and there is room for all
abbrev pub invariant-loop-watched : goal.invariant-loop-watched
invariant-loop-watched l = record {
  copied : l.items.items ≡ items_of (map tag_in (take l.watched-index l.looked));
  count : vec_len l.items ≡ l.watched-index;
  room : length l.looked ≤ vec_capacity l.items;
}
