use Rattle.std.proofs.Common.{◌≡◌, ◌≤◌, length, map, take, vec_len, vec_capacity}
use Rattle.s7_watch.specs.Lines.{nothing_seen}
use Rattle.s7_watch.specs.WatchShown.{last_of, tag_in}
use Rattle.s7_watch.proofs.reads.watch_all.Given as goal

-- those so far are copies, and there is room for all
abbrev pub invariant-loop-tag : goal.invariant-loop-tag
invariant-loop-tag l = record {
  copied : map tag_in l.all.items ≡ take l.tag-index l.tags;
  unseen : map last_of l.all.items ≡ nothing_seen (take l.tag-index l.tags);
  count : vec_len l.all ≡ l.tag-index;
  room : length l.tags ≤ vec_capacity l.all;
}
