use Rattle.std.proofs.Common.{◌≡◌, map}
use Rattle.s7_watch.specs.Samples.{items_of}
use Rattle.s7_watch.specs.WatchShown.{last_of, tag_in}
use Rattle.s7_watch.proofs.SeenLemmas.{IsSeen}
use Rattle.s7_watch.proofs.reads.see_all.Given as goal

-- the tags stay, and the samples so far are the last ones
abbrev pub invariant-loop-k : goal.invariant-loop-k
invariant-loop-k l = record {
  tags : map tag_in l.all ≡ map tag_in l.fn.all;
  seen : IsSeen (items_of (map tag_in l.fn.all)) l.codes l.octets (map last_of l.fn.all) l.first (map last_of l.all) l.rest l.k;
}
