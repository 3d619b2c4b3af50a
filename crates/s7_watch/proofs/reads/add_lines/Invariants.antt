use Rattle.std.proofs.Common.{◌≡◌, ◌++◌, drop, length, map}
use Rattle.s7_client.specs.Form.{octets_read}
use Rattle.s7_watch.specs.Samples.{items_of}
use Rattle.s7_watch.specs.WatchShown.{tag_in}
use Rattle.s7_watch.proofs.CutLemmas.{lines_left}
use Rattle.s7_watch.proofs.reads.add_lines.Given as goal

-- the lines so far and those that are left are all, and the octets left are those of the items left
abbrev pub invariant-loop-k : goal.invariant-loop-k
invariant-loop-k l = record {
  text : l.text.items ++ lines_left l.round l.looked l.codes l.rest l.k ≡ l.fn.text.items ++ lines_left l.round l.looked l.codes l.octets 0;
  octets : length l.rest ≡ octets_read (drop l.k (items_of (map tag_in l.looked))) (drop l.k l.codes);
}
