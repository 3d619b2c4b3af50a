use Rattle.std.proofs.Common.{◌≡◌, ◌+◌, ◌-◌, ◌<◌, ◌≤◌, [], ◌++◌, length, take, drop}
use Rattle.s7_split.specs.Groups.{groups_from, ends_of, IsBlankAfter}
use Rattle.s7_split.proofs.packing.pack_each.Given as goal

-- the ends so far, and those of the group that isn't full and of the items to come, are all ends
abbrev pub invariant-loop-k : goal.invariant-loop-k
invariant-loop-k l = record {
  so_far : take l.groups.count l.groups.ends ++ ends_of (l.k - length l.group) (groups_from l.pdu l.write l.group (drop l.k l.items)) ≡ ends_of 0 (groups_from l.pdu l.write [] l.items);
  few : l.groups.count + length l.group ≤ l.k;
  some : 0 < l.k → 0 < length l.group;
  blank : IsBlankAfter l.groups.count l.groups.ends;
  none : length l.items ≡ 0 → l.groups.count ≡ 0;
}
