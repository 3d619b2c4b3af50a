use Rattle.std.proofs.Common.{◌≡◌, ◌+◌, ◌*◌, ◌≤◌, map, drop}
use Rattle.s7_item.specs.Item.{octet_count}
use Rattle.s7_item.specs.Sizes.{data_size}
use Rattle.s7_item.proofs.sizes.data_size.Given as goal

-- the octets so far and those of the items to come are all octets
abbrev pub invariant-loop-k : goal.invariant-loop-k
invariant-loop-k l = record {
  so_far : l.size + data_size (map octet_count (drop l.k l.items)) ≡ data_size (map octet_count l.items);
  most : l.size ≤ 262145 * l.k;
}
