use Rattle.std.proofs.Common.{◌≡◌, ◌+◌, ◌≤◌, ◌++◌, length, map, drop}
use Rattle.s7_item.specs.Item.{octet_count}
use Rattle.s7_item.specs.DataItem.{data_octets}
use Rattle.s7_item.specs.Sizes.{data_size}
use Rattle.s7_plant.specs.Answers.{read_item}
use Rattle.s7_plant.proofs.data_item.add_data_items.Given as goal

-- the data items so far, and those of the items to come, are those of all
abbrev pub invariant-loop-k : goal.invariant-loop-k
invariant-loop-k l = record {
  told : l.body.octets ++ data_octets (map (read_item l.areas l.right) (drop l.k l.items)) ≡ l.fn.body.octets ++ data_octets (map (read_item l.areas l.right) l.items);
  most : length l.body.octets + data_size (map octet_count (drop l.k l.items)) ≤ length l.fn.body.octets + data_size (map octet_count l.items);
  few : data_size (map octet_count (drop l.k l.items)) ≤ 8178;
  same : l.body.room ≡ l.fn.body.room;
}
