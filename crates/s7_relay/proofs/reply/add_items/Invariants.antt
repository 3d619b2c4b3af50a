use Rattle.std.proofs.Common.{◌≡◌, ◌+◌, ◌≤◌, ◌++◌, length, map, drop}
use Rattle.s7_item.specs.Item.{octet_count}
use Rattle.s7_item.specs.Sizes.{data_size}
use Rattle.s7_relay.specs.Replies.{answered_items, answers_octets, codes_wanted, octets_wanted}
use Rattle.s7_relay.proofs.reply.add_items.Given as goal

-- the data items so far, and those of the items to come, are those of all
abbrev pub invariant-loop-k : goal.invariant-loop-k
invariant-loop-k l = record {
  told : l.body.octets ++ answers_octets (answered_items (drop l.k l.items) (drop l.k l.near) l.codes l.octets) ≡ l.fn.body.octets ++ answers_octets (answered_items l.items l.near l.fn.codes l.fn.octets);
  most : length l.body.octets + data_size (map octet_count (drop l.k l.items)) ≤ length l.fn.body.octets + data_size (map octet_count l.items);
  few : data_size (map octet_count (drop l.k l.items)) ≤ 8178;
  codes : length l.codes ≡ codes_wanted (drop l.k l.near);
  octets : length l.octets ≡ octets_wanted (drop l.k l.items) (drop l.k l.near) l.codes;
  same : l.body.room ≡ l.fn.body.room;
}
