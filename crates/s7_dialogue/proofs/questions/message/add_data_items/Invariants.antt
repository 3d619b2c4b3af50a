use Rattle.std.proofs.Common.{◌≡◌, ◌+◌, ◌≤◌, ◌++◌, length, map, drop}
use Rattle.s7_header.specs.Negotiation.{most_pdu}
use Rattle.s7_item.specs.Item.{octet_count}
use Rattle.s7_item.specs.DataItem.{data_octets}
use Rattle.s7_item.specs.Sizes.{data_size}
use Rattle.s7_dialogue.specs.Question.{written}
use Rattle.s7_dialogue.specs.Checks.{octet_count_of}
use Rattle.s7_dialogue.proofs.questions.message.add_data_items.Given as goal

-- the data items so far, and those of the items to come with the octets that are left, are all
abbrev pub invariant-loop-k : goal.invariant-loop-k
invariant-loop-k l = record {
  told : l.message.octets ++ data_octets (written (drop l.k l.items) l.rest) ≡ l.fn.message.octets ++ data_octets (written l.items l.octets);
  left : length l.rest ≡ octet_count_of (drop l.k l.items);
  fits : length l.message.octets + data_size (map octet_count (drop l.k l.items)) ≤ most_pdu;
  same : l.message.room ≡ most_pdu;
}
