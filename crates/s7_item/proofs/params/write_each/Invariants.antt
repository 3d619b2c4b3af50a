use Rattle.std.proofs.Common.{◌≡◌, ◌*◌, ◌++◌, drop, take}
use Rattle.std.specs.List.{flat_map}
use Rattle.s7_item.specs.Item.{item_octets}
use Rattle.s7_item.proofs.params.write_each.Given as goal

-- the octets of the items so far, and then what was there before
abbrev pub invariant-loop-k : goal.invariant-loop-k
invariant-loop-k l = l.into ≡ flat_map item_octets (take l.k l.items) ++ drop (12 * l.k) l.initial.into
