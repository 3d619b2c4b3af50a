use Rattle.std.proofs.Common.{◌≡◌, map, take}
use Rattle.s7_relay.specs.Windows.{near_code}
use Rattle.s7_relay.proofs.near.near_codes.Given as goal

-- the codes of the items so far
abbrev pub invariant-loop-item : goal.invariant-loop-item
invariant-loop-item l = l.codes.items ≡ map (near_code l.windows) (take l.item-index l.items)
