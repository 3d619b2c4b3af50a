use Rattle.std.proofs.Common.{◌≡◌, ◌-◌, ◌*◌, ◌++◌, ◌^◌, ◌<◌, length, drop, All}
use Rattle.std.specs.Option.{option_map}
use Rattle.s7_item.specs.Params.{items_in}
use Rattle.s7_item.proofs.params.read_each.Given as goal

-- the items so far and those to come are all items
abbrev pub invariant-loop-k : goal.invariant-loop-k
invariant-loop-k l = record {
  so_far : option_map (λ items. l.into ++ items) (items_in (l.count - l.k) (drop (12 * l.k) l.octets)) ≡ items_in l.count l.octets;
  many : length l.into ≡ l.k;
  addresses : All (λ item. item.address < 2 ^ 24) l.into;
}
