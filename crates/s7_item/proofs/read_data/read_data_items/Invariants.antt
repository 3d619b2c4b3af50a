use Rattle.std.proofs.Common.{◌+◌, All, ◌≡◌, ◌-◌, ◌≤◌, length, drop}
use Rattle.s7_item.specs.DataItem.{places_in, data_places_of}
use Rattle.s7_item.proofs.DataLemmas.{after_these}
use Rattle.s7_item.proofs.read_data.read_data_items.Given as goal

-- the places so far and those to come are all places
abbrev pub invariant-loop-k : goal.invariant-loop-k
invariant-loop-k l = record {
  so_far : after_these l.into (places_in (l.n - l.k) l.at (drop l.at l.octets)) ≡ data_places_of l.n l.octets;
  many : length l.into ≡ l.k;
  inside : All (λ place. place.from + place.len ≤ length l.octets) l.into;
  in_range : l.at ≤ length l.octets;
}
