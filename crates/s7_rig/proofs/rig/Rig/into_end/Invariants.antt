use Rattle.std.proofs.Common.{◌≡◌, ◌++◌, ◌≤◌, length, vec_capacity, map}
use Rattle.std.specs.Vec.Iter.{into_iter_items, into_iter_len}
use Rattle.s7_rig.specs.Shown.{post_of, post_told, client_told}
use Rattle.s7_rig.proofs.rig.Rig.into_end.Given as goal

-- each station so far has its client
abbrev pub invariant-loop-station : goal.invariant-loop-station
invariant-loop-station l = record {
  may : (goal.iterator-loop-station).can_next l.station-iterator;
  ends : (goal.iterator-loop-station).is_finite l.station-iterator;
  all : l.yielded ++ into_iter_items l.station-iterator ≡ l.fn.self.stations.items;
  left : into_iter_len l.station-iterator ≡ length (into_iter_items l.station-iterator);
  room : length l.fn.self.stations.items ≤ vec_capacity l.clients;
  told : map client_told l.clients.items ≡ map (λ s. post_told (post_of s)) l.yielded;
}
