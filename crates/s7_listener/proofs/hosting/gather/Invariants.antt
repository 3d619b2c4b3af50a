use Rattle.std.proofs.Common.{◌≡◌, ◌+◌, ◌≤◌, List, length, map}
use Rattle.std.specs.List.{AllByRecursion}
use Rattle.std.specs.Prelude.{vec_len, vec_capacity}
use Rattle.s7_outer.specs.Shown.{Shown}
use Rattle.s7_listener.specs.Served.{told_of}
use Rattle.s7_listener.specs.Works.{handed, IsKept, IsUnderWay, IsGathering}
use Rattle.s7_listener.proofs.hosting.gather.Given as goal

abbrev pub invariant-loop-work : goal.invariant-loop-work
invariant-loop-work g l = record {
  hall : g.B.Bench.is_of l.bench l.all;
  kept : AllByRecursion (IsKept (λ h. h.promise.bench.now ≡ l.bench)) l.work-iterator.rest.items;
  room : vec_len l.links + length l.work-iterator.rest.items ≤ vec_capacity l.links;
  gathering : (pipes : List Shown)
      → IsUnderWay (λ h. h.promise.bench.now ≡ l.bench) (λ h. handed (g.B.Bench.told h.promise.seat.value) (g.L.Link.shows h.promise.line.value))
      g.L.Link.shows (g.B.Bench.terms l.bench) (g.B.Bench.told l.fn.seat) pipes l.fn.works.items
      → IsGathering (λ h. h.promise.bench.now ≡ l.bench) (λ h. handed (g.B.Bench.told h.promise.seat.value) (g.L.Link.shows h.promise.line.value))
      g.L.Link.shows (g.B.Bench.terms l.bench) (g.B.Bench.told l.fn.seat) (g.B.Bench.told l.all) pipes l.work-iterator.rest.items
      (map (told_of g.L.Link.shows) l.links.items);
}
