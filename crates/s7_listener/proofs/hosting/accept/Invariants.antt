use Rattle.std.proofs.Common.{◌≡◌, ◌+◌, ℕ, List, [], length, Some}
use Rattle.std.specs.List.{AllByRecursion}
use Rattle.std.specs.Prelude.{vec_len, vec_capacity}
use Rattle.s7_outer.specs.DoorShown.{DoorShown}
use Rattle.s7_listener.specs.Works.{handed, IsKept, IsServing}
use Rattle.s7_listener.proofs.hosting.accept.Given as goal

abbrev pub invariant-loop : goal.invariant-loop
invariant-loop g l = record {
  hall : g.B.Bench.is_of l.bench l.seat;
  next : (g.B.Bench.told l.seat).next ≡ Some (l.counter + 1);
  room : vec_capacity l.works ≡ vec_capacity l.fn.works;
  many : vec_len l.works ≡ l.counter;
  kept : AllByRecursion (IsKept (λ h. h.promise.bench.now ≡ l.bench)) l.works.items;
  serving : (port : ℕ) (before : DoorShown _)
      → IsServing (λ h. h.promise.bench.now ≡ l.bench) (λ h. handed (g.B.Bench.told h.promise.seat.value) (g.L.Link.shows h.promise.line.value))
      g.L.Link.shows (g.B.Bench.terms l.bench) port before (g.D.Door.shows l.fn.door) (g.B.Bench.told l.fn.seat) [] l.fn.works.items
      → (lines : List _) × (length lines ≡ l.counter)
      × IsServing (λ h. h.promise.bench.now ≡ l.bench) (λ h. handed (g.B.Bench.told h.promise.seat.value) (g.L.Link.shows h.promise.line.value))
      g.L.Link.shows (g.B.Bench.terms l.bench) port before (g.D.Door.shows l.door) (g.B.Bench.told l.seat) lines l.works.items;
}
