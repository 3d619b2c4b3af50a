use Rattle.std.proofs.Common.{◌≡◌, ◌≤◌, length, map, vec_len, vec_capacity}
use Rattle.s7_plant.specs.Observers.{watch}
use Rattle.s7_plant.proofs.watcher.watch_all.Given as goal

-- those that were taken watch, and there is room for all
abbrev pub invariant-loop-observer : goal.invariant-loop-observer
invariant-loop-observer g l = record {
  watched : map (λ w. watch (g.O.Observer.seen w.observer) w.since) l.watchers.items
      ≡ map (λ o. watch (g.O.Observer.seen o) 0) l.yielded;
  same : map (λ w. w.observer) l.watchers.items ≡ l.yielded;
  len : vec_len l.watchers ≡ length l.yielded;
  room : length l.fn.observers.items ≤ vec_capacity l.watchers;
}
