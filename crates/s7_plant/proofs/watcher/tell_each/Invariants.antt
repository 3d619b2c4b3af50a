use Rattle.std.proofs.Common.{◌≡◌, List, map, ◌++◌, take, drop}
use Rattle.s7_plant.specs.Observers.{Watch, watch, watch_one}
use Rattle.s7_plant.proofs.watcher.tell_each.Given as goal

-- those before the index have been told, and the others have not
abbrev pub invariant-loop-watcher : goal.invariant-loop-watcher
invariant-loop-watcher g l =
    let had : List Watch = map (λ w. watch (g.O.Observer.seen w.observer) w.since) l.fn.watchers in
    map (λ w. watch (g.O.Observer.seen w.observer) w.since) l.watchers
    ≡ map (watch_one l.event) (take l.watcher-index had) ++ drop l.watcher-index had
