use Rattle.std.proofs.Common.{◌∙◌, get_or, ap, arith}
use Rattle.std.proofs.lemmas.List.{length-map}
use Rattle.s7_plant.specs.Observers.{watch, watch_one}
use Rattle.s7_plant.proofs.ObserverLemmas.{changed_more, changed_all}
use Rattle.s7_plant.proofs.watcher.tell_each.Goals as goal

pub loop-watcher-preserved : goal.loop-watcher-preserved
loop-watcher-preserved g c =
    let since = (get_or c.loop-watcher.watchers c.loop-watcher.watcher-index c.watcher-item.result).since in
    changed_more (λ w. watch (g.O.Observer.seen w.observer) w.since) (watch_one c.args.event.now) _ c.loop-watcher.watchers c.loop-watcher.watcher-index (record { observer = c.tell.new.self; since = since }) c.watcher-item.result (ap (λ seen. watch seen since) c.tell.ensures) c.loop-watcher.invariant (simp length-map (omega arith))

pub returns : goal.returns
returns g c = c.loop-watcher.invariant ∙ changed_all (watch_one c.args.event.now) c.loop-watcher.watcher-index _ (simp length-map (omega arith))
