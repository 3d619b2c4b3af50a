use Rattle.std.proofs.Common.{ap, map, None}
use Rattle.s7_watch.specs.Watching.{WatchTold}
use Rattle.s7_watch.specs.WatchShown.{last_of, tags_of}
use Rattle.s7_watch.proofs.LookLemmas.{looks_ended}
use Rattle.s7_watch.proofs.watch.Watch.take_failed.Goals as goal

pub returns-clause-after : goal.returns-clause-after
returns-clause-after c =
    let w = c.args.self.now in
    (λ i. record { ahead = looks_ended (tags_of w) w.round w.number i; lasts = map last_of w.watched.items; out = None })
