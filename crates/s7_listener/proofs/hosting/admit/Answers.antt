use Rattle.std.proofs.Common.{ap₂}
use Rattle.s7_listener.specs.Works.{handed}
use Rattle.s7_listener.proofs.WorkLemmas.{started, served_at_once}
use Rattle.s7_listener.proofs.hosting.admit.Goals as goal

pub returns-in-Ok-clause-goes_on : goal.returns-in-Ok-clause-goes_on
returns-in-Ok-clause-goes_on g c = λ pipes given under_way.
    started _ _ _ _ (g.B.Bench.told c.args.seat) (g.B.Bench.told c.args.own) pipes c.args.works.now.items _ (g.L.Link.shows c.args.line) c.in-Ok.worker
    c.push_reserved.ensures.items c.in-Ok.ensures.started.0
    (ap₂ handed c.in-Ok.ensures.started.1 c.in-Ok.ensures.started.2) given under_way

pub returns-in-Err-clause-goes_on : goal.returns-in-Err-clause-goes_on
returns-in-Err-clause-goes_on g c = λ pipes given under_way.
    served_at_once _ _ _ _ (g.B.Bench.told c.args.seat) (g.B.Bench.told c.args.own) (g.B.Bench.told c.in-Err.home) _ pipes c.args.works.now.items _
    (g.L.Link.shows c.args.line) c.in-Err.served
    c.push_reserved-in-Err.ensures.items c.in-Err.ensures.served.1 c.meet.ensures.met given under_way
