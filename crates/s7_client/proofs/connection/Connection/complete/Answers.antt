use Rattle.s7_client.proofs.RunLemmas.{awaits_none, awaits_on, completes_now, pends_still, fewer_polls}
use Rattle.s7_client.proofs.connection.Connection.complete.Goals as goal

pub loop-result-init : goal.loop-result-init
loop-result-init g c = awaits_none c.args.self.now (g.L.Link.shows c.args.link.now) c.requires

pub returns-in-Done : goal.returns-in-Done
returns-in-Done g c =
    completes_now c.args.self.now c.loop-result.self c.poll.new.self (g.L.Link.shows c.args.link.now)
    (g.L.Link.shows c.loop-result.link) (g.L.Link.shows c.poll.new.link) c.in-Done.result c.loop-result.invariant
    c.in-Done.ensures

pub loop-result-smaller : goal.loop-result-smaller
loop-result-smaller g c =
    let pends =
    pends_still c.args.self.now c.loop-result.self c.poll.new.self (g.L.Link.shows c.args.link.now)
    (g.L.Link.shows c.loop-result.link) (g.L.Link.shows c.poll.new.link) c.poll.result c.loop-result.invariant
    c.in_default.not-Done c.poll.ensures in
    fewer_polls c.loop-result.self c.poll.new.self c.loop-result.invariant.polls c.loop-result.invariant.waited
    c.poll.ensures.config pends.comes.0.waited

pub loop-result-preserved : goal.loop-result-preserved
loop-result-preserved g c =
    awaits_on c.args.self.now c.loop-result.self c.poll.new.self (g.L.Link.shows c.args.link.now)
    (g.L.Link.shows c.loop-result.link) (g.L.Link.shows c.poll.new.link) c.loop-result.invariant
    (pends_still c.args.self.now c.loop-result.self c.poll.new.self (g.L.Link.shows c.args.link.now)
    (g.L.Link.shows c.loop-result.link) (g.L.Link.shows c.poll.new.link) c.poll.result c.loop-result.invariant
    c.in_default.not-Done c.poll.ensures)
