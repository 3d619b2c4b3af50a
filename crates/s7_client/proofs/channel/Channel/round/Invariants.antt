use Rattle.s7_client.specs.Standing.{work}
use Rattle.s7_client.proofs.RoundLemmas.{Walks}
use Rattle.s7_client.proofs.channel.Channel.round.Given as goal

abbrev pub invariant-loop-job : goal.invariant-loop-job
invariant-loop-job g l = Walks l.fn.self l.fn.job (g.L.Link.shows l.fn.link) l.self l.job (g.L.Link.shows l.link)
    l.config l.granted

abbrev pub decreases-loop-job : goal.decreases-loop-job
decreases-loop-job g l = work l.config l.self l.job
