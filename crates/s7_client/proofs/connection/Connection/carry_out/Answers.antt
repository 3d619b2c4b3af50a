use Rattle.s7_client.proofs.RunLemmas.{runs_whole}
use Rattle.s7_client.proofs.connection.Connection.carry_out.Goals as goal

pub returns-in-Ok-clause-run : goal.returns-in-Ok-clause-run
returns-in-Ok-clause-run g c =
    runs_whole c.args.self.now c.start.new.self c.complete.new.self (g.L.Link.shows c.args.link.now)
    (g.L.Link.shows c.complete.new.link) c.args.job c.complete.result c.in-Ok.ensures.started c.complete.ensures
