use Rattle.std.specs.Prelude.{unwrap_or, ◌-◌}
use Rattle.s7_client.specs.Polling.{config_of, waited_of}
use Rattle.s7_client.specs.Runs.{StillWaits}
use Rattle.s7_client.proofs.connection.Connection.complete.Given as goal

abbrev pub invariant-loop-result : goal.invariant-loop-result
invariant-loop-result g l = StillWaits l.fn.self (g.L.Link.shows l.fn.link) l.self (g.L.Link.shows l.link)

abbrev pub decreases-loop-result : goal.decreases-loop-result
decreases-loop-result g l = (config_of l.self).polls - unwrap_or (waited_of l.self) 0
