use Rattle.std.specs.Prelude.{◌≡◌, ◌+◌, length}
use Rattle.s7_client.specs.At.{Queues}
use Rattle.s7_client.proofs.talk.Talk.put_next.Given as goal

abbrev pub invariant-loop-self : goal.invariant-loop-self
invariant-loop-self l = record {
  queues : Queues l.config l.fn.self l.fn.running l.self l.running;
  room : length l.self.outbox.unsent + l.self.outbox.room ≡ 4096;
}

abbrev pub decreases-loop-self : goal.decreases-loop-self
decreases-loop-self l = l.self.outbox.room
