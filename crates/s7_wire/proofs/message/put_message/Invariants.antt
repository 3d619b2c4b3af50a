use Rattle.std.proofs.Common.{◌≡◌, ◌+◌, ◌≤◌, ◌++◌, length}
use Rattle.std.specs.List.{flat_map, AllByRecursion}
use Rattle.s7_wire.specs.Sent.{fragment_octets, sent_message}
use Rattle.s7_wire.proofs.SendLemmas.{LiesIn}
use Rattle.s7_wire.proofs.message.put_message.Given as goal

abbrev pub invariant-loop-start : goal.invariant-loop-start
invariant-loop-start l = record {
  may : (goal.iterator-loop-start).can_next l.start-iterator;
  ends : (goal.iterator-loop-start).is_finite l.start-iterator;
  sent : l.outbox.unsent ++ flat_map (fragment_octets l.message) l.start-iterator ≡ l.initial.outbox.unsent ++ sent_message l.size l.message;
  room : length (flat_map (fragment_octets l.message) l.start-iterator) ≤ l.outbox.room;
  left : l.outbox.room + length (sent_message l.size l.message) ≡ l.initial.outbox.room + length (flat_map (fragment_octets l.message) l.start-iterator);
  lie : AllByRecursion (LiesIn (length l.message)) l.start-iterator;
}
