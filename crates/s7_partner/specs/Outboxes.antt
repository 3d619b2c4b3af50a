-- The effect of queueing on an outbox.
use Rattle.std.specs.Prelude.{◌≡◌, ℕ, ◌+◌, ◌≤◌, List, ◌++◌, length}
use Rattle.s7_wire.specs.Bounds.{most_packets}
use Rattle.s7_wire.specs.Outgoing.{Outgoing}

-- These octets were queued after what is to be sent, and take as much of the room. They are at most as many as one
-- message takes.
pub record Puts (old new : Outgoing) (octets : List ℕ) : Type 0 where
  pub unsent : new.unsent ≡ old.unsent ++ octets
  pub room : new.room + length octets ≡ old.room
  pub few : length octets ≤ most_packets
