-- What contracts see of an outbox.
use Rattle.std.specs.Prelude.{ℕ, List}

-- the octets still to be sent, and the number of octets that can be queued after them
pub record Outgoing : Type 0 where
  pub unsent : List ℕ
  pub room : ℕ
