-- What contracts see of two pipes.
use Rattle.std.specs.Prelude.{ℕ, List}

pub record PipesHeld : Type 0 where
  -- the octets that wait for the client
  pub to_client : List ℕ
  -- the octets that wait for the server
  pub to_server : List ℕ
  -- the greatest number of octets in each pipe
  pub room : ℕ
  -- the number of calls that found nothing to receive, or no room
  pub waits : ℕ
  -- the time that their clock always gives
  pub moment : ℕ
  -- the number of looks at their clock
  pub looks : ℕ
