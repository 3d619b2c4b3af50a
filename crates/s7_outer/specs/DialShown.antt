-- What a dial shows to contracts.
use Rattle.std.specs.Prelude.{ℕ, List, Option}

-- hosts are given as lists of octets
pub record DialShown (L : Type 0) : Type 0 where
  -- the link that the next call to a host and a port gives, if the dial makes it visible
  pub next : List ℕ → ℕ → Option L
  -- the number of failed calls to a host and a port
  pub faults : List ℕ → ℕ → ℕ
  -- the number of calls, whatever the host
  pub calls : ℕ
