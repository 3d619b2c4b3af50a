-- What a link shows to contracts.
use Rattle.std.specs.Prelude.{ℕ, List, Option, Bool}
use Rattle.std.specs.Borrow.{GName}

-- what was lent to a link for its work
pub record Lent : Type 0 where
  -- the loan, by the name that proofs use for it
  pub loan : GName
  -- which end of the external object the link is, by its number
  pub end : ℕ
  -- the greatest number of octets in each direction
  pub room : ℕ

-- how far a link has come, as far as it makes that visible
pub record Moved : Type 0 where
  -- the octets left to receive
  pub left : Option (List ℕ)
  -- the octets transmitted so far
  pub written : Option (List ℕ)

pub record Shown : Type 0 where
  -- the octets left to receive, if the link makes them visible
  pub left : Option (List ℕ)
  -- the octets transmitted so far, if the link makes them visible
  pub written : Option (List ℕ)
  -- `End` was returned, and no octet comes from then on
  pub has_ended : Bool
  -- the number of failed calls
  pub faults : ℕ
  -- the number of calls that found no octet yet, or no room yet
  pub waits : ℕ
  -- the time that its clock gives next, if the link has a clock that makes it visible
  pub moment : Option ℕ
  -- the number of failed looks at its clock
  pub clock_faults : ℕ
  -- the number of looks at its clock
  pub looks : ℕ
  -- the number of octets that it can still take, if it makes that visible
  pub space : Option ℕ
  -- `None` if the link doesn't show whether this side shut the stream; else how far it had come at that shutdown,
  -- if there was one
  pub shut : Option (Option Moved)
  -- what was lent to the link for its work, if anything; no call changes it
  pub lent : Option Lent
