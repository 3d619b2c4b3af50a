-- What holds of a client and its session in a rig.
use Rattle.std.specs.Prelude.{ℕ, List, Option, None, Some}
use Rattle.s7_session.specs.declared.session.Session.{Session}
use Rattle.s7_session.specs.LinkState.{LinkState}
use Rattle.s7_session.specs.Stands.{Stands}
use Rattle.s7_session.specs.Verdict.{Verdict}

-- the session represents some octets of a link, verdicts and written octets
pub record HasStood (s : Session) : Type 0 where
  pub first : LinkState
  pub used : List ℕ
  pub verdicts : List Verdict
  pub written : List ℕ
  pub stands : Stands first s used verdicts written

-- the room that the result of the job under way needs
abbrev pub room_for : {A : Type 0} → Option A → ℕ
room_for None = 0
room_for (Some a) = 1
