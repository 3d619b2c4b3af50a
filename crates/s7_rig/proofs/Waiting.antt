-- A link that waits for the rest of what is sent, and one that has been opened.
use Rattle.std.specs.Prelude.{◌≡◌, ℕ, List, [], ◌++◌, Option, None}
use Rattle.s7_area.specs.declared.guard.Guard.{Guard}
use Rattle.s7_session.specs.Events.{lives}
use Rattle.s7_session.specs.LinkState.{LinkState, first_link}
use Rattle.s7_session.specs.Owed.{past, owed, entered}
use Rattle.s7_session.specs.Verdict.{Verdict}
use Rattle.s7_rig.specs.Settled.{Settled}

-- With more octets and verdicts nothing more happened: the verdicts wait for their telegrams.
pub record Waits (first : LinkState) (b more : List ℕ) (js vs : List Verdict) : Type 0 where
  pub lives : (past first (b ++ more) (js ++ vs)).standing ≡ lives
  pub verdicts : (past first (b ++ more) (js ++ vs)).verdicts ≡ vs
  pub owed : owed first (b ++ more) (js ++ vs) ≡ owed first b js
  pub entered : entered first (b ++ more) (js ++ vs) ≡ entered first b js

-- The octets open a link to areas with this guard: it stands before its first message, with no PDU granted, and these
-- octets are owed.
pub record Opens (guard : Option Guard) (b out : List ℕ) : Type 0 where
  pub settled : Settled (first_link guard) b [] None
  pub owed : owed (first_link guard) b [] ≡ out
  pub entered : entered (first_link guard) b [] ≡ []
