-- A history that is legal for the links of a rig.
use Rattle.std.specs.Prelude.{◌≡◌, ◌≢◌, ℕ, List, ◌++◌, map, None, Some}
use Rattle.std.specs.List.{AllByRecursion}
use Rattle.s7_area.specs.Memory.{Memory}
use Rattle.s7_client.specs.Polling as client
use Rattle.s7_plant.specs.State.{begins_with}
use Rattle.s7_session.specs.Books.{History}
use Rattle.s7_session.specs.Legal.{IsLegalFor, Links}
use Rattle.s7_session.specs.LinkState.{first_link}
use Rattle.s7_session.specs.Events.{lives, unjudged}
use Rattle.s7_session.specs.Owed.{past, owed, telegrams}
use Rattle.s7_session.specs.Stands.{unread, unsent, entry_count, newest, closed_with}
use Rattle.s7_session.specs.Telegrams.{Met, verdicts_of, clock_failures, AnyFull}
use Rattle.s7_session.specs.Verdict.{Verdict, NoMemory}
use Rattle.s7_rig.specs.Complete.{AllComeOff}
use Rattle.s7_rig.specs.State.{Post}
use Rattle.s7_rig.specs.Runs.{moment}

-- THE HISTORY IS LEGAL FOR A LINK whose client transmitted the octets `sent` and whose session transmitted the octets
-- `answered`
pub record IsLegalPost (opening : Memory) (limit pdu : ℕ) (history : History) (p : Post) (sent answered : List ℕ)
    : Type 0 where
  -- the octets that the session used, in order; the others that the client transmitted wait
  pub used : List ℕ
  pub waiting : sent ≡ used ++ (unread p.session ++ p.pipes.to_server)
  -- the octets of the session that the client used; the others wait
  pub heard : List ℕ
  pub coming : answered ≡ heard ++ (client.unread_of p.client ++ p.pipes.to_client)
  -- the telegrams in the octets that were used ask for these requests, and each has its verdict, the last one too
  pub mets : List Met
  pub asked : telegrams (first_link opening.guard) used (verdicts_of mets) ≡ mets
  pub judged : (past (first_link opening.guard) used (verdicts_of mets)).standing ≢ unjudged
  -- the session transmitted the expected output for what it used, except what it has still to send
  pub owed_is : owed (first_link opening.guard) used (verdicts_of mets) ≡ answered ++ unsent p.session
  -- the history has these calls, and no others of this link
  pub legal : IsLegalFor (begins_with opening) limit history p.link mets (Some moment)
      (entry_count p.session) (newest p.session)
  -- if the session isn't closed, nothing has ended its link; the clock never failed, and an allocation failed for no
  -- telegram
  pub lives : closed_with p.session ≡ None
      → (past (first_link opening.guard) used (verdicts_of mets)).standing ≡ lives
  pub clock : clock_failures (verdicts_of mets) ≡ 0
  pub remembers : AllByRecursion (λ (verdict : Verdict). verdict ≢ NoMemory) (verdicts_of mets)
  -- if the history was full for none of them, each job that can succeed does, unless it timed out
  pub complete : (AnyFull (verdicts_of mets) → ⊥) → AllComeOff opening history pdu p.results p.places

-- the numbers of the links, and how many telegrams of each were entered
abbrev pub links_of : List Post → Links
links_of posts = map (λ (p : Post). (p.link, entry_count p.session)) posts
