-- A link between two messages, and what a message does to it. The link began with a given state.
use Rattle.std.specs.Prelude.{◌≡◌, ℕ, List, [], ◌++◌, Option, None, Some}
use Rattle.s7_tpkt.specs.Packets.{rest_of}
use Rattle.s7_plant.specs.declared.request.Ask.{Ask}
use Rattle.s7_plant.specs.Replies.{Said}
use Rattle.s7_wire.specs.declared.found.Opening.TheVariants.{Request}
use Rattle.s7_wire.specs.Reading.{nothing_unfinished, limits, reading}
use Rattle.s7_session.specs.Events.{lives}
use Rattle.s7_session.specs.LinkState.{LinkState}
use Rattle.s7_session.specs.Owed.{past, owed, entered}
use Rattle.s7_session.specs.Verdict.{Verdict}

-- A link is between two messages: its packets are complete, nothing in them ends it, no message is unfinished, its TPDU
-- size is 1,024, no message or verdict has ended it, every telegram has its verdict, and this PDU was granted.
pub record Settled (first : LinkState) (b : List ℕ) (js : List Verdict) (granted : Option ℕ) : Type 0 where
  pub rest : rest_of (limits Request) b ≡ []
  pub unended : (reading Request b).ending ≡ None
  pub unfinished : (reading Request b).unfinished ≡ nothing_unfinished
  pub read_size : (reading Request b).size ≡ Some 1024
  pub lives : (past first b js).standing ≡ lives
  pub met : (past first b js).verdicts ≡ []
  pub size : (past first b js).size ≡ Some 1024
  pub grants : (past first b js).link.granted ≡ granted

-- What was sent leaves the link between two messages, with all these verdicts used and this PDU granted. These octets
-- are the further expected output for it, and these are its entries.
pub record Serves (first : LinkState) (b : List ℕ) (js : List Verdict) (sent : List ℕ) (js' : List Verdict)
    (granted : Option ℕ) (out : List ℕ) (new : List (Ask × Said)) : Type 0 where
  pub settled : Settled first (b ++ sent) js' granted
  pub owed : owed first (b ++ sent) js' ≡ owed first b js ++ out
  pub entered : entered first (b ++ sent) js' ≡ entered first b js ++ new
