-- The exchanges that a job on a connected client goes by.
use Rattle.std.specs.Prelude.{◌≡◌, ℕ, ◌≤◌, List, [], ◌++◌, map, None, Some}
use Rattle.std.specs.List.{AllByRecursion, flat_map}
use Rattle.s7_plant.specs.declared.request.Ask.{Ask}
use Rattle.s7_plant.specs.Replies.{Said}
use Rattle.s7_dialogue.specs.Question.{Question}
use Rattle.s7_dialogue.specs.Answer.{Answer}
use Rattle.s7_dialogue.specs.Flight.{Row, answers_of}
use Rattle.s7_dialogue.specs.Dialogue.{End, Conduct}
use Rattle.s7_dialogue.specs.Course.{Origin, conduct_of, next_question}
use Rattle.s7_session.specs.LinkState.{LinkState}
use Rattle.s7_session.specs.Owed.{entered}
use Rattle.s7_session.specs.Verdict.{Verdict}
use Rattle.s7_rig.specs.Exchanges.{HasTold}
use Rattle.s7_rig.proofs.Awaiting.{AreAsked, AreInTurn}

-- a question, the sequence of its telegram, the verdicts that it met, its answer, and what was entered for it
pub record Exchange : Type 0 where
  pub question : Question
  pub number : ℕ
  pub verdicts : List Verdict
  pub answer : Answer
  pub entries : List (Ask × Said)

abbrev pub entries_of : List Exchange → List (Ask × Said)
entries_of exchanges = flat_map (λ (x : Exchange). x.entries) exchanges

abbrev pub verdicts_met : List Exchange → List Verdict
verdicts_met exchanges = flat_map (λ (x : Exchange). x.verdicts) exchanges

-- the answered telegrams
abbrev pub rows_of : List Exchange → List Row
rows_of exchanges =
    map (λ (x : Exchange). record { question = x.question; number = x.number; answer = Some x.answer }) exchanges

-- each answer is what was told
abbrev pub AreTold : ℕ → List Exchange → Type 0
AreTold pdu exchanges =
    AllByRecursion (λ (x : Exchange). HasTold pdu x.verdicts x.question x.answer x.entries) exchanges

-- A job of this conduct went by these exchanges, on a link of this PDU: its questions were asked in order, and where
-- one is out at a time each behind the answers to those before it; each was answered, nothing more may be asked, and
-- it ends as the conduct says.
pub record Converses (pdu : ℕ) (conduct : Conduct) (end : End) (exchanges : List Exchange) : Type 0 where
  pub asked : AreAsked conduct 0 (rows_of exchanges)
  pub in_turn : conduct.width ≤ 1 → AreInTurn conduct [] (rows_of exchanges)
  pub told : AreTold pdu exchanges
  pub none_more : next_question conduct (rows_of exchanges) ≡ None
  pub is : end ≡ conduct.ended (answers_of (rows_of exchanges))

-- A job went by exchanges, behind octets and verdicts: what was entered since is theirs, and so are the verdicts.
pub record WentBy (first : LinkState) (origin : Origin) (pdu : ℕ) (end : End) (b sent : List ℕ)
    (js verdicts : List Verdict) : Type 0 where
  pub exchanges : List Exchange
  pub entered_is : entered first (b ++ sent) (js ++ verdicts) ≡ entered first b js ++ entries_of exchanges
  pub verdicts_are : verdicts_met exchanges ≡ verdicts
  pub converses : Converses pdu (conduct_of origin) end exchanges
