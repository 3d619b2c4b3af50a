-- How a session replies to a question of a job that is sent on a link that lives after it: it asks the plant, answers
-- by the link itself, or refuses.
use Rattle.std.proofs.Common.{◌≡◌, ℕ, ◌<◌, ◌≤◌, true, List, [], ◌∷◌, ◌++◌, length, Some, subst, arith}
use Rattle.s7_header.specs.Negotiation.{most_pdu}
use Rattle.s7_wire.specs.Sent.{sent_message}
use Rattle.s7_dialogue.specs.Question.{Question, is_numbered, question_octets}
use Rattle.s7_dialogue.specs.Answer.{Answer, refuses, answer_of}
use Rattle.s7_session.specs.Events.{lives, refusal_sent}
use Rattle.s7_session.specs.LinkState.{LinkState}
use Rattle.s7_session.specs.Owed.{past}
use Rattle.s7_session.specs.Judgement.{Asking, own, ask, judge, refusal_octets, sequence_of}
use Rattle.s7_session.specs.Verdict.{Verdict}
use Rattle.s7_rig.specs.Settled.{Settled}
use Rattle.s7_rig.specs.Exchanges.{HasTold, IsByLink}
use Rattle.s7_rig.proofs.ServedLemmas.{ServesTo, KeepsGrant}
use Rattle.s7_rig.proofs.QuestionLemmas.{served_question, served_by_link, served_refusal}
use Rattle.s7_rig.proofs.UserJudgedLemmas.{IsSent, RefusesWith}
use Rattle.s7_rig.proofs.ReplyLemmas.{RepliesOnce, IsLeftOpen, IsGood, IsAskedWell, asked_replies, own_replies}
use Rattle.s7_rig.proofs.ReplyLemmas.{refused_as}

-- The question is sent, under a sequence of the client's own, on a link between two messages that lives after it.
pub record IsServed (first : LinkState) (b : List ℕ) (js vs : List Verdict) (pdu s : ℕ) (q : Question) : Type 0 where
  pub settled : Settled first b js (Some pdu)
  pub numbered : is_numbered q ≡ true
  pub low : s < 65536
  pub least : 64 ≤ pdu
  pub most : pdu ≤ most_pdu
  pub fits : length (question_octets s q) ≤ pdu
  pub live : (past first (b ++ sent_message 1024 (question_octets s q)) (js ++ vs)).standing ≡ lives

module _ {first : LinkState} {b : List ℕ} {js vs : List Verdict} {pdu s : ℕ} {q : Question}
    (served : IsServed first b js vs pdu s q) where
  pub is_sent : IsSent (past first b js).link pdu s q
  is_sent =
      record {
        numbered = served.numbered;
        granted = served.settled.grants;
        low = served.low;
        most = served.most;
        fits = served.fits;
      }

  -- one that asks the plant
  pub asking_replied : (asking : Asking) → judge (past first b js).link (question_octets s q) ≡ ask asking
      → KeepsGrant (past first b js).link asking → IsLeftOpen (past first b js).link pdu q → IsAskedWell pdu q s asking
      → RepliesOnce first b js vs pdu q s
  asking_replied asking judged keeps open_to well =
      asked_replies b js vs pdu s q asking served.numbered served.low open_to well
      (served_question s q served.settled served.most served.fits vs asking judged keeps served.live)

  -- one that the link answers
  pub link_replied : (message : List ℕ) (after : LinkState)
      → judge (past first b js).link (question_octets s q) ≡ own (message ∷ []) after → after.granted ≡ Some pdu
      → ((answer : Answer) → answer_of q s message ≡ Some answer → IsByLink (past first b js).link pdu q answer)
      → IsGood pdu [] after q s message [] → RepliesOnce first b js vs pdu q s
  link_replied message after judged grants by_link good =
      own_replies b js vs pdu s q message after good by_link
      (served_by_link s q served.settled served.most served.fits message after judged grants)

  -- and one that is refused
  pub refused_replied : (error : ℕ) → RefusesWith (judge (past first b js).link (question_octets s q)) error
      → error < 65536 → IsLeftOpen (past first b js).link pdu q → HasTold pdu [] q (refuses error) []
      → RepliesOnce first b js vs pdu q s
  refused_replied error judged small open_to told =
      let link = (past first b js).link in
      let m = question_octets s q in
      own_replies b js vs pdu s q (refusal_octets (sequence_of m) error) link (record {
        least = omega arith;
        most = omega arith;
        heard = refused_as pdu [] link q s error [] told served.numbered served.low small;
      }) (λ answer is. open_to answer)
      (subst (λ e. ServesTo first b js m js (Some pdu) (refusal_sent 1024 (sequence_of m) e) [] link) judged.2
      (served_refusal s q served.settled served.most served.fits _ judged.1))
