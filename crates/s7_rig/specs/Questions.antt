-- Every question of a job is answered.
use Rattle.std.specs.Prelude.{◌≡◌, ℕ, ◌<◌, ◌≤◌, List, [], ◌++◌, Option, None, Some}
use Rattle.s7_header.specs.declared.negotiation.Negotiation.{Negotiation}
use Rattle.s7_header.specs.Negotiation.{most_pdu}
use Rattle.s7_wire.specs.Sent.{sent_message, sent_messages}
use Rattle.s7_dialogue.specs.declared.grant.Grant.{Grant}
use Rattle.s7_dialogue.specs.Question.{Question, negotiates, question_octets, messages_of}
use Rattle.s7_dialogue.specs.Answer.{Answer, grants, answer_of}
use Rattle.s7_dialogue.specs.Dialogue.{asked_by}
use Rattle.s7_dialogue.specs.Course.{Origin, conduct_of}
use Rattle.s7_session.specs.Events.{lives}
use Rattle.s7_session.specs.LinkState.{LinkState}
use Rattle.s7_session.specs.Owed.{past}
use Rattle.s7_session.specs.Verdict.{Verdict}
use Rattle.s7_rig.specs.Settled.{Settled, Serves}
use Rattle.s7_rig.specs.Exchanges.{IsReadyFor, IsAwaited, Replies}

-- A negotiation is answered by one message, which the client reads as a grant.
pub record IsNegotiated (first : LinkState) (b : List ℕ) (js : List Verdict) (asked : Negotiation) (number : ℕ)
    : Type 0 where
  pub granted : Negotiation
  pub message : List ℕ
  pub serves : Serves first b js (sent_message 1024 (question_octets number (negotiates asked))) js (Some granted.pdu)
      (sent_message 1024 message) []
  pub heard : answer_of (negotiates asked) number message ≡ Some (grants granted)

-- A session between two messages answers what a client asks, with an answer to that question. If the question awaits a
-- job of the server's in a download, the server has sent that job before.
pub record QuestionsAreHeard : Type 0 where
  -- a question of a job of a connected client, if the session's link holds what the question needs and isn't ended by
  -- it, whichever state gives the reply; for questions about blocks, whichever state of a plant
  pub asked : (origin : Origin) (granted : Grant) (answers : List (Option Answer)) (question : Question) (number : ℕ)
      (first : LinkState) (b : List ℕ) (js vs : List Verdict) (unheard : List (List ℕ))
      → origin.granted ≡ Some granted → 64 ≤ granted.pdu → granted.pdu ≤ most_pdu → number < 65536
      → (conduct_of origin).question_at answers ≡ Some question → Settled first b js (Some granted.pdu)
      → IsReadyFor (past first b js).link question → IsAwaited unheard (past first b js).link question
      → (past first (b ++ sent_messages 1024 (messages_of number question)) (js ++ vs)).standing ≡ lives
      → Replies first b js vs unheard granted.pdu question number
  -- the negotiation of a connect, on a link on which nothing was granted
  pub negotiated : (origin : Origin) (number : ℕ) (first : LinkState) (b : List ℕ) (js : List Verdict)
      → 64 ≤ origin.config.pdu → number < 65536 → Settled first b js None
      → IsNegotiated first b js (asked_by origin.config) number
