-- What becomes of a message that asks the plant.
use Rattle.std.specs.Prelude.{◌≡◌, ℕ, true, List, [], ◌∷◌, ◌++◌, Option}
use Rattle.s7_plant.specs.Replies.{Said}
use Rattle.s7_wire.specs.Sent.{sent_message, sent_messages}
use Rattle.s7_session.specs.Verdict.{Verdict, Entered, Full, ClockFailed}
use Rattle.s7_session.specs.LinkState.{LinkState}
use Rattle.s7_session.specs.Judgement.{Asking, sequence_of}
use Rattle.s7_session.specs.Errors.{FULL, CLOCK_FAILED}
use Rattle.s7_session.specs.Events.{refusal_sent}
use Rattle.s7_session.specs.Owed.{past}
use Rattle.s7_rig.specs.Settled.{Serves}

-- The first of the verdicts that follow is the message's: what it asks was entered, and what is made of the reply is
-- owed and left of the link; or the history was full, or the clock failed that it asks, and the refusal is owed.
pub data IsAnswered (first : LinkState) (b : List ℕ) (js : List Verdict) (message : List ℕ) (vs : List Verdict)
    (granted : Option ℕ) (asking : Asking) : Type 0 where
  is_entered : (reply : Said) (moment : ℕ) (rest : List Verdict) → vs ≡ Entered reply moment ∷ rest
      → Serves first b js (sent_message 1024 message) (js ++ Entered reply moment ∷ []) granted
      (sent_messages 1024 (asking.messages reply)) ((asking.ask moment, reply) ∷ [])
      → (past first (b ++ sent_message 1024 message) (js ++ Entered reply moment ∷ [])).link ≡ asking.link reply
      → IsAnswered first b js message vs granted asking
  is_full : (rest : List Verdict) → vs ≡ Full ∷ rest
      → Serves first b js (sent_message 1024 message) (js ++ Full ∷ []) granted (refusal_sent 1024 (sequence_of message) FULL) []
      → IsAnswered first b js message vs granted asking
  is_failed : (rest : List Verdict) → vs ≡ ClockFailed ∷ rest → asking.is_timed ≡ true
      → Serves first b js (sent_message 1024 message) (js ++ ClockFailed ∷ []) granted
      (refusal_sent 1024 (sequence_of message) CLOCK_FAILED) []
      → IsAnswered first b js message vs granted asking
