-- How a session answers the questions of a client, on a link between two messages.
use Rattle.std.proofs.Common.{◌≡◌, ℕ, ◌<◌, ◌≤◌, Ok, List, [], ◌∷◌, ◌++◌, length, refl, sym, subst, arith, append-nil}
use Rattle.std.specs.Prelude.{Option, Some}
use Rattle.s7_header.specs.declared.negotiation.Negotiation.{Negotiation}
use Rattle.s7_header.specs.Negotiation.{negotiation_spelling, granted, most_pdu}
use Rattle.s7_wire.specs.Sent.{sent_message}
use Rattle.s7_dialogue.specs.Question.{Question, negotiates, question_octets}
use Rattle.s7_session.specs.Verdict.{Verdict}
use Rattle.s7_session.specs.Judgement.{Asking, refuse, own, ask, judge, answer_octets, pdu_limit, sequence_of}
use Rattle.s7_session.specs.Errors.{error_of}
use Rattle.s7_session.specs.Events.{lives, refusal_sent}
use Rattle.s7_session.specs.LinkState.{LinkState}
use Rattle.s7_session.specs.Owed.{past}
use Rattle.s7_rig.specs.Settled.{Settled, Serves}
use Rattle.s7_rig.proofs.Asked.{IsAnswered}
use Rattle.s7_rig.proofs.ServedLemmas.{ServesTo, KeepsGrant, served_own, served_refused, served_asking}
use Rattle.s7_rig.proofs.JudgedLemmas.{question_is_s7, judged_negotiation}

-- a negotiation is granted
pub served_negotiation : {first : LinkState} (b : List ℕ) (js : List Verdict) (held : Option ℕ) (sequence : ℕ) (asked n : Negotiation) → Settled first b js held → sequence < 65536 → 18 ≤ pdu_limit held → granted asked ≡ Ok n
    → Serves first b js (sent_message 1024 (question_octets sequence (negotiates asked))) js (Some n.pdu)
    (sent_message 1024 (answer_octets sequence (negotiation_spelling n) [])) []
served_negotiation {first} b js held sequence asked n s low room is =
    let link = (past first b js).link in
    let m = question_octets sequence (negotiates asked) in
    let answer = answer_octets sequence (negotiation_spelling n) [] in
    let P : List ℕ → Type 0 = λ out. Serves first b js (sent_message 1024 m) js (Some n.pdu) out [] in
    subst P (append-nil (sent_message 1024 answer))
    (served_own m s (omega arith) (Some n.pdu) (answer ∷ []) (record link { granted = Some n.pdu })
    (question_is_s7 sequence (negotiates asked))
    (judged_negotiation link sequence asked n low (subst (λ g. 18 ≤ pdu_limit g) (sym s.grants) room) is) refl).serves

module _ {first : LinkState} {b : List ℕ} {js : List Verdict} {pdu : ℕ} (sequence : ℕ) (question : Question)
    (s : Settled first b js (Some pdu)) (most : pdu ≤ most_pdu)
    (fits : length (question_octets sequence question) ≤ pdu) where
  -- a question that asks the plant is answered by the reply, or refused with its verdict
  pub served_question : (vs : List Verdict) (asking : Asking)
      → judge (past first b js).link (question_octets sequence question) ≡ ask asking
      → KeepsGrant (past first b js).link asking
      → (past first (b ++ sent_message 1024 (question_octets sequence question)) (js ++ vs)).standing ≡ lives
      → IsAnswered first b js (question_octets sequence question) vs (Some pdu) asking
  served_question vs asking judged keeps live =
      served_asking (question_octets sequence question) s (omega (arith, most, fits)) vs asking
      (question_is_s7 sequence question) judged keeps live

  -- a question that the link itself answers
  pub served_by_link : (answer : List ℕ) (link : LinkState)
      → judge (past first b js).link (question_octets sequence question) ≡ own (answer ∷ []) link
      → link.granted ≡ Some pdu
      → ServesTo first b js (question_octets sequence question) js (Some pdu) (sent_message 1024 answer) [] link
  served_by_link answer link judged grants =
      let m = question_octets sequence question in
      subst (λ out. ServesTo first b js m js (Some pdu) out [] link) (append-nil (sent_message 1024 answer))
      (served_own m s (omega (arith, most, fits)) (Some pdu) (answer ∷ []) link
      (question_is_s7 sequence question) judged grants)

  -- and one that it refuses
  pub served_refusal : (refusal : _) → judge (past first b js).link (question_octets sequence question) ≡ refuse refusal
      → ServesTo first b js (question_octets sequence question) js (Some pdu) (refusal_sent 1024
      (sequence_of (question_octets sequence question)) (error_of refusal)) [] (past first b js).link
  served_refusal refusal judged =
      served_refused (question_octets sequence question) s (omega (arith, most, fits)) refusal
      (question_is_s7 sequence question) judged
