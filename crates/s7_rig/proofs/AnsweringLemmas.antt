-- Every question of a job is answered, and the client hears the answer.
use Rattle.std.proofs.Common.{◌≡◌, ℕ, ◌<◌, ◌≤◌, Option, None, Some, List, [], ◌++◌, length, min, subst, arith}
use Rattle.s7_header.specs.declared.negotiation.Negotiation.{Negotiation}
use Rattle.s7_header.specs.Negotiation.{negotiation_spelling, jobs_granted, most_pdu}
use Rattle.s7_wire.specs.Sent.{sent_messages}
use Rattle.s7_dialogue.specs.declared.grant.Grant.{Grant}
use Rattle.s7_dialogue.specs.Question.{Question, announces, awaits_call, gives, inserts, question_octets, messages_of}
use Rattle.s7_dialogue.specs.Answer.{Answer}
use Rattle.s7_dialogue.specs.Dialogue.{asked_by, plan_of}
use Rattle.s7_dialogue.specs.Course.{Origin, conduct_of}
use Rattle.s7_client.proofs.FitLemmas.{sent_short}
use Rattle.s7_session.specs.Events.{lives}
use Rattle.s7_session.specs.Judgement.{answer_octets}
use Rattle.s7_session.specs.LinkState.{LinkState}
use Rattle.s7_session.specs.Owed.{past}
use Rattle.s7_session.specs.Verdict.{Verdict}
use Rattle.s7_rig.specs.Settled.{Settled}
use Rattle.s7_rig.specs.Exchanges.{IsReadyFor, IsAwaited, Replies}
use Rattle.s7_rig.specs.Questions.{IsNegotiated}
use Rattle.s7_rig.proofs.Askable.{IsAskable}
use Rattle.s7_rig.proofs.JudgedLemmas.{is_granted}
use Rattle.s7_rig.proofs.QuestionLemmas.{served_negotiation}
use Rattle.s7_rig.proofs.AnsweredLemmas.{negotiation_is_heard}
use Rattle.s7_rig.proofs.UserReplyLemmas.{replied}
use Rattle.s7_rig.proofs.DownloadReplyLemmas.{download_replied}
use Rattle.s7_rig.proofs.AskableLemmas.{askable}

-- a question that can be asked: of one message, or of a download
answered : {first : LinkState} (b : List ℕ) (js vs : List Verdict) (unheard : List (List ℕ)) (pdu s : ℕ) (q : Question)
    → Settled first b js (Some pdu) → s < 65536 → 64 ≤ pdu → pdu ≤ most_pdu → length (question_octets s q) ≤ pdu
    → IsAskable pdu q → IsReadyFor (past first b js).link q → IsAwaited unheard (past first b js).link q
    → (past first (b ++ sent_messages 1024 (messages_of s q)) (js ++ vs)).standing ≡ lives
    → Replies first b js vs unheard pdu q s
answered b js vs unheard pdu s (announces image) settled low least most fits can ready awaited live =
    download_replied b js vs unheard pdu s (announces image) tt settled low least most can ready awaited live
answered b js vs unheard pdu s (awaits_call image) settled low least most fits can ready awaited live =
    download_replied b js vs unheard pdu s (awaits_call image) tt settled low least most can ready awaited live
answered b js vs unheard pdu s (gives image room from call) settled low least most fits can ready awaited live =
    download_replied b js vs unheard pdu s (gives image room from call) tt settled low least most can ready awaited live
answered b js vs unheard pdu s (inserts image call) settled low least most fits can ready awaited live =
    download_replied b js vs unheard pdu s (inserts image call) tt settled low least most can ready awaited live
answered b js vs unheard pdu s q settled low least most fits can ready awaited live =
    replied b js vs unheard pdu q s tt settled low least most fits can ready awaited live

-- a question of a job on a connected client
pub question_answered : (origin : Origin) (granted : Grant) (answers : List (Option Answer)) (question : Question)
    (number : ℕ) (first : LinkState) (b : List ℕ) (js vs : List Verdict) (unheard : List (List ℕ))
    → origin.granted ≡ Some granted → 64 ≤ granted.pdu → granted.pdu ≤ most_pdu → number < 65536
    → (conduct_of origin).question_at answers ≡ Some question → Settled first b js (Some granted.pdu)
    → IsReadyFor (past first b js).link question → IsAwaited unheard (past first b js).link question
    → (past first (b ++ sent_messages 1024 (messages_of number question)) (js ++ vs)).standing ≡ lives
    → Replies first b js vs unheard granted.pdu question number
question_answered origin granted answers question number first b js vs unheard connected least most low asks settled
    ready awaited live =
    let planned =
    subst (λ g. (plan_of origin.job origin.config g).conduct.question_at answers ≡ Some question) connected asks in
    answered b js vs unheard granted.pdu number question settled low least most
    (sent_short origin.job origin.config granted answers question least planned number)
    (askable origin.job origin.config granted answers question least planned) ready awaited live

-- a negotiation
pub negotiation_answered : (origin : Origin) (number : ℕ) (first : LinkState) (b : List ℕ) (js : List Verdict)
    → 64 ≤ origin.config.pdu → number < 65536 → Settled first b js None
    → IsNegotiated first b js (asked_by origin.config) number
negotiation_answered origin number first b js least low settled =
    let asked = asked_by origin.config in
    let n : Negotiation =
    record { calling = jobs_granted asked.calling; called = jobs_granted asked.called; pdu = min asked.pdu most_pdu } in
    record {
      granted = n;
      message = answer_octets number (negotiation_spelling n) [];
      serves = served_negotiation b js None number asked n settled low (omega arith) (is_granted asked least);
      heard = negotiation_is_heard asked n number (omega (arith, low));
    }
