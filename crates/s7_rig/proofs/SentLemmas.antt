-- What becomes of the messages of a question on a link between two messages: before all their octets came nothing is owed
-- for them, and where more comes to be owed behind them the link lives.
use Rattle.std.proofs.Common.{◌≡◌, inl, inr, ℕ, ◌<◌, ◌≤◌, Some, List, [], ◌++◌, length, ap, sym, ◌∙◌, arith, length-append, append_assoc, append-nil}
use Rattle.s7_wire.specs.Bounds.{message_limit}
use Rattle.s7_wire.specs.Sent.{sent_message, sent_messages}
use Rattle.s7_dialogue.specs.Question.{Question, awaits_call, inserts, question_octets, closing_octets, messages_of}
use Rattle.s7_session.specs.Events.{lives}
use Rattle.s7_session.specs.LinkState.{LinkState}
use Rattle.s7_session.specs.Owed.{Past, past, owed}
use Rattle.s7_session.specs.Verdict.{Verdict}
use Rattle.s7_rig.specs.Settled.{Settled}
use Rattle.s7_rig.specs.Exchanges.{HoldsWhole, IsReadyFor, IsAwaited}
use Rattle.s7_rig.proofs.DownloadServedLemmas.{closing_served}
use Rattle.s7_rig.proofs.FrontLemmas.{served_front}
use Rattle.s7_rig.proofs.JudgedLemmas.{question_is_s7}
use Rattle.s7_rig.proofs.ListFacts.{Parts, parts, two_behind}
use Rattle.s7_rig.proofs.PastFacts.{past_with}
use Rattle.s7_rig.proofs.ReplyLemmas.{lives_on}

-- ---- before all octets came

no_front : (u v : List ℕ) → u ++ v ≡ [] → 0 < length v → ⊥
no_front u v is some = omega (arith, ap length is, length-append u v, some)

-- a front ends in the message that closes a download, or in the one behind it
front_by : {first : LinkState} (b u v : List ℕ) (js vs : List Verdict) (pdu call : ℕ) (image m : List ℕ)
    → Settled first b js (Some pdu) → HoldsWhole (past first b js).link image call → length m ≤ message_limit
    → Parts (sent_message 1024 (closing_octets call)) (sent_message 1024 m ++ []) u v → 0 < length v
    → owed first (b ++ u) (js ++ vs) ≡ owed first b js
front_by b u v js vs pdu call image m settled held most (inl k) some =
    (served_front settled u k.0 (closing_octets call) vs (omega arith) k.1 k.2).owed
front_by {first} b u v js vs pdu call image m settled held most (inr k) some =
    let x = sent_message 1024 (closing_octets call) in
    let closing = (closing_served b js pdu call image settled held).0 in
    let waits =
    served_front closing.settled k.0 v m vs most
    (sym k.2 ∙ append-nil (sent_message 1024 m)) some in
    ap (λ o. owed first o (js ++ vs)) (ap (λ y. b ++ y) k.1 ∙ sym (append_assoc b x k.0))
    ∙ (waits.owed ∙ (closing.owed ∙ append-nil (owed first b js)))

-- A strict front of the messages leaves what is owed, and where there is one nothing is unheard before them.
pub sent_front : {first : LinkState} (b u v : List ℕ) (js vs : List Verdict) (unheard : List (List ℕ)) (pdu s : ℕ)
    (q : Question) → Settled first b js (Some pdu) → length (question_octets s q) ≤ message_limit
    → IsReadyFor (past first b js).link q → IsAwaited unheard (past first b js).link q
    → u ++ v ≡ sent_messages 1024 (messages_of s q) → 0 < length v
    → (unheard ≡ []) × (owed first (b ++ u) (js ++ vs) ≡ owed first b js)
sent_front b u v js vs unheard pdu s (awaits_call image) settled most ready awaited is some =
    absurd (no_front u v is some)
sent_front b u v js vs unheard pdu s (inserts image call) settled most ready awaited is some =
    let m = question_octets s (inserts image call) in (
      awaited,
      front_by b u v js vs pdu call image m settled ready most
          (parts (sent_message 1024 (closing_octets call)) (sent_message 1024 m ++ []) u v (sym is)) some,
    )
sent_front b u v js vs unheard pdu s q settled most ready awaited is some =
    let m = question_octets s q in
    (awaited, (served_front settled u v m vs most (is ∙ append-nil (sent_message 1024 m)) some).owed)

-- ---- where more comes to be owed

-- Behind all messages the link lives, where more comes to be owed than what is unheard before them.
pub sent_lives : {first : LinkState} (b z more : List ℕ) (js vs : List Verdict) (unheard : List (List ℕ)) (pdu s : ℕ)
    (q : Question) → Settled first b js (Some pdu) → length (question_octets s q) ≤ message_limit
    → IsReadyFor (past first b js).link q → IsAwaited unheard (past first b js).link q
    → (unheard ≡ []
    → owed first ((b ++ sent_messages 1024 (messages_of s q)) ++ z) (js ++ vs) ≡ owed first b js ++ more)
    → 0 < length more → (past first (b ++ sent_messages 1024 (messages_of s q)) (js ++ vs)).standing ≡ lives
sent_lives {first} b z more js vs unheard pdu s (awaits_call image) settled most ready awaited owes some =
    ap (λ o. (past first o (js ++ vs)).standing) (append-nil b)
    ∙ (ap (λ (p : Past). p.standing) (past_with first b js vs settled.lives) ∙ settled.lives)
sent_lives {first} b z more js vs unheard pdu s (inserts image call) settled most ready awaited owes some =
    let q = inserts image call in
    let m = question_octets s q in
    let x = sent_message 1024 (closing_octets call) in
    let closing = (closing_served b js pdu call image settled ready).0 in
    let same = two_behind b x (sent_message 1024 m) in
    ap (λ o. (past first o (js ++ vs)).standing) same
    ∙ lives_on m vs closing.settled most (question_is_s7 s q) z more
    (ap (λ o. owed first (o ++ z) (js ++ vs)) (sym same)
    ∙ (owes awaited ∙ ap (λ o. o ++ more) (sym (closing.owed ∙ append-nil (owed first b js)))))
    some
sent_lives {first} b z more js vs unheard pdu s q settled most ready awaited owes some =
    let m = question_octets s q in
    let same = ap (λ o. b ++ o) (append-nil (sent_message 1024 m)) in
    ap (λ o. (past first o (js ++ vs)).standing) same
    ∙ lives_on m vs settled most (question_is_s7 s q) z more
    (ap (λ o. owed first (o ++ z) (js ++ vs)) (sym same) ∙ owes awaited) some
