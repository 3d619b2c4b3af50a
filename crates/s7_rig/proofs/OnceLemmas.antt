-- Questions of one message, each answered by one message.
use Rattle.std.proofs.Common.{◌≡◌, ℕ, true, List, [], ◌∷◌, ◌++◌, Some, refl, ap, sym, ◌∙◌, subst, append-nil}
use Rattle.s7_wire.specs.Sent.{sent_message, sent_messages}
use Rattle.s7_dialogue.specs.Question.{Question, announces, awaits_call, gives, inserts, is_numbered}
use Rattle.s7_dialogue.specs.Question.{question_octets, messages_of}
use Rattle.s7_dialogue.specs.Answer.{Answer}
use Rattle.s7_session.specs.LinkState.{LinkState}
use Rattle.s7_session.specs.Owed.{past}
use Rattle.s7_session.specs.Verdict.{Verdict}
use Rattle.s7_rig.specs.Settled.{Serves}
use Rattle.s7_rig.specs.Exchanges.{GoesOn, IsUnheard, link_past, Replies}
use Rattle.s7_rig.proofs.ReplyLemmas.{RepliesOnce}

-- One message goes out for the question, under a sequence of the client's own, and behind its answer none is unheard: it
-- is none of a download.
abbrev pub IsOne : Question → Type 0
IsOne (announces image) = ⊥
IsOne (awaits_call image) = ⊥
IsOne (gives image room from call) = ⊥
IsOne (inserts image call) = ⊥
IsOne _ = Unit {0}

pub one_numbered : (q : Question) → IsOne q → is_numbered q ≡ true
one_numbered (announces image) one = absurd one
one_numbered (awaits_call image) one = absurd one
one_numbered (gives image room from call) one = absurd one
one_numbered (inserts image call) one = absurd one
one_numbered _ one = refl

one_sent : (s : ℕ) (q : Question) → IsOne q → messages_of s q ≡ question_octets s q ∷ []
one_sent s (announces image) one = absurd one
one_sent s (awaits_call image) one = absurd one
one_sent s (gives image room from call) one = absurd one
one_sent s (inserts image call) one = absurd one
one_sent s _ one = refl

none_unheard : (link : LinkState) (q : Question) (answer : Answer) → IsOne q → IsUnheard [] link q answer
none_unheard link (announces image) answer one = absurd one
none_unheard link _ answer one = refl

-- the octets of one message
pub alone_sent : (s : ℕ) (q : Question) → IsOne q
    → sent_message 1024 (question_octets s q) ≡ sent_messages 1024 (messages_of s q)
alone_sent s q one =
    sym (append-nil (sent_message 1024 (question_octets s q)))
    ∙ ap (sent_messages 1024) (sym (one_sent s q one))

-- Its reply is the only message, where nothing was unheard before.
pub once_replies : {first : LinkState} (b : List ℕ) (js vs : List Verdict) (unheard : List (List ℕ)) (pdu s : ℕ)
    (q : Question) → IsOne q → unheard ≡ [] → RepliesOnce first b js vs pdu q s
    → Replies first b js vs unheard pdu q s
once_replies {first} b js vs unheard pdu s q one none r =
    let same = alone_sent s q one in
    let met = js ++ r.own in
    record {
      own = r.own;
      left = r.left;
      split = r.split;
      sent = r.message ∷ [];
      message = r.message;
      behind = [];
      in_order = ap (λ (messages : List (List ℕ)). messages ++ r.message ∷ []) none;
      new = r.new;
      serves = subst (λ sent. Serves first b js sent met (Some pdu) (sent_messages 1024 (r.message ∷ [])) r.new) same
          (subst (λ out. Serves first b js (sent_message 1024 (question_octets s q)) met (Some pdu) out r.new)
          (sym (append-nil (sent_message 1024 r.message))) r.serves);
      least = r.least;
      most = r.most;
      by_link = r.by_link;
      heard = λ given.
          let heard = r.heard given in
          record {
            answer = heard.answer;
            is = heard.is;
            told = heard.told;
            goes_on = subst (λ sent. GoesOn (past first (b ++ sent) met).link q heard.answer) same heard.goes_on;
            unheard = none_unheard (link_past first b s q met) q heard.answer one;
          };
    }
