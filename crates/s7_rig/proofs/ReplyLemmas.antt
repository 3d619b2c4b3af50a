-- How a session on a link between two messages replies to a question of a job.
use Rattle.std.proofs.Common.{◌≡◌, ◌⊎◌, inl, inr, ℕ, ◌<◌, ◌≤◌, true, false, Bool, List, [], ◌∷◌, ◌++◌, length, Some, refl, ap, sym, ◌∙◌, subst, arith, map, length-append, append-nil}
use Rattle.std.specs.Prelude.{Option}
use Rattle.s7_item.specs.declared.item.Item.{Item}
use Rattle.s7_item.specs.Sizes.{answer_size}
use Rattle.s7_header.specs.Negotiation.{most_pdu}
use Rattle.s7_plant.specs.declared.request.Request.TheVariants.{Read}
use Rattle.s7_plant.specs.Answers as plant
use Rattle.s7_plant.specs.Requests.{asked}
use Rattle.s7_plant.specs.declared.request.Ask.{Ask}
use Rattle.s7_plant.specs.Replies.{Said}
use Rattle.s7_plant.specs.State.{State}
use Rattle.s7_wire.specs.Bounds.{message_limit}
use Rattle.s7_wire.specs.Sent.{sent_message, sent_messages}
use Rattle.s7_dialogue.specs.Question.{Question, negotiates, reads, writes, is_numbered, question_octets}
use Rattle.s7_dialogue.specs.Answer.{Answer, refuses, tells, notes, answer_of}
use Rattle.s7_dialogue.proofs.FlightLemmas.{same_some}
use Rattle.s7_session.specs.Verdict.{Verdict, Entered, Full, ClockFailed, NoMemory}
use Rattle.s7_session.specs.Judgement.{Judgement, Asking, refuse, own, ask, judge, plainly, sequence_of, refusal_octets, reply_octets}
use Rattle.s7_session.specs.Errors.{FULL, CLOCK_FAILED}
use Rattle.s7_session.specs.Events.{lives, by_clock, by_judgement, is_s7, refusal_sent}
use Rattle.s7_session.specs.LinkState.{LinkState}
use Rattle.s7_session.specs.Owed.{Past, past, owed}
use Rattle.s7_session.proofs.PastLemmas.{IsOver, standing_cases, past_over}
use Rattle.s7_rig.specs.Settled.{Settled, Serves}
use Rattle.s7_rig.specs.Heard.{told_of}
use Rattle.s7_rig.specs.Written.{own_data, own_places, own_write, own_codes}
use Rattle.s7_rig.specs.Plants.{IsStateFor}
use Rattle.s7_rig.specs.Exchanges.{IsUndone, GoesOn, HasTold, IsByLink, is_refused, is_told}
use Rattle.s7_rig.specs.Dialogues.{AreReplies}
use Rattle.s7_rig.proofs.Asked.{IsAnswered, is_entered, is_full, is_failed}
use Rattle.s7_rig.proofs.Askable.{AreKnown}
use Rattle.s7_rig.proofs.ServedLemmas.{ServesTo, served_message}
use Rattle.s7_rig.proofs.JudgedLemmas.{question_sequence}
use Rattle.s7_rig.proofs.AnsweredLemmas.{refusal_is_heard, read_is_heard, length-read, least-read, length-write_codes, length-write}
use Rattle.s7_rig.proofs.AsksLemmas.{IsShort, as_many_places, write_is_noted}

-- ---- a link that owes more lives

clock_unowed : (timed : Bool) (size : ℕ) (link : LinkState) (sequence : ℕ) (asking : Asking) (vs : List Verdict) → IsOver (by_clock timed size link sequence asking vs).standing
    → (by_clock timed size link sequence asking vs).out ≡ []
clock_unowed true size link sequence asking vs over = absurd over
clock_unowed false size link sequence asking vs over = refl

stopped_unowed : (size : ℕ) (link : LinkState) (sequence : ℕ) (j : Judgement) (vs : List Verdict) → IsOver (by_judgement size link sequence vs j).standing
    → (by_judgement size link sequence vs j).out ≡ []
stopped_unowed size link sequence (refuse refusal) vs over = absurd over
stopped_unowed size link sequence (own messages next) vs over = absurd over
stopped_unowed size link sequence (ask asking) [] over = refl
stopped_unowed size link sequence (ask asking) (Entered reply moment ∷ vs) over = absurd over
stopped_unowed size link sequence (ask asking) (Full ∷ vs) over = absurd over
stopped_unowed size link sequence (ask asking) (ClockFailed ∷ vs) over = clock_unowed asking.is_timed size link sequence asking vs over
stopped_unowed size link sequence (ask asking) (NoMemory ∷ vs) over = refl

module _ {first : LinkState} {b : List ℕ} {js : List Verdict} {granted : Option ℕ} (m : List ℕ) (vs : List Verdict)
    (s : Settled first b js granted) (most : length m ≤ message_limit) (is : is_s7 m ≡ true) where
  -- a message at which the link ends is owed nothing
  unowed : IsOver (past first (b ++ sent_message 1024 m) (js ++ vs)).standing
      → owed first (b ++ sent_message 1024 m) (js ++ vs) ≡ owed first b js
  unowed over =
      let same = served_message m s most vs is in
      let link = (past first b js).link in
      ap (λ (p : Past). p.owed) same
      ∙ (ap (λ x. owed first b js ++ x) (stopped_unowed 1024 link (sequence_of m) (judge link m) vs
      (subst IsOver (ap (λ (p : Past). p.standing) same) over))
      ∙ append-nil (owed first b js))

  lives_by : (z more : List ℕ) → owed first ((b ++ sent_message 1024 m) ++ z) (js ++ vs) ≡ owed first b js ++ more
      → 0 < length more
      → ((past first (b ++ sent_message 1024 m) (js ++ vs)).standing
      ≡ lives) ⊎ IsOver (past first (b ++ sent_message 1024 m) (js ++ vs)).standing
      → (past first (b ++ sent_message 1024 m) (js ++ vs)).standing ≡ lives
  lives_by z more owes some (inl live) = live
  lives_by z more owes some (inr over) =
      let same = ap (λ (p : Past). p.owed)
      (past_over first (b ++ sent_message 1024 m) z (js ++ vs) over) ∙ unowed over in
      absurd (omega (arith, ap length (sym same ∙ owes), length-append (owed first b js) more, some))

  -- where more comes to be owed, the link lives after the message
  pub lives_on : (z more : List ℕ) → owed first ((b ++ sent_message 1024 m) ++ z) (js ++ vs) ≡ owed first b js ++ more
      → 0 < length more → (past first (b ++ sent_message 1024 m) (js ++ vs)).standing ≡ lives
  lives_on z more owes some =
      lives_by z more owes some (standing_cases (past first (b ++ sent_message 1024 m) (js ++ vs)).standing)

-- ---- one message, and its answer

-- The message is an answer to the question, behind which nothing is unheard.
pub record IsHeardOnce (pdu : ℕ) (own : List Verdict) (link : LinkState) (question : Question) (number : ℕ)
    (message : List ℕ) (new : List (Ask × Said)) : Type 0 where
  pub answer : Answer
  pub is : answer_of question number message ≡ Some answer
  pub told : HasTold pdu own question answer new
  pub goes_on : GoesOn link question answer

-- the state of a link that used the message of a question
abbrev pub link_once : LinkState → List ℕ → ℕ → Question → List Verdict → LinkState
link_once first b number question verdicts =
    (past first (b ++ sent_message 1024 (question_octets number question)) verdicts).link

-- The message of a question is answered by one message, of which the rest holds as of any reply.
pub record RepliesOnce (first : LinkState) (b : List ℕ) (js vs : List Verdict) (pdu : ℕ) (question : Question)
    (number : ℕ) : Type 0 where
  pub own : List Verdict
  pub left : List Verdict
  pub split : vs ≡ own ++ left
  pub message : List ℕ
  pub new : List (Ask × Said)
  pub serves : Serves first b js (sent_message 1024 (question_octets number question)) (js ++ own) (Some pdu)
      (sent_message 1024 message) new
  pub least : AreReplies new → 10 ≤ length message
  pub most : AreReplies new → length message ≤ most_pdu
  pub heard : AreReplies new
      → IsHeardOnce pdu own (link_once first b number question (js ++ own)) question number message new
  pub by_link : (answer : Answer) → answer_of question number message ≡ Some answer
      → IsByLink (past first b js).link pdu question answer

-- ---- a refusal

-- nothing goes on behind a refusal
refusal_ends : (link : LinkState) (q : Question) (error : ℕ) → GoesOn link q (refuses error)
refusal_ends link (negotiates asked) error = tt
refusal_ends link _ error = tt

-- a refusal is heard under the question's sequence
pub refused_as : (pdu : ℕ) (met : List Verdict) (link : LinkState) (q : Question) (s error : ℕ)
    (new : List (Ask × Said)) → HasTold pdu met q (refuses error) new → is_numbered q ≡ true → s < 65536 → error < 65536
    → IsHeardOnce pdu met link q s (refusal_octets (sequence_of (question_octets s q)) error) new
refused_as pdu met link q s error new told numbered low small = record {
  answer = refuses error;
  is = ap (λ n. answer_of q s (refusal_octets n error)) (question_sequence s q numbered)
      ∙ refusal_is_heard q s error numbered (omega (arith, low)) (omega (arith, small));
  told = told;
  goes_on = refusal_ends link q error;
}

refused : (pdu : ℕ) (met : List Verdict) (link : LinkState) (q : Question) (s error : ℕ)
    → IsUndone met error → is_numbered q ≡ true → s < 65536 → error < 65536
    → IsHeardOnce pdu met link q s (refusal_octets (sequence_of (question_octets s q)) error) []
refused pdu met link q s error undone numbered low small =
    refused_as pdu met link q s error [] (is_refused error undone refl refl) numbered low small

-- the link alone settles nothing of the answer
abbrev pub IsLeftOpen : LinkState → ℕ → Question → Type 0
IsLeftOpen link pdu q = (answer : Answer) → IsByLink link pdu q answer

-- ---- replies

-- The message is short, and heard as an answer to the question.
pub record IsGood (pdu : ℕ) (own : List Verdict) (link : LinkState) (q : Question) (s : ℕ) (message : List ℕ)
    (new : List (Ask × Said)) : Type 0 where
  pub least : 10 ≤ length message
  pub most : length message ≤ most_pdu
  pub heard : IsHeardOnce pdu own link q s message new

-- Whatever state gives the reply at whatever moment, the message that is made of it is good.
pub record IsAskedWell (pdu : ℕ) (q : Question) (s : ℕ) (asking : Asking) : Type 0 where
  pub message : Said → List ℕ
  pub messages : (reply : Said) → asking.messages reply ≡ message reply ∷ []
  pub good : (moment : ℕ) (reply : Said) (state : State) → reply ≡ plant.answer_of state (asking.ask moment)
      → IsStateFor (asking.ask moment).request state
      → IsGood pdu (Entered reply moment ∷ []) (asking.link reply) q s (message reply)
      ((asking.ask moment, reply) ∷ [])

module _ {first : LinkState} (b : List ℕ) (js vs : List Verdict) (pdu s : ℕ) (q : Question) where
  -- a question that wasn't done is refused
  undone_replies : (rest : List Verdict) (v : Verdict) (error : ℕ) → vs ≡ v ∷ rest → IsUndone (v ∷ []) error
      → is_numbered q ≡ true → s < 65536 → error < 65536 → IsLeftOpen (past first b js).link pdu q
      → Serves first b js (sent_message 1024 (question_octets s q)) (js ++ v ∷ []) (Some pdu)
      (refusal_sent 1024 (sequence_of (question_octets s q)) error) [] → RepliesOnce first b js vs pdu q s
  undone_replies rest v error is undone numbered low small open_to serves = record {
    own = v ∷ [];
    left = rest;
    split = is;
    message = refusal_octets (sequence_of (question_octets s q)) error;
    new = [];
    serves = serves;
    least = λ h. omega arith;
    most = λ h. omega arith;
    heard = λ h. refused pdu (v ∷ []) (link_once first b s q (js ++ v ∷ [])) q s error undone numbered low small;
    by_link = λ answer is. open_to answer;
  }

  -- a question that asks the plant has its reply
  pub asked_replies : (asking : Asking) → is_numbered q ≡ true → s < 65536 → IsLeftOpen (past first b js).link pdu q
      → IsAskedWell pdu q s asking → IsAnswered first b js (question_octets s q) vs (Some pdu) asking
      → RepliesOnce first b js vs pdu q s
  asked_replies asking numbered low open_to well (is_entered reply moment rest is serves link) =
      let new : List (Ask × Said) = (asking.ask moment, reply) ∷ [] in
      let met : List Verdict = Entered reply moment ∷ [] in
      record {
        own = met;
        left = rest;
        split = is;
        message = well.message reply;
        new = new;
        serves = subst
            (λ out. Serves first b js (sent_message 1024 (question_octets s q)) (js ++ met) (Some pdu) out new)
            (ap (sent_messages 1024) (well.messages reply) ∙ append-nil (sent_message 1024 (well.message reply)))
            serves;
        least = λ h. (well.good moment reply h.0.0 h.0.1 h.0.2).least;
        most = λ h. (well.good moment reply h.0.0 h.0.1 h.0.2).most;
        heard = λ h. subst (λ l. IsHeardOnce pdu met l q s (well.message reply) new) (sym link)
            (well.good moment reply h.0.0 h.0.1 h.0.2).heard;
        by_link = λ answer is. open_to answer;
      }
  asked_replies asking numbered low open_to well (is_full rest is serves) =
      undone_replies rest Full FULL is (inl (tt, refl)) numbered low (omega arith) open_to serves
  asked_replies asking numbered low open_to well (is_failed rest is timed serves) =
      undone_replies rest ClockFailed CLOCK_FAILED is (inr (omega arith, refl)) numbered low
      (omega arith) open_to serves

  -- and one that the link itself answers has its answer
  pub own_replies : (message : List ℕ) (link : LinkState) → IsGood pdu [] link q s message []
      → ((answer : Answer) → answer_of q s message ≡ Some answer → IsByLink (past first b js).link pdu q answer)
      → ServesTo first b js (question_octets s q) js (Some pdu) (sent_message 1024 message) [] link
      → RepliesOnce first b js vs pdu q s
  own_replies message link good by_link served =
      let none = append-nil js in
      let sent = sent_message 1024 (question_octets s q) in
      record {
        own = [];
        left = vs;
        split = refl;
        message = message;
        new = [];
        serves = subst (λ met. Serves first b js sent met (Some pdu) (sent_message 1024 message) []) (sym none)
            served.serves;
        least = λ h. good.least;
        most = λ h. good.most;
        heard = λ h. subst (λ l. IsHeardOnce pdu [] l q s message [])
            (sym (ap (link_once first b s q) none ∙ served.leaves)) good.heard;
        by_link = by_link;
      }

-- ---- reads and writes

-- the reply of a state to a read is heard with what its memory has
read_heard : (state : State) (right : Bool) (items : List Item) (s : ℕ) (reply : Said) → s < 65536
    → answer_size items ≤ most_pdu → reply ≡ plant.answer_of state (asked right (Read items))
    → answer_of (reads items) s (reply_octets s reply) ≡ Some (tells (map (told_of state.memory right) items))
read_heard state right items s reply low room gives =
    ap (λ r. answer_of (reads items) s (reply_octets s r)) gives
    ∙ read_is_heard state right items s (omega (arith, low)) (omega (arith, room))

-- and the same answer is told by any other state that gives it
read_told : (pdu : ℕ) (met : List Verdict) (link : LinkState) (state : State) (right : Bool) (items : List Item)
    (s : ℕ) (reply : Said) → s < 65536 → answer_size items ≤ most_pdu
    → reply ≡ plant.answer_of state (asked right (Read items))
    → IsHeardOnce pdu met link (reads items) s (reply_octets s reply) ((asked right (Read items), reply) ∷ [])
read_told pdu met link state right items s reply low room gives =
    let heard = read_heard state right items s reply low room gives in
    record {
      answer = tells (map (told_of state.memory right) items);
      is = heard;
      told = is_told (
        right,
        reply,
        refl,
        λ other too. same_some _ _ (sym heard ∙ read_heard other right items s reply low room too),
      );
      goes_on = tt;
    }

-- a write is heard with the codes that the memory gives
write_heard : (state : State) (right : Bool) (items : List Item) (octets : List ℕ) (s : ℕ) (reply : Said) → s < 65536
    → length items ≤ 20 → AreKnown items → IsShort s items octets
    → reply ≡ plant.answer_of state (asked right (own_write items octets))
    → answer_of (writes items octets) s (reply_octets s reply) ≡ Some (notes (own_codes state.memory right items octets))
write_heard state right items octets s reply low few known short gives =
    ap (λ r. answer_of (writes items octets) s (reply_octets s r)) gives
    ∙ write_is_noted state right items octets s (omega (arith, low)) few known short

write_told : (pdu : ℕ) (met : List Verdict) (link : LinkState) (state : State) (right : Bool) (items : List Item)
    (octets : List ℕ) (s : ℕ) (reply : Said) → s < 65536 → length items ≤ 20 → AreKnown items
    → IsShort s items octets → reply ≡ plant.answer_of state (asked right (own_write items octets))
    → IsHeardOnce pdu met link (writes items octets) s (reply_octets s reply)
    ((asked right (own_write items octets), reply) ∷ [])
write_told pdu met link state right items octets s reply low few known short gives =
    let heard = write_heard state right items octets s reply low few known short gives in
    record {
      answer = notes (own_codes state.memory right items octets);
      is = heard;
      told = is_told (
        right,
        reply,
        refl,
        λ other too. same_some _ _
            (sym heard ∙ write_heard other right items octets s reply low few known short too),
      );
      goes_on = tt;
    }

-- what is short of what a state gives is short of the reply
least_of : (least s : ℕ) (reply given : Said) → reply ≡ given → least ≤ length (reply_octets s given)
    → least ≤ length (reply_octets s reply)
least_of least s reply given gives enough = subst (λ r. least ≤ length (reply_octets s r)) (sym gives) enough

most_of : (most s : ℕ) (reply given : Said) → reply ≡ given → length (reply_octets s given) ≤ most
    → length (reply_octets s reply) ≤ most
most_of most s reply given gives few = subst (λ r. length (reply_octets s r) ≤ most) (sym gives) few

pub read_well : (pdu : ℕ) (link : LinkState) (s : ℕ) (items : List Item) → s < 65536
    → answer_size items ≤ most_pdu → IsAskedWell pdu (reads items) s (plainly link s (Read items))
read_well pdu link s items low room = record {
  message = reply_octets s;
  messages = λ reply. refl;
  good = λ moment reply state gives for.
      let given = plant.answer_of state (asked link.right (Read items)) in
      record {
        least = least_of 10 s reply given gives (omega (arith, least-read state link.right items s));
        most = most_of most_pdu s reply given gives (omega (arith, length-read state link.right items s, room));
        heard = read_told pdu (Entered reply moment ∷ []) link state link.right items s reply low room gives;
      };
}

pub write_well : (pdu : ℕ) (link : LinkState) (s : ℕ) (items : List Item) (octets : List ℕ) → s < 65536
    → length items ≤ 20 → AreKnown items → IsShort s items octets
    → IsAskedWell pdu (writes items octets) s (plainly link s (own_write items octets))
write_well pdu link s items octets low few known short =
    let places = own_places items octets in
    let written = own_data items octets in
    let many = as_many_places s items octets known short in
    record {
      message = reply_octets s;
      messages = λ reply. refl;
      good = λ moment reply state gives for.
          let given = plant.answer_of state (asked link.right (own_write items octets)) in
          let long = length-write state link.right items places written s in
          record {
            least = least_of 10 s reply given gives (omega (arith, long));
            most = most_of most_pdu s reply given gives
                (omega (arith, long, length-write_codes state.memory link.right items places written many, few));
            heard = write_told pdu (Entered reply moment ∷ []) link state link.right items octets s reply low few known
                short gives;
          };
    }
