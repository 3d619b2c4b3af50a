-- What a message makes of a link that stands between two messages.
use Rattle.std.proofs.Common.{◌≡◌, ℕ, ◌≤◌, Bool, true, false, List, [], ◌∷◌, ◌++◌, length, refl, ap, sym, ◌∙◌, append-nil}
use Rattle.std.specs.Prelude.{Option, None, Some}
use Rattle.s7_plant.specs.declared.request.Ask.{Ask}
use Rattle.s7_plant.specs.Replies.{Said}
use Rattle.s7_wire.specs.Bounds.{message_limit}
use Rattle.s7_wire.specs.declared.found.Opening.TheVariants.{Request}
use Rattle.s7_wire.specs.Reading.{Progress, message, reading}
use Rattle.s7_wire.specs.Sent.{sent_message, sent_messages}
use Rattle.s7_session.specs.Verdict.{Verdict, Entered, Full, ClockFailed, NoMemory}
use Rattle.s7_session.specs.LinkState.{LinkState}
use Rattle.s7_session.specs.Judgement.{Judgement, Asking, refuse, own, ask, judge, sequence_of}
use Rattle.s7_session.specs.Errors.{FULL, CLOCK_FAILED, error_of}
use Rattle.s7_session.specs.Events.{lives, made, by_judgement, by_clock, is_s7, refusal_sent}
use Rattle.s7_session.specs.Owed.{Past, past, with_made, telegrams}
use Rattle.s7_session.specs.Telegrams.{Met, met, entered_of}
use Rattle.s7_session.proofs.ConsumeLemmas.{entered-append}
use Rattle.s7_session.proofs.PastLemmas.{past_event}
use Rattle.s7_rig.specs.Settled.{Settled, Serves}
use Rattle.s7_rig.proofs.Asked.{IsAnswered, is_entered, is_full, is_failed}
use Rattle.s7_rig.proofs.FrontLemmas.{message_read}
use Rattle.s7_rig.proofs.PastFacts.{made_message}

-- A message is served, and leaves the link so.
pub record ServesTo (first : LinkState) (b : List ℕ) (js : List Verdict) (m : List ℕ) (js' : List Verdict)
    (granted : Option ℕ) (out : List ℕ) (new : List (Ask × Said)) (left : LinkState) : Type 0 where
  pub serves : Serves first b js (sent_message 1024 m) js' granted out new
  pub leaves : (past first (b ++ sent_message 1024 m) js').link ≡ left

-- whatever the reply, no other PDU is granted
abbrev pub KeepsGrant : LinkState → Asking → Type 0
KeepsGrant link asking = (reply : Said) → (asking.link reply).granted ≡ link.granted

-- where a message meets no verdict
none_met : (first : LinkState) (b m : List ℕ) (js : List Verdict) (p : Past)
    → past first (b ++ sent_message 1024 m) (js ++ []) ≡ p → past first (b ++ sent_message 1024 m) js ≡ p
none_met first b m js p same = ap (past first (b ++ sent_message 1024 m)) (sym (append-nil js)) ∙ same

asks_moment : (timed : Bool) (size : ℕ) (link : LinkState) (sequence : ℕ) (asking : Asking) (vs : List Verdict)
    → (by_clock timed size link sequence asking vs).standing ≡ lives → timed ≡ true
asks_moment true size link sequence asking vs live = refl
asks_moment false size link sequence asking vs live = absurd (cc)

module _ {first : LinkState} {b : List ℕ} {js : List Verdict} {granted : Option ℕ} (m : List ℕ)
    (s : Settled first b js granted) (most : length m ≤ message_limit) where
  -- nothing in a message ends the link
  pub served_unended : (reading Request (b ++ sent_message 1024 m)).ending ≡ None
  served_unended = ap (λ (p : Progress). p.ending) (message_read s m most).is ∙ s.unended

  -- ---- what it makes

  -- a whole message is judged, and its judgement meets its verdict
  pub served_message : (vs : List Verdict) → is_s7 m ≡ true
      → past first (b ++ sent_message 1024 m) (js ++ vs)
      ≡ with_made (past first b js)
      (by_judgement 1024 (past first b js).link (sequence_of m) vs (judge (past first b js).link m))
  served_message vs is =
      let p = past first b js in
      let read = message_read s m most in
      let event = message m read.place in
      past_event first b (sent_message 1024 m) js vs event s.lives s.met (ap (λ (q : Progress). q.events) read.is)
      served_unended
      ∙ (ap (λ n. with_made p (made n p.link event vs)) s.size
      ∙ ap (with_made p) (made_message 1024 p.link m read.place vs is))

  -- the same, once it is known how it is judged
  pub served_by : (vs : List Verdict) (j : Judgement) → is_s7 m ≡ true → judge (past first b js).link m ≡ j
      → past first (b ++ sent_message 1024 m) (js ++ vs)
      ≡ with_made (past first b js) (by_judgement 1024 (past first b js).link (sequence_of m) vs j)
  served_by vs j is judged =
      served_message vs is
      ∙ ap (λ x. with_made (past first b js) (by_judgement 1024 (past first b js).link (sequence_of m) vs x)) judged

  -- a step that leaves the link alive, with no verdict over
  serves : (js' : List Verdict) (granted' : Option ℕ) (link : LinkState) (out : List ℕ) (new : List Met)
      → past first (b ++ sent_message 1024 m) js' ≡ with_made (past first b js)
      (record { size = Some 1024; link = link; out = out; mets = new; verdicts = []; standing = lives })
      → link.granted ≡ granted' → ServesTo first b js m js' granted' out (entered_of new) link
  serves js' granted' link out new same grants =
      let read = message_read s m most in
      record {
        serves = record {
          settled = record {
            rest = read.rest;
            unended = served_unended;
            unfinished = ap (λ (p : Progress). p.unfinished) read.is;
            read_size = ap (λ (p : Progress). p.size) read.is ∙ s.read_size;
            lives = ap (λ p. p.standing) same;
            met = ap (λ p. p.verdicts) same;
            size = ap (λ p. p.size) same;
            grants = ap (λ (p : Past). p.link.granted) same ∙ grants;
          };
          owed = ap (λ p. p.owed) same;
          entered = ap (λ (p : Past). entered_of p.mets) same ∙ entered-append (telegrams first b js) new;
        };
        leaves = ap (λ p. p.link) same;
      }

  -- an answer of the link's own may grant another PDU
  pub served_own : (granted' : Option ℕ) (messages : List (List ℕ)) (link : LinkState) → is_s7 m ≡ true
      → judge (past first b js).link m ≡ own messages link → link.granted ≡ granted'
      → ServesTo first b js m js granted' (sent_messages 1024 messages) [] link
  served_own granted' messages link is judged grants =
      serves js granted' link (sent_messages 1024 messages) []
      (none_met first b m js _ (served_by [] (own messages link) is judged)) grants

  -- what can't be read is refused, and leaves the link
  pub served_refused : (refusal : _) → is_s7 m ≡ true → judge (past first b js).link m ≡ refuse refusal
      → ServesTo first b js m js granted (refusal_sent 1024 (sequence_of m) (error_of refusal)) []
      (past first b js).link
  served_refused refusal is judged =
      let link = (past first b js).link in
      serves js granted link (refusal_sent 1024 (sequence_of m) (error_of refusal)) []
      (none_met first b m js _ (served_by [] (refuse refusal) is judged)) s.grants

  -- ---- what asks the plant

  -- a telegram that was entered is answered by what is made of its reply
  served_entry : (asking : Asking) (reply : Said) (moment : ℕ) → is_s7 m ≡ true
      → judge (past first b js).link m ≡ ask asking → KeepsGrant (past first b js).link asking
      → ServesTo first b js m (js ++ Entered reply moment ∷ []) granted (sent_messages 1024 (asking.messages reply))
      ((asking.ask moment, reply) ∷ []) (asking.link reply)
  served_entry asking reply moment is judged keeps =
      serves (js ++ Entered reply moment ∷ []) granted (asking.link reply)
      (sent_messages 1024 (asking.messages reply)) (met asking (Entered reply moment) ∷ [])
      (served_by (Entered reply moment ∷ []) (ask asking) is judged) (keeps reply ∙ s.grants)

  -- a full history refuses it
  served_full : (asking : Asking) → is_s7 m ≡ true → judge (past first b js).link m ≡ ask asking
      → ServesTo first b js m (js ++ Full ∷ []) granted (refusal_sent 1024 (sequence_of m) FULL) []
      (past first b js).link
  served_full asking is judged =
      serves (js ++ Full ∷ []) granted (past first b js).link (refusal_sent 1024 (sequence_of m) FULL)
      (met asking Full ∷ []) (served_by (Full ∷ []) (ask asking) is judged) s.grants

  -- and so does a clock that failed, where it asks for the moment
  served_failed : (asking : Asking) → is_s7 m ≡ true → judge (past first b js).link m ≡ ask asking
      → asking.is_timed ≡ true
      → ServesTo first b js m (js ++ ClockFailed ∷ []) granted (refusal_sent 1024 (sequence_of m) CLOCK_FAILED) []
      (past first b js).link
  served_failed asking is judged timed =
      let p = past first b js in
      serves (js ++ ClockFailed ∷ []) granted p.link (refusal_sent 1024 (sequence_of m) CLOCK_FAILED)
      (met asking ClockFailed ∷ [])
      (served_by (ClockFailed ∷ []) (ask asking) is judged
      ∙ ap (λ t. with_made p (by_clock t 1024 p.link (sequence_of m) asking [])) timed) s.grants

  answered_by : (vs : List Verdict) (asking : Asking) → is_s7 m ≡ true → judge (past first b js).link m ≡ ask asking
      → KeepsGrant (past first b js).link asking
      → (by_judgement 1024 (past first b js).link (sequence_of m) vs (ask asking)).standing ≡ lives
      → IsAnswered first b js m vs granted asking
  answered_by [] asking is judged keeps live = absurd (cc)
  answered_by (Entered reply moment ∷ vs) asking is judged keeps live =
      let served = served_entry asking reply moment is judged keeps in
      is_entered reply moment vs refl served.serves served.leaves
  answered_by (Full ∷ vs) asking is judged keeps live = is_full vs refl (served_full asking is judged).serves
  answered_by (ClockFailed ∷ vs) asking is judged keeps live =
      let timed = asks_moment asking.is_timed 1024 (past first b js).link (sequence_of m) asking vs live in
      is_failed vs refl timed (served_failed asking is judged timed).serves
  answered_by (NoMemory ∷ vs) asking is judged keeps live = absurd (cc)

  -- with any other verdict, or none, the link stops
  pub served_asking : (vs : List Verdict) (asking : Asking) → is_s7 m ≡ true
      → judge (past first b js).link m ≡ ask asking → KeepsGrant (past first b js).link asking
      → (past first (b ++ sent_message 1024 m) (js ++ vs)).standing ≡ lives → IsAnswered first b js m vs granted asking
  served_asking vs asking is judged keeps live =
      answered_by vs asking is judged keeps (ap (λ p. p.standing) (sym (served_by vs (ask asking) is judged)) ∙ live)
