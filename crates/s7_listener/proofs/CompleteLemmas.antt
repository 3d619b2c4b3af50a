-- What becomes of a telegram that is asked of the plant, by its verdict.
use Rattle.std.proofs.Common.{◌≡◌, ◌≢◌, ℕ, ◌+◌, ◌/◌, ◌%◌, ◌≤◌, Bool, true, false, true≢false, cond, ◌&&◌, List, [], ◌∷◌, ◌++◌}
use Rattle.std.proofs.Common.{length, map, refl, ap, sym, ◌∙◌, subst, arith, append_assoc, append-nil, length-append, le-leb}
use Rattle.std.specs.Prelude.{Option, None, Some}
use Rattle.std.specs.List.{AllByRecursion}
use Rattle.s7_outer.specs.Numbers.{number_of_two}
use Rattle.s7_outer.specs.Shown.{Shown}
use Rattle.s7_header.specs.Negotiation.{most_pdu}
use Rattle.s7_item.specs.declared.item.Item.{Item}
use Rattle.s7_item.specs.Codes.{read_function, write_function}
use Rattle.s7_item.specs.DataItem.{DataItem, data_octets}
use Rattle.s7_item.specs.DataLaws.{HasOctets, places_of}
use Rattle.s7_item.specs.Params.{items_params}
use Rattle.s7_item.proofs.DataLaws.{data_reads_back}
use Rattle.s7_area.specs.Memory.{Memory}
use Rattle.s7_wire.specs.Reading.{Event, Ending, message, reading, torn_of}
use Rattle.s7_wire.specs.Sent.{sent_message}
use Rattle.s7_wire.specs.declared.found.Opening.TheVariants.{Request as Opens}
use Rattle.s7_turn.specs.Histories.{entry}
use Rattle.s7_plant.specs.declared.request.Request.{Request}
use Rattle.s7_plant.specs.declared.request.Request.TheVariants.{Read, Write}
use Rattle.s7_plant.specs.Answers.{answer_of, read_item, write_all, write_codes}
use Rattle.s7_plant.specs.Replies.{Said}
use Rattle.s7_plant.specs.Requests.{asked}
use Rattle.s7_plant.specs.State.{State}
use Rattle.s7_session.specs.declared.outcome.Outcome.{Outcome}
use Rattle.s7_session.specs.declared.outcome.Outcome.TheVariants as outcome
use Rattle.s7_session.specs.Errors.{FULL}
use Rattle.s7_session.specs.Events.{Standing, lives, stops, unjudged, closes, Made, made, is_s7, by_judgement, asks}
use Rattle.s7_session.specs.Judgement.{Asking, Judgement, asks_plainly, judge, plainly, refusal_octets, reply_octets, sequence_of}
use Rattle.s7_session.specs.LinkRun.{IsWritten, IsEnd}
use Rattle.s7_session.specs.LinkState.{LinkState}
use Rattle.s7_session.specs.Owed.{Past, start, with_made, if_lives, next, run, past, owed, end_of, end_by, standing_with}
use Rattle.s7_session.specs.Spelled.{IsSpelled, job_spelled, read_spelled, write_spelled}
use Rattle.s7_session.specs.Telegrams.{Met, met, verdicts_of, entered_of, AnyFull, IsCaused, AreCaused}
use Rattle.s7_session.specs.Verdict.{Verdict, Entered, Full, ClockFailed, NoMemory}
use Rattle.s7_session.proofs.ConsumeLemmas.{entered-append}
use Rattle.s7_session.proofs.PastLemmas.{IsOver, next_at, run-append}
use Rattle.s7_session.proofs.SpelledLemmas.{reads_are_asked, writes_are_asked}
use Rattle.s7_listener.specs.Complete.{Telegram, IsFitting, before, right_of, state_at, memory_at, IsCallOf, Answers, IsRefusedAsFull}
use Rattle.s7_listener.specs.Complete.{ArePutAs, IsReadAnswered, ReadEnds, ReadsAreAnswered, IsWriteAnswered, WriteEnds, WritesAreAnswered}
use Rattle.s7_listener.proofs.CallLemmas.{IsOwnCall, call_of, state_next}
use Rattle.s7_listener.proofs.GrantLemmas.{grants_are_bounded}
use Rattle.s7_listener.proofs.ItemLemmas.{reads_as, puts_as}
use Rattle.s7_listener.proofs.OpenedLemmas.{IsSized, no_s7, messages_follow_openings}

-- ---- what events add

record Adds (p q : Past) : Type 0 where
  asking : List Met
  out : List ℕ
  mets_are : q.mets ≡ p.mets ++ asking
  owed_is : q.owed ≡ p.owed ++ out

adds_none : (p : Past) → Adds p p
adds_none p = record { asking = []; out = []; mets_are = sym (append-nil p.mets); owed_is = sym (append-nil p.owed) }

adds_both : (p q r : Past) → Adds p q → Adds q r → Adds p r
adds_both p q r h k = record {
  asking = h.asking ++ k.asking;
  out = h.out ++ k.out;
  mets_are = k.mets_are ∙ (ap (λ (x : List Met). x ++ k.asking) h.mets_are ∙ append_assoc p.mets h.asking k.asking);
  owed_is = k.owed_is ∙ (ap (λ (x : List ℕ). x ++ k.out) h.owed_is ∙ append_assoc p.owed h.out k.out);
}

adds_if : (s : Standing) (p q : Past) → Adds p q → Adds p (if_lives s q p)
adds_if lives p q h = h
adds_if stops p q h = adds_none p
adds_if unjudged p q h = adds_none p
adds_if (closes end) p q h = adds_none p

adds_made : (p : Past) (m : Made) → Adds p (with_made p m)
adds_made p m = record { asking = m.mets; out = m.out; mets_are = refl; owed_is = refl }

run_adds : (p : Past) (events : List Event) → Adds p (run p events)
run_adds p [] = adds_none p
run_adds p (e ∷ events) =
    let m = made p.size p.link e p.verdicts in
    adds_both p (next p e) (run (next p e) events) (adds_if p.standing p (with_made p m) (adds_made p m)) (run_adds (next p e) events)

-- ---- a link that is over

over_stays : (s : Standing) (p q : Past) → IsOver s → if_lives s q p ≡ p
over_stays lives p q over = absurd over
over_stays stops p q over = refl
over_stays unjudged p q over = refl
over_stays (closes end) p q over = refl

run_stays : (p : Past) (events : List Event) → IsOver p.standing → run p events ≡ p
run_stays p [] over = refl
run_stays p (e ∷ events) over =
    ap (λ (q : Past). run q events) (over_stays p.standing p (with_made p (made p.size p.link e p.verdicts)) over) ∙ run_stays p events over

ends_over : (torn : Option ℕ) (s : Standing) (ending : Option Ending) → IsOver s → standing_with torn s ending ≡ s
ends_over torn lives ending over = absurd over
ends_over torn stops ending over = refl
ends_over torn unjudged ending over = refl
ends_over torn (closes end) ending over = refl

-- ---- outcomes

-- the outcome is a failed transmit
abbrev is_broken : Outcome → Bool
is_broken outcome.Ended = false
is_broken (outcome.Torn n) = false
is_broken (outcome.BadFrame at) = false
is_broken (outcome.FrameTooLong at) = false
is_broken (outcome.BadTpdu at) = false
is_broken (outcome.Unexpected at) = false
is_broken (outcome.TooManyFragments at) = false
is_broken (outcome.TooLong at) = false
is_broken (outcome.NotS7 at) = false
is_broken outcome.ReadFault = false
is_broken outcome.WriteFault = true
is_broken outcome.Spent = false
is_broken outcome.Memory = false

-- the outcome is a failed allocation
abbrev is_lacking : Outcome → Bool
is_lacking outcome.Ended = false
is_lacking (outcome.Torn n) = false
is_lacking (outcome.BadFrame at) = false
is_lacking (outcome.FrameTooLong at) = false
is_lacking (outcome.BadTpdu at) = false
is_lacking (outcome.Unexpected at) = false
is_lacking (outcome.TooManyFragments at) = false
is_lacking (outcome.TooLong at) = false
is_lacking (outcome.NotS7 at) = false
is_lacking outcome.ReadFault = false
is_lacking outcome.WriteFault = false
is_lacking outcome.Spent = false
is_lacking outcome.Memory = true

both_tests : (test : Outcome → Bool) (a b o : Outcome) → test a ≡ true → test b ≡ false → a ≡ o → o ≡ b → ⊥
both_tests test a b o passes fails is other = true≢false (sym passes ∙ (ap test (is ∙ other) ∙ fails))

end_at : (s t : Standing) (torn : Option ℕ) → s ≡ t → end_by t torn ≡ end_by s torn
end_at s t torn is = ap (λ (x : Standing). end_by x torn) (sym is)

not_living : (s t : Standing) → s ≡ t → IsOver t → s ≡ lives → ⊥
not_living s t is over live = subst IsOver live (subst IsOver (sym is) over)

unjudged_lacks_none : (s : Standing) → s ≡ unjudged → s ≡ stops → ⊥
unjudged_lacks_none s is other = cc (is, other)

-- a telegram without a verdict: a transmit failed
module _ (pipe line : Shown) (first : LinkState) (b : List ℕ) (js : List Verdict) (is : (past first b js).standing ≡ unjudged) where
  not_end : (o : Outcome) → is_broken o ≡ false → end_of first b js ≡ o → ⊥
  not_end o fails end =
      both_tests is_broken outcome.WriteFault o (end_of first b js) refl fails (end_at (past first b js).standing unjudged (torn_of Opens b) is) end

  end_unjudged : (o : Outcome) → IsEnd pipe line first b js o → o ≡ outcome.WriteFault
  end_unjudged outcome.Ended end = absurd (not_end outcome.Ended refl end.0)
  end_unjudged (outcome.Torn n) end = absurd (not_end (outcome.Torn n) refl end.0)
  end_unjudged (outcome.BadFrame at) end = absurd (not_end (outcome.BadFrame at) refl end)
  end_unjudged (outcome.FrameTooLong at) end = absurd (not_end (outcome.FrameTooLong at) refl end)
  end_unjudged (outcome.BadTpdu at) end = absurd (not_end (outcome.BadTpdu at) refl end)
  end_unjudged (outcome.Unexpected at) end = absurd (not_end (outcome.Unexpected at) refl end)
  end_unjudged (outcome.TooManyFragments at) end = absurd (not_end (outcome.TooManyFragments at) refl end)
  end_unjudged (outcome.TooLong at) end = absurd (not_end (outcome.TooLong at) refl end)
  end_unjudged (outcome.NotS7 at) end = absurd (not_end (outcome.NotS7 at) refl end)
  end_unjudged outcome.ReadFault end = absurd (not_living (past first b js).standing unjudged is tt end.1)
  end_unjudged outcome.WriteFault end = refl
  end_unjudged outcome.Spent end = absurd (not_living (past first b js).standing unjudged is tt end.1)
  end_unjudged outcome.Memory end = absurd (unjudged_lacks_none (past first b js).standing is end)

-- an allocation failed for a telegram
module _ (pipe line : Shown) (first : LinkState) (b : List ℕ) (js : List Verdict) (is : (past first b js).standing ≡ stops) where
  not_stop : (o : Outcome) → is_lacking o ≡ false → end_of first b js ≡ o → ⊥
  not_stop o fails end =
      both_tests is_lacking outcome.Memory o (end_of first b js) refl fails (end_at (past first b js).standing stops (torn_of Opens b) is) end

  end_stopped : (o : Outcome) → IsEnd pipe line first b js o → o ≡ outcome.Memory
  end_stopped outcome.Ended end = absurd (not_stop outcome.Ended refl end.0)
  end_stopped (outcome.Torn n) end = absurd (not_stop (outcome.Torn n) refl end.0)
  end_stopped (outcome.BadFrame at) end = absurd (not_stop (outcome.BadFrame at) refl end)
  end_stopped (outcome.FrameTooLong at) end = absurd (not_stop (outcome.FrameTooLong at) refl end)
  end_stopped (outcome.BadTpdu at) end = absurd (not_stop (outcome.BadTpdu at) refl end)
  end_stopped (outcome.Unexpected at) end = absurd (not_stop (outcome.Unexpected at) refl end)
  end_stopped (outcome.TooManyFragments at) end = absurd (not_stop (outcome.TooManyFragments at) refl end)
  end_stopped (outcome.TooLong at) end = absurd (not_stop (outcome.TooLong at) refl end)
  end_stopped (outcome.NotS7 at) end = absurd (not_stop (outcome.NotS7 at) refl end)
  end_stopped outcome.ReadFault end = absurd (not_living (past first b js).standing stops is tt end.1)
  end_stopped outcome.WriteFault end = absurd (end.1 is)
  end_stopped outcome.Spent end = absurd (not_living (past first b js).standing stops is tt end.1)
  end_stopped outcome.Memory end = refl

-- unless a transmit failed, all that is owed was written
all_written : (first : LinkState) (b : List ℕ) (js : List Verdict) (written : List ℕ) (o : Outcome) → IsWritten first o b js written
    → o ≢ outcome.WriteFault → written ≡ owed first b js
all_written first b js written outcome.Ended is other = is
all_written first b js written (outcome.Torn n) is other = is
all_written first b js written (outcome.BadFrame at) is other = is
all_written first b js written (outcome.FrameTooLong at) is other = is
all_written first b js written (outcome.BadTpdu at) is other = is
all_written first b js written (outcome.Unexpected at) is other = is
all_written first b js written (outcome.TooManyFragments at) is other = is
all_written first b js written (outcome.TooLong at) is other = is
all_written first b js written (outcome.NotS7 at) is other = is
all_written first b js written outcome.ReadFault is other = is
all_written first b js written outcome.WriteFault is other = absurd (other refl)
all_written first b js written outcome.Spent is other = is
all_written first b js written outcome.Memory is other = is

-- ---- the run over a telegram

-- the event of the telegram
abbrev event_of : Telegram → Event
event_of t = message t.octets t.at

whole_run : (t : Telegram) → run (start t.first (verdicts_of t.line.mets)) (reading Opens t.line.taken).events ≡ run (next (before t) (event_of t)) t.later
whole_run t =
    let p = start t.first (verdicts_of t.line.mets) in
    ap (λ (es : List Event). run p es) t.events ∙ run-append p t.earlier (event_of t ∷ t.later)

-- what the whole run has, if the telegram led to this
record Runs (t : Telegram) (m : Made) : Type 0 where
  later : List Met
  after : List ℕ
  mets : t.line.mets ≡ (before t).mets ++ (m.mets ++ later)
  owed_is : owed t.first t.line.taken (verdicts_of t.line.mets) ≡ (before t).owed ++ (m.out ++ after)
  over : IsOver m.standing → (past t.first t.line.taken (verdicts_of t.line.mets)).standing ≡ m.standing

runs : (t : Telegram) (m : Made) → next (before t) (event_of t) ≡ with_made (before t) m → Runs t m
unfolding past
runs t m is =
    let p = before t in
    let read = reading Opens t.line.taken in
    let torn = torn_of Opens t.line.taken in
    let all : run (start t.first (verdicts_of t.line.mets)) read.events ≡ run (with_made p m) t.later =
    whole_run t ∙ ap (λ (q : Past). run q t.later) is in
    let a = run_adds (with_made p m) t.later in
    record {
      later = a.asking;
      after = a.out;
      mets = sym t.line.asked ∙ (ap (λ (q : Past). q.mets) all ∙ (a.mets_are ∙ append_assoc p.mets m.mets a.asking));
      owed_is = ap (λ (q : Past). q.owed) all ∙ (a.owed_is ∙ append_assoc p.owed m.out a.out);
      over = λ o. ap (λ (q : Past). standing_with torn q.standing read.ending) (all ∙ run_stays (with_made p m) t.later o)
          ∙ ends_over torn m.standing read.ending o;
    }

-- ---- a telegram that asks

-- the TPDU size of the link when the telegram came
sized_in : (t : Telegram) → IsSized (before t).size
sized_in t = messages_follow_openings t.first t.line.taken (verdicts_of t.line.mets) t.earlier t.later t.octets t.at t.events

unfoldable size_in : Telegram → ℕ
size_in t = (sized_in t).0

size_is : (t : Telegram) → (before t).size ≡ Some (size_in t)
unfolding size_in
size_is t = (sized_in t).1

-- what a telegram leads to that asks this
abbrev asked_made : Telegram → ℕ → Request → List Verdict → Made
asked_made t sequence request verdicts =
    asks (size_in t) (before t).link sequence (plainly (before t).link sequence request) verdicts

chosen : (b : Bool) (x y : Made) → b ≡ true → cond b x y ≡ x
chosen b x y is = ap (λ (v : Bool). cond v x y) is

made_asks : (size : ℕ) (link : LinkState) (m : List ℕ) (at : ℕ) (verdicts : List Verdict) (sequence : ℕ) (request : Request)
    → is_s7 m ≡ true → sequence_of m ≡ sequence → judge link m ≡ asks_plainly link sequence request
    → made (Some size) link (message m at) verdicts ≡ asks size link sequence (plainly link sequence request) verdicts
unfolding made
made_asks size link m at verdicts sequence request s7 number judged =
    chosen (is_s7 m) (by_judgement size link (sequence_of m) verdicts (judge link m)) (no_s7 size link at verdicts) s7
    ∙ (ap (λ (n : ℕ). by_judgement size link n verdicts (judge link m)) number
    ∙ ap (λ (j : Judgement). by_judgement size link sequence verdicts j) judged)

next_asks : (t : Telegram) (sequence : ℕ) (request : Request) → is_s7 t.octets ≡ true → sequence_of t.octets ≡ sequence
    → judge (before t).link t.octets ≡ asks_plainly (before t).link sequence request
    → next (before t) (event_of t) ≡ with_made (before t) (asked_made t sequence request (before t).verdicts)
next_asks t sequence request s7 number judged =
    let p = before t in
    next_at p (event_of t) t.living
    ∙ (ap (λ (size : Option ℕ). with_made p (made size p.link (event_of t) p.verdicts)) (size_is t)
    ∙ ap (λ (m : Made). with_made p m) (made_asks (size_in t) p.link t.octets t.at p.verdicts sequence request s7 number judged))

-- ---- by the verdict

-- the message that answers a telegram, if the telegram led to it
says : (t : Telegram) (m : Made) (words : List ℕ) → m.out ≡ sent_message (size_in t) words → Runs t m → Answers t words
says t m words is r =
    let out : List ℕ = sent_message (size_in t) words in
    let whole : owed t.first t.line.taken (verdicts_of t.line.mets) ≡ (before t).owed ++ out ++ r.after =
    r.owed_is
    ∙ (ap (λ (x : List ℕ). (before t).owed ++ (x ++ r.after)) is ∙ sym (append_assoc (before t).owed out r.after)) in
    record {
      size = size_in t;
      sized = size_is t;
      after = r.after;
      owed_is = whole;
      sent = λ other. all_written t.first t.line.taken (verdicts_of t.line.mets) t.line.written t.served.outcome t.line.answers other ∙ whole;
    }

full_before : (v : Verdict) (vs : List Verdict) → AnyFull vs → AnyFull (v ∷ vs)
full_before Full vs any = tt
full_before (Entered reply moment) vs any = any
full_before ClockFailed vs any = any
full_before NoMemory vs any = any

full_in : (front : List Met) (asking : Asking) (later : List Met) → AnyFull (verdicts_of (front ++ met asking Full ∷ later))
full_in [] asking later = tt
full_in (m ∷ front) asking later = full_before m.verdict (verdicts_of (front ++ met asking Full ∷ later)) (full_in front asking later)

caused_in : (front : List Met) (asking : Asking) (verdict : Verdict) (later : List Met) → AreCaused (front ++ met asking verdict ∷ later)
    → IsCaused asking verdict
caused_in [] asking verdict later all = all.0
caused_in (m ∷ front) asking verdict later all = caused_in front asking verdict later all.1

module _ (t : Telegram) (sequence : ℕ) (request : Request) where
  unjudged_end : Runs t (asked_made t sequence request []) → t.served.outcome ≡ outcome.WriteFault
  unjudged_end r =
      end_unjudged t.pipe t.served.line t.first t.line.taken (verdicts_of t.line.mets) (r.over tt) t.served.outcome t.line.end

  lacking_end : (vs : List Verdict) → Runs t (asked_made t sequence request (NoMemory ∷ vs)) → t.served.outcome ≡ outcome.Memory
  lacking_end vs r =
      end_stopped t.pipe t.served.line t.first t.line.taken (verdicts_of t.line.mets) (r.over tt) t.served.outcome t.line.end

  refused_as_full : (vs : List Verdict) → Runs t (asked_made t sequence request (Full ∷ vs)) → IsRefusedAsFull t sequence
  refused_as_full vs r = record {
    full = t.line.legal.called.full
        (subst (λ (ms : List Met). AnyFull (verdicts_of ms)) (sym r.mets) (full_in (before t).mets (plainly (before t).link sequence request) r.later));
    says = says t (asked_made t sequence request (Full ∷ vs)) (refusal_octets sequence FULL) refl r;
  }

  no_clock : (vs : List Verdict) → Runs t (asked_made t sequence request (ClockFailed ∷ vs)) → ⊥
  no_clock vs r =
      true≢false (sym (caused_in (before t).mets (plainly (before t).link sequence request) ClockFailed r.later
      (subst AreCaused r.mets t.line.legal.counted.causes)))

  has_copy : (vs : List Verdict) → Runs t (asked_made t sequence request (NoMemory ∷ vs)) → (plainly (before t).link sequence request).is_copied ≡ true
  has_copy vs r =
      caused_in (before t).mets (plainly (before t).link sequence request) NoMemory r.later
      (subst AreCaused r.mets t.line.legal.counted.causes)

  call : (reply : Said) (moment : ℕ) (vs : List Verdict) → Runs t (asked_made t sequence request (Entered reply moment ∷ vs))
      → IsOwnCall 0 t.opening t.served.link t.history (entered_of (before t).mets) (asked (right_of t) request) reply
  call reply moment vs r =
      let mine : Met = met (plainly (before t).link sequence request) (Entered reply moment) in
      call_of t.opening t.served.link t.history (entered_of (before t).mets) (asked (right_of t) request) reply (entered_of r.later)
      (t.line.legal.called.calls
      ∙ (ap entered_of r.mets ∙ entered-append (before t).mets (mine ∷ r.later)))

  is_call : (reply : Said) (c : IsOwnCall 0 t.opening t.served.link t.history (entered_of (before t).mets) (asked (right_of t) request) reply)
      → IsCallOf t (asked (right_of t) request) c.number
  is_call reply c = record { call = c.call; earlier = c.earlier }

  -- the message that answers it is the one that the state before its call makes
  says_reply : (reply : Said) (moment : ℕ) (vs : List Verdict) → Runs t (asked_made t sequence request (Entered reply moment ∷ vs))
      → (c : IsOwnCall 0 t.opening t.served.link t.history (entered_of (before t).mets) (asked (right_of t) request) reply)
      → Answers t (reply_octets sequence (answer_of (state_at t c.number) (asked (right_of t) request)))
  says_reply reply moment vs r c =
      says t (asked_made t sequence request (Entered reply moment ∷ vs))
      (reply_octets sequence (answer_of (state_at t c.number) (asked (right_of t) request)))
      (append-nil (sent_message (size_in t) (reply_octets sequence reply))
      ∙ ap (λ (x : Said). sent_message (size_in t) (reply_octets sequence x)) c.replied) r

-- ---- octets that spell a job

two_of : (n : ℕ) → number_of_two (n / 256) (n % 256) ≡ n
two_of n = omega arith

spelled_is_s7 : (sequence : ℕ) (params body : List ℕ) → is_s7 (job_spelled sequence params body) ≡ true
spelled_is_s7 sequence params body =
    ap (λ (b : Bool). b && true) (le-leb 10 (length (job_spelled sequence params body)) (omega (arith, length-append params body)))

spelled_number : (sequence : ℕ) (params body : List ℕ) → sequence_of (job_spelled sequence params body) ≡ sequence
spelled_number sequence params body = two_of sequence

-- ---- the PDU of a telegram

none_some : (o : Option ℕ) (n : ℕ) → o ≡ Some n → o ≢ None
none_some o n some = λ none. cc (none, some)

-- a link that began without a PDU has at most the greatest
pdu_within : (t : Telegram) (pdu : ℕ) → (before t).link.granted ≡ Some pdu → (t.first.granted ≢ None → pdu ≤ most_pdu) → pdu ≤ most_pdu
pdu_within t pdu is bounded = by_first t.first.granted refl
  where
    by_first : (o : Option ℕ) → t.first.granted ≡ o → pdu ≤ most_pdu
    by_first None none = grants_are_bounded t.first (verdicts_of t.line.mets) t.earlier pdu none is
    by_first (Some n) some = bounded (none_some t.first.granted n some)

spelled_by : (t : Telegram) (pdu sequence : ℕ) (items : List Item) (telegram : List ℕ) → IsFitting t pdu sequence items telegram
    → IsSpelled (before t).link pdu sequence items telegram
spelled_by t pdu sequence items telegram is = record {
  granted = is.granted;
  pdu_is = pdu_within t pdu is.granted is.bounded;
  numbered = is.numbered;
  some = is.some;
  most = is.most;
  fits = is.fits;
}

-- ---- reads

read_answered : (t : Telegram) (sequence : ℕ) (items : List Item) (reply : Said) (moment : ℕ) (vs : List Verdict)
    → Runs t (asked_made t sequence (Read items) (Entered reply moment ∷ vs)) → IsReadAnswered t sequence items
read_answered t sequence items reply moment vs r =
    let c = call t sequence (Read items) reply moment vs r in
    record {
      number = c.number;
      is_call = is_call t sequence (Read items) reply c;
      answers = map (read_item (memory_at t c.number) (right_of t)) items;
      are_read = reads_as (memory_at t c.number) (right_of t) items;
      says = says_reply t sequence (Read items) reply moment vs r c;
    }

read_ends : (t : Telegram) (sequence : ℕ) (items : List Item) (vs : List Verdict)
    → next (before t) (event_of t) ≡ with_made (before t) (asked_made t sequence (Read items) vs) → ReadEnds t sequence items vs
read_ends t sequence items [] is = unjudged_end t sequence (Read items) (runs t (asked_made t sequence (Read items) []) is)
read_ends t sequence items (Entered reply moment ∷ vs) is =
    read_answered t sequence items reply moment vs (runs t (asked_made t sequence (Read items) (Entered reply moment ∷ vs)) is)
read_ends t sequence items (Full ∷ vs) is =
    refused_as_full t sequence (Read items) vs (runs t (asked_made t sequence (Read items) (Full ∷ vs)) is)
read_ends t sequence items (ClockFailed ∷ vs) is =
    no_clock t sequence (Read items) vs (runs t (asked_made t sequence (Read items) (ClockFailed ∷ vs)) is)
read_ends t sequence items (NoMemory ∷ vs) is =
    true≢false (sym (has_copy t sequence (Read items) vs (runs t (asked_made t sequence (Read items) (NoMemory ∷ vs)) is)))

pub reads_are_answered : ReadsAreAnswered
reads_are_answered t pdu sequence items octets fitting room =
    let params = items_params read_function items in
    let spelled : IsSpelled (before t).link pdu sequence items (read_spelled sequence items) =
    spelled_by t pdu sequence items (read_spelled sequence items) fitting in
    read_ends t sequence items (before t).verdicts
    (next_asks t sequence (Read items)
    (ap (λ (m : List ℕ). is_s7 m) octets ∙ spelled_is_s7 sequence params [])
    (ap (λ (m : List ℕ). sequence_of m) octets ∙ spelled_number sequence params [])
    (ap (λ (m : List ℕ). judge (before t).link m) octets ∙ reads_are_asked (before t).link pdu sequence items spelled room))

-- ---- writes

abbrev write_asked : List Item → List DataItem → Request
write_asked items values = Write items (places_of 0 values) (data_octets values)

put_by : (t : Telegram) (sequence : ℕ) (items : List Item) (values : List DataItem) (reply : Said)
    (c : IsOwnCall 0 t.opening t.served.link t.history (entered_of (before t).mets) (asked (right_of t) (write_asked items values)) reply)
    → length values ≡ length items → AllByRecursion HasOctets values
    → ArePutAs (memory_at t c.number) (memory_at t c.number) (right_of t) items values
    (write_codes (memory_at t c.number) (right_of t) items (places_of 0 values) (data_octets values)) (memory_at t (c.number + 1))
put_by t sequence items values reply c many octets =
    let m = memory_at t c.number in
    let right = right_of t in
    let codes = write_codes m right items (places_of 0 values) (data_octets values) in
    let left : memory_at t (c.number + 1) ≡ write_all m right items (places_of 0 values) (data_octets values) =
    ap (λ (s : State). s.memory)
    (state_next t.opening t.history c.number (entry t.served.link (asked right (write_asked items values))) c.call) in
    subst (λ (n : Memory). ArePutAs m m right items values codes n) (sym left)
    (puts_as m right items values (places_of 0 values) (data_octets values) many (data_reads_back values octets).octets)

write_answered : (t : Telegram) (sequence : ℕ) (items : List Item) (values : List DataItem) (reply : Said) (moment : ℕ) (vs : List Verdict)
    → length values ≡ length items → AllByRecursion HasOctets values
    → Runs t (asked_made t sequence (write_asked items values) (Entered reply moment ∷ vs)) → IsWriteAnswered t sequence items values
write_answered t sequence items values reply moment vs many octets r =
    let c = call t sequence (write_asked items values) reply moment vs r in
    record {
      number = c.number;
      is_call = is_call t sequence (write_asked items values) reply c;
      codes = write_codes (memory_at t c.number) (right_of t) items (places_of 0 values) (data_octets values);
      are_put = put_by t sequence items values reply c many octets;
      says = says_reply t sequence (write_asked items values) reply moment vs r c;
    }

write_ends : (t : Telegram) (sequence : ℕ) (items : List Item) (values : List DataItem) (vs : List Verdict)
    → length values ≡ length items → AllByRecursion HasOctets values
    → next (before t) (event_of t) ≡ with_made (before t) (asked_made t sequence (write_asked items values) vs)
    → WriteEnds t sequence items values vs
write_ends t sequence items values [] many octets is =
    unjudged_end t sequence (write_asked items values) (runs t (asked_made t sequence (write_asked items values) []) is)
write_ends t sequence items values (Entered reply moment ∷ vs) many octets is =
    write_answered t sequence items values reply moment vs many octets
    (runs t (asked_made t sequence (write_asked items values) (Entered reply moment ∷ vs)) is)
write_ends t sequence items values (Full ∷ vs) many octets is =
    refused_as_full t sequence (write_asked items values) vs
    (runs t (asked_made t sequence (write_asked items values) (Full ∷ vs)) is)
write_ends t sequence items values (ClockFailed ∷ vs) many octets is =
    no_clock t sequence (write_asked items values) vs
    (runs t (asked_made t sequence (write_asked items values) (ClockFailed ∷ vs)) is)
write_ends t sequence items values (NoMemory ∷ vs) many octets is =
    lacking_end t sequence (write_asked items values) vs
    (runs t (asked_made t sequence (write_asked items values) (NoMemory ∷ vs)) is)

pub writes_are_answered : WritesAreAnswered
writes_are_answered t pdu sequence items values spells fitting many octets room =
    let params = items_params write_function items in
    let body = data_octets values in
    let spelled : IsSpelled (before t).link pdu sequence items (write_spelled sequence items values) =
    spelled_by t pdu sequence items (write_spelled sequence items values) fitting in
    write_ends t sequence items values (before t).verdicts many octets
    (next_asks t sequence (write_asked items values)
    (ap (λ (m : List ℕ). is_s7 m) spells ∙ spelled_is_s7 sequence params body)
    (ap (λ (m : List ℕ). sequence_of m) spells ∙ spelled_number sequence params body)
    (ap (λ (m : List ℕ). judge (before t).link m) spells
    ∙ writes_are_asked (before t).link pdu sequence items values spelled many octets room))
