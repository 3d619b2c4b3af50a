-- Laws of what handling a message does.
use Rattle.std.proofs.Common.{◌≡◌, ℕ, ◌+◌, ◌≤◌, true, false, List, [], ◌∷◌, ◌++◌, refl, ap, sym, ◌∙◌, subst}
use Rattle.std.proofs.Common.{append-nil, arith, IsTrue}
use Rattle.std.specs.Prelude.{Bool, Option, None, Some}
use Rattle.s7_outer.specs.Count.{Rose, RoseExactly}
use Rattle.s7_outer.specs.Shown.{Shown}
use Rattle.s7_plant.specs.declared.request.Ask.{Ask}
use Rattle.s7_plant.specs.Replies.{Said}
use Rattle.s7_wire.specs.Sent.{sent_message, sent_messages}
use Rattle.s7_session.specs.Answers.{Answers}
use Rattle.s7_session.specs.declared.handled.Handled.{Handled}
use Rattle.s7_session.specs.declared.handled.Handled.TheVariants as handled
use Rattle.s7_session.specs.declared.outcome.Outcome.TheVariants.{NotS7}
use Rattle.s7_session.specs.Doers.{GoesOn, Meets, Trail}
use Rattle.s7_session.specs.Entry.{Entry}
use Rattle.s7_session.specs.Errors.{FULL, CLOCK_FAILED}
use Rattle.s7_session.specs.Events.{lives, closes, Made, settled, asks, by_clock, judged, refusal_sent}
use Rattle.s7_session.specs.Judgement.{Asking}
use Rattle.s7_session.specs.LinkState.{LinkState}
use Rattle.s7_session.specs.Telegrams.{Met, met, verdicts_of, entered_of, looks_for, looks_in, NoneTimed, IsAt, moment_of}
use Rattle.s7_session.specs.Verdict.{Verdict, Entered, Full, ClockFailed, NoMemory}
use Rattle.s7_session.proofs.DoerLemmas.{trail_one}

-- what asking the clock, or not asking it, does to a line
pub record Looked (line line' : Shown) (asking : Asking) : Type 0 where
  pub same : line' ≡ record line { clock_faults = line'.clock_faults; looks = line'.looks }
  pub once : line'.clock_faults ≤ line.clock_faults + 1
  pub unasked : asking.is_timed ≡ false → line'.clock_faults ≡ line.clock_faults
  pub looks : RoseExactly (looks_for asking.is_timed) line.looks line'.looks

pub looked_not : (line : Shown) (asking : Asking) → asking.is_timed ≡ false → Looked line line asking
looked_not line asking untimed = record {
  same = refl;
  once = omega arith;
  unasked = λ e. refl;
  looks = subst (λ (b : Bool). RoseExactly (looks_for b) line.looks line.looks) (sym untimed) (omega arith, omega arith);
}

-- looks for one telegram are those for the list of it alone
looks_alone : (n before now : ℕ) → RoseExactly n before now → RoseExactly (n + 0) before now
looks_alone n before now rose = (omega (arith, rose.0), omega (arith, rose.1))

-- a message that asks nothing, with what it is owed
pub answers_settled : {D : Type 0} (stands : D → List Entry → Type 0) (full lack : D → Ask → Type 0) (did : D → Ask → Option (ℕ × Said) → D → Type 0) (kept : D → D → Type 0) (line : Shown) (d : D) (made : List Verdict → Made) (at : ℕ) (size : Option ℕ) (link : LinkState) (sent : List ℕ)
    → made [] ≡ settled size link sent [] → Answers stands full lack did kept line d line d made at size link sent handled.Answered
answers_settled stands full lack did kept line d made at size link sent is = record {
  verdicts = [];
  one = omega arith;
  entries = [];
  standing_is = ap (λ (m : Made). m.standing) is;
  out_is = ap (λ (m : Made). m.out) is;
  mets_are = ap (λ (m : Made). verdicts_of m.mets) is;
  entered_is = sym (ap (λ (m : Made). entered_of m.mets) is);
  none_left = ap (λ (m : Made). m.verdicts) is;
  size_is = ap (λ (m : Made). m.size) is;
  link_is = λ h. ap (λ (m : Made). m.link) is;
  silent = λ n. absurd (n refl);
  count = refl;
  last = λ before. refl;
  doer = λ es h. subst (stands d) (sym (append-nil es)) h;
  trail = subst (λ (ms : List Met). Trail full lack did kept d ms [] d) (sym (ap (λ (m : Made). m.mets) is)) (refl, refl);
  line_is = refl;
  clock = (omega arith, omega arith);
  unasked = λ h. refl;
  looks = subst (λ (m : Made). RoseExactly (looks_in m.mets) line.looks line.looks) (sym is) (omega arith, omega arith);
  moments = tt;
}

-- a message of another protocol closes the link
pub answers_closing : {D : Type 0} (stands : D → List Entry → Type 0) (full lack : D → Ask → Type 0) (did : D → Ask → Option (ℕ × Said) → D → Type 0) (kept : D → D → Type 0) (line : Shown) (d : D) (made : List Verdict → Made) (at : ℕ) (size : Option ℕ) (link : LinkState) (sent : List ℕ)
    → made [] ≡ record { size = size; link = link; out = []; mets = []; verdicts = []; standing = closes (NotS7 at) } → sent ≡ []
    → Answers stands full lack did kept line d line d made at size link sent handled.NotS7
answers_closing stands full lack did kept line d made at size link sent is none = record {
  verdicts = [];
  one = omega arith;
  entries = [];
  standing_is = ap (λ (m : Made). m.standing) is;
  out_is = ap (λ (m : Made). m.out) is ∙ sym none;
  mets_are = ap (λ (m : Made). verdicts_of m.mets) is;
  entered_is = sym (ap (λ (m : Made). entered_of m.mets) is);
  none_left = ap (λ (m : Made). m.verdicts) is;
  size_is = ap (λ (m : Made). m.size) is;
  link_is = λ h. ap (λ (m : Made). m.link) is;
  silent = λ n. none;
  count = refl;
  last = λ before. refl;
  doer = λ es h. subst (stands d) (sym (append-nil es)) h;
  trail = subst (λ (ms : List Met). Trail full lack did kept d ms [] d) (sym (ap (λ (m : Made). m.mets) is)) (refl, refl);
  line_is = refl;
  clock = (omega arith, omega arith);
  unasked = λ h. refl;
  looks = subst (λ (m : Made). RoseExactly (looks_in m.mets) line.looks line.looks) (sym is) (omega arith, omega arith);
  moments = tt;
}

-- the doer entered what was asked
pub answers_entered : {D : Type 0} (stands : D → List Entry → Type 0) (full lack : D → Ask → Type 0) (did : D → Ask → Option (ℕ × Said) → D → Type 0) (kept : D → D → Type 0) (line line' : Shown) (d d' : D) (n : ℕ) (link link' : LinkState) (sequence : ℕ) (asking : Asking) (at : ℕ) (sent : List ℕ)
    (number : ℕ) (a : Ask) (reply : Said) (moment : ℕ)
    → Looked line line' asking → line'.clock_faults ≡ line.clock_faults → (asking.is_timed ≡ false → moment ≡ 0)
    → IsAt line.moment (moment_of a.request)
    → a ≡ asking.ask moment → asking.link reply ≡ link' → sent_messages n (asking.messages reply) ≡ sent
    → ((es : List Entry) → stands d es → stands d' (es ++ record { number = number; ask = a; reply = reply } ∷ []))
    → GoesOn full kept d d' → (full d (asking.ask moment) → ⊥) → did d (asking.ask moment) (Some (number, reply)) d'
    → Answers stands full lack did kept line d line' d' (asks n link sequence asking) at (Some n) link' sent (handled.Entered number)
answers_entered stands full lack did kept line line' d d' n link link' sequence asking at sent number a reply moment looked told untimed at_moment is goes out doer still not_full entered = record {
  verdicts = Entered reply moment ∷ [];
  one = omega arith;
  entries = record { number = number; ask = a; reply = reply } ∷ [];
  standing_is = refl;
  out_is = out;
  mets_are = refl;
  entered_is = ap (λ x. (x, reply) ∷ []) is;
  none_left = refl;
  size_is = refl;
  link_is = λ h. goes;
  silent = λ e. absurd (e refl);
  count = refl;
  last = λ before. refl;
  doer = doer;
  trail =
      let made : Ask → List Entry = λ x. record { number = number; ask = x; reply = reply } ∷ [] in
      trail_one full lack did kept d d' (met asking (Entered reply moment)) (made a)
      (not_full, untimed, (number, ap made is, entered), still);
  line_is = looked.same;
  clock = (omega (arith, told), omega (arith, told));
  unasked = λ h. looked.unasked h.0;
  looks = looks_alone (looks_for asking.is_timed) line.looks line'.looks looked.looks;
  moments = (at_moment, tt);
}

-- the doer was full
pub answers_full : {D : Type 0} (stands : D → List Entry → Type 0) (full lack : D → Ask → Type 0) (did : D → Ask → Option (ℕ × Said) → D → Type 0) (kept : D → D → Type 0) (line line' : Shown) (d d' : D) (n : ℕ) (link link' : LinkState) (sequence : ℕ) (asking : Asking) (at : ℕ) (sent : List ℕ) (moment : ℕ)
    → Looked line line' asking → line'.clock_faults ≡ line.clock_faults → link ≡ link'
    → refusal_sent n sequence FULL ≡ sent
    → ((es : List Entry) → stands d es → stands d' es) → GoesOn full kept d d' → full d' (asking.ask moment) → did d (asking.ask moment) None d'
    → Answers stands full lack did kept line d line' d' (asks n link sequence asking) at (Some n) link' sent handled.Answered
answers_full stands full lack did kept line line' d d' n link link' sequence asking at sent moment looked told goes out doer still is_full refused = record {
  verdicts = Full ∷ [];
  one = omega arith;
  entries = [];
  standing_is = refl;
  out_is = out;
  mets_are = refl;
  entered_is = refl;
  none_left = refl;
  size_is = refl;
  link_is = λ h. goes;
  silent = λ e. absurd (e refl);
  count = refl;
  last = λ before. refl;
  doer = λ es h. subst (stands d') (sym (append-nil es)) (doer es h);
  trail = trail_one full lack did kept d d' (met asking Full) [] (moment, is_full, refused, still, refl);
  line_is = looked.same;
  clock = (omega (arith, told), omega (arith, told));
  unasked = λ h. looked.unasked h.0;
  looks = looks_alone (looks_for asking.is_timed) line.looks line'.looks looked.looks;
  moments = tt;
}

-- the clock failed for what asks for a moment, which makes a refusal
clock_made : (n : ℕ) (link : LinkState) (sequence : ℕ) (asking : Asking) → asking.is_timed ≡ true
    → asks n link sequence asking (ClockFailed ∷ []) ≡ judged (Some n) link (refusal_sent n sequence CLOCK_FAILED) asking ClockFailed [] lives
clock_made n link sequence asking timed = ap (λ b. by_clock b n link sequence asking []) timed

-- and the doer isn't asked
pub answers_clock_failed : {D : Type 0} (stands : D → List Entry → Type 0) (full lack : D → Ask → Type 0) (did : D → Ask → Option (ℕ × Said) → D → Type 0) (kept : D → D → Type 0) (line line' : Shown) (d : D) (n : ℕ) (link link' : LinkState) (sequence : ℕ) (asking : Asking) (at : ℕ) (sent : List ℕ)
    → Looked line line' asking → asking.is_timed ≡ true → Rose line.clock_faults line'.clock_faults → link ≡ link' → refusal_sent n sequence CLOCK_FAILED ≡ sent
    → Answers stands full lack did kept line d line' d (asks n link sequence asking) at (Some n) link' sent handled.Answered
answers_clock_failed stands full lack did kept line line' d n link link' sequence asking at sent looked timed rose goes out =
    let is = clock_made n link sequence asking timed in
    record {
      verdicts = ClockFailed ∷ [];
      one = omega arith;
      entries = [];
      standing_is = ap (λ (m : Made). m.standing) is;
      out_is = ap (λ (m : Made). m.out) is ∙ out;
      mets_are = ap (λ (m : Made). verdicts_of m.mets) is;
      entered_is = sym (ap (λ (m : Made). entered_of m.mets) is);
      none_left = ap (λ (m : Made). m.verdicts) is;
      size_is = ap (λ (m : Made). m.size) is;
      link_is = λ h. ap (λ (m : Made). m.link) is ∙ goes;
      silent = λ e. absurd (e refl);
      count = refl;
      last = λ before. refl;
      doer = λ es h. subst (stands d) (sym (append-nil es)) h;
      trail = subst (λ (ms : List Met). Trail full lack did kept d ms [] d) (sym (ap (λ (m : Made). m.mets) is))
          (trail_one full lack did kept d d (met asking ClockFailed) [] (subst IsTrue (sym timed) refl, refl, refl));
      line_is = looked.same;
      clock = (omega (arith, rose), omega (arith, looked.once));
      unasked = λ h. looked.unasked (subst NoneTimed (ap (λ (m : Made). m.mets) is) h).0;
      looks = subst (λ (ms : List Met). RoseExactly (looks_in ms) line.looks line'.looks) (sym (ap (λ (m : Made). m.mets) is))
          (looks_alone (looks_for asking.is_timed) line.looks line'.looks looked.looks);
      moments = tt;
    }

-- memory was wanting
pub answers_memory : {D : Type 0} (stands : D → List Entry → Type 0) (full lack : D → Ask → Type 0) (did : D → Ask → Option (ℕ × Said) → D → Type 0) (kept : D → D → Type 0) (line line' : Shown) (d d' : D) (n : ℕ) (link link' : LinkState) (sequence : ℕ) (asking : Asking) (at : ℕ) (sent : List ℕ)
    → Looked line line' asking → line'.clock_faults ≡ line.clock_faults → sent ≡ []
    → ((es : List Entry) → stands d es → stands d' es)
    → Meets full lack did kept asking NoMemory d [] d'
    → Answers stands full lack did kept line d line' d' (asks n link sequence asking) at (Some n) link' sent handled.NoMemory
answers_memory stands full lack did kept line line' d d' n link link' sequence asking at sent looked told none doer lacks = record {
  verdicts = NoMemory ∷ [];
  one = omega arith;
  entries = [];
  standing_is = refl;
  out_is = sym none;
  mets_are = refl;
  entered_is = refl;
  none_left = refl;
  size_is = refl;
  link_is = λ h. absurd (cc);
  silent = λ e. none;
  count = refl;
  last = λ before. refl;
  doer = λ es h. subst (stands d') (sym (append-nil es)) (doer es h);
  trail = trail_one full lack did kept d d' (met asking NoMemory) [] lacks;
  line_is = looked.same;
  clock = (omega (arith, told), omega (arith, told));
  unasked = λ h. looked.unasked h.0;
  looks = looks_alone (looks_for asking.is_timed) line.looks line'.looks looked.looks;
  moments = tt;
}

-- answers to what is made are those to what is the same
pub same_made : {D : Type 0} (stands : D → List Entry → Type 0) (full lack : D → Ask → Type 0) (did : D → Ask → Option (ℕ × Said) → D → Type 0) (kept : D → D → Type 0) (line line' : Shown) (d d' : D) (f g : List Verdict → Made) (at : ℕ) (size : Option ℕ) (link : LinkState) (sent : List ℕ) (result : Handled)
    → ((vs : List Verdict) → f vs ≡ g vs) → Answers stands full lack did kept line d line' d' g at size link sent result → Answers stands full lack did kept line d line' d' f at size link sent result
same_made stands full lack did kept line line' d d' f g at size link sent result same a =
    let e = same a.verdicts in
    record {
      verdicts = a.verdicts;
      one = a.one;
      entries = a.entries;
      standing_is = ap (λ (m : Made). m.standing) e ∙ a.standing_is;
      out_is = ap (λ (m : Made). m.out) e ∙ a.out_is;
      mets_are = ap (λ (m : Made). verdicts_of m.mets) e ∙ a.mets_are;
      entered_is = a.entered_is ∙ sym (ap (λ (m : Made). entered_of m.mets) e);
      none_left = ap (λ (m : Made). m.verdicts) e ∙ a.none_left;
      size_is = ap (λ (m : Made). m.size) e ∙ a.size_is;
      link_is = λ h. ap (λ (m : Made). m.link) e ∙ a.link_is h;
      silent = a.silent;
      count = a.count;
      last = a.last;
      doer = a.doer;
      trail = subst (λ (ms : List Met). Trail full lack did kept d ms a.entries d') (sym (ap (λ (m : Made). m.mets) e)) a.trail;
      line_is = a.line_is;
      clock = a.clock;
      unasked = λ h. a.unasked (subst NoneTimed (ap (λ (m : Made). m.mets) e) h);
      looks = subst (λ (ms : List Met). RoseExactly (looks_in ms) line.looks line'.looks) (sym (ap (λ (m : Made). m.mets) e)) a.looks;
      moments = a.moments;
    }

-- what has no moment needs none
is_at_none : (told : Option ℕ) → IsAt told None
is_at_none None = tt
is_at_none (Some m) = tt

pub untimed_at : (told : Option ℕ) (a : Ask) → moment_of a.request ≡ None → IsAt told (moment_of a.request)
untimed_at told a none = subst (IsAt told) (sym none) (is_at_none told)

-- one message goes out
pub one_message : (size : ℕ) (m sent : List ℕ) → sent_message size m ≡ sent → sent_messages size (m ∷ []) ≡ sent
one_message size m sent e = append-nil (sent_message size m) ∙ e

-- behind what was sent, where nothing was
pub after_nothing : (old out new : List ℕ) → new ≡ old ++ out → old ≡ [] → out ≡ new
after_nothing old out new e none = sym (e ∙ ap (λ x. x ++ out) none)

pub false_not_true : false ≡ true → ⊥
false_not_true e = cc
