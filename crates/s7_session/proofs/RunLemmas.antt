-- Laws of whole runs.
use Rattle.std.proofs.Common.{inl, inr, ◌≡◌, ℕ, ◌+◌, ◌≤◌, List, [], ◌++◌, length, ap, sym, ◌∙◌, subst, append_assoc}
use Rattle.std.proofs.Common.{append-nil, length-append, arith}
use Rattle.std.specs.Prelude.{Option}
use Rattle.std.specs.Io.KnownBytes.{prepend_known}
use Rattle.s7_outer.specs.Shown.{Shown}
use Rattle.s7_plant.specs.declared.request.Ask.{Ask}
use Rattle.s7_plant.specs.Replies.{Said}
use Rattle.s7_session.specs.declared.session.Session.{Session}
use Rattle.s7_session.specs.declared.outcome.Outcome.{Outcome}
use Rattle.s7_session.specs.declared.outcome.Outcome.TheVariants as outcome
use Rattle.s7_session.specs.Entry.{Entry}
use Rattle.s7_session.specs.Events.{lives}
use Rattle.s7_session.specs.LinkRun.{IsFresh, IsBrokenOff, IsWritten, IsEnd, IsLinkRun}
use Rattle.s7_session.specs.LinkState.{LinkState}
use Rattle.s7_session.specs.Owed.{Past, past, owed, entered, end_of}
use Rattle.s7_session.specs.Stands.{Stands, IsServed, HasCause, HasFaulted, unread, unsent, entry_count, newest}
use Rattle.s7_session.specs.Telegrams.{verdicts_of, entered_of, last_number}
use Rattle.s7_session.specs.Verdict.{Verdict}
use Rattle.s7_session.proofs.PastLemmas.{IsOver, never_stops, standing_cases, past_grows, past_over, end_over}
use Rattle.s7_session.proofs.PastLemmas.{past_nothing}

-- how the octets written and the end are those of all octets taken
record Finishes (link link' : Shown) (first : LinkState) (s : Session) (used : List ℕ) (js : List Verdict) (written : List ℕ) (o : Outcome) : Type 0 where
  owed : IsWritten first o (used ++ unread s) js written
  end : IsEnd link link' first (used ++ unread s) js o

-- nothing is owed for the octets that were not used
sent_same : (first : LinkState) (s : Session) (used : List ℕ) (js : List Verdict) (written : List ℕ) → Stands first s used js written → unsent s ≡ []
    → past first (used ++ unread s) js ≡ past first used js → written ≡ owed first (used ++ unread s) js
sent_same first s used js written h sent same =
    sym (ap (λ (p : Past). p.owed) same ∙ (h.owed ∙ (ap (λ x. written ++ x) sent ∙ append-nil written)))

read_all : (s : Session) (used : List ℕ) → unread s ≡ [] → used ++ unread s ≡ used
read_all s used e = ap (λ x. used ++ x) e ∙ append-nil used

-- octets that were not used change nothing where there are none, or the link is over
record Unchanged (first : LinkState) (s : Session) (used : List ℕ) (js : List Verdict) : Type 0 where
  same : past first (used ++ unread s) js ≡ past first used js
  end : end_of first (used ++ unread s) js ≡ end_of first used js

unchanged_read : (first : LinkState) (s : Session) (used : List ℕ) (js : List Verdict) → unread s ≡ [] → Unchanged first s used js
unchanged_read first s used js none =
    record { same = ap (λ x. past first x js) (read_all s used none); end = ap (λ x. end_of first x js) (read_all s used none) }

unchanged_over : (first : LinkState) (s : Session) (used : List ℕ) (js : List Verdict) → IsOver (past first used js).standing → Unchanged first s used js
unchanged_over first s used js o = record { same = past_over first used (unread s) js o; end = end_over first used (unread s) js o }

unchanged : (first : LinkState) (s : Session) (used : List ℕ) (js : List Verdict) → ((past first used js).standing ≡ lives → unread s ≡ []) → Unchanged first s used js
unchanged first s used js h =
    elim (standing_cases (past first used js).standing) [ inl l ↦ unchanged_read first s used js (h l) | inr o ↦ unchanged_over first s used js o ]

faulted : (first : LinkState) (s : Session) (used : List ℕ) (js : List Verdict) (o : Outcome) → HasFaulted first s used js o → Unchanged first s used js
faulted first s used js o h = unchanged first s used js (λ l. absurd (h.over l))

lives_on : (first : LinkState) (s : Session) (used : List ℕ) (js : List Verdict) → unread s ≡ [] → (past first used js).standing ≡ lives → (past first (used ++ unread s) js).standing ≡ lives
lives_on first s used js none l = ap (λ x. (past first x js).standing) (read_all s used none) ∙ l

-- what was entered is the same of all octets taken
broken_off : (first : LinkState) (s : Session) (used : List ℕ) (js : List Verdict) (written : List ℕ) → Stands first s used js written → 1 ≤ length (unsent s) → IsBrokenOff first (used ++ unread s) js written
broken_off first s used js written h some =
    let g = past_grows first used (unread s) js in
    let w = h.whole in
    record {
      left = unsent s ++ g.tail;
      front = g.owed ∙ (ap (λ x. x ++ g.tail) h.owed ∙ append_assoc written (unsent s) g.tail);
      some = omega (arith, some, length-append (unsent s) g.tail);
      whole = record {
        front = w.front;
        behind = w.behind ++ unread s;
        octets = ap (λ x. x ++ unread s) w.octets ∙ append_assoc w.front w.behind (unread s);
        met = w.met;
        later = w.later;
        verdicts = w.verdicts;
        part = w.part;
        whole = w.whole;
        all_but_one = subst (λ x. length (entered_of x) ≤ length (entered first w.front w.met) + 1) (sym (g.mets h.met)) w.all_but_one;
      };
    }

finishes : (link link' : Shown) (first : LinkState) (s : Session) (used : List ℕ) (js : List Verdict) (written : List ℕ) (o : Outcome) → Stands first s used js written → HasCause link link' first s used js o
    → Finishes link link' first s used js written o
finishes link link' first s used js written outcome.Ended h cause =
    let u = unchanged first s used js (λ l. (cause.at_end l).2) in
    record {
      owed = sent_same first s used js written h cause.sent u.same;
      end = (u.end ∙ cause.end, λ l. let c = cause.at_end (ap (λ (p : Past). p.standing) (sym u.same) ∙ l) in (c.0, c.1));
    }
finishes link link' first s used js written (outcome.Torn n) h cause =
    let u = unchanged first s used js (λ l. (cause.at_end l).2) in
    record {
      owed = sent_same first s used js written h cause.sent u.same;
      end = (u.end ∙ cause.end, λ l. let c = cause.at_end (ap (λ (p : Past). p.standing) (sym u.same) ∙ l) in (c.0, c.1));
    }
finishes link link' first s used js written (outcome.BadFrame at) h cause =
    let u = faulted first s used js (outcome.BadFrame at) cause in
    record { owed = sent_same first s used js written h cause.sent u.same; end = u.end ∙ cause.end }
finishes link link' first s used js written (outcome.FrameTooLong at) h cause =
    let u = faulted first s used js (outcome.FrameTooLong at) cause in
    record { owed = sent_same first s used js written h cause.sent u.same; end = u.end ∙ cause.end }
finishes link link' first s used js written (outcome.BadTpdu at) h cause =
    let u = faulted first s used js (outcome.BadTpdu at) cause in
    record { owed = sent_same first s used js written h cause.sent u.same; end = u.end ∙ cause.end }
finishes link link' first s used js written (outcome.Unexpected at) h cause =
    let u = faulted first s used js (outcome.Unexpected at) cause in
    record { owed = sent_same first s used js written h cause.sent u.same; end = u.end ∙ cause.end }
finishes link link' first s used js written (outcome.TooManyFragments at) h cause =
    let u = faulted first s used js (outcome.TooManyFragments at) cause in
    record { owed = sent_same first s used js written h cause.sent u.same; end = u.end ∙ cause.end }
finishes link link' first s used js written (outcome.TooLong at) h cause =
    let u = faulted first s used js (outcome.TooLong at) cause in
    record { owed = sent_same first s used js written h cause.sent u.same; end = u.end ∙ cause.end }
finishes link link' first s used js written (outcome.NotS7 at) h cause =
    let u = faulted first s used js (outcome.NotS7 at) cause in
    record { owed = sent_same first s used js written h cause.sent u.same; end = u.end ∙ cause.end }
finishes link link' first s used js written outcome.ReadFault h cause =
    let u = unchanged_read first s used js cause.1.1 in
    record { owed = sent_same first s used js written h cause.1.0 u.same; end = (cause.0, lives_on first s used js cause.1.1 cause.2) }
finishes link link' first s used js written outcome.WriteFault h cause =
    record { owed = broken_off first s used js written h cause.1; end = (cause.0, never_stops first used (unread s) js cause.2 h.met) }
finishes link link' first s used js written outcome.Spent h cause =
    let u = unchanged_read first s used js cause.1.1 in
    record {
      owed = sent_same first s used js written h cause.1.0 u.same;
      end = (ap length (read_all s used cause.1.1) ∙ cause.0, lives_on first s used js cause.1.1 cause.2);
    }
finishes link link' first s used js written outcome.Memory h cause =
    let u = unchanged_over first s used js (subst IsOver (sym cause.0) tt) in
    record { owed = sent_same first s used js written h cause.1 u.same; end = ap (λ (p : Past). p.standing) u.same ∙ cause.0 }

-- a fresh session that is served to its end
pub link_run : {D : Type 0} (stands : D → List Entry → Type 0) (full lack : D → Ask → Type 0) (did : D → Ask → Option (ℕ × Said) → D → Type 0) (kept : D → D → Type 0) (first : LinkState) (old new : Session) (k k' : Shown) (d d' : D) (o : Outcome)
    → IsServed stands full lack did kept old k d new k' d' o → IsFresh first old → IsLinkRun stands full lack did kept first k d k' d' o (entry_count new) (newest new)
link_run stands full lack did kept first old new k k' d d' o served fresh =
    let m = served.moves in
    let js = verdicts_of m.mets in
    let s : Stands first new m.used js m.written = m.stood first [] [] [] fresh.stands in
    let taken : m.received ≡ m.used ++ unread new = ap (λ x. x ++ m.received) (sym fresh.unread) ∙ m.inbox in
    let fin = finishes k k' first new m.used js m.written o s (served.cause fresh.going first [] [] [] fresh.stands) in
    let g = past_grows first m.used (unread new) js in
    record {
      taken = m.used ++ unread new;
      written = m.written;
      mets = m.mets;
      entries = m.entries;
      took = m.took ∙ ap (λ x. prepend_known x k'.left) taken;
      wrote = m.wrote;
      fits = m.fits;
      space = m.space;
      lent = m.lent;
      shut = m.shut;
      moment = m.moment;
      owed = fin.owed;
      asked = g.mets s.met ∙ (m.asked first [] [] [] fresh.stands ∙ ap (λ (p : Past). p.mets ++ m.mets) (past_nothing first []));
      entered = m.entered;
      doer = m.doer;
      trail = m.trail;
      count = m.count ∙ omega (arith, fresh.count);
      last_is = m.newest ∙ ap (λ x. last_number x m.entries) fresh.newest;
      clock = m.clock;
      unasked = m.unasked;
      looks = m.looks;
      moments = m.moments;
      fails = served.fails fresh.going;
      end = fin.end;
    }
