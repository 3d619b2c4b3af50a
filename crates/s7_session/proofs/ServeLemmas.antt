-- Laws of turns, one after another.
use Rattle.std.proofs.Common.{◌≡◌, ◌==◌, ℕ, ◌<◌, Bool, true, false, List, [], ◌++◌, length, refl, ap, sym, ◌∙◌, subst}
use Rattle.std.proofs.Common.{append_assoc, arith}
use Rattle.std.specs.Prelude.{Option, None, Some, IsTrue, IfSome, IsSome}
use Rattle.std.proofs.lemmas.List.{append-nil, nil_from_length}
use Rattle.std.proofs.lemmas.Bool.Decides.{nat_tests}
use Rattle.std.specs.Io.KnownBytes.{prepend_known, IsAtEnd}
use Rattle.s7_outer.specs.Shown.{Shown}
use Rattle.s7_outer.specs.Count.{Rose}
use Rattle.s7_plant.specs.declared.request.Ask.{Ask}
use Rattle.s7_plant.specs.Replies.{Said}
use Rattle.s7_wire.specs.declared.found.Opening.TheVariants.{Request}
use Rattle.s7_wire.specs.Reading.{torn_of}
use Rattle.s7_wire.specs.Reads.{HasRead}
use Rattle.s7_session.specs.declared.session.Session.{Session}
use Rattle.s7_session.specs.declared.outcome.Outcome.{Outcome}
use Rattle.s7_session.specs.declared.outcome.Outcome.TheVariants as outcome
use Rattle.s7_session.specs.declared.outcome.Turn.{Turn}
use Rattle.s7_session.specs.declared.outcome.Turn.TheVariants as turn
use Rattle.s7_session.specs.Conversing.{sends}
use Rattle.s7_session.specs.Entry.{Entry}
use Rattle.s7_session.specs.LinkState.{LinkState}
use Rattle.s7_session.specs.Owed.{end_of, end_by, torn_or_ended}
use Rattle.s7_session.specs.Stands.{Stands, Moves, IsTurn, IsServed, Consumes, HasCause, HasMetNotYet, IsIdle}
use Rattle.s7_session.specs.Stands.{FailsBy, Counts}
use Rattle.s7_session.specs.Stands.{closed_with, closed_by, unread, unsent}
use Rattle.s7_session.specs.Telegrams.{verdicts_of}
use Rattle.s7_session.specs.Verdict.{Verdict}
use Rattle.s7_session.proofs.ConsumeLemmas.{closed_not_yet, closed_not_went, none_not_some, same_closed}
use Rattle.s7_session.proofs.TurnLemmas.{Keeps, Moved, stood_plain, moves_plain, moves_both, moves_none}
use Rattle.s7_session.proofs.TurnLemmas.{cause_earlier, prepend_none, append_none, space_none, fits_none}
use Rattle.s7_session.proofs.TurnLemmas.{verdicts-append}

pub not_yet_not_went : turn.NotYet ≡ turn.Went → ⊥
not_yet_not_went e = cc

pub not_yet_not_closed : (o : Outcome) → turn.NotYet ≡ turn.Closed o → ⊥
not_yet_not_closed o e = cc

-- one turn closes with one outcome
pub closed_same : (o p : Outcome) (t : Turn) → t ≡ turn.Closed o → t ≡ turn.Closed p → o ≡ p
closed_same o p t e h = sym (same_closed p o (sym h ∙ e))

pub write_not_read : outcome.WriteFault ≡ outcome.ReadFault → ⊥
write_not_read e = cc

pub read_not_write : outcome.ReadFault ≡ outcome.WriteFault → ⊥
read_not_write e = cc

pub torn_not_write : (torn : Option ℕ) (o : Outcome) → o ≡ torn_or_ended torn → o ≡ outcome.WriteFault → ⊥
torn_not_write None o is e = absurd (cc)
torn_not_write (Some n) o is e = absurd (cc)

-- ---- how often a link failed

pub fails_not : (o : Outcome) (before now : ℕ) → now ≡ before → (o ≡ outcome.ReadFault → ⊥)
    → (o ≡ outcome.WriteFault → ⊥) → FailsBy o before now
fails_not outcome.Ended before now e r w = e
fails_not (outcome.Torn n) before now e r w = e
fails_not (outcome.BadFrame at) before now e r w = e
fails_not (outcome.FrameTooLong at) before now e r w = e
fails_not (outcome.BadTpdu at) before now e r w = e
fails_not (outcome.Unexpected at) before now e r w = e
fails_not (outcome.TooManyFragments at) before now e r w = e
fails_not (outcome.TooLong at) before now e r w = e
fails_not (outcome.NotS7 at) before now e r w = e
fails_not outcome.ReadFault before now e r w = absurd (r refl)
fails_not outcome.WriteFault before now e r w = absurd (w refl)
fails_not outcome.Spent before now e r w = e
fails_not outcome.Memory before now e r w = e

-- the end of the octets is no fault
pub fails_torn : (torn : Option ℕ) (o : Outcome) (before now : ℕ) → o ≡ torn_or_ended torn → now ≡ before
    → FailsBy o before now
fails_torn None o before now is e = subst (λ x. FailsBy x before now) (sym is) e
fails_torn (Some n) o before now is e = subst (λ x. FailsBy x before now) (sym is) e

-- a turn that used octets met no fault and no wait
counts_used : (t : Turn) (link link' : Shown) → link'.faults ≡ link.faults → link'.waits ≡ link.waits
    → (t ≡ turn.NotYet → ⊥)
    → ((o : Outcome) → t ≡ turn.Closed o → (o ≡ outcome.ReadFault → ⊥) × (o ≡ outcome.WriteFault → ⊥))
    → Counts t link link'
counts_used turn.Went link link' f w n b = (f, w)
counts_used turn.NotYet link link' f w n b = absurd (n refl)
counts_used (turn.Closed o) link link' f w n b =
    (fails_not o link.faults link'.faults f (b o refl).0 (b o refl).1, w)

-- none before a turn, and those of it
pub fails_later : (o : Outcome) (k0 k1 k2 : ℕ) → k1 ≡ k0 → FailsBy o k1 k2 → FailsBy o k0 k2
fails_later o k0 k1 k2 e h = subst (λ x. FailsBy o x k2) e h

pub none_failed : (t is : Turn) (link link' : Shown) (before : ℕ) → t ≡ is → link.faults ≡ before
    → (Counts is link link' → link'.faults ≡ link.faults) → Counts t link link' → link'.faults ≡ before
none_failed t is link link' before e same from h = from (subst (λ x. Counts x link link') e h) ∙ same

-- a turn that only received and sent
pub turn_plain : {D : Type 0} (stands : D → List Entry → Type 0) (full lack : D → Ask → Type 0) (did : D → Ask → Option (ℕ × Said) → D → Type 0) (kept : D → D → Type 0) (old new : Session) (link link' : Shown) (d : D) (written : List ℕ) (result : Turn)
    → Keeps old new → sends old.conversation ≡ written ++ sends new.conversation → old.inbox ≡ new.inbox
    → Moved link link' [] written → closed_with old ≡ None → closed_with new ≡ closed_by result
    → (result ≡ turn.Went → 0 < length written) → (result ≡ turn.NotYet → (written ≡ []) × Rose link.waits link'.waits × HasMetNotYet old link)
    → ((o : Outcome) → result ≡ turn.Closed o → (first : LinkState) (b : List ℕ) (js : List Verdict) (w : List ℕ) → Stands first old b js w → Stands first new b js (w ++ written) → HasCause link link' first new b js o)
    → (result ≡ turn.Closed outcome.ReadFault → IsIdle old) → (result ≡ turn.Closed outcome.WriteFault → 0 < length (unsent old))
    → Counts result link link'
    → IsTurn stands full lack did kept old link d new link' d result
unfolding moves_plain
turn_plain stands full lack did kept old new link link' d written result keeps outbox inbox moved live closed went not_yet cause reads writes counts = record {
  moves = moves_plain stands full lack did kept old new link link' d [] written keeps outbox (append-nil old.inbox ∙ inbox) (λ e. live) moved;
  one = omega arith;
  went = λ e. omega (arith, went e);
  not_yet = λ e. (refl, refl, (not_yet e).0, (not_yet e).1, (not_yet e).2, sym (outbox ∙ ap (λ x. x ++ sends new.conversation) (not_yet e).0));
  receives = λ h. absurd (omega (arith, h));
  uses = λ h. absurd (omega (arith, h));
  read_fails = λ e l. (reads e, refl);
  write_fails = λ e l. (writes e, refl);
  counts = λ l. counts;
  closed = closed;
  cause = λ o e l first b js w h.
      let P : List ℕ → Type 0 = λ x. HasCause link link' first new x (js ++ []) o in
      let Q : List Verdict → Type 0 = λ x. HasCause link link' first new b x o in
      subst P (sym (append-nil b)) (subst Q (sym (append-nil js)) (cause o e first b js w h (stood_plain first old new written keeps outbox (λ x. live) b js w h)));
}

-- a turn that moved nothing and closes
pub turn_closing : {D : Type 0} (stands : D → List Entry → Type 0) (full lack : D → Ask → Type 0) (did : D → Ask → Option (ℕ × Said) → D → Type 0) (kept : D → D → Type 0) (old new : Session) (link link' : Shown) (d : D) (o : Outcome) (result : Turn)
    → Keeps old new → sends new.conversation ≡ sends old.conversation → new.inbox ≡ old.inbox
    → Moved link link' [] [] → closed_with old ≡ None → closed_with new ≡ Some o → result ≡ turn.Closed o
    → ((first : LinkState) (b : List ℕ) (js : List Verdict) (w : List ℕ) → Stands first old b js w → HasCause link link' first new b js o)
    → (o ≡ outcome.ReadFault → IsIdle old) → (o ≡ outcome.WriteFault → 0 < length (unsent old))
    → Counts (turn.Closed o) link link'
    → IsTurn stands full lack did kept old link d new link' d result
turn_closing stands full lack did kept old new link link' d o result keeps outbox inbox moved live closed is cause reads writes counts =
    let P : Turn → Type 0 = λ t. IsTurn stands full lack did kept old link d new link' d t in
    subst P (sym is) (turn_plain stands full lack did kept old new link link' d [] (turn.Closed o) keeps (sym outbox) (sym inbox)
    moved live closed (λ e. absurd (closed_not_went o e)) (λ e. absurd (closed_not_yet o e))
    (λ o' e first b js w h n.
    let Q : Outcome → Type 0 = λ x. HasCause link link' first new b js x in
    subst Q (same_closed o o' e) (cause first b js w h))
    (λ e. reads (same_closed o outcome.ReadFault e)) (λ e. writes (same_closed o outcome.WriteFault e)) counts)

pub moves_used : {D : Type 0} (stands : D → List Entry → Type 0) (full lack : D → Ask → Type 0) (did : D → Ask → Option (ℕ × Said) → D → Type 0) (kept : D → D → Type 0) (old new : Session) (link link' : Shown) (d d' : D) (result : Turn) → Consumes stands full lack did kept old link d new link' d' result
    → Moves stands full lack did kept old link d new link' d'
moves_used stands full lack did kept old new link link' d d' result k = record {
  received = [];
  used = k.used;
  written = [];
  mets = k.mets;
  entries = k.entries;
  took = prepend_none link.left ∙ ap (prepend_known []) (sym (ap (λ x. x.left) k.line));
  wrote = ap (λ x. x.written) k.line ∙ append_none link.written;
  fits = fits_none link.space;
  space = ap (λ x. x.space) k.line ∙ space_none link.space;
  lent = ap (λ x. x.lent) k.line;
  shut = ap (λ x. x.shut) k.line;
  inbox = append-nil old.inbox ∙ k.inbox;
  stood = λ first b js w h.
      let P : List ℕ → Type 0 = λ x. Stands first new (b ++ k.used) (js ++ verdicts_of k.mets) x in
      subst P (sym (append-nil w)) (k.stood first b js w h);
  asked = k.asked;
  entered = k.entered;
  count = k.count;
  newest = k.newest;
  doer = k.doer;
  trail = k.trail;
  clock = k.clock;
  unasked = k.unasked;
  looks = k.looks;
  moment = ap (λ x. x.moment) k.line;
  moments = k.moments;
  faults = omega (arith, ap (λ x. x.faults) k.line);
  waits = omega (arith, ap (λ x. x.waits) k.line);
}

-- a turn that used octets that were there
pub turn_used : {D : Type 0} (stands : D → List Entry → Type 0) (full lack : D → Ask → Type 0) (did : D → Ask → Option (ℕ × Said) → D → Type 0) (kept : D → D → Type 0) (old new : Session) (link link' : Shown) (d d' : D) (result : Turn) → closed_with old ≡ None → unsent old ≡ []
    → Consumes stands full lack did kept old link d new link' d' result → IsTurn stands full lack did kept old link d new link' d' result
unfolding moves_used
turn_used stands full lack did kept old new link link' d d' result live sent k = record {
  moves = moves_used stands full lack did kept old new link link' d d' result k;
  one = k.one;
  went = λ e. omega (arith, k.some e);
  not_yet = λ e. absurd (k.waits e);
  receives = λ h. absurd (omega (arith, h));
  uses = λ h. sent;
  read_fails = λ e l. absurd ((k.by_octets outcome.ReadFault e).0 refl);
  write_fails = λ e l. absurd ((k.by_octets outcome.WriteFault e).1 refl);
  counts = λ l. counts_used result link link' (ap (λ x. x.faults) k.line) (ap (λ x. x.waits) k.line) k.waits k.by_octets;
  closed = k.closed;
  cause = λ o e l first b js w h. k.cause o e link link' first b js w h;
}

-- a turn that received octets and used some of them
pub turn_both : {D : Type 0} (stands : D → List Entry → Type 0) (full lack : D → Ask → Type 0) (did : D → Ask → Option (ℕ × Said) → D → Type 0) (kept : D → D → Type 0) (old mid new : Session) (link link' link'' : Shown) (d d' : D) (result : Turn)
    → Keeps old mid → sends mid.conversation ≡ sends old.conversation → closed_with mid ≡ closed_with old
    → Moved link link' mid.inbox [] → closed_with old ≡ None → IsIdle old → Consumes stands full lack did kept mid link' d new link'' d' result
    → link'.faults ≡ link.faults → link'.waits ≡ link.waits → IsTurn stands full lack did kept old link d new link'' d' result
unfolding moves_both moves_plain moves_used
turn_both stands full lack did kept old mid new link link' link'' d d' result keeps outbox closed moved live idle k faults waits =
    let same : old.inbox ++ mid.inbox ≡ mid.inbox = ap (λ x. x ++ mid.inbox) idle.1 in
    let first_moves = moves_plain stands full lack did kept old mid link link' d mid.inbox [] keeps (sym outbox) same (λ e. live) moved in
    record {
      moves = moves_both stands full lack did kept old mid new link link' link'' d d d' first_moves (moves_used stands full lack did kept mid new link' link'' d d' result k);
      one = k.one;
      went = λ e. omega (arith, k.some e);
      not_yet = λ e. absurd (k.waits e);
      receives = λ h. idle;
      uses = λ h. idle.0;
      read_fails = λ e l. absurd ((k.by_octets outcome.ReadFault e).0 refl);
      write_fails = λ e l. absurd ((k.by_octets outcome.WriteFault e).1 refl);
      counts = λ l.
          counts_used result link link'' (ap (λ x. x.faults) k.line ∙ faults) (ap (λ x. x.waits) k.line ∙ waits) k.waits
          k.by_octets;
      closed = k.closed;
      cause = λ o e l first b js w h. k.cause o e link link'' first b js (w ++ []) (stood_plain first old mid [] keeps (sym outbox) (λ x. live) b js w h);
    }

-- a session that is closed stays so
pub turn_closed : {D : Type 0} (stands : D → List Entry → Type 0) (full lack : D → Ask → Type 0) (did : D → Ask → Option (ℕ × Said) → D → Type 0) (kept : D → D → Type 0) (s : Session) (link : Shown) (d : D) (o : Outcome) → closed_with s ≡ Some o → IsTurn stands full lack did kept s link d s link d (turn.Closed o)
unfolding moves_none moves_plain
turn_closed stands full lack did kept s link d o is = record {
  moves = moves_none stands full lack did kept s link d;
  one = omega arith;
  went = λ e. absurd (closed_not_went o e);
  not_yet = λ e. absurd (closed_not_yet o e);
  receives = λ h. absurd (omega (arith, h));
  uses = λ h. absurd (omega (arith, h));
  read_fails = λ e l. absurd (none_not_some o (sym is ∙ l));
  write_fails = λ e l. absurd (none_not_some o (sym is ∙ l));
  counts = λ l. absurd (none_not_some o (sym is ∙ l));
  closed = is;
  cause = λ o' e l first b js w h. absurd (none_not_some o (sym is ∙ l));
}

zero_of : (n : ℕ) (b : Bool) → b ≡ (n == 0) → b ≡ true → n ≡ 0
zero_of n b e h = grind (arith, nat_tests)

positive_of : (n : ℕ) (b : Bool) → b ≡ (n == 0) → b ≡ false → 0 < n
positive_of n b e h = grind (arith, nat_tests)

pub empty_of : (xs : List ℕ) (b : Bool) → b ≡ (length xs == 0) → b ≡ true → xs ≡ []
empty_of xs b e h = nil_from_length xs (zero_of (length xs) b e h)

pub some_of : (xs : List ℕ) (b : Bool) → b ≡ (length xs == 0) → b ≡ false → 0 < length xs
some_of xs b e h = positive_of (length xs) b e h

pub none_from_not : (o : Option Outcome) → ((x : Outcome) → o ≡ Some x → ⊥) → o ≡ None
none_from_not None h = refl
none_from_not (Some x) h = absurd (h x refl)

end_cases : (torn : Option ℕ) (first : LinkState) (s : Session) (link link' : Shown) (b : List ℕ) (js : List Verdict) → end_of first b js ≡ torn_or_ended torn → unsent s ≡ [] → unread s ≡ [] → IsAtEnd link'.left → IsTrue link'.has_ended
    → HasCause link link' first s b js (torn_or_ended torn)
end_cases None first s link link' b js e sent read end ended = record { end = e; sent = sent; at_end = λ l. (end, ended, read) }
end_cases (Some n) first s link link' b js e sent read end ended = record { end = e; sent = sent; at_end = λ l. (end, ended, read) }

-- the end of the octets, between messages or in one
pub cause_end : (old s : Session) (link link' : Shown) (o : Outcome) → closed_with old ≡ None → ((b : List ℕ) → HasRead old.reader b → o ≡ torn_or_ended (torn_of Request b))
    → unsent s ≡ [] → unread s ≡ [] → IsAtEnd link'.left → IsTrue link'.has_ended
    → (first : LinkState) (b : List ℕ) (js : List Verdict) (w : List ℕ) → Stands first old b js w → HasCause link link' first s b js o
cause_end old s link link' o live is sent read end ended first b js w h =
    let P : Outcome → Type 0 = λ x. HasCause link link' first s b js x in
    subst P (sym (is b h.read)) (end_cases (torn_of Request b) first s link link' b js
    (ap (λ st. end_by st (torn_of Request b)) (h.lives live)) sent read end ended)

-- turns, and then one that closes
pub served_after : {D : Type 0} (stands : D → List Entry → Type 0) (full lack : D → Ask → Type 0) (did : D → Ask → Option (ℕ × Said) → D → Type 0) (kept : D → D → Type 0) (s0 s1 s2 : Session) (k0 k1 k2 : Shown) (d0 d1 d2 : D) (o : Outcome)
    → Moves stands full lack did kept s0 k0 d0 s1 k1 d1 → (closed_with s0 ≡ None → closed_with s1 ≡ None) → (closed_with s0 ≡ None → k1.faults ≡ k0.faults)
    → IsTurn stands full lack did kept s1 k1 d1 s2 k2 d2 (turn.Closed o)
    → IsServed stands full lack did kept s0 k0 d0 s2 k2 d2 o
unfolding moves_both
served_after stands full lack did kept s0 s1 s2 k0 k1 k2 d0 d1 d2 o m live none t = record {
  moves = moves_both stands full lack did kept s0 s1 s2 k0 k1 k2 d0 d1 d2 m t.moves;
  closed = t.closed;
  fails = λ l. fails_later o k0.faults k1.faults k2.faults (none l) (t.counts (live l)).0;
  cause = λ l first b js w h.
      let P : List ℕ → Type 0 = λ x. HasCause k0 k2 first s2 x (js ++ verdicts_of (m.mets ++ t.moves.mets)) o in
      let Q : List Verdict → Type 0 = λ x. HasCause k0 k2 first s2 ((b ++ m.used) ++ t.moves.used) x o in
      subst P (append_assoc b m.used t.moves.used)
      (subst Q (append_assoc js (verdicts_of m.mets) (verdicts_of t.moves.mets) ∙ ap (λ x. js ++ x) (sym (verdicts-append m.mets t.moves.mets)))
      (cause_earlier k0 k1 k2 first s2 ((b ++ m.used) ++ t.moves.used) ((js ++ verdicts_of m.mets) ++ verdicts_of t.moves.mets) o m.faults
      (t.cause o refl (live l) first (b ++ m.used) (js ++ verdicts_of m.mets) (w ++ m.written) (m.stood first b js w h))));
}

-- a session that is closed and else as it was
pub closed_keeps : (old new : Session) → new.reader ≡ old.reader → new.conversation ≡ old.conversation → new.used ≡ old.used → new.count ≡ old.count → new.newest ≡ old.newest → Keeps old new
closed_keeps old new reader conversation used count newest = record {
  reader = reader;
  used = used;
  count = count;
  newest = newest;
  held = ap (λ c. c.held) conversation;
  size = ap (λ c. c.size) conversation;
}

-- where a link tells its space, a transmit of what is left met none
pub met_full : (old : Session) (link : Shown) → ((space : ℕ) → link.space ≡ Some space → space ≡ 0) → (unsent old ≡ [] → ⊥) → HasMetNotYet old link
met_full old link full some = record { idle = λ i. absurd (some i); full = λ n e i. full n e; empty = λ n e i. absurd (some i) }

-- and a receive met nothing
pub met_empty : (old : Session) (link : Shown) → ((space : ℕ) → link.space ≡ Some space → link.left ≡ Some []) → IsIdle old → HasMetNotYet old link
met_empty old link empty idle = record { idle = λ i. idle.1; full = λ n e i. absurd (i idle.0); empty = λ n e i. empty n e }

pub not_empty : (xs : List ℕ) → 0 < length xs → xs ≡ [] → ⊥
not_empty xs h e = omega (arith, h, ap length e)

pub if_some : (o : Option ℕ) (P : ℕ → Type 0) → IfSome o P → (n : ℕ) → o ≡ Some n → P n
if_some None P h n e = absurd (cc)
if_some (Some m) P h n e =
    let same : m ≡ n = cc in
    subst P same h

pub is_some_from : (o : Option ℕ) (n : ℕ) → o ≡ Some n → IsSome o
is_some_from None n e = absurd (cc)
is_some_from (Some m) n e = refl
