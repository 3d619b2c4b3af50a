-- Laws of what a session does with octets that were read.
use Rattle.std.proofs.Common.{◌≡◌, ◌≢◌, ℕ, suc, ◌+◌, ◌<◌, ◌≤◌, List, [], ◌∷◌, ◌++◌, map, length, refl, ap, sym, ◌∙◌}
use Rattle.std.proofs.Common.{subst, arith, length-append, append-nil, append_assoc}
use Rattle.std.specs.Prelude.{Option, None, Some}
use Rattle.s7_outer.specs.Count.{RoseExactly}
use Rattle.s7_outer.specs.Shown.{Shown}
use Rattle.s7_plant.specs.declared.request.Ask.{Ask}
use Rattle.s7_plant.specs.Replies.{Said}
use Rattle.s7_cotp.specs.declared.tpdu.Connection.{Connection}
use Rattle.s7_cotp.specs.Told.{ConnectionTold}
use Rattle.s7_wire.specs.declared.found.Opening.{Opening}
use Rattle.s7_wire.specs.declared.found.Opening.TheVariants.{Request}
use Rattle.s7_wire.specs.declared.found.Found.{Found}
use Rattle.s7_wire.specs.declared.found.Found.TheVariants as finding
use Rattle.s7_wire.specs.declared.found.Ended.{Ended}
use Rattle.s7_wire.specs.declared.found.Ended.TheVariants as end_of
use Rattle.s7_wire.specs.declared.found.Taken.{Taken}
use Rattle.s7_wire.specs.declared.found.ReadFault.{ReadFault}
use Rattle.s7_wire.specs.declared.found.ReadFault.TheVariants as fault
use Rattle.s7_wire.specs.declared.reader.Reader.{Reader}
use Rattle.s7_wire.specs.Reading.{Event, opened, message, Ending, disconnected, faulted, reading, torn_of}
use Rattle.s7_wire.specs.Reads.{HasRead, HasFound, opens_by, message_at, place_at, events_by, ending_by, found_by}
use Rattle.s7_wire.specs.Reads.{counted}
use Rattle.s7_wire.proofs.GrowthLemmas.{place_within}
use Rattle.s7_session.specs.declared.handled.Handled.{Handled}
use Rattle.s7_session.specs.declared.handled.Handled.TheVariants as handled
use Rattle.s7_session.specs.declared.session.Session.{Session}
use Rattle.s7_session.specs.declared.outcome.Outcome.{Outcome}
use Rattle.s7_session.specs.declared.outcome.Outcome.TheVariants as outcome
use Rattle.s7_session.specs.declared.outcome.Turn.{Turn}
use Rattle.s7_session.specs.declared.outcome.Turn.TheVariants as turn
use Rattle.s7_session.specs.Answers.{standing_by, entries_by, last_after}
use Rattle.s7_session.specs.Bounds.{spent}
use Rattle.s7_session.specs.Conversing.{link_of, tpdu_size_of, sends}
use Rattle.s7_session.specs.Doers.{Trail}
use Rattle.s7_session.specs.Entry.{Entry, answered}
use Rattle.s7_session.specs.Events.{lives, stops, closes, settled, made}
use Rattle.s7_session.specs.LinkState.{LinkState}
use Rattle.s7_session.specs.Owed.{Past, past, owed, telegrams, entered, with_made, with_ending, ended_by}
use Rattle.s7_session.specs.Owed.{torn_or_ended, outcome_of, end_by}
use Rattle.s7_session.specs.Stands.{Stands, Handles, Consumes, HasCause, closed_with, closed_by, turn_by, unread}
use Rattle.s7_session.specs.Stands.{unsent, used_of, entry_count, newest, link_at}
use Rattle.s7_session.specs.Telegrams.{Met, verdicts_of, entered_by, entered_of, looks_in, NoneTimed, AllAt, clock_failures}
use Rattle.s7_session.specs.Telegrams.{last_number}
use Rattle.s7_session.specs.Verdict.{Verdict}
use Rattle.s7_session.proofs.PastLemmas.{past_more, past_event, past_ended, closes_by}

-- ---- what a reader found behind octets that open by a connect request

pub record FoundIn (r : Reader) (b used : List ℕ) (found : Found) : Type 0 where
  pub read : HasRead r (b ++ used)
  pub events : (reading Request (b ++ used)).events ≡ (reading Request b).events ++ events_by found (message_at r) (reading Request b).at
  pub ending : (reading Request (b ++ used)).ending ≡ ending_by found (reading Request b).at
  pub place : found ≢ finding.More → place_at r ≡ counted (reading Request b).at

found_by_opening : (r : Reader) (b used : List ℕ) (found : Found) (o : Opening) → opens_by r ≡ o → HasFound r b used found
    → ((reading o (b ++ used)).events ≡ (reading o b).events ++ events_by found (message_at r) (reading o b).at)
    × ((reading o (b ++ used)).ending ≡ ending_by found (reading o b).at)
    × (found ≢ finding.More → place_at r ≡ counted (reading o b).at)
found_by_opening r b used found o is h =
    subst (λ (x : Opening). ((reading x (b ++ used)).events ≡ (reading x b).events ++ events_by found (message_at r) (reading x b).at)
    × ((reading x (b ++ used)).ending ≡ ending_by found (reading x b).at)
    × (found ≢ finding.More → place_at r ≡ counted (reading x b).at)) is (h.events, h.ending, h.place)

pub found_in : (r : Reader) (b used : List ℕ) (found : Found) → opens_by r ≡ Request → HasFound r b used found → FoundIn r b used found
found_in r b used found is h =
    let f = found_by_opening r b used found Request is h in
    record { read = h.read; events = f.0; ending = f.1; place = f.2 }

-- a place is a count of octets, of which there are few
pub place_is : (r : Reader) (b : List ℕ) (n : ℕ) → place_at r ≡ counted (reading Request b).at → length b ≡ n → n ≤ spent → place_at r ≡ (reading Request b).at
place_is r b n is size few = omega (arith, is, size, few, place_within Request b)

-- what a reader finds of a link that goes on
abbrev pub IsOn : Found → Type 0
IsOn finding.More = Unit {0}
IsOn (finding.Opened c) = Unit {0}
IsOn finding.Message = Unit {0}
IsOn finding.Disconnected = ⊥
IsOn (finding.Fault f) = ⊥

not_on : (end : Ended) → IsOn (found_by end) → ⊥
not_on end_of.Disconnected h = h
not_on (end_of.Faulted f) h = h

pub still_going : (e : Option Ended) (t : Taken) → ((end : Ended) → e ≡ Some end → t ≡ record { octets = 0; found = found_by end }) → IsOn t.found → e ≡ None
still_going None t ended on = refl
still_going (Some end) t ended on = absurd (not_on end (subst (λ (x : Taken). IsOn x.found) (ended end refl) on))

-- ---- one step of what a session stands for

pub entered-append : (xs ys : List Met) → entered_of (xs ++ ys) ≡ entered_of xs ++ entered_of ys
entered-append [] ys = refl
entered-append (x ∷ xs) ys =
    ap (λ es. entered_by x.asking x.verdict ++ es) (entered-append xs ys)
    ∙ sym (append_assoc (entered_by x.asking x.verdict) (entered_of xs) (entered_of ys))

-- what more octets and verdicts make of the past
pub record Steps (p q : Past) (new : Session) (ms : List Met) (out : List ℕ) : Type 0 where
  pub owed : q.owed ≡ p.owed ++ out
  pub mets : q.mets ≡ p.mets ++ ms
  pub met : q.verdicts ≡ []
  pub lives : closed_with new ≡ None → q.standing ≡ lives
  pub link : closed_with new ≡ None → q.link ≡ link_at new
  pub size : closed_with new ≡ None → q.size ≡ tpdu_size_of new.conversation.size

pub stood_by : (first : LinkState) (old new : Session) (b used : List ℕ) (js vs : List Verdict) (w out : List ℕ) (ms : List Met)
    → Stands first old b js w → unsent old ≡ [] → HasRead new.reader (b ++ used) → used_of new ≡ used_of old + length used
    → Steps (past first b js) (past first (b ++ used) (js ++ vs)) new ms out → unsent new ≡ out → length (entered_of ms) ≤ 1
    → Stands first new (b ++ used) (js ++ vs) w
stood_by first old new b used js vs w out ms h sent read count s out_is few =
    let written : owed first b js ≡ w = h.owed ∙ (ap (λ x. w ++ x) sent ∙ append-nil w) in
    record {
      read = read;
      used = omega (arith, h.used, count, length-append b used);
      met = s.met;
      owed = s.owed ∙ (ap (λ x. x ++ out) written ∙ ap (λ x. w ++ x) (sym out_is));
      whole = record {
        front = b;
        behind = used;
        octets = refl;
        met = js;
        later = vs;
        verdicts = refl;
        part = [];
        whole = sym written ∙ sym (append-nil (owed first b js));
        all_but_one =
            let grown : entered first (b ++ used) (js ++ vs) ≡ entered first b js ++ entered_of ms =
            ap entered_of s.mets ∙ entered-append (telegrams first b js) ms in
            omega (arith, few, ap length grown, length-append (entered first b js) (entered_of ms));
      };
      lives = s.lives;
      link = s.link;
      size = s.size;
    }

-- what a session does with octets, by what they make of whatever it stands for
pub record Uses {D : Type 0} (stands : D → List Entry → Type 0) (full lack : D → Ask → Type 0) (did : D → Ask → Option (ℕ × Said) → D → Type 0) (kept : D → D → Type 0) (old : Session) (line : Shown) (d : D) (new : Session) (line' : Shown) (d' : D) (result : Turn) (used : List ℕ) (ms : List Met) (entries : List Entry) : Type 0 where
  pub some : result ≡ turn.Went → 0 < length used
  pub one : length ms ≤ 1
  pub few : length (entered_of ms) ≤ 1
  pub inbox : unread old ≡ used ++ unread new
  pub counted : used_of new ≡ used_of old + length used
  pub read : (b : List ℕ) → HasRead old.reader b → HasRead new.reader (b ++ used)
  pub steps : (first : LinkState) (b : List ℕ) (js : List Verdict) (w : List ℕ) → Stands first old b js w
      → Steps (past first b js) (past first (b ++ used) (js ++ verdicts_of ms)) new ms (unsent new)
  pub entered : map answered entries ≡ entered_of ms
  pub count : entry_count new ≡ entry_count old + length entries
  pub newest : newest new ≡ last_number (newest old) entries
  pub doer : (es : List Entry) → stands d es → stands d' (es ++ entries)
  pub trail : Trail full lack did kept d ms entries d'
  pub closed : closed_with new ≡ closed_by result
  pub waits : result ≡ turn.NotYet → ⊥
  pub by_octets : (o : Outcome) → result ≡ turn.Closed o → (o ≢ outcome.ReadFault) × (o ≢ outcome.WriteFault)
  pub line_is : line' ≡ record line { clock_faults = line'.clock_faults; looks = line'.looks }
  pub clock : RoseExactly (clock_failures (verdicts_of ms)) line.clock_faults line'.clock_faults
  pub unasked : NoneTimed ms → line'.clock_faults ≡ line.clock_faults
  pub looks : RoseExactly (looks_in ms) line.looks line'.looks
  pub moments : AllAt line.moment entries
  pub cause : (o : Outcome) → result ≡ turn.Closed o → (k k' : Shown)
      → (first : LinkState) (b : List ℕ) (js : List Verdict) (w : List ℕ) → Stands first old b js w
      → HasCause k k' first new (b ++ used) (js ++ verdicts_of ms) o

pub consumes_by : {D : Type 0} (stands : D → List Entry → Type 0) (full lack : D → Ask → Type 0) (did : D → Ask → Option (ℕ × Said) → D → Type 0) (kept : D → D → Type 0) (old new : Session) (line line' : Shown) (d d' : D) (result : Turn) (used : List ℕ) (ms : List Met) (entries : List Entry)
    → unsent old ≡ [] → Uses stands full lack did kept old line d new line' d' result used ms entries
    → Consumes stands full lack did kept old line d new line' d' result
consumes_by stands full lack did kept old new line line' d d' result used ms entries sent u = record {
  used = used;
  some = u.some;
  mets = ms;
  one = u.one;
  entries = entries;
  inbox = u.inbox;
  stood = λ first b js w h.
      stood_by first old new b used js (verdicts_of ms) w (unsent new) ms h sent (u.read b h.read) u.counted (u.steps first b js w h) refl u.few;
  asked = λ first b js w h. (u.steps first b js w h).mets;
  entered = u.entered;
  count = u.count;
  newest = u.newest;
  doer = u.doer;
  trail = u.trail;
  closed = u.closed;
  waits = u.waits;
  by_octets = u.by_octets;
  line = u.line_is;
  clock = u.clock;
  unasked = u.unasked;
  looks = u.looks;
  moments = u.moments;
  cause = u.cause;
}

pub closed_not_yet : (o : Outcome) → turn.Closed o ≡ turn.NotYet → ⊥
closed_not_yet o e = cc

pub went_not_yet : turn.Went ≡ turn.NotYet → ⊥
went_not_yet e = cc

pub went_not_closed : (o : Outcome) → turn.Went ≡ turn.Closed o → ⊥
went_not_closed o e = cc

pub closed_not_went : (o : Outcome) → turn.Closed o ≡ turn.Went → ⊥
closed_not_went o e = cc

pub none_not_some : (o : Outcome) → ◌≡◌ {A = Option Outcome} (Some o) None → ⊥
none_not_some o e = cc

pub same_closed : (o o' : Outcome) → turn.Closed o ≡ turn.Closed o' → o ≡ o'
same_closed o o' e = cc

-- ---- octets that bring no event

pub uses_more : {D : Type 0} (stands : D → List Entry → Type 0) (full lack : D → Ask → Type 0) (did : D → Ask → Option (ℕ × Said) → D → Type 0) (kept : D → D → Type 0) (old new : Session) (line : Shown) (d : D) (used : List ℕ)
    → closed_with old ≡ None → opens_by new.reader ≡ Request → ((b : List ℕ) → HasRead old.reader b → HasFound new.reader b used finding.More)
    → 0 < length used → unread old ≡ used ++ unread new → used_of new ≡ used_of old + length used
    → unsent old ≡ [] → new.conversation ≡ old.conversation → entry_count new ≡ entry_count old → newest new ≡ newest old → closed_with new ≡ None
    → Uses stands full lack did kept old line d new line d turn.Went used [] []
uses_more stands full lack did kept old new line d used going opens found some inbox counted sent same count last closed = record {
  some = λ e. some;
  one = omega arith;
  few = omega arith;
  inbox = inbox;
  counted = counted;
  read = λ b h. (found b h).read;
  steps = λ first b js w h.
      let f = found_in new.reader b used finding.More opens (found b h.read) in
      let live = h.lives going in
      let q = past_more first b used js live h.met f.events f.ending in
      record {
        owed = ap (λ (p : Past). p.owed) q
            ∙ (sym (append-nil (owed first b js)) ∙ ap (λ x. owed first b js ++ x) (sym (ap sends same ∙ sent)));
        mets = ap (λ (p : Past). p.mets) q ∙ sym (append-nil (telegrams first b js));
        met = ap (λ (p : Past). p.verdicts) q ∙ h.met;
        lives = λ e. ap (λ (p : Past). p.standing) q ∙ live;
        link = λ e. ap (λ (p : Past). p.link) q ∙ (h.link going ∙ ap (λ c. link_of c.held) (sym same));
        size = λ e. ap (λ (p : Past). p.size) q ∙ (h.size going ∙ ap (λ c. tpdu_size_of c.size) (sym same));
      };
  entered = refl;
  count = omega (arith, count);
  newest = last;
  doer = λ es h. subst (stands d) (sym (append-nil es)) h;
  trail = (refl, refl);
  closed = closed;
  waits = went_not_yet;
  by_octets = λ o e. absurd (went_not_closed o e);
  line_is = refl;
  clock = (omega arith, omega arith);
  unasked = λ h. refl;
  looks = (omega arith, omega arith);
  moments = tt;
  cause = λ o e. absurd (went_not_closed o e);
}

-- ---- the connect request

pub uses_opened : {D : Type 0} (stands : D → List Entry → Type 0) (full lack : D → Ask → Type 0) (did : D → Ask → Option (ℕ × Said) → D → Type 0) (kept : D → D → Type 0) (old new : Session) (line : Shown) (d : D) (used : List ℕ) (c : Connection) (told : ConnectionTold)
    → closed_with old ≡ None → opens_by new.reader ≡ Request → ((b : List ℕ) → HasRead old.reader b → HasFound new.reader b used (finding.Opened c))
    → events_by (finding.Opened c) [] 0 ≡ opened told ∷ []
    → made (tpdu_size_of old.conversation.size) (link_at old) (opened told) [] ≡ settled (tpdu_size_of new.conversation.size) (link_at new) (unsent new) []
    → 0 < length used → unread old ≡ used ++ unread new → used_of new ≡ used_of old + length used
    → entry_count new ≡ entry_count old → newest new ≡ newest old → closed_with new ≡ None
    → Uses stands full lack did kept old line d new line d turn.Went used [] []
uses_opened stands full lack did kept old new line d used c told going opens found event is some inbox counted count last closed = record {
  some = λ e. some;
  one = omega arith;
  few = omega arith;
  inbox = inbox;
  counted = counted;
  read = λ b h. (found b h).read;
  steps = λ first b js w h.
      let f = found_in new.reader b used (finding.Opened c) opens (found b h.read) in
      let live = h.lives going in
      let p = past first b js in
      let m : made p.size p.link (opened told) [] ≡ settled (tpdu_size_of new.conversation.size) (link_at new) (unsent new) [] =
      ap (λ n. made n p.link (opened told) []) (h.size going) ∙ (ap (λ l. made (tpdu_size_of old.conversation.size) l (opened told) []) (h.link going) ∙ is) in
      let q : past first (b ++ used) (js ++ []) ≡ with_made p (settled (tpdu_size_of new.conversation.size) (link_at new) (unsent new) []) =
      past_event first b used js [] (opened told) live h.met (f.events ∙ ap (λ es. (reading Request b).events ++ es) event) f.ending ∙ ap (with_made p) m in
      record {
        owed = ap (λ (p : Past). p.owed) q;
        mets = ap (λ (p : Past). p.mets) q;
        met = ap (λ (p : Past). p.verdicts) q;
        lives = λ e. ap (λ (p : Past). p.standing) q;
        link = λ e. ap (λ (p : Past). p.link) q;
        size = λ e. ap (λ (p : Past). p.size) q;
      };
  entered = refl;
  count = omega (arith, count);
  newest = last;
  doer = λ es h. subst (stands d) (sym (append-nil es)) h;
  trail = (refl, refl);
  closed = closed;
  waits = went_not_yet;
  by_octets = λ o e. absurd (went_not_closed o e);
  line_is = refl;
  clock = (omega arith, omega arith);
  unasked = λ h. refl;
  looks = (omega arith, omega arith);
  moments = tt;
  cause = λ o e. absurd (went_not_closed o e);
}

-- ---- a message

turn_closes : (at : ℕ) (did : Handled) (new : Session) → closed_with new ≡ closed_by (turn_by at did) → closed_with new ≡ None → standing_by at did ≡ lives
turn_closes at handled.Answered new is none = refl
turn_closes at (handled.Entered number) new is none = refl
turn_closes at handled.NoMemory new is none = absurd (none_not_some _ (sym is ∙ none))
turn_closes at handled.NotS7 new is none = absurd (none_not_some _ (sym is ∙ none))

turn_not_yet : (at : ℕ) (did : Handled) → turn_by at did ≡ turn.NotYet → ⊥
turn_not_yet at handled.Answered e = went_not_yet e
turn_not_yet at (handled.Entered number) e = went_not_yet e
turn_not_yet at handled.NoMemory e = closed_not_yet _ e
turn_not_yet at handled.NotS7 e = closed_not_yet _ e

-- an outcome that the link's faults don't give
abbrev pub IsByOctets : Outcome → Type 0
IsByOctets o = (o ≢ outcome.ReadFault) × (o ≢ outcome.WriteFault)

turn_by_octets : (at : ℕ) (did : Handled) (o : Outcome) → turn_by at did ≡ turn.Closed o → IsByOctets o
turn_by_octets at handled.Answered o e = absurd (went_not_closed o e)
turn_by_octets at (handled.Entered number) o e = absurd (went_not_closed o e)
turn_by_octets at handled.NoMemory o e = subst IsByOctets (same_closed outcome.Memory o e) ((λ h. absurd (cc), λ h. absurd (cc)))
turn_by_octets at handled.NotS7 o e = subst IsByOctets (same_closed (outcome.NotS7 at) o e) ((λ h. absurd (cc), λ h. absurd (cc)))

pub torn_by_octets : (torn : Option ℕ) → IsByOctets (torn_or_ended torn)
torn_by_octets None = (λ h. absurd (cc), λ h. absurd (cc))
torn_by_octets (Some n) = (λ h. absurd (cc), λ h. absurd (cc))

pub fault_by_octets : (f : ReadFault) (at : ℕ) → IsByOctets (outcome_of f at)
fault_by_octets fault.BadFrame at = (λ h. absurd (cc), λ h. absurd (cc))
fault_by_octets fault.FrameTooLong at = (λ h. absurd (cc), λ h. absurd (cc))
fault_by_octets fault.BadTpdu at = (λ h. absurd (cc), λ h. absurd (cc))
fault_by_octets fault.Unexpected at = (λ h. absurd (cc), λ h. absurd (cc))
fault_by_octets fault.TooManyFragments at = (λ h. absurd (cc), λ h. absurd (cc))
fault_by_octets fault.TooLong at = (λ h. absurd (cc), λ h. absurd (cc))

closed_not_lives : (end : Outcome) → closes end ≡ lives → ⊥
closed_not_lives end e = cc

stops_not_lives : stops ≡ lives → ⊥
stops_not_lives e = cc

-- why a message closes its link
message_cause : (at : ℕ) (did : Handled) (k k' : Shown) (first : LinkState) (s : Session) (b : List ℕ) (js : List Verdict) → (past first b js).standing ≡ standing_by at did
    → ((standing_by at did ≡ lives → ⊥) → unsent s ≡ []) → (o : Outcome) → turn_by at did ≡ turn.Closed o → HasCause k k' first s b js o
message_cause at handled.Answered k k' first s b js is silent o e = absurd (went_not_closed o e)
message_cause at (handled.Entered number) k k' first s b js is silent o e = absurd (went_not_closed o e)
message_cause at handled.NoMemory k k' first s b js is silent o e =
    subst (HasCause k k' first s b js) (same_closed outcome.Memory o e) (is, silent stops_not_lives)
message_cause at handled.NotS7 k k' first s b js is silent o e =
    subst (HasCause k k' first s b js) (same_closed (outcome.NotS7 at) o e) (record {
      end = ap (λ st. end_by st (torn_of Request b)) is;
      over = λ h. closed_not_lives (outcome.NotS7 at) (sym is ∙ h);
      sent = silent (closed_not_lives (outcome.NotS7 at));
    })

pub uses_message : {D : Type 0} (stands : D → List Entry → Type 0) (full lack : D → Ask → Type 0) (did : D → Ask → Option (ℕ × Said) → D → Type 0) (kept : D → D → Type 0) (old mid new : Session) (line line' : Shown) (d d' : D) (used : List ℕ) (result : Turn)
    → (a : Handles stands full lack did kept mid line d new line' d' result)
    → closed_with old ≡ None → opens_by mid.reader ≡ Request → ((b : List ℕ) → HasRead old.reader b → HasFound mid.reader b used finding.Message)
    → mid.conversation ≡ old.conversation → used_of mid ≤ spent
    → 0 < length used → unread old ≡ used ++ unread mid → used_of mid ≡ used_of old + length used
    → entry_count mid ≡ entry_count old → newest mid ≡ newest old
    → Uses stands full lack did kept old line d new line' d' result used (made (tpdu_size_of mid.conversation.size) (link_at mid) (message (message_at mid.reader) (place_at mid.reader)) a.answers.verdicts).mets a.answers.entries
uses_message stands full lack did kept old mid new line line' d d' used result a going opens found same few some inbox size count last =
    let t = a.answers in
    let at = place_at mid.reader in
    let event : Event = message (message_at mid.reader) at in
    let m = made (tpdu_size_of mid.conversation.size) (link_at mid) event t.verdicts in
    let step : (first : LinkState) (b : List ℕ) (js : List Verdict) (w : List ℕ) → Stands first old b js w → past first (b ++ used) (js ++ t.verdicts) ≡ with_made (past first b js) m =
    λ first b js w h.
    let f = found_in mid.reader b used finding.Message opens (found b h.read) in
    let p = past first b js in
    let at_is : at ≡ (reading Request b).at = place_is mid.reader b (used_of old) (f.place (λ e. absurd (cc))) h.used (omega (arith, size, few)) in
    past_event first b used js t.verdicts event (h.lives going) h.met
    (f.events ∙ ap (λ n. (reading Request b).events ++ message (message_at mid.reader) n ∷ []) (sym at_is)) f.ending
    ∙ ap (with_made p) (ap (λ n. made n p.link event t.verdicts) (h.size going ∙ ap (λ c. tpdu_size_of c.size) (sym same))
    ∙ ap (λ l. made (tpdu_size_of mid.conversation.size) l event t.verdicts) (h.link going ∙ ap (λ c. link_of c.held) (sym same)))
    in
    let step_on : (first : LinkState) (b : List ℕ) (js : List Verdict) (w : List ℕ) → Stands first old b js w → past first (b ++ used) (js ++ verdicts_of m.mets) ≡ with_made (past first b js) m =
    λ first b js w h. ap (λ vs. past first (b ++ used) (js ++ vs)) t.mets_are ∙ step first b js w h
    in
    record {
      some = λ e. some;
      one = omega (arith, t.one, ap length (sym t.mets_are), length_verdicts m.mets);
      few = omega (arith, ap length t.entered_is, length_answered t.entries, t.count, entries_few a.handled);
      inbox = inbox ∙ ap (λ x. used ++ x) (sym a.inbox);
      counted = a.used ∙ size;
      read = λ b h. subst (λ r. HasRead r (b ++ used)) (sym a.reader) (found b h).read;
      steps = λ first b js w h.
          let q = step_on first b js w h in
          record {
            owed = ap (λ (p : Past). p.owed) q ∙ ap (λ x. owed first b js ++ x) t.out_is;
            mets = ap (λ (p : Past). p.mets) q;
            met = ap (λ (p : Past). p.verdicts) q ∙ t.none_left;
            lives = λ e. ap (λ (p : Past). p.standing) q ∙ (t.standing_is ∙ turn_closes at a.handled new (a.closed ∙ ap closed_by a.result_is) e);
            link = λ e. ap (λ (p : Past). p.link) q ∙ t.link_is (turn_closes at a.handled new (a.closed ∙ ap closed_by a.result_is) e);
            size = λ e. ap (λ (p : Past). p.size) q ∙ t.size_is;
          };
      entered = t.entered_is;
      count = omega (arith, a.count, count, t.count);
      newest = a.newest ∙ (ap (λ x. last_after x a.handled) last ∙ sym (t.last (newest old)));
      doer = t.doer;
      trail = t.trail;
      closed = a.closed;
      waits = λ e. turn_not_yet at a.handled (sym a.result_is ∙ e);
      by_octets = λ o e. turn_by_octets at a.handled o (sym a.result_is ∙ e);
      line_is = t.line_is;
      clock = subst (λ (vs : List Verdict). RoseExactly (clock_failures vs) line.clock_faults line'.clock_faults) (sym t.mets_are) t.clock;
      unasked = t.unasked;
      looks = t.looks;
      moments = t.moments;
      cause = λ o e k k' first b js w h.
          message_cause at a.handled k k' first new (b ++ used) (js ++ verdicts_of m.mets) (ap (λ (p : Past). p.standing) (step_on first b js w h) ∙ t.standing_is) t.silent o (sym a.result_is ∙ e);
    }
  where
    length_verdicts : (ms : List Met) → length (verdicts_of ms) ≡ length ms
    length_verdicts [] = refl
    length_verdicts (m ∷ ms) = ap suc (length_verdicts ms)

    length_answered : (es : List Entry) → length (map answered es) ≡ length es
    length_answered [] = refl
    length_answered (e ∷ es) = ap suc (length_answered es)

    entries_few : (did : Handled) → entries_by did ≤ 1
    entries_few handled.Answered = omega arith
    entries_few (handled.Entered number) = omega arith
    entries_few handled.NoMemory = omega arith
    entries_few handled.NotS7 = omega arith

-- ---- octets that end the link

ended_cause : (torn : Option ℕ) (k k' : Shown) (first : LinkState) (s : Session) (b : List ℕ) (js : List Verdict) → (past first b js).standing ≡ closes (torn_or_ended torn)
    → unsent s ≡ [] → HasCause k k' first s b js (torn_or_ended torn)
ended_cause None k k' first s b js is sent = record {
  end = ap (λ st. end_by st (torn_of Request b)) is;
  sent = sent;
  at_end = λ l. absurd (closed_not_lives _ (sym is ∙ l));
}
ended_cause (Some n) k k' first s b js is sent = record {
  end = ap (λ st. end_by st (torn_of Request b)) is;
  sent = sent;
  at_end = λ l. absurd (closed_not_lives _ (sym is ∙ l));
}

fault_cause : (f : ReadFault) (at : ℕ) (k k' : Shown) (first : LinkState) (s : Session) (b : List ℕ) (js : List Verdict) → (past first b js).standing ≡ closes (outcome_of f at)
    → unsent s ≡ [] → HasCause k k' first s b js (outcome_of f at)
fault_cause fault.BadFrame at k k' first s b js is sent = record { end = ap (λ st. end_by st (torn_of Request b)) is; over = λ h. closed_not_lives _ (sym is ∙ h); sent = sent }
fault_cause fault.FrameTooLong at k k' first s b js is sent = record { end = ap (λ st. end_by st (torn_of Request b)) is; over = λ h. closed_not_lives _ (sym is ∙ h); sent = sent }
fault_cause fault.BadTpdu at k k' first s b js is sent = record { end = ap (λ st. end_by st (torn_of Request b)) is; over = λ h. closed_not_lives _ (sym is ∙ h); sent = sent }
fault_cause fault.Unexpected at k k' first s b js is sent = record { end = ap (λ st. end_by st (torn_of Request b)) is; over = λ h. closed_not_lives _ (sym is ∙ h); sent = sent }
fault_cause fault.TooManyFragments at k k' first s b js is sent = record { end = ap (λ st. end_by st (torn_of Request b)) is; over = λ h. closed_not_lives _ (sym is ∙ h); sent = sent }
fault_cause fault.TooLong at k k' first s b js is sent = record { end = ap (λ st. end_by st (torn_of Request b)) is; over = λ h. closed_not_lives _ (sym is ∙ h); sent = sent }

-- the octets end the link, with this outcome
pub record Ends (new : Session) (b used : List ℕ) (end : Outcome) : Type 0 where
  pub ending : Ending
  pub is : (reading Request (b ++ used)).ending ≡ Some ending
  pub events : (reading Request (b ++ used)).events ≡ (reading Request b).events ++ []
  pub cause : (k k' : Shown) (first : LinkState) (js : List Verdict) → (past first (b ++ used) js).standing ≡ closes (ended_by (torn_of Request (b ++ used)) ending)
      → unsent new ≡ [] → HasCause k k' first new (b ++ used) js end

pub uses_ended : {D : Type 0} (stands : D → List Entry → Type 0) (full lack : D → Ask → Type 0) (did : D → Ask → Option (ℕ × Said) → D → Type 0) (kept : D → D → Type 0) (old new : Session) (line : Shown) (d : D) (used : List ℕ) (found : Found) (end : Outcome)
    → ((b : List ℕ) → FoundIn new.reader b used found → length b ≡ used_of old → Ends new b used end)
    → closed_with old ≡ None → opens_by new.reader ≡ Request → ((b : List ℕ) → HasRead old.reader b → HasFound new.reader b used found)
    → unread old ≡ used ++ unread new → used_of new ≡ used_of old + length used
    → unsent old ≡ [] → new.conversation ≡ old.conversation → entry_count new ≡ entry_count old → newest new ≡ newest old → closed_with new ≡ Some end
    → IsByOctets end → Uses stands full lack did kept old line d new line d (turn.Closed end) used [] []
uses_ended stands full lack did kept old new line d used found end ends going opens finds inbox counted sent same count last closed octets =
    let unsent_is : unsent new ≡ [] = ap sends same ∙ sent in
    let end_at : (first : LinkState) (b : List ℕ) (js : List Verdict) (w : List ℕ) → Stands first old b js w → Ends new b used end =
    λ first b js w h. ends b (found_in new.reader b used found opens (finds b h.read)) h.used in
    let before : (first : LinkState) (b : List ℕ) (js : List Verdict) (w : List ℕ) (h : Stands first old b js w)
    → past first (b ++ used) (js ++ []) ≡ with_ending (torn_of Request (b ++ used)) (Some (end_at first b js w h).ending) (past first b js) =
    λ first b js w h.
    let e = end_at first b js w h in
    past_ended first b used js e.ending (h.lives going) h.met e.events e.is
    in
    record {
      some = λ e. absurd (closed_not_went end e);
      one = omega arith;
      few = omega arith;
      inbox = inbox;
      counted = counted;
      read = λ b h. (finds b h).read;
      steps = λ first b js w h.
          let q = before first b js w h in
          record {
            owed = ap (λ (p : Past). p.owed) q ∙ (sym (append-nil (owed first b js)) ∙ ap (λ x. owed first b js ++ x) (sym unsent_is));
            mets = ap (λ (p : Past). p.mets) q ∙ sym (append-nil (telegrams first b js));
            met = ap (λ (p : Past). p.verdicts) q ∙ h.met;
            lives = λ e. absurd (none_not_some end (sym closed ∙ e));
            link = λ e. absurd (none_not_some end (sym closed ∙ e));
            size = λ e. absurd (none_not_some end (sym closed ∙ e));
          };
      entered = refl;
      count = omega (arith, count);
      newest = last;
      doer = λ es h. subst (stands d) (sym (append-nil es)) h;
      trail = (refl, refl);
      closed = closed;
      waits = closed_not_yet end;
      by_octets = λ o e. subst IsByOctets (same_closed end o e) octets;
      line_is = refl;
      clock = (omega arith, omega arith);
      unasked = λ h. refl;
      looks = (omega arith, omega arith);
      moments = tt;
      cause = λ o e k k' first b js w h.
          let x = end_at first b js w h in
          subst (HasCause k k' first new (b ++ used) (js ++ [])) (same_closed end o e)
          (x.cause k k' first (js ++ []) (ap (λ (p : Past). p.standing) (before first b js w h) ∙ closes_by (torn_of Request (b ++ used)) x.ending (past first b js) (h.lives going)) unsent_is);
    }

-- a disconnect request
pub ends_disconnected : (new : Session) (used : List ℕ) (end : Outcome) → ((b : List ℕ) → HasRead new.reader b → end ≡ torn_or_ended (torn_of Request b))
    → (b : List ℕ) → FoundIn new.reader b used finding.Disconnected → Ends new b used end
ends_disconnected new used end is b f = record {
  ending = disconnected;
  is = f.ending;
  events = f.events;
  cause = λ k k' first js st sent.
      subst (HasCause k k' first new (b ++ used) js) (sym (is (b ++ used) f.read)) (ended_cause (torn_of Request (b ++ used)) k k' first new (b ++ used) js st sent);
}

-- a packet at fault
pub ends_faulted : (old new : Session) (used : List ℕ) (f : ReadFault) (end : Outcome) → used_of old ≤ spent → end ≡ outcome_of f (place_at new.reader)
    → (b : List ℕ) → FoundIn new.reader b used (finding.Fault f) → length b ≡ used_of old → Ends new b used end
ends_faulted old new used f end few is b h size =
    let at_is : place_at new.reader ≡ (reading Request b).at = place_is new.reader b (used_of old) (h.place (λ e. absurd (cc))) size few in
    record {
      ending = faulted f (reading Request b).at;
      is = h.ending;
      events = h.events;
      cause = λ k k' first js st sent.
          subst (HasCause k k' first new (b ++ used) js) (sym (is ∙ ap (outcome_of f) at_is)) (fault_cause f (reading Request b).at k k' first new (b ++ used) js st sent);
    }
