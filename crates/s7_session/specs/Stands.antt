-- What a session represents, and what its turns do.
use Rattle.std.specs.Prelude.{◌≡◌, ◌≢◌, ℕ, ◌+◌, ◌-◌, ◌<◌, ◌≤◌, List, [], ◌++◌, length, map}
use Rattle.std.specs.Prelude.{Option, None, Some, option_map, IfSome, IsTrue}
use Rattle.std.specs.Io.KnownBytes.{prepend_known, append_known, IsAtEnd}
use Rattle.s7_outer.specs.Shown.{Shown}
use Rattle.s7_outer.specs.Count.{Rose, RoseExactly}
use Rattle.s7_plant.specs.declared.request.Ask.{Ask}
use Rattle.s7_plant.specs.Replies.{Said}
use Rattle.s7_wire.specs.Reading.{message}
use Rattle.s7_wire.specs.Reads.{HasRead, message_at, place_at}
use Rattle.s7_session.specs.declared.handled.Handled.{Handled}
use Rattle.s7_session.specs.declared.handled.Handled.TheVariants as handled
use Rattle.s7_session.specs.declared.session.Session.{Session}
use Rattle.s7_session.specs.declared.outcome.Outcome.{Outcome}
use Rattle.s7_session.specs.declared.outcome.Outcome.TheVariants as outcome
use Rattle.s7_session.specs.declared.outcome.Turn.{Turn}
use Rattle.s7_session.specs.declared.outcome.Turn.TheVariants as turn
use Rattle.s7_session.specs.Answers.{Answers, entries_by, last_after}
use Rattle.s7_session.specs.Bounds.{spent}
use Rattle.s7_session.specs.Conversing.{link_of, tpdu_size_of, sends}
use Rattle.s7_session.specs.Doers.{Trail}
use Rattle.s7_session.specs.Entry.{Entry, answered}
use Rattle.s7_session.specs.Events.{lives, stops, made}
use Rattle.s7_session.specs.LinkState.{LinkState}
use Rattle.s7_session.specs.Owed.{past, owed, telegrams, entered, end_of}
use Rattle.s7_session.specs.Telegrams.{Met, verdicts_of, entered_of, looks_in, NoneTimed, AllAt, clock_failures, last_number}
use Rattle.s7_session.specs.Verdict.{Verdict}

-- the number of its link
abbrev pub number_of : Session → ℕ
number_of s = s.link

-- the octets that were read and not used
abbrev pub unread : Session → List ℕ
unread s = s.inbox

-- the octets that are still to be sent
abbrev pub unsent : Session → List ℕ
unsent s = sends s.conversation

abbrev pub closed_with : Session → Option Outcome
closed_with s = s.closed

-- how many octets were used
abbrev pub used_of : Session → ℕ
used_of s = s.used

-- how many telegrams were accepted, and the number of the newest entry
abbrev pub entry_count : Session → ℕ
entry_count s = s.count

abbrev pub newest : Session → Option ℕ
newest s = s.newest

-- the state that the link's earlier messages left
abbrev pub link_at : Session → LinkState
link_at s = link_of s.conversation.held

-- the result of a turn that handled the message at this offset
abbrev pub turn_by : ℕ → Handled → Turn
turn_by at handled.Answered = turn.Went
turn_by at (handled.Entered number) = turn.Went
turn_by at handled.NoMemory = turn.Closed outcome.Memory
turn_by at handled.NotS7 = turn.Closed (outcome.NotS7 at)

-- nothing is left to send, and no octet that was read is unused
abbrev pub IsIdle : Session → Type 0
IsIdle s = (unsent s ≡ []) × (unread s ≡ [])

-- All telegrams that were entered, except at most one, have their whole answers among the octets written: the expected
-- output for a prefix of the octets and of the verdicts is written.
pub record AllButOne (first : LinkState) (b : List ℕ) (js : List Verdict) (written : List ℕ) : Type 0 where
  pub front : List ℕ
  pub behind : List ℕ
  pub octets : b ≡ front ++ behind
  pub met : List Verdict
  pub later : List Verdict
  pub verdicts : js ≡ met ++ later
  pub part : List ℕ
  pub whole : written ≡ owed first front met ++ part
  pub all_but_one : length (entered first b js) ≤ length (entered first front met) + 1

-- The session represents the octets that were used on a link that began in this state, the verdicts of their telegrams,
-- and the octets that were written. It holds the open packet and message, the link's state, and the part of the
-- expected output that is still to be sent.
pub record Stands (first : LinkState) (s : Session) (b : List ℕ) (js : List Verdict) (written : List ℕ) : Type 0 where
  pub read : HasRead s.reader b
  pub used : length b ≡ used_of s
  pub met : (past first b js).verdicts ≡ []
  pub owed : owed first b js ≡ written ++ unsent s
  pub whole : AllButOne first b js written
  pub lives : closed_with s ≡ None → (past first b js).standing ≡ lives
  pub link : closed_with s ≡ None → (past first b js).link ≡ link_at s
  pub size : closed_with s ≡ None → (past first b js).size ≡ tpdu_size_of s.conversation.size

-- What any number of calls did to a session, its link and its doer.
pub record Moves {D : Type 0} (stands : D → List Entry → Type 0) (is_full may_lack : D → Ask → Type 0)
    (did : D → Ask → Option (ℕ × Said) → D → Type 0) (keeps : D → D → Type 0)
    (old : Session) (link : Shown) (d : D) (new : Session) (link' : Shown) (d' : D)
    : Type 0 where
  -- the octets that came, those that were used and those that were written
  pub received : List ℕ
  pub used : List ℕ
  pub written : List ℕ
  -- the telegrams that asked the plant, with their verdicts, and the doer's new entries
  pub mets : List Met
  pub entries : List Entry
  pub took : link.left ≡ prepend_known received link'.left
  pub wrote : link'.written ≡ append_known link.written written
  -- the link's room shrank by the octets written, it works on the same external object, and the calls didn't shut it
  pub fits : IfSome link.space (λ s. length written ≤ s)
  pub space : link'.space ≡ option_map (λ s. s - length written) link.space
  pub lent : link'.lent ≡ link.lent
  pub shut : link'.shut ≡ link.shut
  pub inbox : unread old ++ received ≡ used ++ unread new
  -- this holds whatever the session represents
  pub stood : (first : LinkState) (b : List ℕ) (js : List Verdict) (w : List ℕ) → Stands first old b js w
      → Stands first new (b ++ used) (js ++ verdicts_of mets) (w ++ written)
  pub asked : (first : LinkState) (b : List ℕ) (js : List Verdict) (w : List ℕ) → Stands first old b js w
      → telegrams first (b ++ used) (js ++ verdicts_of mets) ≡ telegrams first b js ++ mets
  -- the doer's new entries are the requests that were entered, with the replies
  pub entered : map answered entries ≡ entered_of mets
  pub count : entry_count new ≡ entry_count old + length entries
  pub newest : newest new ≡ last_number (newest old) entries
  pub doer : (es : List Entry) → stands d es → stands d' (es ++ entries)
  pub trail : Trail is_full may_lack did keeps d mets entries d'
  -- the clock failed as often as the verdicts say, showed one moment, and was read once for each telegram that needs
  -- the moment, and at no other time
  pub clock : RoseExactly (clock_failures (verdicts_of mets)) link.clock_faults link'.clock_faults
  pub unasked : NoneTimed mets → link'.clock_faults ≡ link.clock_faults
  pub looks : RoseExactly (looks_in mets) link.looks link'.looks
  pub moment : link'.moment ≡ link.moment
  pub moments : AllAt link.moment entries
  pub faults : link.faults ≤ link'.faults
  pub waits : link.waits ≤ link'.waits

-- the octets end because the client ended the link; unless a disconnect request came, nothing is left on it
pub record HasEnded (link' : Shown) (first : LinkState) (s : Session) (b : List ℕ) (js : List Verdict) (o : Outcome)
    : Type 0 where
  pub end : end_of first b js ≡ o
  pub sent : unsent s ≡ []
  pub at_end : (past first b js).standing ≡ lives → IsAtEnd link'.left × IsTrue link'.has_ended × (unread s ≡ [])

-- the octets end at a fault
pub record HasFaulted (first : LinkState) (s : Session) (b : List ℕ) (js : List Verdict) (o : Outcome) : Type 0 where
  pub end : end_of first b js ≡ o
  pub over : (past first b js).standing ≡ lives → ⊥
  pub sent : unsent s ≡ []

-- why a session closed
abbrev pub HasCause : Shown → Shown → LinkState → Session → List ℕ → List Verdict → Outcome → Type 0
HasCause link link' first s b js outcome.Ended = HasEnded link' first s b js outcome.Ended
HasCause link link' first s b js (outcome.Torn n) = HasEnded link' first s b js (outcome.Torn n)
HasCause link link' first s b js (outcome.BadFrame at) = HasFaulted first s b js (outcome.BadFrame at)
HasCause link link' first s b js (outcome.FrameTooLong at) = HasFaulted first s b js (outcome.FrameTooLong at)
HasCause link link' first s b js (outcome.BadTpdu at) = HasFaulted first s b js (outcome.BadTpdu at)
HasCause link link' first s b js (outcome.Unexpected at) = HasFaulted first s b js (outcome.Unexpected at)
HasCause link link' first s b js (outcome.TooManyFragments at) = HasFaulted first s b js (outcome.TooManyFragments at)
HasCause link link' first s b js (outcome.TooLong at) = HasFaulted first s b js (outcome.TooLong at)
HasCause link link' first s b js (outcome.NotS7 at) = HasFaulted first s b js (outcome.NotS7 at)
HasCause link link' first s b js outcome.ReadFault =
    Rose link.faults link'.faults × IsIdle s × ((past first b js).standing ≡ lives)
HasCause link link' first s b js outcome.WriteFault =
    Rose link.faults link'.faults × (0 < length (unsent s)) × ((past first b js).standing ≡ lives)
HasCause link link' first s b js outcome.Spent =
    (length b ≡ spent) × IsIdle s × ((past first b js).standing ≡ lives)
HasCause link link' first s b js outcome.Memory = ((past first b js).standing ≡ stops) × (unsent s ≡ [])

-- A link fails once if that closes it, and otherwise not at all: no failure is ignored.
abbrev pub FailsBy : Outcome → ℕ → ℕ → Type 0
FailsBy outcome.ReadFault before now = RoseExactly 1 before now
FailsBy outcome.WriteFault before now = RoseExactly 1 before now
FailsBy _ before now = now ≡ before

-- how often a link failed and wasn't ready in a turn
abbrev pub Counts : Turn → Shown → Shown → Type 0
Counts turn.Went link link' = (link'.faults ≡ link.faults) × (link'.waits ≡ link.waits)
Counts turn.NotYet link link' = (link'.faults ≡ link.faults) × RoseExactly 1 link.waits link'.waits
Counts (turn.Closed o) link link' = FailsBy o link.faults link'.faults × (link'.waits ≡ link.waits)

abbrev pub closed_by : Turn → Option Outcome
closed_by turn.Went = None
closed_by turn.NotYet = None
closed_by (turn.Closed o) = Some o

-- Either octets are left to send, and a link that shows its space has none. Or nothing is left to send or to use, and a
-- link that shows its space has nothing left to give.
pub record HasMetNotYet (old : Session) (link : Shown) : Type 0 where
  pub idle : unsent old ≡ [] → unread old ≡ []
  pub full : (space : ℕ) → link.space ≡ Some space → (unsent old ≡ [] → ⊥) → space ≡ 0
  pub empty : (space : ℕ) → link.space ≡ Some space → unsent old ≡ [] → link.left ≡ Some []

pub record IsTurn {D : Type 0} (stands : D → List Entry → Type 0) (is_full may_lack : D → Ask → Type 0)
    (did : D → Ask → Option (ℕ × Said) → D → Type 0) (keeps : D → D → Type 0)
    (old : Session) (link : Shown) (d : D) (new : Session) (link' : Shown) (d' : D) (result : Turn)
    : Type 0 where
  pub moves : Moves stands is_full may_lack did keeps old link d new link' d'
  -- at most one telegram has a verdict in a turn
  pub one : length moves.mets ≤ 1
  pub went : result ≡ turn.Went → 0 < length moves.received + length moves.used + length moves.written
  pub not_yet : result ≡ turn.NotYet
      → (moves.received ≡ []) × (moves.used ≡ []) × (moves.written ≡ []) × Rose link.waits link'.waits
      × HasMetNotYet old link × (unsent new ≡ unsent old)
  -- the turn receives only if nothing is left to send or to use, and uses octets only if nothing is left to send
  pub receives : 0 < length moves.received → IsIdle old
  pub uses : 0 < length moves.used → unsent old ≡ []
  -- so a receive fails only if nothing is left to send or to use, and a transmit fails only if octets are left to send
  pub read_fails : result ≡ turn.Closed outcome.ReadFault → closed_with old ≡ None → IsIdle old × (moves.used ≡ [])
  pub write_fails : result ≡ turn.Closed outcome.WriteFault → closed_with old ≡ None
      → (0 < length (unsent old)) × (moves.used ≡ [])
  pub counts : closed_with old ≡ None → Counts result link link'
  pub closed : closed_with new ≡ closed_by result
  pub cause : (o : Outcome) → result ≡ turn.Closed o → closed_with old ≡ None
      → (first : LinkState) (b : List ℕ) (js : List Verdict) (w : List ℕ) → Stands first old b js w
      → HasCause link link' first new (b ++ moves.used) (js ++ verdicts_of moves.mets) o

-- what turns do, up to the one that closes the link
pub record IsServed {D : Type 0} (stands : D → List Entry → Type 0) (is_full may_lack : D → Ask → Type 0)
    (did : D → Ask → Option (ℕ × Said) → D → Type 0) (keeps : D → D → Type 0)
    (old : Session) (link : Shown) (d : D) (new : Session) (link' : Shown) (d' : D) (result : Outcome)
    : Type 0 where
  pub moves : Moves stands is_full may_lack did keeps old link d new link' d'
  pub closed : closed_with new ≡ Some result
  pub fails : closed_with old ≡ None → FailsBy result link.faults link'.faults
  pub cause : closed_with old ≡ None
      → (first : LinkState) (b : List ℕ) (js : List Verdict) (w : List ℕ) → Stands first old b js w
      → HasCause link link' first new (b ++ moves.used) (js ++ verdicts_of moves.mets) result

-- What a session does with the complete message of its reader: it answers it, and closes if that ends the link. Nothing
-- else of the session changes.
pub record Handles {D : Type 0} (stands : D → List Entry → Type 0) (is_full may_lack : D → Ask → Type 0)
    (did : D → Ask → Option (ℕ × Said) → D → Type 0) (keeps : D → D → Type 0)
    (old : Session) (link : Shown) (d : D) (new : Session) (link' : Shown) (d' : D) (result : Turn)
    : Type 0 where
  pub handled : Handled
  pub answers : Answers stands is_full may_lack did keeps link d link' d'
      (made (tpdu_size_of old.conversation.size) (link_at old) (message (message_at old.reader) (place_at old.reader)))
      (place_at old.reader)
      (tpdu_size_of new.conversation.size) (link_at new) (unsent new) handled
  pub result_is : result ≡ turn_by (place_at old.reader) handled
  pub closed : closed_with new ≡ closed_by result
  pub reader : new.reader ≡ old.reader
  pub inbox : new.inbox ≡ old.inbox
  pub used : new.used ≡ old.used
  pub count : entry_count new ≡ entry_count old + entries_by handled
  pub newest : newest new ≡ last_after (newest old) handled

-- what one turn does with octets that were read
pub record Consumes {D : Type 0} (stands : D → List Entry → Type 0) (is_full may_lack : D → Ask → Type 0)
    (did : D → Ask → Option (ℕ × Said) → D → Type 0) (keeps : D → D → Type 0)
    (old : Session) (link : Shown) (d : D) (new : Session) (link' : Shown) (d' : D) (result : Turn)
    : Type 0 where
  pub used : List ℕ
  pub some : result ≡ turn.Went → 0 < length used
  pub mets : List Met
  pub one : length mets ≤ 1
  pub entries : List Entry
  pub inbox : unread old ≡ used ++ unread new
  pub stood : (first : LinkState) (b : List ℕ) (js : List Verdict) (w : List ℕ) → Stands first old b js w
      → Stands first new (b ++ used) (js ++ verdicts_of mets) w
  pub asked : (first : LinkState) (b : List ℕ) (js : List Verdict) (w : List ℕ) → Stands first old b js w
      → telegrams first (b ++ used) (js ++ verdicts_of mets) ≡ telegrams first b js ++ mets
  pub entered : map answered entries ≡ entered_of mets
  pub count : entry_count new ≡ entry_count old + length entries
  pub newest : newest new ≡ last_number (newest old) entries
  pub doer : (es : List Entry) → stands d es → stands d' (es ++ entries)
  pub trail : Trail is_full may_lack did keeps d mets entries d'
  pub closed : closed_with new ≡ closed_by result
  pub waits : result ≡ turn.NotYet → ⊥
  pub by_octets : (o : Outcome) → result ≡ turn.Closed o → (o ≢ outcome.ReadFault) × (o ≢ outcome.WriteFault)
  pub line : link' ≡ record link { clock_faults = link'.clock_faults; looks = link'.looks }
  pub clock : RoseExactly (clock_failures (verdicts_of mets)) link.clock_faults link'.clock_faults
  pub unasked : NoneTimed mets → link'.clock_faults ≡ link.clock_faults
  pub looks : RoseExactly (looks_in mets) link.looks link'.looks
  pub moments : AllAt link.moment entries
  pub cause : (o : Outcome) → result ≡ turn.Closed o → (k k' : Shown)
      → (first : LinkState) (b : List ℕ) (js : List Verdict) (w : List ℕ) → Stands first old b js w
      → HasCause k k' first new (b ++ used) (js ++ verdicts_of mets) o
