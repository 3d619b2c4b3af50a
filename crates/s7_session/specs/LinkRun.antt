-- What a whole run of a link is, seen from outside.
use Rattle.std.specs.Prelude.{◌≡◌, ◌≢◌, ℕ, ◌-◌, ◌<◌, ◌≤◌, List, [], ◌++◌, length, map}
use Rattle.std.specs.Prelude.{Option, None, option_map, IfSome, IsTrue}
use Rattle.std.specs.Io.KnownBytes.{prepend_known, append_known, IsAtEnd}
use Rattle.s7_outer.specs.Shown.{Shown}
use Rattle.s7_outer.specs.Count.{Rose, RoseExactly}
use Rattle.s7_plant.specs.declared.request.Ask.{Ask}
use Rattle.s7_plant.specs.Replies.{Said}
use Rattle.s7_session.specs.declared.session.Session.{Session}
use Rattle.s7_session.specs.declared.outcome.Outcome.{Outcome}
use Rattle.s7_session.specs.declared.outcome.Outcome.TheVariants as outcome
use Rattle.s7_session.specs.Bounds.{spent}
use Rattle.s7_session.specs.Doers.{Trail}
use Rattle.s7_session.specs.Entry.{Entry, answered}
use Rattle.s7_session.specs.Events.{lives, stops}
use Rattle.s7_session.specs.LinkState.{LinkState}
use Rattle.s7_session.specs.Owed.{past, owed, telegrams, end_of}
use Rattle.s7_session.specs.Stands.{Stands, AllButOne, FailsBy, closed_with, unread, entry_count, newest}
use Rattle.s7_session.specs.Telegrams.{Met, verdicts_of, entered_of, looks_in, NoneTimed, AllAt, clock_failures, last_number}
use Rattle.s7_session.specs.Verdict.{Verdict}

-- a session that has taken nothing, of a link that begins in this state
pub record IsFresh (first : LinkState) (s : Session) : Type 0 where
  pub stands : Stands first s [] [] []
  pub going : closed_with s ≡ None
  pub unread : unread s ≡ []
  pub count : entry_count s ≡ 0
  pub newest : newest s ≡ None

-- The link failed to transmit. A prefix of the expected output was written, but not all of it; it contains the whole
-- answers of all telegrams that were entered, except at most one.
pub record IsBrokenOff (first : LinkState) (b : List ℕ) (js : List Verdict) (written : List ℕ) : Type 0 where
  pub left : List ℕ
  pub front : owed first b js ≡ written ++ left
  pub some : 0 < length left
  pub whole : AllButOne first b js written

-- the whole expected output was written
abbrev pub IsAllWritten : LinkState → List ℕ → List Verdict → List ℕ → Type 0
IsAllWritten first b js written = written ≡ owed first b js

-- what was written, by the outcome
abbrev pub IsWritten : LinkState → Outcome → List ℕ → List Verdict → List ℕ → Type 0
IsWritten first outcome.Ended b js written = IsAllWritten first b js written
IsWritten first (outcome.Torn n) b js written = IsAllWritten first b js written
IsWritten first (outcome.BadFrame at) b js written = IsAllWritten first b js written
IsWritten first (outcome.FrameTooLong at) b js written = IsAllWritten first b js written
IsWritten first (outcome.BadTpdu at) b js written = IsAllWritten first b js written
IsWritten first (outcome.Unexpected at) b js written = IsAllWritten first b js written
IsWritten first (outcome.TooManyFragments at) b js written = IsAllWritten first b js written
IsWritten first (outcome.TooLong at) b js written = IsAllWritten first b js written
IsWritten first (outcome.NotS7 at) b js written = IsAllWritten first b js written
IsWritten first outcome.ReadFault b js written = IsAllWritten first b js written
IsWritten first outcome.WriteFault b js written = IsBrokenOff first b js written
IsWritten first outcome.Spent b js written = IsAllWritten first b js written
IsWritten first outcome.Memory b js written = IsAllWritten first b js written

-- the client ended the link, unless a disconnect request came
abbrev pub IsLeft : Shown → LinkState → List ℕ → List Verdict → Type 0
IsLeft link' first b js = (past first b js).standing ≡ lives → IsAtEnd link'.left × IsTrue link'.has_ended

-- why the link ended, by the octets taken from it and the verdicts
abbrev pub IsEnd : Shown → Shown → LinkState → List ℕ → List Verdict → Outcome → Type 0
IsEnd link link' first b js outcome.Ended = (end_of first b js ≡ outcome.Ended) × IsLeft link' first b js
IsEnd link link' first b js (outcome.Torn n) = (end_of first b js ≡ outcome.Torn n) × IsLeft link' first b js
IsEnd link link' first b js (outcome.BadFrame at) = end_of first b js ≡ outcome.BadFrame at
IsEnd link link' first b js (outcome.FrameTooLong at) = end_of first b js ≡ outcome.FrameTooLong at
IsEnd link link' first b js (outcome.BadTpdu at) = end_of first b js ≡ outcome.BadTpdu at
IsEnd link link' first b js (outcome.Unexpected at) = end_of first b js ≡ outcome.Unexpected at
IsEnd link link' first b js (outcome.TooManyFragments at) = end_of first b js ≡ outcome.TooManyFragments at
IsEnd link link' first b js (outcome.TooLong at) = end_of first b js ≡ outcome.TooLong at
IsEnd link link' first b js (outcome.NotS7 at) = end_of first b js ≡ outcome.NotS7 at
IsEnd link link' first b js outcome.ReadFault = Rose link.faults link'.faults × ((past first b js).standing ≡ lives)
IsEnd link link' first b js outcome.WriteFault = Rose link.faults link'.faults × ((past first b js).standing ≢ stops)
IsEnd link link' first b js outcome.Spent = (length b ≡ spent) × ((past first b js).standing ≡ lives)
IsEnd link link' first b js outcome.Memory = (past first b js).standing ≡ stops

-- A WHOLE RUN of a link that begins in this state
pub record IsLinkRun {D : Type 0} (stands : D → List Entry → Type 0) (is_full may_lack : D → Ask → Type 0)
    (did : D → Ask → Option (ℕ × Said) → D → Type 0) (keeps : D → D → Type 0)
    (first : LinkState) (link : Shown) (d : D) (link' : Shown) (d' : D)
    (result : Outcome) (accepted : ℕ) (last : Option ℕ)
    : Type 0 where
  -- the octets taken from the link, and the octets written on it
  pub taken : List ℕ
  pub written : List ℕ
  -- the telegrams that asked the plant, with their verdicts, and the doer's new entries
  pub mets : List Met
  pub entries : List Entry
  pub took : link.left ≡ prepend_known taken link'.left
  pub wrote : link'.written ≡ append_known link.written written
  -- the link's room shrank by the octets written; it works on the same external object, and its clock shows the same
  -- moment; the run didn't shut it
  pub fits : IfSome link.space (λ s. length written ≤ s)
  pub space : link'.space ≡ option_map (λ s. s - length written) link.space
  pub lent : link'.lent ≡ link.lent
  pub shut : link'.shut ≡ link.shut
  pub moment : link'.moment ≡ link.moment
  pub owed : IsWritten first result taken (verdicts_of mets) written
  -- the octets taken ask for these requests, and these are their verdicts
  pub asked : telegrams first taken (verdicts_of mets) ≡ mets
  -- the doer entered the requests that have such a verdict, in order and with these replies, and nothing else
  pub entered : map answered entries ≡ entered_of mets
  pub doer : (es : List Entry) → stands d es → stands d' (es ++ entries)
  pub trail : Trail is_full may_lack did keeps d mets entries d'
  pub count : accepted ≡ length entries
  pub last_is : last ≡ last_number None entries
  pub clock : RoseExactly (clock_failures (verdicts_of mets)) link.clock_faults link'.clock_faults
  pub unasked : NoneTimed mets → link'.clock_faults ≡ link.clock_faults
  -- the clock was read once for each telegram that needs the moment, and at no other time
  pub looks : RoseExactly (looks_in mets) link.looks link'.looks
  pub moments : AllAt link.moment entries
  -- the link failed once if a failure ended the run, and otherwise not at all
  pub fails : FailsBy result link.faults link'.faults
  pub end : IsEnd link link' first taken (verdicts_of mets) result
