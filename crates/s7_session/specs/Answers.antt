-- What handling one message does.
use Rattle.std.specs.Prelude.{◌≡◌, ℕ, ◌≤◌, List, [], ◌++◌, length, map, Option, Some}
use Rattle.s7_outer.specs.Count.{RoseExactly}
use Rattle.s7_outer.specs.Shown.{Shown}
use Rattle.s7_plant.specs.declared.request.Ask.{Ask}
use Rattle.s7_plant.specs.Replies.{Said}
use Rattle.s7_session.specs.declared.handled.Handled.{Handled}
use Rattle.s7_session.specs.declared.handled.Handled.TheVariants as handled
use Rattle.s7_session.specs.declared.outcome.Outcome.TheVariants.{NotS7}
use Rattle.s7_session.specs.Doers.{Trail}
use Rattle.s7_session.specs.Entry.{Entry, answered}
use Rattle.s7_session.specs.Events.{Standing, lives, stops, closes, Made}
use Rattle.s7_session.specs.LinkState.{LinkState}
use Rattle.s7_session.specs.Telegrams.{entered_of, verdicts_of, last_number, looks_in, NoneTimed, AllAt, clock_failures}
use Rattle.s7_session.specs.Verdict.{Verdict}

-- whether the link goes on, by the result of handling the message at this offset
abbrev pub standing_by : ℕ → Handled → Standing
standing_by at handled.Answered = lives
standing_by at (handled.Entered number) = lives
standing_by at handled.NoMemory = stops
standing_by at handled.NotS7 = closes (NotS7 at)

-- the number of the newest entry afterwards
abbrev pub last_after : Option ℕ → Handled → Option ℕ
last_after before handled.Answered = before
last_after before (handled.Entered number) = Some number
last_after before handled.NoMemory = before
last_after before handled.NotS7 = before

-- how many entries the message made
abbrev pub entries_by : Handled → ℕ
entries_by handled.Answered = 0
entries_by (handled.Entered number) = 1
entries_by handled.NoMemory = 0
entries_by handled.NotS7 = 0

-- What handling one message does: the expected output was queued, the doer entered what was asked, and of the link at
-- most the clock was used.
pub record Answers {D : Type 0} (stands : D → List Entry → Type 0) (is_full may_lack : D → Ask → Type 0)
    (did : D → Ask → Option (ℕ × Said) → D → Type 0) (keeps : D → D → Type 0)
    (line : Shown) (d : D) (line' : Shown) (d' : D)
    (made : List Verdict → Made) (at : ℕ) (size : Option ℕ) (link : LinkState) (sent : List ℕ) (result : Handled)
    : Type 0 where
  -- the verdict of the message's telegram, if it asks the plant
  pub verdicts : List Verdict
  pub one : length verdicts ≤ 1
  -- the doer's new entry, if there is one
  pub entries : List Entry
  pub standing_is : (made verdicts).standing ≡ standing_by at result
  pub out_is : (made verdicts).out ≡ sent
  pub mets_are : verdicts_of (made verdicts).mets ≡ verdicts
  pub entered_is : map answered entries ≡ entered_of (made verdicts).mets
  pub none_left : (made verdicts).verdicts ≡ []
  pub size_is : (made verdicts).size ≡ size
  pub link_is : standing_by at result ≡ lives → (made verdicts).link ≡ link
  pub silent : (standing_by at result ≡ lives → ⊥) → sent ≡ []
  pub count : length entries ≡ entries_by result
  pub last : (before : Option ℕ) → last_number before entries ≡ last_after before result
  pub doer : (es : List Entry) → stands d es → stands d' (es ++ entries)
  pub trail : Trail is_full may_lack did keeps d (made verdicts).mets entries d'
  -- nothing of the link changed but two counters: of its clock's failures, by as many as the verdict says, and of its
  -- clock's reads, by one if the telegram needs the time
  pub line_is : line' ≡ record line { clock_faults = line'.clock_faults; looks = line'.looks }
  pub clock : RoseExactly (clock_failures verdicts) line.clock_faults line'.clock_faults
  pub unasked : NoneTimed (made verdicts).mets → line'.clock_faults ≡ line.clock_faults
  pub looks : RoseExactly (looks_in (made verdicts).mets) line.looks line'.looks
  -- the entry has the moment that the clock showed
  pub moments : AllAt line.moment entries
