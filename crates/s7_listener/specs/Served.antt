-- The result of serving a link, seen from outside, by the history that has its calls.
use Rattle.std.specs.Prelude.{◌≡◌, ◌⊎◌, ℕ, ◌-◌, ◌≤◌, List, length, Option, None, Some, option_map, IfSome}
use Rattle.std.specs.Io.KnownBytes.{prepend_known, append_known}
use Rattle.s7_outer.specs.Shown.{Shown}
use Rattle.s7_outer.specs.Calls.{shut_behind, shut_down}
use Rattle.s7_outer.specs.Count.{RoseExactly}
use Rattle.s7_plant.specs.State.{State}
use Rattle.s7_session.specs.declared.outcome.Outcome.{Outcome}
use Rattle.s7_session.specs.declared.outcome.Outcome.TheVariants as outcome
use Rattle.s7_session.specs.Books.{History}
use Rattle.s7_session.specs.Legal.{IsLegalFor}
use Rattle.s7_session.specs.LinkRun.{IsWritten, IsEnd}
use Rattle.s7_session.specs.LinkState.{LinkState}
use Rattle.s7_session.specs.Owed as octets
use Rattle.s7_session.specs.Stands.{FailsBy}
use Rattle.s7_session.specs.Telegrams.{Met, verdicts_of, looks_in, clock_failures, NoneTimed}
use Rattle.s7_listener.specs.declared.served.Served.{Served}

-- a served link as contracts see it: its number, what it shows, how it ended, how many of its telegrams were entered,
-- and the number of the newest entry
pub record ServedTold : Type 0 where
  pub link : ℕ
  pub line : Shown
  pub outcome : Outcome
  pub entries : ℕ
  pub last : Option ℕ

abbrev pub served_told : ℕ → Shown → Outcome → ℕ → Option ℕ → ServedTold
served_told link line result entries last =
    record { link = link; line = line; outcome = result; entries = entries; last = last }

abbrev pub told_of : {L : Type 0} → (L → Shown) → Served L → ServedTold
told_of shows served = served_told served.link (shows served.line) served.outcome served.entries served.last

-- A LINK WAS SERVED by a session that began in this state, over a history that began at a state and has this limit:
-- what the link showed before, and the result
pub record IsServedLink (opening : State) (limit : ℕ) (first : LinkState) (history : History)
    (pipe : Shown) (served : ServedTold) : Type 0 where
  -- the octets taken from it, those written on it, and its telegrams that asked, with their verdicts
  pub taken : List ℕ
  pub written : List ℕ
  pub mets : List Met
  pub took : pipe.left ≡ prepend_known taken served.line.left
  pub wrote : served.line.written ≡ append_known pipe.written written
  -- the link's room shrank by the octets written, it works on the same external object, and its clock shows the same
  -- moment
  pub fits : IfSome pipe.space (λ s. length written ≤ s)
  pub space : served.line.space ≡ option_map (λ s. s - length written) pipe.space
  pub lent : served.line.lent ≡ pipe.lent
  pub moment : served.line.moment ≡ pipe.moment
  -- the octets taken ask for these requests, and these are their verdicts
  pub asked : octets.telegrams first taken (verdicts_of mets) ≡ mets
  -- the expected output was written, or a prefix of it if a transmit failed
  pub answers : IsWritten first served.outcome taken (verdicts_of mets) written
  -- the history is legal for the link
  pub legal : IsLegalFor opening limit history served.link mets pipe.moment served.entries served.last
  -- the clock failed as often as the verdicts say, and was read only if a telegram needs a moment
  pub clock : RoseExactly (clock_failures (verdicts_of mets)) pipe.clock_faults served.line.clock_faults
  pub unasked : NoneTimed mets → served.line.clock_faults ≡ pipe.clock_faults
  pub looks : RoseExactly (looks_in mets) pipe.looks served.line.looks
  -- the link failed once if that ended it, and otherwise not at all
  pub fails : FailsBy served.outcome pipe.faults served.line.faults
  pub end : IsEnd pipe served.line first taken (verdicts_of mets) served.outcome

-- an allocation for the link's buffers failed: the link was shut down, and nothing else was done with it
pub record IsLeftAlone (pipe : Shown) (served : ServedTold) : Type 0 where
  pub line_is : served.line ≡ shut_down pipe
  pub result_is : served.outcome ≡ outcome.Memory
  pub entries : served.entries ≡ 0
  pub last : served.last ≡ None

-- if the link shows whether its stream was shut, the peer learns that nothing more comes: the stream was shut after the
-- last octet that moved, unless it was shut before the link came
abbrev pub IsShut : Shown → Shown → Type 0
IsShut pipe line = line.shut ≡ option_map (λ before. Some (shut_behind line before)) pipe.shut

pub record IsServed (opening : State) (limit : ℕ) (first : LinkState) (history : History)
    (pipe : Shown) (served : ServedTold) : Type 0 where
  pub came : IsServedLink opening limit first history pipe served ⊎ IsLeftAlone pipe served
  pub shut : IsShut pipe served.line
