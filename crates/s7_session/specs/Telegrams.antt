-- The telegrams of a link that asked the plant, and their verdicts.
use Rattle.std.specs.Prelude.{◌≡◌, ℕ, ◌+◌, Bool, true, false, IsTrue, List, [], ◌∷◌, ◌++◌, map, Option, None, Some}
use Rattle.std.specs.List.{AllByRecursion}
use Rattle.s7_plant.specs.declared.request.Ask.{Ask}
use Rattle.s7_plant.specs.declared.request.Request.{Request}
use Rattle.s7_plant.specs.declared.request.Request.TheVariants.{Read, Write}
use Rattle.s7_plant.specs.declared.request.Request.TheVariants as request
use Rattle.s7_plant.specs.Replies.{Said}
use Rattle.s7_session.specs.Entry.{Entry}
use Rattle.s7_session.specs.Judgement.{Asking}
use Rattle.s7_session.specs.Verdict.{Verdict, Entered, Full, ClockFailed, NoMemory}

-- a telegram that asks the plant, and its verdict
pub record Met : Type 0 where
  pub asking : Asking
  pub verdict : Verdict

abbrev pub met : Asking → Verdict → Met
met asking verdict = record { asking = asking; verdict = verdict }

abbrev pub verdicts_of : List Met → List Verdict
verdicts_of mets = map (λ (m : Met). m.verdict) mets

-- what was entered for a telegram, with the reply
abbrev pub entered_by : Asking → Verdict → List (Ask × Said)
entered_by asking (Entered reply moment) = (asking.ask moment, reply) ∷ []
entered_by asking Full = []
entered_by asking ClockFailed = []
entered_by asking NoMemory = []

-- what was entered, in order
abbrev pub entered_of : List Met → List (Ask × Said)
entered_of [] = []
entered_of (m ∷ mets) = entered_by m.asking m.verdict ++ entered_of mets

-- how often the clock is read for a telegram: once, if it needs the moment
abbrev pub looks_for : Bool → ℕ
looks_for true = 1
looks_for false = 0

-- how often the clock is read for all of them
abbrev pub looks_in : List Met → ℕ
looks_in [] = 0
looks_in (m ∷ mets) = looks_for m.asking.is_timed + looks_in mets

-- none of the telegrams needs a moment
abbrev pub NoneTimed : List Met → Type 0
NoneTimed mets = AllByRecursion (λ (m : Met). m.asking.is_timed ≡ false) mets

-- ---- verdicts

-- the doer was full for a telegram
abbrev pub AnyFull : List Verdict → Type 0
AnyFull [] = ⊥
AnyFull (Full ∷ verdicts) = Unit {0}
AnyFull (Entered reply moment ∷ verdicts) = AnyFull verdicts
AnyFull (ClockFailed ∷ verdicts) = AnyFull verdicts
AnyFull (NoMemory ∷ verdicts) = AnyFull verdicts

-- no telegram was entered
abbrev pub NoneEntered : List Verdict → Type 0
NoneEntered [] = Unit {0}
NoneEntered (Full ∷ verdicts) = NoneEntered verdicts
NoneEntered (Entered reply moment ∷ verdicts) = ⊥
NoneEntered (ClockFailed ∷ verdicts) = NoneEntered verdicts
NoneEntered (NoMemory ∷ verdicts) = NoneEntered verdicts

-- no telegram is entered after one for which the doer was full
abbrev pub FullStays : List Verdict → Type 0
FullStays [] = Unit {0}
FullStays (Full ∷ verdicts) = NoneEntered verdicts
FullStays (Entered reply moment ∷ verdicts) = FullStays verdicts
FullStays (ClockFailed ∷ verdicts) = FullStays verdicts
FullStays (NoMemory ∷ verdicts) = FullStays verdicts

-- an allocation failed for the last telegram at most
abbrev pub MemoryIsLast : List Verdict → Type 0
MemoryIsLast [] = Unit {0}
MemoryIsLast (Full ∷ verdicts) = MemoryIsLast verdicts
MemoryIsLast (Entered reply moment ∷ verdicts) = MemoryIsLast verdicts
MemoryIsLast (ClockFailed ∷ verdicts) = MemoryIsLast verdicts
MemoryIsLast (NoMemory ∷ verdicts) = verdicts ≡ []

-- A verdict has its cause: the clock failed only if the telegram needs a moment, and an allocation failed only if
-- octets of the telegram are copied.
abbrev pub IsCaused : Asking → Verdict → Type 0
IsCaused asking (Entered reply moment) = Unit {0}
IsCaused asking Full = Unit {0}
IsCaused asking ClockFailed = IsTrue asking.is_timed
IsCaused asking NoMemory = IsTrue asking.is_copied

abbrev pub AreCaused : List Met → Type 0
AreCaused mets = AllByRecursion (λ (m : Met). IsCaused m.asking m.verdict) mets

-- for how many telegrams the clock failed
abbrev pub clock_failures : List Verdict → ℕ
clock_failures [] = 0
clock_failures (Entered reply moment ∷ verdicts) = clock_failures verdicts
clock_failures (Full ∷ verdicts) = clock_failures verdicts
clock_failures (ClockFailed ∷ verdicts) = 1 + clock_failures verdicts
clock_failures (NoMemory ∷ verdicts) = clock_failures verdicts

-- ---- entries

-- the moment of a request that has one
abbrev pub moment_of : Request → Option ℕ
moment_of (Read items) = None
moment_of (Write items places octets) = None
moment_of (request.Szl id index) = None
moment_of (request.ClockRead moment) = Some moment
moment_of (request.ClockSet moment value) = Some moment
moment_of (request.Start cold) = None
moment_of request.Stop = None
moment_of request.Compress = None
moment_of request.CopyRam = None
moment_of request.ListAll = None
moment_of (request.ListOf kind) = None
moment_of (request.Info kind number) = None
moment_of (request.StartUpload kind number) = None
moment_of (request.Insert kind number image spare) = None
moment_of (request.Delete kind number) = None

-- a request that has a moment has the one that the clock showed
abbrev pub IsAt : Option ℕ → Option ℕ → Type 0
IsAt None moment = Unit {0}
IsAt (Some told) None = Unit {0}
IsAt (Some told) (Some moment) = moment ≡ told

abbrev pub AllAt : Option ℕ → List Entry → Type 0
AllAt told [] = Unit {0}
AllAt told (e ∷ es) = IsAt told (moment_of e.ask.request) × AllAt told es

-- the number of the newest entry
abbrev pub last_number : Option ℕ → List Entry → Option ℕ
last_number before [] = before
last_number before (e ∷ es) = last_number (Some e.number) es
