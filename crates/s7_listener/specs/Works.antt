-- Links that are being served, and links that were.
use Rattle.std.specs.Prelude.{◌≡◌, ◌⊎◌, ◌<◌, ℕ, ◌+◌, Bool, true, false}
use Rattle.std.specs.Prelude.{List, [], ◌∷◌, ◌++◌, length, map, Option, None, Some}
use Rattle.s7_outer.specs.Door.{PortFailed}
use Rattle.s7_outer.specs.DoorShown.{DoorShown}
use Rattle.s7_outer.specs.Shown.{Shown}
use Rattle.s7_turn.specs.Histories.{has}
use Rattle.s7_listener.specs.Benches.{Terms, SeatTold, IsNew}
use Rattle.s7_listener.specs.Given.{Gives, IsEmptied}
use Rattle.s7_listener.specs.Served.{ServedTold, told_of}
use Rattle.s7_listener.specs.declared.work.Stop.{Stop}
use Rattle.s7_listener.specs.declared.work.Stop.TheVariants as stop
use Rattle.s7_listener.specs.declared.work.Work.{Work}
use Rattle.s7_listener.specs.declared.work.Work.TheVariants as work

-- what a thread was handed: a seat, and a link that showed this
pub record Handed (Seen : Type 0) : Type 0 where
  pub seat : SeatTold Seen
  pub pipe : Shown

abbrev pub handed : {Seen : Type 0} → SeatTold Seen → Shown → Handed Seen
handed seat pipe = record { seat = seat; pipe = pipe }

-- what was handed is a new seat of this number, which hands out no numbers, and a link that showed this
pub record IsHanded {Seen : Type 0} (terms : Terms Seen) (number : ℕ) (pipe : Shown) (given : Handed Seen)
    : Type 0 where
  pub number_is : given.seat.number ≡ number
  pub is_new : IsNew terms given.seat
  pub gives_none : given.seat.next ≡ None
  pub few : terms.fits given.seat.seen
  pub pipe_is : given.pipe ≡ pipe

-- a seat represents a link of this number, which was served over what was seen then; the calls that the seat has seen
-- since then are of other links
pub record IsIn {Seen : Type 0} (terms : Terms Seen) (all : SeatTold Seen)
    (number : ℕ) (pipe : Shown) (served : ServedTold) : Type 0 where
  pub seen : Seen
  pub stands : has all.callers number ≡ true
  pub agrees : terms.agrees seen (number ∷ []) all.seen
  pub served_as : terms.served seen number pipe served

-- the seat represents a number that made no call
pub record IsIdle {Seen : Type 0} (terms : Terms Seen) (all : SeatTold Seen) (number : ℕ) : Type 0 where
  pub stands : has all.callers number ≡ true
  pub silent : terms.silent number all.seen

-- the links that came were served, in the order of their numbers, from this number on
abbrev pub AreIn : {Seen : Type 0} → Terms Seen → SeatTold Seen → ℕ → List Shown → List ServedTold → Type 0
AreIn terms all number [] [] = Unit {0}
AreIn terms all number [] (served ∷ links) = ⊥
AreIn terms all number (pipe ∷ pipes) [] = ⊥
AreIn terms all number (pipe ∷ pipes) (served ∷ links) =
    IsIn terms all number pipe served × AreIn terms all (number + 1) pipes links

-- a thread that serves a link keeps its promise about the result
abbrev pub IsKept : {H L : Type 0} → (H → Type 0) → Work H L → Type 0
IsKept keeps (work.Running h) = keeps h
IsKept keeps (work.Done served) = Unit {0}

-- a link of this number is served by a thread that keeps its promise, or it was served
abbrev pub WorkIs : {H L Seen : Type 0} → (H → Type 0) → (H → Handed Seen) → (L → Shown)
    → Terms Seen → SeatTold Seen → ℕ → Shown → Work H L → Type 0
WorkIs keeps gets shows terms all number pipe (work.Running h) = keeps h × IsHanded terms number pipe (gets h)
WorkIs keeps gets shows terms all number pipe (work.Done served) = IsIn terms all number pipe (told_of shows served)

abbrev pub WorksAre : {H L Seen : Type 0} → (H → Type 0) → (H → Handed Seen) → (L → Shown)
    → Terms Seen → SeatTold Seen → ℕ → List Shown → List (Work H L) → Type 0
WorksAre keeps gets shows terms all number [] [] = Unit {0}
WorksAre keeps gets shows terms all number [] (w ∷ works) = ⊥
WorksAre keeps gets shows terms all number (pipe ∷ pipes) [] = ⊥
WorksAre keeps gets shows terms all number (pipe ∷ pipes) (w ∷ works) =
    WorkIs keeps gets shows terms all number pipe w × WorksAre keeps gets shows terms all (number + 1) pipes works

-- SERVING GOES ON: the links that came so far are being served or were served, under the numbers from 1 on, and the
-- seat's own caller has made no call
pub record IsUnderWay {H L Seen : Type 0} (keeps : H → Type 0) (gets : H → Handed Seen) (shows : L → Shown)
    (terms : Terms Seen) (all : SeatTold Seen) (pipes : List Shown) (works : List (Work H L)) : Type 0 where
  pub idle : IsIdle terms all 0
  pub few : terms.fits all.seen
  pub works_are : WorksAre keeps gets shows terms all 1 pipes works

-- THE DOOR GAVE THESE LINKS SO FAR and didn't fail. They are being served or were served, and the seat hands out the
-- next number.
pub record IsServing {H L Seen : Type 0} (keeps : H → Type 0) (gets : H → Handed Seen) (shows : L → Shown)
    (terms : Terms Seen) (port : ℕ) (before now : DoorShown L) (all : SeatTold Seen) (lines : List L)
    (works : List (Work H L)) : Type 0 where
  pub gives : Gives port before now lines
  pub unfailed : now.faults ≡ before.faults
  pub under_way : IsUnderWay keeps gets shows terms all (map shows lines) works
  pub next : all.next ≡ Some (length lines + 1)

-- the door gave these links and no more; the number that was handed out for the next link made no call
pub record HasStopped {H L Seen : Type 0} (keeps : H → Type 0) (gets : H → Handed Seen) (shows : L → Shown)
    (terms : Terms Seen) (port : ℕ) (before now : DoorShown L) (all : SeatTold Seen) (lines : List L)
    (works : List (Work H L)) : Type 0 where
  pub gives : Gives port before now lines
  pub under_way : IsUnderWay keeps gets shows terms all (map shows lines) works
  pub next : all.next ≡ Some (length lines + 2)
  pub last : IsIdle terms all (length lines + 1)

-- why no link came
abbrev pub Stops : {L : Type 0} → ℕ → DoorShown L → DoorShown L → Stop → Type 0
Stops port before now stop.End = IsEmptied now.coming × (now.faults ≡ before.faults)
Stops port before now stop.Failed = PortFailed port before.faults now.faults

-- the door failed
abbrev pub failed_by : Option Stop → Bool
failed_by None = false
failed_by (Some stop.End) = false
failed_by (Some stop.Failed) = true

-- THE DOOR GAVE ALL ITS LINKS, or as many as were asked for
abbrev pub IsAccepted : {H L Seen : Type 0} → (H → Type 0) → (H → Handed Seen) → (L → Shown) → Terms Seen → ℕ → ℕ
    → DoorShown L → DoorShown L → SeatTold Seen → List L → List (Work H L) → Option Stop → Type 0
IsAccepted keeps gets shows terms port most before now all lines works None =
    IsServing keeps gets shows terms port before now all lines works × (length lines ≡ most)
IsAccepted keeps gets shows terms port most before now all lines works (Some why) =
    HasStopped keeps gets shows terms port before now all lines works
    × (length lines < most) × Stops port before now why

-- THE RESULTS OF THE FIRST LINKS WERE TAKEN; the other links are being served or were served.
pub record IsGathering {H L Seen : Type 0} (keeps : H → Type 0) (gets : H → Handed Seen) (shows : L → Shown)
    (terms : Terms Seen) (start all : SeatTold Seen) (pipes : List Shown) (works : List (Work H L))
    (links : List ServedTold) : Type 0 where
  pub first : List Shown
  pub others : List Shown
  pub cut : pipes ≡ first ++ others
  pub taken : AreIn terms all 1 first links
  pub works_are : WorksAre keeps gets shows terms all (length first + 1) others works
  pub few : terms.fits all.seen
  pub next : all.next ≡ start.next
  pub idle : (x : ℕ) → IsIdle terms start x → IsIdle terms all x

-- The results of all links were taken. The number that the seat hands out next stays, and a number that had made no
-- call still has made none.
pub record IsGathered {Seen : Type 0} (terms : Terms Seen) (start all : SeatTold Seen)
    (pipes : List Shown) (links : List ServedTold) : Type 0 where
  pub taken : AreIn terms all 1 pipes links
  pub few : terms.fits all.seen
  pub next : all.next ≡ start.next
  pub idle : (x : ℕ) → IsIdle terms start x → IsIdle terms all x

-- SERVING IS OVER: all links were served. The seat represents each number that it handed out; the numbers that no link
-- has made no call.
pub record IsOver {Seen : Type 0} (terms : Terms Seen) (all : SeatTold Seen)
    (pipes : List Shown) (links : List ServedTold) : Type 0 where
  pub next : ℕ
  pub gives : all.next ≡ Some next
  pub idle : (x : ℕ) → (x ≡ 0) ⊎ ((length pipes < x) × (x < next)) → IsIdle terms all x
  pub few : terms.fits all.seen
  pub links_in : AreIn terms all 1 pipes links
