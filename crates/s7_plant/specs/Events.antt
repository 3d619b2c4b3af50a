-- Events: what observers are notified of, one for each call of a history.
use Rattle.std.specs.Prelude.{◌≡◌, ℕ, ◌+◌, ◌≤◌, List, [], ◌∷◌, length, drop}
use Rattle.std.specs.List.{AllByRecursion}
use Rattle.s7_turn.specs.declared.view.Entry.{Entry as Call}
use Rattle.s7_plant.specs.declared.event.Event.{Event}
use Rattle.s7_plant.specs.declared.request.Ask.{Ask}
use Rattle.s7_plant.specs.declared.request.Request.{Request}
use Rattle.s7_plant.specs.declared.request.Request.TheVariants.{Read, Write, Szl, ClockRead, ClockSet}
use Rattle.s7_plant.specs.declared.request.Request.TheVariants.{Start, Stop, Compress, CopyRam, ListAll, ListOf, Info}
use Rattle.s7_plant.specs.declared.request.Request.TheVariants.{StartUpload, Insert, Delete}
use Rattle.s7_plant.specs.Answers.{answer_of}
use Rattle.s7_plant.specs.Journals.{after_call}
use Rattle.s7_plant.specs.Observers.{Watch, fresh, told}
use Rattle.s7_plant.specs.State.{State}

-- the code of a request, one bit for each group of requests (Snap7 1.4 reference manual, `Srv_SetMask`)
abbrev pub code_of : Request → ℕ
code_of (Read items) = 0x0002_0000
code_of (Write items places octets) = 0x0004_0000
code_of (Szl id index) = 0x0010_0000
code_of (ClockRead moment) = 0x0020_0000
code_of (ClockSet moment value) = 0x0020_0000
code_of (StartUpload kind number) = 0x0040_0000
code_of (Insert kind number image spare) = 0x0080_0000
code_of ListAll = 0x0100_0000
code_of (ListOf kind) = 0x0100_0000
code_of (Info kind number) = 0x0100_0000
code_of (Start cold) = 0x0400_0000
code_of Stop = 0x0400_0000
code_of Compress = 0x0400_0000
code_of CopyRam = 0x0400_0000
code_of (Delete kind number) = 0x0400_0000

-- the event of a call in this state; the call becomes the entry of this number
abbrev pub event_at : State → ℕ → Call Ask → Event
event_at s number call = record {
  number = number;
  link = call.caller;
  code = code_of call.request.request;
  error = (answer_of s call.request).error;
}

-- the events of calls; the first call is the entry of this number
abbrev pub events_from : State → ℕ → List (Call Ask) → List Event
events_from s number [] = []
events_from s number (call ∷ calls) = event_at s number call ∷ events_from (after_call s call) (number + 1) calls

-- THE EVENTS of a history that begins at this state
abbrev pub events : State → List (Call Ask) → List Event
events s history = events_from s 0 history

-- An observer of a book that began at a state and has this history: it was notified of all events since it came, in
-- order and of each once, and of nothing else.
pub record IsTold (opening : State) (history : List (Call Ask)) (w : Watch) : Type 0 where
  pub since : w.since ≤ length history
  pub told : w.seen ≡ told (fresh w.seen) (drop w.since (events opening history))

abbrev pub AreTold : State → List (Call Ask) → List Watch → Type 0
AreTold opening history watches = AllByRecursion (IsTold opening history) watches
