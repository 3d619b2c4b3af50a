-- Requests: which of them are ready to be carried out, and what a history keeps of them.
use Rattle.std.specs.Prelude.{◌≡◌, ℕ, ◌+◌, ◌≤◌, Bool, true, [], length, All}
use Rattle.s7_item.specs.declared.places.DataPlace.{DataPlace}
use Rattle.s7_item.specs.Sizes.{answer_size}
use Rattle.s7_outer.specs.Held.{Held}
use Rattle.s7_clock.specs.Moment.{IsHeld}
use Rattle.s7_block.specs.Kinds.{is_stored_kind}
use Rattle.s7_block.specs.Heads.{head_agrees}
use Rattle.s7_plant.specs.declared.request.Ask.{Ask}
use Rattle.s7_plant.specs.declared.request.Request.{Request}
use Rattle.s7_plant.specs.declared.request.Request.TheVariants.{Read, Write, Szl, ClockRead, ClockSet}
use Rattle.s7_plant.specs.declared.request.Request.TheVariants.{Start, Stop, Compress, CopyRam, ListAll, ListOf, Info}
use Rattle.s7_plant.specs.declared.request.Request.TheVariants.{StartUpload, Insert, Delete}
use Rattle.s7_plant.specs.Replies.{Said}

-- ---- what a link asks with

abbrev pub asked : Bool → Request → Ask
asked right request = record { right = right; request = request }

-- a buffer without room
abbrev pub no_room : Held
no_room = record { octets = []; room = 0 }

-- The request as a history keeps it: the room that an insert brought is used up. Neither the answer to a request nor
-- its change depends on that room.
abbrev pub kept_request : Request → Request
kept_request (Read items) = Read items
kept_request (Write items places octets) = Write items places octets
kept_request (Szl id index) = Szl id index
kept_request (ClockRead moment) = ClockRead moment
kept_request (ClockSet moment value) = ClockSet moment value
kept_request (Start cold) = Start cold
kept_request Stop = Stop
kept_request Compress = Compress
kept_request CopyRam = CopyRam
kept_request ListAll = ListAll
kept_request (ListOf kind) = ListOf kind
kept_request (Info kind number) = Info kind number
kept_request (StartUpload kind number) = StartUpload kind number
kept_request (Insert kind number image spare) = Insert kind number image no_room
kept_request (Delete kind number) = Delete kind number

abbrev pub kept : Ask → Ask
kept ask = asked ask.right (kept_request ask.request)

-- ---- what can be carried out

-- A read's answer has at most 8,192 octets, this profile's own limit. A write has one range for each item, inside its
-- octets. A clock is set to a moment that clock octets can represent. A block that is inserted is of a kind that is
-- stored, with a head that agrees with its name. Every other request can be carried out.
abbrev pub IsReady : Request → Type 0
IsReady (Read items) = answer_size items ≤ 8192
IsReady (Write items places octets) =
    (length places ≡ length items)
    × All (λ (place : DataPlace). place.from + place.len ≤ length octets) places
IsReady (Szl id index) = Unit {0}
IsReady (ClockRead moment) = Unit {0}
IsReady (ClockSet moment value) = IsHeld value
IsReady (Start cold) = Unit {0}
IsReady Stop = Unit {0}
IsReady Compress = Unit {0}
IsReady CopyRam = Unit {0}
IsReady ListAll = Unit {0}
IsReady (ListOf kind) = Unit {0}
IsReady (Info kind number) = Unit {0}
IsReady (StartUpload kind number) = Unit {0}
IsReady (Insert kind number image spare) = (is_stored_kind kind ≡ true) × (head_agrees image kind number ≡ true)
IsReady (Delete kind number) = Unit {0}

-- the request brings the room that its change uses: an insert brings room for the copy of its image
abbrev pub HasSpare : Request → Type 0
HasSpare (Read items) = Unit {0}
HasSpare (Write items places octets) = Unit {0}
HasSpare (Szl id index) = Unit {0}
HasSpare (ClockRead moment) = Unit {0}
HasSpare (ClockSet moment value) = Unit {0}
HasSpare (Start cold) = Unit {0}
HasSpare Stop = Unit {0}
HasSpare Compress = Unit {0}
HasSpare CopyRam = Unit {0}
HasSpare ListAll = Unit {0}
HasSpare (ListOf kind) = Unit {0}
HasSpare (Info kind number) = Unit {0}
HasSpare (StartUpload kind number) = Unit {0}
HasSpare (Insert kind number image spare) = length image ≤ spare.room
HasSpare (Delete kind number) = Unit {0}

-- what a step needs; a request from a history needs readiness alone
pub record CanBeDone (request : Request) : Type 0 where
  pub ready : IsReady request
  pub spare : HasSpare request

-- ---- how long its answer is

-- if the reply has no error, the telegram made of it has at most this number of octets
abbrev pub HasAtMost : ℕ → Said → Type 0
HasAtMost most reply = reply.error ≡ 0 → 12 + length reply.params + length reply.body ≤ most

-- if the reply has no error, its body has at most this number of octets; answers to user data are cut from it
abbrev pub HasBody : ℕ → Said → Type 0
HasBody most reply = reply.error ≡ 0 → length reply.body ≤ most

-- if the reply has no error, it has the 16 octets of an upload's start (after Snap7 1.4 sources, s7_types.h:
-- TResFunStartUploadParams) and an image of at most 65,572 octets
abbrev pub HasImage : Said → Type 0
HasImage reply = reply.error ≡ 0 → (length reply.params ≡ 16) × (length reply.body ≤ 65572)

-- The telegram that is made of the reply is at most as long as the full answer to this request. The full answer to a
-- control is the function and a status. An answer to user data has at most 8,192 octets.
abbrev pub Fits : Request → Said → Type 0
Fits (Read items) reply = HasAtMost (answer_size items) reply
Fits (Write items places octets) reply = HasAtMost (14 + length items) reply
Fits (Szl id index) reply = HasBody 8192 reply
Fits (ClockRead moment) reply = HasBody 8192 reply
Fits (ClockSet moment value) reply = HasBody 8192 reply
Fits (Start cold) reply = HasAtMost 14 reply
Fits Stop reply = HasAtMost 14 reply
Fits Compress reply = HasAtMost 14 reply
Fits CopyRam reply = HasAtMost 14 reply
Fits ListAll reply = HasBody 8192 reply
Fits (ListOf kind) reply = HasBody 8192 reply
Fits (Info kind number) reply = HasBody 8192 reply
Fits (StartUpload kind number) reply = HasImage reply
Fits (Insert kind number image spare) reply = HasAtMost 14 reply
Fits (Delete kind number) reply = HasAtMost 14 reply
