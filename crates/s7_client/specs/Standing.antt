-- The octets that a client's job has used and transmitted, what the client holds for them, and what its polls do.
use Rattle.std.specs.Prelude.{◌≡◌, ◌⊎◌, ℕ, ◌+◌, ◌-◌, ◌*◌, ◌<◌, ◌≤◌, List, [], ◌++◌, length, Option, None, Some, IsSome, option_map, IsTrue}
use Rattle.std.specs.Io.KnownBytes.{prepend_known, append_known, IsAtEnd}
use Rattle.s7_outer.specs.Shown.{Shown}
use Rattle.s7_outer.specs.Count.{Rose}
use Rattle.s7_tpkt.specs.Packets.{HoldsRest}
use Rattle.s7_wire.specs.Bounds.{most_waiting}
use Rattle.s7_wire.specs.Reads.{size_at, held_by}
use Rattle.s7_dialogue.specs.declared.config.Config.{Config}
use Rattle.s7_dialogue.specs.declared.grant.Grant.{Grant}
use Rattle.s7_dialogue.specs.Codes.{link_ended, send_failed, receive_failed}
use Rattle.s7_dialogue.specs.declared.stages.running.Running.{Running}
use Rattle.s7_client.specs.declared.channel.Channel.{Channel}
use Rattle.s7_client.specs.declared.under_way.UnderWay.{UnderWay}
use Rattle.s7_client.specs.declared.channel.Step.{Step}
use Rattle.s7_client.specs.declared.channel.Step.TheVariants as step
use Rattle.s7_dialogue.specs.Dialogue.{End, fault_end}
use Rattle.s7_dialogue.specs.Running.{awaited_in, IsOver, IsOpening}
use Rattle.s7_dialogue.specs.Course.{Origin, for_departure, for_nothing, conduct_of, course, may_send, limits}
use Rattle.s7_client.specs.At.{IsAt, IsReading, IsClear, LeavesOpen, budget, pending, joiner_in, size_in}
pub use Rattle.s7_client.specs.Order.{AwaitsOctets}
use Rattle.s7_client.specs.Counts.{MetNothing, MetNotYetOnce, MetAsTold}
use Rattle.s7_client.specs.Order.{Deed, transmitted_in, used_in, received_in, AreInOrder}

abbrev pub unread : Channel → List ℕ
unread l = l.inbox

abbrev pub unsent : Channel → List ℕ
unsent l = l.talk.outbox.unsent

abbrev pub IsPrefixOf : List ℕ → List ℕ → Type 0
IsPrefixOf front all = (rest : List ℕ) × (all ≡ front ++ rest)

-- all that could be sent was transmitted before the next octet was used
abbrev pub SentFirst : Origin → List ℕ → List ℕ → Type 0
SentFirst origin b written =
    (front rest : List ℕ) → b ≡ front ++ rest → 0 < length rest → IsPrefixOf (may_send origin front) written

-- each octet was used while octets were awaited; so none was used after those that ended the job
abbrev pub AllAwaited : Origin → List ℕ → Type 0
AllAwaited origin b =
    (front rest : List ℕ) → b ≡ front ++ rest → 0 < length rest → AwaitsOctets (course origin front).awaits

-- The client's job has used and transmitted these octets: the client is at the position of the course after them,
-- and what is still to be sent is what may be sent beyond what was transmitted.
pub record Stands (origin : Origin) (l : Channel) (u : UnderWay) (b written : List ℕ) : Type 0 where
  pub at : IsAt origin (course origin b) l.talk u
  pub owed : may_send origin b ≡ written ++ pending origin.config l.talk u.running
  pub rest : (IsOver u.running.stage → ⊥) → HoldsRest (limits origin) b l.talk.reader.cutter
  pub sent_first : SentFirst origin b written
  pub all_awaited : AllAwaited origin b

-- a link between two messages
pub record IsBetween (l : Channel) : Type 0 where
  pub reads : IsReading l.talk.reader
  pub sized : IsSome (size_at l.talk.reader)
  pub held : held_by l.talk.reader ≡ []
  pub clear : IsClear (joiner_in l.talk)
  pub sent : unsent l ≡ []

-- what is true of a channel and its job, whatever the course is
pub record Fits (l : Channel) (u : UnderWay) : Type 0 where
  pub reads : (IsOver u.running.stage → ⊥) → IsReading l.talk.reader
  -- the confirm has come, unless it is awaited
  pub unsized : IsOpening u.running.stage → size_at l.talk.reader ≡ None
  pub sized : (IsOver u.running.stage → ⊥) → (IsOpening u.running.stage → ⊥) → IsSome (size_at l.talk.reader)
  pub opening : IsOpening u.running.stage → IsClear (joiner_in l.talk)
  pub between : LeavesOpen u.running.stage → IsBetween l
  pub many : (IsOver u.running.stage → ⊥) → (joiner_in l.talk).count ≤ 64
  pub few : length (unsent l) ≤ most_waiting
  pub quiet : IsOver u.running.stage → unsent l ≡ []
  pub carried : u.carried.room ≡ 8192

-- ---- the causes of an end: which end, and which message that is no answer

-- the octets used end the job, and every telegram was transmitted
pub record IsByOctets (origin : Origin) (end : End) (carried b written : List ℕ) : Type 0 where
  pub over : (course origin b).awaits ≡ for_nothing end carried
  pub sent : written ≡ may_send origin b
  pub all_awaited : AllAwaited origin b

-- the disconnect request was transmitted
pub record IsByDeparture (origin : Origin) (end : End) (carried b written : List ℕ) : Type 0 where
  pub awaited : (course origin b).awaits ≡ for_departure
  pub is : end ≡ (conduct_of origin).ended []
  pub none : carried ≡ []
  pub sent : written ≡ may_send origin b
  pub all_awaited : AllAwaited origin b

-- all was sent, no received octet is unused, and octets are awaited
pub record IsWaiting (origin : Origin) (kept b written : List ℕ) : Type 0 where
  pub awaits : AwaitsOctets (course origin b).awaits
  pub sent : written ≡ may_send origin b
  pub none : kept ≡ []

-- an end with this error number, without a message
abbrev pub IsFault : ℕ → End → List ℕ → Type 0
IsFault code end carried = (end ≡ fault_end code) × (carried ≡ [])

-- the stream ended while octets were awaited
pub record IsByEnd (origin : Origin) (link' : Shown) (kept : List ℕ) (end : End)
    (carried b written : List ℕ) : Type 0 where
  pub waiting : IsWaiting origin kept b written
  pub at_end : IsAtEnd link'.left
  pub has_ended : IsTrue link'.has_ended
  pub fault : IsFault link_ended end carried

-- the link failed at a receive
pub record IsByReceive (origin : Origin) (link link' : Shown) (kept : List ℕ) (end : End)
    (carried b written : List ℕ) : Type 0 where
  pub waiting : IsWaiting origin kept b written
  pub rose : Rose link.faults link'.faults
  pub fault : IsFault receive_failed end carried

-- the link failed at a transmit
pub record IsBySend (origin : Origin) (link link' : Shown) (end : End) (carried b written : List ℕ) : Type 0 where
  pub rest : List ℕ
  pub some : 0 < length rest
  pub unsent : may_send origin b ≡ written ++ rest
  pub sent_first : SentFirst origin b written
  pub all_awaited : AllAwaited origin b
  pub rose : Rose link.faults link'.faults
  pub fault : IsFault send_failed end carried

-- the end has one of the causes above; `kept` are the octets that were received and are unused
abbrev pub HasCause : Origin → Shown → Shown → List ℕ → End → List ℕ → List ℕ → List ℕ → Type 0
HasCause origin link link' kept end carried b written =
    IsByOctets origin end carried b written
    ⊎ IsByDeparture origin end carried b written
    ⊎ IsByEnd origin link' kept end carried b written
    ⊎ IsByReceive origin link link' kept end carried b written
    ⊎ IsBySend origin link link' end carried b written

-- the job is over, and its end has its cause
pub record HasEnded (origin : Origin) (link link' : Shown) (l : Channel) (u : UnderWay) (b written : List ℕ) : Type 0 where
  pub end : End
  pub carried : List ℕ
  pub ends_as : awaited_in u.running [] ≡ for_nothing end []
  pub carries : u.carried.octets ≡ carried
  -- the job, and what remains of its link
  pub job : u.running.job ≡ origin.job
  pub size : size_in l.talk ≡ (course origin b).size
  pub sequence : l.talk.sequence ≡ (course origin b).sequence
  pub cause : HasCause origin link link' (unread l) end carried b written

-- ---- steps of a poll

-- What steps did to a link, and to the octets that were received and are unused, whatever the number of steps.
pub record Moves (kept : List ℕ) (link : Shown) (kept' : List ℕ) (link' : Shown) : Type 0 where
  -- the octets that were received, used and transmitted
  pub received : List ℕ
  pub used : List ℕ
  pub written : List ℕ
  pub took : link.left ≡ prepend_known received link'.left
  pub wrote : link'.written ≡ append_known link.written written
  pub inbox : kept ++ received ≡ used ++ kept'
  pub faults : link.faults ≤ link'.faults
  pub waits : link.waits ≤ link'.waits
  pub moment : link'.moment ≡ link.moment
  pub clock_faults : link'.clock_faults ≡ link.clock_faults
  pub looks : link'.looks ≡ link.looks
  pub lent : link'.lent ≡ link.lent
  pub shut : link'.shut ≡ link.shut
  pub space : link'.space ≡ option_map (λ space. space - length written) link.space

-- What the steps moved consists of deeds in order. Before them the job had used `b`, transmitted `w`, and received the
-- octets `kept` without using them.
pub record IsOrderly (origin : Origin) (kept b w : List ℕ) {link : Shown} {kept' : List ℕ} {link' : Shown}
    (moves : Moves kept link kept' link') : Type 0 where
  pub deeds : List Deed
  pub written : transmitted_in deeds ≡ moves.written
  pub used : used_in deeds ≡ moves.used
  pub received : received_in deeds ≡ moves.received
  pub order : AreInOrder origin kept b w deeds

-- The link wasn't ready for the job: if it shows its space, there is none for what is still to be sent, or nothing
-- is left to receive.
pub record HasMetNotYet (origin : Origin) (kept : List ℕ) (link : Shown) (b written : List ℕ) : Type 0 where
  pub full : (rest : List ℕ) (space : ℕ) → may_send origin b ≡ written ++ rest → 0 < length rest
      → link.space ≡ Some space → space ≡ 0
  pub empty : (space : ℕ) → may_send origin b ≡ written → link.space ≡ Some space → link.left ≡ Some []
  -- if all was sent, octets are awaited and none is unused
  pub waiting : may_send origin b ≡ written → IsWaiting origin kept b written

-- The job isn't over: what was transmitted is a prefix of what may be sent, and no answer was used before its
-- telegram was transmitted.
pub record IsUnderWay (origin : Origin) (b written : List ℕ) : Type 0 where
  pub owed : IsPrefixOf written (may_send origin b)
  pub sent_first : SentFirst origin b written
  pub all_awaited : AllAwaited origin b
  pub goes_on : (end : End) (carried : List ℕ) → (course origin b).awaits ≡ for_nothing end carried → ⊥

-- an upper bound of what a job can still do: octets to use, and then octets to send, which are fewer than 16,384
-- after a packet
abbrev pub work : Config → Channel → UnderWay → ℕ
work config l u =
    budget u.running.stage (joiner_in l.talk).count (length (held_by l.talk.reader)) * 16384
    + length (pending config l.talk u.running)

-- the faults of the link and the end of its stream are those that the end of the job states
abbrev pub EndsAsTold : Running → Shown → Shown → Type 0
EndsAsTold r link link' =
    (end : End) → awaited_in r [] ≡ for_nothing end [] → MetAsTold end.code link link'

-- how the counts of the link change in a step, which calls the link at most once
abbrev pub CountsStep : Step → Running → Shown → Shown → Type 0
CountsStep step.Went r link link' = MetNothing link link'
CountsStep step.NotYet r link link' = MetNotYetOnce link link'
CountsStep step.Over r link link' = (link'.waits ≡ link.waits) × EndsAsTold r link link'

-- the effect of one step
pub record IsStep (l : Channel) (u : UnderWay) (link : Shown) (l' : Channel) (u' : UnderWay) (link' : Shown)
    (config : Config) (granted : Option Grant) (result : Step) : Type 0 where
  pub moves : Moves (unread l) link (unread l') link'
  pub fits : (result ≡ step.Over → ⊥) → Fits l' u'
  pub left : LeavesOpen u'.running.stage → IsBetween l'
  pub waited : u'.waited ≡ u.waited
  pub stood : (origin : Origin) (b w : List ℕ) → origin.config ≡ config → origin.granted ≡ granted
      → Stands origin l u b w
      → (result ≡ step.Over → ⊥) → Stands origin l' u' (b ++ moves.used) (w ++ moves.written)
  pub orderly : (origin : Origin) (b w : List ℕ) → origin.config ≡ config → origin.granted ≡ granted
      → Stands origin l u b w
      → IsOrderly origin (unread l) b w moves
  pub less : result ≡ step.Went → work config l' u' < work config l u
  pub met : (origin : Origin) (b w : List ℕ) → origin.config ≡ config → origin.granted ≡ granted → Stands origin l u b w
      → result ≡ step.NotYet → HasMetNotYet origin (unread l') link' (b ++ moves.used) (w ++ moves.written)
  pub over : result ≡ step.Over → IsOver u'.running.stage
  pub cause : (origin : Origin) (b w : List ℕ) → origin.config ≡ config → origin.granted ≡ granted
      → Stands origin l u b w
      → result ≡ step.Over → HasEnded origin link link' l' u' (b ++ moves.used) (w ++ moves.written)

-- what is done when octets that were received are used, up to the end of one packet
pub record Consumes (l : Channel) (u : UnderWay) (l' : Channel) (u' : UnderWay) (config : Config)
    (granted : Option Grant) : Type 0 where
  pub used : List ℕ
  pub some : 0 < length used
  pub inbox : unread l ≡ used ++ unread l'
  pub fits : Fits l' u'
  pub waited : u'.waited ≡ u.waited
  pub stood : (origin : Origin) (b w : List ℕ) → origin.config ≡ config → origin.granted ≡ granted
      → Stands origin l u b w
      → Stands origin l' u' (b ++ used) w
  pub less : work config l' u' < work config l u
