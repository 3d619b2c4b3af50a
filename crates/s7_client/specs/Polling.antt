-- What starting and polling do.
use Rattle.std.specs.Prelude.{◌≡◌, ◌⊎◌, ℕ, ◌+◌, ◌<◌, Bool, true, false, List, [], ◌++◌, Option, None, Some, option_map, IsSome, ◌-◌, if◌then◌else◌}
use Rattle.s7_outer.specs.Shown.{Shown}
use Rattle.s7_outer.specs.Count.{Rose}
use Rattle.s7_dialogue.specs.declared.config.Config.{Config}
use Rattle.s7_dialogue.specs.declared.job.Job.{Job}
use Rattle.s7_dialogue.specs.declared.job.JobResult.{JobResult}
use Rattle.s7_client.specs.declared.job.Polled.{Polled}
use Rattle.s7_client.specs.declared.job.Polled.TheVariants as polled
use Rattle.s7_dialogue.specs.declared.grant.Grant.{Grant}
use Rattle.s7_dialogue.specs.declared.grant.Leaves.{Leaves}
use Rattle.s7_dialogue.specs.declared.grant.Leaves.TheVariants as leaving
use Rattle.s7_dialogue.specs.Codes.{timed_out}
use Rattle.s7_client.specs.declared.under_way.UnderWay.{UnderWay}
use Rattle.s7_client.specs.declared.connection.Connection.{Connection}
use Rattle.s7_wire.specs.Bounds.{size_of_code}
use Rattle.s7_wire.specs.Reads.{size_at, held_by}
use Rattle.s7_client.specs.declared.channel.Channel.{Channel}
use Rattle.s7_dialogue.specs.Dialogue.{End, fault_end}
use Rattle.s7_dialogue.specs.Running.{IsResult, IsOver, awaited_in}
use Rattle.s7_dialogue.specs.Course.{Origin, begins_anew, course, for_nothing, asked_size_code}
use Rattle.s7_client.specs.At.{LeavesOpen, IsReading, IsClear, joiner_in, size_in}
use Rattle.s7_client.specs.Counts.{MetNotYetOnce, MetAsTold, WaitedAsTold, CountsPoll}
use Rattle.s7_client.specs.Standing.{Stands, Fits, IsBetween, Moves, IsOrderly, HasCause, HasMetNotYet, IsUnderWay, IsFault, unread, unsent}

-- the job that is outstanding, if there is one
abbrev pub job_of : Connection → Option Job
job_of c = option_map (λ (u : UnderWay). u.running.job) c.job

-- the number of its polls in which the link wasn't ready
abbrev pub waited_of : Connection → Option ℕ
waited_of c = option_map (λ (u : UnderWay). u.waited) c.job

abbrev pub config_of : Connection → Config
config_of c = c.config

-- what was granted; `None` on a client that isn't connected
abbrev pub grant_of : Connection → Option Grant
grant_of c = c.granted

abbrev pub granted_pdu : Connection → Option ℕ
granted_pdu c = option_map (λ (g : Grant). g.pdu) c.granted

abbrev pub closed_of : Connection → Bool
closed_of c = c.is_closed

-- the TPDU size of its link, and the sequence of the last numbered telegram
abbrev pub tpdu_size_of : Connection → ℕ
tpdu_size_of c = size_in c.channel.talk

abbrev pub sequence_of : Connection → ℕ
sequence_of c = c.channel.talk.sequence

-- the octets that were received and not used yet
abbrev pub unread_of : Connection → List ℕ
unread_of c = unread c.channel

-- the start of a job on this client
abbrev pub origin_at : Connection → Job → Origin
origin_at c job = record {
  job = job;
  config = c.config;
  granted = c.granted;
  size = tpdu_size_of c;
  sequence = sequence_of c;
}

-- The job of the client started at `origin`, and has used and transmitted these octets since then.
pub record StandsFor (c : Connection) (origin : Origin) (b written : List ℕ) : Type 0 where
  pub under_way : UnderWay
  pub is : c.job ≡ Some under_way
  pub config : origin.config ≡ c.config
  pub granted : origin.granted ≡ c.granted
  pub stands : Stands origin c.channel under_way b written

-- a client that isn't connected and has no job
pub record IsFresh (c : Connection) (asked : Config) : Type 0 where
  pub config : config_of c ≡ asked
  pub granted : grant_of c ≡ None
  pub closed : closed_of c ≡ false
  pub job : job_of c ≡ None
  pub unread : unread_of c ≡ []
  pub size : tpdu_size_of c ≡ size_of_code asked_size_code
  pub sequence : sequence_of c ≡ 0

-- ---- starting

-- The job was started, and has used and transmitted nothing. Octets that were received before and not used are
-- kept, unless the link begins anew.
pub record IsStarted (old new : Connection) (job : Job) : Type 0 where
  pub stands : StandsFor new (origin_at old job) [] []
  pub waited : waited_of new ≡ Some 0
  pub unread : unread_of new ≡ (if begins_anew (grant_of old) job then [] else unread_of old)
  pub config : config_of new ≡ config_of old
  pub granted : grant_of new ≡ grant_of old
  pub closed : closed_of new ≡ (if begins_anew (grant_of old) job then false else closed_of old)

-- ---- polling

-- what is granted after a job that ended in this way
abbrev pub grant_after : Leaves → Option Grant → Option Grant
grant_after leaving.AsItWas granted = granted
grant_after (leaving.Connected now) granted = Some now
grant_after leaving.Disconnected granted = None
grant_after leaving.Closed granted = None

-- whether the client is closed after a job that ended in this way
abbrev pub closed_after : Leaves → Bool → Bool
closed_after leaving.AsItWas closed = closed
closed_after (leaving.Connected now) closed = false
closed_after leaving.Disconnected closed = closed
closed_after leaving.Closed closed = true

-- the job timed out: the link wasn't ready in as many of its polls as allowed
pub record IsByPatience (origin : Origin) (link link' : Shown) (kept : List ℕ) (end : End) (carried b written : List ℕ)
    (waited : Option ℕ) : Type 0 where
  pub last : waited ≡ Some (origin.config.polls - 1)
  pub rose : Rose link.waits link'.waits
  pub met : HasMetNotYet origin kept link' b written
  pub under_way : IsUnderWay origin b written
  pub fault : IsFault timed_out end carried

-- the cause for which a job is done
abbrev pub IsDoneBy : Origin → Shown → Shown → List ℕ → End → List ℕ → List ℕ → List ℕ → Option ℕ → Type 0
IsDoneBy origin link link' kept end carried b written waited =
    HasCause origin link link' kept end carried b written
    ⊎ IsByPatience origin link link' kept end carried b written waited

-- the result of a job that started at `origin`, and has used and transmitted these octets
pub record IsDone (origin : Origin) (link link' : Shown) (old new : Connection) (told : JobResult)
    (b written : List ℕ) : Type 0 where
  pub end : End
  pub carried : List ℕ
  pub result : IsResult told origin.job end carried
  pub granted : grant_of new ≡ grant_after end.leaves (grant_of old)
  pub closed : closed_of new ≡ closed_after end.leaves (closed_of old)
  pub cause : IsDoneBy origin link link' (unread_of new) end carried b written (waited_of old)
  -- the start of the next job follows from these
  pub size : tpdu_size_of new ≡ (course origin b).size
  pub sequence : sequence_of new ≡ (course origin b).sequence

-- the job isn't done, and has used and transmitted these octets
pub record IsPending (origin : Origin) (link' : Shown) (new : Connection) (b written : List ℕ) : Type 0 where
  pub stands : StandsFor new origin b written
  pub met : HasMetNotYet origin (unread_of new) link' b written

-- the link wasn't ready in one more poll of the job
abbrev pub WaitsOnce : Option ℕ → Option ℕ → ℕ → Type 0
WaitsOnce (Some before) (Some now) polls = (now ≡ before + 1) × (now < polls)
WaitsOnce None (Some now) polls = ⊥
WaitsOnce (Some before) None polls = ⊥
WaitsOnce None None polls = ⊥

pub record Pends (old new : Connection) (link link' : Shown) : Type 0 where
  pub rose : Rose link.waits link'.waits
  pub waited : WaitsOnce (waited_of old) (waited_of new) (config_of old).polls
  pub granted : grant_of new ≡ grant_of old
  pub closed : closed_of new ≡ closed_of old

-- the effect of a poll by its result: the job is done, it goes on, or there was none. `used` and `written` are the
-- octets that the poll used and transmitted
abbrev pub Comes : Connection → Shown → Connection → Shown → List ℕ → List ℕ → Polled → Type 0
Comes old link new link' used written (polled.Done result) =
    (IsSome (job_of old)) × (job_of new ≡ None)
    × ((origin : Origin) (b w : List ℕ) → StandsFor old origin b w
    → IsDone origin link link' old new result (b ++ used) (w ++ written))
Comes old link new link' used written polled.Pending =
    Pends old new link link'
    × ((origin : Origin) (b w : List ℕ) → StandsFor old origin b w
    → IsPending origin link' new (b ++ used) (w ++ written))
Comes old link new link' used written polled.Idle =
    (job_of old ≡ None) × (new ≡ old) × (link' ≡ link)

pub record IsPoll (old : Connection) (link : Shown) (new : Connection) (link' : Shown) (result : Polled) : Type 0 where
  pub moves : Moves (unread_of old) link (unread_of new) link'
  -- the poll kept an order: it used octets only when all was sent, and received only when no received octet was
  -- unused
  pub orderly : (origin : Origin) (b w : List ℕ) → StandsFor old origin b w
      → IsOrderly origin (unread_of old) b w moves
  pub config : config_of new ≡ config_of old
  -- the poll made no further call of the link after it failed, wasn't ready, or its stream had ended
  pub counts : CountsPoll result link link'
  pub comes : Comes old link new link' moves.used moves.written result

-- ---- the client's side of the link

-- a link on which nothing was sent or received
pub record IsNew (l : Channel) : Type 0 where
  pub reads : IsReading l.talk.reader
  pub size : size_at l.talk.reader ≡ None
  pub held : held_by l.talk.reader ≡ []
  pub clear : IsClear (joiner_in l.talk)
  pub sequence : l.talk.sequence ≡ 0
  pub sent : unsent l ≡ []
  pub unread : unread l ≡ []

-- ---- the parts of a poll

-- the link wasn't ready in a poll: the job goes on, or has timed out
pub record Waits (u u' : UnderWay) (polls : ℕ) (goes_on : Bool) : Type 0 where
  pub same : goes_on ≡ true → u' ≡ record u { waited = u.waited + 1 }
  pub patient : goes_on ≡ true → u.waited + 1 < polls
  pub last : goes_on ≡ false → u.waited + 1 ≡ polls
  pub fails : goes_on ≡ false → awaited_in u'.running [] ≡ for_nothing (fault_end timed_out) []
  pub over : goes_on ≡ false → IsOver u'.running.stage
  pub job : u'.running.job ≡ u.running.job
  pub carried : u'.carried ≡ u.carried

-- the job goes on after this round of steps
pub record RoundGoesOn (l : Channel) (u : UnderWay) (link : Shown) (l' : Channel) (u' : UnderWay) (link' : Shown)
    (config : Config) (granted : Option Grant) : Type 0 where
  pub moves : Moves (unread l) link (unread l') link'
  pub fits : Fits l' u'
  pub counts : MetNotYetOnce link link'
  pub waited : u'.waited ≡ u.waited + 1
  pub patient : u'.waited < config.polls
  pub orderly : (origin : Origin) (b w : List ℕ) → origin.config ≡ config → origin.granted ≡ granted
      → Stands origin l u b w
      → IsOrderly origin (unread l) b w moves
  pub stood : (origin : Origin) (b w : List ℕ) → origin.config ≡ config → origin.granted ≡ granted
      → Stands origin l u b w
      → Stands origin l' u' (b ++ moves.used) (w ++ moves.written)
      × HasMetNotYet origin (unread l') link' (b ++ moves.used) (w ++ moves.written)

-- how a job ended
pub record EndsBy (origin : Origin) (link link' : Shown) (l : Channel) (u : UnderWay) (b written : List ℕ)
    (waited : ℕ) : Type 0 where
  pub end : End
  pub carried : List ℕ
  pub ends_as : awaited_in u.running [] ≡ for_nothing end []
  pub carries : u.carried.octets ≡ carried
  pub size : size_in l.talk ≡ (course origin b).size
  pub sequence : l.talk.sequence ≡ (course origin b).sequence
  pub job : u.running.job ≡ origin.job
  pub cause : IsDoneBy origin link link' (unread l) end carried b written (Some waited)

-- the job is over after this round of steps
pub record RoundEnds (l : Channel) (u : UnderWay) (link : Shown) (l' : Channel) (u' : UnderWay) (link' : Shown)
    (config : Config) (granted : Option Grant) : Type 0 where
  pub moves : Moves (unread l) link (unread l') link'
  pub over : IsOver u'.running.stage
  pub left : LeavesOpen u'.running.stage → IsBetween l'
  pub counts : (end : End) → awaited_in u'.running [] ≡ for_nothing end []
      → MetAsTold end.code link link' × WaitedAsTold 1 end.code link link'
  pub orderly : (origin : Origin) (b w : List ℕ) → origin.config ≡ config → origin.granted ≡ granted
      → Stands origin l u b w
      → IsOrderly origin (unread l) b w moves
  pub ends_by : (origin : Origin) (b w : List ℕ) → origin.config ≡ config → origin.granted ≡ granted
      → Stands origin l u b w
      → EndsBy origin link link' l' u' (b ++ moves.used) (w ++ moves.written) u.waited

abbrev pub Round : Channel → UnderWay → Shown → Channel → UnderWay → Shown → Config → Option Grant → Bool → Type 0
Round l u link l' u' link' config granted true = RoundGoesOn l u link l' u' link' config granted
Round l u link l' u' link' config granted false = RoundEnds l u link l' u' link' config granted

-- a job that has read nothing yet
pub record IsBlank (u : UnderWay) : Type 0 where
  pub carried : u.carried.octets ≡ []
  pub room : u.carried.room ≡ 8192
  pub waited : u.waited ≡ 0
