-- Laws of jobs that are started.
use Rattle.std.proofs.Common.{◌≡◌, ℕ, ◌<◌, Bool, true, false, List, [], ◌++◌, length, length-append, refl, ap, sym, ◌∙◌, subst, arith}
use Rattle.std.specs.Prelude.{Option, None, Some, IsSome, if◌then◌else◌, option_map, unwrap_or}
use Rattle.s7_tpkt.specs.Packets.{packets_of, rest_of}
use Rattle.s7_wire.specs.Reading.{Progress, start, reading}
use Rattle.s7_wire.specs.Reads.{HasRead, opens_by, ended_with, size_at, unfinished_in, held_by}
use Rattle.s7_wire.specs.declared.found.Opening.{Opening}
use Rattle.s7_wire.specs.declared.found.Opening.TheVariants.{Confirm}
use Rattle.s7_wire.specs.declared.reader.Reader.{Reader}
use Rattle.s7_dialogue.specs.declared.config.Config.{Config}
use Rattle.s7_dialogue.specs.declared.job.Job.{Job}
use Rattle.s7_dialogue.specs.declared.job.Job.TheVariants as job
use Rattle.s7_dialogue.specs.declared.grant.Grant.{Grant}
use Rattle.s7_dialogue.specs.declared.grant.Leaves.TheVariants.{Disconnected}
use Rattle.s7_dialogue.specs.declared.stages.running.Stage.{Stage}
use Rattle.s7_dialogue.specs.declared.stages.running.Stage.TheVariants as stage
use Rattle.s7_dialogue.specs.declared.stages.running.Running.{Running}
use Rattle.s7_client.specs.declared.talk.Talk.{Talk}
use Rattle.s7_client.specs.declared.channel.Channel.{Channel}
use Rattle.s7_client.specs.declared.under_way.UnderWay.{UnderWay}
use Rattle.s7_client.specs.declared.connection.Connection.{Connection}
use Rattle.s7_dialogue.specs.Codes.{not_connected}
use Rattle.s7_dialogue.specs.Dialogue.{End, First, nothing, connect_request, disconnect_request, number_end, Plan, over, plan_of}
use Rattle.s7_dialogue.specs.Running.{awaited_in, awaited_by, Begins, BeginsAt, IsOver, IsOpening}
use Rattle.s7_dialogue.specs.Course.{Origin, for_nothing, begun, by_first, blank, conduct_of, limits, begins_anew, size_at as size_of_link, sequence_at, nothing_unfinished}
use Rattle.s7_client.specs.At.{IsAt, IsReading, IsClear, LeavesOpen, StartsAt, BeginsTalk, joiner_in, size_in}
use Rattle.s7_client.specs.Standing.{Fits, IsBetween, unread, unsent}
use Rattle.s7_client.specs.Polling.{IsStarted, IsNew, IsBlank, origin_at}
use Rattle.s7_dialogue.proofs.FlightLemmas.{asks_on}
use Rattle.s7_client.proofs.BeginLemmas.{begun_by, silent_asked}
use Rattle.s7_client.proofs.PacketLemmas.{left_by, over_not_opening}
use Rattle.s7_client.proofs.PlanLemmas.{plan_opens, plan_anew}
use Rattle.s7_client.proofs.StepLemmas.{clear_as, nothing_as, left_over, limit_here}
use Rattle.s7_client.proofs.TurnLemmas.{limit_read}
use Rattle.s7_client.proofs.CourseLemmas.{course_nothing, holds_nothing}

-- ---- the beginning of a course

first_unfinished : (origin : Origin) (first : First)
    → (by_first origin.config (conduct_of origin) (blank origin) first).unfinished ≡ nothing_unfinished
first_unfinished origin nothing = (asks_on (conduct_of origin).width (conduct_of origin) (blank origin)).unfinished
first_unfinished origin connect_request = refl
first_unfinished origin disconnect_request = refl

begun_unfinished : (origin : Origin) → (begun origin).unfinished ≡ nothing_unfinished
unfolding begun
begun_unfinished origin = first_unfinished origin (plan_of origin.job origin.config origin.granted).first

-- the client stands at the beginning of the course
begun_at : (origin : Origin) (l : Channel) (u : UnderWay) → u.running.job ≡ origin.job → IsBlank u
    → StartsAt origin (begun origin) l.talk u.running
    → ((IsOver u.running.stage → ⊥) → unfinished_in (joiner_in l.talk) ≡ nothing_unfinished)
    → IsAt origin (begun origin) l.talk u
begun_at origin l u done blank_ starts unfinished = record {
  job = done;
  size = starts.size;
  sequence = starts.sequence;
  unfinished = λ h. unfinished h ∙ sym (begun_unfinished origin);
  awaits = starts.awaits ∙ ap (awaited_in u.running) (sym blank_.carried);
  opens = starts.opens;
  follows = starts.follows;
  departs = starts.departs;
  silent = λ h. blank_.carried;
}

none_in_nothing : (front rest : List ℕ) → [] ≡ front ++ rest → 0 < length rest → ⊥
none_in_nothing front rest e some = omega (arith, ap length e, length-append front rest, some)

-- the link is between two messages where a job begins, and its confirm has come but where it is awaited
pub record IsReady (t : Talk) (s : Stage) : Type 0 where
  pub reads : IsReading t.reader
  pub held : held_by t.reader ≡ []
  pub clear : IsClear (joiner_in t)
  pub unsized : IsOpening s → size_at t.reader ≡ None
  pub sized : (IsOpening s → ⊥) → IsSome (size_at t.reader)

-- a job was started
started : (old new : Connection) (done : Job) (u : UnderWay) → new.job ≡ Some u → u.running.job ≡ done → IsBlank u
    → StartsAt (origin_at old done) (begun (origin_at old done)) new.channel.talk u.running
    → new.config ≡ old.config → new.granted ≡ old.granted
    → unread new.channel ≡ (if begins_anew old.granted done then [] else unread old.channel)
    → new.is_closed ≡ (if begins_anew old.granted done then false else old.is_closed)
    → ((IsOver u.running.stage → ⊥) → IsReady new.channel.talk u.running.stage)
    → IsStarted old new done
started old new done u is same blank_ starts config granted inbox closed ready =
    let origin = origin_at old done in
    let at = begun_at origin new.channel u same blank_ starts
    (λ h. nothing_as new.channel.talk.reader (ready h).clear) in
    let nothing_used = course_nothing origin in
    record {
      stands = record {
        under_way = u;
        is = is;
        config = sym config;
        granted = sym granted;
        stands = record {
          at = subst (λ c. IsAt origin c new.channel.talk u) (sym nothing_used) at;
          owed = ap (λ c. c.out) nothing_used ∙ starts.out;
          rest = λ h.
              let k = ready h in
              holds_nothing (limits origin) new.channel.talk.reader.cutter k.held
              (limit_read new.channel.talk.reader k.reads
              ∙ sym (limit_here (begun origin) new.channel.talk u.running [] starts.awaits starts.size h k.unsized
              k.sized));
          sent_first = λ front rest e some. absurd (none_in_nothing front rest e some);
          all_awaited = λ front rest e some. absurd (none_in_nothing front rest e some);
        };
      };
      waited = ap (option_map (λ (x : UnderWay). x.waited)) is ∙ ap Some blank_.waited;
      unread = inbox;
      config = config;
      granted = granted;
      closed = closed;
    }

-- ---- where a channel begins a job

starts_where : (old : Connection) (t t' : Talk) (r r' : Running) (anew : Bool) → begins_anew old.granted r.job ≡ anew
    → size_in t ≡ size_of_link anew (size_in old.channel.talk) → t.sequence ≡ sequence_at anew old.channel.talk.sequence
    → Begins r old.config old.granted → BeginsTalk old.config t r t' r'
    → StartsAt (origin_at old r.job) (begun (origin_at old r.job)) t' r'
starts_where old t t' r r' anew is size sequence begins b =
    b.starts (origin_at old r.job) refl refl (size ∙ ap (λ x. size_of_link x (size_in old.channel.talk)) (sym is))
    (sequence ∙ ap (λ x. sequence_at x old.channel.talk.sequence) (sym is)) begins

pub started_channel : (old new : Connection) (channel : Channel) (r : Running) (u : UnderWay) (anew : Bool)
    → begins_anew old.granted r.job ≡ anew → new.job ≡ Some u → IsBlank u → Begins r old.config old.granted
    → new.config ≡ old.config → new.granted ≡ old.granted → new.is_closed ≡ (if anew then false else old.is_closed)
    → unread new.channel ≡ (if anew then [] else unread old.channel)
    → size_in channel.talk ≡ size_of_link anew (size_in old.channel.talk)
    → channel.talk.sequence ≡ sequence_at anew old.channel.talk.sequence
    → IsReady new.channel.talk u.running.stage
    → BeginsTalk old.config channel.talk r new.channel.talk u.running → IsStarted old new r.job
started_channel old new channel r u anew is there blank_ begins config granted closed inbox size sequence ready b =
    started old new r.job u there b.job blank_ (starts_where old channel.talk new.channel.talk r u.running anew is size
    sequence begins b) config granted
    (inbox ∙ ap (λ (x : Bool). if x then [] else unread old.channel) (sym is))
    (closed ∙ ap (λ (x : Bool). if x then false else old.is_closed) (sym is))
    (λ h. ready)

-- what fits a job that begins there
pub fits_ready : (l : Channel) (t : Talk) (r : Running) (u : UnderWay) (config : Config)
    → IsReady l.talk u.running.stage → BeginsTalk config t r l.talk u.running → u.carried.room ≡ 8192 → Fits l u
fits_ready l t r u config k b room = record {
  reads = λ h. k.reads;
  unsized = k.unsized;
  sized = λ h before. k.sized before;
  opening = λ h. k.clear;
  between = λ h.
      let over = left_over u.running.stage h in
      record {
        reads = k.reads;
        sized = k.sized (over_not_opening u.running.stage over);
        held = k.held;
        clear = k.clear;
        sent = b.quiet over;
      };
  many = λ h. omega (arith, k.clear.count);
  few = omega (arith, b.few);
  quiet = b.quiet;
  carried = room;
}

-- a job that opens is a connect that begins the link anew
first_opens : (r : Running) (config : Config) (granted : Option Grant) (s : Stage) → IsOpening s → r.stage ≡ s
    → Begins r config granted → (plan_of r.job config granted).first ≡ connect_request
first_opens r config granted stage.Opening h is begins = subst (BeginsAt r config granted) is begins
first_opens r config granted (stage.Asking a) h is begins = absurd h
first_opens r config granted (stage.Single s) h is begins = absurd h
first_opens r config granted stage.Leaving h is begins = absurd h
first_opens r config granted (stage.Over code leaves) h is begins = absurd h

-- and such a connect opens
anew_opens : (r : Running) (config : Config) (granted : Option Grant) (s : Stage) → r.stage ≡ s
    → BeginsAt r config granted s → (plan_of r.job config granted).first ≡ connect_request → IsOpening s
anew_opens r config granted stage.Opening is begins first = tt
anew_opens r config granted (stage.Asking a) is begins first =
    absurd (let x : nothing ≡ connect_request = sym begins.0 ∙ first in cc)
anew_opens r config granted (stage.Single s) is begins first =
    absurd (let x : nothing ≡ connect_request = sym begins.0 ∙ first in cc)
anew_opens r config granted stage.Leaving is begins first =
    absurd (let x : disconnect_request ≡ connect_request = sym begins ∙ first in cc)
anew_opens r config granted (stage.Over code leaves) is begins first =
    absurd (let x : nothing ≡ connect_request = sym (ap (λ (p : Plan). p.first) begins) ∙ first in cc)

-- on a client that is connected
pub ready_between : (l : Channel) (t : Talk) (r r' : Running) (config : Config) (granted : Option Grant) → IsBetween l
    → BeginsTalk config l.talk r t r' → Begins r config granted → IsSome granted → IsReady t r'.stage
ready_between l t r r' config granted k b begins some =
    let before : IsOpening r'.stage → ⊥ =
    λ h. plan_opens r.job config granted some (first_opens r config granted r.stage (b.opens h) refl begins) in
    record {
      reads = subst IsReading (sym b.reader) k.reads;
      held = ap held_by b.reader ∙ k.held;
      clear = subst (λ (x : Reader). IsClear x.transport.joiner) (sym b.reader) k.clear;
      unsized = λ h. absurd (before h);
      sized = λ h. subst (λ (x : Reader). IsSome (size_at x)) (sym b.reader) k.sized;
    }

-- on a link that begins anew
pub ready_new : (l : Channel) (t : Talk) (r r' : Running) (config : Config) (granted : Option Grant) → IsNew l
    → BeginsTalk config l.talk r t r' → Begins r config granted → begins_anew granted r.job ≡ true → IsReady t r'.stage
ready_new l t r r' config granted k b begins anew =
    let opening : IsOpening r'.stage =
    b.opening (anew_opens r config granted r.stage refl begins (plan_anew r.job config granted anew)) in
    record {
      reads = subst IsReading (sym b.reader) k.reads;
      held = ap held_by b.reader ∙ k.held;
      clear = subst (λ (x : Reader). IsClear x.transport.joiner) (sym b.reader) k.clear;
      unsized = λ h. ap size_at b.reader ∙ k.size;
      sized = λ before. absurd (before opening);
    }

nothing_read : (opening : Opening) → reading opening [] ≡ start
unfolding reading packets_of rest_of
nothing_read opening = refl

nothing_held : (ls : List (List ℕ) → ℕ) → rest_of ls [] ≡ []
unfolding rest_of
nothing_held ls = refl

-- a link of which nothing was read
pub new_channel : (l : Channel) → HasRead l.talk.reader [] → opens_by l.talk.reader ≡ Confirm
    → ended_with l.talk.reader ≡ None → l.talk.sequence ≡ 0 → unsent l ≡ [] → unread l ≡ [] → IsNew l
new_channel l h opening going sequence sent none =
    let r = l.talk.reader in
    let nothing = nothing_read (opens_by r) in
    record {
      reads = record { opening = opening; going = going; some = ∣ ([], h) ∣₁ };
      size = h.is.size ∙ ap (λ (p : Progress). p.size) nothing;
      held = sym (h.rest going).held ∙ nothing_held _;
      clear = clear_as r (h.is.unfinished ∙ ap (λ (p : Progress). p.unfinished) nothing);
      sequence = sequence;
      sent = sent;
      unread = none;
    }

pub new_size : (l : Channel) → IsNew l → size_in l.talk ≡ 1024
new_size l k = ap (λ o. unwrap_or o 1024) k.size

pub connected_not_anew : (granted : Option Grant) (done : Job) → IsSome granted → begins_anew granted done ≡ false
connected_not_anew None done h = absurd (cc)
connected_not_anew (Some g) done h = refl

-- ---- a client that isn't connected

turned_end : End
turned_end = number_end not_connected Disconnected

turned_by : (done : Job) (config : Config) (granted : Option Grant) → granted ≡ None → begins_anew granted done ≡ false
    → plan_of done config granted ≡ over turned_end
unfolding turned_end
turned_by job.Connect config None none anew = absurd (cc)
turned_by done config (Some g) none anew = absurd (cc)
turned_by _ config None none anew = refl

over_by : (found codes carried message : List ℕ) (s : Stage) (end : End)
    → awaited_by found codes carried s ≡ for_nothing end message → IsOver s
over_by found codes carried message stage.Opening end e = absurd (cc)
over_by found codes carried message (stage.Asking a) end e = absurd (cc)
over_by found codes carried message (stage.Single s) end e = absurd (cc)
over_by found codes carried message stage.Leaving end e = absurd (cc)
over_by found codes carried message (stage.Over code leaves) end e = tt

-- the job is over where it begins
turned_awaits : (origin : Origin) (t : Talk) (r : Running) → origin.granted ≡ None
    → begins_anew origin.granted origin.job ≡ false → StartsAt origin (begun origin) t r
    → awaited_in r [] ≡ for_nothing turned_end []
turned_awaits origin t r none anew starts =
    sym starts.awaits ∙ ap (λ c. c.awaits)
    (begun_by origin (over turned_end) (turned_by origin.job origin.config origin.granted none anew)
    ∙ silent_asked origin turned_end)

turned_over : (r : Running) → awaited_in r [] ≡ for_nothing turned_end [] → IsOver r.stage
turned_over r e = over_by r.found.items r.codes [] [] r.stage turned_end e

turned_shut : (r : Running) → awaited_in r [] ≡ for_nothing turned_end [] → LeavesOpen r.stage → ⊥
unfolding turned_end
turned_shut r e h = left_by r.found.items r.codes [] [] turned_end r.stage e h

-- what the client has then
pub record IsTurned (old : Connection) (t : Talk) (r r' : Running) : Type 0 where
  pub starts : StartsAt (origin_at old r.job) (begun (origin_at old r.job)) t r'
  pub over : IsOver r'.stage
  pub shut : LeavesOpen r'.stage → ⊥

pub is_turned : (old : Connection) (t : Talk) (r r' : Running) → begins_anew old.granted r.job ≡ false
    → Begins r old.config old.granted → BeginsTalk old.config old.channel.talk r t r' → old.granted ≡ None
    → IsTurned old t r r'
is_turned old t r r' is begins b none =
    let starts = starts_where old old.channel.talk t r r' false is refl refl begins b in
    let e = turned_awaits (origin_at old r.job) t r' none is starts in
    record { starts = starts; over = turned_over r' e; shut = turned_shut r' e }

pub fits_turned : (old : Connection) (l : Channel) (r : Running) (u : UnderWay) → IsTurned old l.talk r u.running
    → BeginsTalk old.config old.channel.talk r l.talk u.running → u.carried.room ≡ 8192 → Fits l u
fits_turned old l r u k b room = record {
  reads = λ h. absurd (h k.over);
  unsized = λ h. absurd (over_not_opening u.running.stage k.over h);
  sized = λ h before. absurd (h k.over);
  opening = λ h. absurd (over_not_opening u.running.stage k.over h);
  between = λ h. absurd (k.shut h);
  many = λ h. absurd (h k.over);
  few = omega (arith, b.few);
  quiet = b.quiet;
  carried = room;
}

pub started_turned : (old new : Connection) (r : Running) (u : UnderWay) → begins_anew old.granted r.job ≡ false
    → new.job ≡ Some u → IsBlank u → IsTurned old new.channel.talk r u.running → u.running.job ≡ r.job
    → new.config ≡ old.config → new.granted ≡ old.granted → new.is_closed ≡ old.is_closed
    → unread new.channel ≡ unread old.channel → IsStarted old new r.job
started_turned old new r u is there blank_ k done config granted closed inbox =
    started old new r.job u there done blank_ k.starts config granted
    (inbox ∙ ap (λ (x : Bool). if x then [] else unread old.channel) (sym is))
    (closed ∙ ap (λ (x : Bool). if x then false else old.is_closed) (sym is))
    (λ h. absurd (h k.over))
