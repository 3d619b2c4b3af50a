-- A client and its session at one moment of a rig's run, as the proofs follow them.
use Rattle.std.specs.Prelude.{◌≡◌, ◌⊎◌, ℕ, ◌<◌, List, [], ◌++◌, length, map, Option, None, Some}
use Rattle.s7_area.specs.Memory.{Memory}
use Rattle.s7_dialogue.specs.declared.config.Config.{Config}
use Rattle.s7_dialogue.specs.declared.grant.Grant.{Grant}
use Rattle.s7_dialogue.specs.declared.job.Job.{Job}
use Rattle.s7_dialogue.specs.declared.job.Job.TheVariants as job
use Rattle.s7_dialogue.specs.declared.job.JobResult.{JobResult}
use Rattle.s7_dialogue.specs.Course.{Origin}
use Rattle.s7_client.specs.declared.connection.Connection.{Connection}
use Rattle.s7_client.specs.Polling as client
use Rattle.s7_plant.specs.Books.{BookTold}
use Rattle.s7_plant.specs.State.{begins_with, state_of}
use Rattle.s7_session.specs.Books.{own, history_of}
use Rattle.s7_session.specs.Entry.{Entry, answered}
use Rattle.s7_session.specs.LinkState.{LinkState, first_link}
use Rattle.s7_session.specs.Owed.{past, owed, entered, telegrams}
use Rattle.s7_session.specs.declared.session.Session.{Session}
use Rattle.s7_session.specs.Stands.{Stands, unread, entry_count, newest}
use Rattle.s7_session.specs.Telegrams.{Met, verdicts_of, entered_of, AnyFull, AllAt, clock_failures, last_number}
use Rattle.s7_session.specs.Verdict.{Verdict}
use Rattle.s7_session.proofs.DoerLemmas.{LooseTrail}
use Rattle.s7_rig.specs.State.{Post}
use Rattle.s7_rig.specs.Runs.{moment}
use Rattle.s7_rig.specs.Scripts.{IsNoConnect, NoneConnects, ConnectsFirst}
use Rattle.s7_rig.specs.Settled.{Settled}
use Rattle.s7_rig.specs.Split.{AllStand}
use Rattle.s7_rig.specs.Complete.{AllComeOff}
use Rattle.s7_rig.specs.Turns.{is_full_in, lacks_in, did_in, keeps_in}
use Rattle.s7_rig.proofs.ResultLemmas.{HaveGone}
use Rattle.s7_rig.proofs.SoundLemmas.{IsSound}

-- the octets of a link: those that the client transmitted and its session used, those that the session transmitted and
-- the client used, and the verdicts, with the telegrams that met them
pub record Octets : Type 0 where
  pub sent : List ℕ
  pub used : List ℕ
  pub verdicts : List Verdict
  pub mets : List Met
  pub answered : List ℕ
  pub heard : List ℕ

-- nothing was done
pub record IsUntouched (config : Config) (c : Connection) (rest : List Job) (sent heard : List ℕ) : Type 0 where
  pub fresh : client.IsFresh c config
  pub jobs : ConnectsFirst rest
  pub none_sent : sent ≡ []
  pub none_heard : heard ≡ []

-- the connect is under way
pub record IsConnecting (config : Config) (c : Connection) (rest : List Job) (sent heard : List ℕ) : Type 0 where
  pub origin : Origin
  pub stands : client.StandsFor c origin heard sent
  pub job : origin.job ≡ job.Connect
  pub config_is : origin.config ≡ config
  pub granted : origin.granted ≡ None
  pub jobs : NoneConnects rest

-- the client is connected and has no job
pub record IsConnected (first : LinkState) (config : Config) (c : Connection) (rest : List Job) (used : List ℕ)
    (verdicts : List Verdict) (sent heard : List ℕ) : Type 0 where
  pub idle : client.job_of c ≡ None
  pub grant : Grant
  pub granted : client.grant_of c ≡ Some grant
  pub pdu : grant.pdu ≡ config.pdu
  pub size : client.tpdu_size_of c ≡ 1024
  pub sequence : client.sequence_of c < 65536
  pub settled : Settled first used verdicts (Some config.pdu)
  pub all_used : used ≡ sent
  pub all_heard : owed first used verdicts ≡ heard
  pub jobs : NoneConnects rest

-- What a job on a connected client began with, which stays until it is done: both stood between two messages before it.
pub record IsBegun (first : LinkState) (config : Config) : Type 0 where
  pub origin : Origin
  pub job : IsNoConnect origin.job
  pub grant : Grant
  pub granted : origin.granted ≡ Some grant
  pub pdu : grant.pdu ≡ config.pdu
  pub size : origin.size ≡ 1024
  pub sequence : origin.sequence < 65536
  -- the octets, the verdicts and the entries before it
  pub before : List ℕ
  pub judged : List Verdict
  pub settled : Settled first before judged (Some config.pdu)
  pub earlier : List Entry
  pub earlier_are : entered first before judged ≡ map answered earlier

-- the client is connected and has a job under way, and these are the link's entries
pub record IsWorking (first : LinkState) (config : Config) (entries : List Entry) (c : Connection) (rest : List Job)
    (numbers : Option (List ℕ)) (o : Octets) : Type 0 where
  pub begun : IsBegun first config
  pub open begun use *
  pub heard : List ℕ
  pub sent : List ℕ
  pub stands : client.StandsFor c origin heard sent
  -- the octets that the session used since, and their verdicts
  pub used : List ℕ
  pub verdicts : List Verdict
  pub sent_is : o.sent ≡ before ++ sent
  pub heard_is : o.heard ≡ owed first before judged ++ heard
  pub used_is : o.used ≡ before ++ used
  pub verdicts_are : o.verdicts ≡ judged ++ verdicts
  -- the job's own entries, whose numbers are noted
  pub mine : List Entry
  pub entries_are : entries ≡ earlier ++ mine
  pub noted : numbers ≡ Some (map (λ (e : Entry). e.number) mine)
  pub jobs : NoneConnects rest

-- a job is under way that was started on a client that isn't connected
pub record IsFailing (c : Connection) : Type 0 where
  pub origin : Origin
  pub heard : List ℕ
  pub sent : List ℕ
  pub stands : client.StandsFor c origin heard sent
  pub job : IsNoConnect origin.job
  pub granted : origin.granted ≡ None

-- the client isn't connected, and won't be
pub record IsLost (c : Connection) (rest : List Job) (results : List JobResult) : Type 0 where
  pub ungranted : client.grant_of c ≡ None
  -- a job met its last poll, or disconnected
  pub gone : HaveGone results
  pub job : (client.job_of c ≡ None) ⊎ IsFailing c
  pub jobs : NoneConnects rest

pub data Mode (first : LinkState) (config : Config) (entries : List Entry) (c : Connection) (rest : List Job)
    (results : List JobResult) (numbers : Option (List ℕ)) (o : Octets) : Type 0 where
  untouched : IsUntouched config c rest o.sent o.heard → Mode first config entries c rest results numbers o
  connecting : IsConnecting config c rest o.sent o.heard → Mode first config entries c rest results numbers o
  connected : IsConnected first config c rest o.used o.verdicts o.sent o.heard
      → Mode first config entries c rest results numbers o
  working : IsWorking first config entries c rest numbers o → Mode first config entries c rest results numbers o
  lost : IsLost c rest results → Mode first config entries c rest results numbers o

-- the link's own entries in a book
abbrev pub own_in : Memory → BookTold → ℕ → List Entry
own_in opening book link = own (begins_with opening) link (history_of book)

-- the mode of a client
abbrev pub ModeOf : Memory → Config → BookTold → Post → Octets → Type 0
ModeOf opening config book p o =
    Mode (first_link opening.guard) config (own_in opening book p.link) p.client p.rest p.results p.noted o

-- WHAT HOLDS of a session on a book, which its client's turns leave as it is
pub record IsServing (opening : Memory) (limit : ℕ) (book : BookTold) (link : ℕ) (session : Session) (used : List ℕ)
    (verdicts : List Verdict) (mets : List Met) (answers : List ℕ) : Type 0 where
  pub opened : state_of book.opening ≡ begins_with opening
  pub limited : book.journal.limit ≡ limit
  -- the session stands for its octets
  pub stands : Stands (first_link opening.guard) session used verdicts answers
  -- the telegrams that asked, and their verdicts
  pub asked : telegrams (first_link opening.guard) used verdicts ≡ mets
  pub met : verdicts_of mets ≡ verdicts
  -- the history is legal for the link
  pub legal : entered_of mets ≡ map answered (own_in opening book link)
  pub begun : BookTold
  pub trail : LooseTrail is_full_in lacks_in did_in keeps_in begun mets book
  -- no telegram stopped the link for want of memory, and none waits for its verdict
  pub sound : IsSound (past (first_link opening.guard) used verdicts).standing
  pub clock : clock_failures verdicts ≡ 0
  pub moments : AllAt (Some moment) (own_in opening book link)
  pub count : entry_count session ≡ length (own_in opening book link)
  pub last : newest session ≡ last_number None (own_in opening book link)

-- WHAT HOLDS of a client and its session, whose octets are these
pub record Joint (opening : Memory) (limit : ℕ) (config : Config) (book : BookTold) (p : Post) (o : Octets) : Type 0 where
  pub serving : IsServing opening limit book p.link p.session o.used o.verdicts o.mets o.answered
  pub open serving use *
  -- the octets between the two are on their way
  pub taken : o.sent ≡ o.used ++ (unread p.session ++ p.pipes.to_server)
  pub given : o.answered ≡ o.heard ++ (client.unread_of p.client ++ p.pipes.to_client)
  pub moment_is : p.pipes.moment ≡ moment
  -- the client
  pub config_is : client.config_of p.client ≡ config
  pub done : AllStand (begins_with opening) (history_of book) p.link config.pdu p.results p.places
  pub comes_off : (AnyFull o.verdicts → ⊥) → AllComeOff opening (history_of book) config.pdu p.results p.places
  pub mode : ModeOf opening config book p o
