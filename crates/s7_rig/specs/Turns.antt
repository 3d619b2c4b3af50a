-- The turns of a rig's actors: the clients, and the sessions that serve them. A turn makes progress if it moves an
-- octet, uses one that its session had read, or ends a job.
use Rattle.std.specs.Prelude.{◌≡◌, ◌≢◌, ◌⊎◌, ℕ, ◌-◌, ◌<◌, ◌≤◌, ◌==◌, ◌&&◌, ◌||◌, not, nat_lt}
use Rattle.std.specs.Prelude.{Bool, true, false, List, [], ◌∷◌, ◌++◌, length, slice_get}
use Rattle.std.specs.Prelude.{slice_set, Option, None, Some, option_map, unwrap_or, IsSome}
use Rattle.std.specs.Borrow.{GName}
use Rattle.s7_memory.specs.PipesHeld.{PipesHeld}
use Rattle.s7_memory.specs.Pipes.{end_of}
use Rattle.s7_memory.specs.declared.pipes.Side.TheVariants as side
use Rattle.s7_client.specs.declared.connection.Connection.{Connection}
use Rattle.s7_dialogue.specs.declared.job.Job.{Job}
use Rattle.s7_client.specs.declared.job.Polled.{Polled}
use Rattle.s7_client.specs.declared.job.Polled.TheVariants as polled
use Rattle.s7_client.specs.Polling.{job_of, IsStarted, IsPoll}
use Rattle.s7_plant.specs.Books.{BookTold}
use Rattle.s7_plant.specs.declared.request.Ask.{Ask}
use Rattle.s7_plant.specs.Journals.{AreReady}
use Rattle.s7_plant.specs.Replies.{Said}
use Rattle.s7_plant.specs.State.{state_of}
use Rattle.s7_session.specs.declared.session.Session.{Session}
use Rattle.s7_session.specs.declared.outcome.Outcome.{Outcome}
use Rattle.s7_session.specs.declared.outcome.Outcome.TheVariants as outcome
use Rattle.s7_session.specs.declared.outcome.Turn.{Turn}
use Rattle.s7_session.specs.Entry.{Entry}
use Rattle.s7_session.specs.Stands.{IsTurn, closed_with, number_of}
use Rattle.s7_session.specs.Books.{own, history_of, GoesOnBy}
use Rattle.s7_rig.specs.Numbers.{count_from}
use Rattle.s7_rig.specs.State.{Post, State}
use Rattle.s7_rig.specs.Scripts.{left_behind}

-- One of the pipes holds another number of octets. In a turn each pipe only fills or only empties, so this shows
-- whether an octet was moved.
abbrev pub have_moved : PipesHeld → PipesHeld → Bool
have_moved old new = not (length new.to_client == length old.to_client && length new.to_server == length old.to_server)

-- ---- a client's turn

-- the next job is started; none is outstanding and one is left
pub record StartsNext (old new : Post) : Type 0 where
  pub idle : job_of old.client ≡ None
  pub job : Job
  pub rest : List Job
  pub left : old.rest ≡ job ∷ rest
  pub client : Connection
  pub started : IsStarted old.client client job
  pub same : new ≡ record old { rest = rest; client = client; noted = Some [] }

-- nothing is started: a job is outstanding, or none is left to start
pub record StartsNothing (old new : Post) : Type 0 where
  pub none : IsSome (job_of old.client) ⊎ (old.rest ≡ [])
  pub same : new ≡ old

-- A poll that ends a job adds the job's result, and the numbers of the link's entries that were noted since it began.
-- A client that halts keeps only its last job if the job was a failed read of several items.
abbrev pub with_polled : Polled → Post → Post
with_polled (polled.Done told) p = record p {
  rest = left_behind p.halts told p.rest;
  results = p.results ++ told ∷ [];
  places = p.places ++ unwrap_or p.noted [] ∷ [];
  noted = None;
}
with_polled polled.Pending p = p
with_polled polled.Idle p = p

abbrev pub is_done : Polled → Bool
is_done (polled.Done told) = true
is_done polled.Pending = false
is_done polled.Idle = false

-- a client polls over its end of the pipes, which it borrows
pub record PollsOver (client : Connection) (pipes : PipesHeld) (client' : Connection) (pipes' : PipesHeld) (result : Polled)
    : Type 0 where
  pub loan : GName
  pub poll : IsPoll client (end_of loan pipes side.Client) client' (end_of loan pipes' side.Client) result

-- the client polls once
pub record PollsOnce (old new : Post) (stirs : Bool) : Type 0 where
  pub client : Connection
  pub pipes : PipesHeld
  pub result : Polled
  pub poll : PollsOver old.client old.pipes client pipes result
  pub fits : length pipes.to_server ≤ pipes.room
  pub same : new ≡ with_polled result (record old { client = client; pipes = pipes })
  -- an octet was moved, or a job is done
  pub stirs_is : stirs ≡ (have_moved old.pipes pipes || is_done result)

-- A CLIENT'S TURN: its next job is started if none is outstanding, and it polls once
pub record IsClientTurn (old new : Post) (stirs : Bool) : Type 0 where
  pub ready : Post
  pub starts : StartsNext old ready ⊎ StartsNothing old ready
  pub polls : PollsOnce ready new stirs

-- ---- a session's turn

-- the link's entries in a book are these
abbrev pub stands_in : ℕ → BookTold → List Entry → Type 0
stands_in link book entries = entries ≡ own (state_of book.opening) link (history_of book)

-- the book is full, whatever the request
abbrev pub is_full_in : BookTold → Ask → Type 0
is_full_in book ask = length (history_of book) ≡ book.journal.limit

-- no allocation of a book fails
abbrev pub lacks_in : BookTold → Ask → Type 0
lacks_in book ask = ⊥

-- Nothing is stated here of a request that was done: the book's entries state it, and `GoesOnBy` states what a book
-- keeps.
abbrev pub did_in : BookTold → Ask → Option (ℕ × Said) → BookTold → Type 0
did_in book ask answer book' = Unit {0}

abbrev pub keeps_in : BookTold → BookTold → Type 0
keeps_in book book' = Unit {0}

-- a session takes a turn over its end of the pipes, which it borrows; of the book, no entry is lost, and each new one
-- is a call of the session's link
pub record TakesTurn (link : ℕ) (session : Session) (pipes : PipesHeld) (book : BookTold) (session' : Session)
    (pipes' : PipesHeld) (book' : BookTold) (result : Turn) : Type 0 where
  pub loan : GName
  pub turn : IsTurn (stands_in link) is_full_in lacks_in did_in keeps_in session (end_of loan pipes side.Server) book
      session' (end_of loan pipes' side.Server) book' result
  pub stays : (o : Outcome) → closed_with session ≡ Some o → session' ≡ session
  pub number : number_of session' ≡ number_of session
  pub goes_on : GoesOnBy link book book'

-- the number of calls that were entered
abbrev pub entry_count : BookTold → ℕ
entry_count book = length (history_of book)

-- A SESSION'S TURN on the book
pub record IsSessionTurn (old new : Post) (book book' : BookTold) (stirs : Bool) : Type 0 where
  pub session : Session
  pub pipes : PipesHeld
  pub result : Turn
  pub takes : TakesTurn old.link old.session old.pipes book session pipes book' result
  -- the numbers of the entries that it made are kept for the job under way
  pub same : new ≡ record old {
    session = session;
    pipes = pipes;
    noted = option_map (λ numbers. numbers ++ count_from (entry_count book) (entry_count book' - entry_count book))
        old.noted;
  }
  -- no allocation failed
  pub remembers : closed_with session ≢ Some outcome.Memory
  -- an octet was moved, or an octet that had been read was used
  pub stirs_is : stirs ≡ (have_moved old.pipes pipes || nat_lt 0 (length takes.turn.moves.used))

-- ---- a turn of an actor: everything else stays

pub record ClientTurn (k : ℕ) (old new : State) (stirs : Bool) : Type 0 where
  pub post : Post
  pub post' : Post
  pub at : slice_get old.posts k ≡ Some post
  pub turn : IsClientTurn post post' stirs
  pub same : new ≡ record old { posts = slice_set old.posts k post' }

pub record SessionTurn (k : ℕ) (old new : State) (stirs : Bool) : Type 0 where
  pub post : Post
  pub post' : Post
  pub at : slice_get old.posts k ≡ Some post
  pub turn : IsSessionTurn post post' old.book new.book stirs
  -- every request that is entered can be carried out again
  pub ready : AreReady new.book.journal.entries
  pub same : new.posts ≡ slice_set old.posts k post'

-- With K clients, actors 0 to K - 1 are the clients, and actors K on are their sessions.
abbrev pub IsTurnOf : ℕ → State → State → Bool → Type 0
IsTurnOf actor old new stirs =
    ((actor < length old.posts) × ClientTurn actor old new stirs)
    ⊎ ((length old.posts ≤ actor) × SessionTurn (actor - length old.posts) old new stirs)
