-- The loans of the pipes and the book over a session's turn.
use Rattle.std.proofs.Common.{◌≡◌, ℕ, List, ◌++◌, Option, Some, refl, ap, subst, arith}
use Rattle.std.specs.Borrow.{GName}
use Rattle.s7_memory.specs.PipesHeld.{PipesHeld}
use Rattle.s7_outer.specs.Shown.{Shown}
use Rattle.s7_memory.specs.Pipes.{end_of, number_of as side_number}
use Rattle.s7_memory.specs.declared.pipes.Side.{Side}
use Rattle.s7_memory.specs.declared.pipes.Side.TheVariants as side
use Rattle.s7_plant.specs.Books.{BookTold, book_told}
use Rattle.s7_plant.specs.declared.request.Ask.{Ask}
use Rattle.s7_plant.specs.Replies.{Said}
use Rattle.s7_session.specs.declared.book_doer.BookDoer.{BookDoer}
use Rattle.s7_session.specs.declared.session.Session.{Session}
use Rattle.s7_session.specs.declared.outcome.Outcome.{Outcome}
use Rattle.s7_session.specs.declared.outcome.Turn.{Turn}
use Rattle.s7_session.specs.Books.{GoesOnBy}
use Rattle.s7_session.specs.Entry.{Entry}
use Rattle.s7_session.specs.Stands.{Moves, IsTurn, closed_with, number_of}
use Rattle.s7_session.proofs.DoerLemmas.{SeenAs, trail_seen}
use Rattle.s7_rig.specs.Turns.{TakesTurn, stands_in, is_full_in, lacks_in, did_in, keeps_in}
use Rattle.s7_dialogue.proofs.FlightLemmas.{same_some}

-- an end that is lent as the server's is lent by the same loan
pub same_loan : (loan loan' : GName) (p p' : PipesHeld) (s : Side) → (end_of loan' p' s).lent ≡ (end_of loan p side.Server).lent → loan' ≡ loan
same_loan loan loan' p p' s e = ap (λ l. l.loan) (same_some _ _ e)

server_is : (s : Side) → side_number s ≡ 1 → s ≡ side.Server
server_is side.Client e = absurd (omega (arith, e))
server_is side.Server e = refl

-- and is the server's
pub same_side : (loan loan' : GName) (p p' : PipesHeld) (s : Side) → (end_of loan' p' s).lent ≡ (end_of loan p side.Server).lent → s ≡ side.Server
same_side loan loan' p p' s e = server_is s (ap (λ l. l.end) (same_some _ _ e))

-- ---- the book of a doer

abbrev doer_stands : {O : Type 0} → BookDoer O → List Entry → Type 0
doer_stands d entries = stands_in d.link (book_told d.book.now) entries

abbrev doer_is_full : {O : Type 0} → BookDoer O → Ask → Type 0
doer_is_full d ask = is_full_in (book_told d.book.now) ask

abbrev doer_lacks : {O : Type 0} → BookDoer O → Ask → Type 0
doer_lacks d ask = lacks_in (book_told d.book.now) ask

abbrev book_of : {O : Type 0} → BookDoer O → BookTold
book_of d = book_told d.book.now

seen : {O : Type 0} (did : BookDoer O → Ask → Option (ℕ × Said) → BookDoer O → Type 0) (kept : BookDoer O → BookDoer O → Type 0)
    → SeenAs (doer_is_full {O = O}) (doer_lacks {O = O}) did kept is_full_in lacks_in did_in keeps_in (book_of {O = O})
seen did kept = record {
  is_full = λ d a h. h;
  was_full = λ d a h. h;
  lacks = λ d a h. h;
  does = λ d a answer e h. tt;
  keeps = λ d e h. tt;
}

-- what calls did with a doer of one link they did with its book
moves_seen : {O : Type 0} (did : BookDoer O → Ask → Option (ℕ × Said) → BookDoer O → Type 0) (kept : BookDoer O → BookDoer O → Type 0) (old new : Session) (k k' : Shown) (d d' : BookDoer O) → d'.link ≡ d.link
    → Moves doer_stands doer_is_full doer_lacks did kept old k d new k' d' → Moves (stands_in d.link) is_full_in lacks_in did_in keeps_in old k (book_of d) new k' (book_of d')
moves_seen did kept old new k k' d d' same m = record {
  received = m.received;
  used = m.used;
  written = m.written;
  mets = m.mets;
  entries = m.entries;
  took = m.took;
  wrote = m.wrote;
  fits = m.fits;
  space = m.space;
  lent = m.lent;
  shut = m.shut;
  inbox = m.inbox;
  stood = m.stood;
  asked = m.asked;
  entered = m.entered;
  count = m.count;
  newest = m.newest;
  doer = λ es h. subst (λ n. stands_in n (book_of d') (es ++ m.entries)) same (m.doer es h);
  trail = trail_seen doer_is_full doer_lacks did kept is_full_in lacks_in did_in keeps_in book_of (seen did kept) d d' m.mets m.entries m.trail;
  clock = m.clock;
  unasked = m.unasked;
  looks = m.looks;
  moment = m.moment;
  moments = m.moments;
  faults = m.faults;
  waits = m.waits;
}

turn_seen : {O : Type 0} (did : BookDoer O → Ask → Option (ℕ × Said) → BookDoer O → Type 0) (kept : BookDoer O → BookDoer O → Type 0) (old new : Session) (k k' : Shown) (d d' : BookDoer O) (result : Turn) → d'.link ≡ d.link
    → IsTurn doer_stands doer_is_full doer_lacks did kept old k d new k' d' result → IsTurn (stands_in d.link) is_full_in lacks_in did_in keeps_in old k (book_of d) new k' (book_of d') result
unfolding moves_seen
turn_seen did kept old new k k' d d' result same t = record {
  moves = moves_seen did kept old new k k' d d' same t.moves;
  one = t.one;
  went = t.went;
  not_yet = t.not_yet;
  receives = t.receives;
  uses = t.uses;
  read_fails = t.read_fails;
  write_fails = t.write_fails;
  counts = t.counts;
  closed = t.closed;
  cause = t.cause;
}

-- a turn over an end that was lent, with a doer that enters for the link
pub taken : {O : Type 0} (did : BookDoer O → Ask → Option (ℕ × Said) → BookDoer O → Type 0) (kept : BookDoer O → BookDoer O → Type 0) (loan loan' : GName) (s : Side) (session session' : Session) (p p' : PipesHeld) (d d' : BookDoer O) (result : Turn)
    → (turn : IsTurn doer_stands doer_is_full doer_lacks did kept session (end_of loan p side.Server) d session' (end_of loan' p' s) d' result)
    → ((o : Outcome) → closed_with session ≡ Some o → session' ≡ session)
    → number_of session' ≡ number_of session → d'.link ≡ d.link → GoesOnBy d.link (book_told d.book.now) (book_told d'.book.now)
    → TakesTurn d.link session p (book_told d.book.now) session' p' (book_told d'.book.now) result
taken did kept loan loan' s session session' p p' d d' result turn stays number same on =
    let seen_turn = turn_seen did kept session session' (end_of loan p side.Server) (end_of loan' p' s) d d' result same turn in
    record {
      loan = loan;
      turn = subst (λ i. IsTurn (stands_in d.link) is_full_in lacks_in did_in keeps_in session (end_of loan p side.Server) (book_of d) session' (end_of i p' side.Server) (book_of d') result)
          (same_loan loan loan' p p' s turn.moves.lent)
          (subst (λ i. IsTurn (stands_in d.link) is_full_in lacks_in did_in keeps_in session (end_of loan p side.Server) (book_of d) session' (end_of loan' p' i) (book_of d') result)
          (same_side loan loan' p p' s turn.moves.lent) seen_turn);
      stays = stays;
      number = number;
      goes_on = on;
    }
