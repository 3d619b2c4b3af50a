-- A link that is served alone over a fresh book.
use Rattle.std.proofs.Common.{◌≡◌, inl, ℕ, ◌+◌, Bool, true, false, List, [], ◌∷◌, ◌++◌, length, map, Option, None, refl, ap, sym, ◌∙◌, subst, arith}
use Rattle.std.specs.Prelude.{◌==◌, if◌then◌else◌}
use Rattle.std.specs.List.{AllByRecursion}
use Rattle.std.proofs.lemmas.Bool.Decides.{nat_tests}
use Rattle.s7_outer.specs.Shown.{Shown}
use Rattle.s7_area.specs.Memory.{Memory}
use Rattle.s7_turn.specs.declared.view.Entry.{Entry as Call}
use Rattle.s7_turn.specs.Histories.{replay}
use Rattle.s7_plant.specs.Books.{BookTold, book_told}
use Rattle.s7_plant.specs.declared.request.Ask.{Ask}
use Rattle.s7_plant.specs.Replies.{Said}
use Rattle.s7_plant.specs.Answers.{after}
use Rattle.s7_plant.specs.Journals.{after_call}
use Rattle.s7_plant.specs.State.{State, state_of, begins_with}
use Rattle.s7_session.specs.declared.book_doer.BookDoer.{BookDoer}
use Rattle.s7_session.specs.declared.outcome.Outcome.{Outcome}
use Rattle.s7_session.specs.Books.{History, history_of, own_from, own, AreOf, GoesOnBy}
use Rattle.s7_session.specs.Entry.{Entry, answered}
use Rattle.s7_session.specs.Legal.{IsLegalBook, IsServedBy}
use Rattle.s7_session.specs.LinkRun.{IsLinkRun}
use Rattle.s7_session.specs.LinkState.{LinkState}
use Rattle.s7_session.specs.Telegrams.{verdicts_of, MemoryIsLast, AllAt, last_number}
use Rattle.s7_session.proofs.BookLemmas.{replay-calls}
use Rattle.s7_session.proofs.DoerLemmas.{loose_of, full_end, full_stays, are_caused}
use Rattle.s7_session.proofs.PastLemmas.{memory_is_last}
use Rattle.s7_outer.specs.Calls.{shut_down}
use Rattle.s7_listener.specs.Served.{IsServedLink, IsShut, ServedTold, served_told}
use Rattle.s7_listener.proofs.ServedLemmas.{shut_link, is_shut_down}
use Rattle.s7_listener.specs.Hosted.{AreHosted}
use Rattle.s7_server_main.specs.Hosts.{first_of, HostsOver}

is_same : (a b : ℕ) → a ≡ b → (a == b) ≡ true
is_same a b e = grind (arith, nat_tests)

-- ---- a history whose calls are all of one link

length_with : (b : Bool) (x : Entry) (rest : List Entry) (n : ℕ) → b ≡ true → length rest ≡ n → length (if b then x ∷ rest else rest) ≡ 1 + n
length_with true x rest n is e = omega (arith, e)
length_with false x rest n is e = cc

pub own-length : (number : ℕ) (s : State) (link : ℕ) (history : History) → AreOf link history → length (own_from number s link history) ≡ length history
own-length number s link [] all = refl
own-length number s link (call ∷ history) all =
    length_with (call.caller == link) _ _ (length history) (is_same call.caller link all.0) (own-length (number + 1) (after s call.request) link history all.1)
    ∙ omega arith

only_served : (link count : ℕ) (history : History) → AreOf link history → AllByRecursion (λ (call : Call Ask). IsServedBy ((link, count) ∷ []) call.caller) history
only_served link count [] all = tt
only_served link count (call ∷ history) all = (inl all.0, only_served link count history all.1)

-- ---- what a doer of a book is known by

abbrev pub stands : {O : Type 0} → BookDoer O → List Entry → Type 0
stands d entries = entries ≡ own (state_of (book_told d.book.now).opening) d.link (history_of (book_told d.book.now))

abbrev pub is_full : {O : Type 0} → BookDoer O → Ask → Type 0
is_full d ask = length (history_of (book_told d.book.now)) ≡ (book_told d.book.now).journal.limit

abbrev pub lacks : {O : Type 0} → BookDoer O → Ask → Type 0
lacks d ask = ⊥

-- ---- the run of a link, by the book that it leaves

all_of_link : (link : ℕ) (old new : BookTold) → GoesOnBy link old new → history_of old ≡ [] → AreOf link (history_of new)
all_of_link link old new goes none = subst (AreOf link) (sym (goes.history ∙ ap (λ h. h ++ goes.calls) none)) goes.own

pub served_link : {O : Type 0} {did : BookDoer O → Ask → Option (ℕ × Said) → BookDoer O → Type 0} {keeps : BookDoer O → BookDoer O → Type 0}
    (opening : Memory) (pipe line : Shown) (d d' : BookDoer O) (o : Outcome) (accepted : ℕ) (last : Option ℕ)
    → IsLinkRun stands is_full lacks did keeps (first_of opening) pipe d line d' o accepted last
    → history_of (book_told d.book.now) ≡ [] → state_of (book_told d.book.now).opening ≡ begins_with opening → d'.link ≡ d.link → GoesOnBy d.link (book_told d.book.now) (book_told d'.book.now)
    → IsServedLink (begins_with opening) (book_told d.book.now).journal.limit (first_of opening) (history_of (book_told d'.book.now)) pipe (served_told d.link line o accepted last)
served_link {O} {did} {keeps} opening pipe line d d' o accepted last run none opens same goes =
    let history = history_of (book_told d'.book.now) in
    let s = begins_with opening in
    let opened : state_of (book_told d'.book.now).opening ≡ s = ap state_of goes.opening ∙ opens in
    let mine : run.entries ≡ own s d.link history =
    run.doer [] (sym (ap (own (state_of (book_told d.book.now).opening) d.link) none))
    ∙ ap (λ t. own t d'.link history) opened ∙ ap (λ n. own s n history) same in
    let trail = loose_of is_full lacks did keeps d d' run.mets run.entries run.trail in
    record {
      taken = run.taken;
      written = run.written;
      mets = run.mets;
      took = run.took;
      wrote = run.wrote;
      fits = run.fits;
      space = run.space;
      lent = run.lent;
      moment = run.moment;
      asked = run.asked;
      answers = run.owed;
      legal = record {
        called = record {
          calls = ap (map answered) (sym mine) ∙ run.entered;
          full = λ any. (full_end is_full lacks did keeps d d' run.mets trail any).1 ∙ goes.limit;
          full_stays = full_stays is_full lacks did keeps d d' run.mets (λ e a b h. h) trail;
          moments = subst (AllAt pipe.moment) mine run.moments;
        };
        counted = record {
          memory = subst (λ ms. MemoryIsLast (verdicts_of ms)) run.asked (memory_is_last (first_of opening) run.taken (verdicts_of run.mets));
          causes = are_caused is_full lacks did keeps d d' run.mets (λ e a h. h) trail;
          count = run.count ∙ ap length mine;
          last = run.last_is ∙ ap (last_number None) mine;
        };
      };
      clock = run.clock;
      unasked = run.unasked;
      looks = run.looks;
      fails = run.fails;
      end = run.end;
    }

-- the book that it leaves
served_book : {O : Type 0} (opening : Memory) (d d' : BookDoer O) (accepted : ℕ) → history_of (book_told d.book.now) ≡ [] → state_of (book_told d.book.now).opening ≡ begins_with opening
    → d'.link ≡ d.link → GoesOnBy d.link (book_told d.book.now) (book_told d'.book.now) → accepted ≡ length (own (begins_with opening) d.link (history_of (book_told d'.book.now)))
    → IsLegalBook (begins_with opening) (book_told d.book.now).journal.limit ((d.link, accepted) ∷ []) (book_told d'.book.now)
served_book opening d d' accepted none opens same goes counted =
    let new = (book_told d'.book.now) in
    let all = all_of_link d.link (book_told d.book.now) new goes none in
    let opened : state_of new.opening ≡ begins_with opening = ap state_of goes.opening ∙ opens in
    record {
      opened = opened;
      limited = goes.limit;
      only = only_served d.link accepted (history_of new) all;
      different = (λ h. h, tt);
      sum = omega (arith, counted, own-length 0 (begins_with opening) d.link (history_of new) all);
      left = new.replayed
          ∙ (sym (replay-calls (state_of new.opening) new.journal.entries) ∙ ap (λ t. replay after_call t (history_of new)) opened);
    }

-- both of them
pub record IsServedAlone (opening : Memory) (limit : ℕ) (pipe : Shown) (served : ServedTold) (book : BookTold) : Type 0 where
  pub link : IsServedLink (begins_with opening) limit (first_of opening) (history_of book) pipe served
  pub legal_book : IsLegalBook (begins_with opening) limit ((served.link, served.entries) ∷ []) book

pub served_alone : {O : Type 0} {did : BookDoer O → Ask → Option (ℕ × Said) → BookDoer O → Type 0} {keeps : BookDoer O → BookDoer O → Type 0}
    (opening : Memory) (pipe line : Shown) (d d' : BookDoer O) (o : Outcome) (accepted : ℕ) (last : Option ℕ)
    → IsLinkRun stands is_full lacks did keeps (first_of opening) pipe d line d' o accepted last
    → history_of (book_told d.book.now) ≡ [] → state_of (book_told d.book.now).opening ≡ begins_with opening → d'.link ≡ d.link → GoesOnBy d.link (book_told d.book.now) (book_told d'.book.now)
    → IsServedAlone opening (book_told d.book.now).journal.limit pipe (served_told d.link line o accepted last) (book_told d'.book.now)
served_alone opening pipe line d d' o accepted last run none opens same goes =
    let served = served_link opening pipe line d d' o accepted last run none opens same goes in
    record { link = served; legal_book = served_book opening d d' accepted none opens same goes served.legal.counted.count }

-- ---- the link was shut then

pub record IsShutAlone (opening : Memory) (limit : ℕ) (pipe : Shown) (served : ServedTold) (book : BookTold) : Type 0 where
  pub link : IsServedLink (begins_with opening) limit (first_of opening) (history_of book) pipe served
  pub legal_book : IsLegalBook (begins_with opening) limit ((served.link, served.entries) ∷ []) book
  pub shut : IsShut pipe served.line

pub shut_alone : {O : Type 0} {did : BookDoer O → Ask → Option (ℕ × Said) → BookDoer O → Type 0} {keeps : BookDoer O → BookDoer O → Type 0}
    (opening : Memory) (pipe line line' : Shown) (d d' : BookDoer O) (o : Outcome) (accepted : ℕ) (last : Option ℕ)
    → IsLinkRun stands is_full lacks did keeps (first_of opening) pipe d line d' o accepted last
    → history_of (book_told d.book.now) ≡ [] → state_of (book_told d.book.now).opening ≡ begins_with opening → d'.link ≡ d.link → GoesOnBy d.link (book_told d.book.now) (book_told d'.book.now)
    → line' ≡ shut_down line
    → IsShutAlone opening (book_told d.book.now).journal.limit pipe (served_told d.link line' o accepted last) (book_told d'.book.now)
shut_alone opening pipe line line' d d' o accepted last run none opens same goes shut =
    let served = served_alone opening pipe line d d' o accepted last run none opens same goes in
    let limit = (book_told d.book.now).journal.limit in
    subst (λ (l : Shown). IsShutAlone opening limit pipe (served_told d.link l o accepted last) (book_told d'.book.now)) (sym shut) record {
      link = shut_link (begins_with opening) limit (first_of opening) (history_of (book_told d'.book.now)) pipe line d.link o accepted last served.link;
      legal_book = served.legal_book;
      shut = is_shut_down pipe line run.shut;
    }

-- ---- a book on which nothing was done

pub untouched_book : (opening : Memory) (book : BookTold) → history_of book ≡ [] → state_of book.opening ≡ begins_with opening
    → state_of book.plant ≡ begins_with opening → (link : ℕ)
    → IsLegalBook (begins_with opening) book.journal.limit ((link, 0) ∷ []) book
untouched_book opening book none begins plant link = record {
  opened = begins;
  limited = refl;
  only = subst (AllByRecursion (λ (call : Call Ask). IsServedBy ((link, 0) ∷ []) call.caller)) (sym none) tt;
  different = (λ h. h, tt);
  sum = ap length (sym none);
  left = plant ∙ ap (replay after_call (begins_with opening)) (sym none);
}

-- ---- links of a door

-- links that were served beside one another were served over the book that they leave
pub hosts_over : (opening : Memory) (limit : ℕ) (pipes : List Shown) (links : List ServedTold) (book : BookTold)
    → AreHosted (begins_with opening) limit (first_of opening) (history_of book) pipes links
    → state_of book.opening ≡ begins_with opening → book.journal.limit ≡ limit
    → HostsOver opening limit pipes links book
hosts_over opening limit pipes links book hosted opens limited = record {
  hosted = hosted;
  legal_book = record {
    opened = opens;
    limited = limited;
    only = hosted.only;
    different = hosted.different;
    sum = hosted.sum;
    left = book.replayed
        ∙ (sym (replay-calls (state_of book.opening) book.journal.entries) ∙ ap (λ t. replay after_call t (history_of book)) opens);
  };
}

-- by the state and the link that they began with
pub hosts_from : (opening : Memory) (limit : ℕ) (pipes : List Shown) (links : List ServedTold) (book : BookTold) (s : State) (first : LinkState)
    → s ≡ begins_with opening → first ≡ first_of opening → AreHosted s limit first (history_of book) pipes links
    → state_of book.opening ≡ begins_with opening → book.journal.limit ≡ limit
    → HostsOver opening limit pipes links book
hosts_from opening limit pipes links book s first same same_first hosted opens limited =
    hosts_over opening limit pipes links book
    (subst (λ t. AreHosted t limit (first_of opening) (history_of book) pipes links) same
    (subst (λ f. AreHosted s limit f (history_of book) pipes links) same_first hosted))
    opens limited
