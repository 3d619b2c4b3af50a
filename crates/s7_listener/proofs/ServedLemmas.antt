-- The run of a link, by the history that its doer's entries stand in.
use Rattle.std.proofs.Common.{◌≡◌, inl, inr, ℕ, List, [], length, map, Option, None, Some, option_map, refl, ap, sym, ◌∙◌, subst}
use Rattle.s7_outer.specs.Shown.{Shown}
use Rattle.s7_outer.specs.Calls.{shut_behind, shut_down}
use Rattle.s7_plant.specs.declared.request.Ask.{Ask}
use Rattle.s7_plant.specs.Replies.{Said}
use Rattle.s7_plant.specs.State.{State}
use Rattle.s7_session.specs.declared.outcome.Outcome.{Outcome}
use Rattle.s7_session.specs.declared.outcome.Outcome.TheVariants as outcome
use Rattle.s7_session.specs.Books.{History, own}
use Rattle.s7_session.specs.Entry.{Entry, answered}
use Rattle.s7_session.specs.LinkRun.{IsLinkRun, IsEnd}
use Rattle.s7_session.specs.LinkState.{LinkState}
use Rattle.s7_session.specs.Telegrams.{verdicts_of, MemoryIsLast, AllAt, last_number}
use Rattle.s7_session.proofs.DoerLemmas.{loose_of, full_end, full_stays, are_caused}
use Rattle.s7_session.proofs.PastLemmas.{memory_is_last}
use Rattle.s7_session.specs.Verdict.{Verdict}
use Rattle.s7_listener.specs.Served.{ServedTold, IsServedLink, IsServed, IsShut, served_told}

-- what the doer stands for in the end are the link's own calls in a history, and where it is full that has its greatest
-- length
pub served_link : {D : Type 0} (stands : D → List Entry → Type 0) (is_full may_lack : D → Ask → Type 0)
    (did : D → Ask → Option (ℕ × Said) → D → Type 0) (keeps : D → D → Type 0)
    (s : State) (limit : ℕ) (first : LinkState) (history : History) (link : ℕ) (pipe line : Shown) (d d' : D) (o : Outcome) (accepted : ℕ) (last : Option ℕ)
    → IsLinkRun stands is_full may_lack did keeps first pipe d line d' o accepted last
    → stands d []
    → ((entries : List Entry) → stands d' entries → entries ≡ own s link history)
    → ((e : D) (a b : Ask) → is_full e a → is_full e b)
    → ((a : Ask) → is_full d' a → length history ≡ limit)
    → ((e : D) (a : Ask) → may_lack e a → ⊥)
    → IsServedLink s limit first history pipe (served_told link line o accepted last)
served_link stands is_full may_lack did keeps s limit first history link pipe line d d' o accepted last run begins mine_of alike full_of none =
    let mine : run.entries ≡ own s link history = mine_of run.entries (run.doer [] begins) in
    let trail = loose_of is_full may_lack did keeps d d' run.mets run.entries run.trail in
    record {
      taken = run.taken;
      written = run.written;
      mets = run.mets;
      took = run.took;
      wrote = run.wrote;
      fits = run.fits;
      space = run.space;
      lent = run.lent;
      moment = run.moment;
      asked = run.asked;
      answers = run.owed;
      legal = record {
        called = record {
          calls = ap (map answered) (sym mine) ∙ run.entered;
          full = λ any.
              let found = full_end is_full may_lack did keeps d d' run.mets trail any in full_of found.0 found.1;
          full_stays = full_stays is_full may_lack did keeps d d' run.mets alike trail;
          moments = subst (AllAt pipe.moment) mine run.moments;
        };
        counted = record {
          memory = subst (λ ms. MemoryIsLast (verdicts_of ms)) run.asked (memory_is_last first run.taken (verdicts_of run.mets));
          causes = are_caused is_full may_lack did keeps d d' run.mets none trail;
          count = run.count ∙ ap length mine;
          last = run.last_is ∙ ap (last_number None) mine;
        };
      };
      clock = run.clock;
      unasked = run.unasked;
      looks = run.looks;
      fails = run.fails;
      end = run.end;
    }

-- ---- the link was shut then

shut_end : (link line : Shown) (first : LinkState) (b : List ℕ) (js : List Verdict) (o : Outcome)
    → IsEnd link line first b js o → IsEnd link (shut_down line) first b js o
shut_end link line first b js outcome.Ended h = h
shut_end link line first b js (outcome.Torn n) h = h
shut_end link line first b js (outcome.BadFrame at) h = h
shut_end link line first b js (outcome.FrameTooLong at) h = h
shut_end link line first b js (outcome.BadTpdu at) h = h
shut_end link line first b js (outcome.Unexpected at) h = h
shut_end link line first b js (outcome.TooManyFragments at) h = h
shut_end link line first b js (outcome.TooLong at) h = h
shut_end link line first b js (outcome.NotS7 at) h = h
shut_end link line first b js outcome.ReadFault h = h
shut_end link line first b js outcome.WriteFault h = h
shut_end link line first b js outcome.Spent h = h
shut_end link line first b js outcome.Memory h = h

pub shut_link : (s : State) (limit : ℕ) (first : LinkState) (history : History) (pipe line : Shown) (link : ℕ) (o : Outcome) (accepted : ℕ) (last : Option ℕ)
    → IsServedLink s limit first history pipe (served_told link line o accepted last)
    → IsServedLink s limit first history pipe (served_told link (shut_down line) o accepted last)
shut_link s limit first history pipe line link o accepted last is = record {
  taken = is.taken;
  written = is.written;
  mets = is.mets;
  took = is.took;
  wrote = is.wrote;
  fits = is.fits;
  space = is.space;
  lent = is.lent;
  moment = is.moment;
  asked = is.asked;
  answers = is.answers;
  legal = is.legal;
  clock = is.clock;
  unasked = is.unasked;
  looks = is.looks;
  fails = is.fails;
  end = shut_end pipe line first is.taken (verdicts_of is.mets) o is.end;
}

-- a link that is shut now, and wasn't since it came, tells where
pub is_shut_down : (pipe line : Shown) → line.shut ≡ pipe.shut → IsShut pipe (shut_down line)
is_shut_down pipe line same = ap (option_map (λ before. Some (shut_behind line before))) same

-- a served link, shut
pub served_and_shut : (s : State) (limit : ℕ) (first : LinkState) (history : History) (pipe line line' : Shown) (link : ℕ) (o : Outcome) (accepted : ℕ) (last : Option ℕ)
    → line' ≡ shut_down line → line.shut ≡ pipe.shut
    → IsServedLink s limit first history pipe (served_told link line o accepted last)
    → IsServed s limit first history pipe (served_told link line' o accepted last)
served_and_shut s limit first history pipe line line' link o accepted last shut same is =
    subst (λ l. IsServed s limit first history pipe (served_told link l o accepted last)) (sym shut) record {
      came = inl (shut_link s limit first history pipe line link o accepted last is);
      shut = is_shut_down pipe line same;
    }

-- a link for which there was no memory, shut
pub alone_and_shut : (s : State) (limit : ℕ) (first : LinkState) (history : History) (pipe line' : Shown) (link : ℕ)
    → line' ≡ shut_down pipe
    → IsServed s limit first history pipe (served_told link line' outcome.Memory 0 None)
alone_and_shut s limit first history pipe line' link shut = record {
  came = inr (record { line_is = shut; result_is = refl; entries = refl; last = refl });
  shut = subst (IsShut pipe) (sym shut) (is_shut_down pipe pipe refl);
}

-- the same, told with numbers that are those
pub told_so : (s : State) (limit : ℕ) (first : LinkState) (history : History) (pipe line : Shown) (o : Outcome)
    {link link' accepted accepted' : ℕ} {last last' : Option ℕ}
    → link' ≡ link → accepted' ≡ accepted → last' ≡ last
    → IsServed s limit first history pipe (served_told link line o accepted last)
    → IsServed s limit first history pipe (served_told link' line o accepted' last')
told_so s limit first history pipe line o {link} {link'} {accepted} {accepted'} {last} {last'} named counted newest is =
    subst (λ (x : ℕ). IsServed s limit first history pipe (served_told x line o accepted' last')) (sym named)
    (subst (λ (x : ℕ). IsServed s limit first history pipe (served_told link line o x last')) (sym counted)
    (subst (λ (x : Option ℕ). IsServed s limit first history pipe (served_told link line o accepted x)) (sym newest) is))

-- the same, told otherwise
pub told_as : (s : State) (limit : ℕ) (first : LinkState) (history : History) (pipe : Shown) (told served : ServedTold)
    → told ≡ served → IsServed s limit first history pipe served → IsServed s limit first history pipe told
told_as s limit first history pipe told served is served_so =
    subst (λ (t : ServedTold). IsServed s limit first history pipe t) (sym is) served_so
