-- When all links were served, each was served over the whole history, which is theirs alone.
use Rattle.std.proofs.Common.{◌≡◌, ◌≢◌, ◌⊎◌, inl, inr, ℕ, ◌+◌, ◌<◌, ◌≤◌, Bool, true, false, true≢false, ltb, eqb, eq-eqb, List, [], ◌∷◌, length, map, Option, None, Some, refl, ap, sym, ◌∙◌, subst, arith, length-append}
use Rattle.std.specs.Prelude.{◌==◌, if◌then◌else◌}
use Rattle.std.proofs.lemmas.Bool.{eqb-true, eqb-false}
use Rattle.std.proofs.lemmas.Bool.Decides.{nat_tests}
use Rattle.s7_outer.specs.Shown.{Shown}
use Rattle.s7_turn.specs.declared.view.Entry.{Entry as Call}
use Rattle.s7_turn.specs.Histories.{has, calls, places_from, Each, Agrees}
use Rattle.s7_turn.specs.Turns.{longer}
use Rattle.s7_turn.proofs.Lists.{one-has}
use Rattle.s7_plant.specs.declared.request.Ask.{Ask}
use Rattle.s7_plant.specs.State.{State}
use Rattle.s7_session.specs.Books.{History, own}
use Rattle.s7_session.specs.Entry.{answered}
use Rattle.s7_session.specs.Legal.{IsLegalFor}
use Rattle.s7_session.specs.LinkState.{LinkState}
use Rattle.s7_session.specs.Telegrams.{Met, AllAt, last_number}
use Rattle.s7_session.proofs.SumLemmas.{AreNumbered, AreCounted, AreWithin, all_different, all_served, counts_add_up}
use Rattle.s7_listener.specs.Benches.{Terms, SeatTold, IsFirst}
use Rattle.s7_listener.specs.HallTerms.{hall_terms}
use Rattle.s7_listener.specs.Hosted.{IsServedAs, AreServed, AreHosted, counts_of}
use Rattle.s7_listener.specs.Served.{ServedTold, IsServed, IsServedLink, IsLeftAlone}
use Rattle.s7_listener.specs.Works.{IsIn, AreIn, IsOver}
use Rattle.s7_listener.proofs.OwnLemmas.{own_agrees}

-- the first seat of a hall
pub first_of_hall : (s : State) (limit : ℕ) (first : LinkState) (seat : SeatTold History) → seat.callers ≡ 0 ∷ [] → seat.seen ≡ [] → seat.next ≡ Some 1
    → IsFirst (hall_terms s limit first) seat
first_of_hall s limit first seat alone none gives = record {
  alone = alone;
  silent = ap (calls 0) none;
  fits = subst (λ (h : History). length h ≤ limit) (sym none) (omega arith);
  gives = gives;
}

-- ---- a link's front of a history

full_goes_on : (limit : ℕ) (front history : History) (callers : List ℕ) → Agrees front callers history → length history ≤ limit → length front ≡ limit → length history ≡ limit
full_goes_on limit front history callers a few is = omega (arith, few, is, ap length a.1, length-append front a.0)

longer_of : (limit : ℕ) (b : Bool) (xs ys : History) → length xs ≤ limit → length ys ≤ limit → length (if b then ys else xs) ≤ limit
longer_of limit true xs ys x y = y
longer_of limit false xs ys x y = x

-- what two seats saw, the longer of it
pub longer_fits : (limit : ℕ) (xs ys zs : History) → zs ≡ longer xs ys → length xs ≤ limit → length ys ≤ limit → length zs ≤ limit
longer_fits limit xs ys zs is x y =
    subst (λ (h : History). length h ≤ limit) (sym is) (longer_of limit (ltb (length xs) (length ys)) xs ys x y)

legal_on : (s : State) (limit : ℕ) (front history : History) (link : ℕ) (mets : List Met) (moment : Option ℕ) (entries : ℕ) (newest : Option ℕ)
    → Agrees front (link ∷ []) history → length history ≤ limit
    → IsLegalFor s limit front link mets moment entries newest → IsLegalFor s limit history link mets moment entries newest
legal_on s limit front history link mets moment entries newest a few l =
    let same : own s link history ≡ own s link front = own_agrees s link (link ∷ []) front history (one-has link) a in
    let called = l.called in
    let counted = l.counted in
    record {
      called = record {
        calls = ap (map answered) same ∙ called.calls;
        full = λ any. full_goes_on limit front history (link ∷ []) a few (called.full any);
        full_stays = called.full_stays;
        moments = subst (AllAt moment) (sym same) called.moments;
      };
      counted = record {
        memory = counted.memory;
        causes = counted.causes;
        count = counted.count ∙ ap length (sym same);
        last = counted.last ∙ ap (last_number None) (sym same);
      };
    }

-- a link that was served over a front of a history, after which it has no calls, was served over the history
served_on : (s : State) (limit : ℕ) (first : LinkState) (front history : History) (pipe : Shown) (served : ServedTold)
    → Agrees front (served.link ∷ []) history → length history ≤ limit
    → IsServed s limit first front pipe served → IsServed s limit first history pipe served
served_on s limit first front history pipe served a few is = record { came = on is.came; shut = is.shut } where
  on : IsServedLink s limit first front pipe served ⊎ IsLeftAlone pipe served → IsServedLink s limit first history pipe served ⊎ IsLeftAlone pipe served
  on (inr alone) = inr alone
  on (inl is) = inl record {
    taken = is.taken;
    written = is.written;
    mets = is.mets;
    took = is.took;
    wrote = is.wrote;
    fits = is.fits;
    space = is.space;
    lent = is.lent;
    moment = is.moment;
    asked = is.asked;
    answers = is.answers;
    legal = legal_on s limit front history served.link is.mets pipe.moment served.entries served.last a few is.legal;
    clock = is.clock;
    unasked = is.unasked;
    looks = is.looks;
    fails = is.fails;
    end = is.end;
  }

in_whole : (s : State) (limit : ℕ) (first : LinkState) (all : SeatTold History) (number : ℕ) (pipe : Shown) (served : ServedTold) → length all.seen ≤ limit
    → IsIn (hall_terms s limit first) all number pipe served → IsServedAs s limit first all.seen number pipe served
in_whole s limit first all number pipe served few i =
    let a = subst (λ (k : ℕ). Agrees i.seen (k ∷ []) all.seen) (sym i.served_as.number_is) i.agrees in
    record {
      number_is = i.served_as.number_is;
      is_served = served_on s limit first i.seen all.seen pipe served a few i.served_as.is_served;
      count = i.served_as.count ∙ ap length (sym (own_agrees s number (number ∷ []) i.seen all.seen (one-has number) i.agrees));
    }

-- ---- all of them

all_in_whole : (s : State) (limit : ℕ) (first : LinkState) (all : SeatTold History) (number : ℕ) (pipes : List Shown) (links : List ServedTold) → length all.seen ≤ limit
    → AreIn (hall_terms s limit first) all number pipes links → AreServed s limit first all.seen number pipes links
all_in_whole s limit first all number [] [] few are = tt
all_in_whole s limit first all number [] (l ∷ links) few are = absurd are
all_in_whole s limit first all number (p ∷ pipes) [] few are = absurd are
all_in_whole s limit first all number (p ∷ pipes) (l ∷ links) few are =
    (in_whole s limit first all number p l few are.0, all_in_whole s limit first all (number + 1) pipes links few are.1)

as_many : (s : State) (limit : ℕ) (first : LinkState) (history : History) (number : ℕ) (pipes : List Shown) (links : List ServedTold)
    → AreServed s limit first history number pipes links → length (counts_of links) ≡ length pipes
as_many s limit first history number [] [] are = refl
as_many s limit first history number [] (l ∷ links) are = absurd are
as_many s limit first history number (p ∷ pipes) [] are = absurd are
as_many s limit first history number (p ∷ pipes) (l ∷ links) are =
    omega (arith, as_many s limit first history (number + 1) pipes links are.1)

are_numbered : (s : State) (limit : ℕ) (first : LinkState) (history : History) (number : ℕ) (pipes : List Shown) (links : List ServedTold)
    → AreServed s limit first history number pipes links → AreNumbered number (counts_of links)
are_numbered s limit first history number [] [] are = tt
are_numbered s limit first history number [] (l ∷ links) are = absurd are
are_numbered s limit first history number (p ∷ pipes) [] are = absurd are
are_numbered s limit first history number (p ∷ pipes) (l ∷ links) are =
    (are.0.number_is, are_numbered s limit first history (number + 1) pipes links are.1)

are_counted : (s : State) (limit : ℕ) (first : LinkState) (history : History) (number : ℕ) (pipes : List Shown) (links : List ServedTold)
    → AreServed s limit first history number pipes links → AreCounted s history (counts_of links)
are_counted s limit first history number [] [] are = tt
are_counted s limit first history number [] (l ∷ links) are = absurd are
are_counted s limit first history number (p ∷ pipes) [] are = absurd are
are_counted s limit first history number (p ∷ pipes) (l ∷ links) are = (
  are.0.count ∙ ap (λ k. length (own s k history)) (sym are.0.number_is),
  are_counted s limit first history (number + 1) pipes links are.1,
)

-- each number is one that the seat stands for
in_stands : {Seen : Type 0} (terms : Terms Seen) (all : SeatTold Seen) (number : ℕ) (pipes : List Shown) (links : List ServedTold) → AreIn terms all number pipes links
    → (x : ℕ) → number ≤ x → x < number + length pipes → has all.callers x ≡ true
in_stands terms all number [] [] are x least most = absurd (omega (arith, least, most))
in_stands terms all number [] (l ∷ links) are x least most = absurd are
in_stands terms all number (p ∷ pipes) [] are x least most = absurd are
in_stands terms all number (p ∷ pipes) (l ∷ links) are x least most =
    first_or (x == number) refl (λ apart. in_stands terms all (number + 1) pipes links are.1 x (omega (arith, least, apart)) (omega (arith, most)))
  where
    first_or : (b : Bool) → (x == number) ≡ b → (x ≢ number → has all.callers x ≡ true) → has all.callers x ≡ true
    first_or true e later = ap (has all.callers) (eqb-true x number e) ∙ are.0.stands
    first_or false e later = later (eqb-false x number e)

-- ---- whose the calls are

-- whoever has a call first made one
made_one : (k : ℕ) (call : Call Ask) (history : History) → places_from k call.caller (call ∷ history) ≡ [] → ⊥
made_one k call history none = some_first (eqb call.caller call.caller) (eq-eqb call.caller call.caller refl) none
  where
    some_first : (b : Bool) → b ≡ true → (if b then k ∷ places_from (k + 1) call.caller history else places_from (k + 1) call.caller history) ≡ [] → ⊥
    some_first true e none = absurd (cc (none))
    some_first false e none = true≢false (sym e)

-- who made no call made none later
made_none : (k x : ℕ) (call : Call Ask) (history : History) → places_from k x (call ∷ history) ≡ [] → places_from (k + 1) x history ≡ []
made_none k x call history none = rest_of (eqb call.caller x) none
  where
    rest_of : (b : Bool) → (if b then k ∷ places_from (k + 1) x history else places_from (k + 1) x history) ≡ [] → places_from (k + 1) x history ≡ []
    rest_of true none = absurd (cc (none))
    rest_of false none = none

-- where all numbers below the next one but so many from 1 on are idle, the calls are of these
are_within : (k count next : ℕ) (history : History) → Each (λ e. e.caller < next) history
    → ((x : ℕ) → (x ≡ 0) ⊎ ((count < x) × (x < next)) → places_from k x history ≡ []) → AreWithin 1 count history
are_within k count next [] below idle = tt
are_within k count next (call ∷ history) below idle = (
  (least, most),
  are_within (k + 1) count next history below.1 (λ x is. made_none k x call history (idle x is)),
)
  where
    least : 1 ≤ call.caller
    least = omega (arith, λ (none : call.caller ≡ 0). made_one k call history (idle call.caller (inl none)))

    most : call.caller < 1 + count
    most = omega (arith, λ (more : count < call.caller). made_one k call history (idle call.caller (inr (more, below.0))))

-- ---- the whole

-- the seat stands for each number that was given
pub covers : {Seen : Type 0} (terms : Terms Seen) (all : SeatTold Seen) (pipes : List Shown) (links : List ServedTold) → (o : IsOver terms all pipes links)
    → (x : ℕ) → x < o.next → has all.callers x ≡ true
covers terms all pipes links o x below = by_place (x == 0) refl (ltb (length pipes) x) refl
  where
    by_place : (a : Bool) → (x == 0) ≡ a → (b : Bool) → ltb (length pipes) x ≡ b → has all.callers x ≡ true
    by_place true e b f = (o.idle x (inl (eqb-true x 0 e))).stands
    by_place false e true f = (o.idle x (inr (grind (arith, nat_tests, f), below))).stands
    by_place false e false f =
        in_stands terms all 1 pipes links o.links_in x (omega (arith, eqb-false x 0 e)) (grind (arith, nat_tests, f))

over_seen : (s : State) (limit : ℕ) (first : LinkState) (all : SeatTold History) (pipes : List Shown) (links : List ServedTold) → (o : IsOver (hall_terms s limit first) all pipes links)
    → Each (λ e. e.caller < o.next) all.seen → AreHosted s limit first all.seen pipes links
over_seen s limit first all pipes links o below =
    let served = all_in_whole s limit first all 1 pipes links o.few o.links_in in
    let many = as_many s limit first all.seen 1 pipes links served in
    let numbered = are_numbered s limit first all.seen 1 pipes links served in
    let counted = are_counted s limit first all.seen 1 pipes links served in
    let within : AreWithin 1 (length (counts_of links)) all.seen =
    subst (λ (n : ℕ). AreWithin 1 n all.seen) (sym many)
    (are_within 0 (length pipes) o.next all.seen below (λ x idle. (o.idle x idle).silent)) in
    record {
      served = served;
      few = o.few;
      only = all_served 1 (counts_of links) all.seen numbered within;
      different = all_different 1 (counts_of links) numbered;
      sum = counts_add_up s 1 (counts_of links) all.seen numbered within counted;
    }

pub over_is_hosted : (s : State) (limit : ℕ) (first : LinkState) (all : SeatTold History) (history : History) (pipes : List Shown) (links : List ServedTold) → (o : IsOver (hall_terms s limit first) all pipes links)
    → history ≡ all.seen → Each (λ e. e.caller < o.next) history
    → AreHosted s limit first history pipes links
over_is_hosted s limit first all history pipes links o is below =
    subst (λ (h : History). AreHosted s limit first h pipes links) (sym is)
    (over_seen s limit first all pipes links o (subst (λ (h : History). Each (λ e. e.caller < o.next) h) is below))
