-- One more link, or none: what each step of serving a door's links leaves.
use Rattle.std.proofs.Common.{◌≡◌, ◌⊎◌, inl, inr, ℕ, ◌+◌, ◌<◌, ◌≤◌, Bool, true, false, true≢false, List, [], ◌∷◌, ◌++◌, length, map, Option, Some, None, is_some, IfSome, Result, Ok, IfOk, refl, ap, sym, ◌∙◌, subst, arith, append_assoc, append-nil, length-append}
use Rattle.std.proofs.lemmas.List.{length-map}
use mathlib.Core.List.{map-append}
use Rattle.std.specs.List.{AllByRecursion}
use Rattle.std.specs.Prelude.{◌==◌, ◌&&◌, Err, OnOk, is_ok}
use Rattle.std.proofs.lemmas.Bool.{eqb-true, eqb-false}
use Rattle.s7_outer.specs.Count.{RoseExactly}
use Rattle.s7_outer.specs.Door.{GivesNext, PortFailed}
use Rattle.s7_outer.specs.DoorShown.{DoorShown}
use Rattle.s7_outer.specs.Shown.{Shown}
use Rattle.s7_outer.specs.declared.door.Arrival.TheVariants as arrival
use Rattle.s7_turn.specs.Histories.{has}
use Rattle.s7_turn.proofs.Lists.{one-has}
use Rattle.s7_listener.specs.Benches.{Terms, SeatTold, IsFirst, IsSplit, IsMet, HasServed}
use Rattle.s7_listener.specs.Given.{Gave, IsEmptied, Gives, HasGiven, HasFailed}
use Rattle.s7_listener.specs.Served.{ServedTold, told_of}
use Rattle.s7_listener.specs.Works.{Handed, handed, IsKept, IsHanded, IsIn, IsIdle, AreIn, WorksAre, IsUnderWay, IsServing, HasStopped, Stops, IsAccepted, IsGathering, IsGathered, IsOver, failed_by}
use Rattle.s7_listener.specs.declared.work.Stop.{Stop}
use Rattle.s7_listener.specs.declared.work.Stop.TheVariants as stop
use Rattle.s7_listener.specs.declared.work.Work.{Work}
use Rattle.s7_listener.specs.declared.work.Work.TheVariants as work
use Rattle.s7_listener.proofs.WorkLemmas.{SeesOn, same_sees_on, split_sees_on, met_sees_on, in_later, idle_later, new_is_idle, served_is_in, met_next, split_number, split_next, split_own_fits, split_is_handed, split_fits, works_later, under_way_later}

-- ---- lists

module _ {A : Type 0} where
  pub all_behind : (P : A → Type 0) (xs : List A) (x : A) (ys : List A) → xs ≡ x ∷ ys → AllByRecursion P xs → AllByRecursion P ys
  all_behind P xs x ys is all = (subst (AllByRecursion P) is all).1

  pub all_same : (P : A → Type 0) (xs ys : List A) → ys ≡ xs → AllByRecursion P xs → AllByRecursion P ys
  all_same P xs ys is all = subst (AllByRecursion P) (sym is) all

  pub empty_is : (xs : List A) (n : ℕ) → n ≡ length xs → n ≡ 0 → xs ≡ []
  empty_is [] n is none = refl
  empty_is (x ∷ xs) n is none = absurd (omega (arith, is, none))

-- a thread that serves a link keeps what it was asked for
pub kept_of : {H L : Type 0} (keeps : H → Type 0) (w : Work H L) (h : H) → w ≡ work.Running h → IsKept keeps w → keeps h
kept_of keeps w h is kept = subst (IsKept keeps) is kept

pub if_ok_of : {T E : Type 0} (P : T → Type 0) (r : Result T E) (x : T) → r ≡ Ok x → IfOk r P → P x
if_ok_of P r x is p = subst (λ s. IfOk s P) is p

pub not_failed : {T E P : Type 0} (r : Result T E) → is_ok r ≡ true → OnOk r P → P
not_failed (Ok x) ok p = p
not_failed (Err e) ok p = absurd (true≢false (sym ok))

pub none_of : (o : Option Stop) → is_some o ≡ false → o ≡ None
none_of None e = refl
none_of (Some w) e = absurd (true≢false e)

-- ---- the door

module _ {L : Type 0} where
  gave_none : (coming : Option (List L)) → Gave [] coming coming
  gave_none None = refl
  gave_none (Some links) = (links, refl, refl)

  gave_more : (before old new : Option (List L)) (lines : List L) (line : L) → Gave lines before old → GivesNext old new (arrival.Link line)
      → Gave (lines ++ line ∷ []) before new
  gave_more None old new lines line g n = subst (λ (o : Option (List L)). GivesNext o new (arrival.Link line)) g n
  gave_more (Some links) old new lines line g n =
      let next = subst (λ (o : Option (List L)). GivesNext o new (arrival.Link line)) g.2 n in
      (next.0, g.1 ∙ ap (λ l. lines ++ l) next.1 ∙ sym (append_assoc lines (line ∷ []) next.0), next.2)

  same_at_end : (old new : Option (List L)) → GivesNext old new arrival.End → new ≡ old
  same_at_end None new n = n
  same_at_end (Some links) new n = n.1 ∙ ap Some (sym n.0)

  same_at_fault : (old new : Option (List L)) → GivesNext old new arrival.Failed → new ≡ old
  same_at_fault None new n = n
  same_at_fault (Some links) new n = n

  emptied : (old new : Option (List L)) → GivesNext old new arrival.End → IsEmptied new
  emptied None new n = subst IsEmptied (sym n) tt
  emptied (Some links) new n = subst IsEmptied (sym n.1) refl

  gives_same : (port : ℕ) (before old now : DoorShown L) (lines : List L) → Gives port before old lines → now.heard ≡ old.heard
      → now.listens ≡ old.listens → now.lent ≡ old.lent → now.coming ≡ old.coming → Gives port before now lines
  gives_same port before old now lines g heard listened lent same = record {
    heard = heard ∙ g.heard;
    listened = subst (λ (n : ℕ). RoseExactly 1 before.listens n) (sym listened) g.listened;
    lent = lent ∙ g.lent;
    gave = subst (λ (c : Option (List L)). Gave lines before.coming c) (sym same) g.gave;
  }

  pub gives_more : (port : ℕ) (before old now : DoorShown L) (lines : List L) (line : L) → Gives port before old lines → now.heard ≡ old.heard
      → now.listens ≡ old.listens → now.lent ≡ old.lent → GivesNext old.coming now.coming (arrival.Link line)
      → Gives port before now (lines ++ line ∷ [])
  gives_more port before old now lines line g heard listened lent next = record {
    heard = heard ∙ g.heard;
    listened = subst (λ (n : ℕ). RoseExactly 1 before.listens n) (sym listened) g.listened;
    lent = lent ∙ g.lent;
    gave = gave_more before.coming old.coming now.coming lines line g.gave next;
  }

  pub gives_at_end : (port : ℕ) (before old now : DoorShown L) (lines : List L) → Gives port before old lines
      → old.faults ≡ before.faults → now.heard ≡ old.heard → now.listens ≡ old.listens → now.lent ≡ old.lent
      → GivesNext old.coming now.coming arrival.End → now.faults ≡ old.faults
      → Gives port before now lines × Stops port before now stop.End
  gives_at_end port before old now lines g unfailed heard listened lent next same = (
    gives_same port before old now lines g heard listened lent (same_at_end old.coming now.coming next),
    (emptied old.coming now.coming next, same ∙ unfailed),
  )

  pub gives_at_fault : (port : ℕ) (before old now : DoorShown L) (lines : List L) → Gives port before old lines
      → old.faults ≡ before.faults → now.heard ≡ old.heard → now.listens ≡ old.listens → now.lent ≡ old.lent
      → GivesNext old.coming now.coming arrival.Failed → PortFailed old.heard old.faults now.faults
      → Gives port before now lines × Stops port before now stop.Failed
  gives_at_fault port before old now lines g unfailed heard listened lent next failed = (
    gives_same port before old now lines g heard listened lent (same_at_fault old.coming now.coming next),
    subst (λ (p : ℕ). PortFailed p before.faults now.faults) g.heard
        (subst (λ (faults : ℕ → ℕ). PortFailed old.heard faults now.faults) unfailed failed),
  )

  -- a door that hears a port has given nothing yet
  pub heard_gives : (port : ℕ) (old now : DoorShown L) → now.heard ≡ port → RoseExactly 1 old.listens now.listens → now.lent ≡ old.lent
      → now.coming ≡ old.coming → Gives port old now []
  heard_gives port old now heard listened lent same = record {
    heard = heard;
    listened = listened;
    lent = lent;
    gave = subst (λ (c : Option (List L)). Gave [] old.coming c) (sym same) (gave_none old.coming);
  }

module _ {H L Seen : Type 0} (keeps : H → Type 0) (gets : H → Handed Seen) (shows : L → Shown) (terms : Terms Seen) where
  -- ---- one more link came

  pub split_under_way : (seat seat' own : SeatTold Seen) (pipes : List Shown) (works : List (Work H L)) → IsSplit terms seat seat' own
      → IsUnderWay keeps gets shows terms seat pipes works → IsUnderWay keeps gets shows terms seat' pipes works
  split_under_way seat seat' own pipes works s u =
      under_way_later keeps gets shows terms seat seat' pipes works (split_sees_on terms seat seat' own s) (split_fits terms seat seat' own s u.few) u

  -- the number behind that of the new seat is the next one
  next_more : (n : ℕ) (lines : List L) (line : L) → n ≡ length lines + 1 → n + 1 ≡ length (lines ++ line ∷ []) + 1
  next_more n lines line is = omega (arith, is, length-append lines (line ∷ []))

  pub one_more : (port : ℕ) (before old now : DoorShown L) (seat seat' own all : SeatTold Seen) (lines : List L) (line : L) (works works' : List (Work H L))
      → IsServing keeps gets shows terms port before old seat lines works
      → Gives port before now (lines ++ line ∷ []) → now.faults ≡ old.faults → IsSplit terms seat seat' own → all.next ≡ seat'.next
      → ((pipes : List Shown) → IsHanded terms (length pipes + 1) (shows line) (handed own (shows line))
      → IsUnderWay keeps gets shows terms seat' pipes works → IsUnderWay keeps gets shows terms all (pipes ++ shows line ∷ []) works')
      → IsServing keeps gets shows terms port before now all (lines ++ line ∷ []) works'
  one_more port before old now seat seat' own all lines line works works' s gives same split next goes_on =
      let pipes = map shows lines in
      let place : length lines + 1 ≡ length pipes + 1 = omega (arith, length-map lines shows) in
      record {
        gives = gives;
        unfailed = same ∙ s.unfailed;
        under_way = subst (λ (ps : List Shown). IsUnderWay keeps gets shows terms all ps works') (sym (map-append shows lines (line ∷ [])))
            (goes_on pipes
            (split_is_handed terms (length pipes + 1) seat seat' own (shows line) split (s.next ∙ ap Some place) s.under_way.few)
            (split_under_way seat seat' own pipes works split s.under_way));
        next = next ∙ split_next terms seat seat' own (length lines + 1) split s.next ∙ ap Some (next_more (length lines + 1) lines line refl);
      }

  -- ---- none came

  pub no_more : (port : ℕ) (before old now : DoorShown L) (seat seat' own all : SeatTold Seen) (lines : List L) (works : List (Work H L))
      → IsServing keeps gets shows terms port before old seat lines works
      → Gives port before now lines → IsSplit terms seat seat' own → IsMet terms seat' own all
      → HasStopped keeps gets shows terms port before now all lines works
  no_more port before old now seat seat' own all lines works s gives split met =
      let pipes = map shows lines in
      let u = split_under_way seat seat' own pipes works split s.under_way in
      let few : terms.fits own.seen = split_own_fits terms seat seat' own split s.under_way.few in
      let two : (length lines + 1) + 1 ≡ length lines + 2 = omega arith in
      record {
        gives = gives;
        under_way = under_way_later keeps gets shows terms seat' all pipes works (met_sees_on terms seat' own all met)
            (met.fits u.few few) u;
        next = met_next terms seat' own all met split.gives_none ∙ split_next terms seat seat' own (length lines + 1) split s.next ∙ ap Some two;
        last = subst (IsIdle terms all) (split_number terms seat seat' own (length lines + 1) split s.next) (new_is_idle terms seat' own all split.is_new met);
      }

  pub stopped : (port most : ℕ) (before old now : DoorShown L) (seat all : SeatTold Seen) (lines : List L) (works works' : List (Work H L)) (why : Option Stop) → is_some why ≡ true
      → IfSome why (λ w. (p : ℕ) (b : DoorShown L) (ls : List L) → IsServing keeps gets shows terms p b old seat ls works
      → HasStopped keeps gets shows terms p b now all ls works' × Stops p b now w)
      → IsServing keeps gets shows terms port before old seat lines works → length lines < most
      → IsAccepted keeps gets shows terms port most before now all lines works' why
  stopped port most before old now seat all lines works works' None some is s few = absurd (true≢false (sym some))
  stopped port most before old now seat all lines works works' (Some w) some is s few =
      let end = is port before lines s in
      (end.0, few, end.1)

  -- ---- the beginning

  pub begins : (port : ℕ) (before now : DoorShown L) (seat : SeatTold Seen) (works : List (Work H L)) → IsFirst terms seat → works ≡ [] → Gives port before now [] → now.faults ≡ before.faults
      → IsServing keeps gets shows terms port before now seat [] works
  begins port before now seat works f none gives unfailed = record {
    gives = gives;
    unfailed = unfailed;
    under_way = record {
      idle = record {
        stands = ap (λ l. has l 0) f.alone ∙ one-has 0;
        silent = f.silent;
      };
      few = f.fits;
      works_are = subst (λ (ws : List (Work H L)). WorksAre keeps gets shows terms seat 1 [] ws) (sym none) tt;
    };
    next = f.gives;
  }

  -- ---- links are taken in

  ins_later : (old new : SeatTold Seen) (number : ℕ) (pipes : List Shown) (links : List ServedTold) → SeesOn terms old new
      → AreIn terms old number pipes links → AreIn terms new number pipes links
  ins_later old new number [] [] s are = tt
  ins_later old new number [] (l ∷ links) s are = absurd are
  ins_later old new number (p ∷ pipes) [] s are = absurd are
  ins_later old new number (p ∷ pipes) (l ∷ links) s are =
      (in_later terms old new number p l s are.0, ins_later old new (number + 1) pipes links s are.1)

  ins_more : (all : SeatTold Seen) (number : ℕ) (pipes : List Shown) (links : List ServedTold) (pipe : Shown) (served : ServedTold)
      → AreIn terms all number pipes links → ((n : ℕ) → n ≡ number + length pipes → IsIn terms all n pipe served)
      → AreIn terms all number (pipes ++ pipe ∷ []) (links ++ served ∷ [])
  ins_more all number [] [] pipe served are is = (is number (omega arith), tt)
  ins_more all number [] (l ∷ links) pipe served are is = absurd are
  ins_more all number (p ∷ pipes) [] pipe served are is = absurd are
  ins_more all number (p ∷ pipes) (l ∷ links) pipe served are is =
      (are.0, ins_more all (number + 1) pipes links pipe served are.1 (λ n e. is n (omega (arith, e))))

  -- what is gathered, with the first of the others taken in
  take_one : (start old new : SeatTold Seen) (pipes first others : List Shown) (pipe : Shown) (works : List (Work H L)) (links : List ServedTold) (served : ServedTold)
      → SeesOn terms old new → pipes ≡ first ++ pipe ∷ others → AreIn terms old 1 first links
      → WorksAre keeps gets shows terms old ((length first + 1) + 1) others works
      → terms.fits new.seen → new.next ≡ start.next → ((x : ℕ) → IsIdle terms start x → IsIdle terms old x)
      → IsIn terms new (length first + 1) pipe served
      → IsGathering keeps gets shows terms start new pipes works (links ++ served ∷ [])
  take_one start old new pipes first others pipe works links served s cut taken are few next idle is = record {
    first = first ++ pipe ∷ [];
    others = others;
    cut = cut ∙ sym (append_assoc first (pipe ∷ []) others);
    taken = ins_more new 1 first links pipe served (ins_later old new 1 first links s taken)
        (λ n e. subst (λ (k : ℕ). IsIn terms new k pipe served) (omega (arith, e)) is);
    works_are = subst (λ (k : ℕ). WorksAre keeps gets shows terms new k others works) (omega (arith, length-append first (pipe ∷ [])))
        (works_later keeps gets shows terms old new ((length first + 1) + 1) others works s are);
    few = few;
    next = next;
    idle = λ x i. idle_later terms old new x s (idle x i);
  }

  -- one that was served already
  pub take_done : (start all : SeatTold Seen) (pipes : List Shown) (w : Work H L) (works : List (Work H L)) (links links' : List ServedTold) (served : _) → w ≡ work.Done served
      → links' ≡ links ++ told_of shows served ∷ []
      → IsGathering keeps gets shows terms start all pipes (w ∷ works) links
      → IsGathering keeps gets shows terms start all pipes works links'
  take_done start all pipes w works links links' served is more g =
      by_others g.others g.cut (subst (λ (v : Work H L). WorksAre keeps gets shows terms all (length g.first + 1) g.others (v ∷ works)) is g.works_are)
    where
      by_others : (others : List Shown) → pipes ≡ g.first ++ others
          → WorksAre keeps gets shows terms all (length g.first + 1) others (work.Done served ∷ works)
          → IsGathering keeps gets shows terms start all pipes works links'
      by_others [] cut are = absurd are
      by_others (pipe ∷ others) cut are =
          subst (λ (ls : List ServedTold). IsGathering keeps gets shows terms start all pipes works ls) (sym more)
          (take_one start all all pipes g.first others pipe works links (told_of shows served) (same_sees_on terms all) cut g.taken are.1 g.few g.next g.idle are.0)

  -- one that a thread served
  pub take_joined : (start old back new : SeatTold Seen) (pipes : List Shown) (w : Work H L) (works : List (Work H L)) (links links' : List ServedTold) (h : H) (served : ServedTold)
      → w ≡ work.Running h → links' ≡ links ++ served ∷ []
      → HasServed terms (gets h).seat back (gets h).pipe served → IsMet terms old back new
      → IsGathering keeps gets shows terms start old pipes (w ∷ works) links
      → IsGathering keeps gets shows terms start new pipes works links'
  take_joined start old back new pipes w works links links' h served is more has_served met g =
      by_others g.others g.cut (subst (λ (v : Work H L). WorksAre keeps gets shows terms old (length g.first + 1) g.others (v ∷ works)) is g.works_are)
    where
      by_others : (others : List Shown) → pipes ≡ g.first ++ others
          → WorksAre keeps gets shows terms old (length g.first + 1) others (work.Running h ∷ works)
          → IsGathering keeps gets shows terms start new pipes works links'
      by_others [] cut are = absurd are
      by_others (pipe ∷ others) cut are =
          let given = are.0.1 in
          let is_in : IsIn terms new (gets h).seat.number (gets h).pipe served =
          served_is_in terms (gets h).seat back old new (gets h).pipe served given.is_new has_served met in
          let numbered : IsIn terms new (length g.first + 1) (gets h).pipe served =
          subst (λ (k : ℕ). IsIn terms new k (gets h).pipe served) given.number_is is_in in
          let piped : IsIn terms new (length g.first + 1) pipe served =
          subst (λ (p : Shown). IsIn terms new (length g.first + 1) p served) given.pipe_is numbered in
          subst (λ (ls : List ServedTold). IsGathering keeps gets shows terms start new pipes works ls) (sym more)
          (take_one start old new pipes g.first others pipe works links served (met_sees_on terms old back new met) cut g.taken are.1
          (met.fits g.few (has_served.fits given.few))
          (met_next terms old back new met (has_served.same_next ∙ given.gives_none) ∙ g.next) g.idle piped)

  pub gathers_none : (all : SeatTold Seen) (pipes : List Shown) (works rest : List (Work H L)) (links : List ServedTold) → rest ≡ works → links ≡ []
      → IsUnderWay keeps gets shows terms all pipes works → IsGathering keeps gets shows terms all all pipes rest links
  gathers_none all pipes works rest links same none u =
      subst (λ (ls : List ServedTold). IsGathering keeps gets shows terms all all pipes rest ls) (sym none) record {
        first = [];
        others = pipes;
        cut = refl;
        taken = tt;
        works_are = subst (λ (ws : List (Work H L)). WorksAre keeps gets shows terms all 1 pipes ws) (sym same) u.works_are;
        few = u.few;
        next = refl;
        idle = λ x i. i;
      }

  pub gathering_of : (start all : SeatTold Seen) (pipes : List Shown) (works rest : List (Work H L)) (links : List ServedTold) → works ≡ rest
      → IsGathering keeps gets shows terms start all pipes works links → IsGathering keeps gets shows terms start all pipes rest links
  gathering_of start all pipes works rest links same g =
      subst (λ (ws : List (Work H L)). IsGathering keeps gets shows terms start all pipes ws links) same g

  -- ---- the end

  as_many_works : (all : SeatTold Seen) (number : ℕ) (pipes : List Shown) (works : List (Work H L)) → WorksAre keeps gets shows terms all number pipes works
      → length works ≡ length pipes
  as_many_works all number [] [] are = refl
  as_many_works all number [] (w ∷ works) are = absurd are
  as_many_works all number (p ∷ pipes) [] are = absurd are
  as_many_works all number (p ∷ pipes) (w ∷ works) are = omega (arith, as_many_works all (number + 1) pipes works are.1)

  -- as many links are under way as came
  pub as_many_came : (all : SeatTold Seen) (lines : List L) (works : List (Work H L)) → IsUnderWay keeps gets shows terms all (map shows lines) works
      → length works ≡ length lines
  as_many_came all lines works u = as_many_works all 1 (map shows lines) works u.works_are ∙ length-map lines shows

  pub all_gathered : (start all : SeatTold Seen) (pipes : List Shown) (works : List (Work H L)) (links : List ServedTold) → length works ≡ 0
      → IsGathering keeps gets shows terms start all pipes works links → IsGathered terms start all pipes links
  all_gathered start all pipes (w ∷ works) links none g = absurd (omega (arith, none))
  all_gathered start all pipes [] links none g = record {
    taken = by_others g.others g.cut g.works_are;
    few = g.few;
    next = g.next;
    idle = g.idle;
  }
    where
      by_others : (others : List Shown) → pipes ≡ g.first ++ others → WorksAre keeps gets shows terms all (length g.first + 1) others []
          → AreIn terms all 1 pipes links
      by_others [] cut are = subst (λ (ps : List Shown). AreIn terms all 1 ps links) (sym (cut ∙ append-nil g.first)) g.taken
      by_others (p ∷ others) cut are = absurd are

  -- the numbers that are idle: 0, and the last one where no link came for it
  idle_without : (start all : SeatTold Seen) (pipes : List Shown) (next : ℕ) → ((x : ℕ) → IsIdle terms start x → IsIdle terms all x) → IsIdle terms start 0 → next ≡ length pipes + 1
      → (x : ℕ) → (x ≡ 0) ⊎ ((length pipes < x) × (x < next)) → IsIdle terms all x
  idle_without start all pipes next later zero is x (inl e) = subst (IsIdle terms all) (sym e) (later 0 zero)
  idle_without start all pipes next later zero is x (inr between) = absurd (omega (arith, is, between.0, between.1))

  idle_with : (start all : SeatTold Seen) (pipes : List Shown) (next last : ℕ) → ((x : ℕ) → IsIdle terms start x → IsIdle terms all x) → IsIdle terms start 0 → IsIdle terms start last
      → last ≡ length pipes + 1 → next ≡ length pipes + 2
      → (x : ℕ) → (x ≡ 0) ⊎ ((length pipes < x) × (x < next)) → IsIdle terms all x
  idle_with start all pipes next last later zero end is_last is x (inl e) = subst (IsIdle terms all) (sym e) (later 0 zero)
  idle_with start all pipes next last later zero end is_last is x (inr between) =
      subst (IsIdle terms all) (omega (arith, is_last, is, between.0, between.1)) (later last end)

  pub accepted_under_way : (port most : ℕ) (before now : DoorShown L) (all : SeatTold Seen) (lines : List L) (works : List (Work H L)) (why : Option Stop)
      → IsAccepted keeps gets shows terms port most before now all lines works why → IsUnderWay keeps gets shows terms all (map shows lines) works
  accepted_under_way port most before now all lines works None a = a.0.under_way
  accepted_under_way port most before now all lines works (Some why) a = a.0.under_way

  pub is_over : (port most : ℕ) (before now : DoorShown L) (start all : SeatTold Seen) (lines : List L) (works : List (Work H L)) (links : List ServedTold) (why : Option Stop)
      → IsAccepted keeps gets shows terms port most before now start lines works why
      → IsGathered terms start all (map shows lines) links
      → IsOver terms all (map shows lines) links
  is_over port most before now start all lines works links None a g = record {
    next = length lines + 1;
    gives = g.next ∙ a.0.next;
    idle = idle_without start all (map shows lines) (length lines + 1) g.idle a.0.under_way.idle (omega (arith, length-map lines shows));
    few = g.few;
    links_in = g.taken;
  }
  is_over port most before now start all lines works links (Some why) a g = record {
    next = length lines + 2;
    gives = g.next ∙ a.0.next;
    idle = idle_with start all (map shows lines) (length lines + 2) (length lines + 1) g.idle a.0.under_way.idle a.0.last
        (omega (arith, length-map lines shows)) (omega (arith, length-map lines shows));
    few = g.few;
    links_in = g.taken;
  }

  some_came : (failed : Bool) (n : ℕ) → (failed && (n == 0)) ≡ false → failed ≡ true → 0 < n
  some_came true n not is = omega (arith, eqb-false n 0 not)
  some_came false n not is = absurd (true≢false (sym is))

  has_given : (port most : ℕ) (before now : DoorShown L) (all : SeatTold Seen) (lines : List L) (works : List (Work H L)) (why : Option Stop) (count : ℕ)
      → IsAccepted keeps gets shows terms port most before now all lines works why
      → count ≡ length works → (failed_by why && (count == 0)) ≡ false
      → HasGiven port most before now lines (failed_by why)
  has_given port most before now all lines works None count a many some = record {
    gives = a.0.gives;
    few = omega (arith, a.1);
    fault = λ f. absurd (true≢false (sym f));
    all = λ f. (inl a.1, a.0.unfailed);
  }
  has_given port most before now all lines works (Some stop.End) count a many some = record {
    gives = a.0.gives;
    few = omega (arith, a.1);
    fault = λ f. absurd (true≢false (sym f));
    all = λ f. (inr a.2.0, a.2.1);
  }
  has_given port most before now all lines works (Some stop.Failed) count a many some = record {
    gives = a.0.gives;
    few = omega (arith, a.1);
    fault = λ f. (omega (arith, some_came true count some f, many, as_many_came all lines works a.0.under_way), a.1, a.2);
    all = λ f. absurd (true≢false f);
  }

  none_came : (lines : List L) → length lines ≡ 0 → lines ≡ []
  none_came [] e = refl
  none_came (l ∷ lines) e = absurd (omega (arith, e))

  -- the door failed before a link came
  has_failed : (port most : ℕ) (before now : DoorShown L) (all : SeatTold Seen) (lines : List L) (works : List (Work H L)) (why : Option Stop) (count : ℕ)
      → IsAccepted keeps gets shows terms port most before now all lines works why
      → count ≡ length works → (failed_by why && (count == 0)) ≡ true → HasFailed port before now
  has_failed port most before now all lines works None count a many f = absurd (true≢false (sym f))
  has_failed port most before now all lines works (Some stop.End) count a many f = absurd (true≢false (sym f))
  has_failed port most before now all lines works (Some stop.Failed) count a many f = record {
    gives = subst (λ (ls : List L). Gives port before now ls)
        (none_came lines (omega (arith, eqb-true count 0 f, many, as_many_came all lines works a.0.under_way))) a.0.gives;
    fault = a.2;
  }

  -- both, as the code tells them: how many links were asked for, whether the door failed, and how many are under way
  pub given_in_all : (port asked most : ℕ) (before now : DoorShown L) (all : SeatTold Seen) (lines : List L) (works : List (Work H L)) (why : Option Stop) (failed : Bool) (count : ℕ)
      → asked ≡ most → failed ≡ failed_by why → count ≡ length works → (failed && (count == 0)) ≡ false
      → IsAccepted keeps gets shows terms port asked before now all lines works why → HasGiven port most before now lines failed
  given_in_all port asked most before now all lines works why failed count same is many some a =
      subst (λ (m : ℕ). HasGiven port m before now lines failed) same
      (subst (λ (f : Bool). HasGiven port asked before now lines f) (sym is)
      (has_given port asked before now all lines works why count a many (ap (λ f. f && (count == 0)) (sym is) ∙ some)))

  pub failed_at_once : (port asked : ℕ) (before now : DoorShown L) (all : SeatTold Seen) (lines : List L) (works : List (Work H L)) (why : Option Stop) (failed : Bool) (count : ℕ)
      → failed ≡ failed_by why → count ≡ length works → (failed && (count == 0)) ≡ true
      → IsAccepted keeps gets shows terms port asked before now all lines works why → HasFailed port before now
  failed_at_once port asked before now all lines works why failed count is many none a =
      has_failed port asked before now all lines works why count a many (ap (λ f. f && (count == 0)) (sym is) ∙ none)
