-- Links under way, while the seat that stands for them goes on.
use Rattle.std.proofs.Common.{◌≡◌, ℕ, ◌+◌, List, [], ◌∷◌, ◌++◌, length, true, Option, Some, None, refl, ap, sym, ◌∙◌, subst, arith}
use Rattle.std.specs.Option.{option_or}
use Rattle.s7_outer.specs.Shown.{Shown}
use Rattle.s7_turn.specs.Histories.{has}
use Rattle.s7_turn.proofs.Lists.{has-left, has-right, one-has}
use Rattle.s7_listener.specs.Benches.{Terms, SeatTold, IsNew, IsSplit, IsMet, HasServed}
use Rattle.s7_listener.specs.Served.{ServedTold, told_of}
use Rattle.s7_listener.specs.Works.{Handed, handed, IsHanded, IsIn, IsIdle, WorkIs, WorksAre, IsUnderWay}
use Rattle.s7_listener.specs.declared.work.Work.{Work}
use Rattle.s7_listener.specs.declared.work.Work.TheVariants as work

none_or : (n : Option ℕ) → option_or n None ≡ n
none_or None = refl
none_or (Some n) = refl

some_is : (a b : ℕ) → Some a ≡ Some b → a ≡ b
some_is a b e = cc (e)

module _ {Seen : Type 0} (terms : Terms Seen) where
  -- A seat stands for whom it stood for, and what it sees now agrees with what it saw.
  pub record SeesOn (old new : SeatTold Seen) : Type 0 where
    pub keeps : (x : ℕ) → has old.callers x ≡ true → has new.callers x ≡ true
    pub agrees : terms.agrees old.seen old.callers new.seen

  pub same_sees_on : (all : SeatTold Seen) → SeesOn all all
  same_sees_on all = record {
    keeps = λ x h. h;
    agrees = terms.agrees_same all.seen all.callers;
  }

  pub split_sees_on : (old new own : SeatTold Seen) → IsSplit terms old new own → SeesOn old new
  split_sees_on old new own s =
      subst (λ (t : SeatTold Seen). SeesOn old t) (sym s.stays) record {
        keeps = λ x h. h;
        agrees = terms.agrees_same old.seen old.callers;
      }

  pub met_sees_on : (one two new : SeatTold Seen) → IsMet terms one two new → SeesOn one new
  met_sees_on one two new m = record {
    keeps = λ x h. ap (λ l. has l x) m.stands ∙ has-left one.callers two.callers x h;
    agrees = m.first_agrees;
  }

  pub in_later : (old new : SeatTold Seen) (number : ℕ) (pipe : Shown) (served : ServedTold) → SeesOn old new
      → IsIn terms old number pipe served → IsIn terms new number pipe served
  in_later old new number pipe served s i = record {
    seen = i.seen;
    stands = s.keeps number i.stands;
    agrees = terms.agrees_on i.seen old.seen new.seen number old.callers i.stands i.agrees s.agrees;
    served_as = i.served_as;
  }

  pub idle_later : (old new : SeatTold Seen) (number : ℕ) → SeesOn old new → IsIdle terms old number → IsIdle terms new number
  idle_later old new number s i = record {
    stands = s.keeps number i.stands;
    silent = terms.silent_on old.seen new.seen number old.callers i.stands s.agrees i.silent;
  }

  -- a new seat for which no link came is idle where it was met
  pub new_is_idle : (one own new : SeatTold Seen) → IsNew terms own → IsMet terms one own new → IsIdle terms new own.number
  new_is_idle one own new n m =
      let alone : has own.callers own.number ≡ true = ap (λ l. has l own.number) n.alone ∙ one-has own.number in
      record {
        stands = ap (λ l. has l own.number) m.stands ∙ has-right one.callers own.callers own.number alone;
        silent = terms.silent_on own.seen new.seen own.number own.callers alone m.second_agrees n.silent;
      }

  -- a link that was served is taken in where its seat is met
  pub served_is_in : (own back one new : SeatTold Seen) (pipe : Shown) (served : ServedTold) → IsNew terms own
      → HasServed terms own back pipe served → IsMet terms one back new → IsIn terms new own.number pipe served
  served_is_in own back one new pipe served n h m =
      let alone : back.callers ≡ own.number ∷ [] = h.same_callers ∙ n.alone in
      let stands : has back.callers own.number ≡ true = ap (λ l. has l own.number) alone ∙ one-has own.number in
      record {
        seen = back.seen;
        stands = ap (λ l. has l own.number) m.stands ∙ has-right one.callers back.callers own.number stands;
        agrees = subst (λ l. terms.agrees back.seen l new.seen) alone m.second_agrees;
        served_as = h.is_served;
      }

  -- a seat that gives no numbers changes nothing of the next one
  pub met_next : (one two new : SeatTold Seen) → IsMet terms one two new → two.next ≡ None → new.next ≡ one.next
  met_next one two new m none = m.gives ∙ ap (option_or one.next) none ∙ none_or one.next

  -- the seat that was split off has the number that was next, and the old one gives the one behind it
  pub split_number : (old new own : SeatTold Seen) (n : ℕ) → IsSplit terms old new own → old.next ≡ Some n → own.number ≡ n
  split_number old new own n s is = some_is own.number n (sym s.given ∙ is)

  pub split_next : (old new own : SeatTold Seen) (n : ℕ) → IsSplit terms old new own → old.next ≡ Some n → new.next ≡ Some (n + 1)
  split_next old new own n s is =
      ap (λ (t : SeatTold Seen). t.next) s.stays ∙ ap (λ k. Some (k + 1)) (split_number old new own n s is)

  pub split_own_fits : (old new own : SeatTold Seen) → IsSplit terms old new own → terms.fits old.seen → terms.fits own.seen
  split_own_fits old new own s few = subst terms.fits (sym s.sees) few

  pub split_is_handed : (n : ℕ) (old new own : SeatTold Seen) (pipe : Shown) → IsSplit terms old new own → old.next ≡ Some n
      → terms.fits old.seen → IsHanded terms n pipe (handed own pipe)
  split_is_handed n old new own pipe s is few = record {
    number_is = split_number old new own n s is;
    is_new = s.is_new;
    gives_none = s.gives_none;
    few = split_own_fits old new own s few;
    pipe_is = refl;
  }

  pub split_fits : (old new own : SeatTold Seen) → IsSplit terms old new own → terms.fits old.seen → terms.fits new.seen
  split_fits old new own s few = subst terms.fits (sym (ap (λ (t : SeatTold Seen). t.seen) s.stays)) few

module _ {H L Seen : Type 0} (keeps : H → Type 0) (gets : H → Handed Seen) (shows : L → Shown) (terms : Terms Seen) where
  work_later : (old new : SeatTold Seen) (number : ℕ) (pipe : Shown) (w : Work H L) → SeesOn terms old new
      → WorkIs keeps gets shows terms old number pipe w → WorkIs keeps gets shows terms new number pipe w
  work_later old new number pipe (work.Running h) s is = is
  work_later old new number pipe (work.Done served) s is = in_later terms old new number pipe (told_of shows served) s is

  pub works_later : (old new : SeatTold Seen) (number : ℕ) (pipes : List Shown) (works : List (Work H L)) → SeesOn terms old new
      → WorksAre keeps gets shows terms old number pipes works → WorksAre keeps gets shows terms new number pipes works
  works_later old new number [] [] s are = tt
  works_later old new number [] (w ∷ works) s are = absurd are
  works_later old new number (pipe ∷ pipes) [] s are = absurd are
  works_later old new number (pipe ∷ pipes) (w ∷ works) s are =
      (work_later old new number pipe w s are.0, works_later old new (number + 1) pipes works s are.1)

  works_more : (all : SeatTold Seen) (number : ℕ) (pipes : List Shown) (works : List (Work H L)) (pipe : Shown) (w : Work H L)
      → WorksAre keeps gets shows terms all number pipes works
      → ((n : ℕ) → n ≡ number + length pipes → WorkIs keeps gets shows terms all n pipe w)
      → WorksAre keeps gets shows terms all number (pipes ++ pipe ∷ []) (works ++ w ∷ [])
  works_more all number [] [] pipe w are is = (is number (omega arith), tt)
  works_more all number [] (v ∷ works) pipe w are is = absurd are
  works_more all number (p ∷ pipes) [] pipe w are is = absurd are
  works_more all number (p ∷ pipes) (v ∷ works) pipe w are is =
      (are.0, works_more all (number + 1) pipes works pipe w are.1 (λ n e. is n (omega (arith, e))))

  pub under_way_later : (old new : SeatTold Seen) (pipes : List Shown) (works : List (Work H L)) → SeesOn terms old new → terms.fits new.seen
      → IsUnderWay keeps gets shows terms old pipes works → IsUnderWay keeps gets shows terms new pipes works
  under_way_later old new pipes works s few u = record {
    idle = idle_later terms old new 0 s u.idle;
    few = few;
    works_are = works_later old new 1 pipes works s u.works_are;
  }

  under_way_more : (all : SeatTold Seen) (pipes : List Shown) (works works' : List (Work H L)) (pipe : Shown) (w : Work H L) → works' ≡ works ++ w ∷ []
      → ((n : ℕ) → n ≡ length pipes + 1 → WorkIs keeps gets shows terms all n pipe w)
      → IsUnderWay keeps gets shows terms all pipes works → IsUnderWay keeps gets shows terms all (pipes ++ pipe ∷ []) works'
  under_way_more all pipes works works' pipe w more is u = record {
    idle = u.idle;
    few = u.few;
    works_are = subst (λ (ws : List (Work H L)). WorksAre keeps gets shows terms all 1 (pipes ++ pipe ∷ []) ws) (sym more)
        (works_more all 1 pipes works pipe w u.works_are (λ n e. is n (omega (arith, e))));
  }

  -- a thread was started
  pub started : (all own : SeatTold Seen) (pipes : List Shown) (works works' : List (Work H L)) (pipe : Shown) (h : H) → works' ≡ works ++ work.Running h ∷ []
      → keeps h → gets h ≡ handed own pipe
      → IsHanded terms (length pipes + 1) pipe (handed own pipe)
      → IsUnderWay keeps gets shows terms all pipes works → IsUnderWay keeps gets shows terms all (pipes ++ pipe ∷ []) works'
  started all own pipes works works' pipe h more kept is given u =
      under_way_more all pipes works works' pipe (work.Running h) more
      (λ n e. (
        kept,
        subst (λ (k : ℕ). IsHanded terms k pipe (gets h)) (sym e)
            (subst (λ (g : Handed Seen). IsHanded terms (length pipes + 1) pipe g) (sym is) given),
      )) u

  -- a link was served at once
  pub served_at_once : (all own back new : SeatTold Seen) (pipes : List Shown) (works works' : List (Work H L)) (pipe : Shown) (served : _)
      → works' ≡ works ++ work.Done served ∷ []
      → HasServed terms own back pipe (told_of shows served) → IsMet terms all back new
      → IsHanded terms (length pipes + 1) pipe (handed own pipe)
      → IsUnderWay keeps gets shows terms all pipes works → IsUnderWay keeps gets shows terms new (pipes ++ pipe ∷ []) works'
  served_at_once all own back new pipes works works' pipe served more has_served met given u =
      under_way_more new pipes works works' pipe (work.Done served) more
      (λ n e. subst (λ (k : ℕ). IsIn terms new k pipe (told_of shows served)) (given.number_is ∙ sym e)
      (served_is_in terms own back all new pipe (told_of shows served) given.is_new has_served met))
      (under_way_later all new pipes works (met_sees_on terms all back new met)
      (met.fits u.few (has_served.fits given.few)) u)
