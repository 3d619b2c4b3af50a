-- Halls with the seats at them, by their banks.
use Rattle.std.proofs.Common.{◌≡◌, ◌⊎◌, inl, inr, ℕ, zero, suc, ◌<◌, ◌≤◌, true, List, [], ◌∷◌, length, Option, Some, None, slice_get, slice_set, refl, ap, sym, ◌∙◌, subst, arith}
use Rattle.std.specs.Prelude.{◌++◌, Result, Ok, Err, IfOk, IfErr, MatchResult}
use Rattle.std.proofs.lemmas.Option.{slice_get_within}
use Rattle.s7_turn.specs.declared.machine.Machine.{Ghosts}
use Rattle.s7_turn.specs.declared.hall.Hall.{Hall}
use Rattle.s7_turn.specs.declared.hall.Seat.{Seat}
use Rattle.s7_turn.specs.declared.hall.Receipt.{Receipt}
use Rattle.s7_turn.specs.declared.hall.Full.{Full}
use Rattle.s7_turn.specs.Histories.{entry, Agrees, calls, replay}
use Rattle.s7_turn.specs.Seats.{IsOf, made, seen, caller, callers, next}
use Rattle.s7_bank.specs.Seats.{all_there, AreSeated, IsSeatAt, AreNamed, AreAlike, IsSeatOf, ShowTheSame, caller_of, callers_of, next_of, IsCall, HasEntered, HasMetFull}
use Rattle.s7_bank.proofs.ListLemmas.{same_some, none_isnt, get_within, set_cases, length_of_set}

module _ {M R P : Type 0} {g : Ghosts M R P} where
  there : (seats : List (Option (Seat M R P g))) (bank : ℕ) → all_there seats ≡ true → bank < length seats → (s : Seat M R P g) × (slice_get seats bank ≡ Some (Some s))
  there [] bank all l = absurd (omega (arith, l))
  there (None ∷ ss) bank all l = cc
  there (Some s ∷ ss) zero all l = (s, refl)
  there (Some s ∷ ss) (suc bank) all l = there ss bank all (omega (arith, l))

  -- at each bank there is a seat
  pub seat_at : (halls : List (Hall M R P)) (seats : List (Option (Seat M R P g))) (bank : ℕ) → AreSeated halls seats → bank < length halls → IsSeatAt halls seats bank
  seat_at halls seats bank are l =
      let t = there seats bank are.1 (omega (arith, l, are.0)) in
      let h = get_within halls bank l in
      record { hall = h.0; seat = t.0; hall_is = h.1; seat_is = t.1; of = are.2 bank h.0 t.0 h.1 t.1 }

  -- a seat that is still there
  pub still_at : (halls : List (Hall M R P)) (olds mids : List (Option (Seat M R P g))) (bank : ℕ) → AreSeated halls olds → bank < length halls
      → slice_get mids bank ≡ slice_get olds bank → IsSeatAt halls mids bank
  still_at halls olds mids bank are l e =
      let p = seat_at halls olds bank are l in
      record { hall = p.hall; seat = p.seat; hall_is = p.hall_is; seat_is = e ∙ p.seat_is; of = p.of }

  all_there_by : (seats : List (Option (Seat M R P g))) → ((bank : ℕ) → bank < length seats → (s : Seat M R P g) × (slice_get seats bank ≡ Some (Some s))) → all_there seats ≡ true
  all_there_by [] at = refl
  all_there_by (None ∷ ss) at = let a = at zero (omega arith) in none_isnt a.0 (same_some None (Some a.0) a.1)
  all_there_by (Some s ∷ ss) at = all_there_by ss (λ bank l. at (suc bank) (omega (arith, l)))

  -- where there is a seat at each bank, there are seats of all halls
  pub seated_by : (halls : List (Hall M R P)) (seats : List (Option (Seat M R P g))) → length seats ≡ length halls → ((bank : ℕ) → bank < length halls → IsSeatAt halls seats bank) → AreSeated halls seats
  seated_by halls seats many at = (
    many,
    all_there_by seats (λ bank l. let a = at bank (omega (arith, l, many)) in (a.seat, a.seat_is)),
    λ bank hall seat h s. let a = at bank (slice_get_within halls bank hall h) in
        subst (λ k. IsOf k seat) (same_some a.hall hall (sym a.hall_is ∙ h)) (subst (IsOf a.hall) (same_some a.seat seat (same_some (Some a.seat) (Some seat) (sym a.seat_is ∙ s))) a.of),
  )

  -- ---- one seat in the place of another

  all_there_set : (seats : List (Option (Seat M R P g))) (i : ℕ) (s : Seat M R P g) → all_there seats ≡ true → all_there (slice_set seats i (Some s)) ≡ true
  all_there_set [] i s all = refl
  all_there_set (None ∷ ss) i s all = cc
  all_there_set (Some t ∷ ss) zero s all = all
  all_there_set (Some t ∷ ss) (suc i) s all = all_there_set ss i s all

  of_either : (halls : List (Hall M R P)) (seats : List (Option (Seat M R P g))) (bank other : ℕ) (hall h : Hall M R P) (seat s : Seat M R P g) → AreSeated halls seats
      → slice_get halls bank ≡ Some hall → slice_get halls other ≡ Some h → IsOf hall seat
      → ((bank ≡ other) × (Some seat ≡ Some s)) ⊎ (slice_get seats other ≡ Some (Some s)) → IsOf h s
  of_either halls seats bank other hall h seat s are a b of (inl p) =
      subst (IsOf h) (same_some seat s p.1) (subst (λ k. IsOf k seat) (same_some hall h (sym a ∙ ap (slice_get halls) p.0 ∙ b)) of)
  of_either halls seats bank other hall h seat s are a b of (inr e) = are.2 other h s b e

  pub seated_set : (halls : List (Hall M R P)) (seats : List (Option (Seat M R P g))) (bank : ℕ) (hall : Hall M R P) (seat : Seat M R P g)
      → AreSeated halls seats → slice_get halls bank ≡ Some hall → IsOf hall seat → AreSeated halls (slice_set seats bank (Some seat))
  seated_set halls seats bank hall seat are is of = (
    length_of_set seats bank (Some seat) ∙ are.0,
    all_there_set seats bank seat are.1,
    λ other h s b e. of_either halls seats bank other hall h seat s are is b of (set_cases seats bank other (Some seat) (Some s) e),
  )

  -- ---- what seats show

  pub record NamedAt (name : ℕ) (names : List ℕ) (number : Option ℕ) (seats : List (Option (Seat M R P g))) (bank : ℕ) : Type 0 where
    pub seat : Seat M R P g
    pub seat_is : slice_get seats bank ≡ Some (Some seat)
    pub name_is : caller seat ≡ name
    pub names_are : callers seat ≡ names
    pub number_is : next seat ≡ number

  pub named_by : (name : ℕ) (names : List ℕ) (number : Option ℕ) (seats : List (Option (Seat M R P g))) (many : ℕ) → length seats ≡ many
      → ((bank : ℕ) → bank < many → NamedAt name names number seats bank) → AreNamed name names number seats
  named_by name names number seats many len at = λ bank seat is.
      let a = at bank (let l = slice_get_within seats bank (Some seat) is in omega (arith, l, len)) in
      let same : a.seat ≡ seat = same_some a.seat seat (same_some (Some a.seat) (Some seat) (sym a.seat_is ∙ is)) in
      (subst (λ s. caller s ≡ name) same a.name_is, subst (λ s. callers s ≡ names) same a.names_are, subst (λ s. next s ≡ number) same a.number_is)

  -- seats that all show this
  pub record Shows (name : ℕ) (names : List ℕ) (number : Option ℕ) (seats : List (Option (Seat M R P g))) : Type 0 where
    pub alike : AreAlike seats
    pub name_is : caller_of seats ≡ name
    pub names_are : callers_of seats ≡ names
    pub number_is : next_of seats ≡ number

  pub shows_by : (name : ℕ) (names : List ℕ) (number : Option ℕ) (seats : List (Option (Seat M R P g))) (seat : Seat M R P g)
      → AreNamed name names number seats → slice_get seats 0 ≡ Some (Some seat) → Shows name names number seats
  shows_by name names number [] seat named is = none_isnt (Some seat) is
  shows_by name names number (None ∷ ss) seat named is = none_isnt seat (same_some None (Some seat) is)
  shows_by name names number (Some s ∷ ss) seat named is =
      let first = named 0 s refl in
      record {
        alike = λ bank t e. let u = named bank t e in (u.0 ∙ sym first.0, u.1 ∙ sym first.1, u.2 ∙ sym first.2);
        name_is = first.0;
        names_are = first.1;
        number_is = first.2;
      }

  -- ---- a call

  named_either : (name : ℕ) (names : List ℕ) (number : Option ℕ) (seats : List (Option (Seat M R P g))) (bank other : ℕ) (seat s : Seat M R P g) → AreNamed name names number seats
      → (caller seat ≡ name) × (callers seat ≡ names) × (next seat ≡ number)
      → ((bank ≡ other) × (Some seat ≡ Some s)) ⊎ (slice_get seats other ≡ Some (Some s)) → (caller s ≡ name) × (callers s ≡ names) × (next s ≡ number)
  named_either name names number seats bank other seat s named is (inl p) =
      subst (λ t. (caller t ≡ name) × (callers t ≡ names) × (next t ≡ number)) (same_some seat s p.1) is
  named_either name names number seats bank other seat s named is (inr e) = named other s e

  -- after a call the seats are of the halls, and show the same
  pub seat_of_call : (halls : List (Hall M R P)) (olds news : List (Option (Seat M R P g))) (bank : ℕ) → 1 ≤ length halls → IsSeatOf halls olds → IsCall halls olds news bank
      → IsSeatOf halls news × ShowTheSame olds news
  seat_of_call halls olds news bank some is call =
      let seated : AreSeated halls news = subst (AreSeated halls) (sym call.news_are) (seated_set halls olds bank call.hall call.new is.0 call.hall_is call.of) in
      let old = is.1 bank call.old call.old_is in
      let named : AreNamed (caller_of olds) (callers_of olds) (next_of olds) news = λ other s e.
      named_either (caller_of olds) (callers_of olds) (next_of olds) olds bank other call.new s is.1
      (call.same_caller ∙ old.0, call.same_callers ∙ old.1, call.same_next ∙ old.2)
      (set_cases olds bank other (Some call.new) (Some s) (ap (λ l. slice_get l other) (sym call.news_are) ∙ e)) in
      let first = seat_at halls news 0 seated (omega (arith, some)) in
      let shows = shows_by (caller_of olds) (callers_of olds) (next_of olds) news first.seat named first.seat_is in
      ((seated, shows.alike), (shows.name_is, shows.names_are, shows.number_is))

module _ {M R P : Type 0} {g : Ghosts M R P} {halls : List (Hall M R P)} {olds news : List (Option (Seat M R P g))} {bank : ℕ} (call : IsCall halls olds news bank)
    (request : R) (old reply : P) where
  -- what the call of a hall says, of the call at a bank
  pub said_of_call : (result : Result Receipt (Full R))
      → IfOk result (λ r. (h : _) × (seen call.new ≡ h ++ entry (caller call.old) (g.kept request) ∷ []) × (length h ≡ r.number)
      × (r.number < g.limit (made call.hall)) × Agrees (seen call.old) (callers call.old) h
      × g.gives (replay g.after (g.opening (made call.hall)) h) (caller call.old) (g.kept request) reply
      × (calls (caller call.old) (seen call.new) ≡ calls (caller call.old) (seen call.old) ++ r.number ∷ []))
      → IfErr result (λ f. (f.request ≡ request) × (f.len ≡ g.limit (made call.hall)) × (length (seen call.new) ≡ f.len)
      × Agrees (seen call.old) (callers call.old) (seen call.new) × (reply ≡ old))
      → MatchResult result (λ receipt. HasEntered call request reply receipt.number)
      (λ full. HasMetFull call × (full.request ≡ request) × (full.len ≡ g.limit (made call.hall)) × (reply ≡ old))
  said_of_call (Ok r) e f = record { found = e.0; sees = e.1; number_is = e.2; room = e.3; agrees = e.4; gives = e.5; gained = e.6 }
  said_of_call (Err full) e f = (record { full = f.2 ∙ f.1; agrees = f.3 }, f.0, f.1, f.4)
