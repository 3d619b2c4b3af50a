-- Seats that are split, joined or closed at one bank after another.
use Rattle.std.proofs.Common.{◌≡◌, ℕ, suc, ◌+◌, ◌<◌, ◌≤◌, List, [], ◌∷◌, length, Option, Some, None, slice_get, slice_set, ap, sym, ◌∙◌, subst, append_assoc, arith, below_more}
use Rattle.std.specs.Prelude.{◌++◌, IsSome, slice_index_or, remove}
use Rattle.std.specs.Option.{option_or}
use Rattle.std.proofs.lemmas.Option.{slice_get_within, get_or_from_slice_get}
use Rattle.s7_turn.specs.declared.machine.Machine.{Ghosts}
use Rattle.s7_turn.specs.declared.hall.Hall.{Hall}
use Rattle.s7_turn.specs.declared.hall.Seat.{Seat}
use Rattle.s7_turn.specs.Seats.{IsOf, caller, callers, next}
use Rattle.s7_bank.specs.Seats.{AreSeated, AreNamed, IsSeatOf, caller_of, callers_of, next_of}
use Rattle.s7_bank.specs.Sharing.{SplitAt, SplitOff, MetAt, MetOf, IsClosed, ClosedAt}
use Rattle.s7_bank.proofs.ListLemmas.{same_some, get_set_same, get_set_other, get_left, get_last, get_rest, length_more}
use Rattle.s7_bank.proofs.SeatLemmas.{seat_at, seated_by, named_by, shows_by}

module _ {M R P : Type 0} {g : Ghosts M R P} where
  -- ---- split

  -- one bank more
  pub split_more : (halls : List (Hall M R P)) (olds mids news owns : List (Option (Seat M R P g))) (k : ℕ) (own : Seat M R P g)
      → ((bank : ℕ) → bank < k → SplitAt halls olds mids owns bank) → length owns ≡ k → slice_get mids k ≡ slice_get olds k → SplitOff halls mids news k own
      → (bank : ℕ) → bank < k + 1 → SplitAt halls olds news (owns ++ Some own ∷ []) bank
  split_more halls olds mids news owns k own done many same off =
      below_more (SplitAt halls olds news (owns ++ Some own ∷ [])) k
      (λ bank l. let d = done bank l in record {
        hall = d.hall;
        old = d.old;
        new = d.new;
        own = d.own;
        hall_is = d.hall_is;
        old_is = d.old_is;
        new_is = ap (λ xs. slice_get xs bank) off.news_are ∙ get_set_other mids k bank (Some off.new) (λ e. absurd (omega (arith, l, e))) ∙ d.new_is;
        own_is = get_left owns (Some own) bank (Some d.own) d.own_is;
        split = d.split;
      })
      (record {
        hall = off.hall;
        old = off.old;
        new = off.new;
        own = own;
        hall_is = off.hall_is;
        old_is = sym same ∙ off.old_is;
        new_is = ap (λ xs. slice_get xs k) off.news_are ∙ get_set_same mids k (Some off.new) (slice_get_within mids k (Some off.old) off.old_is);
        own_is = get_last owns (Some own) k many;
        split = off.split;
      })

  -- the seats at the banks that follow stay
  pub kept_more : (olds mids news : List (Option (Seat M R P g))) (k : ℕ) (seat : Option (Seat M R P g))
      → ((bank : ℕ) → k ≤ bank → slice_get mids bank ≡ slice_get olds bank) → news ≡ slice_set mids k seat
      → (bank : ℕ) → k + 1 ≤ bank → slice_get news bank ≡ slice_get olds bank
  kept_more olds mids news k seat kept are bank l =
      ap (λ xs. slice_get xs bank) are ∙ get_set_other mids k bank seat (λ e. absurd (omega (arith, l, e))) ∙ kept bank (omega (arith, l))

  -- what the seats show after a split: those that were there, and the new ones
  pub record HasSplit (halls : List (Hall M R P)) (olds news owns : List (Option (Seat M R P g))) : Type 0 where
    pub seat : IsSeatOf halls news
    pub new : IsSeatOf halls owns
    pub given : (next_of olds ≡ Some (caller_of owns)) × (callers_of owns ≡ caller_of owns ∷ []) × (next_of owns ≡ None)
    pub old : (caller_of news ≡ caller_of olds) × (callers_of news ≡ callers_of olds) × (next_of news ≡ Some (caller_of owns + 1))

  pub split_all : (halls : List (Hall M R P)) (olds news owns : List (Option (Seat M R P g))) (n : ℕ) → 1 ≤ length halls → IsSeatOf halls olds → next_of olds ≡ Some n
      → AreSeated halls news → length owns ≡ length halls → ((bank : ℕ) → bank < length halls → SplitAt halls olds news owns bank) → HasSplit halls olds news owns
  split_all halls olds news owns n some is number seated many at =
      let given : (bank : ℕ) (l : bank < length halls) → caller ((at bank l).own) ≡ n = λ bank l.
      let a = at bank l in
      let old = is.1 bank a.old a.old_is in
      same_some (caller a.own) n (sym a.split.given ∙ old.2 ∙ number) in
      let seats : AreSeated halls owns = seated_by halls owns many (λ bank l. let a = at bank l in record { hall = a.hall; seat = a.own; hall_is = a.hall_is; seat_is = a.own_is; of = a.split.of_own }) in
      let olds_named : AreNamed (caller_of olds) (callers_of olds) (Some (n + 1)) news = named_by (caller_of olds) (callers_of olds) (Some (n + 1)) news (length halls) seated.0 (λ bank l.
      let a = at bank l in
      let old = is.1 bank a.old a.old_is in
      record { seat = a.new; seat_is = a.new_is; name_is = a.split.same_caller ∙ old.0; names_are = a.split.same_callers ∙ old.1; number_is = a.split.gives ∙ ap (λ x. Some (x + 1)) (given bank l) }) in
      let owns_named : AreNamed n (n ∷ []) None owns = named_by n (n ∷ []) None owns (length halls) many (λ bank l.
      let a = at bank l in
      record { seat = a.own; seat_is = a.own_is; name_is = given bank l; names_are = a.split.alone ∙ ap (λ x. x ∷ []) (given bank l); number_is = a.split.gives_none }) in
      let first = at 0 (omega (arith, some)) in
      let old = shows_by (caller_of olds) (callers_of olds) (Some (n + 1)) news first.new olds_named first.new_is in
      let own = shows_by n (n ∷ []) None owns first.own owns_named first.own_is in
      record {
        seat = (seated, old.alike);
        new = (seats, own.alike);
        given = (number ∙ ap Some (sym own.name_is), own.names_are ∙ ap (λ x. x ∷ []) (sym own.name_is), own.number_is);
        old = (old.name_is, old.names_are, old.number_is ∙ ap (λ x. Some (x + 1)) (sym own.name_is));
      }

  -- ---- joined

  -- one bank more
  pub met_more : (halls : List (Hall M R P)) (ones twos first second news : List (Option (Seat M R P g))) (k : ℕ) (new : Seat M R P g)
      → ((bank : ℕ) → bank < k → MetAt halls ones twos news bank) → length news ≡ k → slice_get first k ≡ slice_get ones k → slice_get second k ≡ slice_get twos k
      → MetOf halls first second k new → (bank : ℕ) → bank < k + 1 → MetAt halls ones twos (news ++ Some new ∷ []) bank
  met_more halls ones twos first second news k new done many one two of =
      below_more (MetAt halls ones twos (news ++ Some new ∷ [])) k
      (λ bank l. let d = done bank l in record {
        hall = d.hall;
        one = d.one;
        two = d.two;
        new = d.new;
        hall_is = d.hall_is;
        one_is = d.one_is;
        two_is = d.two_is;
        new_is = get_left news (Some new) bank (Some d.new) d.new_is;
        met = d.met;
      })
      (record {
        hall = of.hall;
        one = of.one;
        two = of.two;
        new = new;
        hall_is = of.hall_is;
        one_is = sym one ∙ of.one_is;
        two_is = sym two ∙ of.two_is;
        new_is = get_last news (Some new) k many;
        met = of.met;
      })

  -- what the seats show that were joined
  pub record HasMet (halls : List (Hall M R P)) (ones twos news : List (Option (Seat M R P g))) : Type 0 where
    pub seat : IsSeatOf halls news
    pub callers_are : (caller_of news ≡ caller_of ones) × (callers_of news ≡ callers_of ones ++ callers_of twos)
    pub next_is : (next_of news ≡ option_or (next_of ones) (next_of twos)) × (IsSome (next_of ones) → next_of twos ≡ None)

  pub met_all : (halls : List (Hall M R P)) (ones twos news : List (Option (Seat M R P g))) → 1 ≤ length halls → IsSeatOf halls ones → IsSeatOf halls twos
      → length news ≡ length halls → ((bank : ℕ) → bank < length halls → MetAt halls ones twos news bank) → HasMet halls ones twos news
  met_all halls ones twos news some is_one is_two many at =
      let names : List ℕ = callers_of ones ++ callers_of twos in
      let number : Option ℕ = option_or (next_of ones) (next_of twos) in
      let seats : AreSeated halls news = seated_by halls news many (λ bank l. let a = at bank l in record { hall = a.hall; seat = a.new; hall_is = a.hall_is; seat_is = a.new_is; of = a.met.of }) in
      let named : AreNamed (caller_of ones) names number news = named_by (caller_of ones) names number news (length halls) many (λ bank l.
      let a = at bank l in
      let one = is_one.1 bank a.one a.one_is in
      let two = is_two.1 bank a.two a.two_is in
      record {
        seat = a.new;
        seat_is = a.new_is;
        name_is = a.met.same_caller ∙ one.0;
        names_are = a.met.stands ∙ ap (λ xs. xs ++ callers a.two) one.1 ∙ ap (λ xs. callers_of ones ++ xs) two.1;
        number_is = a.met.gives ∙ ap (λ x. option_or x (next a.two)) one.2 ∙ ap (option_or (next_of ones)) two.2;
      }) in
      let first = at 0 (omega (arith, some)) in
      let one = is_one.1 0 first.one first.one_is in
      let two = is_two.1 0 first.two first.two_is in
      let shows = shows_by (caller_of ones) names number news first.new named first.new_is in
      record {
        seat = (seats, shows.alike);
        callers_are = (shows.name_is, shows.names_are);
        next_is = (shows.number_is, λ gives. sym two.2 ∙ first.met.one_gives (subst IsSome (sym one.2) gives));
      }

  -- ---- closed

  -- the machines that came out of the first banks
  abbrev pub ClosedSoFar : List (Hall M R P) → List (Option (Seat M R P g)) → List M → List M → ℕ → Type 0
  ClosedSoFar halls seats before into k =
      (machines : List M) × (into ≡ before ++ machines) × (length machines ≡ k) × ((bank : ℕ) → bank < k → ClosedAt halls seats machines bank)

  -- one bank more
  pub closed_more : (halls : List (Hall M R P)) (seats : List (Option (Seat M R P g))) (before into news : List M) (k : ℕ) (hall : Hall M R P) (seat : Seat M R P g) (machine : M)
      → ClosedSoFar halls seats before into k → slice_get halls k ≡ Some hall → slice_get seats k ≡ Some (Some seat) → IsClosed hall seat machine → news ≡ into ++ machine ∷ []
      → ClosedSoFar halls seats before news (k + 1)
  closed_more halls seats before into news k hall seat machine so h s is e = (
    so.0 ++ machine ∷ [],
    e ∙ ap (λ xs. xs ++ machine ∷ []) so.1 ∙ append_assoc before so.0 (machine ∷ []),
    length_more so.0 machine k so.2,
    below_more (ClosedAt halls seats (so.0 ++ machine ∷ [])) k
        (λ bank l. let d = so.3 bank l in record {
          hall = d.hall;
          seat = d.seat;
          machine = d.machine;
          hall_is = d.hall_is;
          seat_is = d.seat_is;
          machine_is = get_left so.0 machine bank d.machine d.machine_is;
          closed = d.closed;
        })
        (record { hall = hall; seat = seat; machine = machine; hall_is = h; seat_is = s; machine_is = get_last so.0 machine k so.2; closed = is }),
  )

  -- the first of the halls that are left, and of the seats
  pub next_at : (halls rest : List (Hall M R P)) (seats left : List (Option (Seat M R P g))) (k : ℕ) (hall : Hall M R P) (own : Option (Seat M R P g)) → AreSeated halls seats → k < length halls
      → ((bank : ℕ) → slice_get rest bank ≡ slice_get halls (k + bank)) → ((bank : ℕ) → slice_get left bank ≡ slice_get seats (k + bank))
      → hall ≡ slice_index_or rest 0 hall → own ≡ slice_index_or left 0 own
      → (seat : Seat M R P g) × (own ≡ Some seat) × (slice_get halls k ≡ Some hall) × (slice_get seats k ≡ Some (Some seat)) × IsOf hall seat
  next_at halls rest seats left k hall own are l rest_is left_is h o =
      let here : k ≡ k + 0 = omega arith in
      let p = seat_at halls seats k are l in
      let hall_is : hall ≡ p.hall = h ∙ get_or_from_slice_get rest 0 p.hall hall (rest_is 0 ∙ ap (slice_get halls) (sym here) ∙ p.hall_is) in
      let own_is : own ≡ Some p.seat = o ∙ get_or_from_slice_get left 0 (Some p.seat) own (left_is 0 ∙ ap (slice_get seats) (sym here) ∙ p.seat_is) in
      (p.seat, own_is, p.hall_is ∙ ap Some (sym hall_is), p.seat_is, subst (λ x. IsOf x p.seat) (sym hall_is) p.of)

pub rest_more : {X : Type 0} (all rest news : List X) (k : ℕ) → ((bank : ℕ) → slice_get rest bank ≡ slice_get all (k + bank)) → news ≡ remove rest 0
    → (bank : ℕ) → slice_get news bank ≡ slice_get all (k + 1 + bank)
rest_more all rest news k is e bank =
    let there : k + suc bank ≡ k + 1 + bank = omega arith in
    ap (λ xs. slice_get xs bank) e ∙ get_rest rest bank ∙ is (suc bank) ∙ ap (slice_get all) there
