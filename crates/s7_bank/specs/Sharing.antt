-- Seats that are split, joined or closed at each bank.
use Rattle.std.specs.Prelude.{◌≡◌, ℕ, ◌+◌, ◌<◌, true, List, [], ◌∷◌, ◌++◌, Option, Some, None, IsSome}
use Rattle.std.specs.Prelude.{slice_get, slice_set}
use Rattle.std.specs.Option.{option_or}
use Rattle.s7_turn.specs.declared.machine.Machine.{Ghosts}
use Rattle.s7_turn.specs.declared.hall.Hall.{Hall}
use Rattle.s7_turn.specs.declared.hall.Seat.{Seat}
use Rattle.s7_turn.specs.Histories.{Each, has, calls, Agrees}
use Rattle.s7_turn.specs.Machines.{IsReplayed}
use Rattle.s7_turn.specs.Seats.{IsOf, made, seen, caller, callers, next}
use Rattle.s7_turn.specs.Turns.{longer}

module _ {M R P : Type 0} {g : Ghosts M R P} where
  -- A new seat was split off a seat of one hall. The new seat has the number that was next as its caller, has seen as
  -- much, has made no call and hands out no numbers.
  pub record IsSplit (hall : Hall M R P) (old new own : Seat M R P g) : Type 0 where
    pub of_new : IsOf hall new
    pub of_own : IsOf hall own
    pub given : next old ≡ Some (caller own)
    pub alone : callers own ≡ caller own ∷ []
    pub sees : seen own ≡ seen old
    pub silent : calls (caller own) (seen own) ≡ []
    pub gives_none : next own ≡ None
    pub same_caller : caller new ≡ caller old
    pub same_callers : callers new ≡ callers old
    pub same_seen : seen new ≡ seen old
    pub gives : next new ≡ Some (caller own + 1)
    pub below : (x : ℕ) → has (callers old) x ≡ true → x < caller own

  -- At this bank the new seat in `owns` was split off a seat, which is in `olds` as it was before and in `news` as it
  -- is now.
  pub record SplitAt (halls : List (Hall M R P)) (olds news owns : List (Option (Seat M R P g))) (bank : ℕ)
      : Type 0 where
    pub hall : Hall M R P
    pub old : Seat M R P g
    pub new : Seat M R P g
    pub own : Seat M R P g
    pub hall_is : slice_get halls bank ≡ Some hall
    pub old_is : slice_get olds bank ≡ Some (Some old)
    pub new_is : slice_get news bank ≡ Some (Some new)
    pub own_is : slice_get owns bank ≡ Some (Some own)
    pub split : IsSplit hall old new own

  -- The new seat `own` was split off the seat at this bank; the seats at the other banks stay.
  pub record SplitOff (halls : List (Hall M R P)) (olds news : List (Option (Seat M R P g))) (bank : ℕ)
      (own : Seat M R P g) : Type 0 where
    pub hall : Hall M R P
    pub old : Seat M R P g
    pub new : Seat M R P g
    pub hall_is : slice_get halls bank ≡ Some hall
    pub old_is : slice_get olds bank ≡ Some (Some old)
    pub news_are : news ≡ slice_set olds bank (Some new)
    pub split : IsSplit hall old new own

  -- Two seats of one hall were joined. The result has seen the longer of their histories, and agrees with both. At most
  -- one of the two handed out numbers.
  pub record IsMet (hall : Hall M R P) (one two new : Seat M R P g) : Type 0 where
    pub of : IsOf hall new
    pub same_caller : caller new ≡ caller one
    pub stands : callers new ≡ callers one ++ callers two
    pub sees : seen new ≡ longer (seen one) (seen two)
    pub first_agrees : Agrees (seen one) (callers one) (seen new)
    pub second_agrees : Agrees (seen two) (callers two) (seen new)
    pub gives : next new ≡ option_or (next one) (next two)
    pub one_gives : IsSome (next one) → next two ≡ None

  -- The seats in `ones` and `twos` at a bank were joined; the result is the seat in `news`.
  pub record MetAt (halls : List (Hall M R P)) (ones twos news : List (Option (Seat M R P g))) (bank : ℕ)
      : Type 0 where
    pub hall : Hall M R P
    pub one : Seat M R P g
    pub two : Seat M R P g
    pub new : Seat M R P g
    pub hall_is : slice_get halls bank ≡ Some hall
    pub one_is : slice_get ones bank ≡ Some (Some one)
    pub two_is : slice_get twos bank ≡ Some (Some two)
    pub new_is : slice_get news bank ≡ Some (Some new)
    pub met : IsMet hall one two new

  -- The seats in `ones` and `twos` at a bank were joined; the result is `new`.
  pub record MetOf (halls : List (Hall M R P)) (ones twos : List (Option (Seat M R P g))) (bank : ℕ)
      (new : Seat M R P g) : Type 0 where
    pub hall : Hall M R P
    pub one : Seat M R P g
    pub two : Seat M R P g
    pub hall_is : slice_get halls bank ≡ Some hall
    pub one_is : slice_get ones bank ≡ Some (Some one)
    pub two_is : slice_get twos bank ≡ Some (Some two)
    pub met : IsMet hall one two new

  -- A hall returned its machine at the end, in the state to which its history leads. The history agrees with the seat.
  -- If the seat hands out numbers, and represents each that it handed out, the history has no other calls.
  pub record IsClosed (hall : Hall M R P) (seat : Seat M R P g) (machine : M) : Type 0 where
    pub same_opening : g.opening machine ≡ g.opening (made hall)
    pub same_limit : g.limit machine ≡ g.limit (made hall)
    pub replayed : IsReplayed g machine
    pub holds : g.holds machine
    pub agrees : Agrees (seen seat) (callers seat) (g.history machine)
    pub numbered : (n : ℕ) → next seat ≡ Some n → Each (λ e. e.caller < n) (g.history machine)
    pub whole : (n : ℕ) → next seat ≡ Some n → ((x : ℕ) → x < n → has (callers seat) x ≡ true)
        → (g.history machine ≡ seen seat) × Each (λ e. has (callers seat) e.caller ≡ true) (g.history machine)

  -- The hall at a bank returned the machine there, whose history agrees with the seat there, as `IsClosed` states.
  pub record ClosedAt (halls : List (Hall M R P)) (seats : List (Option (Seat M R P g))) (machines : List M) (bank : ℕ)
      : Type 0 where
    pub hall : Hall M R P
    pub seat : Seat M R P g
    pub machine : M
    pub hall_is : slice_get halls bank ≡ Some hall
    pub seat_is : slice_get seats bank ≡ Some (Some seat)
    pub machine_is : slice_get machines bank ≡ Some machine
    pub closed : IsClosed hall seat machine
