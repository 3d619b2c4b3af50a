-- Halls and the seats at them, one of each for a bank.
use Rattle.std.specs.Prelude.{◌≡◌, ℕ, ◌<◌, ◌&&◌, Bool, true, is_some, List, [], ◌∷◌, ◌++◌, length}
use Rattle.std.specs.Prelude.{Option, Some, None, slice_get, slice_set}
use Rattle.s7_turn.specs.declared.machine.Machine.{Ghosts}
use Rattle.s7_turn.specs.declared.view.Entry.{Entry}
use Rattle.s7_turn.specs.declared.hall.Hall.{Hall}
use Rattle.s7_turn.specs.declared.hall.Seat.{Seat}
use Rattle.s7_turn.specs.Histories.{entry, calls, Agrees, replay}
use Rattle.s7_turn.specs.Seats.{IsOf, made, seen, caller, callers, next}

module _ {M R P : Type 0} {g : Ghosts M R P} where
  -- each seat is there
  abbrev pub all_there : List (Option (Seat M R P g)) → Bool
  all_there [] = true
  all_there (seat ∷ seats) = is_some seat && all_there seats

  -- There are as many seats as halls, each is there, and each is one of the hall in its place.
  abbrev pub AreSeated : List (Hall M R P) → List (Option (Seat M R P g)) → Type 0
  AreSeated halls seats =
      (length seats ≡ length halls) × (all_there seats ≡ true)
      × ((bank : ℕ) (hall : Hall M R P) (seat : Seat M R P g) → slice_get halls bank ≡ Some hall
      → slice_get seats bank ≡ Some (Some seat) → IsOf hall seat)

  -- the hall of a bank, and the seat there
  pub record IsSeatAt (halls : List (Hall M R P)) (seats : List (Option (Seat M R P g))) (bank : ℕ) : Type 0 where
    pub hall : Hall M R P
    pub seat : Seat M R P g
    pub hall_is : slice_get halls bank ≡ Some hall
    pub seat_is : slice_get seats bank ≡ Some (Some seat)
    pub of : IsOf hall seat

  -- what the first seat shows: in whose name it makes calls, the callers that it represents, and the number that it
  -- hands out next, if it hands out numbers
  abbrev pub caller_of : List (Option (Seat M R P g)) → ℕ
  caller_of [] = 0
  caller_of (None ∷ seats) = 0
  caller_of (Some seat ∷ seats) = caller seat

  abbrev pub callers_of : List (Option (Seat M R P g)) → List ℕ
  callers_of [] = []
  callers_of (None ∷ seats) = []
  callers_of (Some seat ∷ seats) = callers seat

  abbrev pub next_of : List (Option (Seat M R P g)) → Option ℕ
  next_of [] = None
  next_of (None ∷ seats) = None
  next_of (Some seat ∷ seats) = next seat

  -- each seat makes calls in this name, represents these callers, and hands out this number next
  abbrev pub AreNamed : ℕ → List ℕ → Option ℕ → List (Option (Seat M R P g)) → Type 0
  AreNamed name names number seats =
      (bank : ℕ) (seat : Seat M R P g) → slice_get seats bank ≡ Some (Some seat)
      → (caller seat ≡ name) × (callers seat ≡ names) × (next seat ≡ number)

  -- the seats of all banks show the same
  abbrev pub AreAlike : List (Option (Seat M R P g)) → Type 0
  AreAlike seats = AreNamed (caller_of seats) (callers_of seats) (next_of seats) seats

  -- A SEAT OF BANKS: a seat of the hall of each bank, and all of these show the same
  abbrev pub IsSeatOf : List (Hall M R P) → List (Option (Seat M R P g)) → Type 0
  IsSeatOf halls seats = AreSeated halls seats × AreAlike seats

  -- Seats that make calls in the same name, represent the same callers, and hand out the same number next.
  abbrev pub ShowTheSame : List (Option (Seat M R P g)) → List (Option (Seat M R P g)) → Type 0
  ShowTheSame olds news =
      (caller_of news ≡ caller_of olds) × (callers_of news ≡ callers_of olds) × (next_of news ≡ next_of olds)

  -- the caller of the seat at a bank; 0 for a bank that isn't there
  abbrev pub name_in : Option (Option (Seat M R P g)) → ℕ
  name_in None = 0
  name_in (Some None) = 0
  name_in (Some (Some seat)) = caller seat

  abbrev pub caller_at : List (Option (Seat M R P g)) → ℕ → ℕ
  caller_at seats bank = name_in (slice_get seats bank)

  -- A CALL AT A BANK was made by the seat there; the seats at the other banks stay.
  pub record IsCall (halls : List (Hall M R P)) (olds news : List (Option (Seat M R P g))) (bank : ℕ) : Type 0 where
    pub hall : Hall M R P
    pub old : Seat M R P g
    pub new : Seat M R P g
    pub hall_is : slice_get halls bank ≡ Some hall
    pub old_is : slice_get olds bank ≡ Some (Some old)
    pub news_are : news ≡ slice_set olds bank (Some new)
    pub of : IsOf hall new
    pub same_caller : caller new ≡ caller old
    pub same_callers : callers new ≡ callers old
    pub same_next : next new ≡ next old

  -- The call entered its request after the history that it found at the bank, and was answered by the state there.
  pub record HasEntered {halls : List (Hall M R P)} {olds news : List (Option (Seat M R P g))} {bank : ℕ}
      (call : IsCall halls olds news bank) (request : R) (reply : P) (number : ℕ) : Type 0 where
    pub found : List (Entry R)
    pub sees : seen call.new ≡ found ++ entry (caller call.old) (g.kept request) ∷ []
    pub number_is : length found ≡ number
    pub room : number < g.limit (made call.hall)
    pub agrees : Agrees (seen call.old) (callers call.old) found
    pub gives : g.gives (replay g.after (g.opening (made call.hall)) found) (caller call.old) (g.kept request) reply
    pub gained : calls (caller call.old) (seen call.new) ≡ calls (caller call.old) (seen call.old) ++ number ∷ []

  -- The call found the bank's history at its greatest length.
  pub record HasMetFull {halls : List (Hall M R P)} {olds news : List (Option (Seat M R P g))} {bank : ℕ}
      (call : IsCall halls olds news bank) : Type 0 where
    pub full : length (seen call.new) ≡ g.limit (made call.hall)
    pub agrees : Agrees (seen call.old) (callers call.old) (seen call.new)
