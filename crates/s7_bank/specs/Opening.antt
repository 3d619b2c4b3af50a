-- How banks are opened.
use Rattle.std.specs.Prelude.{◌≡◌, ℕ, List, [], ◌∷◌, Option, Some, slice_get}
use Rattle.s7_turn.specs.declared.machine.Machine.{Ghosts}
use Rattle.s7_turn.specs.declared.hall.Hall.{Hall}
use Rattle.s7_turn.specs.declared.hall.Seat.{Seat}
use Rattle.s7_turn.specs.Seats.{IsOf, made, seen, caller, callers, next}

module _ {M R P : Type 0} (g : Ghosts M R P) where
  -- the machine has carried out nothing
  abbrev pub IsUnused : M → Type 0
  IsUnused m = (g.history m ≡ []) × (g.state m ≡ g.opening m) × g.holds m

module _ {M R P : Type 0} {g : Ghosts M R P} where
  -- A hall was made with a machine. Its first seat has seen nothing, makes calls as caller 0, and hands out the numbers
  -- from 1 on.
  pub record IsOpened (machine : M) (hall : Hall M R P) (seat : Seat M R P g) : Type 0 where
    pub same_opening : g.opening (made hall) ≡ g.opening machine
    pub same_limit : g.limit (made hall) ≡ g.limit machine
    pub of : IsOf hall seat
    pub first : caller seat ≡ 0
    pub alone : callers seat ≡ 0 ∷ []
    pub saw_none : seen seat ≡ []
    pub gives : next seat ≡ Some 1

  -- The hall and the seat at a bank were made with the machine of this bank, as `IsOpened` states.
  pub record OpenedAt (machines : List M) (halls : List (Hall M R P)) (seats : List (Option (Seat M R P g))) (bank : ℕ)
      : Type 0 where
    pub machine : M
    pub hall : Hall M R P
    pub seat : Seat M R P g
    pub machine_is : slice_get machines bank ≡ Some machine
    pub hall_is : slice_get halls bank ≡ Some hall
    pub seat_is : slice_get seats bank ≡ Some (Some seat)
    pub opened : IsOpened machine hall seat
