-- Halls that are made for machines, one after another.
use Rattle.std.proofs.Common.{◌≡◌, ℕ, ◌+◌, ◌<◌, ◌≤◌, List, [], ◌∷◌, length, Option, Some, slice_get, refl, ap, sym, ◌∙◌, length-append, arith, below_more}
use Rattle.std.specs.Prelude.{◌++◌}
use Rattle.s7_turn.specs.declared.machine.Machine.{Ghosts}
use Rattle.s7_turn.specs.declared.hall.Hall.{Hall}
use Rattle.s7_turn.specs.declared.hall.Seat.{Seat}
use Rattle.s7_bank.specs.Opening.{IsOpened, OpenedAt}
use Rattle.s7_bank.specs.Seats.{AreSeated, AreNamed, IsSeatOf, caller_of, callers_of, next_of}
use Rattle.s7_bank.proofs.ListLemmas.{get_left, get_last}
use Rattle.s7_bank.proofs.SeatLemmas.{seated_by, named_by, shows_by}

-- the element that comes next in a walk over a list
pub next_here : {X : Type 0} (front rest all : List X) (x : X) → front ++ x ∷ rest ≡ all → slice_get all (length front) ≡ Some x
next_here front rest all x is = ap (λ l. slice_get l (length front)) (sym is) ∙ here front rest x
  where
    here : {X : Type 0} (front rest : List X) (x : X) → slice_get (front ++ x ∷ rest) (length front) ≡ Some x
    here [] rest x = refl
    here (y ∷ front) rest x = here front rest x

module _ {M R P : Type 0} {g : Ghosts M R P} where
  -- one bank more
  pub opened_more : (machines : List M) (halls : List (Hall M R P)) (seats : List (Option (Seat M R P g))) (machine : M) (hall : Hall M R P) (seat : Seat M R P g)
      → ((bank : ℕ) → bank < length machines → OpenedAt machines halls seats bank) → length halls ≡ length machines → length seats ≡ length machines
      → IsOpened machine hall seat → (bank : ℕ) → bank < length (machines ++ machine ∷ [])
      → OpenedAt (machines ++ machine ∷ []) (halls ++ hall ∷ []) (seats ++ Some seat ∷ []) bank
  opened_more machines halls seats machine hall seat done halls_many seats_many is bank l =
      let more : length (machines ++ machine ∷ []) ≡ length machines + 1 = length-append machines (machine ∷ []) in
      below_more (OpenedAt (machines ++ machine ∷ []) (halls ++ hall ∷ []) (seats ++ Some seat ∷ [])) (length machines)
      (λ b below. let d = done b below in record {
        machine = d.machine;
        hall = d.hall;
        seat = d.seat;
        machine_is = get_left machines machine b d.machine d.machine_is;
        hall_is = get_left halls hall b d.hall d.hall_is;
        seat_is = get_left seats (Some seat) b (Some d.seat) d.seat_is;
        opened = d.opened;
      })
      (record {
        machine = machine;
        hall = hall;
        seat = seat;
        machine_is = get_last machines machine (length machines) refl;
        hall_is = get_last halls hall (length machines) halls_many;
        seat_is = get_last seats (Some seat) (length machines) seats_many;
        opened = is;
      })
      bank (omega (arith, l, more))

  -- what the first seat shows
  pub record HasOpened (halls : List (Hall M R P)) (seats : List (Option (Seat M R P g))) : Type 0 where
    pub seat : IsSeatOf halls seats
    pub first : (caller_of seats ≡ 0) × (callers_of seats ≡ 0 ∷ []) × (next_of seats ≡ Some 1)

  pub opened_all : (machines : List M) (halls : List (Hall M R P)) (seats : List (Option (Seat M R P g))) → 1 ≤ length machines → length halls ≡ length machines
      → length seats ≡ length machines → ((bank : ℕ) → bank < length machines → OpenedAt machines halls seats bank) → HasOpened halls seats
  opened_all machines halls seats some halls_many seats_many at =
      let seated : AreSeated halls seats = seated_by halls seats (seats_many ∙ sym halls_many) (λ bank l.
      let a = at bank (omega (arith, l, halls_many)) in
      record { hall = a.hall; seat = a.seat; hall_is = a.hall_is; seat_is = a.seat_is; of = a.opened.of }) in
      let named : AreNamed 0 (0 ∷ []) (Some 1) seats = named_by 0 (0 ∷ []) (Some 1) seats (length machines) seats_many (λ bank l.
      let a = at bank l in
      record { seat = a.seat; seat_is = a.seat_is; name_is = a.opened.first; names_are = a.opened.alone; number_is = a.opened.gives }) in
      let first = at 0 (omega (arith, some)) in
      let shows = shows_by 0 (0 ∷ []) (Some 1) seats first.seat named first.seat_is in
      record { seat = (seated, shows.alike); first = (shows.name_is, shows.names_are, shows.number_is) }
