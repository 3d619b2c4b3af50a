-- Seats as contracts of a bench see them, and what its calls do to them.
use Rattle.std.specs.Prelude.{◌≡◌, ℕ, ◌+◌, ◌<◌, true, List, [], ◌∷◌, ◌++◌, Option, None, Some}
use Rattle.std.specs.Option.{option_or}
use Rattle.s7_outer.specs.Shown.{Shown}
use Rattle.s7_turn.specs.Histories.{has}
use Rattle.s7_listener.specs.Served.{ServedTold}

-- THE TERMS on which links are served. `Seen` is what a seat of a bench sees: one history, or several, in which calls
-- are entered. The last three fields are laws.
pub record Terms (Seen : Type 0) : Type 1 where
  -- what is seen later begins with what was seen before, and none of these callers has made a call since
  pub agrees : Seen → List ℕ → Seen → Type 0
  -- this caller has made no call
  pub silent : ℕ → Seen → Type 0
  -- no history is longer than its limit
  pub fits : Seen → Type 0
  -- the link of this number, which showed this when it came, was served with this result over what was seen
  pub served : Seen → ℕ → Shown → ServedTold → Type 0
  pub agrees_same : (seen : Seen) (callers : List ℕ) → agrees seen callers seen
  pub agrees_on : (seen later last : Seen) (number : ℕ) (callers : List ℕ) → has callers number ≡ true
      → agrees seen (number ∷ []) later → agrees later callers last → agrees seen (number ∷ []) last
  pub silent_on : (seen later : Seen) (number : ℕ) (callers : List ℕ) → has callers number ≡ true
      → agrees seen callers later → silent number seen → silent number later

-- a seat: its caller, the callers that it represents, the number that it hands out next, and what it has seen
pub record SeatTold (Seen : Type 0) : Type 0 where
  pub number : ℕ
  pub callers : List ℕ
  pub next : Option ℕ
  pub seen : Seen

-- a seat represents its caller alone, which has made no call
pub record IsNew {Seen : Type 0} (terms : Terms Seen) (seat : SeatTold Seen) : Type 0 where
  pub alone : seat.callers ≡ seat.number ∷ []
  pub silent : terms.silent seat.number seat.seen

-- a seat is the first one: it represents caller 0 alone, which has made no call, and hands out the numbers from 1 on
pub record IsFirst {Seen : Type 0} (terms : Terms Seen) (seat : SeatTold Seen) : Type 0 where
  pub alone : seat.callers ≡ 0 ∷ []
  pub silent : terms.silent 0 seat.seen
  pub fits : terms.fits seat.seen
  pub gives : seat.next ≡ Some 1

-- A new seat was split off: it has the number that was next, and has seen the same.
pub record IsSplit {Seen : Type 0} (terms : Terms Seen) (old new own_seat : SeatTold Seen) : Type 0 where
  pub given : old.next ≡ Some own_seat.number
  pub is_new : IsNew terms own_seat
  pub sees : own_seat.seen ≡ old.seen
  pub gives_none : own_seat.next ≡ None
  pub stays : new ≡ record old { next = Some (own_seat.number + 1) }
  pub below : (x : ℕ) → has old.callers x ≡ true → x < own_seat.number

-- Two seats were joined.
pub record IsMet {Seen : Type 0} (terms : Terms Seen) (one two new : SeatTold Seen) : Type 0 where
  pub numbers : new.number ≡ one.number
  pub stands : new.callers ≡ one.callers ++ two.callers
  pub first_agrees : terms.agrees one.seen one.callers new.seen
  pub second_agrees : terms.agrees two.seen two.callers new.seen
  pub fits : terms.fits one.seen → terms.fits two.seen → terms.fits new.seen
  pub gives : new.next ≡ option_or one.next two.next

-- A link was served in the name of a seat.
pub record HasServed {Seen : Type 0} (terms : Terms Seen) (old new : SeatTold Seen)
    (pipe : Shown) (served : ServedTold) : Type 0 where
  pub same_number : new.number ≡ old.number
  pub same_callers : new.callers ≡ old.callers
  pub same_next : new.next ≡ old.next
  pub fits : terms.fits old.seen → terms.fits new.seen
  pub is_served : terms.served new.seen old.number pipe served
