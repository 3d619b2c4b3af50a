-- Laws of seats that go on by calls, one call after another.
use Rattle.std.proofs.Common.{ℕ, List, [], ◌++◌, refl, ap, sym, ◌∙◌}
use Rattle.std.proofs.lemmas.List.{append-nil, append_assoc}
use Rattle.s7_turn.specs.declared.machine.Machine.{Ghosts}
use Rattle.s7_turn.specs.declared.hall.Seat.{Seat}
use Rattle.s7_turn.specs.Seats.{seen}
use Rattle.s7_listener.specs.Begins.{Begins}
use Rattle.s7_listener.specs.Seats.{SeatGoesOn}

pub begins_same : {A : Type 0} (xs : List A) → Begins xs xs
begins_same xs = record { rest = []; is = sym (append-nil xs) }

pub begins_both : {A : Type 0} (xs ys zs : List A) → Begins xs ys → Begins ys zs → Begins xs zs
begins_both xs ys zs p q = record {
  rest = p.rest ++ q.rest;
  is = q.is ∙ (ap (λ l. l ++ q.rest) p.is ∙ append_assoc xs p.rest q.rest);
}

module _ {M R P : Type 0} {g : Ghosts M R P} where
  pub seat_same : (limit : ℕ) (s : Seat M R P g) → SeatGoesOn limit s s
  seat_same limit s = record {
    same_caller = refl;
    same_callers = refl;
    same_next = refl;
    begins = begins_same (seen s);
    fits = λ few. few;
  }

  pub seat_both : (limit : ℕ) (a b c : Seat M R P g) → SeatGoesOn limit a b → SeatGoesOn limit b c
      → SeatGoesOn limit a c
  seat_both limit a b c p q = record {
    same_caller = q.same_caller ∙ p.same_caller;
    same_callers = q.same_callers ∙ p.same_callers;
    same_next = q.same_next ∙ p.same_next;
    begins = begins_both (seen a) (seen b) (seen c) p.begins q.begins;
    fits = λ few. q.fits (p.fits few);
  }
