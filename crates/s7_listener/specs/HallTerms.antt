-- The terms on which a hall serves links: its seats see one history.
use Rattle.std.proofs.Common.{◌≡◌, ℕ, ◌≤◌, true, false, List, [], ◌∷◌, ◌++◌, length, ap, ◌∙◌, append_assoc}
use Rattle.s7_outer.specs.Shown.{Shown}
use Rattle.s7_turn.specs.Histories.{has, calls, NoneBy, Agrees}
use Rattle.s7_turn.proofs.Lists.{has-not_one, Each-weaker, Each-append, agrees_here, calls_same}
use Rattle.s7_plant.specs.State.{State}
use Rattle.s7_session.specs.Books.{History}
use Rattle.s7_session.specs.LinkState.{LinkState}
use Rattle.s7_listener.specs.Benches.{Terms}
use Rattle.s7_listener.specs.Hosted.{IsServedAs}
use Rattle.s7_listener.specs.Served.{ServedTold}

-- if none of some callers made a call, this caller, which is one of them, made none
not_of : (callers : List ℕ) (number : ℕ) (later : History) → has callers number ≡ true → NoneBy callers later
    → NoneBy (number ∷ []) later
not_of callers number later stands none =
    Each-weaker (λ e. has callers e.caller ≡ false) (λ e. has (number ∷ []) e.caller ≡ false) later
    (λ e not. has-not_one number e.caller (λ same. absurd (cc (stands, not, ap (has callers) same)))) none

-- if `later` adds to `seen` no call of a caller, and `last` adds to `later` no call of some callers, of which it is
-- one, then `last` adds to `seen` no call of this caller
pub agrees_on : (seen later last : History) (number : ℕ) (callers : List ℕ) → has callers number ≡ true
    → Agrees seen (number ∷ []) later → Agrees later callers last → Agrees seen (number ∷ []) last
agrees_on seen later last number callers stands a b = (
  a.0 ++ b.0,
  b.1 ∙ ap (λ h. h ++ b.0) a.1 ∙ append_assoc seen a.0 b.0,
  Each-append (λ e. has (number ∷ []) e.caller ≡ false) a.0 b.0 a.2 (not_of callers number b.0 stands b.2),
)

-- a caller that had made no call still has made none
pub silent_on : (seen later : History) (number : ℕ) (callers : List ℕ) → has callers number ≡ true
    → Agrees seen callers later → calls number seen ≡ [] → calls number later ≡ []
silent_on seen later number callers stands a none = calls_same seen later callers number stands a ∙ none

-- the plant's state at the opening, the limit of the history, and the state in which each link begins
abbrev pub hall_terms : State → ℕ → LinkState → Terms History
hall_terms opening limit first = record {
  agrees = λ seen callers later. Agrees seen callers later;
  silent = λ number seen. calls number seen ≡ [];
  fits = λ seen. length seen ≤ limit;
  served = λ seen number pipe served. IsServedAs opening limit first seen number pipe served;
  agrees_same = agrees_here;
  agrees_on = agrees_on;
  silent_on = silent_on;
}
