-- Laws of books to which calls of one link are added, one call after another.
use Rattle.std.proofs.Common.{◌≡◌, ℕ, List, [], ◌∷◌, ◌++◌, length, map, refl, ap, sym, ◌∙◌, subst, length-append}
use Rattle.std.proofs.lemmas.List.{append-nil, append_assoc}
use Rattle.std.proofs.lemmas.List.Sums.{fold-append}
use Rattle.s7_turn.specs.Histories.{replay}
use Rattle.s7_plant.specs.declared.event.Event.{Event}
use Rattle.s7_plant.specs.BookLaws.{events_more, watch_more, watch_none}
use Rattle.s7_plant.specs.Books.{BookTold}
use Rattle.s7_plant.specs.Events.{events_from}
use Rattle.s7_plant.specs.Journals.{after_call}
use Rattle.s7_plant.specs.Observers.{Watch, watch_all}
use Rattle.s7_plant.specs.State.{State, state_of}
use Rattle.s7_session.specs.Books.{History, history_of, AreOf, GoesOnBy, AreToldOn}

pub goes_on_same : (link : ℕ) (b : BookTold) → GoesOnBy link b b
goes_on_same link b =
    record { opening = refl; limit = refl; calls = []; history = sym (append-nil (history_of b)); own = tt }

are_both : (link : ℕ) (xs ys : History) → AreOf link xs → AreOf link ys → AreOf link (xs ++ ys)
are_both link [] ys xs_are ys_are = ys_are
are_both link (x ∷ xs) ys xs_are ys_are = (xs_are.0, are_both link xs ys xs_are.1 ys_are)

pub goes_on_both : (link other : ℕ) (a b c : BookTold) → other ≡ link → GoesOnBy link a b → GoesOnBy other b c
    → GoesOnBy link a c
goes_on_both link other a b c same p q = record {
  opening = q.opening ∙ p.opening;
  limit = q.limit ∙ p.limit;
  calls = p.calls ++ q.calls;
  history = q.history ∙ ap (λ es. es ++ q.calls) p.history ∙ append_assoc (history_of a) p.calls q.calls;
  own = are_both link p.calls q.calls p.own (subst (λ n. AreOf n q.calls) same q.own);
}

-- ---- observers

-- the events of calls that follow a history that began at a state
abbrev events_on : State → History → History → List Event
events_on s history calls = events_from (replay after_call s history) (length history) calls

pub told_on_same : (b : BookTold) (ws : List Watch) → AreToldOn b b ws ws
told_on_same b ws = record { calls = []; history = sym (append-nil (history_of b)); told = sym (watch_none ws) }

-- the events of two lists of calls are the events of the first and then those of the second
events_on_more : (s : State) (history xs ys : History)
    → events_on s history xs ++ events_on s (history ++ xs) ys ≡ events_on s history (xs ++ ys)
events_on_more s history xs ys =
    let left = replay after_call s history in
    (λ i. events_on s history xs
    ++ events_from (fold-append after_call s history xs i) (length-append history xs i) ys)
    ∙ sym (events_more left (length history) xs ys)

pub told_on_both : (a b c : BookTold) (ws ws' ws'' : List Watch) → b.opening ≡ a.opening → AreToldOn a b ws ws'
    → AreToldOn b c ws' ws'' → AreToldOn a c ws ws''
told_on_both a b c ws ws' ws'' opening p q =
    let s = state_of a.opening in
    let first = events_on s (history_of a) p.calls in
    let then_on = events_on s (history_of a ++ p.calls) q.calls in
    record {
      calls = p.calls ++ q.calls;
      history = q.history ∙ ap (λ es. es ++ q.calls) p.history ∙ append_assoc (history_of a) p.calls q.calls;
      told = q.told
          ∙ (λ i. map (watch_all (events_on (state_of (opening i)) (p.history i) q.calls)) (p.told i))
          ∙ watch_more first then_on ws
          ∙ ap (λ es. map (watch_all es) ws) (events_on_more s (history_of a) p.calls q.calls);
    }
