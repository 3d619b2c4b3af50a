-- Laws of a link's own calls in a history.
use Rattle.std.proofs.Common.{◌≡◌, ℕ, ◌+◌, Bool, true, false, List, [], ◌∷◌, ◌++◌, length, map, refl, ap, sym, ◌∙◌}
use Rattle.std.proofs.Common.{arith}
use Rattle.std.specs.Prelude.{◌==◌, if◌then◌else◌}
use Rattle.std.proofs.lemmas.Bool.Decides.{nat_tests}
use Rattle.std.proofs.lemmas.List.{append-nil}
use Rattle.s7_turn.specs.Histories.{entry, replay}
use Rattle.s7_plant.specs.declared.request.Ask.{Ask}
use Rattle.s7_plant.specs.Answers.{answer_of, after}
pub use Rattle.s7_plant.specs.BookLaws.{calls_more as calls-append, length_calls as length-calls}
pub use Rattle.s7_plant.specs.BookLaws.{calls_lead as replay-calls}
use Rattle.s7_plant.specs.BookLaws.{watch_none}
use Rattle.s7_plant.specs.Books.{BookTold}
use Rattle.s7_plant.specs.Events.{event_at}
use Rattle.s7_plant.specs.Journals.{entries_of, entered, replay_entries, calls_of, after_call}
use Rattle.s7_plant.specs.Observers.{Watch, watch_one}
use Rattle.s7_plant.specs.Replies.{Said}
use Rattle.s7_plant.specs.Requests.{kept}
use Rattle.s7_plant.specs.State.{State, state_of}
use Rattle.s7_plant.proofs.BookLemmas.{event_kept}
use Rattle.s7_session.specs.Entry.{Entry}
use Rattle.s7_session.specs.Books.{History, history_of, entry_at, own_from, own, GoesOnBy, AreToldOn}

is_same : (a b : ℕ) → a ≡ b → (a == b) ≡ true
is_same a b e = grind (arith, nat_tests)

-- ---- one more call

first_or_not : (b : Bool) (x last : Entry) (rest longer : List Entry) → longer ≡ rest ++ last ∷ []
    → (if b then x ∷ longer else longer) ≡ (if b then x ∷ rest else rest) ++ last ∷ []
first_or_not true x last rest longer is = ap (λ es. x ∷ es) is
first_or_not false x last rest longer is = is

only_one : (b : Bool) (x y : Entry) → b ≡ true → x ≡ y → (if b then x ∷ [] else []) ≡ y ∷ []
only_one true x y is same = ap (λ e. e ∷ []) same
only_one false x y is same = cc

-- one more request of the link is one more call of its own
pub own-append : (number : ℕ) (s : State) (link : ℕ) (history : History) (ask : Ask)
    → own_from number s link (history ++ entry link ask ∷ []) ≡ own_from number s link history ++ entry_at (number + length history) (replay after_call s history) ask ∷ []
own-append number s link [] ask = only_one (link == link) _ _ (is_same link link refl) (ap (λ k. entry_at k s ask) (omega arith))
own-append number s link (call ∷ history) ask =
    first_or_not (call.caller == link) _ _ _ _
    (own-append (number + 1) (after s call.request) link history ask
    ∙ ap (λ k. own_from (number + 1) (after s call.request) link history ++ entry_at k (replay after_call (after s call.request) history) ask ∷ []) (omega arith))

-- with the number and the reply that the book gave
pub own_grows : (number : ℕ) (old new : BookTold) (link : ℕ) (ask : Ask) (said : Said)
    → number ≡ length old.journal.entries
    → new.journal ≡ entries_of (old.journal.entries ++ entered link ask ∷ []) old.journal.limit
    → said ≡ answer_of (replay_entries (state_of old.opening) old.journal.entries) ask
    → new.opening ≡ old.opening
    → (entries : List Entry) → entries ≡ own (state_of old.opening) link (history_of old)
    → entries ++ record { number = number; ask = ask; reply = said } ∷ [] ≡ own (state_of new.opening) link (history_of new)
own_grows number old new link ask said n is reply same entries h =
    let s = state_of old.opening in
    let es = old.journal.entries in
    let history = history_of old in
    let mine : ℕ → Said → Entry = λ k x. record { number = k; ask = ask; reply = x } in
    ap (λ all. all ++ mine number said ∷ []) h
    ∙ ap (λ k. own s link history ++ mine k said ∷ []) (n ∙ (sym (length-calls es) ∙ zero_plus (length history)))
    ∙ ap (λ x. own s link history ++ mine (0 + length history) x ∷ []) (reply ∙ ap (λ t. answer_of t ask) (sym (replay-calls s es)))
    ∙ sym (own-append 0 s link history ask)
    ∙ ap (own s link) (sym (calls-append es (entered link ask ∷ [])))
    ∙ ap (λ j. own s link (calls_of j.entries)) (sym is)
    ∙ ap (λ o. own (state_of o) link (history_of new)) (sym same)
  where
    zero_plus : (n : ℕ) → n ≡ 0 + n
    zero_plus n = omega arith

-- a book goes on by one call of the link
pub goes_on_by_one : (old new : BookTold) (link : ℕ) (ask : Ask) → new.opening ≡ old.opening
    → new.journal ≡ entries_of (old.journal.entries ++ entered link ask ∷ []) old.journal.limit → GoesOnBy link old new
goes_on_by_one old new link ask opening is = record {
  opening = opening;
  limit = ap (λ j. j.limit) is;
  calls = entry link ask ∷ [];
  history = ap (λ j. calls_of j.entries) is ∙ calls-append old.journal.entries (entered link ask ∷ []);
  own = (refl, tt);
}

-- who watches it is told of the call
pub told_on_by_one : (old new : BookTold) (link : ℕ) (ask : Ask) (ws ws' : List Watch)
    → new.journal ≡ entries_of (old.journal.entries ++ entered link (kept ask) ∷ []) old.journal.limit
    → ws' ≡ map (watch_one (event_at (state_of old.plant) (length old.journal.entries) (entry link ask))) ws
    → AreToldOn old new ws ws'
told_on_by_one old new link ask ws ws' is told =
    let es = old.journal.entries in
    let left : replay after_call (state_of old.opening) (calls_of es) ≡ state_of old.plant = replay-calls (state_of old.opening) es ∙ sym old.replayed in
    record {
      calls = entry link (kept ask) ∷ [];
      history = ap (λ j. calls_of j.entries) is ∙ calls-append es (entered link (kept ask) ∷ []);
      told = told
          ∙ ap (λ e. map (watch_one e) ws) (sym (event_kept (state_of old.plant) (length es) link ask))
          ∙ sym (λ i. map (watch_one (event_at (left i) (length-calls es i) (entry link (kept ask)))) ws);
    }

-- a book that is as it was
pub goes_on_by_none : (old new : BookTold) (link : ℕ) → new ≡ old → GoesOnBy link old new
goes_on_by_none old new link same = record {
  opening = ap (λ b. b.opening) same;
  limit = ap (λ b. b.journal.limit) same;
  calls = [];
  history = ap history_of same ∙ sym (append-nil (history_of old));
  own = tt;
}

pub told_on_by_none : (old new : BookTold) (ws ws' : List Watch) → new ≡ old → ws' ≡ ws → AreToldOn old new ws ws'
told_on_by_none old new ws ws' same told = record {
  calls = [];
  history = ap history_of same ∙ sym (append-nil (history_of old));
  told = told ∙ sym (watch_none ws);
}
