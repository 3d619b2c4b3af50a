-- A link's own calls, in histories that go on by calls of others and by its own.
use Rattle.std.proofs.Common.{◌≡◌, ◌≢◌, ℕ, ◌+◌, Bool, true, false, true≢false, eqb, eq-eqb, List, [], ◌∷◌, ◌++◌, length, refl, ap, sym, ◌∙◌, arith}
use Rattle.std.specs.Prelude.{◌==◌, if◌then◌else◌}
use Rattle.std.proofs.lemmas.Bool.Decides.{nat_tests}
use Rattle.std.proofs.lemmas.List.{append-nil}
use Rattle.s7_turn.specs.Histories.{entry, has, NoneBy, Agrees, calls, places_from, replay}
use Rattle.s7_turn.proofs.Lists.{one-has}
use Rattle.s7_plant.specs.declared.request.Ask.{Ask}
use Rattle.s7_plant.specs.Answers.{answer_of, after}
use Rattle.s7_plant.specs.Journals.{after_call}
use Rattle.s7_plant.specs.Replies.{Said}
use Rattle.s7_plant.specs.State.{State}
use Rattle.s7_session.specs.Entry.{Entry}
use Rattle.s7_session.specs.Books.{History, entry_at, own_from, own}

is_same : (a b : ℕ) → a ≡ b → (a == b) ≡ true
is_same a b e = grind (arith, nat_tests)

is_other : (a b : ℕ) → a ≢ b → (a == b) ≡ false
is_other a b n = grind (arith, nat_tests)

first_or_not : (b : Bool) (x : Entry) (rest longer more : List Entry) → longer ≡ rest ++ more
    → (if b then x ∷ longer else longer) ≡ (if b then x ∷ rest else rest) ++ more
first_or_not true x rest longer more is = ap (λ es. x ∷ es) is
first_or_not false x rest longer more is = is

own-append : (number : ℕ) (s : State) (link : ℕ) (history more : History)
    → own_from number s link (history ++ more) ≡ own_from number s link history ++ own_from (number + length history) (replay after_call s history) link more
own-append number s link [] more = ap (λ k. own_from k s link more) (omega arith)
own-append number s link (call ∷ history) more =
    first_or_not (call.caller == link) _ _ _ _
    (own-append (number + 1) (after s call.request) link history more
    ∙ ap (λ k. own_from (number + 1) (after s call.request) link history ++ own_from k (replay after_call (after s call.request) history) link more) (omega arith))

-- calls of others are none of its own
own_of_others : (number : ℕ) (s : State) (link : ℕ) (callers : List ℕ) (history : History) → has callers link ≡ true → NoneBy callers history
    → own_from number s link history ≡ []
own_of_others number s link callers [] stands none = refl
own_of_others number s link callers (call ∷ history) stands none =
    let other : call.caller ≢ link = λ same. true≢false (sym stands ∙ (ap (has callers) (sym same) ∙ none.0)) in
    ap (λ (b : Bool). if b then entry_at number s call.request ∷ own_from (number + 1) (after s call.request) link history else own_from (number + 1) (after s call.request) link history)
    (is_other call.caller link other)
    ∙ own_of_others (number + 1) (after s call.request) link callers history stands none.1

-- in a history that agrees with what a seat has seen, the own calls are those that it has seen
pub own_agrees : (s : State) (link : ℕ) (callers : List ℕ) (seen history : History) → has callers link ≡ true → Agrees seen callers history
    → own s link history ≡ own s link seen
own_agrees s link callers seen history stands a =
    ap (own s link) a.1
    ∙ own-append 0 s link seen a.0
    ∙ ap (λ es. own s link seen ++ es) (own_of_others (0 + length seen) (replay after_call s seen) link callers a.0 stands a.2)
    ∙ append-nil (own s link seen)

-- and one more of its own stands behind them, with its number and the reply of the state there
pub own_grows : (s : State) (link : ℕ) (callers : List ℕ) (seen history : History) (number : ℕ) (ask : Ask) (said : Said) → has callers link ≡ true
    → Agrees seen callers history → length history ≡ number → said ≡ answer_of (replay after_call s history) ask
    → (entries : List Entry) → entries ≡ own s link seen
    → entries ++ record { number = number; ask = ask; reply = said } ∷ [] ≡ own s link (history ++ entry link ask ∷ [])
own_grows s link callers seen history number ask said stands a long is entries mine =
    let made : ℕ → Said → Entry = λ k x. record { number = k; ask = ask; reply = x } in
    ap (λ es. es ++ made number said ∷ []) (mine ∙ sym (own_agrees s link callers seen history stands a))
    ∙ ap (λ k. own s link history ++ made k said ∷ []) (sym long)
    ∙ ap (λ x. own s link history ++ made (length history) x ∷ []) is
    ∙ ap (λ k. own s link history ++ made k (answer_of (replay after_call s history) ask) ∷ []) (zero_plus (length history))
    ∙ ap (λ es. own s link history ++ es) (only_one (link == link) (is_same link link refl))
    ∙ sym (own-append 0 s link history (entry link ask ∷ []))
  where
    zero_plus : (n : ℕ) → n ≡ 0 + n
    zero_plus n = omega arith

    only_one : (b : Bool) → b ≡ true
        → entry_at (0 + length history) (replay after_call s history) ask ∷ [] ≡ (if b then entry_at (0 + length history) (replay after_call s history) ask ∷ [] else [])
    only_one true e = refl
    only_one false e = absurd (true≢false (sym e))

-- a seat that stands for its caller alone stands for it
pub alone_is_named : (callers : List ℕ) (c : ℕ) → callers ≡ c ∷ [] → has callers c ≡ true
alone_is_named callers c is = ap (λ l. has l c) is ∙ one-has c

-- who has made no call has no own calls
pub own_of_none : (s : State) (link : ℕ) (history : History) → calls link history ≡ [] → [] ≡ own s link history
own_of_none s link history none = go 0 s history none
  where
    taken : (b : Bool) (k : ℕ) (rest : List ℕ) → (if b then k ∷ rest else rest) ≡ [] → b ≡ false
    taken true k rest e = absurd (cc)
    taken false k rest e = refl

    untaken : (b : Bool) (k : ℕ) (rest : List ℕ) → b ≡ false → (if b then k ∷ rest else rest) ≡ [] → rest ≡ []
    untaken true k rest is e = absurd (true≢false is)
    untaken false k rest is e = e

    go : (number : ℕ) (t : State) (h : History) → places_from number link h ≡ [] → [] ≡ own_from number t link h
    go number t [] e = refl
    go number t (call ∷ h) e =
        let not : eqb call.caller link ≡ false = taken (eqb call.caller link) number (places_from (number + 1) link h) e in
        let rest = untaken (eqb call.caller link) number (places_from (number + 1) link h) not e in
        go (number + 1) (after t call.request) h rest
        ∙ ap (λ (b : Bool). if b then entry_at number t call.request ∷ own_from (number + 1) (after t call.request) link h else own_from (number + 1) (after t call.request) link h)
        (sym (is_other call.caller link (λ same. true≢false (sym (eq-eqb call.caller link same) ∙ not))))
