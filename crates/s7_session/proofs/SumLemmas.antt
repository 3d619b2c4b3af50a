-- The calls of links whose numbers are different add up to the whole history.
use Rattle.std.proofs.Common.{◌≡◌, ◌≢◌, inl, inr, ℕ, ◌+◌, ◌<◌, ◌≤◌, Bool, true, false, List, [], ◌∷◌, length}
use Rattle.std.proofs.Common.{refl, ap, ap₂, ◌∙◌, arith}
use Rattle.std.specs.Prelude.{◌==◌, if◌then◌else◌}
use Rattle.std.specs.List.{AllByRecursion}
use Rattle.std.proofs.lemmas.Bool.{eqb-true, eqb-false}
use Rattle.std.proofs.lemmas.Bool.Decides.{nat_tests}
use Rattle.s7_turn.specs.declared.view.Entry.{Entry as Call}
use Rattle.s7_plant.specs.declared.request.Ask.{Ask}
use Rattle.s7_plant.specs.Answers.{after}
use Rattle.s7_plant.specs.State.{State}
use Rattle.s7_session.specs.Books.{History, entry_at, own_from, own}
use Rattle.s7_session.specs.Entry.{Entry}
use Rattle.s7_session.specs.Legal.{Links, IsServedBy, AreDifferent, sum_of}

-- links are numbered in order from this number
abbrev pub AreNumbered : ℕ → Links → Type 0
AreNumbered low [] = Unit {0}
AreNumbered low (link ∷ links) = (link.0 ≡ low) × AreNumbered (low + 1) links

-- as many telegrams of each link were entered as a history that begins at a state has calls of it
abbrev pub AreCounted : State → History → Links → Type 0
AreCounted s history [] = Unit {0}
AreCounted s history (link ∷ links) = (link.1 ≡ length (own s link.0 history)) × AreCounted s history links

-- each call is of one of so many links, numbered from this number
abbrev pub AreWithin : ℕ → ℕ → History → Type 0
AreWithin low count history =
    AllByRecursion (λ (call : Call Ask). (low ≤ call.caller) × (call.caller < low + count)) history

-- ---- counts

abbrev one_if : Bool → ℕ
one_if true = 1
one_if false = 0

-- how many calls a link has in a history
abbrev count_of : ℕ → History → ℕ
count_of number [] = 0
count_of number (call ∷ history) = one_if (call.caller == number) + count_of number history

counted_if : (b : Bool) (x : Entry) (rest : List Entry) (n : ℕ) → length rest ≡ n
    → length (if b then x ∷ rest else rest) ≡ one_if b + n
counted_if true x rest n is = omega (arith, is)
counted_if false x rest n is = omega (arith, is)

own_count : (at : ℕ) (s : State) (number : ℕ) (history : History)
    → length (own_from at s number history) ≡ count_of number history
own_count at s number [] = refl
own_count at s number (call ∷ history) =
    counted_if (call.caller == number) (entry_at at s call.request)
    (own_from (at + 1) (after s call.request) number history) (count_of number history)
    (own_count (at + 1) (after s call.request) number history)

-- how many calls all of these links have
abbrev total : Links → History → ℕ
total [] history = 0
total (link ∷ links) history = count_of link.0 history + total links history

-- how many of these links have a number
abbrev times : ℕ → Links → ℕ
times x [] = 0
times x (link ∷ links) = one_if (x == link.0) + times x links

total_none : (links : Links) → total links [] ≡ 0
total_none [] = refl
total_none (link ∷ links) = omega (arith, total_none links)

total_more : (links : Links) (call : Call Ask) (history : History)
    → total links (call ∷ history) ≡ times call.caller links + total links history
total_more [] call history = omega arith
total_more (link ∷ links) call history = omega (arith, total_more links call history)

-- where each call is of exactly one of the links, they have as many calls as the history
total_is : (links : Links) (history : History)
    → AllByRecursion (λ (call : Call Ask). times call.caller links ≡ 1) history → total links history ≡ length history
total_is links [] once = total_none links
total_is links (call ∷ history) once =
    omega (arith, total_more links call history, once.0, total_is links history once.1)

sum_is : (s : State) (history : History) (links : Links) → AreCounted s history links
    → sum_of links ≡ total links history
sum_is s history [] counted = refl
sum_is s history (link ∷ links) counted =
    ap₂ (λ m n. m + n) (counted.0 ∙ own_count 0 s link.0 history) (sum_is s history links counted.1)

-- ---- numbers in order are different

none_in : (low : ℕ) (links : Links) (x : ℕ) → AreNumbered low links → x < low → times x links ≡ 0
none_in low [] x numbered less = refl
none_in low (link ∷ links) x numbered less =
    let apart : one_if (x == link.0) ≡ 0 = ap one_if (other x link.0 (omega (arith, less, numbered.0))) in
    omega (arith, apart, none_in (low + 1) links x numbered.1 (omega (arith, less)))
  where
    other : (a b : ℕ) → a < b → (a == b) ≡ false
    other a b less = grind (arith, nat_tests)

once_by : (low : ℕ) (links : Links) (number x : ℕ) (b : Bool) → (x == number) ≡ b → number ≡ low
    → AreNumbered (low + 1) links → low ≤ x → (low + 1 ≤ x → times x links ≡ 1) → one_if b + times x links ≡ 1
once_by low links number x true e is behind least rest =
    let same = eqb-true x number e in
    omega (arith, none_in (low + 1) links x behind (omega (arith, same, is)))
once_by low links number x false e is behind least rest =
    let apart = eqb-false x number e in
    omega (arith, rest (omega (arith, apart, is, least)))

once_in : (low : ℕ) (links : Links) (x : ℕ) → AreNumbered low links → low ≤ x → x < low + length links
    → times x links ≡ 1
once_in low [] x numbered least most = absurd (omega (arith, least, most))
once_in low (link ∷ links) x numbered least most =
    once_by low links link.0 x (x == link.0) refl numbered.0 numbered.1 least
    (λ above. once_in (low + 1) links x numbered.1 above (omega (arith, most)))

all_once : (low : ℕ) (links : Links) (history : History) → AreNumbered low links → AreWithin low (length links) history
    → AllByRecursion (λ (call : Call Ask). times call.caller links ≡ 1) history
all_once low links [] numbered within = tt
all_once low links (call ∷ history) numbered within =
    (once_in low links call.caller numbered within.0.0 within.0.1, all_once low links history numbered within.1)

-- a link behind a number has another
unserved : (low : ℕ) (links : Links) (x : ℕ) → AreNumbered low links → x < low → IsServedBy links x → ⊥
unserved low [] x numbered less s = s
unserved low (link ∷ links) x numbered less (inl same) = absurd (omega (arith, same, less, numbered.0))
unserved low (link ∷ links) x numbered less (inr s) = unserved (low + 1) links x numbered.1 (omega (arith, less)) s

-- links that are numbered in order have different numbers
pub all_different : (low : ℕ) (links : Links) → AreNumbered low links → AreDifferent links
all_different low [] numbered = tt
all_different low (link ∷ links) numbered =
    let less : link.0 < low + 1 = omega (arith, numbered.0) in
    (unserved (low + 1) links link.0 numbered.1 less, all_different (low + 1) links numbered.1)

-- ---- each call is of a link that was served

served_by : (link : ℕ × ℕ) (links : Links) (x : ℕ) (b : Bool) → (x == link.0) ≡ b → (x ≢ link.0 → IsServedBy links x)
    → IsServedBy (link ∷ links) x
served_by link links x true e rest = inl (eqb-true x link.0 e)
served_by link links x false e rest = inr (rest (eqb-false x link.0 e))

served : (low : ℕ) (links : Links) (x : ℕ) → AreNumbered low links → low ≤ x → x < low + length links
    → IsServedBy links x
served low [] x numbered least most = absurd (omega (arith, least, most))
served low (link ∷ links) x numbered least most =
    served_by link links x (x == link.0) refl
    (λ apart. served (low + 1) links x numbered.1 (omega (arith, least, apart, numbered.0)) (omega (arith, most)))

pub all_served : (low : ℕ) (links : Links) (history : History) → AreNumbered low links
    → AreWithin low (length links) history → AllByRecursion (λ (call : Call Ask). IsServedBy links call.caller) history
all_served low links [] numbered within = tt
all_served low links (call ∷ history) numbered within =
    (served low links call.caller numbered within.0.0 within.0.1, all_served low links history numbered within.1)

-- ---- the counts of the links add up to the history

pub counts_add_up : (s : State) (low : ℕ) (links : Links) (history : History) → AreNumbered low links
    → AreWithin low (length links) history → AreCounted s history links → sum_of links ≡ length history
counts_add_up s low links history numbered within counted =
    sum_is s history links counted ∙ total_is links history (all_once low links history numbered within)
