-- One more entry acts on the state that those before it left.
use Rattle.std.proofs.Common.{◌≡◌, ℕ, ◌+◌, ◌-◌, ◌<◌, ◌≤◌, List, [], ◌∷◌, ◌++◌, length, take, drop, get_or, refl, sym, ap, ◌∙◌}
use Rattle.std.proofs.Common.{arith}
use Rattle.std.proofs.lemmas.List.{get_or-drop, get_or-take, length-drop, length-take-le, take_more}
use Rattle.s7_plant.specs.declared.journal.Entry.{Entry}
use Rattle.s7_plant.specs.Answers.{after}
use Rattle.s7_plant.specs.Journals.{at, replay_entries}
use Rattle.s7_plant.specs.State.{State}

pub goes_on : (s : State) (entries : List Entry) (entry : Entry) → replay_entries s (entries ++ entry ∷ []) ≡ after (replay_entries s entries) entry.ask
goes_on s [] entry = refl
goes_on s (first ∷ entries) entry = goes_on (after s first.ask) entries entry

pub at_more : (s : State) (entries : List Entry) (n k : ℕ) (entry : Entry) → n ≤ length entries → k < length (take n entries) → entry ≡ get_or (take n entries) k entry → at s entries (k + 1) ≡ after (at s entries k) entry.ask
at_more s entries n k entry within below is =
    let many = length-take-le n entries within in
    let same = is ∙ get_or-take n entries k entry (omega arith) in
    ap (replay_entries s) (take_more entries k entry (omega arith))
    ∙ ap (λ e. replay_entries s (take k entries ++ e ∷ [])) (sym same)
    ∙ goes_on s (take k entries) entry

-- the same where the entries are those between two places
pub at_further : (s : State) (entries : List Entry) (n first k : ℕ) (entry : Entry) → n ≤ length entries → first ≤ n → k < length (take (length (take n entries) - first) (drop first (take n entries))) → entry ≡ get_or (take (length (take n entries) - first) (drop first (take n entries))) k entry → at s entries (first + (k + 1)) ≡ after (at s entries (first + k)) entry.ask
at_further s entries n first k entry within low below is =
    let front = take n entries in
    let many = length-take-le n entries within in
    let left = length-drop first front in
    let piece = length-take-le (length front - first) (drop first front) (omega arith) in
    let same = is ∙ get_or-take (length front - first) (drop first front) k entry (omega arith) ∙ get_or-drop first front k entry in
    let next : first + (k + 1) ≡ first + k + 1 = omega arith in
    ap (at s entries) next ∙ at_more s entries n (first + k) entry within (omega arith) same

-- as many entries as there are between the places
pub length_between : (entries : List Entry) (n first : ℕ) → n ≤ length entries → length (take (length (take n entries) - first) (drop first (take n entries))) ≡ n - first
length_between entries n first within =
    let front = take n entries in
    let many = length-take-le n entries within in
    let left = length-drop first front in
    let piece = length-take-le (length front - first) (drop first front) (omega arith) in
    omega arith
