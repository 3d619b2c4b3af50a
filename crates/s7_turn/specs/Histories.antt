-- Histories, as lists of entries: their callers, and the states to which they lead.
use Rattle.std.specs.Prelude.{◌≡◌, ℕ, ◌+◌, ◌≤◌, ◌||◌, Bool, false, if◌then◌else◌, List, [], ◌∷◌, ◌++◌, length, eqb, fold}
use Rattle.s7_turn.specs.declared.view.Entry.{Entry}

-- whether c is in the list
abbrev pub has : List ℕ → ℕ → Bool
has [] c = false
has (x ∷ xs) c = eqb x c || has xs c

module _ {R : Type 0} where
  abbrev pub entry : ℕ → R → Entry R
  entry c r = record { caller = c; request = r }

  abbrev pub Each : (Entry R → Type 0) → List (Entry R) → Type 0
  Each P [] = Unit {0}
  Each P (e ∷ es) = P e × Each P es

  -- no entry is of one of these callers
  abbrev pub NoneBy : List ℕ → List (Entry R) → Type 0
  NoneBy callers h = Each (λ e. has callers e.caller ≡ false) h

  -- the history begins with what was seen, and no later entry is of one of these callers
  abbrev pub Agrees : List (Entry R) → List ℕ → List (Entry R) → Type 0
  Agrees seen callers h = (rest : List (Entry R)) × (h ≡ seen ++ rest) × NoneBy callers rest

  -- the indices of one caller's entries, if the first entry has index k
  abbrev pub places_from : ℕ → ℕ → List (Entry R) → List ℕ
  places_from k c [] = []
  places_from k c (e ∷ es) = if eqb e.caller c then k ∷ places_from (k + 1) c es else places_from (k + 1) c es

  -- the calls of one caller: the indices of its entries
  abbrev pub calls : ℕ → List (Entry R) → List ℕ
  calls c h = places_from 0 c h

  -- the state to which a history leads from an opening state
  abbrev pub replay : {O : Type 0} → (O → Entry R → O) → O → List (Entry R) → O
  replay after o h = fold after o h

  -- h' is h, or h and one more entry, of this caller
  abbrev pub AddedBy : ℕ → List (Entry R) → List (Entry R) → Type 0
  AddedBy c h h' = (es : List (Entry R)) × (h' ≡ h ++ es) × Each (λ e. e.caller ≡ c) es × (length es ≤ 1)
