-- The turns of actors that a text gives.
use Rattle.std.proofs.Common.{◌≡◌, ◌∙◌, ◌+◌, Bor, slice_index_or, drop, subst, ◌<◌, ◌≤◌, ◌&&◌, ℕ, Bool, cond, true, false, refl, sym, ap, List, [], ◌∷◌, ◌++◌, map, take, length, zero, suc, arith, Option, Some, None, All, nat_lt, lt-ltb, ltb-true}
use Rattle.std.specs.Prelude.{if◌then◌else◌}
use Rattle.std.specs.List.{list_all}
use Rattle.std.specs.Char.{digit_value}
use Rattle.std.specs.Str.Parse.{AllDigits, IsNumeral, without_leading_plus}
use Rattle.std.proofs.Math.Nat.{lt_of_lt_of_le}
use Rattle.std.proofs.lemmas.List.{map-append, length-map, take_all}
use Rattle.std.proofs.lemmas.List.Folds.{list_all-append}
use Rattle.std.proofs.lemmas.List.Elements.{All-nil, All-cons}
use Rattle.s7_args.specs.CommandLine.{Text, is_number, number_of}
use Rattle.s7_args.specs.Tool.{is_actor}
use Rattle.s7_args.proofs.Fine.{both_true, digits_from}

digits_all : (ds : Text) → AllDigits 10 ds → list_all (λ d. nat_lt (digit_value d) 10) ds ≡ true
digits_all [] h = refl
digits_all (d ∷ ds) h = rw (lt-ltb (digit_value d) 10 h.0) (digits_all ds h.1)

-- a text that is parsed as a number below the count is an actor
pub actor_taken : (count n : ℕ) (text : Text) → n ≡ number_of text → IsNumeral 10 (without_leading_plus text) → n < count
    → Some n ≡ (if is_actor count text then Some (number_of text) else None)
actor_taken count n text same numeral less =
    let digits : is_number text ≡ true = rw (lt-ltb _ _ numeral.0, digits_all _ numeral.1) refl in
    let below : nat_lt (number_of text) count ≡ true = rw (← same) (lt-ltb n count less) in
    rw (digits, below, same) refl

-- a text that is parsed as no number below the count is none
pub actor_refused : (count high : ℕ) (text : Text) → count ≤ high → (IsNumeral 10 (without_leading_plus text) × (number_of text < high) → ⊥)
    → ◌≡◌ {A = Option ℕ} None (if is_actor count text then Some (number_of text) else None)
actor_refused count high text small none = go (is_number text) (nat_lt (number_of text) count) refl refl
  where
    go : (a b : Bool) → is_number text ≡ a → nat_lt (number_of text) count ≡ b → ◌≡◌ {A = Option ℕ} None (cond (a && b) (Some (number_of text)) None)
    go false b digits below = refl
    go true false digits below = refl
    go true true digits below =
        let numeral = both_true _ _ digits in
        absurd (none ((ltb-true _ _ numeral.0, digits_from _ numeral.1), lt_of_lt_of_le (ltb-true _ _ below) small))

-- ---- several of them

abbrev pub actors_in : ℕ → List Text → Option (List ℕ)
actors_in count parts = if list_all (is_actor count) parts then Some (map number_of parts) else None

and-false : (b : Bool) → (b && false) ≡ false
and-false true = refl
and-false false = refl

pub one_more_actor : (count : ℕ) (parts : List Text) (part : Text) (turns : List ℕ) (n : ℕ) → Some turns ≡ actors_in count parts
    → Some n ≡ (if is_actor count part then Some (number_of part) else None)
    → Some (turns ++ n ∷ []) ≡ actors_in count (parts ++ part ∷ [])
one_more_actor count parts part turns n so_far is = go (list_all (is_actor count) parts) (is_actor count part) refl refl so_far is
  where
    go : (a b : Bool) → list_all (is_actor count) parts ≡ a → is_actor count part ≡ b → Some turns ≡ cond a (Some (map number_of parts)) None
        → Some n ≡ cond b (Some (number_of part)) None → Some (turns ++ n ∷ []) ≡ actors_in count (parts ++ part ∷ [])
    go true true all mine so_far is =
        let turns_are : turns ≡ map number_of parts = cc in
        let n_is : n ≡ number_of part = cc in
        let passes : list_all (is_actor count) (parts ++ part ∷ []) ≡ true = list_all-append (is_actor count) parts (part ∷ []) ∙ rw (all, mine) refl in
        rw (passes, map-append number_of parts (part ∷ [])) (λ i. Some (turns_are i ++ n_is i ∷ []))
    go true false all mine so_far is = cc
    go false b all mine so_far is = cc

pub no_actor : (count : ℕ) (parts : List Text) (part : Text) (rest : List Text) → ◌≡◌ {A = Option ℕ} None (if is_actor count part then Some (number_of part) else None)
    → ◌≡◌ {A = Option (List ℕ)} None (actors_in count (parts ++ part ∷ rest))
no_actor count parts part rest is = go (is_actor count part) refl is
  where
    go : (b : Bool) → is_actor count part ≡ b → ◌≡◌ {A = Option ℕ} None (cond b (Some (number_of part)) None)
        → ◌≡◌ {A = Option (List ℕ)} None (actors_in count (parts ++ part ∷ rest))
    go true mine is = cc
    go false mine is =
        let fails : list_all (is_actor count) (parts ++ part ∷ rest) ≡ false =
        list_all-append (is_actor count) parts (part ∷ rest) ∙ rw mine (and-false (list_all (is_actor count) parts)) in
        rw fails refl

below : (count : ℕ) (parts : List Text) → list_all (is_actor count) parts ≡ true → All (λ turn. turn < count) (map number_of parts)
below count [] all = All-nil (λ turn. turn < count)
below count (part ∷ parts) all =
    let two = both_true _ _ all in
    All-cons (λ turn. turn < count) (number_of part) (map number_of parts) (ltb-true _ _ (both_true _ _ two.0).1) (below count parts two.1)

pub all_below : (count : ℕ) (parts : List Text) (turns : List ℕ) → Some turns ≡ actors_in count parts → All (λ turn. turn < count) turns
all_below count parts turns is = go (list_all (is_actor count) parts) refl is
  where
    go : (a : Bool) → list_all (is_actor count) parts ≡ a → Some turns ≡ cond a (Some (map number_of parts)) None → All (λ turn. turn < count) turns
    go true all is = let same : map number_of parts ≡ turns = cc in subst (All (λ turn. turn < count)) same (below count parts all)
    go false all is = cc

-- ---- by the place of a part

abbrev pub now_of : List (Bor Text) → List Text
now_of items = map (λ s. s.now) items

parts_at : (items : List (Bor Text)) (i : ℕ) (d : Bor Text) → i < length items
    → now_of items ≡ take i (now_of items) ++ (slice_index_or items i d).now ∷ drop (i + 1) (now_of items)
parts_at [] i d less = absurd (omega arith)
parts_at (x ∷ xs) zero d less = refl
parts_at (x ∷ xs) (suc i) d less = let e : suc i + 1 ≡ suc (i + 1) = omega arith in rw e (ap (λ ys. x.now ∷ ys) (parts_at xs i d (omega arith)))

parts_before : (items : List (Bor Text)) (i : ℕ) (d : Bor Text) → i < length items
    → take i (now_of items) ++ (slice_index_or items i d).now ∷ [] ≡ take (i + 1) (now_of items)
parts_before [] i d less = absurd (omega arith)
parts_before (x ∷ xs) zero d less = refl
parts_before (x ∷ xs) (suc i) d less = let e : suc i + 1 ≡ suc (i + 1) = omega arith in rw e (ap (λ ys. x.now ∷ ys) (parts_before xs i d (omega arith)))

module _ (count : ℕ) (items : List (Bor Text)) (i : ℕ) (d : Bor Text) (less : i < length items) where
  pub more_at : (turns : List ℕ) (n : ℕ) → Some turns ≡ actors_in count (take i (now_of items))
      → Some n ≡ (if is_actor count (slice_index_or items i d).now then Some (number_of (slice_index_or items i d).now) else None)
      → Some (turns ++ n ∷ []) ≡ actors_in count (take (i + 1) (now_of items))
  more_at turns n so_far is =
      one_more_actor count (take i (now_of items)) (slice_index_or items i d).now turns n so_far is ∙ ap (actors_in count) (parts_before items i d less)

  pub none_at : ◌≡◌ {A = Option ℕ} None (if is_actor count (slice_index_or items i d).now then Some (number_of (slice_index_or items i d).now) else None)
      → ◌≡◌ {A = Option (List ℕ)} None (actors_in count (now_of items))
  none_at is =
      no_actor count (take i (now_of items)) (slice_index_or items i d).now (drop (i + 1) (now_of items)) is ∙ ap (actors_in count) (sym (parts_at items i d less))

pub all_at : (count : ℕ) (items : List (Bor Text)) (i : ℕ) (turns : List ℕ) → length items ≤ i → Some turns ≡ actors_in count (take i (now_of items))
    → Some turns ≡ actors_in count (now_of items)
all_at count items i turns end so_far = so_far ∙ ap (actors_in count) (take_all i (now_of items) (omega (arith, length-map items (λ (s : Bor Text). s.now))))
