-- Areas that are moved one after another.
use Rattle.std.proofs.Common.{◌≡◌, ◌≢◌, ◌⊎◌, inl, inr, ℕ, zero, suc, ◌+◌, ◌<◌, ◌≤◌, Bool, true, false, cond, List, [], ◌∷◌, length, map, Option, Some, None, slice_get, refl, ap, sym, ◌∙◌, subst, arith, ⊎_elim}
use Rattle.std.specs.Prelude.{◌++◌, ◌==◌, ◌||◌, ◌%◌, if◌then◌else◌, filter}
use Rattle.std.specs.declared.cmp.Ordering.{Ordering}
use Rattle.std.specs.declared.cmp.Ordering.TheVariants.{Less, Equal, Greater}
use Rattle.std.specs.Ordering.{match_ordering, is_eq, ordering_then, ordering_reverse, nat_cmp, eq_by_cmp}
use Rattle.std.specs.Cmp.{IsTotalOrder, both_ways}
use Rattle.std.specs.BTreeMap.{is_at, insert_entry}
use Rattle.std.specs.List.{list_any}
use Rattle.std.specs.List.Sorted.{IsStrictlySortedBy}
use Rattle.std.specs.Map.{keys_of, lookup, remove_entry}
use Rattle.std.specs.Option.{option_or}
use Rattle.std.proofs.lemmas.Bool.{cases_Bool}
use Rattle.std.proofs.lemmas.Bool.Decides.{nat_tests}
use Rattle.std.proofs.lemmas.Nat.{mod_below}
use Rattle.std.proofs.lemmas.Cmp.{ranked, alike_right, tied_itself, eq_by_cmp_equiv}
use Rattle.std.proofs.lemmas.Map.{lookup-none, lookup-remove_entry}
use Rattle.std.proofs.lemmas.Map.Keys.{sorted_tail, IsDistinct-from_sorted}
use Rattle.std.proofs.lemmas.List.Kept.{IsStrictlySortedBy-filter}
use Rattle.std.proofs.lemmas.Map.Entries.{lookup_head, lookup_tail, none_past_head, none_below_head, lookup-filter-keys, place_from_lookup}
use Rattle.std.proofs.lemmas.Map.Lookups.{CmpEqualImpliesEq}
use Rattle.s7_item.specs.Codes.{data_blocks}
use Rattle.s7_area.specs.declared.key.AreaKey.{AreaKey}
use Rattle.s7_area.specs.Memory.{AreaList, Memory, key_cmp, area_octets}
use Rattle.s7_area.specs.Registers.{db_numbers, IsMemory}
use Rattle.s7_area.proofs.MemoryLemmas.{key_cmp_total}
use Rattle.s7_bank.specs.Areas.{bank_of, bank_of_key, part_of}
use Rattle.s7_bank.specs.Dividing.{block_key, ArePartOf, AreLeftBy}
use Rattle.s7_bank.proofs.ListLemmas.{same_some, none_isnt, append_cases}

-- ---- truth values

is_equal : (r : Ordering) → is_eq r ≡ true → r ≡ Equal
is_equal Less e = cc
is_equal Equal e = refl
is_equal Greater e = cc

reversed : (r : Ordering) → is_eq (ordering_reverse r) ≡ is_eq r
reversed Less = refl
reversed Equal = refl
reversed Greater = refl

or_true : (a b : Bool) → b ≡ true → (a || b) ≡ true
or_true true b e = refl
or_true false b e = e

cond_twice : {X : Type 0} (b : Bool) (x y z : X) → cond b x (cond b y z) ≡ cond b x z
cond_twice true x y z = refl
cond_twice false x y z = refl

cond_swap : {X : Type 0} (a b : Bool) (x y z : X) → (a ≡ true → b ≡ true → ⊥) → cond b y (cond a x z) ≡ cond a x (cond b y z)
cond_swap true true x y z clash = absurd (clash refl refl)
cond_swap true false x y z clash = refl
cond_swap false true x y z clash = refl
cond_swap false false x y z clash = refl

equal_if : (x y : ℕ) → (x == y) ≡ true → x ≡ y
equal_if x y e = grind (arith, nat_tests)

-- ---- lists

last_or_before : {X : Type 0} (P : ℕ → X → Type 0) (xs : List X) (x : X) (i : ℕ) (y : X) → ((j : ℕ) (z : X) → slice_get xs j ≡ Some z → P j z) → P (length xs) x
    → ((length xs ≡ i) × (x ≡ y)) ⊎ (slice_get xs i ≡ Some y) → P i y
last_or_before P xs x i y so is (inl p) = subst (λ n. P n y) p.0 (subst (P (length xs)) p.1 is)
last_or_before P xs x i y so is (inr e) = so i y e

-- what is so of each element and its index is so with one element more
pub each_more : {X : Type 0} (P : ℕ → X → Type 0) (xs : List X) (x : X) → ((i : ℕ) (y : X) → slice_get xs i ≡ Some y → P i y) → P (length xs) x
    → (i : ℕ) (y : X) → slice_get (xs ++ x ∷ []) i ≡ Some y → P i y
each_more P xs x so is i y e = last_or_before P xs x i y so is (append_cases xs x i y e)

-- ---- maps

module _ {K X : Type 0} {R : K → K → Ordering} (o : IsTotalOrder R) where
  lookup_alike : (a b : K) → R a b ≡ Equal → (es : List (K × X)) → lookup (is_at (R a)) es ≡ lookup (is_at (R b)) es
  lookup_alike a b same [] = refl
  lookup_alike a b same (e ∷ es) =
      ap (λ r. cond (is_eq r) (Some e.1) (lookup (is_at (R a)) es)) (o.congr a b e.0 same)
      ∙ ap (cond (is_eq (R b e.0)) (Some e.1)) (lookup_alike a b same es)

  insert_at : (r : Ordering) (k q : K) (v : X) (e : K × X) (es : List (K × X)) → R k e.0 ≡ r
      → lookup (is_at (R q)) (insert_entry R es k v) ≡ cond (is_eq (R q k)) (Some v) (lookup (is_at (R q)) es)
      → lookup (is_at (R q)) (match_ordering r ((k, v) ∷ e ∷ es) ((e.0, v) ∷ es) (e ∷ insert_entry R es k v))
      ≡ cond (is_eq (R q k)) (Some v) (cond (is_eq (R q e.0)) (Some e.1) (lookup (is_at (R q)) es))
  insert_at Less k q v e es is later = refl
  insert_at Equal k q v e es is later =
      let l : Option X = lookup (is_at (R q)) es in
      sym (cond_twice (is_eq (R q e.0)) (Some v) (Some e.1) l)
      ∙ ap (λ r. cond (is_eq r) (Some v) (cond (is_eq (R q e.0)) (Some e.1) l)) (sym (alike_right o k e.0 q is))
  insert_at Greater k q v e es is later =
      let l : Option X = lookup (is_at (R q)) es in
      ap (cond (is_eq (R q e.0)) (Some e.1)) later
      ∙ cond_swap (is_eq (R q k)) (is_eq (R q e.0)) (Some v) (Some e.1) l (λ a b.
      let other : Greater ≡ Equal = sym is ∙ sym (o.congr q k e.0 (is_equal (R q k) a)) ∙ is_equal (R q e.0) b in cc)

  lookup_insert : (es : List (K × X)) (k q : K) (v : X) → lookup (is_at (R q)) (insert_entry R es k v) ≡ cond (is_eq (R q k)) (Some v) (lookup (is_at (R q)) es)
  lookup_insert [] k q v = refl
  lookup_insert (e ∷ es) k q v = insert_at (R k e.0) k q v e es refl (lookup_insert es k q v)

  lookup_removed : (es : List (K × X)) (k q : K) → IsStrictlySortedBy R (keys_of es)
      → lookup (is_at (R q)) (remove_entry (is_at (R k)) es) ≡ cond (is_at (R k) q) None (lookup (is_at (R q)) es)
  lookup_removed es k q sorted =
      lookup-remove_entry {eq = eq_by_cmp R} (eq_by_cmp_equiv o) (is_at (R k))
      (λ x y at. ap is_eq (o.congr k x y (is_equal (R k x) at)))
      q es (IsDistinct-from_sorted R (keys_of es) sorted)

-- ---- keys in order: equal look-ups give equal entries

module _ {K X : Type 0} {R : K → K → Ordering} (o : IsTotalOrder R) where
  at_head : (x : K × X) (xs : List (K × X)) → lookup (is_at (R x.0)) (x ∷ xs) ≡ Some x.1
  at_head x xs = lookup_head (is_at (R x.0)) x xs (ap is_eq (tied_itself o x.0))

  past_head : (q : K) (x : K × X) (xs : List (K × X)) → IsStrictlySortedBy R (keys_of (x ∷ xs)) → eq_by_cmp R q x.0 ≡ true → lookup (is_at (R q)) xs ≡ None
  past_head q x xs s t = lookup-none (is_at (R q)) xs (none_past_head (eq_by_cmp_equiv o) q x xs (IsDistinct-from_sorted R (keys_of (x ∷ xs)) s) t)

  module _ (x y : K × X) (xs ys : List (K × X)) (s : IsStrictlySortedBy R (keys_of (x ∷ xs))) (t : IsStrictlySortedBy R (keys_of (y ∷ ys)))
      (h : (q : K) → lookup (is_at (R q)) (x ∷ xs) ≡ lookup (is_at (R q)) (y ∷ ys)) where
    by_heads : (r : Ordering) → R x.0 y.0 ≡ r → R x.0 y.0 ≡ Equal
    by_heads Less p = none_isnt x.1 (sym (lookup-none (is_at (R x.0)) (y ∷ ys) (none_below_head o x.0 y ys t p)) ∙ sym (h x.0) ∙ at_head x xs)
    by_heads Equal p = p
    by_heads Greater p =
        none_isnt y.1 (sym (lookup-none (is_at (R y.0)) (x ∷ xs) (none_below_head o y.0 x xs s (o.antisymm y.0 x.0 ∙ ap ordering_reverse p))) ∙ h y.0 ∙ at_head y ys)

    heads : R x.0 y.0 ≡ Equal
    heads = by_heads (R x.0 y.0) refl

    values : x.1 ≡ y.1
    values = same_some x.1 y.1 (sym (at_head x xs) ∙ h x.0 ∙ lookup_head (is_at (R x.0)) y ys (ap is_eq heads))

    tails : (q : K) → lookup (is_at (R q)) xs ≡ lookup (is_at (R q)) ys
    tails q =
        let alike = eq_by_cmp_equiv o in
        let e : eq_by_cmp R q y.0 ≡ eq_by_cmp R q x.0 = alike.symm q y.0 ∙ sym (alike.congr x.0 y.0 q (ap is_eq heads)) ∙ alike.symm x.0 q in
        ⊎_elim
        (λ b. past_head q x xs s b ∙ sym (past_head q y ys t (e ∙ b)))
        (λ b. sym (lookup_tail (is_at (R q)) x xs b) ∙ h q ∙ lookup_tail (is_at (R q)) y ys (e ∙ b))
        (cases_Bool (eq_by_cmp R q x.0))

  same_entries : CmpEqualImpliesEq R → (es fs : List (K × X)) → IsStrictlySortedBy R (keys_of es) → IsStrictlySortedBy R (keys_of fs)
      → ((q : K) → lookup (is_at (R q)) es ≡ lookup (is_at (R q)) fs) → es ≡ fs
  same_entries exact [] [] s t h = refl
  same_entries exact [] (y ∷ ys) s t h = none_isnt y.1 (h y.0 ∙ at_head y ys)
  same_entries exact (x ∷ xs) [] s t h = none_isnt x.1 (sym (h x.0) ∙ at_head x xs)
  same_entries exact (x ∷ xs) (y ∷ ys) s t h =
      let rest = same_entries exact xs ys (sorted_tail R x.0 (keys_of xs) s) (sorted_tail R y.0 (keys_of ys) t) (tails x y xs ys s t h) in
      λ i. (exact x.0 y.0 (heads x y xs ys s t h) i, values x y xs ys s t h i) ∷ rest i

-- ---- one data block is moved

unmoved : (b : Bool) (x p : Option (List ℕ)) → (b ≡ true → x ≡ None) → (x ≡ (if b then None else x)) × (p ≡ (if b then option_or x p else p))
unmoved true x p none = (none refl, sym (ap (λ y. option_or y p) (none refl)))
unmoved false x p none = (refl, refl)

-- where there is none of this name
pub absent : (m : Memory) (k : AreaKey) → None ≡ area_octets m k → (p : Option (List ℕ)) (q : AreaKey)
    → (area_octets m q ≡ (if is_at (key_cmp k) q then None else area_octets m q))
    × (p ≡ (if is_at (key_cmp k) q then option_or (area_octets m q) p else p))
absent m k none p q =
    unmoved (is_at (key_cmp k) q) (area_octets m q) p
    (λ at. sym (lookup_alike key_cmp_total k q (is_equal (key_cmp k q) at) m.areas) ∙ sym none)

pub gone : (m : Memory) (k q : AreaKey) → IsStrictlySortedBy key_cmp (keys_of m.areas)
    → lookup (is_at (key_cmp q)) (remove_entry (is_at (key_cmp k)) m.areas) ≡ (if is_at (key_cmp k) q then None else area_octets m q)
gone m k q sorted = lookup_removed key_cmp_total m.areas k q sorted

come : (b : Bool) (x p : Option (List ℕ)) (v : List ℕ) → (b ≡ true → x ≡ Some v) → cond b (Some v) p ≡ (if b then option_or x p else p)
come true x p v is = sym (ap (λ y. option_or y p) (is refl))
come false x p v is = refl

pub joined : (m part : Memory) (k q : AreaKey) (octets : List ℕ) → Some octets ≡ area_octets m k
    → lookup (is_at (key_cmp q)) (insert_entry key_cmp part.areas k octets)
    ≡ (if is_at (key_cmp k) q then option_or (area_octets m q) (area_octets part q) else area_octets part q)
joined m part k q octets is =
    lookup_insert key_cmp_total part.areas k q octets
    ∙ ap (λ b. cond b (Some octets) (area_octets part q)) (ap is_eq (key_cmp_total.antisymm q k) ∙ reversed (key_cmp k q))
    ∙ come (is_at (key_cmp k) q) (area_octets m q) (area_octets part q) octets
    (λ at. sym (lookup_alike key_cmp_total k q (is_equal (key_cmp k q) at) m.areas) ∙ sym is)

-- ---- several are moved

-- the name is that of a data block with one of these numbers
abbrev pub is_among : List ℕ → AreaKey → Bool
is_among numbers key = list_any (λ n. is_at (key_cmp (block_key n)) key) numbers

or_none : (b : Bool) → (b || false) ≡ b
or_none true = refl
or_none false = refl

or_assoc : (a b c : Bool) → (a || (b || c)) ≡ ((a || b) || c)
or_assoc true b c = refl
or_assoc false b c = refl

among_more : (numbers : List ℕ) (n : ℕ) (key : AreaKey) → is_among (numbers ++ n ∷ []) key ≡ (is_among numbers key || is_at (key_cmp (block_key n)) key)
among_more [] n key = or_none (is_at (key_cmp (block_key n)) key)
among_more (m ∷ numbers) n key =
    ap (λ b. is_at (key_cmp (block_key m)) key || b) (among_more numbers n key)
    ∙ or_assoc (is_at (key_cmp (block_key m)) key) (is_among numbers key) (is_at (key_cmp (block_key n)) key)

left_step : {X : Type 0} (a b : Bool) (o r r' : Option X) → r ≡ cond a None o → r' ≡ cond b None r → r' ≡ cond (a || b) None o
left_step true true o r r' e f = f
left_step true false o r r' e f = f ∙ e
left_step false true o r r' e f = f
left_step false false o r r' e f = f ∙ e

or_nothing : {X : Type 0} (o : Option X) → option_or o None ≡ o
or_nothing None = refl
or_nothing (Some x) = refl

part_step : {X : Type 0} (a b : Bool) (o r p p' : Option X) → r ≡ cond a None o → p ≡ cond a o None → p' ≡ cond b (option_or r p) p → p' ≡ cond (a || b) o None
part_step true true o r p p' e f h = h ∙ ap (λ x. option_or x p) e ∙ f
part_step true false o r p p' e f h = h ∙ f
part_step false true o r p p' e f h = h ∙ ap (λ x. option_or x p) e ∙ ap (option_or o) f ∙ or_nothing o
part_step false false o r p p' e f h = h ∙ f

-- so far these were moved from the areas to the part
pub record AreMoved (numbers : List ℕ) (all left part : Memory) : Type 0 where
  pub left_is : (key : AreaKey) → area_octets left key ≡ cond (is_among numbers key) None (area_octets all key)
  pub part_is : (key : AreaKey) → area_octets part key ≡ cond (is_among numbers key) (area_octets all key) None
  pub left_guard : left.guard ≡ all.guard
  pub part_guard : part.guard ≡ all.guard

pub moved_none : (all part : Memory) → part.areas ≡ [] → part.guard ≡ all.guard → AreMoved [] all all part
moved_none all part none guard = record {
  left_is = λ key. refl;
  part_is = λ key. ap (lookup (is_at (key_cmp key))) none;
  left_guard = refl;
  part_guard = guard;
}

pub moved_more : (numbers : List ℕ) (n : ℕ) (all left part left' part' : Memory) → AreMoved numbers all left part
    → ((key : AreaKey) → area_octets left' key ≡ (if is_at (key_cmp (block_key n)) key then None else area_octets left key))
    → ((key : AreaKey) → area_octets part' key ≡ (if is_at (key_cmp (block_key n)) key then option_or (area_octets left key) (area_octets part key) else area_octets part key))
    → (left'.guard ≡ left.guard) × (part'.guard ≡ part.guard) → AreMoved (numbers ++ n ∷ []) all left' part'
moved_more numbers n all left part left' part' so l p guards = record {
  left_is = λ key.
      left_step (is_among numbers key) (is_at (key_cmp (block_key n)) key) (area_octets all key) (area_octets left key) (area_octets left' key) (so.left_is key) (l key)
      ∙ ap (λ b. cond b None (area_octets all key)) (sym (among_more numbers n key));
  part_is = λ key.
      part_step (is_among numbers key) (is_at (key_cmp (block_key n)) key) (area_octets all key) (area_octets left key) (area_octets part key) (area_octets part' key) (so.left_is key) (so.part_is key) (p key)
      ∙ ap (λ b. cond b (area_octets all key) None) (sym (among_more numbers n key));
  left_guard = guards.0 ∙ so.left_guard;
  part_guard = guards.1 ∙ so.part_guard;
}

-- ---- all of a bank are moved

same_number : (x y : ℕ) → nat_cmp x y ≡ Equal → x ≡ y
same_number x y e = ranked x y Equal (sym e)

then_equal : (r s : Ordering) → ordering_then r s ≡ Equal → (r ≡ Equal) × (s ≡ Equal)
then_equal Less s e = cc
then_equal Equal s e = (refl, e)
then_equal Greater s e = cc

same_key : (a b : AreaKey) → is_at (key_cmp a) b ≡ true → (a.area ≡ b.area) × (a.number ≡ b.number)
same_key a b at =
    let e = then_equal (nat_cmp a.area b.area) (nat_cmp a.number b.number) (is_equal (key_cmp a b) at) in
    (same_number a.area b.area e.0, same_number a.number b.number e.1)

key_at : (a b : AreaKey) → a.area ≡ b.area → a.number ≡ b.number → is_at (key_cmp a) b ≡ true
key_at a b area number =
    let same : a ≡ b = λ i. record { area = area i; number = number i } in
    ap is_eq (ap (λ k. key_cmp k b) same ∙ tied_itself key_cmp_total b)

-- who passes one test among those that pass another
module _ {T : Type 0} (f p : ℕ → Bool) (x : ℕ) (xs : List ℕ) (rest : list_any f (filter p xs) ≡ true → T) (use_it : (y : ℕ) → p y ≡ true → f y ≡ true → T) where
  any_either : (b : Bool) → f x ≡ b → p x ≡ true → (b || list_any f (filter p xs)) ≡ true → T
  any_either true is passes e = use_it x passes is
  any_either false is passes e = rest e

  any_kept : (b : Bool) → p x ≡ b → list_any f (cond b (x ∷ filter p xs) (filter p xs)) ≡ true → T
  any_kept true is e = any_either (f x) refl is e
  any_kept false is e = rest e

any_filtered : {T : Type 0} (f p : ℕ → Bool) (xs : List ℕ) → list_any f (filter p xs) ≡ true → ((x : ℕ) → p x ≡ true → f x ≡ true → T) → T
any_filtered f p [] any use_it = cc
any_filtered f p (x ∷ xs) any use_it = any_kept f p x xs (λ e. any_filtered f p xs e use_it) use_it (p x) refl any

-- a data block among the areas is found among the numbers that pass a test
found_number : (f p : ℕ → Bool) (es : AreaList) (i : ℕ) (k : AreaKey) (v : List ℕ) → slice_get es i ≡ Some (k, v) → (k.area == data_blocks) ≡ true → p k.number ≡ true → f k.number ≡ true
    → list_any f (filter p (db_numbers (keys_of es))) ≡ true
found_number f p [] i k v e db passes is = none_isnt (k, v) e
found_number f p (x ∷ es) zero k v e db passes is =
    let same : x ≡ (k, v) = same_some x (k, v) e in
    here (x.0.area == data_blocks) (p x.0.number) (f x.0.number) (ap (λ (y : AreaKey × List ℕ). y.0.area == data_blocks) same ∙ db) (ap (λ (y : AreaKey × List ℕ). p y.0.number) same ∙ passes) (ap (λ (y : AreaKey × List ℕ). f y.0.number) same ∙ is)
  where
    last : (b : Bool) → f x.0.number ≡ b → b ≡ true → (b || list_any f (filter p (db_numbers (keys_of es)))) ≡ true
    last true a e = refl
    last false a e = cc

    tested : (b : Bool) → p x.0.number ≡ b → b ≡ true → f x.0.number ≡ true → list_any f (cond b (x.0.number ∷ filter p (db_numbers (keys_of es))) (filter p (db_numbers (keys_of es)))) ≡ true
    tested true a e is = last (f x.0.number) refl is
    tested false a e is = cc

    here : (b c d : Bool) → b ≡ true → p x.0.number ≡ true → f x.0.number ≡ true
        → list_any f (filter p (map (λ key. key.number) (cond b (x.0 ∷ filter (λ key. key.area == data_blocks) (keys_of es)) (filter (λ key. key.area == data_blocks) (keys_of es))))) ≡ true
    here true c d e passes is = tested (p x.0.number) refl passes is
    here false c d e passes is = cc
found_number f p (x ∷ es) (suc i) k v e db passes is = there (x.0.area == data_blocks) (found_number f p es i k v e db passes is)
  where
    or_later : (b : Bool) → list_any f (filter p (db_numbers (keys_of es))) ≡ true → (b || list_any f (filter p (db_numbers (keys_of es)))) ≡ true
    or_later b e = or_true b (list_any f (filter p (db_numbers (keys_of es)))) e

    tested : (b : Bool) → list_any f (filter p (db_numbers (keys_of es))) ≡ true
        → list_any f (cond b (x.0.number ∷ filter p (db_numbers (keys_of es))) (filter p (db_numbers (keys_of es)))) ≡ true
    tested true e = or_later (f x.0.number) e
    tested false e = e

    there : (b : Bool) → list_any f (filter p (db_numbers (keys_of es))) ≡ true
        → list_any f (filter p (map (λ key. key.number) (cond b (x.0 ∷ filter (λ key. key.area == data_blocks) (keys_of es)) (filter (λ key. key.area == data_blocks) (keys_of es))))) ≡ true
    there true e = tested (p x.0.number) e
    there false e = e

-- only data blocks are in another bank than the first
is_block : (banks bank number : ℕ) (b : Bool) → 0 < bank → ((if b then number % banks else 0) == bank) ≡ true → b ≡ true
is_block banks bank number true some e = refl
is_block banks bank number false some e = grind (arith, nat_tests)

-- an area that is there was moved exactly if it is in the bank
moved_exactly : (banks bank : ℕ) (m : Memory) (numbers : List ℕ) (key : AreaKey) (v : List ℕ) → 0 < bank
    → numbers ≡ filter (λ n. bank_of banks data_blocks n == bank) (db_numbers (keys_of m.areas)) → area_octets m key ≡ Some v
    → is_among numbers key ≡ (bank_of_key banks key == bank)
moved_exactly banks bank m numbers key v some are is =
    both_ways (is_among numbers key) (bank_of_key banks key == bank)
    (λ any.
    any_filtered (λ n. is_at (key_cmp (block_key n)) key) (λ n. bank_of banks data_blocks n == bank) (db_numbers (keys_of m.areas)) (subst (λ ns. is_among ns key ≡ true) are any)
    (λ n passes at.
    let same = same_key (block_key n) key at in
    ap (λ a. bank_of banks a key.number == bank) (sym same.0) ∙ ap (λ x. bank_of banks data_blocks x == bank) (sym same.1) ∙ passes))
    (λ in_bank.
    let found = place_from_lookup (is_at (key_cmp key)) m.areas v is in
    let same = same_key key found.1 found.3 in
    let block : (key.area == data_blocks) ≡ true = is_block banks bank key.number (key.area == data_blocks) some in_bank in
    let area : key.area ≡ data_blocks = equal_if key.area data_blocks block in
    subst (λ ns. is_among ns key ≡ true) (sym are)
    (found_number (λ n. is_at (key_cmp (block_key n)) key) (λ n. bank_of banks data_blocks n == bank) m.areas found.0 found.1 v found.2
    (ap (λ a. a == data_blocks) (sym same.0) ∙ block)
    (ap (λ x. bank_of banks data_blocks x == bank) (sym same.1) ∙ ap (λ a. bank_of banks a key.number == bank) (sym area) ∙ in_bank)
    (key_at (block_key found.1.number) key (sym area) (sym same.1))))

decide_part : {X : Type 0} (a b : Bool) (o : Option X) → ((v : X) → o ≡ Some v → a ≡ b) → cond a o None ≡ cond b o None
decide_part a b (Some v) same = ap (λ c. cond c (Some v) None) (same v refl)
decide_part true true None same = refl
decide_part true false None same = refl
decide_part false true None same = refl
decide_part false false None same = refl

decide_left : {X : Type 0} (a b : Bool) (o : Option X) → ((v : X) → o ≡ Some v → a ≡ b) → cond a None o ≡ cond b None o
decide_left a b (Some v) same = ap (λ c. cond c None (Some v)) (same v refl)
decide_left true true None same = refl
decide_left true false None same = refl
decide_left false true None same = refl
decide_left false false None same = refl

pub part_of_bank : (banks bank : ℕ) (all left part : Memory) (numbers : List ℕ) → 0 < bank
    → numbers ≡ filter (λ n. bank_of banks data_blocks n == bank) (db_numbers (keys_of all.areas)) → AreMoved numbers all left part → IsMemory part
    → ArePartOf banks bank all part
part_of_bank banks bank all left part numbers some are moved memory = record {
  areas = λ key. moved.part_is key ∙ decide_part (is_among numbers key) (bank_of_key banks key == bank) (area_octets all key)
      (λ v is. moved_exactly banks bank all numbers key v some are is);
  guard = moved.part_guard;
  memory = memory;
}

pub left_by_bank : (banks bank : ℕ) (all left part : Memory) (numbers : List ℕ) → 0 < bank
    → numbers ≡ filter (λ n. bank_of banks data_blocks n == bank) (db_numbers (keys_of all.areas)) → AreMoved numbers all left part → AreLeftBy banks bank all left
left_by_bank banks bank all left part numbers some are moved = record {
  areas = λ key. moved.left_is key ∙ decide_left (is_among numbers key) (bank_of_key banks key == bank) (area_octets all key)
      (λ v is. moved_exactly banks bank all numbers key v some are is);
  guard = moved.left_guard;
}

-- ---- bank by bank

-- the areas of these banks, from the first but one to the one before this, are gone
pub record AreLeftFrom (banks bank : ℕ) (all left : Memory) : Type 0 where
  pub kept : (key : AreaKey) → (bank_of_key banks key ≡ 0) ⊎ (bank ≤ bank_of_key banks key) → area_octets left key ≡ area_octets all key
  pub gone_are : (key : AreaKey) → 0 < bank_of_key banks key → bank_of_key banks key < bank → area_octets left key ≡ None
  pub guard : left.guard ≡ all.guard

pub left_first : (banks : ℕ) (all : Memory) → AreLeftFrom banks 1 all all
left_first banks all = record {
  kept = λ key where_it_is. refl;
  gone_are = λ key some few. absurd (omega (arith, some, few));
  guard = refl;
}

pub is_not : (x y : ℕ) → x ≢ y → (x == y) ≡ false
is_not x y n = grind (arith, nat_tests)

isnt : (x y : ℕ) → (x == y) ≡ false → x ≢ y
isnt x y e = grind (arith, nat_tests)

pub part_here : (banks bank : ℕ) (all left part : Memory) → AreLeftFrom banks bank all left → ArePartOf banks bank left part → ArePartOf banks bank all part
part_here banks bank all left part so is = record {
  areas = λ key. is.areas key ∙ here (bank_of_key banks key == bank) key refl;
  guard = is.guard ∙ so.guard;
  memory = is.memory;
}
  where
    here : (b : Bool) (key : AreaKey) → (bank_of_key banks key == bank) ≡ b → (if b then area_octets left key else None) ≡ (if b then area_octets all key else None)
    here true key e = so.kept key (inr (let same = equal_if (bank_of_key banks key) bank e in omega (arith, same)))
    here false key e = refl

not_here : (x bank : ℕ) → 0 < bank → (x ≡ 0) ⊎ (bank + 1 ≤ x) → x ≢ bank
not_here x bank some (inl e) = λ same. absurd (omega (arith, some, e, same))
not_here x bank some (inr l) = λ same. absurd (omega (arith, l, same))

still : (x bank : ℕ) → (x ≡ 0) ⊎ (bank + 1 ≤ x) → (x ≡ 0) ⊎ (bank ≤ x)
still x bank (inl e) = inl e
still x bank (inr l) = inr (omega (arith, l))

pub left_next : (banks bank : ℕ) (all left left' : Memory) → 0 < bank → AreLeftFrom banks bank all left → AreLeftBy banks bank left left' → AreLeftFrom banks (bank + 1) all left'
left_next banks bank all left left' some so is = record {
  kept = λ key at.
      is.areas key
      ∙ ap (λ b. if b then None else area_octets left key) (is_not (bank_of_key banks key) bank (not_here (bank_of_key banks key) bank some at))
      ∙ so.kept key (still (bank_of_key banks key) bank at);
  gone_are = λ key above below. is.areas key ∙ goes (bank_of_key banks key == bank) key refl above below;
  guard = is.guard ∙ so.guard;
}
  where
    goes : (b : Bool) (key : AreaKey) → (bank_of_key banks key == bank) ≡ b → 0 < bank_of_key banks key → bank_of_key banks key < bank + 1 → (if b then None else area_octets left key) ≡ None
    goes true key e above below = refl
    goes false key e above below = so.gone_are key above (let other = isnt (bank_of_key banks key) bank e in omega (arith, other, below))

bank_below : (banks area number : ℕ) → 0 < banks → bank_of banks area number < banks
bank_below banks area number some = here (area == data_blocks)
  where
    here : (b : Bool) → (if b then number % banks else 0) < banks
    here true = mod_below number banks some
    here false = some

pub first_left : (banks bank : ℕ) (all left : Memory) → 0 < banks → banks ≤ bank → AreLeftFrom banks bank all left → IsMemory left → ArePartOf banks 0 all left
first_left banks bank all left some past so memory = record {
  areas = λ key. here (bank_of_key banks key == 0) key refl;
  guard = so.guard;
  memory = memory;
}
  where
    here : (b : Bool) (key : AreaKey) → (bank_of_key banks key == 0) ≡ b → area_octets left key ≡ (if b then area_octets all key else None)
    here true key e = so.kept key (inl (equal_if (bank_of_key banks key) 0 e))
    here false key e =
        let other = isnt (bank_of_key banks key) 0 e in
        let below = bank_below banks key.area key.number some in
        so.gone_are key (omega (arith, other)) (omega (arith, below, past))

-- the parts so far
abbrev pub PartsSoFar : ℕ → Memory → List Memory → Type 0
PartsSoFar banks all parts = (i : ℕ) (part : Memory) → slice_get parts i ≡ Some part → ArePartOf banks (i + 1) all part

pub parts_more : (banks : ℕ) (all part : Memory) (parts : List Memory) → PartsSoFar banks all parts → ArePartOf banks (length parts + 1) all part → PartsSoFar banks all (parts ++ part ∷ [])
parts_more banks all part parts so is = each_more (λ i x. ArePartOf banks (i + 1) all x) parts part so is

-- ---- a memory is known by its look-ups

exact_keys : CmpEqualImpliesEq key_cmp
exact_keys a b e =
    let same = then_equal (nat_cmp a.area b.area) (nat_cmp a.number b.number) e in
    λ i. record { area = same_number a.area b.area same.0 i; number = same_number a.number b.number same.1 i }

keys_filter : {K X : Type 0} (p : K → Bool) (es : List (K × X)) → keys_of (filter (λ e. p e.0) es) ≡ filter p (keys_of es)
keys_filter p [] = refl
keys_filter p (e ∷ es) = here (p e.0) (keys_filter p es)
  where
    here : (b : Bool) → keys_of (filter (λ x. p x.0) es) ≡ filter p (keys_of es)
        → keys_of (cond b (e ∷ filter (λ x. p x.0) es) (filter (λ x. p x.0) es)) ≡ cond b (e.0 ∷ filter p (keys_of es)) (filter p (keys_of es))
    here true so = ap (λ l. e.0 ∷ l) so
    here false so = so

part_octets : (banks bank : ℕ) (all : Memory) (key : AreaKey) → area_octets (part_of banks bank all) key ≡ (if bank_of_key banks key == bank then area_octets all key else None)
part_octets banks bank all key =
    lookup-filter-keys (is_at (key_cmp key)) (λ k. bank_of_key banks k == bank) (bank_of_key banks key == bank)
    (λ k at. ap (λ x. bank_of_key banks x == bank) (sym (exact_keys key k (is_equal (key_cmp key k) at)))) all.areas

pub part_is : (banks bank : ℕ) (all part : Memory) → IsMemory all → ArePartOf banks bank all part → part ≡ part_of banks bank all
part_is banks bank all part memory is =
    let own : Memory = part_of banks bank all in
    let sorted : IsStrictlySortedBy key_cmp (keys_of own.areas) =
    subst (IsStrictlySortedBy key_cmp) (sym (keys_filter (λ k. bank_of_key banks k == bank) all.areas))
    (IsStrictlySortedBy-filter key_cmp (λ k. bank_of_key banks k == bank) (keys_of all.areas) memory.ordered) in
    let areas : part.areas ≡ own.areas =
    same_entries key_cmp_total exact_keys part.areas own.areas is.memory.ordered sorted (λ key. is.areas key ∙ sym (part_octets banks bank all key)) in
    λ i. record { areas = areas i; guard = is.guard i }

pub parts_are : (banks : ℕ) (all : Memory) (parts : List Memory) → IsMemory all → PartsSoFar banks all parts
    → (i : ℕ) (part : Memory) → slice_get parts i ≡ Some part → part ≡ part_of banks (i + 1) all
parts_are banks all parts memory so i part e = part_is banks (i + 1) all part memory (so i part e)
