-- The part of a memory whose names pass a test, and what one more name adds.
use Rattle.std.proofs.Common.{◌≡◌, ◌∙◌, ◌≤◌, ◌+◌, ◌||◌, ℕ, Bool, true, false, cond, refl, sym, ap, subst, arith, List, [], ◌∷◌, Option, Some, None, true≢false}
use Rattle.std.specs.List.{sum_by}
use Rattle.std.specs.List.{AllByRecursion, filter}
use Rattle.std.specs.List.Sorted.{IsStrictlySortedBy}
use Rattle.std.specs.Map.{keys_of, values_of, lookup}
use Rattle.std.specs.BTreeMap.{insert_entry, is_at}
use Rattle.std.specs.Cmp.{IsTotalOrder}
use Rattle.std.specs.Ordering.{is_eq, match_ordering, ordering_reverse}
use Rattle.std.specs.declared.cmp.Ordering.{Ordering}
use Rattle.std.specs.declared.cmp.Ordering.TheVariants.{Less, Equal, Greater}
use Rattle.std.proofs.lemmas.List.Sums.{sum_by-cons}
use Rattle.std.proofs.lemmas.Map.Keys.{sorted_head, sorted_tail}
use Rattle.std.proofs.lemmas.Map.Lookups.{CmpEqualImpliesEq}

module _ {K : Type 0} (R : K → K → Ordering) where
  abbrev pub added : (K → Bool) → K → K → Bool
  added p k x = p x || is_eq (R k x)

  all_above : IsTotalOrder R → (k x : K) (ys : List K) → R k x ≡ Less → AllByRecursion (λ y. R x y ≡ Less) ys → AllByRecursion (λ y. R k y ≡ Less) ys
  all_above total k x [] less all = tt
  all_above total k x (y ∷ ys) less all = (total.trans k x y less all.0, all_above total k x ys less all.1)

turned : (r : Ordering) → Greater ≡ ordering_reverse r → r ≡ Less
turned Less e = refl
turned Equal e = cc
turned Greater e = cc

module _ {K X : Type 0} (R : K → K → Ordering) where
  abbrev pub kept : (K → Bool) → List (K × X) → List (K × X)
  kept p m = filter (λ e. p e.0) m

  none_step : (o : Ordering) (b : Bool) (e : K × X) (rest rest' : List (K × X)) → is_eq o ≡ false → rest ≡ rest' → cond (b || is_eq o) (e ∷ rest) rest ≡ cond b (e ∷ rest') rest'
  none_step o true e rest rest' other same = ap (λ t. e ∷ t) same
  none_step o false e rest rest' other same = rw other same

  -- a name that isn't there adds nothing
  pub kept-none : (p : K → Bool) (k : K) (m : List (K × X)) → lookup (is_at (R k)) m ≡ None → kept (added R p k) m ≡ kept p m
  kept-none p k [] none = refl
  kept-none p k (e ∷ m) none = go (R k e.0) refl none (kept-none p k m)
    where
      go : (o : Ordering) → R k e.0 ≡ o → cond (is_eq o) (Some e.1) (lookup (is_at (R k)) m) ≡ None → (lookup (is_at (R k)) m ≡ None → kept (added R p k) m ≡ kept p m) → kept (added R p k) (e ∷ m) ≡ kept p (e ∷ m)
      go Less is none more = none_step (R k e.0) (p e.0) e (kept (added R p k) m) (kept p m) (ap is_eq is) (more none)
      go Equal is none more = cc
      go Greater is none more = none_step (R k e.0) (p e.0) e (kept (added R p k) m) (kept p m) (ap is_eq is) (more none)

  -- a name below all others is at none of them
  none_below : (k : K) (m : List (K × X)) → AllByRecursion (λ y. R k y ≡ Less) (keys_of m) → lookup (is_at (R k)) m ≡ None
  none_below k [] h = refl
  none_below k (e ∷ m) h = rw h.0 (none_below k m h.1)

  insert_below : (k : K) (v : X) (m : List (K × X)) → AllByRecursion (λ y. R k y ≡ Less) (keys_of m) → insert_entry R m k v ≡ (k, v) ∷ m
  insert_below k v [] h = refl
  insert_below k v (e ∷ m) h = rw h.0 refl

  all_step : (P : K → Type 0) (b : Bool) (e : K × X) (rest : List (K × X)) → P e.0 → AllByRecursion P (keys_of rest) → AllByRecursion P (keys_of (cond b (e ∷ rest) rest))
  all_step P true e rest head tail = (head, tail)
  all_step P false e rest head tail = tail

  all-kept : (P : K → Type 0) (p : K → Bool) (m : List (K × X)) → AllByRecursion P (keys_of m) → AllByRecursion P (keys_of (kept p m))
  all-kept P p [] h = tt
  all-kept P p (e ∷ m) h = all_step P (p e.0) e (kept p m) h.0 (all-kept P p m h.1)

  -- what holds of all entries holds of the one that is found
  pub all-found : (P : K × X → Type 0) → CmpEqualImpliesEq R → (k : K) (v : X) (m : List (K × X)) → AllByRecursion P m → lookup (is_at (R k)) m ≡ Some v → P (k, v)
  all-found P exact k v [] all found = cc
  all-found P exact k v (e ∷ m) all found = go (R k e.0) refl found (all-found P exact k v m all.1)
    where
      go : (o : Ordering) → R k e.0 ≡ o → cond (is_eq o) (Some e.1) (lookup (is_at (R k)) m) ≡ Some v → (lookup (is_at (R k)) m ≡ Some v → P (k, v)) → P (k, v)
      go Less is found more = more found
      go Equal is found more =
          let value : e.1 ≡ v = cc in
          subst (λ x. P (x, v)) (sym (exact k e.0 is)) (subst (λ x. P (e.0, x)) value all.0)
      go Greater is found more = more found

  none_and_some : (o : Option X) (v : X) → o ≡ None → o ≡ Some v → ⊥
  none_and_some None v none some = cc
  none_and_some (Some x) v none some = cc

  -- an area that is there joins those that are kept
  pub insert-kept : CmpEqualImpliesEq R → IsTotalOrder R → (p : K → Bool) (k : K) (v : X) (m : List (K × X)) → IsStrictlySortedBy R (keys_of m) → lookup (is_at (R k)) m ≡ Some v → p k ≡ false
      → insert_entry R (kept p m) k v ≡ kept (added R p k) m
  insert-kept exact total p k v [] sorted found out = cc
  insert-kept exact total p k v (e ∷ m) sorted found out = go (R k e.0) refl found (λ later. insert-kept exact total p k v m (sorted_tail R e.0 (keys_of m) sorted) later out)
    where
      above : AllByRecursion (λ y. R e.0 y ≡ Less) (keys_of m)
      above = sorted_head R e.0 (keys_of m) sorted

      later : (b : Bool) → R k e.0 ≡ Greater → insert_entry R (kept p m) k v ≡ kept (added R p k) m
          → insert_entry R (cond b (e ∷ kept p m) (kept p m)) k v ≡ cond (b || is_eq (R k e.0)) (e ∷ kept (added R p k) m) (kept (added R p k) m)
      later true is rest = rw is (ap (λ t. e ∷ t) rest)
      later false is rest = rw is rest

      go : (o : Ordering) → R k e.0 ≡ o → cond (is_eq o) (Some e.1) (lookup (is_at (R k)) m) ≡ Some v → (lookup (is_at (R k)) m ≡ Some v → insert_entry R (kept p m) k v ≡ kept (added R p k) m)
          → insert_entry R (kept p (e ∷ m)) k v ≡ kept (added R p k) (e ∷ m)
      go Less is found more = absurd (none_and_some (lookup (is_at (R k)) m) v (none_below k m (all_above R total k e.0 (keys_of m) is above)) found)
      go Equal is found more =
          let same = exact k e.0 is in
          let value : e.1 ≡ v = cc in
          let above_k : AllByRecursion (λ y. R k y ≡ Less) (keys_of m) = subst (λ x. AllByRecursion (λ y. R x y ≡ Less) (keys_of m)) (sym same) above in
          let out_e : p e.0 ≡ false = ap p (sym same) ∙ out in
          let entry : (k, v) ≡ e = ap (λ x. (x, v)) same ∙ ap (λ x. (e.0, x)) (sym value) in
          rw (out_e, is) (
          insert_below k v (kept p m) (all-kept (λ y. R k y ≡ Less) p m above_k)
          ∙ ap (λ x. x ∷ kept p m) entry
          ∙ ap (λ t. e ∷ t) (sym (kept-none p k m (none_below k m above_k)))
          )
      go Greater is found more = later (p e.0) is (more found)

  -- a name that isn't kept isn't found
  pub lookup-kept : CmpEqualImpliesEq R → (p : K → Bool) (k : K) (m : List (K × X)) → p k ≡ false → lookup (is_at (R k)) (kept p m) ≡ None
  lookup-kept exact p k [] out = refl
  lookup-kept exact p k (e ∷ m) out = go (R k e.0) (p e.0) refl refl (lookup-kept exact p k m out)
    where
      go : (o : Ordering) (b : Bool) → R k e.0 ≡ o → p e.0 ≡ b → lookup (is_at (R k)) (kept p m) ≡ None → lookup (is_at (R k)) (cond (p e.0) (e ∷ kept p m) (kept p m)) ≡ None
      go o false is passes more = rw passes more
      go Less true is passes more = rw (passes, is) more
      go Equal true is passes more = absurd (true≢false (sym passes ∙ ap p (sym (exact k e.0 is)) ∙ out))
      go Greater true is passes more = rw (passes, is) more

  pub all_kept : (p : K → Bool) (m : List (K × X)) → AllByRecursion (λ k. p k ≡ true) (keys_of m) → kept p m ≡ m
  all_kept p [] h = refl
  all_kept p (e ∷ m) h = rw h.0 (ap (λ t. e ∷ t) (all_kept p m h.1))

  sorted_step : (b : Bool) (e : K × X) (rest : List (K × X)) → AllByRecursion (λ y. R e.0 y ≡ Less) (keys_of rest) → IsStrictlySortedBy R (keys_of rest) → IsStrictlySortedBy R (keys_of (cond b (e ∷ rest) rest))
  unfolding IsStrictlySortedBy
  sorted_step true e rest head tail = (head, tail)
  sorted_step false e rest head tail = tail

  pub sorted-kept : (p : K → Bool) (m : List (K × X)) → IsStrictlySortedBy R (keys_of m) → IsStrictlySortedBy R (keys_of (kept p m))
  unfolding IsStrictlySortedBy
  sorted-kept p [] s = tt
  sorted-kept p (e ∷ m) s = sorted_step (p e.0) e (kept p m) (all-kept (λ y. R e.0 y ≡ Less) p m s.0) (sorted-kept p m s.1)

  -- names stay in order where one joins
  all-insert : (P : K → Type 0) (m : List (K × X)) (k : K) (v : X) → P k → AllByRecursion P (keys_of m) → AllByRecursion P (keys_of (insert_entry R m k v))
  all-insert P [] k v new all = (new, tt)
  all-insert P (e ∷ m) k v new all = go (R k e.0) (all-insert P m k v new all.1)
    where
      go : (o : Ordering) → AllByRecursion P (keys_of (insert_entry R m k v)) → AllByRecursion P (keys_of (match_ordering o ((k, v) ∷ e ∷ m) ((e.0, v) ∷ m) (e ∷ insert_entry R m k v)))
      go Less rest = (new, (all.0, all.1))
      go Equal rest = (all.0, all.1)
      go Greater rest = (all.0, rest)

  pub sorted-insert : IsTotalOrder R → (m : List (K × X)) (k : K) (v : X) → IsStrictlySortedBy R (keys_of m) → IsStrictlySortedBy R (keys_of (insert_entry R m k v))
  unfolding IsStrictlySortedBy
  sorted-insert total [] k v s = (tt, tt)
  sorted-insert total (e ∷ m) k v s = go (R k e.0) refl (sorted-insert total m k v s.1)
    where
      go : (o : Ordering) → R k e.0 ≡ o → IsStrictlySortedBy R (keys_of (insert_entry R m k v))
          → IsStrictlySortedBy R (keys_of (match_ordering o ((k, v) ∷ e ∷ m) ((e.0, v) ∷ m) (e ∷ insert_entry R m k v)))
      go Less is rest = ((is, all_above R total k e.0 (keys_of m) is s.0), s)
      go Equal is rest = s
      go Greater is rest = (all-insert (λ y. R e.0 y ≡ Less) m k v (turned (R e.0 k) (sym is ∙ total.antisymm k e.0)) s.0, rest)

  sum_step : (f : X → ℕ) (b : Bool) (e : K × X) (rest : List (K × X)) (n : ℕ) → sum_by f (values_of rest) ≤ n → sum_by f (values_of (cond b (e ∷ rest) rest)) ≤ f e.1 + n
  sum_step f true e rest n less = omega (arith, sum_by-cons f e.1 (values_of rest))
  sum_step f false e rest n less = omega arith

  pub sum-kept : (f : X → ℕ) (p : K → Bool) (m : List (K × X)) → sum_by f (values_of (kept p m)) ≤ sum_by f (values_of m)
  sum-kept f p [] = omega arith
  sum-kept f p (e ∷ m) = rw (sum_by-cons f e.1 (values_of m)) (sum_step f (p e.0) e (kept p m) (sum_by f (values_of m)) (sum-kept f p m))
