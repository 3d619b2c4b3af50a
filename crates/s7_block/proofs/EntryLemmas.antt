-- Entries in the order of their keys: what is found at a place, and what an edit there makes of them.
use Rattle.std.proofs.Common.{◌≡◌, ℕ, zero, suc, ◌<◌, ◌≤◌, Bool, true, false, cond, List, [], ◌∷◌, length, get_or, set, Option, None, Some, refl, sym, ap, ◌∙◌, subst, arith}
use Rattle.std.specs.declared.cmp.Ordering.{Ordering}
use Rattle.std.specs.declared.cmp.Ordering.TheVariants.{Less, Equal, Greater}
use Rattle.std.specs.Ordering.{match_ordering, is_eq, ordering_reverse}
use Rattle.std.specs.List.{AllByRecursion, insert, remove}
use Rattle.std.specs.List.Sorted.{IsStrictlySortedBy}
use Rattle.std.specs.Map.{keys_of, lookup, remove_entry}
use Rattle.std.specs.Cmp.{IsTotalOrder}
use Rattle.std.specs.BTreeMap.{is_at, insert_entry}
use Rattle.std.proofs.lemmas.List.{get_or-map, length-map}
use Rattle.std.proofs.lemmas.Map.{lookup-none}
use Rattle.std.proofs.lemmas.Map.Entries.{none_below_head}
use Rattle.std.proofs.lemmas.Map.Keys.{sorted_tail, Less-from_sorted}

-- what is above a key is above those below it
all_above : {K : Type 0} (R : K → K → Ordering) → IsTotalOrder R → (k q : K) (ks : List K) → R k q ≡ Less → AllByRecursion (λ y. R q y ≡ Less) ks → AllByRecursion (λ y. R k y ≡ Less) ks
all_above R o k q [] less all = tt
all_above R o k q (x ∷ ks) less all = (o.trans k q x less all.0, all_above R o k q ks less all.1)

module _ {K X : Type 0} (R : K → K → Ordering) where
  -- the keys of the first entries are below this one
  abbrev pub AreBelow : K → List (K × X) → ℕ → Type 0
  AreBelow k es i = (j : ℕ) (d : K × X) → j < i → R k (get_or es j d).0 ≡ Greater

  in_tail : (k : K) (e : K × X) (es : List (K × X)) (i : ℕ) → AreBelow k (e ∷ es) (suc i) → AreBelow k es i
  in_tail k e es i below j d lt = below (suc j) d (omega arith)

  -- what an insert makes of an entry and the others
  inserted : K → X → K × X → List (K × X) → Ordering → List (K × X)
  inserted k v e es r = match_ordering r ((k, v) ∷ e ∷ es) ((e.0, v) ∷ es) (e ∷ insert_entry R es k v)

  pub insert_at_gap : (k : K) (v : X) (es : List (K × X)) (i : ℕ) → i ≤ length es → AreBelow k es i → ((d : K × X) → i < length es → R k (get_or es i d).0 ≡ Less) → insert_entry R es k v ≡ insert es i (k, v)
  unfolding inserted
  insert_at_gap k v [] zero within below after = refl
  insert_at_gap k v [] (suc i) within below after = absurd (omega arith)
  insert_at_gap k v (e ∷ es) zero within below after = ap (inserted k v e es) (after e (omega arith))
  insert_at_gap k v (e ∷ es) (suc i) within below after =
      ap (inserted k v e es) (below 0 e (omega arith))
      ∙ ap (λ l. e ∷ l) (insert_at_gap k v es i (omega arith) (in_tail k e es i below) (λ d lt. after d (omega arith)))

  pub insert_at_place : (k : K) (v : X) (es : List (K × X)) (i : ℕ) → i < length es → AreBelow k es i → ((d : K × X) → R k (get_or es i d).0 ≡ Equal) → ((d : K × X) → (get_or es i d).0 ≡ k) → insert_entry R es k v ≡ set es i (k, v)
  unfolding inserted
  insert_at_place k v [] i within below here same = absurd (omega arith)
  insert_at_place k v (e ∷ es) zero within below here same = ap (inserted k v e es) (here e) ∙ ap (λ q. (q, v) ∷ es) (same e)
  insert_at_place k v (e ∷ es) (suc i) within below here same =
      ap (inserted k v e es) (below 0 e (omega arith))
      ∙ ap (λ l. e ∷ l) (insert_at_place k v es i (omega arith) (in_tail k e es i below) here same)

  -- what a look-up finds at an entry or behind it
  found : K × X → Option X → Ordering → Option X
  found e later r = cond (is_eq r) (Some e.1) later

  pub lookup_at_place : (k : K) (es : List (K × X)) (i : ℕ) (d : K × X) → i < length es → AreBelow k es i → ((d : K × X) → R k (get_or es i d).0 ≡ Equal) → lookup (is_at (R k)) es ≡ Some (get_or es i d).1
  unfolding found
  lookup_at_place k [] i d within below here = absurd (omega arith)
  lookup_at_place k (e ∷ es) zero d within below here = ap (found e (lookup (is_at (R k)) es)) (here e)
  lookup_at_place k (e ∷ es) (suc i) d within below here =
      ap (found e (lookup (is_at (R k)) es)) (below 0 e (omega arith))
      ∙ lookup_at_place k es i d (omega arith) (in_tail k e es i below) here

  -- the entries without one of this key, where it is this one or stands behind it
  removed : K × X → List (K × X) → List (K × X) → Ordering → List (K × X)
  removed e es rest r = cond (is_eq r) es (e ∷ rest)

  pub remove_at_place : (k : K) (es : List (K × X)) (i : ℕ) → i < length es → AreBelow k es i → ((d : K × X) → R k (get_or es i d).0 ≡ Equal) → remove_entry (is_at (R k)) es ≡ remove es i
  unfolding removed
  remove_at_place k [] i within below here = absurd (omega arith)
  remove_at_place k (e ∷ es) zero within below here = ap (removed e es (remove_entry (is_at (R k)) es)) (here e)
  remove_at_place k (e ∷ es) (suc i) within below here =
      ap (removed e es (remove_entry (is_at (R k)) es)) (below 0 e (omega arith))
      ∙ ap (λ l. e ∷ l) (remove_at_place k es i (omega arith) (in_tail k e es i below) here)

  -- what holds of all keys and of a new one
  insert_keys_step : (P : K → Type 0) (r : Ordering) (k : K) (v : X) (e : K × X) (es rest : List (K × X)) → P k → P e.0 → AllByRecursion P (keys_of es) → AllByRecursion P (keys_of rest) → AllByRecursion P (keys_of (match_ordering r ((k, v) ∷ e ∷ es) ((e.0, v) ∷ es) (e ∷ rest)))
  insert_keys_step P Less k v e es rest new head tail more = (new, (head, tail))
  insert_keys_step P Equal k v e es rest new head tail more = (head, tail)
  insert_keys_step P Greater k v e es rest new head tail more = (head, more)

  all_keys-insert_entry : (P : K → Type 0) (es : List (K × X)) (k : K) (v : X) → P k → AllByRecursion P (keys_of es) → AllByRecursion P (keys_of (insert_entry R es k v))
  all_keys-insert_entry P [] k v new all = (new, tt)
  all_keys-insert_entry P (e ∷ es) k v new all = insert_keys_step P (R k e.0) k v e es (insert_entry R es k v) new all.0 all.1 (all_keys-insert_entry P es k v new all.1)

  remove_keys_step : (P : K → Type 0) (b : Bool) (e : K × X) (es rest : List (K × X)) → P e.0 → AllByRecursion P (keys_of es) → AllByRecursion P (keys_of rest) → AllByRecursion P (keys_of (cond b es (e ∷ rest)))
  remove_keys_step P true e es rest head tail more = tail
  remove_keys_step P false e es rest head tail more = (head, more)

  all_keys-remove_entry : (P : K → Type 0) (test : K → Bool) (es : List (K × X)) → AllByRecursion P (keys_of es) → AllByRecursion P (keys_of (remove_entry test es))
  all_keys-remove_entry P test [] all = tt
  all_keys-remove_entry P test (e ∷ es) all = remove_keys_step P (test e.0) e es (remove_entry test es) all.0 all.1 (all_keys-remove_entry P test es all.1)

  sorted_remove_step : (b : Bool) (e : K × X) (es rest : List (K × X)) → AllByRecursion (λ y. R e.0 y ≡ Less) (keys_of rest) → IsStrictlySortedBy R (keys_of es) → IsStrictlySortedBy R (keys_of rest) → IsStrictlySortedBy R (keys_of (cond b es (e ∷ rest)))
  unfolding IsStrictlySortedBy
  sorted_remove_step true e es rest above tail more = tail
  sorted_remove_step false e es rest above tail more = (above, more)

  pub sorted-remove_entry : (test : K → Bool) (es : List (K × X)) → IsStrictlySortedBy R (keys_of es) → IsStrictlySortedBy R (keys_of (remove_entry test es))
  unfolding IsStrictlySortedBy
  sorted-remove_entry test [] sorted = tt
  sorted-remove_entry test (e ∷ es) sorted =
      sorted_remove_step (test e.0) e es (remove_entry test es) (all_keys-remove_entry (λ y. R e.0 y ≡ Less) test es sorted.0) sorted.1 (sorted-remove_entry test es sorted.1)

  -- what holds of all entries and of a new one
  insert_step : (P : K × X → Type 0) (r : Ordering) (k : K) (v : X) (e : K × X) (es rest : List (K × X)) → P (k, v) → (r ≡ Equal → P (e.0, v)) → P e → AllByRecursion P es → AllByRecursion P rest → AllByRecursion P (match_ordering r ((k, v) ∷ e ∷ es) ((e.0, v) ∷ es) (e ∷ rest))
  insert_step P Less k v e es rest new same head tail more = (new, (head, tail))
  insert_step P Equal k v e es rest new same head tail more = (same refl, tail)
  insert_step P Greater k v e es rest new same head tail more = (head, more)

  remove_step : (P : K × X → Type 0) (b : Bool) (e : K × X) (es rest : List (K × X)) → P e → AllByRecursion P es → AllByRecursion P rest → AllByRecursion P (cond b es (e ∷ rest))
  remove_step P true e es rest head tail more = tail
  remove_step P false e es rest head tail more = (head, more)

  pub all-remove_entry : (P : K × X → Type 0) (test : K → Bool) (es : List (K × X)) → AllByRecursion P es → AllByRecursion P (remove_entry test es)
  all-remove_entry P test [] all = tt
  all-remove_entry P test (e ∷ es) all = remove_step P (test e.0) e es (remove_entry test es) all.0 all.1 (all-remove_entry P test es all.1)

  module _ (o : IsTotalOrder R) where
    -- the entries before one with this key are below it
    pub below_place : (k : K) (es : List (K × X)) (i : ℕ) → IsStrictlySortedBy R (keys_of es) → i < length es → ((d : K × X) → (get_or es i d).0 ≡ k) → AreBelow k es i
    below_place k es i sorted within same j d lt =
        let first = get_or-map (λ (e : K × X). e.0) es j d d.0 (omega arith) in
        let second = get_or-map (λ (e : K × X). e.0) es i d d.0 within ∙ same d in
        let many : i < length (keys_of es) = simp (length-map) within in
        let less = Less-from_sorted R (keys_of es) j i d.0 sorted lt many in
        let turned : R (get_or es j d).0 k ≡ Less = sym (ap (λ q. R q (get_or (keys_of es) i d.0)) first ∙ ap (R (get_or es j d).0) second) ∙ less in
        o.antisymm k (get_or es j d).0 ∙ ap ordering_reverse turned

    pub lookup_at_gap : (k : K) (es : List (K × X)) (i : ℕ) → IsStrictlySortedBy R (keys_of es) → i ≤ length es → AreBelow k es i → ((d : K × X) → i < length es → R k (get_or es i d).0 ≡ Less) → lookup (is_at (R k)) es ≡ None
    unfolding found
    lookup_at_gap k [] i sorted within below after = refl
    lookup_at_gap k (e ∷ es) zero sorted within below after = lookup-none (is_at (R k)) (e ∷ es) (none_below_head o k e es sorted (after e (omega arith)))
    lookup_at_gap k (e ∷ es) (suc i) sorted within below after =
        ap (found e (lookup (is_at (R k)) es)) (below 0 e (omega arith))
        ∙ lookup_at_gap k es i (sorted_tail R e.0 (keys_of es) sorted) (omega arith) (in_tail k e es i below) (λ d lt. after d (omega arith))

    sorted_insert_step : (r : Ordering) (k : K) (v : X) (e : K × X) (es rest : List (K × X)) → R k e.0 ≡ r → AllByRecursion (λ y. R e.0 y ≡ Less) (keys_of es) → IsStrictlySortedBy R (keys_of es) → (R e.0 k ≡ Less → AllByRecursion (λ y. R e.0 y ≡ Less) (keys_of rest)) → IsStrictlySortedBy R (keys_of rest) → IsStrictlySortedBy R (keys_of (match_ordering r ((k, v) ∷ e ∷ es) ((e.0, v) ∷ es) (e ∷ rest)))
    unfolding IsStrictlySortedBy
    sorted_insert_step Less k v e es rest is above tail head more = ((is, all_above R o k e.0 (keys_of es) is above), (above, tail))
    sorted_insert_step Equal k v e es rest is above tail head more = (above, tail)
    sorted_insert_step Greater k v e es rest is above tail head more = (head (o.antisymm e.0 k ∙ ap ordering_reverse is), more)

    pub sorted-insert_entry : (es : List (K × X)) (k : K) (v : X) → IsStrictlySortedBy R (keys_of es) → IsStrictlySortedBy R (keys_of (insert_entry R es k v))
    unfolding IsStrictlySortedBy
    sorted-insert_entry [] k v sorted = (tt, tt)
    sorted-insert_entry (e ∷ es) k v sorted =
        sorted_insert_step (R k e.0) k v e es (insert_entry R es k v) refl sorted.0 sorted.1
        (λ less. all_keys-insert_entry (λ y. R e.0 y ≡ Less) es k v less sorted.0) (sorted-insert_entry es k v sorted.1)

  module _ (exact : (x y : K) → R x y ≡ Equal → x ≡ y) where
    pub all-insert_entry : (P : K × X → Type 0) (es : List (K × X)) (k : K) (v : X) → P (k, v) → AllByRecursion P es → AllByRecursion P (insert_entry R es k v)
    all-insert_entry P [] k v new all = (new, tt)
    all-insert_entry P (e ∷ es) k v new all =
        insert_step P (R k e.0) k v e es (insert_entry R es k v) new (λ equal. subst (λ q. P (q, v)) (exact k e.0 equal) new) all.0 all.1 (all-insert_entry P es k v new all.1)
