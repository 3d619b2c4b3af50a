-- One name changes, and no other.
use Rattle.std.proofs.Common.{◌≡◌, ◌≢◌, Bool, true, false, cond, List, [], ◌∷◌, None, Some, refl, sym, ap, ◌∙◌, subst}
use Rattle.std.specs.declared.cmp.Ordering.{Ordering}
use Rattle.std.specs.declared.cmp.Ordering.TheVariants.{Less, Equal, Greater}
use Rattle.std.specs.Ordering.{match_ordering, is_eq}
use Rattle.std.specs.List.Sorted.{IsStrictlySortedBy}
use Rattle.std.specs.Map.{keys_of, lookup, remove_entry}
use Rattle.std.specs.Cmp.{IsTotalOrder}
use Rattle.std.specs.BTreeMap.{is_at, insert_entry}
use Rattle.std.proofs.lemmas.Cmp.{tied_itself, eq_by_cmp_equiv}
use Rattle.std.proofs.lemmas.Map.{lookup-none}
use Rattle.std.proofs.lemmas.Map.Entries.{none_past_head}
use Rattle.std.proofs.lemmas.Map.Keys.{sorted_tail, IsDistinct-from_sorted}
use Rattle.s7_block.specs.Store.{name_cmp, name_of}
use Rattle.s7_block.specs.Laws.{OneNameChanges}
use Rattle.s7_block.proofs.StoreLemmas.{name_cmp_total, name_cmp_exact}

not_tied : (r : Ordering) → (r ≡ Equal → ⊥) → is_eq r ≡ false
not_tied Less apart = refl
not_tied Equal apart = absurd (apart refl)
not_tied Greater apart = refl

module _ {K : Type 0} (R : K → K → Ordering) (exact : (x y : K) → R x y ≡ Equal → x ≡ y) where
  same_key : (k x : K) (r : Ordering) → R k x ≡ r → is_eq r ≡ true → k ≡ x
  same_key k x Less is tied = cc
  same_key k x Equal is tied = exact k x is
  same_key k x Greater is tied = cc

  apart_by : (q k : K) → q ≢ k → is_eq (R q k) ≡ false
  apart_by q k differ = not_tied (R q k) (λ tie. differ (exact q k tie))

module _ {K X : Type 0} (R : K → K → Ordering) (o : IsTotalOrder R) (exact : (x y : K) → R x y ≡ Equal → x ≡ y) where
  found_step : (r : Ordering) (k : K) (v : X) (e : K × X) (es rest : List (K × X)) → R k e.0 ≡ r → lookup (is_at (R k)) rest ≡ Some v → lookup (is_at (R k)) (match_ordering r ((k, v) ∷ e ∷ es) ((e.0, v) ∷ es) (e ∷ rest)) ≡ Some v
  found_step Less k v e es rest is more = ap (λ q. cond (is_eq q) (Some v) (lookup (is_at (R k)) (e ∷ es))) (tied_itself o k)
  found_step Equal k v e es rest is more = ap (λ q. cond (is_eq q) (Some v) (lookup (is_at (R k)) es)) is
  found_step Greater k v e es rest is more = ap (λ q. cond (is_eq q) (Some e.1) (lookup (is_at (R k)) rest)) is ∙ more

  found : (es : List (K × X)) (k : K) (v : X) → lookup (is_at (R k)) (insert_entry R es k v) ≡ Some v
  found [] k v = ap (λ q. cond (is_eq q) (Some v) None) (tied_itself o k)
  found (e ∷ es) k v = found_step (R k e.0) k v e es (insert_entry R es k v) refl (found es k v)

  stay_step : (r : Ordering) (q k : K) (v : X) (e : K × X) (es rest : List (K × X)) → R k e.0 ≡ r → is_eq (R q k) ≡ false → lookup (is_at (R q)) rest ≡ lookup (is_at (R q)) es → lookup (is_at (R q)) (match_ordering r ((k, v) ∷ e ∷ es) ((e.0, v) ∷ es) (e ∷ rest)) ≡ lookup (is_at (R q)) (e ∷ es)
  stay_step Less q k v e es rest is apart more = ap (λ b. cond b (Some v) (lookup (is_at (R q)) (e ∷ es))) apart
  stay_step Equal q k v e es rest is apart more =
      let here : is_eq (R q e.0) ≡ false = subst (λ x. is_eq (R q x) ≡ false) (exact k e.0 is) apart in
      ap (λ b. cond b (Some v) (lookup (is_at (R q)) es)) here ∙ sym (ap (λ b. cond b (Some e.1) (lookup (is_at (R q)) es)) here)
  stay_step Greater q k v e es rest is apart more = ap (λ l. cond (is_eq (R q e.0)) (Some e.1) l) more

  stay : (es : List (K × X)) (q k : K) (v : X) → is_eq (R q k) ≡ false → lookup (is_at (R q)) (insert_entry R es k v) ≡ lookup (is_at (R q)) es
  stay [] q k v apart = ap (λ b. cond b (Some v) None) apart
  stay (e ∷ es) q k v apart = stay_step (R k e.0) q k v e es (insert_entry R es k v) refl apart (stay es q k v apart)

  gone_step : (b : Bool) (k : K) (e : K × X) (es rest : List (K × X)) → is_eq (R k e.0) ≡ b → (is_eq (R k e.0) ≡ true → lookup (is_at (R k)) es ≡ None) → lookup (is_at (R k)) rest ≡ None → lookup (is_at (R k)) (cond b es (e ∷ rest)) ≡ None
  gone_step true k e es rest is here more = here is
  gone_step false k e es rest is here more = ap (λ b. cond b (Some e.1) (lookup (is_at (R k)) rest)) is ∙ more

  gone : (es : List (K × X)) (k : K) → IsStrictlySortedBy R (keys_of es) → lookup (is_at (R k)) (remove_entry (is_at (R k)) es) ≡ None
  gone [] k sorted = refl
  gone (e ∷ es) k sorted =
      gone_step (is_eq (R k e.0)) k e es (remove_entry (is_at (R k)) es) refl
      (λ here. lookup-none (is_at (R k)) es (none_past_head (eq_by_cmp_equiv o) k e es (IsDistinct-from_sorted R (keys_of (e ∷ es)) sorted) here))
      (gone es k (sorted_tail R e.0 (keys_of es) sorted))

  left_step : (b : Bool) (q : K) (e : K × X) (es rest : List (K × X)) → (b ≡ true → is_eq (R q e.0) ≡ false) → lookup (is_at (R q)) rest ≡ lookup (is_at (R q)) es → lookup (is_at (R q)) (cond b es (e ∷ rest)) ≡ lookup (is_at (R q)) (e ∷ es)
  left_step true q e es rest apart more = sym (ap (λ b. cond b (Some e.1) (lookup (is_at (R q)) es)) (apart refl))
  left_step false q e es rest apart more = ap (λ l. cond (is_eq (R q e.0)) (Some e.1) l) more

  left : (es : List (K × X)) (q k : K) → is_eq (R q k) ≡ false → lookup (is_at (R q)) (remove_entry (is_at (R k)) es) ≡ lookup (is_at (R q)) es
  left [] q k apart = refl
  left (e ∷ es) q k apart =
      left_step (is_eq (R k e.0)) q e es (remove_entry (is_at (R k)) es)
      (λ tied. subst (λ x. is_eq (R q x) ≡ false) (same_key R exact k e.0 (R k e.0) refl tied) apart) (left es q k apart)

pub changes : OneNameChanges
changes = record {
  found = λ s block. found name_cmp name_cmp_total name_cmp_exact s.images (name_of block) block.image;
  others_stay = λ s block other differ. stay name_cmp name_cmp_total name_cmp_exact s.images other (name_of block) block.image (apart_by name_cmp name_cmp_exact other (name_of block) differ);
  gone = λ s kind number store. gone name_cmp name_cmp_total name_cmp_exact s.images (record { kind = kind; number = number }) store.ordered;
  others_left = λ s kind number other differ. left name_cmp name_cmp_total name_cmp_exact s.images other (record { kind = kind; number = number }) (apart_by name_cmp name_cmp_exact other (record { kind = kind; number = number }) differ);
}
