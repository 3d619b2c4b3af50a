-- Entries that take over the values of others under the same keys, one after another.
use Rattle.std.proofs.Common.{◌≡◌, ℕ, false, List, [], ◌∷◌, ◌++◌, length, map, Option, Some, None, refl, sym, ap, ◌∙◌, subst, append_assoc}
use Rattle.std.specs.declared.cmp.Ordering.TheVariants.{Less}
use Rattle.std.specs.Ordering.{is_eq, ordering_reverse}
use Rattle.std.specs.List.{AllByRecursion}
use Rattle.std.specs.List.Sorted.{IsStrictlySortedBy}
use Rattle.std.specs.Map.{keys_of, lookup, set_value}
use Rattle.std.specs.BTreeMap.{BTreeMap, is_at}
use Rattle.std.proofs.lemmas.Cmp.{tied_itself}
use Rattle.s7_area.specs.declared.key.AreaKey.{AreaKey}
use Rattle.s7_area.specs.Memory.{AreaList, entries_of, key_cmp, lengths_of}
use Rattle.s7_area.proofs.MemoryLemmas.{key_cmp_total}

-- no entry has this key
abbrev AreApart : AreaKey → AreaList → Type 0
AreApart k es = AllByRecursion (λ e. is_at (key_cmp k) e.0 ≡ false) es

lookup_past : (k : AreaKey) (front rest : AreaList) → AreApart k front → lookup (is_at (key_cmp k)) (front ++ rest) ≡ lookup (is_at (key_cmp k)) rest
lookup_past k [] rest apart = refl
lookup_past k (e ∷ front) rest apart = rw apart.0 (lookup_past k front rest apart.1)

set_past : (k : AreaKey) (new : List ℕ) (front rest : AreaList) → AreApart k front → set_value (is_at (key_cmp k)) (front ++ rest) new ≡ front ++ set_value (is_at (key_cmp k)) rest new
set_past k new [] rest apart = refl
set_past k new (e ∷ front) rest apart = rw apart.0 (ap (λ l. e ∷ l) (set_past k new front rest apart.1))

-- what holds of all keys holds of one in their midst
key_between : (P : AreaKey → Type 0) (front : AreaList) (e : AreaKey × List ℕ) (rest : AreaList) → AllByRecursion P (keys_of (front ++ e ∷ rest)) → P e.0
key_between P [] e rest all = all.0
key_between P (first ∷ front) e rest all = key_between P front e rest all.1

-- the keys before one are others
apart_before : (front : AreaList) (e : AreaKey × List ℕ) (rest : AreaList) → IsStrictlySortedBy key_cmp (keys_of (front ++ e ∷ rest)) → AreApart e.0 front
unfolding IsStrictlySortedBy
apart_before [] e rest sorted = tt
apart_before (first ∷ front) e rest sorted =
    let less = key_between (λ k. key_cmp first.0 k ≡ Less) front e rest sorted.0 in
    (ap is_eq (key_cmp_total.antisymm e.0 first.0 ∙ ap ordering_reverse less), apart_before front e rest sorted.1)

-- the values up to some place were taken over, and those behind it have the lengths of those that come
pub record IsOverwritten (now left all : AreaList) : Type 0 where
  pub front : AreaList
  pub rest : AreaList
  pub now_is : now ≡ front ++ rest
  pub all_is : all ≡ front ++ left
  pub lengths : lengths_of left ≡ lengths_of rest

pub overwritten_none : (now all : AreaList) → lengths_of all ≡ lengths_of now → IsOverwritten now all all
overwritten_none now all lengths = record { front = []; rest = now; now_is = refl; all_is = refl; lengths = lengths }

overwritten_end : (now all front rest : AreaList) → now ≡ front ++ rest → all ≡ front ++ [] → lengths_of [] ≡ lengths_of rest → now ≡ all
overwritten_end now all front [] a b lengths = a ∙ sym b
overwritten_end now all front (e ∷ rest) a b lengths = cc

pub overwritten_all : (now left all : AreaList) → left ≡ [] → IsOverwritten now left all → now ≡ all
overwritten_all now [] all none is = overwritten_end now all is.front is.rest is.now_is is.all_is is.lengths
overwritten_all now (e ∷ left) all none is = cc

heads : (e f : AreaKey × ℕ) (es fs : List (AreaKey × ℕ)) → e ∷ es ≡ f ∷ fs → (e.0 ≡ f.0) × (e.1 ≡ f.1) × (es ≡ fs)
heads e f es fs is = let head : e ≡ f = cc in let tail : es ≡ fs = cc in (ap (λ (x : AreaKey × ℕ). x.0) head, ap (λ (x : AreaKey × ℕ). x.1) head, tail)

found_next : (k : AreaKey) (v : List ℕ) (front rest after now : AreaList) → now ≡ front ++ rest → AreApart k front → lengths_of ((k, v) ∷ after) ≡ lengths_of rest → (old : List ℕ) × (lookup (is_at (key_cmp k)) now ≡ Some old) × (length v ≡ length old)
found_next k v front [] after now is apart lengths = cc
found_next k v front ((q, old) ∷ rest) after now is apart lengths =
    let both = heads (k, length v) (q, length old) (lengths_of after) (lengths_of rest) lengths in
    let same : k ≡ q = both.0 in
    let here : lookup (is_at (key_cmp k)) ((q, old) ∷ rest) ≡ Some old = rw (← same, tied_itself key_cmp_total k) refl in
    (old, ap (lookup (is_at (key_cmp k))) is ∙ lookup_past k front ((q, old) ∷ rest) apart ∙ here, both.1)

next_apart : (k : AreaKey) (v : List ℕ) (front left after all : AreaList) → IsStrictlySortedBy key_cmp (keys_of all) → left ≡ (k, v) ∷ after → all ≡ front ++ left → AreApart k front
next_apart k v front left after all sorted next is =
    apart_before front (k, v) after (subst (λ (l : AreaList). IsStrictlySortedBy key_cmp (keys_of l)) (is ∙ ap (λ l. front ++ l) next) sorted)

module _ (now left after all : AreaList) (k : AreaKey) (v : List ℕ) (sorted : IsStrictlySortedBy key_cmp (keys_of all)) (next : left ≡ (k, v) ∷ after) (is : IsOverwritten now left all) where
  overwritten_found : (old : List ℕ) × (lookup (is_at (key_cmp k)) now ≡ Some old) × (length v ≡ length old)
  overwritten_found =
      found_next k v is.front is.rest after now is.now_is (next_apart k v is.front left after all sorted next is.all_is) (ap lengths_of (sym next) ∙ is.lengths)

  -- the next key is there, with as many octets
  pub overwritten_fits : (old : List ℕ) → Some old ≡ lookup (is_at (key_cmp k)) now → length v ≡ length old
  overwritten_fits old found =
      let there = overwritten_found in
      let both : Some old ≡ Some there.0 = found ∙ there.1 in
      let same : old ≡ there.0 = cc in
      there.2 ∙ ap length (sym same)

  pub overwritten_there : None ≡ lookup (is_at (key_cmp k)) now → ⊥
  overwritten_there none =
      let there = overwritten_found in
      let both : None ≡ Some there.0 = none ∙ there.1 in cc

more_next : (k : AreaKey) (v : List ℕ) (front rest left after now all : AreaList) → now ≡ front ++ rest → all ≡ front ++ left → left ≡ (k, v) ∷ after → AreApart k front → lengths_of ((k, v) ∷ after) ≡ lengths_of rest → IsOverwritten (set_value (is_at (key_cmp k)) now v) after all
more_next k v front [] left after now all is all_is next apart lengths = cc
more_next k v front ((q, old) ∷ rest) left after now all is all_is next apart lengths =
    let both = heads (k, length v) (q, length old) (lengths_of after) (lengths_of rest) lengths in
    let same : k ≡ q = both.0 in
    let here : set_value (is_at (key_cmp k)) ((q, old) ∷ rest) v ≡ (k, v) ∷ rest = rw (← same, tied_itself key_cmp_total k) refl in
    record {
      front = front ++ (k, v) ∷ [];
      rest = rest;
      now_is = ap (λ l. set_value (is_at (key_cmp k)) l v) is ∙ set_past k v front ((q, old) ∷ rest) apart ∙ ap (λ l. front ++ l) here ∙ sym (append_assoc front ((k, v) ∷ []) rest);
      all_is = all_is ∙ ap (λ l. front ++ l) next ∙ sym (append_assoc front ((k, v) ∷ []) after);
      lengths = both.2;
    }

-- one more is taken over
pub overwritten_more : (now left after all : AreaList) (k : AreaKey) (v : List ℕ) → IsStrictlySortedBy key_cmp (keys_of all) → left ≡ (k, v) ∷ after → IsOverwritten now left all → IsOverwritten (set_value (is_at (key_cmp k)) now v) after all
overwritten_more now left after all k v sorted next is =
    more_next k v is.front is.rest left after now all is.now_is is.all_is next (next_apart k v is.front left after all sorted next is.all_is) (ap lengths_of (sym next) ∙ is.lengths)

no_lengths : (es : AreaList) → [] ≡ lengths_of es → [] ≡ es
no_lengths [] none = refl
no_lengths (e ∷ es) none = cc

-- where there are no areas on one side there are none on the other
pub none_left : (map from : Option (BTreeMap AreaKey (List ℕ))) → map ≡ None → lengths_of (entries_of from) ≡ lengths_of (entries_of map) → entries_of map ≡ entries_of from
none_left None from none same = no_lengths (entries_of from) (sym same)
none_left (Some map) from none same = cc

pub none_right : (es : AreaList) (from : Option (BTreeMap AreaKey (List ℕ))) → from ≡ None → lengths_of (entries_of from) ≡ lengths_of es → es ≡ entries_of from
none_right es None none same = sym (no_lengths es same)
none_right es (Some from) none same = cc
