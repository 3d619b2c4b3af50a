-- A store stays one where a block joins, is replaced, or goes.
use Rattle.std.proofs.Common.{◌≡◌, ℕ, zero, suc, ◌+◌, ◌<◌, ◌≤◌, Bool, true, false, cond, not, eqb, leb, is_none, ◌&&◌, option_map, List, [], ◌∷◌, length, get_or, set, map, filter, Option, None, Some, Result, Ok, Err, IfOk, IfErr, refl, sym, ap, ◌∙◌, subst, arith}
use Rattle.std.specs.declared.cmp.Ordering.{Ordering}
use Rattle.std.specs.declared.cmp.Ordering.TheVariants.{Less, Equal, Greater}
use Rattle.std.specs.Ordering.{nat_cmp, ordering_then, ordering_reverse, is_lt}
use Rattle.std.specs.List.{AllByRecursion, insert, remove}
use Rattle.std.specs.List.Sorted.{IsStrictlySortedBy, IsSortedBy, IsSearchInRange, IsBinarySearchResult}
use Rattle.std.specs.Map.{keys_of, lookup, remove_entry}
use Rattle.std.specs.Cmp.{IsTotalOrder, nat_cmp_total}
use Rattle.std.specs.BTreeMap.{is_at, insert_entry}
use Rattle.std.proofs.lemmas.Cmp.{on_total, then_total, ranked, tied_itself}
use Rattle.std.proofs.lemmas.List.{get_or-map, length-map, length-set, map-set}
use Rattle.std.proofs.lemmas.List.Edits.{length-insert, length-remove}
use Rattle.std.proofs.lemmas.List.Sorted.{searchable_from_sorted}
use Rattle.std.proofs.lemmas.Map.Keys.{Less-from_sorted}
use Rattle.std.proofs.lemmas.Bool.Decides.{nat_tests}
use Rattle.s7_block.specs.declared.block.BlockName.{BlockName}
use Rattle.s7_block.specs.declared.block.Block.{Block}
use Rattle.s7_block.specs.declared.block.BlockFault.TheVariants.{Kind, BadHead, Full}
use Rattle.s7_block.specs.Kinds.{is_stored_kind}
use Rattle.s7_block.specs.Heads.{head_agrees}
use Rattle.s7_block.specs.Store.{Images, Store, name_cmp, name_of, image_at, block_at, without_block, is_full, fault_of, IsStored, IsStore, numbers_of}
use Rattle.s7_block.specs.StoreView.{entry_of, images_of}
use Rattle.s7_block.specs.StorePlaces.{IsAt, IsGapFor}
use Rattle.s7_block.proofs.EntryLemmas.{AreBelow, insert_at_gap, insert_at_place, lookup_at_place, lookup_at_gap, remove_at_place, below_place, sorted-insert_entry, sorted-remove_entry, all-insert_entry, all-remove_entry}

pub name_cmp_total : IsTotalOrder name_cmp
name_cmp_total = then_total (on_total (λ n. n.kind) nat_cmp_total) (on_total (λ n. n.number) nat_cmp_total)

both_equal : (r s : Ordering) → ordering_then r s ≡ Equal → (r ≡ Equal) × (s ≡ Equal)
both_equal Less s is = cc
both_equal Equal s is = (refl, is)
both_equal Greater s is = cc

-- names that tie are the same
pub name_cmp_exact : (a b : BlockName) → name_cmp a b ≡ Equal → a ≡ b
name_cmp_exact a b tie =
    let both = both_equal (nat_cmp a.kind b.kind) (nat_cmp a.number b.number) tie in
    let kinds : a.kind ≡ b.kind = ranked a.kind b.kind Equal (sym both.0) in
    let numbers : a.number ≡ b.number = ranked a.number b.number Equal (sym both.1) in
    λ i. record { kind = kinds i; number = numbers i }

keys_of_images : (xs : List Block) → keys_of (images_of xs) ≡ map name_of xs
keys_of_images [] = refl
keys_of_images (x ∷ xs) = ap (λ l. name_of x ∷ l) (keys_of_images xs)

length-images : (xs : List Block) → length (images_of xs) ≡ length xs
length-images [] = refl
length-images (x ∷ xs) = ap suc (length-images xs)

-- neighbours are in order, as a binary search asks
in_order : (xs : List Block) → IsStrictlySortedBy name_cmp (keys_of (images_of xs)) → IsSortedBy (λ a b. is_lt (name_cmp (name_of a) (name_of b))) xs
in_order xs sorted k d low high =
    let names = subst (IsStrictlySortedBy name_cmp) (keys_of_images xs) sorted in
    let many : length (map name_of xs) ≡ length xs = length-map xs name_of in
    let less = Less-from_sorted name_cmp (map name_of xs) k (k + 1) (name_of d) names (omega arith) (omega arith) in
    let first = get_or-map name_of xs k d (name_of d) (omega arith) in
    let second = get_or-map name_of xs (k + 1) d (name_of d) high in
    let less_of : name_cmp (name_of (get_or xs k d)) (name_of (get_or xs (k + 1) d)) ≡ Less = subst2 _ _ _ _ first second less in
    ap is_lt (name_cmp_total.antisymm (name_of (get_or xs (k + 1) d)) (name_of (get_or xs k d)) ∙ ap ordering_reverse less_of)
  where
    subst2 : (a b x y : BlockName) → a ≡ x → b ≡ y → name_cmp a b ≡ Less → name_cmp x y ≡ Less
    subst2 a b x y p q less = sym (ap (λ n. name_cmp n b) p ∙ ap (name_cmp x) q) ∙ less

-- a binary search ends at the name, or at the gap for it
pub searched : (xs : List Block) → IsStrictlySortedBy name_cmp (keys_of (images_of xs)) → (name : BlockName) (r : Result ℕ ℕ) → IsSearchInRange r (length xs) → IsBinarySearchResult (λ b. name_cmp (name_of b) name) xs r → IfOk r (IsAt (images_of xs) name) × IfErr r (IsGapFor (images_of xs) name)
searched xs sorted name (Ok at) within equal = (
  record {
    within = omega (arith, length-images xs);
    here = λ d. here d;
  },
  tt,
)
  where
    here : (d : BlockName × List ℕ) → (get_or (images_of xs) at d).0 ≡ name
    here d =
        let b : Block = record { kind = 0; number = 0; image = [] } in
        ap (λ e. e.0) (get_or-map entry_of xs at b d within) ∙ name_cmp_exact _ _ (equal b)
searched xs sorted name (Err at) within parted =
    let blank : Block = record { kind = 0; number = 0; image = [] } in
    let parts = parted (searchable_from_sorted name_cmp_total name_of xs name (in_order xs sorted)) in (
      tt,
      record {
        within = omega (arith, length-images xs);
        before = λ k d lt. ap (λ (e : BlockName × List ℕ). name_cmp name e.0) (get_or-map entry_of xs k blank d (omega arith)) ∙ turned (get_or xs k blank) Less (parts.0 k blank (omega arith) lt);
        after = λ d lt. ap (λ (e : BlockName × List ℕ). name_cmp name e.0) (get_or-map entry_of xs at blank d (omega (arith, length-images xs))) ∙ turned (get_or xs at blank) Greater (parts.1 at blank (omega arith) (omega (arith, length-images xs)));
      },
    )
  where
    turned : (b : Block) (r : Ordering) → name_cmp (name_of b) name ≡ r → name_cmp name (name_of b) ≡ ordering_reverse r
    turned b r is = name_cmp_total.antisymm name (name_of b) ∙ ap ordering_reverse is

module _ {X : Type 0} (P : X → Type 0) where
  -- what holds of all holds at a place
  all_at : (xs : List X) (i : ℕ) (d : X) → AllByRecursion P xs → i < length xs → P (get_or xs i d)
  all_at [] i d all within = absurd (omega arith)
  all_at (x ∷ xs) zero d all within = all.0
  all_at (x ∷ xs) (suc i) d all within = all_at xs i d all.1 (omega arith)

images-insert : (xs : List Block) (i : ℕ) (b : Block) → images_of (insert xs i b) ≡ insert (images_of xs) i (entry_of b)
images-insert [] zero b = refl
images-insert [] (suc i) b = refl
images-insert (x ∷ xs) zero b = refl
images-insert (x ∷ xs) (suc i) b = ap (λ l. entry_of x ∷ l) (images-insert xs i b)

images-remove : (xs : List Block) (i : ℕ) → images_of (remove xs i) ≡ remove (images_of xs) i
images-remove [] zero = refl
images-remove [] (suc i) = refl
images-remove (x ∷ xs) zero = refl
images-remove (x ∷ xs) (suc i) = ap (λ l. entry_of x ∷ l) (images-remove xs i)

-- the images, in a store with this limit
abbrev pub store_of : List Block → ℕ → Store
store_of xs limit = record { images = images_of xs; limit = limit }

block_of : BlockName → List ℕ → Block
block_of n image = record { kind = n.kind; number = n.number; image = image }

tied : (images : Images) (name : BlockName) (at : ℕ) → IsAt images name at → (d : BlockName × List ℕ) → name_cmp name (get_or images at d).0 ≡ Equal
tied images name at is d = ap (name_cmp name) (is.here d) ∙ tied_itself name_cmp_total name

module _ (xs : List Block) (limit : ℕ) (store : IsStore (store_of xs limit)) (kind number at : ℕ) where
  abbrev name : BlockName
  name = record { kind = kind; number = number }

  module _ (is : IsAt (images_of xs) name at) where
    in_vector : at < length xs
    in_vector = omega (arith, is.within, length-images xs)

    below : AreBelow name_cmp name (images_of xs) at
    below = below_place name_cmp name_cmp_total name (images_of xs) at store.ordered is.within is.here

    -- the entry at the place is that of the block there
    entry_there : (b : Block) → b ≡ get_or xs at b → (d : BlockName × List ℕ) → get_or (images_of xs) at d ≡ entry_of b
    entry_there b there d = get_or-map entry_of xs at b d in_vector ∙ ap entry_of (sym there)

    -- the block at the place is the one of the name
    pub block_there : (b : Block) → b ≡ get_or xs at b → Some b ≡ block_at (store_of xs limit) kind number
    unfolding block_of
    block_there b there =
        let found = lookup_at_place name_cmp name (images_of xs) at (entry_of b) is.within below (tied (images_of xs) name at is) in
        let image : image_at (images_of xs) name ≡ Some b.image = found ∙ ap (λ (e : BlockName × List ℕ). Some e.1) (entry_there b there (entry_of b)) in
        let named : name_of b ≡ name = sym (ap (λ (e : BlockName × List ℕ). e.0) (entry_there b there (entry_of b))) ∙ is.here (entry_of b) in
        ap (λ n. Some (block_of n b.image)) named ∙ ap (option_map (block_of name)) (sym image)

    pub stored_there : (b : Block) → b ≡ get_or xs at b → IsStored (entry_of b)
    stored_there b there = subst IsStored (entry_there b there (entry_of b)) (all_at IsStored (images_of xs) at (entry_of b) store.stored is.within)

    -- it is written over
    pub images-set : (b : Block) → name_of b ≡ name → images_of (set xs at b) ≡ insert_entry name_cmp (images_of xs) name b.image
    images-set b same =
        map-set entry_of xs at b
        ∙ ap (λ n. set (images_of xs) at (n, b.image)) same
        ∙ sym (insert_at_place name_cmp name b.image (images_of xs) at is.within below (tied (images_of xs) name at is) is.here)

    -- it goes
    pub images-removed : images_of (remove xs at) ≡ remove_entry (is_at (name_cmp name)) (images_of xs)
    images-removed = images-remove xs at ∙ sym (remove_at_place name_cmp name (images_of xs) at is.within below (tied (images_of xs) name at is))

  module _ (gap : IsGapFor (images_of xs) name at) where
    pub none_there : image_at (images_of xs) name ≡ None
    none_there = lookup_at_gap name_cmp name_cmp_total name (images_of xs) at store.ordered gap.within gap.before gap.after

    -- a block joins in the gap
    pub images-joined : (b : Block) → name_of b ≡ name → images_of (insert xs at b) ≡ insert_entry name_cmp (images_of xs) name b.image
    images-joined b same =
        images-insert xs at b
        ∙ ap (λ n. insert (images_of xs) at (n, b.image)) same
        ∙ sym (insert_at_gap name_cmp name b.image (images_of xs) at gap.within gap.before gap.after)

-- what is known of a block that has no fault
pub record IsFaultless (s : Store) (b : Block) : Type 0 where
  pub stored : IsStored (entry_of b)
  pub room : is_full s (name_of b) ≡ false

faultless_by : (s : Store) (b : Block) (kind head full : Bool) → is_stored_kind b.kind ≡ kind → head_agrees b.image b.kind b.number ≡ head → is_full s (name_of b) ≡ full → cond (not kind) (Some Kind) (cond (not head) (Some BadHead) (cond full (Some Full) None)) ≡ None → IsFaultless s b
faultless_by s b false head full p q r none = cc
faultless_by s b true false full p q r none = cc
faultless_by s b true true true p q r none = cc
faultless_by s b true true false p q r none = record { stored = record { kind = p; head = q }; room = r }

pub faultless : (s : Store) (b : Block) → fault_of s b ≡ None → IsFaultless s b
faultless s b none = faultless_by s b _ _ _ refl refl refl none

has_room : (limit n : ℕ) (found : Option (List ℕ)) → found ≡ None → (leb limit n && is_none found) ≡ false → n < limit
has_room limit n None none is = grind (arith, nat_tests)
has_room limit n (Some image) none is = cc

store_by : (ys : List Block) (limit : ℕ) (images : Images) → images_of ys ≡ images → AllByRecursion IsStored images → IsStrictlySortedBy name_cmp (keys_of images) → length ys ≤ limit → limit ≤ 1024 → IsStore (store_of ys limit)
store_by ys limit images is stored ordered within most = record {
  stored = subst (AllByRecursion IsStored) (sym is) stored;
  ordered = subst (λ (l : Images). IsStrictlySortedBy name_cmp (keys_of l)) (sym is) ordered;
  within = omega (arith, length-images ys);
  most = most;
}

module _ (xs : List Block) (limit : ℕ) (store : IsStore (store_of xs limit)) (at : ℕ) where
  fits : length xs ≤ limit
  fits = omega (arith, store.within, length-images xs)

  module _ (b : Block) (none : fault_of (store_of xs limit) b ≡ None) where
    stored_with : AllByRecursion IsStored (insert_entry name_cmp (images_of xs) (name_of b) b.image)
    stored_with = all-insert_entry name_cmp name_cmp_exact IsStored (images_of xs) (name_of b) b.image (faultless (store_of xs limit) b none).stored store.stored

    ordered_with : IsStrictlySortedBy name_cmp (keys_of (insert_entry name_cmp (images_of xs) (name_of b) b.image))
    ordered_with = sorted-insert_entry name_cmp name_cmp_total (images_of xs) (name_of b) b.image store.ordered

    pub store-set : IsAt (images_of xs) (name_of b) at → IsStore (store_of (set xs at b) limit)
    store-set is = store_by (set xs at b) limit _ (images-set xs limit store b.kind b.number at is b refl) stored_with ordered_with (omega (arith, length-set xs at b, fits)) store.most

    pub some_room : IsGapFor (images_of xs) (name_of b) at → length xs < limit
    some_room gap =
        let none_there = none_there xs limit store b.kind b.number at gap in
        omega (arith, length-images xs, has_room limit (length (images_of xs)) _ none_there (faultless (store_of xs limit) b none).room)

    pub store-insert : IsGapFor (images_of xs) (name_of b) at → IsStore (store_of (insert xs at b) limit)
    store-insert gap =
        let inside : at ≤ length xs = omega (arith, gap.within, length-images xs) in
        store_by (insert xs at b) limit _ (images-joined xs limit store b.kind b.number at gap b refl) stored_with ordered_with (omega (arith, length-insert xs at b inside, some_room gap)) store.most

  pub store-remove : (kind number : ℕ) → IsAt (images_of xs) (record { kind = kind; number = number }) at → IsStore (store_of (remove xs at) limit)
  store-remove kind number is =
      let inside : at < length xs = omega (arith, is.within, length-images xs) in
      store_by (remove xs at) limit _ (images-removed xs limit store kind number at is)
      (all-remove_entry name_cmp IsStored _ (images_of xs) store.stored) (sorted-remove_entry name_cmp _ (images_of xs) store.ordered)
      (omega (arith, length-remove xs at inside, fits)) store.most

pub store-none : (limit : ℕ) → limit ≤ 1024 → IsStore (store_of [] limit)
unfolding IsStrictlySortedBy
store-none limit most = record { stored = tt; ordered = tt; within = omega arith; most = most }

-- a store without a name stays the same without it
remove_none_step : {K X : Type 0} (b : Bool) (e : K × X) (es rest : List (K × X)) (later : Option X) → cond b (Some e.1) later ≡ None → (later ≡ None → rest ≡ es) → cond b es (e ∷ rest) ≡ e ∷ es
remove_none_step true e es rest later none more = cc
remove_none_step false e es rest later none more = ap (λ l. e ∷ l) (more none)

pub remove_none : {K X : Type 0} (test : K → Bool) (es : List (K × X)) → lookup test es ≡ None → remove_entry test es ≡ es
remove_none test [] none = refl
remove_none test (e ∷ es) none = remove_none_step (test e.0) e es (remove_entry test es) (lookup test es) none (remove_none test es)

pub block_absent : (s : Store) (kind number : ℕ) → image_at s.images (record { kind = kind; number = number }) ≡ None → (None ≡ block_at s kind number) × (s ≡ without_block s kind number)
unfolding block_of
block_absent s kind number none = (
  sym (ap (option_map (block_of (record { kind = kind; number = number }))) none),
  λ i. record { images = sym (remove_none (is_at (name_cmp (record { kind = kind; number = number }))) s.images none) i; limit = s.limit },
)

few_kept : {X : Type 0} (test : X → Bool) (b : Bool) (x : X) (kept : List X) (n : ℕ) → length kept ≤ n → length (cond b (x ∷ kept) kept) ≤ n + 1
few_kept test true x kept n few = omega arith
few_kept test false x kept n few = omega arith

length-filter : {X : Type 0} (test : X → Bool) (xs : List X) → length (filter test xs) ≤ length xs
length-filter test [] = omega arith
length-filter test (x ∷ xs) = omega (arith, few_kept test (test x) x (filter test xs) (length xs) (length-filter test xs))

-- there are at most 1,024 numbers
pub numbers_few : (s : Store) (kind : ℕ) → IsStore s → length (numbers_of s.images kind) ≤ 1024
numbers_few s kind store =
    omega (arith, length-map (filter (λ (e : BlockName × List ℕ). eqb e.0.kind kind) s.images) (λ (e : BlockName × List ℕ). e.0.number), length-filter (λ (e : BlockName × List ℕ). eqb e.0.kind kind) s.images, store.within, store.most)
