-- Marks stay in the order of their names where one joins, is replaced, or goes.
use Rattle.std.proofs.Common.{◌≡◌, ℕ, ◌+◌, ◌<◌, ◌≤◌, List, [], ◌∷◌, ◌++◌, length, get_or, set, take, Option, None, Result, Ok, Err, IfOk, IfErr, refl, sym, ap, ◌∙◌, subst, arith}
use Rattle.std.specs.declared.cmp.Ordering.{Ordering}
use Rattle.std.specs.declared.cmp.Ordering.TheVariants.{Less, Equal, Greater}
use Rattle.std.specs.Ordering.{ordering_reverse, is_lt}
use Rattle.std.specs.List.{insert, remove}
use Rattle.std.specs.List.Sorted.{IsStrictlySortedBy, IsSortedBy, IsSearchInRange, IsBinarySearchResult}
use Rattle.std.specs.Map.{keys_of, remove_entry}
use Rattle.std.specs.BTreeMap.{is_at, insert_entry}
use Rattle.std.proofs.lemmas.Cmp.{tied_itself}
use Rattle.std.proofs.lemmas.List.{get_or-map, length-map, length-set, take_more, take_all}
use Rattle.std.proofs.lemmas.List.Edits.{length-insert, length-remove}
use Rattle.std.proofs.lemmas.List.Sorted.{searchable_from_sorted}
use Rattle.std.proofs.lemmas.Map.Keys.{Less-from_sorted}
use Rattle.s7_block.specs.declared.block.BlockName.{BlockName}
use Rattle.s7_block.specs.declared.block.Block.{Block}
use Rattle.s7_block.specs.Store.{Images, Store, IsStore, name_cmp, name_of}
use Rattle.s7_block.specs.StoreView.{images_of}
use Rattle.s7_block.specs.StorePlaces.{IsAt, IsGapFor}
use Rattle.s7_block.specs.Marks.{Marked, IsMarkList, mark_at, unmarked}
use Rattle.s7_block.proofs.EntryLemmas.{AreBelow, insert_at_gap, insert_at_place, lookup_at_gap, remove_at_place, below_place, sorted-insert_entry, sorted-remove_entry}
use Rattle.s7_block.proofs.StoreLemmas.{name_cmp_total, name_cmp_exact, remove_none}

-- neighbours are in order, as a binary search asks
in_order : (ms : Marked) → IsStrictlySortedBy name_cmp (keys_of ms) → IsSortedBy (λ a b. is_lt (name_cmp a.0 b.0)) ms
in_order ms sorted k d low high =
    let many = length-map ms (λ (m : BlockName × Option ℕ). m.0) in
    let less = Less-from_sorted name_cmp (keys_of ms) k (k + 1) d.0 sorted (omega arith) (omega arith) in
    let first = get_or-map (λ (m : BlockName × Option ℕ). m.0) ms k d d.0 (omega arith) in
    let second = get_or-map (λ (m : BlockName × Option ℕ). m.0) ms (k + 1) d d.0 high in
    let less_of : name_cmp (get_or ms k d).0 (get_or ms (k + 1) d).0 ≡ Less = sym (ap (λ n. name_cmp n (get_or (keys_of ms) (k + 1) d.0)) first ∙ ap (name_cmp (get_or ms k d).0) second) ∙ less in
    ap is_lt (name_cmp_total.antisymm (get_or ms (k + 1) d).0 (get_or ms k d).0 ∙ ap ordering_reverse less_of)

-- a binary search ends at the name, or at the gap for it
pub searched_marks : (ms : Marked) → IsStrictlySortedBy name_cmp (keys_of ms) → (name : BlockName) (r : Result ℕ ℕ) → IsSearchInRange r (length ms) → IsBinarySearchResult (λ m. name_cmp m.0 name) ms r → IfOk r (IsAt ms name) × IfErr r (IsGapFor ms name)
searched_marks ms sorted name (Ok at) within equal =
    (record { within = within; here = λ d. name_cmp_exact _ _ (equal d) }, tt)
searched_marks ms sorted name (Err at) within parted =
    let parts = parted (searchable_from_sorted name_cmp_total (λ (m : BlockName × Option ℕ). m.0) ms name (in_order ms sorted)) in (
      tt,
      record {
        within = omega arith;
        before = λ k d lt. turned (get_or ms k d).0 Less (parts.0 k d (omega arith) lt);
        after = λ d lt. turned (get_or ms at d).0 Greater (parts.1 at d (omega arith) (omega arith));
      },
    )
  where
    turned : (n : BlockName) (r : Ordering) → name_cmp n name ≡ r → name_cmp name n ≡ ordering_reverse r
    turned n r is = name_cmp_total.antisymm name n ∙ ap ordering_reverse is

tied : (ms : Marked) (name : BlockName) (at : ℕ) → IsAt ms name at → (d : BlockName × Option ℕ) → name_cmp name (get_or ms at d).0 ≡ Equal
tied ms name at is d = ap (name_cmp name) (is.here d) ∙ tied_itself name_cmp_total name

list_by : (ms ns : Marked) (limit : ℕ) → ns ≡ ms → IsStrictlySortedBy name_cmp (keys_of ms) → length ns ≤ limit → IsMarkList (record { marks = ns; limit = limit })
list_by ms ns limit is ordered within =
    record { ordered = subst (λ (l : Marked). IsStrictlySortedBy name_cmp (keys_of l)) (sym is) ordered; within = within }

module _ (ms : Marked) (limit : ℕ) (list : IsMarkList (record { marks = ms; limit = limit })) (name : BlockName) (at : ℕ) where
  module _ (is : IsAt ms name at) where
    below : AreBelow name_cmp name ms at
    below = below_place name_cmp name_cmp_total name ms at list.ordered is.within is.here

    pub marks-set : (v : Option ℕ) → set ms at (name, v) ≡ insert_entry name_cmp ms name v
    marks-set v = sym (insert_at_place name_cmp name v ms at is.within below (tied ms name at is) is.here)

    pub marks-removed : remove ms at ≡ remove_entry (is_at (name_cmp name)) ms
    marks-removed = sym (remove_at_place name_cmp name ms at is.within below (tied ms name at is))

    pub list-set : (v : Option ℕ) → IsMarkList (record { marks = set ms at (name, v); limit = limit })
    list-set v = list_by _ _ limit (marks-set v) (sorted-insert_entry name_cmp name_cmp_total ms name v list.ordered) (omega (arith, length-set ms at (name, v), list.within))

    pub list-remove : IsMarkList (record { marks = remove ms at; limit = limit })
    list-remove = list_by _ _ limit marks-removed (sorted-remove_entry name_cmp _ ms list.ordered) (omega (arith, length-remove ms at is.within, list.within))

  module _ (gap : IsGapFor ms name at) where
    pub no_mark : mark_at ms name ≡ None
    no_mark = lookup_at_gap name_cmp name_cmp_total name ms at list.ordered gap.within gap.before gap.after

    pub marks-joined : (v : Option ℕ) → insert ms at (name, v) ≡ insert_entry name_cmp ms name v
    marks-joined v = sym (insert_at_gap name_cmp name v ms at gap.within gap.before gap.after)

    pub list-insert : (v : Option ℕ) → length ms < limit → IsMarkList (record { marks = insert ms at (name, v); limit = limit })
    list-insert v room = list_by _ _ limit (marks-joined v) (sorted-insert_entry name_cmp name_cmp_total ms name v list.ordered) (omega (arith, length-insert ms at (name, v) gap.within, room))

    pub marks-without : ms ≡ remove_entry (is_at (name_cmp name)) ms
    marks-without = sym (remove_none (is_at (name_cmp name)) ms no_mark)

keys-unmarked : (images : Images) → keys_of (unmarked images) ≡ keys_of images
keys-unmarked [] = refl
keys-unmarked (e ∷ images) = ap (λ l. e.0 ∷ l) (keys-unmarked images)

length-unmarked : (images : Images) → length (unmarked images) ≡ length images
length-unmarked images = length-map images (λ (e : BlockName × List ℕ). (e.0, None))

unmarked_append : (xs : List Block) (b : Block) → unmarked (images_of (xs ++ b ∷ [])) ≡ unmarked (images_of xs) ++ (name_of b, None) ∷ []
unmarked_append [] b = refl
unmarked_append (x ∷ xs) b = ap (λ l. (name_of x, None) ∷ l) (unmarked_append xs b)

-- one more name
pub unmarked_more : (xs : List Block) (k : ℕ) (b : Block) → k < length xs → b ≡ get_or xs k b → unmarked (images_of (take (k + 1) xs)) ≡ unmarked (images_of (take k xs)) ++ (name_of b, None) ∷ []
unmarked_more xs k b within is =
    ap (λ l. unmarked (images_of l)) (take_more xs k b within ∙ ap (λ e. take k xs ++ e ∷ []) (sym is)) ∙ unmarked_append (take k xs) b

-- the names of a store's images are marks
pub list-unmarked : (s : Store) → IsStore s → IsMarkList (record { marks = unmarked s.images; limit = s.limit })
list-unmarked s store = record {
  ordered = subst (IsStrictlySortedBy name_cmp) (sym (keys-unmarked s.images)) store.ordered;
  within = omega (arith, length-unmarked s.images, store.within);
}

-- the names of all blocks of a store were taken
pub list-taken : (s : Store) (xs : List Block) (k limit : ℕ) (ms : Marked) → IsStore s → images_of xs ≡ s.images → limit ≡ s.limit → length xs ≤ k → ms ≡ unmarked (images_of (take k xs)) → IsMarkList (record { marks = ms; limit = limit })
list-taken s xs k limit ms store images same all is =
    let whole : ms ≡ unmarked s.images = is ∙ ap (λ l. unmarked (images_of l)) (take_all k xs all) ∙ ap unmarked images in
    let list = list-unmarked s store in
    list_by (unmarked s.images) ms limit whole list.ordered (omega (arith, ap length whole, list.within))
