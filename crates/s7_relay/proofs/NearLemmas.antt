-- Near codes are the codes of reads and writes in areas that are as long as the windows.
use Rattle.std.proofs.Common.{◌≡◌, ◌∙◌, ℕ, Bool, true, false, cond, refl, ap, sym, arith, List, [], ◌∷◌, length, replicate, Option, Some, None}
use Rattle.std.specs.Prelude.{◌==◌, ◌&&◌, not, option_map, if◌then◌else◌}
use Rattle.std.specs.Map.{lookup}
use Rattle.std.specs.BTreeMap.{insert_entry, is_at}
use Rattle.std.specs.Ordering.{is_eq, match_ordering, nat_cmp, ordering_then}
use Rattle.std.specs.declared.cmp.Ordering.{Ordering}
use Rattle.std.specs.declared.cmp.Ordering.TheVariants.{Equal, Greater, Less}
use Rattle.std.proofs.lemmas.Bool.Decides.{nat_tests}
use Rattle.std.proofs.lemmas.List.{length-replicate}
use Rattle.s7_item.specs.Codes.{good, wrong_size, wrong_word}
use Rattle.s7_item.specs.Item.{octet_count}
use Rattle.s7_item.specs.declared.item.Item.{Item}
use Rattle.s7_area.specs.Guards.{is_read_barred, is_write_barred}
use Rattle.s7_area.specs.Memory as memory
use Rattle.s7_area.specs.Memory.{AreaList, Memory, area_octets, key_cmp, no_areas, place_code, put_code, read_code, with_area, write_code}
use Rattle.s7_area.specs.Places.{is_misfit, key_of}
use Rattle.s7_area.specs.declared.key.AreaKey.{AreaKey}
use Rattle.s7_relay.specs.Keys.{same_key}
use Rattle.s7_relay.specs.Laws.{IsAsLong, NearCodesAreCodes, length_of}
use Rattle.s7_relay.specs.Windows.{code_in, near_code, near_put_code, window_of}
use Rattle.s7_relay.specs.declared.windows.Window.{Window}
use Rattle.s7_relay.proofs.FarLemmas.{numbered_codes}
use Rattle.s7_relay.proofs.FileLemmas.{keys_are_equal}

-- ---- codes

code_by : (octets : Option (List ℕ)) (w : Option Window) (item : Item) → option_map length octets ≡ option_map length_of w
    → code_in w item ≡ memory.code_in octets item
code_by None None item same = refl
code_by None (Some w) item same = absurd (cc same)
code_by (Some octets) None item same = absurd (cc same)
code_by (Some octets) (Some w) item same =
    let long : length octets ≡ w.length = cc same in
    rw long refl

place_is : (m : Memory) (windows : List Window) → IsAsLong m windows → (item : Item) → near_code windows item ≡ place_code m item
place_is m windows as_long item =
    let code = code_by (area_octets m (key_of item)) (window_of windows (key_of item)) item (as_long.areas (key_of item)) in
    by (is_misfit item) code
  where
    by : (b : Bool) → code_in (window_of windows (key_of item)) item ≡ memory.code_in (area_octets m (key_of item)) item
        → (if b then wrong_word else code_in (window_of windows (key_of item)) item)
        ≡ (if b then wrong_word else memory.code_in (area_octets m (key_of item)) item)
    by true code = refl
    by false code = code

-- nothing is barred without a guard
read_open : (right : Bool) → is_read_barred None right ≡ false
read_open true = refl
read_open false = refl

write_open : (right : Bool) → is_write_barred None right ≡ false
write_open true = refl
write_open false = refl

reads : (m : Memory) (windows : List Window) → IsAsLong m windows → (right : Bool) (item : Item) → near_code windows item ≡ read_code m right item
unfolding read_code
reads m windows as_long right item =
    let free : is_read_barred m.guard right ≡ false = ap (λ g. is_read_barred g right) as_long.unguarded ∙ read_open right in
    place_is m windows as_long item ∙ sym (rw free refl)

writes : (m : Memory) (windows : List Window) → IsAsLong m windows → (right : Bool) (item : Item) (octets : List ℕ)
    → near_put_code windows item octets ≡ write_code m right item octets
unfolding write_code
writes m windows as_long right item octets =
    let free : is_write_barred m.guard right ≡ false = ap (λ g. is_write_barred g right) as_long.unguarded ∙ write_open right in
    ap (λ (code : ℕ). if code == good && not (length octets == octet_count item) then wrong_size else code) (place_is m windows as_long item)
    ∙ sym (rw free refl)

-- ---- a memory that is as long

memory_of : List Window → Memory
memory_of [] = no_areas
memory_of (w ∷ ws) = with_area (memory_of ws) w.near (replicate w.length 0)

nat_same : (x y : ℕ) → is_eq (nat_cmp x y) ≡ (y == x)
nat_same x y = grind (arith, nat_tests)

then_same : (o p : Ordering) → is_eq (ordering_then o p) ≡ (is_eq o && is_eq p)
then_same Less p = refl
then_same Equal p = refl
then_same Greater p = refl

-- a name is found where it is the same
at_same : (q key : AreaKey) → is_at (key_cmp q) key ≡ same_key key q
at_same q key =
    then_same (nat_cmp q.area key.area) (nat_cmp q.number key.number)
    ∙ (λ i. nat_same q.area key.area i && nat_same q.number key.number i)

-- what is found behind one more area
found_new : (q key : AreaKey) (octets : List ℕ) (es : AreaList)
    → lookup (is_at (key_cmp q)) (insert_entry key_cmp es key octets) ≡ cond (same_key key q) (Some octets) (lookup (is_at (key_cmp q)) es)
found_new q key octets [] = ap (λ b. cond b (Some octets) None) (at_same q key)
found_new q key octets (e ∷ es) = by (key_cmp key e.0) refl (found_new q key octets es)
  where
    at : is_at (key_cmp q) e.0 ≡ same_key e.0 q
    at = at_same q e.0

    equal_by : (b : Bool) → same_key key q ≡ b → same_key e.0 q ≡ b
        → cond (is_at (key_cmp q) e.0) (Some octets) (lookup (is_at (key_cmp q)) es)
        ≡ cond (same_key key q) (Some octets) (cond (is_at (key_cmp q) e.0) (Some e.1) (lookup (is_at (key_cmp q)) es))
    equal_by true same other = rw (at, other, same) refl
    equal_by false same other = rw (at, other, same) refl

    later_by : (b : Bool) → same_key key q ≡ b → (b ≡ true → same_key e.0 q ≡ false)
        → lookup (is_at (key_cmp q)) (insert_entry key_cmp es key octets) ≡ cond (same_key key q) (Some octets) (lookup (is_at (key_cmp q)) es)
        → cond (is_at (key_cmp q) e.0) (Some e.1) (lookup (is_at (key_cmp q)) (insert_entry key_cmp es key octets))
        ≡ cond (same_key key q) (Some octets) (cond (is_at (key_cmp q) e.0) (Some e.1) (lookup (is_at (key_cmp q)) es))
    later_by true same apart later = rw (at, apart refl, later, same) refl
    later_by false same apart later = rw (later, same) refl

    by : (o : Ordering) → key_cmp key e.0 ≡ o
        → lookup (is_at (key_cmp q)) (insert_entry key_cmp es key octets) ≡ cond (same_key key q) (Some octets) (lookup (is_at (key_cmp q)) es)
        → lookup (is_at (key_cmp q)) (match_ordering o ((key, octets) ∷ e ∷ es) ((e.0, octets) ∷ es) (e ∷ insert_entry key_cmp es key octets))
        ≡ cond (same_key key q) (Some octets) (lookup (is_at (key_cmp q)) (e ∷ es))
    by Less is later = ap (λ b. cond b (Some octets) (lookup (is_at (key_cmp q)) (e ∷ es))) (at_same q key)
    by Equal is later =
        let met : same_key e.0 key ≡ true = sym (at_same key e.0) ∙ ap is_eq is in
        equal_by (same_key key q) refl (keys_are_equal.congr e.0 key q met)
    by Greater is later =
        let apart : same_key e.0 key ≡ false = sym (at_same key e.0) ∙ ap is_eq is in
        later_by (same_key key q) refl
        (λ same. keys_are_equal.symm e.0 q ∙ sym (keys_are_equal.congr key q e.0 same) ∙ keys_are_equal.symm key e.0 ∙ apart) later

longs_by : (b : Bool) (w : Window) (octets : Option (List ℕ)) (found : Option Window) → option_map length octets ≡ option_map length_of found
    → option_map length (cond b (Some (replicate w.length 0)) octets) ≡ option_map length_of (cond b (Some w) found)
longs_by true w octets found same = ap Some (length-replicate w.length 0)
longs_by false w octets found same = same

areas_are : (windows : List Window) (key : AreaKey)
    → option_map length (area_octets (memory_of windows) key) ≡ option_map length_of (window_of windows key)
unfolding memory_of
areas_are [] key = refl
areas_are (w ∷ ws) key =
    ap (option_map length) (found_new key w.near (replicate w.length 0) (memory_of ws).areas)
    ∙ longs_by (same_key w.near key) w (area_octets (memory_of ws) key) (window_of ws key) (areas_are ws key)

unguarded : (windows : List Window) → (memory_of windows).guard ≡ None
unfolding memory_of
unguarded [] = refl
unguarded (w ∷ ws) = unguarded ws

pub near_codes : NearCodesAreCodes
near_codes = record {
  reads = reads;
  writes = writes;
  numbered = numbered_codes;
  some = λ windows. (memory_of windows, record { unguarded = unguarded windows; areas = areas_are windows });
}
