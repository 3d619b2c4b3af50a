-- A memory stays one where an area joins, goes, or changes its octets and not their number.
use Rattle.std.proofs.Common.{◌≡◌, ℕ, ◌+◌, ◌-◌, ◌%◌, ◌<◌, ◌≤◌, Bool, true, false, cond, not, eqb, ltb, leb, ◌&&◌, ◌||◌, is_some, List, [], ◌∷◌, length, Option, None, Some, unwrap_or, subst, refl, sym, ◌∙◌, arith, lit≤}
use Rattle.std.specs.declared.cmp.Ordering.{Ordering}
use Rattle.std.specs.declared.cmp.Ordering.TheVariants.{Less, Equal, Greater}
use Rattle.std.specs.Ordering.{match_ordering, is_eq}
use Rattle.std.specs.List.{AllByRecursion}
use Rattle.std.specs.List.Sorted.{IsStrictlySortedBy}
use Rattle.std.specs.Map.{keys_of, lookup, remove_entry, set_value}
use Rattle.std.specs.Option.{option_map}
use Rattle.std.specs.Cmp.{IsTotalOrder, nat_cmp_total}
use Rattle.std.specs.BTreeMap.{is_at, insert_entry}
use Rattle.std.proofs.lemmas.Bool.Decides.{nat_tests}
use Rattle.std.proofs.lemmas.Cmp.{on_total, then_total}
use Rattle.std.proofs.lemmas.Grind.{common_steps}
use Rattle.std.proofs.lemmas.Map.{keys-set_value}
use Rattle.std.proofs.lemmas.Map.Entries.{sum_by-set_value, sum_by-insert_entry, sum_by-remove_entry}
use Rattle.s7_item.specs.Codes.{data_blocks}
use Rattle.s7_area.specs.declared.key.AreaKey.{AreaKey}
use Rattle.std.specs.Prelude.{IfSome}
use Rattle.s7_area.specs.declared.guard.Guard.{Guard}
use Rattle.s7_area.specs.Guards.{IsGuard}
use Rattle.s7_area.specs.Memory.{AreaList, Memory, no_areas, key_cmp, area_octets, with_area, without_area, with_octets}
use Rattle.s7_area.specs.declared.register.RegisterFault.TheVariants.{Key, Size, Exists, TooManyDbs}
use Rattle.s7_area.specs.Keys.{is_key, is_numbered}
use Rattle.s7_area.specs.Laws.{IsFaultless}
use Rattle.s7_area.specs.Registers.{most_octets, most_in_all, most_dbs, total_of, db_numbers, IsArea, IsMemory, Keeps, is_wrong_size, is_db_too_many, fault_of}

pub key_cmp_total : IsTotalOrder key_cmp
key_cmp_total = then_total (on_total (λ k. k.area) nat_cmp_total) (on_total (λ k. k.number) nat_cmp_total)

-- what holds of all entries and of a new one, which is at none of their keys
insert_step : {K X : Type 0} (P : K × X → Type 0) (o : Ordering) (k : K) (v : X) (e : K × X) (es rest : List (K × X)) (later : Option X) → cond (is_eq o) (Some e.1) later ≡ None → P (k, v) → P e → AllByRecursion P es → (later ≡ None → AllByRecursion P rest) → AllByRecursion P (match_ordering o ((k, v) ∷ e ∷ es) ((e.0, v) ∷ es) (e ∷ rest))
insert_step P Less k v e es rest later none new head tail more = (new, (head, tail))
insert_step P Equal k v e es rest later none new head tail more = cc
insert_step P Greater k v e es rest later none new head tail more = (head, more none)

all-insert_entry : {K X : Type 0} (P : K × X → Type 0) (R : K → K → Ordering) (es : List (K × X)) (k : K) (v : X) → lookup (is_at (R k)) es ≡ None → P (k, v) → AllByRecursion P es → AllByRecursion P (insert_entry R es k v)
all-insert_entry P R [] k v none new all = (new, tt)
all-insert_entry P R (e ∷ es) k v none new all =
    insert_step P (R k e.0) k v e es (insert_entry R es k v) (lookup (is_at (R k)) es) none new all.0 all.1 (λ later. all-insert_entry P R es k v later new all.1)

-- what holds of all entries holds where one of them has another value
set_step : {K X : Type 0} (P : K × X → Type 0) (b : Bool) (e : K × X) (es rest : List (K × X)) (old new : X) (later : Option X) → cond b (Some e.1) later ≡ Some old → (P (e.0, old) → P (e.0, new)) → P e → AllByRecursion P es → (later ≡ Some old → AllByRecursion P rest) → AllByRecursion P (cond b ((e.0, new) ∷ es) (e ∷ rest))
set_step P true e es rest old new later found step head tail more =
    let same : e.1 ≡ old = cc in (step (subst (λ v. P (e.0, v)) same head), tail)
set_step P false e es rest old new later found step head tail more = (head, more found)

all-set_value : {K X : Type 0} (P : K × X → Type 0) (test : K → Bool) (es : List (K × X)) (old new : X) → lookup test es ≡ Some old → ((k : K) → P (k, old) → P (k, new)) → AllByRecursion P es → AllByRecursion P (set_value test es new)
all-set_value P test [] old new found step all = tt
all-set_value P test (e ∷ es) old new found step all =
    set_step P (test e.0) e es (set_value test es new) old new (lookup test es) found (step e.0) all.0 all.1 (λ later. all-set_value P test es old new later step all.1)

-- what holds of all entries holds of the others where one is gone
remove_step : {K X : Type 0} (P : K × X → Type 0) (b : Bool) (e : K × X) (es rest : List (K × X)) → P e → AllByRecursion P es → AllByRecursion P rest → AllByRecursion P (cond b es (e ∷ rest))
remove_step P true e es rest head tail more = tail
remove_step P false e es rest head tail more = (head, more)

all-remove_entry : {K X : Type 0} (P : K × X → Type 0) (test : K → Bool) (es : List (K × X)) → AllByRecursion P es → AllByRecursion P (remove_entry test es)
all-remove_entry P test [] all = tt
all-remove_entry P test (e ∷ es) all = remove_step P (test e.0) e es (remove_entry test es) all.0 all.1 (all-remove_entry P test es all.1)

-- how many data blocks one name is, and how many there are
abbrev one_if : Bool → ℕ
one_if b = cond b 1 0

abbrev blocks_of : AreaList → ℕ
blocks_of m = length (db_numbers (keys_of m))

blocks-cons : (key : AreaKey) (octets : List ℕ) (m : AreaList) → blocks_of ((key, octets) ∷ m) ≡ one_if (eqb key.area data_blocks) + blocks_of m
blocks-cons key octets m = grind (arith, common_steps)

blocks_insert_step : (o : Ordering) (key : AreaKey) (octets : List ℕ) (e : AreaKey × List ℕ) (m rest : AreaList) → blocks_of rest ≤ one_if (eqb key.area data_blocks) + blocks_of m → blocks_of (match_ordering o ((key, octets) ∷ e ∷ m) ((e.0, octets) ∷ m) (e ∷ rest)) ≤ one_if (eqb key.area data_blocks) + blocks_of (e ∷ m)
blocks_insert_step Less key octets e m rest more = omega (arith, blocks-cons key octets (e ∷ m))
blocks_insert_step Equal key octets e m rest more = omega (arith, blocks-cons e.0 octets m, blocks-cons e.0 e.1 m)
blocks_insert_step Greater key octets e m rest more = omega (arith, blocks-cons e.0 e.1 rest, blocks-cons e.0 e.1 m)

blocks-insert_entry : (m : AreaList) (key : AreaKey) (octets : List ℕ) → blocks_of (insert_entry key_cmp m key octets) ≤ one_if (eqb key.area data_blocks) + blocks_of m
blocks-insert_entry [] key octets = omega (arith, blocks-cons key octets [])
blocks-insert_entry (e ∷ m) key octets = blocks_insert_step (key_cmp key e.0) key octets e m (insert_entry key_cmp m key octets) (blocks-insert_entry m key octets)

blocks_remove_step : (b : Bool) (e : AreaKey × List ℕ) (m rest : AreaList) → blocks_of rest ≤ blocks_of m → blocks_of (cond b m (e ∷ rest)) ≤ blocks_of (e ∷ m)
blocks_remove_step true e m rest more = omega (arith, blocks-cons e.0 e.1 m)
blocks_remove_step false e m rest more = omega (arith, blocks-cons e.0 e.1 rest, blocks-cons e.0 e.1 m)

blocks-remove_entry : (test : AreaKey → Bool) (m : AreaList) → blocks_of (remove_entry test m) ≤ blocks_of m
blocks-remove_entry test [] = omega arith
blocks-remove_entry test (e ∷ m) = blocks_remove_step (test e.0) e m (remove_entry test m) (blocks-remove_entry test m)

-- the octets of an area change, and not their number
pub IsMemory-with_octets : (m : Memory) (key : AreaKey) (old new : List ℕ) → area_octets m key ≡ Some old → length new ≡ length old → IsMemory m → IsMemory (with_octets m key new)
IsMemory-with_octets m key old new found same is =
    let sums = sum_by-set_value length (is_at (key_cmp key)) m.areas old new found in
    record {
      areas = all-set_value IsArea (is_at (key_cmp key)) m.areas old new found (λ k a. record { name = a.name; some = rw same a.some; most = rw same a.most; even = rw same a.even }) is.areas;
      ordered = rw (keys-set_value (is_at (key_cmp key)) m.areas new) is.ordered;
      total = omega (arith, sums, is.total, same);
      blocks = rw (keys-set_value (is_at (key_cmp key)) m.areas new) is.blocks;
      guard = is.guard;
    }

pub total-with_octets : (m : Memory) (key : AreaKey) (old new : List ℕ) → area_octets m key ≡ Some old → length new ≡ length old → total_of (with_octets m key new) ≡ total_of m
total-with_octets m key old new found same =
    let sums = sum_by-set_value length (is_at (key_cmp key)) m.areas old new found in omega (arith, sums, same)

-- an area joins
pub total-with_area : (m : Memory) (key : AreaKey) (octets : List ℕ) → IsStrictlySortedBy key_cmp (keys_of m.areas) → area_octets m key ≡ None → total_of (with_area m key octets) ≡ total_of m + length octets
total-with_area m key octets sorted absent =
    let sums = sum_by-insert_entry length key_cmp_total m.areas key octets sorted in
    let none : unwrap_or (option_map length (area_octets m key)) 0 ≡ 0 = rw absent refl in
    omega (arith, sums, none)

absent_by : (o : Option (List ℕ)) → is_some o ≡ false → o ≡ None
absent_by None none = refl
absent_by (Some x) none = cc

sized_by : (total len : ℕ) (pairs : Bool) → (eqb len 0 || ltb most_octets len || (pairs && not (eqb (len % 2) 0)) || ltb most_in_all (total + len)) ≡ false → (0 < len) × (len ≤ most_octets) × (pairs ≡ true → len % 2 ≡ 0) × (total + len ≤ most_in_all)
sized_by total len true size = (grind (arith, nat_tests), grind (arith, nat_tests), λ _. grind (arith, nat_tests), grind (arith, nat_tests))
sized_by total len false size = (grind (arith, nat_tests), grind (arith, nat_tests), λ is. cc, grind (arith, nat_tests))

faultless_by : (m : Memory) (key : AreaKey) (len : ℕ) (a b c d : Bool) → is_key key ≡ a → is_wrong_size m key len ≡ b → is_some (area_octets m key) ≡ c → is_db_too_many m key ≡ d → cond (not a) (Some Key) (cond b (Some Size) (cond c (Some Exists) (cond d (Some TooManyDbs) None))) ≡ None → IsFaultless m key len
faultless_by m key len false b c d p q r s none = cc
faultless_by m key len true true c d p q r s none = cc
faultless_by m key len true false true d p q r s none = cc
faultless_by m key len true false false true p q r s none = cc
faultless_by m key len true false false false p q r s none =
    let parts = sized_by (total_of m) len (is_numbered key.area) q in
    record { name = p; size = q; some = parts.0; most = parts.1; even = parts.2; fits = parts.3; absent = absent_by _ r; few = s }

-- what is known of an area that has no fault
pub faultless : (m : Memory) (key : AreaKey) (len : ℕ) → fault_of m key len ≡ None → IsFaultless m key len
faultless m key len none = faultless_by m key len _ _ _ _ refl refl refl refl none

few_by : (n : ℕ) (is_db : Bool) → (is_db && leb most_dbs n) ≡ false → n ≤ most_dbs → one_if is_db + n ≤ most_dbs
few_by n true few most = grind (arith, nat_tests)
few_by n false few most = omega arith

pub IsMemory-with_area : (m : Memory) (key : AreaKey) (octets : List ℕ) → IsStrictlySortedBy key_cmp (keys_of ((with_area m key octets).areas)) → fault_of m key (length octets) ≡ None → IsMemory m → IsMemory (with_area m key octets)
IsMemory-with_area m key octets sorted none is =
    let no_fault = faultless m key (length octets) none in
    record {
      areas = all-insert_entry IsArea key_cmp m.areas key octets no_fault.absent (record { name = no_fault.name; some = no_fault.some; most = no_fault.most; even = no_fault.even }) is.areas;
      ordered = sorted;
      total = omega (arith, total-with_area m key octets is.ordered no_fault.absent, no_fault.fits);
      blocks = omega (arith, blocks-insert_entry m.areas key octets, few_by (blocks_of m.areas) (eqb key.area data_blocks) no_fault.few is.blocks);
      guard = is.guard;
    }

-- an area goes
pub total-without_area : (m : Memory) (key : AreaKey) (octets : List ℕ) → area_octets m key ≡ Some octets → total_of (without_area m key) + length octets ≡ total_of m
total-without_area m key octets found =
    let sums = sum_by-remove_entry length (is_at (key_cmp key)) m.areas in
    let some : unwrap_or (option_map length (area_octets m key)) 0 ≡ length octets = rw found refl in
    omega (arith, sums, some)

pub IsMemory-without_area : (m : Memory) (key : AreaKey) (octets : List ℕ) → area_octets m key ≡ Some octets → IsStrictlySortedBy key_cmp (keys_of ((without_area m key).areas)) → IsMemory m → IsMemory (without_area m key)
IsMemory-without_area m key octets found sorted is =
    let sums = total-without_area m key octets found in
    record {
      areas = all-remove_entry IsArea (is_at (key_cmp key)) m.areas is.areas;
      ordered = sorted;
      total = omega (arith, is.total);
      blocks = omega (arith, blocks-remove_entry (is_at (key_cmp key)) m.areas, is.blocks);
      guard = is.guard;
    }

-- what `Areas` keeps, where an area joins, goes or changes, and where the guard does
pub Keeps-none : Keeps no_areas 0
unfolding IsStrictlySortedBy
Keeps-none = (record { areas = tt; ordered = tt; total = lit≤ tt; blocks = lit≤ tt; guard = tt }, refl)

pub Keeps-with_guard : (m : Memory) (guard : Option Guard) (total : ℕ) → IfSome guard IsGuard → Keeps m total → Keeps (record m { guard = guard }) total
Keeps-with_guard m guard total known is =
    (record { areas = is.0.areas; ordered = is.0.ordered; total = is.0.total; blocks = is.0.blocks; guard = known }, is.1)

pub Keeps-with_octets : (m : Memory) (key : AreaKey) (old new : List ℕ) (total : ℕ) → area_octets m key ≡ Some old → length new ≡ length old → Keeps m total → Keeps (with_octets m key new) total
Keeps-with_octets m key old new total found same is =
    (IsMemory-with_octets m key old new found same is.0, is.1 ∙ sym (total-with_octets m key old new found same))

pub Keeps-with_area : (m : Memory) (key : AreaKey) (octets : List ℕ) (total : ℕ) → IsStrictlySortedBy key_cmp (keys_of ((with_area m key octets).areas)) → fault_of m key (length octets) ≡ None → Keeps m total → Keeps (with_area m key octets) (total + length octets)
Keeps-with_area m key octets total sorted none is =
    let joined = total-with_area m key octets is.0.ordered ((faultless m key (length octets) none).absent) in
    (IsMemory-with_area m key octets sorted none is.0, omega (arith, joined, is.1))

pub Keeps-without_area : (m : Memory) (key : AreaKey) (octets : List ℕ) (total : ℕ) → area_octets m key ≡ Some octets → IsStrictlySortedBy key_cmp (keys_of ((without_area m key).areas)) → Keeps m total → Keeps (without_area m key) (total - length octets)
Keeps-without_area m key octets total found sorted is =
    (IsMemory-without_area m key octets found sorted is.0, omega (arith, total-without_area m key octets found, is.1))
