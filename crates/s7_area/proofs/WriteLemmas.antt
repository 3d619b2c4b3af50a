-- What was written is read.
use Rattle.std.proofs.Common.{◌≡◌, ℕ, ◌+◌, Bool, true, false, cond, eqb, not, ◌&&◌, ◌||◌, List, [], ◌∷◌, ◌++◌, length, take, drop, Option, None, Some, refl, append_assoc, arith}
use Rattle.std.specs.Map.{lookup, set_value}
use Rattle.std.specs.BTreeMap.{is_at}
use Rattle.std.proofs.Math.Seq.{drop-append_seam, take-append_seam}
use Rattle.std.proofs.lemmas.Bool.{eqb-true}
use Rattle.std.proofs.lemmas.Grind.{common_steps}
use Rattle.s7_item.specs.Item.{octet_count}
use Rattle.s7_item.specs.declared.item.Item.{Item}
use Rattle.s7_area.specs.Places.{is_misfit, key_of, start_of, is_inside, value_at, changed_at}
use Rattle.s7_area.specs.Guards.{level_of, is_read_barred}
use Rattle.s7_area.specs.Memory.{Memory, key_cmp, area_octets, code_in, put_code, read_code, read_octets, write_code, written}
use Rattle.s7_area.specs.Laws.{WrittenIsRead}

-- what is known where a write with a right to it has the code FF
pub record IsGood (m : Memory) (item : Item) (octets : List ℕ) : Type 0 where
  pub old : List ℕ
  pub fits : is_misfit item ≡ false
  pub found : area_octets m (key_of item) ≡ Some old
  pub inside : is_inside item (length old) ≡ true
  pub count : length octets ≡ octet_count item

-- the code of a write from that of the place
abbrev judged : ℕ → Bool → ℕ
judged code counts = cond (eqb code 255 && not counts) 7 code

good_inside : (m : Memory) (item : Item) (octets old : List ℕ) (inside counts : Bool) → is_misfit item ≡ false → area_octets m (key_of item) ≡ Some old → is_inside item (length old) ≡ inside → eqb (length octets) (octet_count item) ≡ counts → judged (cond inside 255 5) counts ≡ 255 → IsGood m item octets
good_inside m item octets old false counts fits found a b is = absurd (omega arith)
good_inside m item octets old true false fits found a b is = absurd (omega arith)
good_inside m item octets old true true fits found a b is =
    record { old = old; fits = fits; found = found; inside = a; count = eqb-true _ _ b }

good_by : (m : Memory) (item : Item) (octets : List ℕ) (misfit : Bool) (found : Option (List ℕ)) → is_misfit item ≡ misfit → area_octets m (key_of item) ≡ found → judged (cond misfit 6 (code_in found item)) (eqb (length octets) (octet_count item)) ≡ 255 → IsGood m item octets
good_by m item octets true found a b is = absurd (omega arith)
good_by m item octets false None a b is = absurd (omega arith)
good_by m item octets false (Some old) a b is = good_inside m item octets old _ _ a b refl refl is

pub good : (m : Memory) (item : Item) (octets : List ℕ) → put_code m item octets ≡ 255 → IsGood m item octets
good m item octets is = good_by m item octets _ _ refl refl is

-- a write that isn't barred has the code of its place, and leaves a read that isn't either
allowed_by : (level : ℕ) (right a b : Bool) (code : ℕ) → eqb level 2 ≡ a → eqb level 3 ≡ b → cond (not right && (a || b)) 3 code ≡ 255 → (code ≡ 255) × ((not right && b) ≡ false)
allowed_by level true a b code two three is = (is, refl)
allowed_by level false true b code two three is = absurd (omega arith)
allowed_by level false false true code two three is = absurd (omega arith)
allowed_by level false false false code two three is = (is, refl)

pub record IsAllowed (m : Memory) (right : Bool) (item : Item) (octets : List ℕ) : Type 0 where
  pub code : put_code m item octets ≡ 255
  pub read : is_read_barred m.guard right ≡ false

pub allowed : (m : Memory) (right : Bool) (item : Item) (octets : List ℕ) → write_code m right item octets ≡ 255 → IsAllowed m right item octets
unfolding write_code
allowed m right item octets is =
    let both = allowed_by (level_of m.guard) right _ _ (put_code m item octets) refl refl is in
    record { code = both.0; read = both.1 }

set_step : {K X : Type 0} (test : K → Bool) (b : Bool) (e : K × X) (es rest : List (K × X)) (old new : X) (later : Option X) → test e.0 ≡ b → cond b (Some e.1) later ≡ Some old → (later ≡ Some old → lookup test rest ≡ Some new) → lookup test (cond b ((e.0, new) ∷ es) (e ∷ rest)) ≡ Some new
set_step test true e es rest old new later is found more = rw is refl
set_step test false e es rest old new later is found more = rw is (more found)

-- the value that was set is found
lookup_set : {K X : Type 0} (test : K → Bool) (es : List (K × X)) (old new : X) → lookup test es ≡ Some old → lookup test (set_value test es new) ≡ Some new
lookup_set test [] old new found = cc
lookup_set test (e ∷ es) old new found =
    set_step test (test e.0) e es (set_value test es new) old new (lookup test es) refl found (λ later. lookup_set test es old new later)

seam : (xs ys zs : List ℕ) (s n : ℕ) → length xs ≡ s → length ys ≡ n → take n (drop s ((xs ++ ys) ++ zs)) ≡ ys
seam xs ys zs s n a b = rw (← a, ← b, append_assoc, drop-append_seam, take-append_seam) refl

pub length-changed_at : (item : Item) (octets old : List ℕ) → is_inside item (length old) ≡ true → length octets ≡ octet_count item → length (changed_at item octets old) ≡ length old
unfolding changed_at
length-changed_at item octets old inside count = grind (arith, common_steps)

value-changed_at : (item : Item) (octets old : List ℕ) → eqb item.word 1 ≡ false → is_inside item (length old) ≡ true → length octets ≡ octet_count item → value_at item (changed_at item octets old) ≡ octets
unfolding value_at changed_at
value-changed_at item octets old wide inside count =
    let front : length (take (start_of item) old) ≡ start_of item = grind (arith, common_steps) in
    rw wide (seam (take (start_of item) old) octets (drop (start_of item + length octets) old) (start_of item) (octet_count item) front count)

written-good : (m : Memory) (right : Bool) (item : Item) (octets old : List ℕ) → write_code m right item octets ≡ 255 → area_octets m (key_of item) ≡ Some old → area_octets (written m right item octets) (key_of item) ≡ Some (changed_at item octets old)
unfolding written
written-good m right item octets old is found =
    rw (is, found) (lookup_set (is_at (key_cmp (key_of item))) m.areas old (changed_at item octets old) found)

guard-written : (m : Memory) (right : Bool) (item : Item) (octets : List ℕ) → write_code m right item octets ≡ 255 → (written m right item octets).guard ≡ m.guard
unfolding written
guard-written m right item octets is = rw is refl

code-written : (m : Memory) (right : Bool) (item : Item) (octets : List ℕ) (is : IsGood m item octets) → IsAllowed m right item octets → write_code m right item octets ≡ 255 → read_code (written m right item octets) right item ≡ 255
unfolding read_code
code-written m right item octets is may code =
    rw (guard-written m right item octets code, may.read, is.fits, written-good m right item octets is.old code is.found, length-changed_at item octets is.old is.inside is.count, is.inside) refl

pub read_back : WrittenIsRead
unfolding read_octets
read_back m right item octets wide code =
    let may = allowed m right item octets code in
    let is = good m item octets may.code in
    let again = code-written m right item octets is may code in
    (again, rw (again, written-good m right item octets is.old code is.found) (value-changed_at item octets is.old wide is.inside is.count))
