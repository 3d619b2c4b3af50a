-- No write changes the code of another one: a code depends on the lengths of areas, which stay.
use Rattle.std.proofs.Common.{◌≡◌, ℕ, Bool, true, false, cond, eqb, not, List, [], ◌∷◌, length, Option, None, Some, unwrap_or, refl, sym, ap, ◌∙◌, arith, IsTrue, ◌&&◌}
use Rattle.std.specs.Option.{option_map}
use Rattle.std.specs.Map.{lookup, set_value}
use Rattle.std.specs.BTreeMap.{is_at}
use Rattle.std.proofs.lemmas.Bool.{eqb-true}
use Rattle.std.proofs.lemmas.Grind.{common_steps}
use Rattle.s7_item.specs.Item.{octet_count}
use Rattle.s7_item.specs.DataItem.{octets_at}
use Rattle.s7_item.specs.declared.item.Item.{Item}
use Rattle.s7_item.specs.declared.places.DataPlace.{DataPlace}
use Rattle.s7_area.specs.declared.key.AreaKey.{AreaKey}
use Rattle.s7_area.specs.Guards.{is_write_barred}
use Rattle.s7_area.specs.Places.{is_misfit, is_inside, key_of, changed_at}
use Rattle.s7_area.specs.Memory.{Memory, key_cmp, area_octets, with_octets, code_in, write_code, written}
use Rattle.s7_plant.specs.Answers.{write_codes}

option_length-cond : (b : Bool) (o : Option (List ℕ)) (x y : List ℕ) → length x ≡ length y → option_map length (cond b (Some x) o) ≡ option_map length (cond b (Some y) o)
option_length-cond true o x y same = ap Some same
option_length-cond false o x y same = refl

option_length-cond_rest : (b : Bool) (x : List ℕ) (o o' : Option (List ℕ)) → option_map length o ≡ option_map length o' → option_map length (cond b (Some x) o) ≡ option_map length (cond b (Some x) o')
option_length-cond_rest true x o o' same = refl
option_length-cond_rest false x o o' same = same

set_step : {K : Type 0} (other : K → Bool) (e : K × List ℕ) (es rest : List (K × List ℕ)) (old new : List ℕ) (b : Bool) (later : Option (List ℕ)) → cond b (Some e.1) later ≡ Some old → length new ≡ length old → (later ≡ Some old → option_map length (lookup other rest) ≡ option_map length (lookup other es)) → option_map length (lookup other (cond b ((e.0, new) ∷ es) (e ∷ rest))) ≡ option_map length (lookup other (e ∷ es))
set_step other e es rest old new true later is same more = option_length-cond (other e.0) (lookup other es) new e.1 (let first : old ≡ e.1 = cc in same ∙ ap length first)
set_step other e es rest old new false later is same more = option_length-cond_rest (other e.0) e.1 _ _ (more is)

-- the value at one key is replaced by one of the same length
length-set_value : {K : Type 0} (test other : K → Bool) (es : List (K × List ℕ)) (old new : List ℕ) → lookup test es ≡ Some old → length new ≡ length old → option_map length (lookup other (set_value test es new)) ≡ option_map length (lookup other es)
length-set_value test other [] old new found same = refl
length-set_value test other (e ∷ es) old new found same =
    set_step other e es (set_value test es new) old new (test e.0) (lookup test es) found same (λ is. length-set_value test other es old new is same)

length-changed_at : (item : Item) (octets old : List ℕ) → IsTrue (is_inside item (length old)) → length octets ≡ octet_count item → length (changed_at item octets old) ≡ length old
unfolding changed_at
length-changed_at item octets old inside count = grind (arith, common_steps)

-- the code of a write, from its parts
abbrev code_by : Bool → Option (List ℕ) → Item → List ℕ → ℕ
code_by misfit found item octets =
    let code = cond misfit 6 (code_in found item) in
    cond (eqb code 255 && not (eqb (length octets) (octet_count item))) 7 code

same_by_parts : (m : Memory) (item : Item) (octets : List ℕ) (key : AreaKey) (old : List ℕ) (fits counts : Bool) → area_octets m (key_of item) ≡ Some old → fits ≡ is_inside item (length old) → counts ≡ eqb (length octets) (octet_count item) → option_map length (area_octets (cond (eqb (cond (eqb (cond fits 255 5) 255 && not counts) 7 (cond fits 255 5)) 255) (with_octets m (key_of item) (changed_at item octets old)) m) key) ≡ option_map length (area_octets m key)
same_by_parts m item octets key old false counts found a b = refl
same_by_parts m item octets key old true false found a b = refl
same_by_parts m item octets key old true true found a b =
    length-set_value (is_at (key_cmp (key_of item))) (is_at (key_cmp key)) m.areas old _ found (length-changed_at item octets old (sym a) (eqb-true (length octets) (octet_count item) (sym b)))

by_parts : (m : Memory) (item : Item) (octets : List ℕ) (key : AreaKey) (misfit : Bool) (found : Option (List ℕ)) → area_octets m (key_of item) ≡ found → option_map length (area_octets (cond (eqb (code_by misfit found item octets) 255) (with_octets m (key_of item) (changed_at item octets (unwrap_or found []))) m) key) ≡ option_map length (area_octets m key)
by_parts m item octets key true found is = refl
by_parts m item octets key false None is = refl
by_parts m item octets key false (Some old) is = same_by_parts m item octets key old _ _ is refl refl

-- without a right a write that is barred changes nothing
barred : (b : Bool) (m : Memory) (item : Item) (octets : List ℕ) (key : AreaKey)
    → option_map length (area_octets (cond (eqb (cond b 3 (code_by (is_misfit item) (area_octets m (key_of item)) item octets)) 255) (with_octets m (key_of item) (changed_at item octets (unwrap_or (area_octets m (key_of item)) []))) m) key) ≡ option_map length (area_octets m key)
barred true m item octets key = refl
barred false m item octets key = by_parts m item octets key (is_misfit item) (area_octets m (key_of item)) refl

-- the areas after a write have the lengths that they had
length-written : (m : Memory) (right : Bool) (item : Item) (octets : List ℕ) (key : AreaKey) → option_map length (area_octets (written m right item octets) key) ≡ option_map length (area_octets m key)
unfolding written write_code
length-written m right item octets key = barred (is_write_barred m.guard right) m item octets key

code_in-length : (a b : Option (List ℕ)) (item : Item) → option_map length a ≡ option_map length b → code_in a item ≡ code_in b item
code_in-length None None item same = refl
code_in-length None (Some b) item same = cc
code_in-length (Some a) None item same = cc
code_in-length (Some a) (Some b) item same = let is : length a ≡ length b = cc in ap (λ n. cond (is_inside item n) 255 5) is

-- two memories have the same guard, and the same areas, of the same lengths
record SameLengths (m n : Memory) : Type 0 where
  guard : m.guard ≡ n.guard
  areas : (key : AreaKey) → option_map length (area_octets m key) ≡ option_map length (area_octets n key)

code-same : (m n : Memory) (right : Bool) (item : Item) (octets : List ℕ) → SameLengths m n → write_code m right item octets ≡ write_code n right item octets
unfolding write_code
code-same m n right item octets same =
    let places = ap (λ c. let code = cond (is_misfit item) 6 c in cond (eqb code 255 && not (eqb (length octets) (octet_count item))) 7 code) (code_in-length _ _ item (same.areas (key_of item))) in
    ap (λ g. cond (is_write_barred g right) 3 (code_by (is_misfit item) (area_octets m (key_of item)) item octets)) same.guard
    ∙ ap (cond (is_write_barred n.guard right) 3) places

kept_guard : (b : Bool) (m n : Memory) → n.guard ≡ m.guard → (cond b n m).guard ≡ m.guard
kept_guard true m n same = same
kept_guard false m n same = refl

guard-written : (m : Memory) (right : Bool) (item : Item) (octets : List ℕ) → (written m right item octets).guard ≡ m.guard
unfolding written
guard-written m right item octets = kept_guard _ m _ refl

same-written : (m n : Memory) (right : Bool) (item : Item) (octets : List ℕ) → SameLengths m n → SameLengths (written m right item octets) (written n right item octets)
same-written m n right item octets same = record {
  guard = guard-written m right item octets ∙ same.guard ∙ sym (guard-written n right item octets);
  areas = λ key. length-written m right item octets key ∙ same.areas key ∙ sym (length-written n right item octets key);
}

codes-same : (m n : Memory) (right : Bool) (items : List Item) (places : List DataPlace) (all : List ℕ) → SameLengths m n → write_codes m right items places all ≡ write_codes n right items places all
codes-same m n right [] places all same = refl
codes-same m n right (i ∷ is) [] all same = refl
codes-same m n right (i ∷ is) (p ∷ ps) all same =
    let head = code-same m n right i (octets_at all p) same in
    let tail = codes-same (written m right i (octets_at all p)) (written n right i (octets_at all p)) right is ps all (same-written m n right i (octets_at all p) same) in
    rw (head, tail) refl

-- no write changes the codes of those that follow
pub codes_in_turn : (m : Memory) (right : Bool) (item : Item) (octets : List ℕ) (items : List Item) (places : List DataPlace) (all : List ℕ) → write_codes (written m right item octets) right items places all ≡ write_codes m right items places all
codes_in_turn m right item octets items places all = codes-same _ m right items places all (record {
  guard = guard-written m right item octets;
  areas = length-written m right item octets;
})
