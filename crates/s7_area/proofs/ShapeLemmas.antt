-- A write leaves the names of the areas and their lengths.
use Rattle.std.proofs.Common.{◌≡◌, ℕ, Bool, true, false, cond, eqb, List, [], ◌∷◌, length, Option, Some, refl, sym, ap, ◌∙◌}
use Rattle.std.specs.Map.{lookup, set_value}
use Rattle.std.specs.BTreeMap.{is_at}
use Rattle.std.proofs.lemmas.Bool.{eqb-true}
use Rattle.s7_item.specs.declared.item.Item.{Item}
use Rattle.s7_area.specs.declared.key.AreaKey.{AreaKey}
use Rattle.s7_area.specs.Laws.{WritesKeepTheShape}
use Rattle.s7_area.specs.Memory.{AreaList, Memory, key_cmp, lengths_of, shape_of, write_code, written}
use Rattle.s7_area.specs.Places.{changed_at, key_of}
use Rattle.s7_area.proofs.WriteLemmas.{allowed, good, length-changed_at}

set_step : (b : Bool) (e : AreaKey × List ℕ) (es rest : AreaList) (old new : List ℕ) (later : Option (List ℕ)) → cond b (Some e.1) later ≡ Some old → length new ≡ length old → (later ≡ Some old → lengths_of rest ≡ lengths_of es) → lengths_of (cond b ((e.0, new) ∷ es) (e ∷ rest)) ≡ lengths_of (e ∷ es)
set_step true e es rest old new later found same more =
    let here : e.1 ≡ old = cc in ap (λ n. (e.0, n) ∷ lengths_of es) (same ∙ ap length (sym here))
set_step false e es rest old new later found same more = ap (λ l. (e.0, length e.1) ∷ l) (more found)

-- other octets, and as many
lengths-set_value : (test : AreaKey → Bool) (es : AreaList) (old new : List ℕ) → lookup test es ≡ Some old → length new ≡ length old → lengths_of (set_value test es new) ≡ lengths_of es
lengths-set_value test [] old new found same = refl
lengths-set_value test (e ∷ es) old new found same =
    set_step (test e.0) e es (set_value test es new) old new (lookup test es) found same (λ later. lengths-set_value test es old new later same)

shape-good : (m : Memory) (right : Bool) (item : Item) (octets : List ℕ) → write_code m right item octets ≡ 255 → shape_of (written m right item octets) ≡ shape_of m
unfolding written
shape-good m right item octets code =
    let is = good m item octets ((allowed m right item octets code).code) in
    rw (code, is.found) (lengths-set_value (is_at (key_cmp (key_of item))) m.areas is.old (changed_at item octets is.old) is.found (length-changed_at item octets is.old is.inside is.count))

shape_by : (m : Memory) (right : Bool) (item : Item) (octets : List ℕ) (b : Bool) → eqb (write_code m right item octets) 255 ≡ b → shape_of (written m right item octets) ≡ shape_of m
unfolding written
shape_by m right item octets true is = shape-good m right item octets (eqb-true _ _ is)
shape_by m right item octets false is = rw is refl

pub writes_keep : WritesKeepTheShape
writes_keep m right item octets = shape_by m right item octets _ refl
