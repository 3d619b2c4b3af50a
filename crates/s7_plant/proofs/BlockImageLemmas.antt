-- Areas and blocks have few octets, and there are few of them.
use Rattle.std.proofs.Common.{◌≡◌, ℕ, ◌≤◌, Bool, true, false, cond, eqb, List, [], ◌∷◌, length, filter, Option, Some}
use Rattle.std.proofs.Common.{subst, arith}
use Rattle.std.specs.List.{AllByRecursion}
use Rattle.std.specs.Map.{lookup}
use Rattle.std.proofs.lemmas.List.{length-map}
use Rattle.std.proofs.lemmas.List.Sums.{length-filter, count_by-le-length}
use Rattle.s7_area.specs.declared.key.AreaKey.{AreaKey}
use Rattle.s7_area.specs.Memory.{Memory, area_octets}
use Rattle.s7_area.specs.Registers.{IsArea, IsMemory}
use Rattle.s7_block.specs.declared.block.BlockName.{BlockName}
use Rattle.s7_block.specs.Store.{Store, IsStore, numbers_of}

found_step : {X : Type 0} (Q : X → Type 0) (b : Bool) (x v : X) (later : Option X) → cond b (Some x) later ≡ Some v → Q x → (later ≡ Some v → Q v) → Q v
found_step Q true x v later is here more = let same : x ≡ v = cc in subst Q same here
found_step Q false x v later is here more = more is

-- what holds of the values of all entries holds of one that is found
found_of_all : {K X : Type 0} (P : K × X → Type 0) (Q : X → Type 0) (test : K → Bool) (es : List (K × X)) (v : X) → ((e : K × X) → P e → Q e.1) → AllByRecursion P es → lookup test es ≡ Some v → Q v
found_of_all P Q test [] v each all is = cc
found_of_all P Q test (e ∷ es) v each all is =
    found_step Q (test e.0) e.1 v (lookup test es) is (each e all.0) (found_of_all P Q test es v each all.1)

pub area_few : (m : Memory) (key : AreaKey) (octets : List ℕ) → IsMemory m → area_octets m key ≡ Some octets → length octets ≤ 2097152
area_few m key octets memory is = found_of_all IsArea (λ v. length v ≤ 2097152) _ m.areas octets (λ e area. area.most) memory.areas is

-- there are at most 1,024 numbers
pub numbers_few : (s : Store) (kind : ℕ) → IsStore s → length (numbers_of s.images kind) ≤ 1024
numbers_few s kind store =
    let is : BlockName × List ℕ → Bool = λ e. eqb e.0.kind kind in
    omega (arith, length-map (filter is s.images) (λ (e : BlockName × List ℕ). e.0.number), length-filter is s.images, count_by-le-length is s.images, store.within, store.most)
