-- What is read of items is what was written.
use Rattle.std.proofs.Common.{◌≡◌, ℕ, zero, suc, ◌+◌, ◌*◌, ◌/◌, ◌%◌, ◌<◌, ◌≤◌, Bool, true, false, ◌||◌, ◌&&◌, cond, eqb, ltb, Option, Some, None, Result, Ok, Err, List, [], ◌∷◌, ◌++◌, take, drop, get_or, length, refl, sym, ap, ◌∙◌, subst, lit<, ⊎_elim, arith}
use Rattle.std.proofs.Math.Path.{ap₂}
use Rattle.std.specs.Option.{option_map, option_and_then, ok_or}
use Rattle.std.specs.List.{flat_map}
use Rattle.std.proofs.lemmas.Bool.{cases_lt, eqb-true, ltb-false}
use Rattle.std.proofs.lemmas.Bool.Decides.{nat_tests}
use Rattle.std.proofs.lemmas.List.{drop_all, drop_more, get_or-take, get_or-drop, get_or_past, length-drop, length-take, length-take-le, take-append-drop}
use Rattle.s7_item.proofs.ItemLemmas.{length-spelled}
use Rattle.s7_item.specs.Item.{item_octets, item_in}
use Rattle.s7_outer.specs.Numbers.{AreOctets}
use Rattle.s7_item.specs.Params.{items_params, items_in, count_of, items_after, items_of, SpellsItems, ItemsReadBack, ItemsAreExact}
use Rattle.s7_item.specs.declared.item.Item.{Item}
use Rattle.s7_item.specs.declared.params.ItemFault.{ItemFault}
use Rattle.s7_item.specs.declared.params.ItemFault.TheVariants.{Short, Count, Spec}

-- a number and its two octets
two_back : (n : ℕ) → 256 * (n / 256) + n % 256 ≡ n
two_back n = omega arith

-- a number and its three octets
three_back : (n : ℕ) → 256 * (256 * (n / 65536) + n / 256 % 256) + n % 256 ≡ n
three_back n = omega arith

two_high : (high low : ℕ) → low < 256 → (256 * high + low) / 256 ≡ high
two_high high low fits = omega arith

two_low : (high low : ℕ) → low < 256 → (256 * high + low) % 256 ≡ low
two_low high low fits = omega arith

three_high : (high middle low : ℕ) → middle < 256 → low < 256 → (256 * (256 * high + middle) + low) / 65536 ≡ high
three_high high middle low m l = omega arith

three_middle : (high middle low : ℕ) → middle < 256 → low < 256 → (256 * (256 * high + middle) + low) / 256 % 256 ≡ middle
three_middle high middle low m l = omega arith

-- an item's octets spell the item
item_in-item_octets : (item : Item) → item_in (item_octets item) ≡ Some item
item_in-item_octets item = rw (two_back item.count, two_back item.db, three_back item.address) refl

-- the octets of items spell these items
items_in-spelled : (items : List Item) → items_in (length items) (flat_map item_octets items) ≡ Some items
items_in-spelled [] = refl
items_in-spelled (item ∷ items) =
    let after : Item → Option (List Item) = λ i. option_map (λ is. i ∷ is) (items_in (length items) (flat_map item_octets items)) in
    ap (λ o. option_and_then after o) (item_in-item_octets item) ∙ ap (option_map (λ is. item ∷ is)) (items_in-spelled items)

-- the number of items that spelled parameters state agrees with their length
count_of-spelled : (function : ℕ) (items : List Item) → 0 < length items → length items ≤ 20 → count_of (items_params function items) ≡ Ok (length items)
count_of-spelled function items some most =
    let size : length (items_params function items) ≡ 2 + 12 * length items = omega (arith, length-spelled items) in
    let short : ltb (length (items_params function items)) 2 ≡ false = grind (arith, nat_tests) in
    let none : eqb (length items) 0 ≡ false = grind (arith, nat_tests) in
    let many : ltb 20 (length items) ≡ false = grind (arith, nat_tests) in
    let whole : eqb (length (items_params function items)) (2 + 12 * length items) ≡ true = grind (arith, nat_tests) in
    rw (short, none, many, whole) refl

pub reads_back : ItemsReadBack
unfolding items_of
reads_back function items some most =
    ap (items_after (items_params function items)) (count_of-spelled function items some most) ∙ ap (λ o. ok_or o Spec) (items_in-spelled items)

-- what right parameters state, from the tests
pub record Counts (params : List ℕ) (count : ℕ) : Type 0 where
  pub states : get_or params 1 0 ≡ count
  pub some : 0 < count
  pub most : count ≤ 20
  pub whole : length params ≡ 2 + 12 * count

count_parts : (params : List ℕ) (count : ℕ) (short none many whole : Bool) → short ≡ ltb (length params) 2 → none ≡ eqb (get_or params 1 0) 0 → many ≡ ltb 20 (get_or params 1 0) → whole ≡ eqb (length params) (2 + 12 * get_or params 1 0) → cond {A = Result ℕ ItemFault} short (Err Short) (cond (none || many) (Err Count) (cond whole (Ok (get_or params 1 0)) (Err Short))) ≡ Ok count → Counts params count
count_parts params count true none many whole a b c d h = absurd (cc)
count_parts params count false true many whole a b c d h = absurd (cc)
count_parts params count false false true whole a b c d h = absurd (cc)
count_parts params count false false false false a b c d h = absurd (cc)
count_parts params count false false false true a b c d h =
    let is : get_or params 1 0 ≡ count = cc in
    let full : length params ≡ 2 + 12 * get_or params 1 0 = eqb-true _ _ (sym d) in
    record {
      states = is;
      some = grind (arith, nat_tests, b, is);
      most = omega (arith, is, ltb-false 20 (get_or params 1 0) (sym c));
      whole = omega (arith, is, full);
    }

-- the list of the n elements from place `at` on
abbrev listed : ℕ → ℕ → List ℕ → List ℕ
listed zero at xs = []
listed (suc n) at xs = get_or xs at 0 ∷ listed n (at + 1) xs

-- a list is the list of its elements
listed_all : (n at : ℕ) (xs : List ℕ) → length xs ≡ at + n → drop at xs ≡ listed n at xs
listed_all zero at xs long = drop_all at xs (omega arith)
listed_all (suc n) at xs long =
    drop_more xs at 0 (omega arith) ∙ ap (λ rest. get_or xs at 0 ∷ rest) (listed_all n (at + 1) xs (omega arith))

-- what an item's first three octets are, from the tests
spec_parts : (first second third : Bool) (made item : Item) → cond (first && second && third) (Some made) None ≡ Some item → (first ≡ true) × (second ≡ true) × (third ≡ true) × (made ≡ item)
spec_parts true true true made item h = (refl, refl, refl, cc)
spec_parts true true false made item h = absurd (cc)
spec_parts true false third made item h = absurd (cc)
spec_parts false second third made item h = absurd (cc)

-- twelve octets that spell an item are its octets
item_octets-item_in : (octets : List ℕ) (item : Item) → length octets ≡ 12 → AreOctets octets → item_in octets ≡ Some item → item_octets item ≡ octets
item_octets-item_in octets item long fit h =
    let parts = spec_parts (eqb (get_or octets 0 0) 18) (eqb (get_or octets 1 0) 10) (eqb (get_or octets 2 0) 16) _ item h in
    let all : octets ≡ listed 12 0 octets = listed_all 12 0 octets (omega arith) in
    let begins : 18 ∷ 10 ∷ 16 ∷ listed 9 3 octets ≡ listed 12 0 octets =
    ap (λ a. a ∷ 10 ∷ 16 ∷ listed 9 3 octets) (sym (eqb-true _ _ parts.0))
    ∙ (ap (λ a. get_or octets 0 0 ∷ a ∷ 16 ∷ listed 9 3 octets) (sym (eqb-true _ _ parts.1))
    ∙ ap (λ a. get_or octets 0 0 ∷ get_or octets 1 0 ∷ a ∷ listed 9 3 octets) (sym (eqb-true _ _ parts.2))) in
    subst (λ i. item_octets i ≡ octets) parts.3
    (rw (two_high _ _ (fit 5), two_low _ _ (fit 5), two_high _ _ (fit 7), two_low _ _ (fit 7), three_high _ _ _ (fit 10) (fit 11), three_middle _ _ _ (fit 10) (fit 11), two_low _ _ (fit 11))
    (begins ∙ sym all))

-- a front and the rest of octets are octets
octets-take : (n : ℕ) (octets : List ℕ) → AreOctets octets → AreOctets (take n octets)
octets-take n octets fit k =
    ⊎_elim (λ below. subst (λ v. v < 256) (sym (get_or-take n octets k 0 below)) (fit k))
    (λ past. subst (λ v. v < 256) (sym (get_or_past (take n octets) k 0 (omega (arith, length-take n octets)))) (lit< tt)) (cases_lt k n)

octets-drop : (n : ℕ) (octets : List ℕ) → AreOctets octets → AreOctets (drop n octets)
octets-drop n octets fit k = subst (λ v. v < 256) (sym (get_or-drop n octets k 0)) (fit (n + k))

-- the octets are those of the items, and there are n items
pub record AreThese (n : ℕ) (octets : List ℕ) (items : List Item) : Type 0 where
  pub spelled : flat_map item_octets items ≡ octets
  pub many : length items ≡ n

-- an item and the items after it
these_more : (first rest : List ℕ) (n : ℕ) (o : Option Item) (r : Option (List Item)) (items : List Item) → ((item : Item) → o ≡ Some item → item_octets item ≡ first) → ((others : List Item) → r ≡ Some others → AreThese n rest others) → option_and_then (λ item. option_map (λ others. item ∷ others) r) o ≡ Some items → AreThese (suc n) (first ++ rest) items
these_more first rest n None r items one more h = absurd (cc)
these_more first rest n (Some item) None items one more h = absurd (cc)
these_more first rest n (Some item) (Some others) items one more h =
    let is : item ∷ others ≡ items = cc in
    let these = more others refl in
    subst (λ all. AreThese (suc n) (first ++ rest) all) is (record {
      spelled = ap₂ (λ a b. a ++ b) (one item refl) these.spelled;
      many = omega (arith, these.many);
    })

-- octets that are read as items are the octets of these items
items_in-exact : (n : ℕ) (octets : List ℕ) (items : List Item) → length octets ≡ 12 * n → AreOctets octets → items_in n octets ≡ Some items → AreThese n octets items
items_in-exact zero octets items long fit h =
    let is : [] ≡ items = cc in
    let none : octets ≡ [] = drop_all 0 octets (omega arith) in
    subst (λ all. AreThese zero octets all) is (record { spelled = sym none; many = refl })
items_in-exact (suc n) octets items long fit h =
    let first : length (take 12 octets) ≡ 12 = length-take-le 12 octets (omega arith) in
    let after : length (drop 12 octets) ≡ 12 * n = length-drop 12 octets ∙ omega arith in
    subst (λ all. AreThese (suc n) all items) (take-append-drop 12 octets)
    (these_more (take 12 octets) (drop 12 octets) n (item_in (take 12 octets)) (items_in n (drop 12 octets)) items
    (λ item e. item_octets-item_in (take 12 octets) item first (octets-take 12 octets fit) e)
    (λ others e. items_in-exact n (drop 12 octets) others after (octets-drop 12 octets fit) e) h)

-- read parameters state their number
counted : (params : List ℕ) (items : List Item) (counts : Result ℕ ItemFault) → items_after params counts ≡ Ok items → (count : ℕ) × (counts ≡ Ok count) × (items_in count (drop 2 params) ≡ Some items)
counted params items (Ok count) h = (count, refl, ok_part (items_in count (drop 2 params)) h)
  where
    ok_part : (o : Option (List Item)) → ok_or o Spec ≡ Ok items → o ≡ Some items
    ok_part None e = absurd (cc)
    ok_part (Some found) e = cc
counted params items (Err fault) h = absurd (cc)

-- what is read of octets is spelled by them
spells : (params : List ℕ) (items : List Item) → AreOctets params → items_of params ≡ Ok items → SpellsItems params items
unfolding items_of
spells params items fit h =
    let found = counted params items (count_of params) h in
    let counts = count_parts params found.0 (ltb (length params) 2) (eqb (get_or params 1 0) 0) (ltb 20 (get_or params 1 0)) (eqb (length params) (2 + 12 * get_or params 1 0)) refl refl refl refl found.1 in
    let after : length (drop 2 params) ≡ 12 * found.0 = length-drop 2 params ∙ omega (arith, counts.whole) in
    let these = items_in-exact found.0 (drop 2 params) items after (octets-drop 2 params fit) found.2 in
    let front : params ≡ get_or params 0 0 ∷ get_or params 1 0 ∷ drop 2 params =
    drop_more params 0 0 (omega (arith, counts.whole)) ∙ ap (λ rest. get_or params 0 0 ∷ rest) (drop_more params 1 0 (omega (arith, counts.whole))) in
    record {
      function = get_or params 0 0;
      some = omega (arith, these.many, counts.some);
      most = omega (arith, these.many, counts.most);
      spelled = front ∙ ap₂ (λ n octets. get_or params 0 0 ∷ n ∷ octets) (counts.states ∙ sym these.many) (sym these.spelled);
    }

pub are_exact : ItemsAreExact
are_exact params items fit =
    (spells params items fit, λ (s : SpellsItems params items). ap items_of s.spelled ∙ reads_back s.function items s.some s.most)
