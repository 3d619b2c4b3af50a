-- Lemmas on the octets of items.
use Rattle.std.proofs.Common.{◌≡◌, ℕ, suc, ◌+◌, ◌-◌, ◌*◌, ◌<◌, Option, Some, None, List, [], ◌∷◌, ◌++◌, take, drop, length, refl, sym, ap, ◌∙◌, append_assoc, get_or, arith}
use Rattle.std.proofs.Math.Path.{ap₂}
use Rattle.std.specs.Option.{option_map}
use Rattle.std.specs.List.{flat_map}
use Rattle.std.proofs.lemmas.List.{append-nil, drop-drop, drop_at, length-take-le, take_at, take_more}
use Rattle.std.proofs.lemmas.Grind.{flat_map-append}
use borrow.Rule.Slice.PartMut.{put_mid}
use Rattle.s7_item.specs.Item.{item_octets, item_in}
use Rattle.s7_item.specs.Params.{items_in}
use Rattle.s7_item.specs.declared.item.Item.{Item}

-- an item before the others comes after those so far
pub option_map-pushed : (so_far : List Item) (item : Item) (o : Option (List Item)) → option_map (λ items. so_far ++ items) (option_map (λ items. item ∷ items) o) ≡ option_map (λ items. (so_far ++ item ∷ []) ++ items) o
option_map-pushed so_far item None = refl
option_map-pushed so_far item (Some items) = ap Some (sym (append_assoc so_far (item ∷ []) items))

-- nothing so far
pub option_map-none_so_far : (o : Option (List Item)) → option_map (λ items. [] ++ items) o ≡ o
option_map-none_so_far None = refl
option_map-none_so_far (Some items) = refl

-- one more item
pub items_in-more : (so_far : List Item) (item : Item) (n : ℕ) (octets : List ℕ) → item_in (take 12 octets) ≡ Some item → option_map (λ items. so_far ++ items) (items_in (suc n) octets) ≡ option_map (λ items. (so_far ++ item ∷ []) ++ items) (items_in n (drop 12 octets))
items_in-more so_far item n octets is = rw is (option_map-pushed so_far item (items_in n (drop 12 octets)))

-- without a readable item at the front there are no items
pub items_in-none : (so_far : List Item) (n : ℕ) (octets : List ℕ) → item_in (take 12 octets) ≡ None → option_map (λ items. so_far ++ items) (items_in (suc n) octets) ≡ None
items_in-none so_far n octets is = rw is refl

-- the step of a loop over places: the k-th twelve octets spell an item
pub items_in-step : (so_far now : List Item) (item : Item) (k count : ℕ) (octets : List ℕ) (all : Option (List Item)) (r : Option Item) → k < count → option_map (λ items. so_far ++ items) (items_in (count - k) (drop (12 * k) octets)) ≡ all → r ≡ item_in (take (12 * k + 12 - 12 * k) (drop (12 * k) octets)) → r ≡ Some item → now ≡ so_far ++ item ∷ [] → option_map (λ items. now ++ items) (items_in (count - (k + 1)) (drop (12 * (k + 1)) octets)) ≡ all
items_in-step so_far now item k count octets all r less inv read is new =
    let left : count - k ≡ suc (count - (k + 1)) = omega arith in
    let front : 12 * k + 12 - 12 * k ≡ 12 = omega arith in
    let place : 12 * k + 12 ≡ 12 * (k + 1) = omega arith in
    let rest : drop 12 (drop (12 * k) octets) ≡ drop (12 * (k + 1)) octets = drop-drop 12 (12 * k) octets ∙ ap (λ n. drop n octets) place in
    let first : item_in (take 12 (drop (12 * k) octets)) ≡ Some item = ap (λ n. item_in (take n (drop (12 * k) octets))) (sym front) ∙ (sym read ∙ is) in
    let same : option_map (λ items. so_far ++ items) (items_in (suc (count - (k + 1))) (drop (12 * k) octets)) ≡ all =
    ap (λ n. option_map (λ items. so_far ++ items) (items_in n (drop (12 * k) octets))) (sym left) ∙ inv in
    let more : option_map (λ items. (so_far ++ item ∷ []) ++ items) (items_in (count - (k + 1)) (drop 12 (drop (12 * k) octets))) ≡ all =
    sym (items_in-more so_far item (count - (k + 1)) (drop (12 * k) octets) first) ∙ same in
    rw new (rw (← rest) more)

-- the end of that loop: the k-th twelve octets spell no item
pub items_in-ends : (so_far : List Item) (k count : ℕ) (octets : List ℕ) (all : Option (List Item)) (r : Option Item) → k < count → option_map (λ items. so_far ++ items) (items_in (count - k) (drop (12 * k) octets)) ≡ all → r ≡ item_in (take (12 * k + 12 - 12 * k) (drop (12 * k) octets)) → r ≡ None → all ≡ None
items_in-ends so_far k count octets all r less inv read is =
    let left : count - k ≡ suc (count - (k + 1)) = omega arith in
    let front : 12 * k + 12 - 12 * k ≡ 12 = omega arith in
    let first : item_in (take 12 (drop (12 * k) octets)) ≡ None = ap (λ n. item_in (take n (drop (12 * k) octets))) (sym front) ∙ (sym read ∙ is) in
    sym inv ∙ (ap (λ n. option_map (λ items. so_far ++ items) (items_in n (drop (12 * k) octets))) left ∙ items_in-none so_far (count - (k + 1)) (drop (12 * k) octets) first)

-- an item has twelve octets
pub length-spelled : (items : List Item) → length (flat_map item_octets items) ≡ 12 * length items
length-spelled [] = refl
length-spelled (item ∷ items) = grind (arith, length-spelled items)

-- the step of a loop that writes the octets of the k-th item after those of the items before
pub spelled_more : (items : List Item) (k : ℕ) (d : Item) (into before piece : List ℕ) → k < length items → into ≡ flat_map item_octets (take k items) ++ drop (12 * k) before → piece ≡ item_octets (get_or items k d) → put_mid (12 * k) (12 * k + 12 - 12 * k) into piece ≡ flat_map item_octets (take (k + 1) items) ++ drop (12 * (k + 1)) before
spelled_more items k d into before piece less inv is =
    let front : List ℕ = flat_map item_octets (take k items) in
    let long : length front ≡ 12 * k = length-spelled (take k items) ∙ ap (λ n. 12 * n) (length-take-le k items (omega arith)) in
    let width : 12 * k + 12 - 12 * k ≡ 12 = omega arith in
    let place : 12 * k + 12 ≡ 12 * (k + 1) = omega arith in
    let taken : take (12 * k) into ≡ front = ap (take (12 * k)) inv ∙ take_at front (drop (12 * k) before) _ long in
    let left : drop (12 * k) into ≡ drop (12 * k) before = ap (drop (12 * k)) inv ∙ drop_at front (drop (12 * k) before) _ long in
    let rest : drop (12 * k + 12 - 12 * k) (drop (12 * k) into) ≡ drop (12 * (k + 1)) before =
    ap (λ n. drop n (drop (12 * k) into)) width ∙ (ap (drop 12) left ∙ (drop-drop 12 (12 * k) before ∙ ap (λ n. drop n before) place)) in
    let more : flat_map item_octets (take (k + 1) items) ≡ front ++ piece =
    ap (flat_map item_octets) (take_more items k d less) ∙ (flat_map-append item_octets (take k items) (get_or items k d ∷ []) ∙ ap (λ xs. front ++ xs) (append-nil (item_octets (get_or items k d)) ∙ sym is)) in
    ap₂ (λ xs ys. xs ++ (piece ++ ys)) taken rest ∙ (sym (append_assoc front piece (drop (12 * (k + 1)) before)) ∙ ap (λ xs. xs ++ drop (12 * (k + 1)) before) (sym more))
