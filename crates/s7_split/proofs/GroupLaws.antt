-- The laws of groups.
use Rattle.std.proofs.Common.{◌≡◌, ℕ, zero, suc, ◌+◌, ◌-◌, ◌<◌, ◌≤◌, Bool, true, false, cond, eqb, leb, ltb, Option, Some, None, Ok, Err, List, [], ◌∷◌, ◌++◌, take, drop, length, map, refl, sym, ap, ◌∙◌, subst, append_assoc, arith, inl, inr}
use Rattle.std.specs.List.{flat_map, between, AllByRecursion}
use Rattle.std.proofs.lemmas.Bool.{cond_both, and_parts, and_from, leb-true, le-leb, eqb-true, both_ways, cases_order, ltb-false}
use Rattle.std.proofs.lemmas.List.{length-append, length-take, take_at, drop_at, take-append-le}
use Rattle.s7_item.specs.Item.{octet_count}
use Rattle.s7_item.specs.DataItem.{padding_of}
use Rattle.s7_item.specs.Sizes.{data_size, request_size}
use Rattle.s7_item.specs.declared.item.Item.{Item}
use Rattle.s7_split.specs.Fits.{fits, answer_length}
use Rattle.s7_split.specs.Groups.{first_over, over_of, groups_from, groups_of, ends_of, cut_at, IsGroup, AreFull, AreGroups, GroupsAreExact, GroupsAreShort, EndsCutGroups}
use Rattle.s7_split.specs.declared.packing.PackFault.TheVariants.{TooMany}

-- the items of groups, one after another
abbrev flat : List (List Item) → List Item
flat groups = flat_map (λ (group : List Item). group) groups

-- what fits alone
abbrev FitsAlone : ℕ → Bool → Item → Type 0
FitsAlone pdu write item = fits pdu write (item ∷ []) ≡ true

-- ---- what fits, its front fits too
padding_le : (n : ℕ) (b c : Bool) → (c ≡ true → b ≡ true) → padding_of n b ≤ padding_of n c
padding_le n true c h = omega arith
padding_le n false true h = absurd (let e : false ≡ true = h refl in cc)
padding_le n false false h = omega arith

last_taken : (n : ℕ) (items : List Item) → eqb (length (map octet_count items)) 0 ≡ true → eqb (length (map octet_count (take n items))) 0 ≡ true
last_taken zero items h = refl
last_taken (suc n) [] h = refl
last_taken (suc n) (item ∷ items) h =
    absurd (omega (arith, eqb-true (suc (length (map octet_count items))) 0 h))

data_taken : (n : ℕ) (items : List Item) → data_size (map octet_count (take n items)) ≤ data_size (map octet_count items)
data_taken zero items = omega arith
data_taken (suc n) [] = omega arith
data_taken (suc n) (item ∷ items) =
    omega (arith, data_taken n items, padding_le (octet_count item) (eqb (length (map octet_count (take n items))) 0) (eqb (length (map octet_count items)) 0) (last_taken n items))

fits_taken : (pdu : ℕ) (write : Bool) (n : ℕ) (items : List Item) → fits pdu write items ≡ true → fits pdu write (take n items) ≡ true
unfolding fits
fits_taken pdu true n items h =
    let both = and_parts (leb (request_size items true) pdu) (leb (answer_length items true) pdu) h in
    let request = leb-true (request_size items true) pdu both.0 in
    let answer = leb-true (answer_length items true) pdu both.1 in
    let fewer = length-take n items in
    let less = data_taken n items in
    and_from (leb (request_size (take n items) true) pdu) (leb (answer_length (take n items) true) pdu)
    (le-leb (request_size (take n items) true) pdu (omega (arith, request, fewer, less)))
    (le-leb (answer_length (take n items) true) pdu (omega (arith, answer, fewer)))
fits_taken pdu false n items h =
    let both = and_parts (leb (request_size items false) pdu) (leb (answer_length items false) pdu) h in
    let request = leb-true (request_size items false) pdu both.0 in
    let answer = leb-true (answer_length items false) pdu both.1 in
    let fewer = length-take n items in
    let less = data_taken n items in
    and_from (leb (request_size (take n items) false) pdu) (leb (answer_length (take n items) false) pdu)
    (le-leb (request_size (take n items) false) pdu (omega (arith, request, fewer)))
    (le-leb (answer_length (take n items) false) pdu (omega (arith, answer, less)))

-- ---- items have groups in one way only
longer_fits : (pdu : ℕ) (write : Bool) (g h next rest others : List Item) → 0 < length next → length g < length h → g ++ (next ++ rest) ≡ h ++ others → fits pdu write h ≡ true → fits pdu write (g ++ take 1 next) ≡ true
longer_fits pdu write g h [] rest others some less same fit = absurd (omega (arith, some))
longer_fits pdu write g h (x ∷ next) rest others some less same fit =
    let n : ℕ = length g + 1 in
    let left : take n (g ++ (x ∷ next ++ rest)) ≡ g ++ x ∷ [] =
    ap (take n) (sym (append_assoc g (x ∷ []) (next ++ rest))) ∙ take_at (g ++ x ∷ []) (next ++ rest) n (length-append g (x ∷ [])) in
    let right : take n (h ++ others) ≡ take n h = take-append-le n h others (omega (arith, less)) in
    let front : g ++ x ∷ [] ≡ take n h = sym left ∙ (ap (take n) same ∙ right) in
    ap (fits pdu write) front ∙ fits_taken pdu write n h fit

not_shorter : (pdu : ℕ) (write : Bool) (g h : List Item) (gs hs : List (List Item)) → AllByRecursion (IsGroup pdu write) gs → AreFull pdu write (g ∷ gs) → fits pdu write h ≡ true → g ++ flat gs ≡ h ++ flat hs → length g < length h → ⊥
not_shorter pdu write g h [] hs each full fit same less =
    let long : length (g ++ []) ≡ length (h ++ flat hs) = ap length same in
    omega (arith, long, length-append g [], length-append h (flat hs))
not_shorter pdu write g h (next ∷ gs) hs each full fit same less =
    both_ways (fits pdu write (g ++ take 1 next)) full.0 (longer_fits pdu write g h next (flat gs) (flat hs) each.0.some less same fit)

full_rest : (pdu : ℕ) (write : Bool) (g : List Item) (gs : List (List Item)) → AreFull pdu write (g ∷ gs) → AreFull pdu write gs
full_rest pdu write g [] full = tt
full_rest pdu write g (next ∷ gs) full = full.1

same_number : (a b : ℕ) → (a < b → ⊥) → (b < a → ⊥) → a ≡ b
same_number a b less more =
    elim (cases_order a b) [ inl e ↦ e | inr o ↦ elim o [ inl l ↦ absurd (less l) | inr m ↦ absurd (more m) ] ]

same_groups : (pdu : ℕ) (write : Bool) (gs hs : List (List Item)) → AllByRecursion (IsGroup pdu write) gs → AllByRecursion (IsGroup pdu write) hs → AreFull pdu write gs → AreFull pdu write hs → flat gs ≡ flat hs → gs ≡ hs
same_groups pdu write [] [] a b c d same = refl
same_groups pdu write [] (h ∷ hs) a b c d same =
    let long : length {A = Item} [] ≡ length (h ++ flat hs) = ap length same in
    absurd (omega (arith, long, length-append h (flat hs), b.0.some))
same_groups pdu write (g ∷ gs) [] a b c d same =
    let long : length (g ++ flat gs) ≡ length {A = Item} [] = ap length same in
    absurd (omega (arith, long, length-append g (flat gs), a.0.some))
same_groups pdu write (g ∷ gs) (h ∷ hs) a b c d same =
    let n : ℕ = length g in
    let long : n ≡ length h =
    same_number n (length h) (not_shorter pdu write g h gs hs a.1 c b.0.fits same) (not_shorter pdu write h g hs gs b.1 d a.0.fits (sym same)) in
    let first : g ≡ h =
    sym (take_at g (flat gs) n refl) ∙ (ap (take n) same ∙ take_at h (flat hs) n (sym long)) in
    let others : flat gs ≡ flat hs =
    sym (drop_at g (flat gs) n refl) ∙ (ap (drop n) same ∙ drop_at h (flat hs) n (sym long)) in
    ap (λ (x : List Item). x ∷ gs) first
    ∙ ap (λ (xs : List (List Item)). h ∷ xs) (same_groups pdu write gs hs a.1 b.1 (full_rest pdu write g gs c) (full_rest pdu write h hs d) others)

-- ---- the list of groups has the groups
take_one : (g : List Item) (item : Item) → 0 < length g → take 1 (g ++ item ∷ []) ≡ take 1 g
take_one g item some = take-append-le 1 g (item ∷ []) (omega (arith, some))

full_before : (pdu : ℕ) (write : Bool) (before group items : List Item) → 0 < length group → fits pdu write (before ++ take 1 group) ≡ false → AreFull pdu write (groups_from pdu write group items) → AreFull pdu write (before ∷ groups_from pdu write group items)
full_before pdu write before group [] some over = λ full. (over, full)
full_before pdu write before group (item ∷ items) some over =
    let longer : List Item = group ++ item ∷ [] in
    cond_both (fits pdu write longer) (groups_from pdu write longer items) (group ∷ groups_from pdu write (item ∷ []) items)
    (λ (gs : List (List Item)). AreFull pdu write gs → AreFull pdu write (before ∷ gs))
    (λ e. full_before pdu write before longer items (omega (arith, length-append group (item ∷ []))) (ap (λ (x : List Item). fits pdu write (before ++ x)) (take_one group item some) ∙ over))
    (λ e full. (over, full))

groups_right : (pdu : ℕ) (write : Bool) (group items : List Item) → 0 < length group → fits pdu write group ≡ true → AllByRecursion (FitsAlone pdu write) items → AreGroups pdu write (group ++ items) (groups_from pdu write group items)
groups_right pdu write group [] some fit alone =
    record { whole = refl; each = (record { some = some; fits = fit }, tt); full = tt }
groups_right pdu write group (item ∷ items) some fit alone =
    let longer : List Item = group ++ item ∷ [] in
    let single : AreGroups pdu write (item ∷ items) (groups_from pdu write (item ∷ []) items) =
    groups_right pdu write (item ∷ []) items (omega arith) alone.0 alone.1 in
    cond_both (fits pdu write longer) (groups_from pdu write longer items) (group ∷ groups_from pdu write (item ∷ []) items)
    (AreGroups pdu write (group ++ item ∷ items))
    (λ e.
    subst (λ (xs : List Item). AreGroups pdu write xs (groups_from pdu write longer items)) (append_assoc group (item ∷ []) items)
    (groups_right pdu write longer items (omega (arith, length-append group (item ∷ []))) e alone.1))
    (λ e. record {
      whole = ap (λ (xs : List Item). group ++ xs) single.whole;
      each = (record { some = some; fits = fit }, single.each);
      full = full_before pdu write group (item ∷ []) items (omega arith) e single.full;
    })

-- ---- what can be packed
-- where no item is over, the first fits alone
over_none : (fit : Bool) (more : Option ℕ) (at : ℕ) → cond fit more (Some at) ≡ None → (fit ≡ true) × (more ≡ None)
over_none true more at none = (refl, none)
over_none false more at none = absurd (cc)

all_alone : (pdu : ℕ) (write : Bool) (at : ℕ) (items : List Item) → first_over pdu write at items ≡ None → AllByRecursion (FitsAlone pdu write) items
all_alone pdu write at [] none = tt
all_alone pdu write at (item ∷ items) none =
    let both = over_none (fits pdu write (item ∷ [])) (first_over pdu write (at + 1) items) at none in
    (both.0, all_alone pdu write (at + 1) items both.1)

packed_parts : (many : Bool) (over : Option ℕ) → cond many (Err TooMany) (over_of over) ≡ Ok tt → (many ≡ false) × (over ≡ None)
packed_parts true over packed = absurd (cc)
packed_parts false None packed = (refl, refl)
packed_parts false (Some place) packed = absurd (cc)

right : (pdu : ℕ) (write : Bool) (items : List Item) → AllByRecursion (FitsAlone pdu write) items → AreGroups pdu write items (groups_of pdu write items)
right pdu write [] alone = record { whole = refl; each = tt; full = tt }
right pdu write (item ∷ items) alone = groups_right pdu write (item ∷ []) items (omega arith) alone.0 alone.1

pub groups_exact : GroupsAreExact
groups_exact pdu write items groups packed =
    let told = packed_parts (ltb 20 (length items)) (first_over pdu write 0 items) packed in
    let all : AreGroups pdu write items (groups_of pdu write items) = right pdu write items (all_alone pdu write 0 items told.1) in (
      λ e. subst (AreGroups pdu write items) (sym e) all,
      λ h. same_groups pdu write groups (groups_of pdu write items) h.each all.each h.full all.full (h.whole ∙ sym all.whole),
    )

short_each : (n : ℕ) (groups : List (List Item)) → length (flat groups) ≤ n → AllByRecursion (λ (group : List Item). length group ≤ n) groups
short_each n [] less = tt
short_each n (group ∷ groups) less =
    let long = length-append group (flat groups) in
    (omega (arith, long), short_each n groups (omega (arith, long)))

pub groups_short : GroupsAreShort
groups_short pdu write items packed =
    let told = packed_parts (ltb 20 (length items)) (first_over pdu write 0 items) packed in
    let all : AreGroups pdu write items (groups_of pdu write items) = right pdu write items (all_alone pdu write 0 items told.1) in
    short_each 20 (groups_of pdu write items) (omega (arith, ap length all.whole, ltb-false 20 (length items) told.0))

-- ---- where groups end
cut_from : (before : List Item) (groups : List (List Item)) → cut_at (length before) (ends_of (length before) groups) (before ++ flat groups) ≡ groups
cut_from before [] = refl
cut_from before (group ∷ groups) =
    let n : ℕ = length before in
    let end : ℕ = n + length group in
    let long : length (before ++ group) ≡ end = length-append before group in
    let width : end - n ≡ length group = omega arith in
    let first : between n end (before ++ (group ++ flat groups)) ≡ group =
    ap (take (end - n)) (drop_at before (group ++ flat groups) n refl) ∙ take_at group (flat groups) (end - n) (sym width) in
    let others : cut_at end (ends_of end groups) (before ++ (group ++ flat groups)) ≡ groups =
    ap (cut_at end (ends_of end groups)) (sym (append_assoc before group (flat groups)))
    ∙ subst (λ (x : ℕ). cut_at x (ends_of x groups) ((before ++ group) ++ flat groups) ≡ groups) long (cut_from (before ++ group) groups) in
    ap (λ (g : List Item). g ∷ cut_at end (ends_of end groups) (before ++ (group ++ flat groups))) first
    ∙ ap (λ (gs : List (List Item)). group ∷ gs) others

pub ends_cut : EndsCutGroups
ends_cut groups = cut_from [] groups
