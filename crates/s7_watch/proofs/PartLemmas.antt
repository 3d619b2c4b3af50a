-- The part of a list that belongs to a read.
use Rattle.std.proofs.Common.{◌≡◌, ◌∙◌, ℕ, zero, suc, ◌+◌, ◌*◌, ◌<◌, ◌≤◌, refl, sym, ap, arith, List, [], ◌∷◌, ◌++◌, length, take, drop, map, get_or}
use Rattle.std.proofs.lemmas.List.{drop-map, length-take, map-append, take_all, take_more, take-map}
use Rattle.s7_client.specs.Form.{count_read, octets_read}
use Rattle.s7_item.specs.declared.item.Item.{Item}
use Rattle.s7_symbol.specs.declared.tag.Tag.{Tag}
use Rattle.s7_watch.specs.Samples.{item_of, items_of, sample_first, samples_in}
use Rattle.s7_watch.specs.Looks.{look_count, most_tags, part}
use Rattle.s7_watch.specs.declared.watched.Watched.{Watched}

pub part_map : {A B : Type 0} (f : A → B) (number : ℕ) (xs : List A) → part number (map f xs) ≡ map f (part number xs)
part_map f number xs =
    ap (take most_tags) (drop-map f (most_tags * number) xs) ∙ take-map f most_tags (drop (most_tags * number) xs)

-- a read that a round has begins inside the tags
pub begins_inside : (tags number : ℕ) → number < look_count tags → most_tags * number < tags
begins_inside tags number within = omega arith

-- ---- the codes say how many items there are

pub samples_cut : (most : ℕ) (items : List Item) (codes octets : List ℕ) → length codes ≤ most
    → samples_in (take most items) codes octets ≡ samples_in items codes octets
unfolding samples_in
samples_cut zero [] codes octets few = refl
samples_cut (suc most) [] codes octets few = refl
samples_cut zero (item ∷ items) [] octets few = refl
samples_cut zero (item ∷ items) (code ∷ codes) octets few = absurd (omega arith)
samples_cut (suc most) (item ∷ items) [] octets few = refl
samples_cut (suc most) (item ∷ items) (code ∷ codes) octets few =
    ap (λ l. sample_first item code octets ∷ l) (samples_cut most items codes (drop (count_read item code) octets) (omega arith))

pub octets_cut : (most : ℕ) (items : List Item) (codes : List ℕ) → length codes ≤ most
    → octets_read (take most items) codes ≡ octets_read items codes
unfolding octets_read
octets_cut zero [] codes few = refl
octets_cut (suc most) [] codes few = refl
octets_cut zero (item ∷ items) [] few = refl
octets_cut zero (item ∷ items) (code ∷ codes) few = absurd (omega arith)
octets_cut (suc most) (item ∷ items) [] few = refl
octets_cut (suc most) (item ∷ items) (code ∷ codes) few =
    ap (λ n. count_read item code + n) (octets_cut most items codes (omega arith))

-- ---- the items of a read, and those from its first on

abbrev pub items_from : List Tag → ℕ → List Item
items_from tags number = drop (most_tags * number) (items_of tags)

pub part_items : (number : ℕ) (tags : List Tag) → items_of (part number tags) ≡ take most_tags (items_from tags number)
part_items number tags = sym (part_map item_of number tags)

pub few_items : (number : ℕ) (tags : List Tag) → length (items_of (part number tags)) ≤ 20
few_items number tags =
    let same = ap length (part_items number tags) in
    omega (arith, same, length-take most_tags (items_from tags number))

pub part_samples : (number : ℕ) (tags : List Tag) (codes octets : List ℕ) → length codes ≡ length (items_of (part number tags))
    → samples_in (items_of (part number tags)) codes octets ≡ samples_in (items_from tags number) codes octets
part_samples number tags codes octets same =
    let few : length codes ≤ most_tags = omega (arith, same, few_items number tags) in
    ap (λ items. samples_in items codes octets) (part_items number tags)
    ∙ samples_cut most_tags (items_from tags number) codes octets few

pub part_octets : (number : ℕ) (tags : List Tag) (codes : List ℕ) → length codes ≡ length (items_of (part number tags))
    → octets_read (items_of (part number tags)) codes ≡ octets_read (items_from tags number) codes
part_octets number tags codes same =
    let few : length codes ≤ most_tags = omega (arith, same, few_items number tags) in
    ap (λ items. octets_read items codes) (part_items number tags)
    ∙ octets_cut most_tags (items_from tags number) codes few

-- there are no more codes than items from the first on
pub part_long : (number : ℕ) (tags : List Tag) (codes : List ℕ) → length codes ≡ length (items_of (part number tags))
    → length codes ≤ length (items_from tags number)
part_long number tags codes same =
    omega (arith, same, ap length (part_items number tags), length-take most_tags (items_from tags number))

-- ---- one more element that shows the same

pub push_shown : {A B C : Type 0} (f : A → C) (g : B → C) (ys : List A) (y : A) (xs : List B) (i : ℕ) (x : B) → i < length xs → x ≡ get_or xs i x
    → f y ≡ g x → map f ys ≡ map g (take i xs) → map f (ys ++ y ∷ []) ≡ map g (take (i + 1) xs)
push_shown f g ys y xs i x within is shows known =
    map-append f ys (y ∷ [])
    ∙ ap (λ l. l ++ (f y ∷ [])) known
    ∙ ap (λ v. map g (take i xs) ++ (v ∷ [])) (shows ∙ ap g is)
    ∙ sym (map-append g (take i xs) (get_or xs i x ∷ []))
    ∙ ap (map g) (sym (take_more xs i x within))

pub push_taken : {A B : Type 0} (f : A → B) (ys : List A) (y : A) (xs : List B) (i : ℕ) (x : B) → i < length xs → x ≡ get_or xs i x
    → f y ≡ x → map f ys ≡ take i xs → map f (ys ++ y ∷ []) ≡ take (i + 1) xs
push_taken f ys y xs i x within is shows known =
    map-append f ys (y ∷ [])
    ∙ ap (λ l. l ++ (f y ∷ [])) known
    ∙ ap (λ v. take i xs ++ (v ∷ [])) (shows ∙ is)
    ∙ sym (take_more xs i x within)

-- ---- the tags of a read

pub looked_whole : {A : Type 0} (f : Watched → A) (number : ℕ) (all : List Watched) → map f (part number all) ≡ part number (map f all)
looked_whole f number all = sym (part_map f number all)

-- the last read of a round has the rest
pub looked_rest : {A : Type 0} (f : Watched → A) (number : ℕ) (all : List Watched) → length (drop (most_tags * number) all) ≤ most_tags
    → map f (drop (most_tags * number) all) ≡ part number (map f all)
looked_rest f number all few =
    ap (map f) (sym (take_all most_tags (drop (most_tags * number) all) few)) ∙ looked_whole f number all
