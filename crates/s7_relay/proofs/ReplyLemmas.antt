-- Laws of the items in an answer.
use Rattle.std.proofs.Common.{◌≡◌, ℕ, ◌+◌, ◌≤◌, ◌<◌, Bool, true, false, cond, eqb, List, [], ◌∷◌, ◌++◌, length, map, drop, get_or, refl, ap, sym, ◌∙◌, arith, length-drop, append_assoc}
use Rattle.std.proofs.lemmas.Bool.{eqb-true, eqb-false}
use Rattle.std.proofs.lemmas.List.{length-map}
use Rattle.s7_item.specs.Item.{octet_count}
use Rattle.s7_item.specs.Sizes.{data_size}
use Rattle.s7_item.specs.declared.item.Item.{Item}
use Rattle.s7_plant.specs.Answers.{item_size}
use Rattle.s7_client.specs.Form.{count_read}
use Rattle.s7_relay.specs.Replies.{answer_octets, answered_item, answered_items, answers_octets, codes_wanted, octets_wanted, rest_codes, rest_octets}

-- ---- as many as items

pub length-answered : (items : List Item) (near codes octets : List ℕ) → length near ≡ length items
    → length (answered_items items near codes octets) ≡ length items
length-answered [] near codes octets h = refl
length-answered (item ∷ items) [] codes octets h = absurd (omega (arith, h))
length-answered (item ∷ items) (g ∷ near) codes octets h =
    let rest = length-answered items near (rest_codes g codes) (rest_octets item g codes octets) (omega (arith, h)) in
    omega (arith, rest)

-- ---- one item and those behind it

pub answers_first : (item : Item) (items : List Item) (g : ℕ) (near codes octets : List ℕ) (last : Bool)
    → length near ≡ length items → last ≡ eqb (length items) 0
    → answers_octets (answered_items (item ∷ items) (g ∷ near) codes octets)
    ≡ answer_octets (answered_item item g codes octets) last
    ++ answers_octets (answered_items items near (rest_codes g codes) (rest_octets item g codes octets))
answers_first item items g near codes octets last h is =
    let rest = answered_items items near (rest_codes g codes) (rest_octets item g codes octets) in
    let same : eqb (length rest) 0 ≡ last =
    ap (λ n. eqb n 0) (length-answered items near (rest_codes g codes) (rest_octets item g codes octets) h) ∙ sym is in
    ap (λ b. answer_octets (answered_item item g codes octets) b ++ answers_octets rest) same

-- the far codes and octets after an item
behind_by : (b : Bool) (codes : List ℕ) (n : ℕ) → length codes ≡ cond b 1 0 + n → length (cond b (drop 1 codes) codes) ≡ n
behind_by true [] n h = absurd (omega (arith, h))
behind_by true (c ∷ codes) n h = omega (arith, h)
behind_by false codes n h = omega (arith, h)

pub codes_behind : (g : ℕ) (near codes : List ℕ) → length codes ≡ codes_wanted (g ∷ near)
    → length (rest_codes g codes) ≡ codes_wanted near
codes_behind g near codes h = behind_by (eqb g 255) codes (codes_wanted near) h

pub some_codes : (g : ℕ) (near codes : List ℕ) → length codes ≡ codes_wanted (g ∷ near) → g ≡ 255 → 0 < length codes
some_codes g near codes h is =
    let one : length codes ≡ 1 + codes_wanted near = h ∙ ap (λ k. cond (eqb k 255) 1 0 + codes_wanted near) is in
    omega (arith, one)

drop_by : (b : Bool) (octets : List ℕ) (count n : ℕ) → length octets ≡ cond b count 0 + n
    → length (cond b (drop count octets) octets) ≡ n
drop_by true octets count n h = omega (arith, length-drop count octets, h)
drop_by false octets count n h = omega (arith, h)

pub octets_behind : (item : Item) (items : List Item) (g : ℕ) (near codes octets : List ℕ)
    → length octets ≡ octets_wanted (item ∷ items) (g ∷ near) codes
    → length (rest_octets item g codes octets) ≡ octets_wanted items near (rest_codes g codes)
octets_behind item items g near codes octets h =
    drop_by (eqb g 255) octets (count_read item (get_or codes 0 0)) (octets_wanted items near (rest_codes g codes)) h

pub some_octets : (item : Item) (items : List Item) (g : ℕ) (near codes octets : List ℕ)
    → length octets ≡ octets_wanted (item ∷ items) (g ∷ near) codes → g ≡ 255
    → count_read item (get_or codes 0 0) ≤ length octets
some_octets item items g near codes octets h is =
    let one : length octets ≡ count_read item (get_or codes 0 0) + octets_wanted items near (rest_codes g codes) =
    h ∙ ap (λ k. cond (eqb k 255) (count_read item (get_or codes 0 0)) 0 + octets_wanted items near (rest_codes g codes)) is in
    omega (arith, one)

-- ---- the step of a loop over items

-- the data items so far and those of the items to come, one item on
pub told_on : (x : Item) (xs : List Item) (g : ℕ) (ys : List ℕ) (xs' : List Item) (ys' codes octets codes' octets' body body' all : List ℕ)
    (last : Bool) → xs' ≡ x ∷ xs → ys' ≡ g ∷ ys → length ys ≡ length xs → last ≡ eqb (length xs) 0
    → codes' ≡ rest_codes g codes → octets' ≡ rest_octets x g codes octets
    → body' ≡ body ++ answer_octets (answered_item x g codes octets) last
    → body ++ answers_octets (answered_items xs' ys' codes octets) ≡ all
    → body' ++ answers_octets (answered_items xs ys codes' octets') ≡ all
told_on x xs g ys xs' ys' codes octets codes' octets' body body' all last ex ey len is ec eo eb inv =
    (λ i. eb i ++ answers_octets (answered_items xs ys (ec i) (eo i)))
    ∙ append_assoc body (answer_octets (answered_item x g codes octets) last)
    (answers_octets (answered_items xs ys (rest_codes g codes) (rest_octets x g codes octets)))
    ∙ ap (λ o. body ++ o) (sym (answers_first x xs g ys codes octets last len is))
    ∙ sym (λ i. body ++ answers_octets (answered_items (ex i) (ey i) codes octets))
    ∙ inv

-- the size of the data items, one item on
pub size_first : (x : Item) (xs : List Item) (last : Bool) → last ≡ eqb (length xs) 0
    → data_size (map octet_count (x ∷ xs)) ≡ item_size (octet_count x) last + data_size (map octet_count xs)
size_first x xs last is =
    ap (λ b. item_size (octet_count x) b + data_size (map octet_count xs))
    (ap (λ n. eqb n 0) (length-map xs octet_count) ∙ sym is)

last_by : (k n m : ℕ) → k < n → m + (k + 1) ≡ n → (b c : Bool) → eqb (k + 1) n ≡ b → eqb m 0 ≡ c → b ≡ c
last_by k n m lt e true true p q = refl
last_by k n m lt e false false p q = refl
last_by k n m lt e true false p q = absurd (eqb-false m 0 q (let h = eqb-true (k + 1) n p in omega arith))
last_by k n m lt e false true p q = absurd (eqb-false (k + 1) n p (let h = eqb-true m 0 q in omega arith))

-- the last item
pub last_is : (k : ℕ) (xs : List Item) → k < length xs → eqb (k + 1) (length xs) ≡ eqb (length (drop (k + 1) xs)) 0
last_is k xs lt =
    last_by k (length xs) (length (drop (k + 1) xs)) lt (omega (arith, length-drop (k + 1) xs)) _ _ refl refl
