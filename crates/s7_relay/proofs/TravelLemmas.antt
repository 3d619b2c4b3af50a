-- Laws of what travels.
use Rattle.std.proofs.Common.{◌≡◌, ℕ, ◌+◌, Bool, true, false, cond, eqb, ◌&&◌, not, ◌||◌, List, [], ◌∷◌, ◌++◌, length, map, drop, get_or, Option, None, Some, refl, ap, sym, ◌∙◌, subst, arith, append_assoc, append-nil, eqb-true}
use Rattle.std.specs.List.{list_any}
use Rattle.s7_item.specs.Codes.{good}
use Rattle.s7_item.specs.Item.{octet_count}
use Rattle.s7_item.specs.declared.item.Item.{Item}
use Rattle.s7_item.specs.declared.places.DataPlace.{DataPlace}
use Rattle.s7_item.specs.DataItem.{is_good, octets_at}
use Rattle.s7_client.specs.Form.{count_read, octets_read}
use Rattle.s7_area.specs.Places.{key_of}
use Rattle.s7_relay.specs.Replies.{codes_wanted, octets_wanted, rest_codes}
use Rattle.s7_relay.specs.Travel.{AreGood, far_items, far_octets}
use Rattle.s7_relay.specs.Windows.{far_item, moved_by, near_code, near_put_code, put_codes, window_of}
use Rattle.s7_relay.specs.declared.windows.Window.{Window}

-- ---- far items

-- a far item has as many octets as its near one
same_count : (w : Option Window) (item : Item) → octet_count (moved_by w item) ≡ octet_count item
same_count None item = refl
same_count (Some w) item = refl

pub far_octets_same : (ws : List Window) (item : Item) → octet_count (far_item ws item) ≡ octet_count item
far_octets_same ws item = same_count (window_of ws (key_of item)) item

pub far_count : (ws : List Window) (item : Item) (code : ℕ) → count_read (far_item ws item) code ≡ count_read item code
far_count ws item code = ap (λ n. cond (eqb code 255) n 0) (same_count (window_of ws (key_of item)) item)

-- as many as near codes that are good
far_or : (b : Bool) (x : Item) (xs : List Item) (n : ℕ) → length xs ≡ n → length (cond b (x ∷ xs) xs) ≡ cond b 1 0 + n
far_or true x xs n p = omega (arith, p)
far_or false x xs n p = omega (arith, p)

pub length-far : (ws : List Window) (items : List Item) (near : List ℕ) → length near ≡ length items
    → length (far_items ws items near) ≡ codes_wanted near
length-far ws [] [] h = refl
length-far ws [] (code ∷ near) h = absurd (omega (arith, h))
length-far ws (item ∷ items) [] h = absurd (omega (arith, h))
length-far ws (item ∷ items) (code ∷ near) h =
    far_or (eqb code 255) (far_item ws item) _ (codes_wanted near) (length-far ws items near (omega (arith, h)))

-- none travels where no code is good
none_by : (b c : Bool) (n : ℕ) → (b || c) ≡ false → (c ≡ false → n ≡ 0) → cond b 1 0 + n ≡ 0
none_by true c n e h = cc
none_by false c n e h = omega (arith, h e)

pub none_wanted : (near : List ℕ) → list_any is_good near ≡ false → codes_wanted near ≡ 0
none_wanted [] e = refl
none_wanted (code ∷ near) e = none_by (eqb code 255) (list_any is_good near) (codes_wanted near) e (none_wanted near)

-- ---- as many octets, with as many codes as items that travel

first_wanted : (ws : List Window) (item : Item) (fars items : List Item) (near codes : List ℕ) (b : Bool)
    → length codes ≡ cond b 1 0 + codes_wanted near
    → (length (cond b (drop 1 codes) codes) ≡ codes_wanted near
    → octets_read fars (cond b (drop 1 codes) codes) ≡ octets_wanted items near (cond b (drop 1 codes) codes))
    → octets_read (cond b (far_item ws item ∷ fars) fars) codes
    ≡ cond b (count_read item (get_or codes 0 0)) 0 + octets_wanted items near (cond b (drop 1 codes) codes)
unfolding octets_read
first_wanted ws item fars items near [] true h rest = absurd (omega (arith, h))
first_wanted ws item fars items near (c ∷ codes) true h rest =
    ap (λ n. n + octets_read fars codes) (far_count ws item c)
    ∙ ap (λ n. count_read item c + n) (rest (omega (arith, h)))
first_wanted ws item fars items near codes false h rest = rest (omega (arith, h)) ∙ omega arith

read_none : (codes : List ℕ) → octets_read [] codes ≡ 0
unfolding octets_read
read_none codes = refl

pub octets_far : (ws : List Window) (items : List Item) (near codes : List ℕ) → length near ≡ length items
    → length codes ≡ codes_wanted near
    → octets_read (far_items ws items near) codes ≡ octets_wanted items near codes
octets_far ws [] [] codes h k = read_none codes
octets_far ws [] (code ∷ near) codes h k = absurd (omega (arith, h))
octets_far ws (item ∷ items) [] codes h k = absurd (omega (arith, h))
octets_far ws (item ∷ items) (code ∷ near) codes h k =
    first_wanted ws item (far_items ws items near) items near codes (eqb code 255) k
    (λ e. octets_far ws items near (rest_codes code codes) (omega (arith, h)) e)

-- ---- what travels would be read too

put_by : (near code : ℕ) (b : Bool) → code ≡ cond b 7 near → code ≡ 255 → near ≡ 255
put_by near code true is e = absurd (omega (arith, is, e))
put_by near code false is e = omega (arith, is, e)

pub put_good : (ws : List Window) (item : Item) (octets : List ℕ) → near_put_code ws item octets ≡ good
    → near_code ws item ≡ good
put_good ws item octets e =
    put_by (near_code ws item) (near_put_code ws item octets)
    (eqb (near_code ws item) 255 && not (eqb (length octets) (octet_count item))) refl e

pub reads_are_good : (ws : List Window) (items : List Item) → AreGood ws items (map (near_code ws) items)
reads_are_good ws [] = tt
reads_are_good ws (item ∷ items) = ((λ e. e), reads_are_good ws items)

pub writes_are_good : (ws : List Window) (items : List Item) (places : List DataPlace) (octets : List ℕ)
    → AreGood ws items (put_codes ws items places octets)
writes_are_good ws [] places octets = tt
writes_are_good ws (item ∷ items) [] octets = tt
writes_are_good ws (item ∷ items) (place ∷ places) octets =
    ((λ e. put_good ws item (octets_at octets place) e), writes_are_good ws items places octets)

-- ---- the steps of loops

-- the far items so far and those to come, one item on
pub items_on : (ws : List Window) (x : Item) (xs xs' : List Item) (g : ℕ) (ys ys' : List ℕ) (found found' all : List Item)
    → xs' ≡ x ∷ xs → ys' ≡ g ∷ ys → found' ≡ found ++ (cond (eqb g 255) (far_item ws x ∷ []) [])
    → found ++ far_items ws xs' ys' ≡ all → found' ++ far_items ws xs ys ≡ all
items_on ws x xs xs' g ys ys' found found' all ex ey ef inv =
    ap (λ (f : List Item). f ++ far_items ws xs ys) ef
    ∙ append_assoc found (cond (eqb g 255) (far_item ws x ∷ []) []) (far_items ws xs ys)
    ∙ ap (λ (f : List Item). found ++ f) (first (eqb g 255))
    ∙ sym (λ i. found ++ far_items ws (ex i) (ey i))
    ∙ inv
  where
    first : (b : Bool) → cond b (far_item ws x ∷ []) [] ++ far_items ws xs ys ≡ cond b (far_item ws x ∷ far_items ws xs ys) (far_items ws xs ys)
    first true = refl
    first false = refl

-- and their octets
pub octets_on : (octets : List ℕ) (g : ℕ) (ys ys' : List ℕ) (place : DataPlace) (ps ps' : List DataPlace) (found found' all : List ℕ)
    → ys' ≡ g ∷ ys → ps' ≡ place ∷ ps → found' ≡ found ++ (cond (eqb g 255) (octets_at octets place) [])
    → found ++ far_octets ys' ps' octets ≡ all → found' ++ far_octets ys ps octets ≡ all
octets_on octets g ys ys' place ps ps' found found' all ey ep ef inv =
    ap (λ (f : List ℕ). f ++ far_octets ys ps octets) ef
    ∙ append_assoc found (cond (eqb g 255) (octets_at octets place) []) (far_octets ys ps octets)
    ∙ ap (λ (f : List ℕ). found ++ f) (first (eqb g 255))
    ∙ sym (λ i. found ++ far_octets (ey i) (ep i) octets)
    ∙ inv
  where
    first : (b : Bool) → cond b (octets_at octets place) [] ++ far_octets ys ps octets
        ≡ cond b (octets_at octets place ++ far_octets ys ps octets) (far_octets ys ps octets)
    first true = refl
    first false = refl

pub good_on : (ws : List Window) (x : Item) (xs xs' : List Item) (g : ℕ) (ys ys' : List ℕ) → xs' ≡ x ∷ xs → ys' ≡ g ∷ ys
    → AreGood ws xs' ys' → (g ≡ 255 → near_code ws x ≡ 255) × AreGood ws xs ys
good_on ws x xs xs' g ys ys' ex ey h = subst (λ zs. AreGood ws (x ∷ xs) zs) ey (subst (λ (zs : List Item). AreGood ws zs ys') ex h)

not_good : (g : ℕ) → (g ≡ 255 → ⊥) → eqb g 255 ≡ false
not_good g bad = by (eqb g 255) refl
  where
    by : (b : Bool) → eqb g 255 ≡ b → eqb g 255 ≡ false
    by true e = absurd (bad (eqb-true g 255 e))
    by false e = e

-- what comes behind what was found: something for a good code, and nothing for another
pub found_more : {X : Type 0} (g : ℕ) (found found' more : List X) → g ≡ 255 → found' ≡ found ++ more
    → found' ≡ found ++ cond (eqb g 255) more []
found_more g found found' more good is = is ∙ sym (ap (λ k. found ++ cond (eqb k 255) more []) good)

pub found_none : {X : Type 0} (g : ℕ) (found found' more : List X) → (g ≡ 255 → ⊥) → found' ≡ found
    → found' ≡ found ++ cond (eqb g 255) more []
found_none {X} g found found' more bad is =
    is ∙ sym (append-nil found) ∙ sym (ap (λ b. found ++ cond b more []) (not_good g bad))
