-- A far item lies where the window of its near one says.
use Rattle.std.proofs.Common.{◌≡◌, ◌∙◌, ◌+◌, ◌*◌, ◌/◌, ◌^◌, ◌≤◌, ◌<◌, ℕ, Bool, true, false, cond, refl, ap, sym, subst, arith, List, [], ◌∷◌, Option, Some, None}
use Rattle.std.specs.Prelude.{◌==◌, ◌&&◌, ◌||◌, not, nat_le, is_none, unwrap_or, if◌then◌else◌}
use Rattle.std.proofs.lemmas.Bool.{and_parts, eqb-true, leb-true, le-leb}
use Rattle.std.proofs.lemmas.Bool.Decides.{nat_tests}
use Rattle.std.proofs.lemmas.Nat.{mul-le}
use Rattle.s7_item.specs.Codes.{bits, counters, data_blocks, good, no_area, out_of_range, timers, wrong_word}
use Rattle.s7_item.specs.Item.{octet_count}
use Rattle.s7_item.specs.Word.{size_of}
use Rattle.s7_item.specs.declared.item.Item.{Item}
use Rattle.s7_area.specs.Keys.{is_numbered}
use Rattle.s7_area.specs.Places.{differ, is_inside, is_misfit, key_of, start_of}
use Rattle.s7_area.specs.declared.key.AreaKey.{AreaKey}
use Rattle.s7_relay.specs.Keys.{has_octets, same_key}
use Rattle.s7_relay.specs.Laws.{FarItemsLie, LiesIn}
use Rattle.s7_relay.specs.Windows.{code_in, far_item, moved, moved_by, near_code, window_of}
use Rattle.s7_relay.specs.declared.windows.Window.{Window}

-- ---- what a good code says

record IsGood (windows : List Window) (item : Item) : Type 0 where
  w : Window
  found : window_of windows (key_of item) ≡ Some w
  fits : is_misfit item ≡ false
  inside : is_inside item w.length ≡ true

good_by : (windows : List Window) (item : Item) (misfit : Bool) (found : Option Window) → is_misfit item ≡ misfit
    → window_of windows (key_of item) ≡ found → (if misfit then wrong_word else code_in found item) ≡ good → IsGood windows item
good_by windows item true found fits is code = absurd (omega (arith, code))
good_by windows item false None fits is code = absurd (omega (arith, code))
good_by windows item false (Some w) fits is code = by (is_inside item w.length) refl code
  where
    by : (b : Bool) → is_inside item w.length ≡ b → (if b then good else out_of_range) ≡ good → IsGood windows item
    by true inside code = record { w = w; found = is; fits = fits; inside = inside }
    by false inside code = absurd (omega (arith, code))

good_is : (windows : List Window) (item : Item) → near_code windows item ≡ good → IsGood windows item
good_is windows item code = good_by windows item (is_misfit item) (window_of windows (key_of item)) refl refl code

-- the window that is found has the name
found_near : (windows : List Window) (key : AreaKey) (w : Window) → window_of windows key ≡ Some w → same_key w.near key ≡ true
found_near [] key w is = absurd (cc is)
found_near (v ∷ vs) key w is = by (same_key v.near key) refl is (found_near vs key w)
  where
    by : (b : Bool) → same_key v.near key ≡ b → cond b (Some v) (window_of vs key) ≡ Some w
        → (window_of vs key ≡ Some w → same_key w.near key ≡ true) → same_key w.near key ≡ true
    by true same is later = let here : v ≡ w = cc is in ap (λ (u : Window). same_key u.near key) (sym here) ∙ same
    by false same is later = later is

-- ---- areas of octets

octets_alone : (key : AreaKey) → has_octets key ≡ true → is_numbered key.area ≡ false
octets_alone key has = grind (arith, nat_tests)

near_alone : (w : Window) (item : Item) → same_key w.near (key_of item) ≡ true → is_numbered item.area ≡ false
near_alone w item same =
    let area = eqb-true w.near.area item.area (and_parts (w.near.area == item.area) _ same).0 in
    ap is_numbered (sym area) ∙ octets_alone w.near (and_parts (has_octets w.near) (has_octets w.far) w.octets).0

pub far_alone : (w : Window) → is_numbered w.far.area ≡ false
far_alone w = octets_alone w.far (and_parts (has_octets w.near) (has_octets w.far) w.octets).1

-- only data blocks have numbers
number_is : (key : AreaKey) → has_octets key ≡ true → (if key.area == data_blocks then key.number else 0) ≡ key.number
number_is key has = by (key.area == data_blocks) refl
  where
    zero : (key.area == data_blocks) ≡ false → 0 ≡ key.number
    zero other = grind (arith, nat_tests)

    by : (b : Bool) → (key.area == data_blocks) ≡ b → (if b then key.number else 0) ≡ key.number
    by true is = refl
    by false is = zero is

-- neither word nor area is that of counters or timers
fits_moved : (w : Window) (item : Item) → is_numbered item.area ≡ false → is_misfit item ≡ false → is_misfit (moved w item) ≡ false
unfolding is_misfit
fits_moved w item near fits = by (is_none (size_of item.word)) (item.word == bits && not (item.count == 1)) (item.word == counters) (item.word == timers)
    (item.area == counters) (item.area == timers) (w.far.area == counters) (w.far.area == timers) near (far_alone w) fits
  where
    by : (unknown bit c t a b d e : Bool) → (a || b) ≡ false → (d || e) ≡ false
        → (unknown || bit || differ c a || differ t b) ≡ false → (unknown || bit || differ c d || differ t e) ≡ false
    by true bit c t a b d e near far fits = absurd (cc fits)
    by false true c t a b d e near far fits = absurd (cc fits)
    by false false c t true b d e near far fits = absurd (cc near)
    by false false c t false true d e near far fits = absurd (cc near)
    by false false c t false false true e near far fits = absurd (cc far)
    by false false c t false false false true near far fits = absurd (cc far)
    by false false c t false false false false near far fits = fits

-- ---- where it starts

start_plain : (item : Item) → is_numbered item.area ≡ false → start_of item ≡ item.address / 8
start_plain item alone = rw alone refl

far_start : (w : Window) (item : Item) → is_numbered item.area ≡ false → start_of (moved w item) ≡ start_of item + w.offset
far_start w item near =
    let on : (item.address + 8 * w.offset) / 8 ≡ item.address / 8 + w.offset = omega arith in
    start_plain (moved w item) (far_alone w) ∙ on ∙ sym (ap (λ (n : ℕ). n + w.offset) (start_plain item near))

-- elements of a known word have octets
size_some : (word : ℕ) → is_none (size_of word) ≡ false → 1 ≤ unwrap_or (size_of word) 0
unfolding size_of
size_some word known = grind (arith, nat_tests)

octets_some : (item : Item) → is_misfit item ≡ false → not (item.count == 0) ≡ true → 1 ≤ octet_count item
unfolding is_misfit
octets_some item fits some =
    let known : is_none (size_of item.word) ≡ false = by (is_none (size_of item.word)) (item.word == bits && not (item.count == 1))
    (differ (item.word == counters) (item.area == counters)) (differ (item.word == timers) (item.area == timers)) fits in
    mul-le 1 1 item.count (unwrap_or (size_of item.word) 0) (count_some item.count some) (size_some item.word known)
  where
    by : (unknown bit c t : Bool) → (unknown || bit || c || t) ≡ false → unknown ≡ false
    by true bit c t fits = absurd (cc fits)
    by false bit c t fits = refl

    count_some : (n : ℕ) → not (n == 0) ≡ true → 1 ≤ n
    count_some n h = grind (arith, nat_tests)

-- the place ends within so many octets, and has some
pub record Ends (item : Item) (len : ℕ) : Type 0 where
  pub some : not (item.count == 0) ≡ true
  pub ends : start_of item + octet_count item ≤ len

pub ends : (item : Item) (len : ℕ) → is_inside item len ≡ true → Ends item len
ends item len inside =
    let both = and_parts (not (item.count == 0)) (nat_le (start_of item + octet_count item) len) inside in
    record { some = both.0; ends = leb-true (start_of item + octet_count item) len both.1 }

lies : (w : Window) (item : Item) → same_key w.near (key_of item) ≡ true → is_misfit item ≡ false → is_inside item w.length ≡ true
    → LiesIn w item (moved w item)
lies w item same fits inside =
    let near = near_alone w item same in
    let end = ends item w.length inside in
    let start = far_start w item near in
    let within = w.within in
    let far_end : start_of (moved w item) + octet_count item ≤ w.offset + w.length = omega (arith, start, end.ends) in
    let some = octets_some item fits end.some in
    let octet : item.address / 8 + 1 ≤ w.length = omega (arith, start_plain item near, end.ends, some) in
    record {
      area = (λ i. record { area = w.far.area; number = number_is w.far (and_parts (has_octets w.near) (has_octets w.far) w.octets).1 i });
      start = start;
      bit = omega arith;
      word = refl;
      count = refl;
      inside = rw (end.some, le-leb (start_of (moved w item) + octet_count item) (w.offset + w.length) far_end) refl;
      fits = fits_moved w item near fits;
      address = omega (arith, octet, within);
    }

-- the far item is the item moved by the window that is found
pub far_moved : (windows : List Window) (item : Item) → near_code windows item ≡ good
    → (w : Window) × (window_of windows (key_of item) ≡ Some w) × (far_item windows item ≡ moved w item)
    × LiesIn w item (moved w item)
far_moved windows item code =
    let is = good_is windows item code in (
      is.w,
      is.found,
      ap (λ (o : Option Window). moved_by o item) is.found,
      lies is.w item (found_near windows (key_of item) is.w is.found) is.fits is.inside,
    )

pub far_lies : FarItemsLie
far_lies windows item code =
    let is = far_moved windows item code in (is.0, is.1, subst (LiesIn is.0 item) (sym is.2) is.3)

pub far_address : (windows : List Window) (item : Item) → near_code windows item ≡ good → (far_item windows item).address < 2 ^ 24
far_address windows item code = (far_lies windows item code).2.address

-- ---- no window has counters or timers

pub numbered_codes : (windows : List Window) (item : Item) → is_numbered item.area ≡ true
    → near_code windows item ≡ (if is_misfit item then wrong_word else no_area)
numbered_codes windows item numbered = by (window_of windows (key_of item)) refl
  where
    by : (found : Option Window) → window_of windows (key_of item) ≡ found
        → near_code windows item ≡ (if is_misfit item then wrong_word else no_area)
    by None is = ap (λ (o : Option Window). if is_misfit item then wrong_word else code_in o item) is
    by (Some w) is = absurd (cc (sym numbered ∙ near_alone w item (found_near windows (key_of item) w is)))
