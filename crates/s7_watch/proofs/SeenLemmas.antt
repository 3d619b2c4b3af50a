-- The last samples of tags while those of a read are kept one after another.
use Rattle.std.proofs.Common.{◌≡◌, ◌∙◌, ℕ, zero, suc, ◌+◌, ◌*◌, ◌<◌, ◌≤◌, refl, sym, ap, arith, List, [], ◌∷◌, ◌++◌, length, take, drop, map, set, get_or, add-zero, append_assoc, append-nil, Option, Some}
use Rattle.std.proofs.Math.ListN.{get_or-map}
use Rattle.std.proofs.lemmas.List.{drop-drop, drop-set-lt, drop_all, get_or_default, length-drop, length-map, map-set, take-append-drop, take_more_set}
use Rattle.s7_client.specs.Form.{count_read, octets_read}
use Rattle.s7_item.specs.declared.item.Item.{Item}
use Rattle.s7_watch.specs.Samples.{Sample, item_of, items_of, sample_first, samples_in}
use Rattle.s7_watch.specs.Looks.{part}
use Rattle.s7_watch.specs.Lines.{seen_now, with_samples}
use Rattle.s7_watch.specs.WatchShown.{last_of, tag_in}
use Rattle.s7_watch.specs.declared.watched.Watched.{Watched}
use Rattle.s7_watch.proofs.PartLemmas.{part_long}
use Rattle.s7_watch.proofs.CutLemmas.{IsAt, octets_at, samples_at, samples_none}

-- ---- one tag of the list

-- an element that shows the same leaves what the list shows
map_kept : {A B : Type 0} (f : A → B) (xs : List A) (i : ℕ) (x : A) → f x ≡ f (get_or xs i x) → map f (set xs i x) ≡ map f xs
map_kept f [] i x same = refl
map_kept f (y ∷ ys) zero x same = ap (λ v. v ∷ map f ys) same
map_kept f (y ∷ ys) (suc i) x same = ap (λ l. f y ∷ l) (map_kept f ys i x same)

pub tags_kept : (all : List Watched) (i : ℕ) (w new : Watched) → i < length all → w ≡ get_or all i w → tag_in new ≡ tag_in w
    → map tag_in (set all i new) ≡ map tag_in all
tags_kept all i w new within is same = map_kept tag_in all i new (same ∙ ap tag_in (is ∙ get_or_default all i w new within))

pub last_kept : (all : List Watched) (i : ℕ) (new : Watched) (sample : Sample) → last_of new ≡ Some sample
    → map last_of (set all i new) ≡ set (map last_of all) i (Some sample)
last_kept all i new sample same = map-set last_of all i new ∙ ap (set (map last_of all) i) same

-- the tags of a read are in the list
pub tag_inside : (old all : List Watched) (codes : List ℕ) (number k : ℕ) → length codes ≡ length (items_of (part number (map tag_in old)))
    → length all ≡ length old → k < length codes → 20 * number + k < length all
tag_inside old all codes number k same long coded =
    let few = part_long number (map tag_in old) codes same in
    let left = length-drop (20 * number) (items_of (map tag_in old)) in
    omega (arith, few, left, length-map (map tag_in old) item_of, length-map old tag_in)

-- the tag at an index of the list, whose tags are those of another list, and its code
pub tag_at : (old all : List Watched) (codes : List ℕ) (w : Watched) (i k code : ℕ) → i < length all → k < length codes
    → map tag_in all ≡ map tag_in old → w ≡ get_or all i w → code ≡ get_or codes k 0
    → IsAt (items_of (map tag_in old)) codes i k w.tag.item code
tag_at old all codes w i k code within coded same is code_is =
    let tags = length-map all tag_in in
    let items = length-map (map tag_in old) item_of in
    let here = ap (λ v. item_of (tag_in v)) is ∙ sym (ap item_of (get_or-map tag_in all i w)) ∙ sym (get_or-map item_of (map tag_in all) i (tag_in w)) in
    record {
      inside = omega (arith, tags, items, ap length same);
      coded = coded;
      item_is = here ∙ ap (λ ts. get_or (items_of ts) i w.tag.item) same;
      code_is = code_is;
    }

-- ---- the last samples

-- the last samples that the codes left give
abbrev pub seen_left : List Item → List ℕ → List ℕ → ℕ → ℕ → List (Option Sample)
seen_left items codes octets i k = map seen_now (samples_in (drop i items) (drop k codes) octets)

-- after k codes: those so far and those that are left are all, the others are as they were, and the octets left are those
-- of the items left
pub record IsSeen (items : List Item) (codes octets : List ℕ) (old : List (Option Sample)) (first : ℕ)
    (lasts : List (Option Sample)) (rest : List ℕ) (k : ℕ) : Type 0 where
  pub seen : take (first + k) lasts ++ seen_left items codes rest (first + k) k ≡ take first old ++ seen_left items codes octets first 0
  pub others : drop (first + k) lasts ≡ drop (first + k) old
  pub left : length rest ≡ octets_read (drop (first + k) items) (drop k codes)

-- before the first code
pub seen_none : (items : List Item) (codes octets : List ℕ) (old : List (Option Sample)) (first : ℕ)
    → length octets ≡ octets_read (drop first items) codes → IsSeen items codes octets old first old octets 0
seen_none items codes octets old first whole = record {
  seen = ap (λ n. take n old ++ seen_left items codes octets n 0) (add-zero first);
  others = refl;
  left = whole ∙ ap (λ n. octets_read (drop n items) codes) (sym (add-zero first));
}

seen_step : (items : List Item) (codes octets own rest : List ℕ) (lasts front : List (Option Sample)) (i k : ℕ) (item : Item) (code : ℕ)
    → IsAt items codes i k item code → i < length lasts
    → own ≡ take (count_read item code) octets → rest ≡ drop (count_read item code) octets
    → take i lasts ++ seen_left items codes octets i k ≡ front
    → take (i + 1) (set lasts i (Some (record { code = code; octets = own }))) ++ seen_left items codes rest (i + 1) (k + 1) ≡ front
seen_step items codes octets own rest lasts front i k item code at within own_is rest_is known =
    let now : Option Sample = Some (sample_first item code octets) in
    let later = seen_left items codes (drop (count_read item code) octets) (i + 1) (k + 1) in
    let whole : seen_left items codes octets i k ≡ now ∷ later = ap (map seen_now) (samples_at items codes octets i k item code at) in
    ap (λ o. take (i + 1) (set lasts i (Some (record { code = code; octets = o }))) ++ seen_left items codes rest (i + 1) (k + 1)) own_is
    ∙ ap (λ r. take (i + 1) (set lasts i now) ++ seen_left items codes r (i + 1) (k + 1)) rest_is
    ∙ ap (λ l. l ++ later) (take_more_set lasts i now within)
    ∙ append_assoc (take i lasts) (now ∷ []) later
    ∙ ap (λ l. take i lasts ++ l) (sym whole)
    ∙ known

others_step : (lasts old : List (Option Sample)) (i : ℕ) (now : Option Sample) → drop i lasts ≡ drop i old
    → drop (i + 1) (set lasts i now) ≡ drop (i + 1) old
others_step lasts old i now same =
    let after : i < i + 1 = omega arith in
    drop-set-lt (i + 1) lasts i now after ∙ sym (drop-drop 1 i lasts) ∙ ap (drop 1) same ∙ drop-drop 1 i old

-- one more code
pub seen_more : (items : List Item) (codes octets : List ℕ) (old : List (Option Sample)) (first : ℕ) (lasts new : List (Option Sample))
    (rest own after : List ℕ) (k : ℕ) (item : Item) (code : ℕ) → IsAt items codes (first + k) k item code → first + k < length lasts
    → own ≡ take (count_read item code) rest → after ≡ drop (count_read item code) rest
    → new ≡ set lasts (first + k) (Some (record { code = code; octets = own }))
    → IsSeen items codes octets old first lasts rest k → IsSeen items codes octets old first new after (k + 1)
seen_more items codes octets old first lasts new rest own after k item code at within own_is after_is new_is so_far =
    let i : ℕ = first + k in
    let now : Option Sample = Some (record { code = code; octets = own }) in
    let next : first + (k + 1) ≡ (first + k) + 1 = omega arith in
    let front : List (Option Sample) = take first old ++ seen_left items codes octets first 0 in
    let here = octets_at items codes (first + k) k item code at in
    let less : length after ≡ octets_read (drop ((first + k) + 1) items) (drop (k + 1) codes) =
    omega (arith, so_far.left, here, ap length after_is, length-drop (count_read item code) rest) in
    record {
      seen = ap (λ n. take n new ++ seen_left items codes after n (k + 1)) next
          ∙ ap (λ l. take (i + 1) l ++ seen_left items codes after (i + 1) (k + 1)) new_is
          ∙ seen_step items codes rest own after lasts front i k item code at within own_is after_is so_far.seen;
      others = ap (λ n. drop n new) next ∙ ap (drop (i + 1)) new_is ∙ others_step lasts old i now so_far.others
          ∙ ap (λ n. drop n old) (sym next);
      left = less ∙ ap (λ n. octets_read (drop n items) (drop (k + 1) codes)) (sym next);
    }

-- as many samples as codes
sample_count : (items : List Item) (codes octets : List ℕ) → length codes ≤ length items → length (samples_in items codes octets) ≡ length codes
unfolding samples_in
sample_count [] [] octets few = refl
sample_count [] (code ∷ codes) octets few = absurd (omega arith)
sample_count (item ∷ items) [] octets few = refl
sample_count (item ∷ items) (code ∷ codes) octets few = ap suc (sample_count items codes (drop (count_read item code) octets) (omega arith))

-- after the last code
pub seen_all : (items : List Item) (codes octets : List ℕ) (old : List (Option Sample)) (first : ℕ) (lasts : List (Option Sample)) (rest : List ℕ) (k : ℕ)
    → k ≡ length codes → length codes ≤ length (drop first items) → IsSeen items codes octets old first lasts rest k
    → lasts ≡ with_samples old first (samples_in (drop first items) codes octets)
seen_all items codes octets old first lasts rest k all few so_far =
    let samples : List Sample = samples_in (drop first items) codes octets in
    let seen : List (Option Sample) = map seen_now samples in
    let over : length codes ≤ k = omega (arith, all) in
    let ended : seen_left items codes rest (first + k) k ≡ [] =
    ap (λ c. map seen_now (samples_in (drop (first + k) items) c rest)) (drop_all k codes over)
    ∙ ap (map seen_now) (samples_none (drop (first + k) items) rest) in
    let count : k ≡ length samples = all ∙ sym (sample_count (drop first items) codes octets few) in
    let front : take (first + k) lasts ≡ take first old ++ seen =
    sym (append-nil (take (first + k) lasts)) ∙ ap (λ l. take (first + k) lasts ++ l) (sym ended) ∙ so_far.seen in
    sym (take-append-drop (first + k) lasts)
    ∙ ap (λ l. l ++ drop (first + k) lasts) front
    ∙ ap (λ l. (take first old ++ seen) ++ l) so_far.others
    ∙ append_assoc (take first old) seen (drop (first + k) old)
    ∙ ap (λ n. take first old ++ (seen ++ drop (first + n) old)) count
