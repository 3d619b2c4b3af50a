-- The samples of a read one after another, and their lines.
use Rattle.std.proofs.Common.{◌≡◌, ◌∙◌, ℕ, ◌+◌, ◌<◌, ◌≤◌, refl, sym, ap, arith, List, [], ◌∷◌, ◌++◌, length, take, drop, map, get_or, append_assoc, append-nil, Option, Bool, true, false, cond}
use Rattle.std.specs.Prelude.{◌==◌}
use Rattle.std.proofs.Math.ListN.{get_or-map}
use Rattle.std.proofs.lemmas.List.{drop_all, drop_more, length-map}
use Rattle.s7_client.specs.Form.{count_read, octets_read}
use Rattle.s7_item.specs.Item.{octet_count}
use Rattle.s7_item.specs.declared.item.Item.{Item}
use Rattle.s7_text.specs.Lines.{Text}
use Rattle.s7_symbol.specs.declared.tag.Tag.{Tag}
use Rattle.s7_watch.specs.Samples.{Sample, item_of, items_of, sample_first, samples_in}
use Rattle.s7_watch.specs.Lines.{line_if_new, new_lines}
use Rattle.s7_watch.specs.WatchShown.{last_of, tag_in}
use Rattle.s7_watch.specs.declared.watched.Watched.{Watched}

-- what is left of a list begins with its element at this index
left_at : {A : Type 0} (xs : List A) (i : ℕ) (x d : A) → i < length xs → x ≡ get_or xs i d → drop i xs ≡ x ∷ drop (i + 1) xs
left_at xs i x d within is = drop_more xs i d within ∙ ap (λ y. y ∷ drop (i + 1) xs) (sym is)

-- ---- samples

samples_cons : (item : Item) (items : List Item) (code : ℕ) (codes octets : List ℕ)
    → samples_in (item ∷ items) (code ∷ codes) octets
    ≡ sample_first item code octets ∷ samples_in items codes (drop (count_read item code) octets)
unfolding samples_in
samples_cons item items code codes octets = refl

pub samples_none : (items : List Item) (octets : List ℕ) → samples_in items [] octets ≡ []
unfolding samples_in
samples_none [] octets = refl
samples_none (item ∷ items) octets = refl

octets_cons : (item : Item) (items : List Item) (code : ℕ) (codes : List ℕ)
    → octets_read (item ∷ items) (code ∷ codes) ≡ count_read item code + octets_read items codes
unfolding octets_read
octets_cons item items code codes = refl

-- an item gives at most its octets
pub count_fits : (item : Item) (code : ℕ) → count_read item code ≤ octet_count item
count_fits item code = by (code == 0xFF)
  where
    by : (b : Bool) → cond b (octet_count item) 0 ≤ octet_count item
    by true = omega arith
    by false = omega arith

-- one item of a list, and its code
pub record IsAt (items : List Item) (codes : List ℕ) (i k : ℕ) (item : Item) (code : ℕ) : Type 0 where
  pub inside : i < length items
  pub coded : k < length codes
  pub item_is : item ≡ get_or items i item
  pub code_is : code ≡ get_or codes k 0

pub samples_at : (items : List Item) (codes octets : List ℕ) (i k : ℕ) (item : Item) (code : ℕ) → IsAt items codes i k item code
    → samples_in (drop i items) (drop k codes) octets
    ≡ sample_first item code octets ∷ samples_in (drop (i + 1) items) (drop (k + 1) codes) (drop (count_read item code) octets)
samples_at items codes octets i k item code at =
    ap (λ x. samples_in x (drop k codes) octets) (left_at items i item item at.inside at.item_is)
    ∙ ap (λ x. samples_in (item ∷ drop (i + 1) items) x octets) (left_at codes k code 0 at.coded at.code_is)
    ∙ samples_cons item (drop (i + 1) items) code (drop (k + 1) codes) octets

pub octets_at : (items : List Item) (codes : List ℕ) (i k : ℕ) (item : Item) (code : ℕ) → IsAt items codes i k item code
    → octets_read (drop i items) (drop k codes) ≡ count_read item code + octets_read (drop (i + 1) items) (drop (k + 1) codes)
octets_at items codes i k item code at =
    ap (λ x. octets_read x (drop k codes)) (left_at items i item item at.inside at.item_is)
    ∙ ap (λ x. octets_read (item ∷ drop (i + 1) items) x) (left_at codes k code 0 at.coded at.code_is)
    ∙ octets_cons item (drop (i + 1) items) code (drop (k + 1) codes)

-- ---- lines

lines_cons : (round : ℕ) (tag : Tag) (tags : List Tag) (last : Option Sample) (lasts : List (Option Sample)) (sample : Sample) (samples : List Sample)
    → new_lines round (tag ∷ tags) (last ∷ lasts) (sample ∷ samples) ≡ line_if_new round tag last sample ++ new_lines round tags lasts samples
unfolding new_lines
lines_cons round tag tags last lasts sample samples = refl

lines_none : (round : ℕ) (lasts : List (Option Sample)) (samples : List Sample) → new_lines round [] lasts samples ≡ []
unfolding new_lines
lines_none round lasts samples = refl

-- the lines of the tags that are left
abbrev pub lines_left : ℕ → List Watched → List ℕ → List ℕ → ℕ → Text
lines_left round ws codes octets k =
    new_lines round (drop k (map tag_in ws)) (drop k (map last_of ws)) (samples_in (drop k (items_of (map tag_in ws))) (drop k codes) octets)

-- the tag at this index, and its code
pub watched_at : (ws : List Watched) (codes : List ℕ) (w : Watched) (k : ℕ) → k < length ws → length codes ≡ length (items_of (map tag_in ws))
    → w ≡ get_or ws k w → IsAt (items_of (map tag_in ws)) codes k k w.tag.item (get_or codes k 0)
watched_at ws codes w k within same is =
    let tags = length-map ws tag_in in
    let items = length-map (map tag_in ws) item_of in
    record {
      inside = omega (arith, tags, items);
      coded = omega (arith, tags, items, same);
      item_is = ap (λ v. item_of (tag_in v)) is ∙ sym (ap item_of (get_or-map tag_in ws k w)) ∙ sym (get_or-map item_of (map tag_in ws) k (tag_in w));
      code_is = refl;
    }

pub lines_step : (round : ℕ) (ws : List Watched) (codes octets own rest text now : List ℕ) (w : Watched) (k : ℕ) → k < length ws
    → length codes ≡ length (items_of (map tag_in ws)) → w ≡ get_or ws k w
    → own ≡ take (count_read w.tag.item (get_or codes k 0)) octets → rest ≡ drop (count_read w.tag.item (get_or codes k 0)) octets
    → now ≡ text ++ line_if_new round (tag_in w) (last_of w) (record { code = get_or codes k 0; octets = own })
    → now ++ lines_left round ws codes rest (k + 1) ≡ text ++ lines_left round ws codes octets k
lines_step round ws codes octets own rest text now w k within same is front back new =
    let code : ℕ = get_or codes k 0 in
    let tags = map tag_in ws in
    let lasts = map last_of ws in
    let items = items_of tags in
    let sample : Sample = sample_first w.tag.item code octets in
    let line : Text = line_if_new round (tag_in w) (last_of w) sample in
    let later = lines_left round ws codes (drop (count_read w.tag.item code) octets) (k + 1) in
    let others = samples_in (drop (k + 1) items) (drop (k + 1) codes) (drop (count_read w.tag.item code) octets) in
    let in_tags : k < length tags = omega (arith, length-map ws tag_in) in
    let in_lasts : k < length lasts = omega (arith, length-map ws last_of) in
    let tag_is : tag_in w ≡ get_or tags k (tag_in w) = ap tag_in is ∙ sym (get_or-map tag_in ws k w) in
    let last_is : last_of w ≡ get_or lasts k (last_of w) = ap last_of is ∙ sym (get_or-map last_of ws k w) in
    let whole : lines_left round ws codes octets k ≡ line ++ later =
    ap (λ s. new_lines round (drop k tags) (drop k lasts) s) (samples_at items codes octets k k w.tag.item code (watched_at ws codes w k within same is))
    ∙ ap (λ t. new_lines round t (drop k lasts) (sample ∷ others)) (left_at tags k (tag_in w) (tag_in w) in_tags tag_is)
    ∙ ap (λ l. new_lines round (tag_in w ∷ drop (k + 1) tags) l (sample ∷ others)) (left_at lasts k (last_of w) (last_of w) in_lasts last_is)
    ∙ lines_cons round (tag_in w) (drop (k + 1) tags) (last_of w) (drop (k + 1) lasts) sample others in
    ap (λ r. now ++ lines_left round ws codes r (k + 1)) back
    ∙ ap (λ t. t ++ later) (new ∙ ap (λ o. text ++ line_if_new round (tag_in w) (last_of w) (record { code = code; octets = o })) front)
    ∙ append_assoc text line later
    ∙ ap (λ l. text ++ l) (sym whole)

pub lines_ended : (round : ℕ) (ws : List Watched) (codes octets text : List ℕ) (k : ℕ) → length ws ≤ k
    → text ++ lines_left round ws codes octets k ≡ text
lines_ended round ws codes octets text k all =
    let lasts = drop k (map last_of ws) in
    let samples = samples_in (drop k (items_of (map tag_in ws))) (drop k codes) octets in
    let none : drop k (map tag_in ws) ≡ [] = drop_all k (map tag_in ws) (omega (arith, length-map ws tag_in)) in
    ap (λ t. text ++ new_lines round t lasts samples) none
    ∙ ap (λ l. text ++ l) (lines_none round lasts samples)
    ∙ append-nil text
