-- The data items of an answer, taken one after another.
use Rattle.std.proofs.Common.{◌≡◌, ◌⊎◌, inl, inr, ℕ, ◌+◌, ◌-◌, ◌<◌, ◌≤◌, Bool, true, false, cond, eqb, Option, Some, None, List, [], ◌∷◌, ◌++◌, map, length, drop, get_or, slice_set, refl, sym, ap, ◌∙◌, subst, append_assoc, arith}
use Rattle.std.specs.Bool.{MatchBool}
use Rattle.std.specs.Option.{option_map, option_and_then}
use Rattle.std.proofs.lemmas.Bool.Decides.{nat_tests}
use Rattle.std.proofs.Math.Path.{ap₂}
use Rattle.std.proofs.lemmas.List.{append-nil, map-append, length-drop, drop_all, drop_more}
use Rattle.std.proofs.lemmas.List.Edits.{length-paste}
use lib.Seq.{paste}
use Rattle.s7_item.specs.declared.item.Item.{Item}
use Rattle.s7_item.specs.Item.{octet_count}
use Rattle.s7_dialogue.specs.declared.answers.data_items.First.{First as Taken}
use Rattle.s7_dialogue.specs.declared.answers.data_items.ItemAnswer.{ItemAnswer as Kept}
use Rattle.s7_dialogue.specs.Answer.{ItemAnswer, begins_read, begins_refused, item_first, item_answers}
use Rattle.s7_dialogue.specs.DataItems.{First, first_of, first_told, answer_in, answers_in}
use Rattle.s7_dialogue.specs.Checks.{octet_count_of}
use Rattle.s7_dialogue.specs.GoesOn.{TellAll}
use Rattle.s7_dialogue.specs.Taking.{with_codes, with_octets}

-- the answer of a data item before those for these items, which are in the rest
abbrev pub then_others : List Item → First → Option (List ItemAnswer)
then_others items first = option_map (item_first first.answer) (item_answers items first.rest)

by_tests : {A : Type 0} (read refused : Bool) (x y : First) (f : First → Option A)
    → cond read (f x) (cond refused (f y) None) ≡ option_and_then f (cond read (Some x) (cond refused (Some y) None))
by_tests true refused x y f = refl
by_tests false true x y f = refl
by_tests false false x y f = refl

-- the answers for an item and others
pub answers_first : (item : Item) (items : List Item) (octets : List ℕ)
    → item_answers (item ∷ items) octets ≡ option_and_then (then_others items)
    (first_of item (eqb (length items) 0) octets)
answers_first item items octets =
    by_tests (begins_read item (eqb (length items) 0) octets) (begins_refused octets) _ _ (then_others items)

is_last : (k n : ℕ) → k < n → eqb (k + 1) n ≡ eqb (n - (k + 1)) 0
is_last k n less = grind (arith, nat_tests)

-- the test whether the k-th item is the last one
pub last_dropped : (items : List Item) (k : ℕ) → k < length items
    → eqb (k + 1) (length items) ≡ eqb (length (drop (k + 1) items)) 0
last_dropped items k less = is_last k (length items) less ∙ ap (λ n. eqb n 0) (sym (length-drop (k + 1) items))

-- the answers for the items from the k-th on
pub answers_at : (items : List Item) (k : ℕ) (d : Item) (octets : List ℕ) (r : Option Taken) → k < length items
    → option_map first_told r ≡ first_of (get_or items k d) (eqb (k + 1) (length items)) octets
    → item_answers (drop k items) octets ≡ option_and_then (then_others (drop (k + 1) items))
    (option_map first_told r)
answers_at items k d octets r less is =
    ap (λ xs. item_answers xs octets) (drop_more items k d less)
    ∙ (answers_first (get_or items k d) (drop (k + 1) items) octets
    ∙ ap (option_and_then (then_others (drop (k + 1) items)))
    (ap (λ b. first_of (get_or items k d) b octets) (sym (last_dropped items k less)) ∙ sym is))

-- a data item, and the answers for the items after it
pub answers-some : (items : List Item) (k : ℕ) (d : Item) (octets : List ℕ) (r : Option Taken) (taken : Taken)
    → k < length items → option_map first_told r ≡ first_of (get_or items k d) (eqb (k + 1) (length items)) octets
    → r ≡ Some taken → item_answers (drop k items) octets ≡ then_others (drop (k + 1) items) (first_told taken)
answers-some items k d octets r taken less is some =
    answers_at items k d octets r less is
    ∙ ap (λ o. option_and_then (then_others (drop (k + 1) items)) (option_map first_told o)) some

-- the data item of the k-th item of a slice
found_first : (slice items : List Item) (k n : ℕ) (d : Item) (octets : List ℕ) (r : Option Taken) → slice ≡ items
    → n ≡ length items
    → option_map first_told r ≡ first_of (get_or slice k d) (eqb (k + 1) n) octets
    → option_map first_told r ≡ first_of (get_or items k d) (eqb (k + 1) (length items)) octets
found_first slice items k n d octets r same long is =
    is ∙ (ap (λ xs. first_of (get_or xs k d) (eqb (k + 1) n) octets) same
    ∙ ap (λ m. first_of (get_or items k d) (eqb (k + 1) m) octets) long)

-- ---- the answers that the octets are

-- those that were read, and those that are told of the items to come
abbrev pub read_with : List ItemAnswer → Option (List ItemAnswer) → Option (List ItemAnswer)
read_with so_far told = option_map (λ (others : List ItemAnswer). so_far ++ others) told

read_first : (so_far : List ItemAnswer) (answer : ItemAnswer) (told : Option (List ItemAnswer))
    → read_with so_far (option_map (item_first answer) told) ≡ read_with (so_far ++ answer ∷ []) told
read_first so_far answer None = refl
read_first so_far answer (Some others) = ap Some (sym (append_assoc so_far (answer ∷ []) others))

-- the answer of the k-th item is read
pub read_step : (slice items : List Item) (k n : ℕ) (d : Item) (octets : List ℕ) (so_far now : List Kept)
    (r : Option Taken) (taken : Taken) (all : Option (List ItemAnswer))
    → slice ≡ items → n ≡ length items → k < length slice
    → option_map first_told r ≡ first_of (get_or slice k d) (eqb (k + 1) n) octets
    → r ≡ Some taken → now ≡ so_far ++ taken.answer ∷ []
    → read_with (answers_in so_far) (item_answers (drop k items) octets) ≡ all
    → read_with (answers_in now) (item_answers (drop (k + 1) items) taken.rest.now) ≡ all
read_step slice items k n d octets so_far now r taken all same long less is some new inv =
    let others = drop (k + 1) items in
    let told = item_answers others taken.rest.now in
    let within : k < length items = omega (arith, less, ap length same) in
    ap (λ xs. read_with xs told) (ap answers_in new ∙ map-append answer_in so_far (taken.answer ∷ []))
    ∙ (sym (read_first (answers_in so_far) (answer_in taken.answer) told)
    ∙ (ap (read_with (answers_in so_far))
    (sym (answers-some items k d octets r taken within (found_first slice items k n d octets r same long is) some))
    ∙ inv))

-- or isn't there
pub read_stops : (slice items : List Item) (k n : ℕ) (d : Item) (octets : List ℕ) (so_far : List ItemAnswer)
    (r : Option Taken) (all : Option (List ItemAnswer))
    → slice ≡ items → n ≡ length items → k < length slice
    → option_map first_told r ≡ first_of (get_or slice k d) (eqb (k + 1) n) octets → r ≡ None
    → read_with so_far (item_answers (drop k items) octets) ≡ all → None ≡ all
read_stops slice items k n d octets so_far r all same long less is none inv =
    let within : k < length items = omega (arith, less, ap length same) in
    let stops : item_answers (drop k items) octets ≡ None =
    answers_at items k d octets r within (found_first slice items k n d octets r same long is)
    ∙ ap (λ o. option_and_then (then_others (drop (k + 1) items)) (option_map first_told o)) none in
    sym (ap (read_with so_far) stops) ∙ inv

if_empty : (empty : Bool) (so_far : List ItemAnswer)
    → cond empty (Some so_far) None ≡ read_with so_far (cond empty (Some []) None)
if_empty true so_far = ap Some (sym (append-nil so_far))
if_empty false so_far = refl

-- those of all items were read
pub read_ends : (slice items : List Item) (k : ℕ) (rest : List ℕ) (so_far : List ItemAnswer)
    (all : Option (List ItemAnswer))
    → slice ≡ items → length slice ≤ k
    → read_with so_far (item_answers (drop k items) rest) ≡ all → cond (eqb (length rest) 0) (Some so_far) None ≡ all
read_ends slice items k rest so_far all same end inv =
    let none : drop k items ≡ [] = drop_all k items (omega (arith, end, ap length same)) in
    if_empty (eqb (length rest) 0) so_far
    ∙ (sym (ap (λ xs. read_with so_far (item_answers xs rest)) none) ∙ inv)

-- ---- what is placed

-- an item has at most its octets
few_octets : (good : Bool) (octets : List ℕ) (n : ℕ) → MatchBool good (length octets ≡ n) (octets ≡ [])
    → length octets ≤ n
few_octets true octets n is = omega (arith, is)
few_octets false octets n is = omega (arith, ap length is)

abbrev pub codes_told : List ItemAnswer → List ℕ
codes_told answers = map (λ (answer : ItemAnswer). answer.code) answers

-- What was placed so far, of items and their answers, where these are to come.
pub record IsPlaced (items : List Item) (kept : List Kept) (at next room : ℕ) (found codes found' codes' : List ℕ)
    : Type 0 where
  pub octets : with_octets at items (answers_in kept) found ≡ found'
  pub noted : with_codes next (codes_told (answers_in kept)) codes ≡ codes'
  pub told : TellAll items (answers_in kept)
  pub within : at + octet_count_of items ≤ length found
  pub few : next + length items ≤ room

-- nothing is placed yet
pub place_starts : (items rest : List Item) (answers kept : List Kept) (at next room : ℕ) (found codes : List ℕ)
    → rest ≡ items → kept ≡ answers → TellAll items (answers_in answers)
    → at + octet_count_of items ≤ length found → next + length items ≤ room
    → IsPlaced rest kept at next room found codes (with_octets at rest (answers_in kept) found)
    (with_codes next (codes_told (answers_in kept)) codes)
place_starts items rest answers kept at next room found codes is same told within few = record {
  octets = refl;
  noted = refl;
  told =
      subst (λ (xs : List Item). TellAll xs (answers_in kept)) (sym is)
      (subst (λ (ks : List Kept). TellAll items (answers_in ks)) (sym same) told);
  within = omega (arith, within, ap octet_count_of is);
  few = omega (arith, few, ap length is);
}

-- the first of them has room
place_room : (items others : List Item) (kept later : List Kept) (item : Item) (answer : Kept) (at next room : ℕ)
    (found codes found' codes' : List ℕ)
    → items ≡ item ∷ others → kept ≡ answer ∷ later → IsPlaced items kept at next room found codes found' codes'
    → (length answer.octets.now ≤ octet_count item) × (at + octet_count item + octet_count_of others ≤ length found)
    × (next + 1 + length others ≤ room) × TellAll others (answers_in later)
place_room items others kept later item answer at next room found codes found' codes' is same placed =
    let told : TellAll (item ∷ others) (answers_in (answer ∷ later)) =
    subst (λ (xs : List Item). TellAll xs (answers_in (answer ∷ later))) is
    (subst (λ (ks : List Kept). TellAll items (answers_in ks)) same placed.told) in (
      few_octets (eqb answer.code 0xFF) answer.octets.now (octet_count item) told.0,
      omega (arith, placed.within, ap octet_count_of is),
      omega (arith, placed.few, ap length is),
      told.1,
    )

-- and is placed
pub place_step : (items others : List Item) (kept later : List Kept) (item : Item) (answer : Kept)
    (at next room count at' next' : ℕ) (found codes now noted found' codes' : List ℕ)
    → items ≡ item ∷ others → kept ≡ answer ∷ later → IsPlaced items kept at next room found codes found' codes'
    → count ≡ octet_count item → at' ≡ at + count → next' ≡ next + 1
    → now ≡ paste found at answer.octets.now (length answer.octets.now)
    → noted ≡ slice_set codes next answer.code
    → IsPlaced others later at' next' room now noted found' codes'
place_step items others kept later item answer at next room count at' next' found codes now noted found' codes' is same
    placed counts on more new coded =
    let first = place_room items others kept later item answer at next room found codes found' codes' is same placed in
    let past : at' ≡ at + octet_count item = on ∙ ap (λ n. at + n) counts in
    let long : length now ≡ length found =
    ap length new
    ∙ length-paste found at answer.octets.now (length answer.octets.now) (omega (arith, first.0, first.1))
    (omega arith) in
    record {
      octets =
          ap₂ (λ i xs. with_octets i others (answers_in later) xs) past new
          ∙ (sym (ap₂ (λ (xs : List Item) (ks : List Kept). with_octets at xs (answers_in ks) found) is same)
          ∙ placed.octets);
      noted =
          ap₂ (λ i xs. with_codes i (codes_told (answers_in later)) xs) more coded
          ∙ (sym (ap (λ (ks : List Kept). with_codes next (codes_told (answers_in ks)) codes) same) ∙ placed.noted);
      told = first.3;
      within = omega (arith, first.1, past, long);
      few = omega (arith, first.2, more);
    }

none_left : (items : List Item) (answers : List ItemAnswer) → TellAll items answers → (items ≡ []) ⊎ (answers ≡ [])
    → (items ≡ []) × (answers ≡ [])
none_left [] [] told end = (refl, refl)
none_left [] (answer ∷ answers) told end = absurd told
none_left (item ∷ items) [] told end = absurd told
none_left (item ∷ items) (answer ∷ answers) told (inl e) = absurd (cc)
none_left (item ∷ items) (answer ∷ answers) told (inr e) = absurd (cc)

none_kept : (items : List Item) (kept : List Kept) → (items ≡ []) ⊎ (kept ≡ []) → (items ≡ []) ⊎ (answers_in kept ≡ [])
none_kept items kept (inl e) = inl e
none_kept items kept (inr e) = inr (ap answers_in e)

-- none is left
pub place_ends : (items : List Item) (kept : List Kept) (at next room : ℕ) (found codes found' codes' : List ℕ)
    → (items ≡ []) ⊎ (kept ≡ []) → IsPlaced items kept at next room found codes found' codes'
    → (found ≡ found') × (codes ≡ codes')
place_ends items kept at next room found codes found' codes' end placed =
    let none = none_left items (answers_in kept) placed.told (none_kept items kept end) in (
      sym (ap (λ (xs : List Item). with_octets at xs (answers_in kept) found) none.0) ∙ placed.octets,
      sym (ap (λ xs. with_codes next (codes_told xs) codes) none.1) ∙ placed.noted,
    )
