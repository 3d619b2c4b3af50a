-- Lemmas on the ends of reads and writes: what was found is what the answers tell.
use Rattle.std.proofs.Common.{◌≡◌, ℕ, ◌+◌, Bool, true, false, cond, eqb, Option, Some, None, List, [], ◌∷◌, ◌++◌, length, map, take, drop, refl, sym, ap, ◌∙◌, subst, append_assoc, arith}
use Rattle.std.specs.Prelude.{replicate}
use Rattle.std.specs.Bool.{MatchBool}
use Rattle.std.specs.List.{flat_map, AllByRecursion}
use Rattle.std.proofs.lemmas.List.{length-append, length-map, length-replicate, length-take-le, take_at, drop_at}
use Rattle.s7_item.specs.declared.item.Item.{Item}
use Rattle.s7_item.specs.Item.{octet_count}
use Rattle.s7_dialogue.specs.Question.{Question, reads, writes}
use Rattle.s7_dialogue.specs.Answer.{Answer, ItemAnswer, tells, notes, refuses}
use Rattle.s7_dialogue.specs.Refusals.{number_of_code, telegram_refusal, part_refusal}
use Rattle.s7_dialogue.specs.Flight.{Row, answers_of}
use Rattle.s7_dialogue.specs.Left.{joined}
use Rattle.s7_dialogue.specs.Dialogue.{read_questions, first_or, refusal_in, first_refusal, items_told, codes_in, of_answer, octets_told, codes_told}
use Rattle.s7_dialogue.specs.Asks.{items_of}
use Rattle.s7_dialogue.specs.GoesOn.{AreAlone, filled_up, told_of_items, octets_at_places, octets_of_row, codes_of_row, TellAll, FitsQuestion, IsFit}
use Rattle.s7_dialogue.specs.Taking.{without_gaps}
use Rattle.s7_dialogue.proofs.FlightLemmas.{IsAnswered}

-- ---- numbers that fill their places

pub length-filled : (n : ℕ) (numbers : List ℕ) → length (filled_up n numbers) ≡ n
length-filled n numbers =
    let long : length (replicate {A = ℕ} n 0) ≡ n = length-replicate n 0 in
    length-take-le n (numbers ++ replicate n 0) (omega (arith, long, length-append numbers (replicate n 0)))

pub filled_whole : (n : ℕ) (numbers : List ℕ) → length numbers ≡ n → filled_up n numbers ≡ numbers
filled_whole n numbers long = take_at numbers (replicate n 0) n long

-- ---- the answers of telegrams that don't refuse

-- an answer is there, and doesn't refuse
pub record IsGood (refusal : Answer → Option ℕ) (row : Row) : Type 0 where
  pub answer : Answer
  pub is : row.answer ≡ Some answer
  pub unrefused : refusal answer ≡ None
  pub fits : FitsQuestion row.question answer

pub first_none : (o : Option ℕ) (place : ℕ) (later : Option (ℕ × ℕ)) → first_or o place later ≡ None
    → (o ≡ None) × (later ≡ None)
first_none None place later none = (refl, none)
first_none (Some n) place later none = absurd (cc)

pub all_good : (refusal : Answer → Option ℕ) (place : ℕ) (rows : List Row) → AllByRecursion IsAnswered rows
    → AllByRecursion IsFit rows
    → first_refusal refusal place (answers_of rows) ≡ None → AllByRecursion (IsGood refusal) rows
all_good refusal place [] answered fit none = tt
all_good refusal place (row ∷ rows) answered fit none =
    let answer = answered.0.0 in
    let both =
    first_none (refusal_in refusal row.answer) place (first_refusal refusal (place + 1) (answers_of rows)) none in (
      record {
        answer = answer;
        is = answered.0.1;
        unrefused = ap (refusal_in refusal) (sym answered.0.1) ∙ both.0;
        fits = subst (λ o. IsFit (record row { answer = o })) answered.0.1 fit.0;
      },
      all_good refusal (place + 1) rows answered.1 fit.1 both.1,
    )

-- ---- codes

pub length-told : (items : List Item) (answers : List ItemAnswer) → TellAll items answers
    → length answers ≡ length items
length-told [] [] told = refl
length-told [] (a ∷ answers) told = absurd told
length-told (item ∷ items) [] told = absurd told
length-told (item ∷ items) (a ∷ answers) told = omega (arith, length-told items answers told.1)

-- a read or a write, which is answered by as many codes as it has items
abbrev pub AsksItems : Question → Type 0
AsksItems (reads items) = Unit {0}
AsksItems (writes items octets) = Unit {0}
AsksItems _ = ⊥

many_codes : (question : Question) (answer : Answer) → AsksItems question → FitsQuestion question answer
    → telegram_refusal answer ≡ None → length (codes_in answer) ≡ length (items_of question)
many_codes (reads items) (tells answers) asks fits good =
    length-map answers (λ (item : ItemAnswer). item.code) ∙ length-told items answers fits
many_codes (reads items) (refuses error) asks fits good = absurd (cc)
many_codes (reads items) _ asks fits good = absurd fits
many_codes (writes items octets) (notes codes) asks fits good = fits
many_codes (writes items octets) (refuses error) asks fits good = absurd (cc)
many_codes (writes items octets) _ asks fits good = absurd fits
many_codes _ answer asks fits good = absurd asks

row_codes : (row : Row) → AsksItems row.question → (good : IsGood telegram_refusal row)
    → codes_of_row row ≡ of_answer codes_in row.answer
row_codes row asks good =
    ap (λ o. filled_up (length (items_of row.question)) (of_answer codes_in o)) good.is
    ∙ (filled_whole (length (items_of row.question)) (codes_in good.answer)
    (many_codes row.question good.answer asks good.fits good.unrefused)
    ∙ ap (of_answer codes_in) (sym good.is))

-- the codes at their places are those that were told
pub codes_found : (rows : List Row) → AllByRecursion (λ (row : Row). AsksItems row.question) rows
    → AllByRecursion (IsGood telegram_refusal) rows → flat_map codes_of_row rows ≡ codes_told (answers_of rows)
codes_found [] asks good = refl
codes_found (row ∷ rows) asks good =
    ap (λ xs. xs ++ flat_map codes_of_row rows) (row_codes row asks.0 good.0)
    ∙ ap (λ xs. of_answer codes_in row.answer ++ xs) (codes_found rows asks.1 good.1)

-- ---- octets of several items

abbrev told_octets : List ItemAnswer → List ℕ
told_octets answers = flat_map (λ (item : ItemAnswer). item.octets) answers

-- the octets of one item, where it was read, and no gap where it wasn't
item_closed : (good : Bool) (n : ℕ) (octets rest : List ℕ) → MatchBool good (length octets ≡ n) (octets ≡ [])
    → cond good (take n (filled_up n octets ++ rest)) [] ≡ octets
item_closed true n octets rest told =
    take_at (filled_up n octets) rest n (length-filled n octets) ∙ filled_whole n octets told
item_closed false n octets rest told = sym told

-- those of a group before others
group_closed : (items others : List Item) (answers : List ItemAnswer) (codes found : List ℕ) → TellAll items answers
    → without_gaps (items ++ others) (map (λ (item : ItemAnswer). item.code) answers ++ codes)
    (octets_at_places items answers ++ found)
    ≡ told_octets answers ++ without_gaps others codes found
group_closed [] others [] codes found told = refl
group_closed [] others (a ∷ answers) codes found told = absurd told
group_closed (item ∷ items) others [] codes found told = absurd told
group_closed (item ∷ items) others (a ∷ answers) codes found told =
    let n = octet_count item in
    let cs = map (λ (item : ItemAnswer). item.code) answers ++ codes in
    let rest = octets_at_places items answers ++ found in
    ap (λ xs. cond (eqb a.code 0xFF) (take n xs) [] ++ without_gaps (items ++ others) cs (drop n xs))
    (append_assoc (filled_up n a.octets) (octets_at_places items answers) found)
    ∙ (ap (λ xs. xs ++ without_gaps (items ++ others) cs (drop n (filled_up n a.octets ++ rest)))
    (item_closed (eqb a.code 0xFF) n a.octets rest told.0)
    ∙ (ap (λ xs. a.octets ++ without_gaps (items ++ others) cs xs)
    (drop_at (filled_up n a.octets) rest n (length-filled n a.octets))
    ∙ (ap (λ xs. a.octets ++ xs) (group_closed items others answers codes found told.1)
    ∙ sym (append_assoc a.octets (told_octets answers) (without_gaps others codes found)))))

-- what a telegram that reads these items tells
abbrev ReadTold : List Item → Answer → Type 0
ReadTold items answer = (answers : List ItemAnswer) × (answer ≡ tells answers) × TellAll items answers

told_as : (items : List Item) (answer : Answer) → FitsQuestion (reads items) answer → telegram_refusal answer ≡ None
    → ReadTold items answer
told_as items (tells answers) fits good = (answers, refl, fits)
told_as items (refuses error) fits good = absurd (cc)
told_as items _ fits good = absurd fits

read_told : (question : Question) (items : List Item) (answer : Answer) → question ≡ reads items
    → FitsQuestion question answer
    → telegram_refusal answer ≡ None → ReadTold items answer
read_told question items answer is fits good =
    told_as items answer (subst (λ (q : Question). FitsQuestion q answer) is fits) good

-- the octets of the items of a telegram, closed up, before those of others
row_closed : (row : Row) (group others : List Item) (codes found : List ℕ) → row.question ≡ reads group
    → IsGood telegram_refusal row
    → without_gaps (group ++ others) (codes_of_row row ++ codes) (octets_of_row row ++ found)
    ≡ of_answer (λ answer. told_octets (items_told answer)) row.answer ++ without_gaps others codes found
row_closed row group others codes found is good =
    let told = read_told row.question group good.answer is good.fits good.unrefused in
    let answer : row.answer ≡ Some (tells told.0) = good.is ∙ ap Some told.1 in
    let noted : codes_of_row row ≡ map (λ (item : ItemAnswer). item.code) told.0 =
    row_codes row (subst AsksItems (sym is) tt) good ∙ ap (of_answer codes_in) answer in
    let octets : octets_of_row row ≡ octets_at_places group told.0 =
    ap (λ q. octets_of_row (record row { question = q })) is
    ∙ ap (λ o. octets_at_places group (told_of_items o)) answer in
    ap (λ xs. without_gaps (group ++ others) (xs ++ codes) (octets_of_row row ++ found)) noted
    ∙ (ap (λ xs. without_gaps (group ++ others) (map (λ (item : ItemAnswer). item.code) told.0 ++ codes)
    (xs ++ found)) octets
    ∙ (group_closed group others told.0 codes found told.2
    ∙ ap (λ o. of_answer (λ answer. told_octets (items_told answer)) o ++ without_gaps others codes found)
    (sym answer)))

pub heads_same : {A : Type 0} (x y : A) (xs ys : List A) → x ∷ xs ≡ y ∷ ys → (x ≡ y) × (xs ≡ ys)
heads_same x y xs ys is = (cc, cc)

-- of all items
pub many_closed : (rows : List Row) (groups : List (List Item))
    → map (λ (row : Row). row.question) rows ≡ read_questions groups
    → AllByRecursion (IsGood telegram_refusal) rows
    → without_gaps (joined groups) (flat_map codes_of_row rows) (flat_map octets_of_row rows) ≡ octets_told
    (answers_of rows)
many_closed [] [] is good = refl
many_closed [] (group ∷ groups) is good = absurd (omega (arith, ap length is))
many_closed (row ∷ rows) [] is good = absurd (omega (arith, ap length is))
many_closed (row ∷ rows) (group ∷ groups) is good =
    let both =
    heads_same row.question (reads group) (map (λ (row : Row). row.question) rows) (read_questions groups) is in
    row_closed row group (joined groups) (flat_map codes_of_row rows) (flat_map octets_of_row rows) both.0 good.0
    ∙ ap (λ xs. of_answer (λ answer. told_octets (items_told answer)) row.answer ++ xs)
    (many_closed rows groups both.1 good.1)

-- ---- octets of one item, in parts

code_good : (code : ℕ) (is_good : Bool) → eqb code 0xFF ≡ is_good
    → cond is_good None (Some (number_of_code code)) ≡ None → is_good ≡ true
code_good code true is none = refl
code_good code false is none = absurd (cc)

-- a part that doesn't refuse has all its octets
part_octets : (item : Item) (items : List Item) (answer : Answer) → FitsQuestion (reads (item ∷ items)) answer
    → length (item ∷ items) ≡ 1
    → part_refusal answer ≡ None
    → octets_at_places (item ∷ items) (items_told answer) ≡ told_octets (items_told answer)
part_octets item items (refuses error) fits one good = absurd (cc)
part_octets item items (tells []) fits one good = absurd fits
part_octets item (next ∷ items) (tells (a ∷ answers)) fits one good = absurd (omega (arith, one))
part_octets item [] (tells (a ∷ b ∷ answers)) fits one good = absurd fits.1
part_octets item [] (tells (a ∷ [])) fits one good =
    let read : eqb a.code 0xFF ≡ true = code_good a.code (eqb a.code 0xFF) refl good in
    let whole : length a.octets ≡ octet_count item =
    subst (λ (b : Bool). MatchBool b (length a.octets ≡ octet_count item) (a.octets ≡ [])) read fits.0 in
    ap (λ xs. xs ++ []) (filled_whole (octet_count item) a.octets whole)
part_octets item items _ fits one good = absurd fits

part_found : (row : Row) (group : List Item) → row.question ≡ reads group → length group ≡ 1 → IsGood part_refusal row
    → octets_of_row row ≡ of_answer (λ answer. told_octets (items_told answer)) row.answer
part_found row [] is one good = absurd (omega (arith, one))
part_found row (item ∷ items) is one good =
    let fits : FitsQuestion (reads (item ∷ items)) good.answer =
    subst (λ (q : Question). FitsQuestion q good.answer) is good.fits in
    ap (λ q. octets_of_row (record row { question = q })) is
    ∙ (ap (λ o. octets_at_places (item ∷ items) (told_of_items o)) good.is
    ∙ (part_octets item items good.answer fits one good.unrefused
    ∙ ap (of_answer (λ answer. told_octets (items_told answer))) (sym good.is)))

pub parts_found : (rows : List Row) (groups : List (List Item))
    → map (λ (row : Row). row.question) rows ≡ read_questions groups
    → AreAlone groups → AllByRecursion (IsGood part_refusal) rows
    → flat_map octets_of_row rows ≡ octets_told (answers_of rows)
parts_found [] groups is alone good = refl
parts_found (row ∷ rows) [] is alone good = absurd (omega (arith, ap length is))
parts_found (row ∷ rows) (group ∷ groups) is alone good =
    let both =
    heads_same row.question (reads group) (map (λ (row : Row). row.question) rows) (read_questions groups) is in
    ap (λ xs. xs ++ flat_map octets_of_row rows) (part_found row group both.0 alone.0 good.0)
    ∙ ap (λ xs. of_answer (λ answer. told_octets (items_told answer)) row.answer ++ xs)
    (parts_found rows groups both.1 alone.1 good.1)
