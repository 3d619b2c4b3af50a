-- Lemmas on the messages of parts of whole data blocks, and on what they are answered.
use Rattle.std.proofs.Common.{◌≡◌, ℕ, zero, suc, ◌+◌, ◌-◌, ◌<◌, ◌≤◌, Bool, true, false, cond, eqb, leb, ltb, Option, Some, None, List, [], ◌∷◌, take, drop, length, get_or, slice_index, refl, sym, ap, ◌∙◌, subst, arith}
use Rattle.std.specs.Prelude.{is_some, replicate, option_map, MatchOption}
use Rattle.std.specs.Option.{option_and_then}
use Rattle.std.proofs.Math.Path.{ap₂}
use Rattle.std.proofs.lemmas.Option.{same_Some}
use Rattle.std.proofs.lemmas.Bool.{and_parts, leb-true, ltb-true}
use Rattle.std.proofs.lemmas.List.{take-replicate}
use Rattle.s7_item.specs.declared.item.Item.{Item}
use Rattle.s7_item.specs.Item.{octet_count}
use Rattle.s7_item.specs.DataItem.{padding_of}
use Rattle.s7_item.specs.Sizes.{request_size}
use Rattle.s7_dialogue.specs.declared.transfers.data_block.DataBlock.{DataBlock}
use Rattle.s7_dialogue.specs.declared.transfers.data_block.Place.{Place}
use Rattle.s7_dialogue.specs.declared.answers.data_items.First.{First as Taken}
use Rattle.s7_dialogue.specs.declared.stages.single.Ask.TheVariants as ask
use Rattle.s7_dialogue.specs.declared.transfers.user_data.Told.{Told}
use Rattle.s7_dialogue.specs.declared.transfers.user_data.Told.TheVariants as told
use Rattle.s7_dialogue.specs.DataBlocks.{data_item}
use Rattle.s7_dialogue.specs.DataItems.{First, first_of, first_told, answer_in}
use Rattle.s7_dialogue.specs.Question.{reads, writes, question_octets}
use Rattle.s7_dialogue.specs.Answer.{Answer, ItemAnswer, tells, counts_items, begins_read, begins_refused, item_answers, acknowledged}
use Rattle.s7_dialogue.specs.Checks.{is_known}
use Rattle.s7_dialogue.specs.DataPlaces.{part_room, part_count, part_at, question_for, part_question, comes_for, has_pdu, is_inside}
use Rattle.s7_dialogue.specs.Singles.{TellsIfSome, IsToldOf}
use Rattle.s7_dialogue.proofs.ItemLemmas.{answers_first, then_others}
use Rattle.s7_dialogue.proofs.DataPartLemmas.{byte_size, byte_octets}

-- ---- what a part is answered

-- what is told of an answer, and nothing where there is none
abbrev IsToldPart : DataBlock → Place → List ℕ → Option Told → Option Answer → Type 0
IsToldPart block place so_far result answer =
    MatchOption result (answer ≡ None) (λ told. TellsIfSome (ask.Part block place) so_far told answer)

pub told_part : (block : DataBlock) (place : Place) (params body so_far : List ℕ) (value : Option ℕ)
    (result : Option Told) → block.value ≡ value
    → IsToldPart block place so_far result (acknowledged (question_for value (part_at block place)) params body)
    → IsToldPart block place so_far result (acknowledged (part_question block place) params body)
told_part block place params body so_far value result is told =
    subst
    (λ (v : Option ℕ). IsToldPart block place so_far result
    (acknowledged (question_for v (part_at block place)) params body))
    (sym is) told

few_by : (item : Item) (read refused : Bool) (octets : List ℕ) (code : ℕ) (rest later : List ℕ) (f : First)
    → cond read (Some (record { answer = record { code = 0xFF; octets = take (octet_count item) octets }; rest = rest }))
    (cond refused (Some (record { answer = record { code = code; octets = [] }; rest = later })) None)
    ≡ Some f → length f.answer.octets ≤ octet_count item
few_by item true refused octets code rest later f is =
    let g : First = record { answer = record { code = 0xFF; octets = take (octet_count item) octets }; rest = rest } in
    subst (λ (g : First). length g.answer.octets ≤ octet_count item) (same_Some g f is)
    (most_taken (octet_count item) octets)
  where
    most_taken : (n : ℕ) (xs : List ℕ) → length (take n xs) ≤ n
    most_taken zero xs = omega arith
    most_taken (suc n) [] = omega arith
    most_taken (suc n) (x ∷ xs) = omega (arith, most_taken n xs)
few_by item false true octets code rest later f is =
    let g : First = record { answer = record { code = code; octets = [] }; rest = later } in
    subst (λ (g : First). length g.answer.octets ≤ octet_count item) (same_Some g f is) (omega arith)
few_by item false false octets code rest later f is = absurd (cc)

-- an item has at most its octets
first_few : (item : Item) (last : Bool) (octets : List ℕ) (f : First) → first_of item last octets ≡ Some f
    → length f.answer.octets ≤ octet_count item
first_few item last octets f is =
    few_by item (begins_read item last octets) (begins_refused octets) (drop 4 octets) (slice_index octets 0)
    (drop (4 + octet_count item + padding_of (octet_count item) last) octets) (drop 4 octets) f is

alone_told : (part : Item) (body : List ℕ) (f : First) → first_of part true body ≡ Some f → length f.rest ≡ 0
    → item_answers (part ∷ []) body ≡ Some (f.answer ∷ [])
alone_told part body f is none =
    answers_first part [] body
    ∙ (ap (option_and_then (then_others [])) is
    ∙ ap
    (λ n. option_map (λ (xs : List ItemAnswer). f.answer ∷ xs) (cond (eqb n 0) (Some []) None))
    none)

-- what is told of a part's one data item
tells_item : (block : DataBlock) (place : Place) (so_far octets : List ℕ) (code : ℕ) (t : Told) → block.value ≡ None
    → length octets ≤ part_count block place → IsToldOf block place code octets t
    → TellsIfSome (ask.Part block place) so_far t (Some (tells (record { code = code; octets = octets } ∷ [])))
tells_item block place so_far octets code (told.Refused number) read few is = is
tells_item block place so_far octets code (told.Brought piece next) read few is =
    let comes : comes_for block.value (part_count block place) ≡ part_count block place =
    ap (λ v. comes_for v (part_count block place)) read in
    ((read, is.0, is.1, is.2), omega (arith, comes, few, ap length is.1))
tells_item block place so_far octets code (told.Anew next) read few is = absurd is

pub told_read : (block : DataBlock) (place : Place) (params body so_far : List ℕ) (r : Option Taken) (taken : Taken)
    (t : Told)
    → counts_items 0x04 (part_at block place ∷ []) params ≡ true
    → option_map first_told r ≡ first_of (part_at block place) true body → r ≡ Some taken
    → length taken.rest.now ≡ 0 → block.value ≡ None
    → IsToldOf block place taken.answer.code taken.answer.octets.now t
    → TellsIfSome (ask.Part block place) so_far t (acknowledged (reads (part_at block place ∷ [])) params body)
told_read block place params body so_far r taken t counts is some none read told =
    let part : Item = part_at block place in
    let first : first_of part true body ≡ Some (first_told taken) = sym is ∙ ap (option_map first_told) some in
    let answers : acknowledged (reads (part ∷ [])) params body
    ≡ Some (tells (answer_in taken.answer ∷ [])) =
    ap (λ b. cond b (option_map tells (item_answers (part ∷ []) body)) None) counts
    ∙ ap (option_map tells) (alone_told part body (first_told taken) first none) in
    let few : length taken.answer.octets.now ≤ part_count block place =
    omega (
      arith,
      first_few part true body (first_told taken) first,
      byte_octets block.number place.from (part_count block place),
    ) in
    subst (TellsIfSome (ask.Part block place) so_far t) (sym answers)
    (tells_item block place so_far taken.answer.octets.now taken.answer.code t read few told)

-- ---- the message of a part

pub byte_known : (number from count : ℕ) → is_known (data_item number from count) ≡ true
byte_known number from count = ap is_some byte_size

pub one_known : (items : List Item) (number from count k : ℕ) (d : Item) → items ≡ data_item number from count ∷ []
    → k < length items → is_known (get_or items k d) ≡ true
one_known items number from count k d is within =
    let first : k ≡ 0 = omega (arith, within, ap length is) in
    ap (λ n. is_known (get_or items n d)) first
    ∙ (ap (λ (xs : List Item). is_known (get_or xs 0 d)) is ∙ byte_known number from count)

no_padding : (n : ℕ) → padding_of n true ≡ 0
no_padding n = refl

-- a write of so many bytes
pub write_sized : (number from count : ℕ) → request_size (data_item number from count ∷ []) true ≡ 28 + count
write_sized number from count =
    let octets = byte_octets number from count in
    omega (arith, octets)

pub read_sized : (number from count : ℕ) → request_size (data_item number from count ∷ []) false ≡ 24
read_sized number from count = refl

-- the PDU is one that can be granted
pub pdu_within : (block : DataBlock) → has_pdu block ≡ true → (64 ≤ block.pdu) × (block.pdu ≤ 1920)
pdu_within block has =
    let both = and_parts (leb 64 block.pdu) (leb block.pdu 1920) has in
    (leb-true 64 block.pdu both.0, leb-true block.pdu 1920 both.1)

pub place_within : (place : Place) → is_inside place ≡ true
    → (0 < place.here) × (place.from + place.here + place.later ≤ 2097152)
place_within place inside =
    let both =
    and_parts (ltb 0 place.here) (leb (place.from + place.here + place.later) 2097152) inside in
    (ltb-true 0 place.here both.0, leb-true (place.from + place.here + place.later) 2097152 both.1)

room_by : (b : Bool) (pdu : ℕ) → 64 ≤ pdu → pdu ≤ 1920
    → (29 ≤ cond b (pdu - 35) (pdu - 18)) × (b ≡ true → cond b (pdu - 35) (pdu - 18) ≤ 1885)
room_by true pdu least most = (omega arith, λ e. omega arith)
room_by false pdu least most = (omega arith, λ e. absurd (let f : false ≡ true = e in cc))

pub room_some : (block : DataBlock) → has_pdu block ≡ true → 29 ≤ part_room block
room_some block has =
    let pdu = pdu_within block has in
    (room_by (is_some block.value) block.pdu pdu.0 pdu.1).0

-- as many octets of a value as a part has
pub few_written : (block : DataBlock) (place : Place) (value : ℕ) → has_pdu block ≡ true → block.value ≡ Some value
    → part_count block place ≤ 1885
few_written block place value has is =
    let pdu = pdu_within block has in
    let room = (room_by (is_some block.value) block.pdu pdu.0 pdu.1).1 (ap is_some is) in
    omega (arith, room)

pub filled_octets : (count value : ℕ) → count ≤ 1920 → take count (replicate {A = ℕ} 1920 value) ≡ replicate count value
filled_octets count value within = take-replicate count 1920 value within

pub write_spelled : (block : DataBlock) (place : Place) (value sequence : ℕ) (items : List Item)
    (octets message : List ℕ)
    → block.value ≡ Some value → items ≡ part_at block place ∷ [] → octets ≡ replicate (part_count block place) value
    → message ≡ question_octets sequence (writes items octets)
    → message ≡ question_octets sequence (part_question block place)
write_spelled block place value sequence items octets message is alone all spelled =
    spelled
    ∙ (ap₂ (λ (xs : List Item) ys. question_octets sequence (writes xs ys)) alone all
    ∙ ap (λ v. question_octets sequence (question_for v (part_at block place))) (sym is))
