-- Lemmas on the parts of whole data blocks: the first of those from a place on, and those behind it.
use Rattle.std.proofs.Common.{◌≡◌, ℕ, zero, suc, ◌+◌, ◌-◌, ◌*◌, ◌/◌, ◌<◌, ◌≤◌, min, Bool, true, false, cond, eqb, ltb, Option, Some, None, List, [], ◌∷◌, ◌++◌, take, drop, refl, sym, ap, ◌∙◌, arith, add-one}
use Rattle.std.specs.Prelude.{is_some, unwrap_or, replicate}
use Rattle.std.proofs.Math.Path.{ap₂}
use Rattle.std.proofs.Math.Nat.{add-div_right}
use Rattle.std.proofs.lemmas.Nat.{div_below}
use Rattle.std.proofs.lemmas.Bool.{eqb-true, eqb-false, ltb-true, ltb-false}
use Rattle.std.proofs.lemmas.List.{take-replicate, drop-replicate}
use Rattle.s7_item.specs.declared.item.Item.{Item}
use Rattle.s7_item.specs.Item.{octet_count}
use Rattle.s7_item.specs.Word.{size_of}
use Rattle.s7_split.specs.Parts.{room_of, elements, parts_from, parts_of}
use Rattle.s7_dialogue.specs.declared.transfers.data_block.DataBlock.{DataBlock}
use Rattle.s7_dialogue.specs.declared.transfers.data_block.Place.{Place}
use Rattle.s7_dialogue.specs.DataBlocks.{data_item, data_items_from}
use Rattle.s7_dialogue.specs.Question.{writes}
use Rattle.s7_dialogue.specs.Dialogue.{alone, write_questions}
use Rattle.s7_dialogue.specs.DataPlaces.{place_from, place_behind, octets_behind, part_room, part_count, part_at, next_part, items_behind, parts_of_all, parts_behind, question_for, part_question, questions_for, questions_behind, data_questions}

-- ---- bytes

pub byte_size : size_of 0x02 ≡ Some 1
unfolding size_of
byte_size = refl

once : (n : ℕ) → n * 1 ≡ n
once n = omega arith

pub byte_octets : (number from count : ℕ) → octet_count (data_item number from count) ≡ count
byte_octets number from count = ap (λ o. count * unwrap_or o 0) byte_size ∙ once count

by_one : (n : ℕ) → n / 1 ≡ n
by_one n = omega arith

-- how many octets a part has room for
pub byte_room : (number from count pdu : ℕ) (write : Bool)
    → room_of (data_item number from count) pdu write ≡ cond write (pdu - 35) (pdu - 18)
byte_room number from count pdu write =
    ap (λ o. cond write (pdu - 35) (pdu - 18) / unwrap_or o 0) byte_size ∙ by_one (cond write (pdu - 35) (pdu - 18))

-- ---- an item cut into pieces

-- so many pieces, each with as many octets as there is room for and are left
abbrev pub pieces : ℕ → ℕ → ℕ → ℕ → ℕ → List Item
pieces zero room number from left = []
pieces (suc n) room number from left =
    data_item number from (min room left) ∷ pieces n room number (from + min room left) (left - min room left)

address_at : (from k : ℕ) → 8 * from + k * (8 * unwrap_or (size_of 0x02) 0) ≡ 8 * (from + k)
address_at from k = ap (λ o. 8 * from + k * (8 * unwrap_or o 0)) byte_size ∙ eight from k
  where
    eight : (m n : ℕ) → 8 * m + n * (8 * 1) ≡ 8 * (m + n)
    eight m n = omega arith

piece_at : (number from count k n : ℕ) → elements (data_item number from count) k n ≡ data_item number (from + k) n
piece_at number from count k n =
    ap (λ a. record { area = 0x84; db = number; word = 0x02; count = n; address = a }) (address_at from k)

further_on : (a b c : ℕ) → a + (b + c) ≡ a + b + c
further_on a b c = omega arith

less_by : (a b c : ℕ) → a - (b + c) ≡ a - b - c
less_by a b c = omega arith

parts_are : (n room number from count k : ℕ)
    → parts_from n room (data_item number from count) k ≡ pieces n room number (from + k) (count - k)
parts_are zero room number from count k = refl
parts_are (suc n) room number from count k =
    let m : ℕ = min room (count - k) in
    ap₂ (λ x xs. x ∷ xs) (piece_at number from count k m)
    (parts_are n room number from count (k + m)
    ∙ ap₂ (λ f c. pieces n room number f c) (further_on from k m) (less_by count k m))

plus_none : (n : ℕ) → n + 0 ≡ n
plus_none n = omega arith

less_none : (n : ℕ) → n - 0 ≡ n
less_none n = omega arith

-- the parts of an item of bytes are such pieces
pub parts_pieces : (number from count pdu room : ℕ) (write : Bool) → room ≡ cond write (pdu - 35) (pdu - 18)
    → parts_of (data_item number from count) pdu write ≡ pieces (suc ((count - 1) / room)) room number from count
unfolding parts_of
parts_pieces number from count pdu room write is =
    let item : Item = data_item number from count in
    ap (λ r. parts_from ((count - 1) / r + 1) r item 0) (byte_room number from count pdu write ∙ sym is)
    ∙ (ap (λ n. parts_from n room item 0) (add-one ((count - 1) / room))
    ∙ (parts_are (suc ((count - 1) / room)) room number from count 0
    ∙ ap₂ (λ f c. pieces (suc ((count - 1) / room)) room number f c) (plus_none from) (less_none count)))

first_quotient : (count room : ℕ) → 0 < room → room < count
    → (count - 1) / room ≡ suc ((count - room - 1) / room)
first_quotient count room some more =
    let back : count - 1 ≡ count - room - 1 + room = omega arith in
    ap (λ n. n / room) back ∙ (add-div_right (count - room - 1) some ∙ add-one ((count - room - 1) / room))

no_quotient : (count room : ℕ) → 0 < room → 0 < count → count ≤ room → (count - 1) / room ≡ 0
no_quotient count room some any within =
    let few : count - 1 < 1 * room = omega arith in
    let less : (count - 1) / room < 1 = div_below (count - 1) room 1 some few in
    omega (arith, less)

-- the first of them, and those behind it where it isn't all
parts_more : (number from count pdu room : ℕ) (write : Bool) → room ≡ cond write (pdu - 35) (pdu - 18) → 0 < room
    → min room count < count
    → parts_of (data_item number from count) pdu write
    ≡ data_item number from (min room count)
    ∷ parts_of (data_item number (from + min room count) (count - min room count)) pdu write
parts_more number from count pdu room write is some more =
    let m : ℕ = min room count in
    let same : m ≡ room = omega arith in
    let left : suc ((count - room - 1) / room) ≡ suc ((count - m - 1) / room) =
    ap (λ n. suc ((count - n - 1) / room)) (sym same) in
    parts_pieces number from count pdu room write is
    ∙ (ap (λ n. pieces (suc n) room number from count)
    (first_quotient count room some (omega arith) ∙ left)
    ∙ ap (λ xs. data_item number from m ∷ xs)
    (sym (parts_pieces number (from + m) (count - m) pdu room write is)))

parts_last : (number from count pdu room : ℕ) (write : Bool) → room ≡ cond write (pdu - 35) (pdu - 18) → 0 < room
    → 0 < count → count ≤ room
    → parts_of (data_item number from count) pdu write ≡ data_item number from (min room count) ∷ []
parts_last number from count pdu room write is some any within =
    parts_pieces number from count pdu room write is
    ∙ ap (λ n. pieces (suc n) room number from count) (no_quotient count room some any within)

-- ---- the items from an octet on

none_behind : (left : ℕ) → left ≡ 0 → (left + 65534) / 65535 ≡ 0
none_behind left none = omega (arith, none)

some_behind : (left : ℕ) → 0 < left
    → (left + 65534) / 65535 ≡ suc ((left - min 65535 left + 65534) / 65535)
some_behind left some = omega arith

not_none : (n : ℕ) → eqb n 0 ≡ false → 0 < n
not_none n is = omega (arith, eqb-false n 0 is)

start_by : (block : DataBlock) (from left : ℕ) (b : Bool) → eqb left 0 ≡ b
    → parts_behind block
    (cond b None (Some (record { from = from; here = min 65535 left; later = left - min 65535 left })))
    ≡ parts_of_all block.pdu (is_some block.value) (items_behind block.number from left)
start_by block from left true none =
    ap (λ n. parts_of_all block.pdu (is_some block.value) (data_items_from n block.number from left))
    (sym (none_behind left (eqb-true left 0 none)))
start_by block from left false some =
    ap (λ n. parts_of_all block.pdu (is_some block.value) (data_items_from n block.number from left))
    (sym (some_behind left (not_none left some)))

-- the parts from a place on are those of the items there
parts_start : (block : DataBlock) (from left : ℕ)
    → parts_behind block (place_from from left)
    ≡ parts_of_all block.pdu (is_some block.value) (items_behind block.number from left)
parts_start block from left = start_by block from left (eqb left 0) refl

-- ---- the part at a place

step_by : (block : DataBlock) (place : Place) (b : Bool) → 0 < part_room block → 0 < place.here
    → ltb (part_count block place) place.here ≡ b
    → parts_behind block (Some place)
    ≡ part_at block place
    ∷ parts_behind block
    (cond b
    (Some (record {
      from = place.from + part_count block place;
      here = place.here - part_count block place;
      later = place.later;
    }))
    (place_from (place.from + part_count block place) place.later))
step_by block place true some any less =
    let write : Bool = is_some block.value in
    let n : ℕ = part_count block place in
    let back : place.from + place.here ≡ place.from + n + (place.here - n) = omega arith in
    ap₂ (λ xs ys. xs ++ ys)
    (parts_more block.number place.from place.here block.pdu (part_room block) write refl some
    (ltb-true n place.here less))
    (ap (λ f. parts_of_all block.pdu write (items_behind block.number f place.later)) back)
step_by block place false some any all =
    let write : Bool = is_some block.value in
    let n : ℕ = part_count block place in
    let whole : place.here ≤ n = ltb-false n place.here all in
    let back : place.from + place.here ≡ place.from + n = omega (arith, whole) in
    ap (λ xs. xs ++ parts_of_all block.pdu write (items_behind block.number (place.from + place.here) place.later))
    (parts_last block.number place.from place.here block.pdu (part_room block) write refl some any
    (omega (arith, whole)))
    ∙ ap (λ xs. part_at block place ∷ xs)
    (ap (λ f. parts_of_all block.pdu write (items_behind block.number f place.later)) back
    ∙ sym (parts_start block (place.from + n) place.later))

parts_step : (block : DataBlock) (place : Place) → 0 < part_room block → 0 < place.here
    → parts_behind block (Some place) ≡ part_at block place ∷ parts_behind block (next_part block place)
parts_step block place some any = step_by block place (ltb (part_count block place) place.here) some any refl

-- ---- how many octets are left

left_by : (from left : ℕ) (b : Bool) → eqb left 0 ≡ b
    → octets_behind (cond b None (Some (record { from = from; here = min 65535 left; later = left - min 65535 left })))
    ≡ left
left_by from left true none = sym (eqb-true left 0 none)
left_by from left false some = omega arith

pub left_from : (from left : ℕ) → octets_behind (place_from from left) ≡ left
left_from from left = left_by from left (eqb left 0) refl

behind_by : (place : Place) (n : ℕ) (b : Bool) → n ≤ place.here → ltb n place.here ≡ b
    → octets_behind
    (cond b (Some (record { from = place.from + n; here = place.here - n; later = place.later }))
    (place_from (place.from + n) place.later))
    ≡ octets_behind (Some place) - n
behind_by place n true within less = omega arith
behind_by place n false within all =
    let left = left_from (place.from + n) place.later in
    omega (arith, left, ltb-false n place.here all)

pub left_behind : (place : Place) (n : ℕ) → n ≤ place.here
    → octets_behind (place_behind place n) ≡ octets_behind (Some place) - n
left_behind place n within = behind_by place n (ltb n place.here) within refl

-- ---- questions

first_question : (value : Option ℕ) (number from count : ℕ) (parts : List Item) (size : ℕ) → count ≤ size
    → questions_for value (data_item number from count ∷ parts) size
    ≡ question_for value (data_item number from count) ∷ questions_for value parts (size - count)
first_question None number from count parts size within = refl
first_question (Some value) number from count parts size within =
    let part : Item = data_item number from count in
    let long : octet_count part + 0 ≡ count = plus_none (octet_count part) ∙ byte_octets number from count in
    ap (λ n. writes (part ∷ []) (take n (replicate size value)) ∷ write_questions (alone parts) (drop n (replicate size value)))
    long
    ∙ ap₂ (λ xs ys. writes (part ∷ []) xs ∷ write_questions (alone parts) ys) (take-replicate count size value within)
    (drop-replicate count size value)

-- the first of the questions from a place on
pub questions_step : (block : DataBlock) (place : Place) → 0 < part_room block → 0 < place.here
    → questions_behind block (Some place) ≡ part_question block place ∷ questions_behind block (next_part block place)
questions_step block place some any =
    let n : ℕ = part_count block place in
    let within : n ≤ place.here = omega arith in
    ap (λ ps. questions_for block.value ps (octets_behind (Some place))) (parts_step block place some any)
    ∙ (first_question block.value block.number place.from n (parts_behind block (next_part block place))
    (octets_behind (Some place)) (omega arith)
    ∙ ap (λ k. part_question block place ∷ questions_for block.value (parts_behind block (next_part block place)) k)
    (sym (left_behind place n within)))

-- and all of them
pub questions_start : (block : DataBlock) (size : ℕ)
    → data_questions block size ≡ questions_behind block (place_from 0 size)
questions_start block size =
    ap₂ (λ ps n. questions_for block.value ps n) (sym (parts_start block 0 size)) (sym (left_from 0 size))
