-- Lemmas on what is put at its places.
use Rattle.std.proofs.Common.{◌≡◌, ℕ, ◌+◌, Bool, true, false, eqb, List, [], ◌∷◌, ◌++◌, length, take, drop, refl, sym, ap, ◌∙◌, append_assoc, arith}
use Rattle.std.specs.Bool.{MatchBool}
use Rattle.std.specs.List.{flat_map}
use Rattle.std.proofs.lemmas.List.{length-append, take_at, take_all, drop_at, drop-drop, set_at}
use Rattle.std.proofs.lemmas.List.Concat.{flat_map-append}
use Rattle.std.proofs.lemmas.List.Edits.{paste_none}
use lib.Seq.{paste}
use Rattle.s7_item.specs.declared.item.Item.{Item}
use Rattle.s7_item.specs.Item.{octet_count}
use Rattle.s7_dialogue.specs.Answer.{ItemAnswer}
use Rattle.s7_dialogue.specs.Flight.{Row}
use Rattle.s7_dialogue.specs.Checks.{octet_count_of}
use Rattle.s7_dialogue.specs.Dialogue.{codes_in, of_answer}
use Rattle.s7_dialogue.specs.Asks.{items_of, Spot, spot_past, spot_behind}
use Rattle.s7_dialogue.specs.GoesOn.{filled_up, octets_at_places, told_of_items, octets_of_row, codes_of_row, TellAll}
use Rattle.s7_dialogue.specs.Taking.{with_codes, with_octets}
use Rattle.s7_dialogue.proofs.EndLemmas.{length-filled, filled_whole}

-- ---- places

length-places : (items : List Item) (answers : List ItemAnswer)
    → length (octets_at_places items answers) ≡ octet_count_of items
length-places [] answers = refl
length-places (item ∷ items) [] =
    let n = octet_count item in
    omega (
      arith,
      length-append (filled_up n []) (octets_at_places items []),
      length-filled n [],
      length-places items
          [],
    )
length-places (item ∷ items) (a ∷ answers) =
    let n = octet_count item in
    omega (
      arith,
      length-append (filled_up n a.octets) (octets_at_places items answers),
      length-filled n a.octets,
      length-places items answers,
    )

pub place_behind : (spot : Spot) (rows : List Row) → (spot_behind spot rows).place ≡ spot.place + length rows
place_behind spot [] = omega arith
place_behind spot (row ∷ rows) =
    let rest = place_behind (spot_past spot (items_of row.question)) rows in omega (arith, rest)

pub from_behind : (spot : Spot) (rows : List Row)
    → (spot_behind spot rows).from ≡ spot.from + length (flat_map octets_of_row rows)
from_behind spot [] = omega arith
from_behind spot (row ∷ rows) =
    let rest = from_behind (spot_past spot (items_of row.question)) rows in
    omega (
      arith,
      rest,
      length-append (octets_of_row row) (flat_map octets_of_row rows),
      length-places (items_of row.question) (told_of_items row.answer),
    )

pub item_behind : (spot : Spot) (rows : List Row)
    → (spot_behind spot rows).item ≡ spot.item + length (flat_map codes_of_row rows)
item_behind spot [] = omega arith
item_behind spot (row ∷ rows) =
    let rest = item_behind (spot_past spot (items_of row.question)) rows in
    omega (
      arith,
      rest,
      length-append (codes_of_row row) (flat_map codes_of_row rows),
      length-filled (length (items_of row.question)) (of_answer codes_in row.answer),
    )

-- ---- what is put at its places

-- the octets of one item
item_pasted : (good : Bool) (n at : ℕ) (octets front rest : List ℕ) → MatchBool good (length octets ≡ n) (octets ≡ [])
    → length front ≡ at
    → paste (front ++ (filled_up n [] ++ rest)) at octets (length octets) ≡ front ++ (filled_up n octets ++ rest)
item_pasted false n at octets front rest tells_all long =
    ap (λ xs. paste (front ++ (filled_up n [] ++ rest)) at xs (length xs)) tells_all
    ∙ (sym (paste_none (front ++ (filled_up n [] ++ rest)) at [])
    ∙ ap (λ xs. front ++ (filled_up n xs ++ rest)) (sym tells_all))
item_pasted true n at octets front rest tells_all long =
    let all = front ++ (filled_up n [] ++ rest) in
    let first : take at all ≡ front = take_at front (filled_up n [] ++ rest) at long in
    let middle : take (length octets) octets ≡ filled_up n octets =
    take_all (length octets) octets (omega arith) ∙ sym (filled_whole n octets tells_all) in
    let last : drop (at + length octets) all ≡ rest =
    sym (drop-drop (length octets) at all)
    ∙ (ap (drop (length octets)) (drop_at front (filled_up n [] ++ rest) at long)
    ∙ drop_at (filled_up n []) rest (length octets) (length-filled n [] ∙ sym tells_all)) in
    ap (λ xs. xs ++ take (length octets) octets ++ drop (at + length octets) all) first
    ∙ (ap (λ xs. front ++ xs ++ drop (at + length octets) all) middle
    ∙ (ap (λ xs. front ++ filled_up n octets ++ xs) last ∙ append_assoc front (filled_up n octets) rest))

-- those of a group
pub group_pasted : (items : List Item) (answers : List ItemAnswer) (at : ℕ) (front rest : List ℕ)
    → TellAll items answers → length front ≡ at
    → with_octets at items answers
    (front ++ (octets_at_places items [] ++ rest)) ≡ front ++ (octets_at_places items answers ++ rest)
group_pasted [] [] at front rest tells_all long = refl
group_pasted [] (a ∷ answers) at front rest tells_all long = absurd tells_all
group_pasted (item ∷ items) [] at front rest tells_all long = absurd tells_all
group_pasted (item ∷ items) (a ∷ answers) at front rest tells_all long =
    let n = octet_count item in
    let blank = octets_at_places items [] in
    let there = front ++ filled_up n a.octets in
    ap (λ xs. with_octets (at + n) items answers (paste (front ++ xs) at a.octets (length a.octets)))
    (append_assoc (filled_up n []) blank rest)
    ∙ (ap (with_octets (at + n) items answers)
    (item_pasted (eqb a.code 0xFF) n at a.octets front (blank ++ rest) tells_all.0 long)
    ∙ (ap (with_octets (at + n) items answers) (sym (append_assoc front (filled_up n a.octets) (blank ++ rest)))
    ∙ (group_pasted items answers (at + n) there rest tells_all.1
    (length-append front (filled_up n a.octets) ∙ omega (arith, long, length-filled n a.octets))
    ∙ (append_assoc front (filled_up n a.octets) (octets_at_places items answers ++ rest)
    ∙ ap (λ xs. front ++ xs) (sym (append_assoc (filled_up n a.octets) (octets_at_places items answers) rest))))))

-- codes in place of as many others
pub codes_pasted : (noted blank front rest : List ℕ) (at : ℕ) → length blank ≡ length noted → length front ≡ at
    → with_codes at noted (front ++ (blank ++ rest)) ≡ front ++ (noted ++ rest)
codes_pasted [] [] front rest at same long = refl
codes_pasted [] (b ∷ blank) front rest at same long = absurd (omega (arith, same))
codes_pasted (code ∷ noted) [] front rest at same long = absurd (omega (arith, same))
codes_pasted (code ∷ noted) (b ∷ blank) front rest at same long =
    ap (with_codes (at + 1) noted) (set_at front b (blank ++ rest) code at long)
    ∙ (ap (with_codes (at + 1) noted) (sym (append_assoc front (code ∷ []) (blank ++ rest)))
    ∙ (codes_pasted noted blank (front ++ code ∷ []) rest (at + 1) (omega (arith, same))
    (length-append front (code ∷ []) ∙ omega (arith, long))
    ∙ append_assoc front (code ∷ []) (noted ++ rest)))

pub no_codes : (noted : List ℕ) (at : ℕ) → with_codes at noted [] ≡ []
no_codes [] at = refl
no_codes (code ∷ noted) at = no_codes noted (at + 1)

-- what is made of rows, parted at one of them
pub parted : (f : Row → List ℕ) (front back : List Row) (row : Row) (rest : List ℕ)
    → flat_map f (front ++ row ∷ back) ++ rest ≡ flat_map f front ++ (f row ++ (flat_map f back ++ rest))
parted f front back row rest =
    ap (λ xs. xs ++ rest) (flat_map-append f front (row ∷ back))
    ∙ (append_assoc (flat_map f front) (f row ++ flat_map f back) rest
    ∙ ap (λ xs. flat_map f front ++ xs) (append_assoc (f row) (flat_map f back) rest))
