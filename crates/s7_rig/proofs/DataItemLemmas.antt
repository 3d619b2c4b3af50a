-- What a client reads in the data items that a memory gives.
use Rattle.std.proofs.Common.{◌≡◌, ◌⊎◌, inl, inr, ℕ, ◌+◌, ◌≤◌, Bool, true, false, cond, eqb, List, [], ◌∷◌, ◌++◌, length, map, take, drop, slice_index, Option, None, Some, option_map, refl, ap, sym, ◌∙◌, arith, length-append, append_assoc}
use Rattle.std.proofs.Math.Path.{ap₂}
use Rattle.std.proofs.lemmas.Bool.{and_from, eq-eqb, le-leb}
use Rattle.std.proofs.lemmas.List.{length-map, take_at, drop_at}
use Rattle.s7_item.specs.declared.item.Item.{Item}
use Rattle.s7_item.specs.Item.{octet_count}
use Rattle.s7_item.specs.Word.{transport_of}
use Rattle.s7_item.specs.DataItem.{stated_length, carries, padding_of, padding, head_octets, data_item_octets, data_octets}
use Rattle.s7_item.specs.Sizes.{sent_count, answer_size, AreAtMost}
use Rattle.s7_item.proofs.DataLaws.{length-padding}
use Rattle.s7_item.proofs.SizeLaws.{answers_fit}
use Rattle.s7_header.proofs.OctetLemmas.{two_of_number}
use Rattle.s7_area.specs.Memory.{Memory, read_code, read_octets}
use Rattle.s7_dialogue.specs.Answer.{ItemAnswer, item_first, begins_read, begins_refused, item_answers}
use Rattle.s7_plant.specs.Answers.{read_item}
use Rattle.s7_rig.specs.Heard.{told_of}
use Rattle.s7_rig.proofs.ReadLemmas.{IsRefusing, read_whole, read_nothing, read_or_refused}

-- ---- one data item, and those behind it

abbrev told : ℕ → List ℕ → ItemAnswer
told code octets = record { code = code; octets = octets }

-- a data item with octets
abbrev full_octets : ℕ → List ℕ → Bool → List ℕ
full_octets word octets last = head_octets 0xFF word (length octets) ++ octets ++ padding (length octets) last

full_long : (word : ℕ) (octets : List ℕ) (last : Bool) → length (full_octets word octets last) ≡ 4 + length octets + padding_of (length octets) last
full_long word octets last = omega (arith, length-append octets (padding (length octets) last), length-padding (length octets) last)

full_begins : (item : Item) (last : Bool) (octets rest : List ℕ) → length octets ≡ octet_count item → begins_read item last (full_octets item.word octets last ++ rest) ≡ true
full_begins item last octets rest all =
    let t = transport_of item.word in
    let stated = two_of_number (stated_length t (length octets)) ∙ ap (stated_length t) all in
    let size : length (full_octets item.word octets last ++ rest) ≡ 4 + octet_count item + padding_of (octet_count item) last + length rest =
    length-append (full_octets item.word octets last) rest ∙ ap (λ n. n + length rest) (full_long item.word octets last ∙ ap (λ n. 4 + n + padding_of n last) all) in
    and_from _ _ (and_from _ _ refl (eq-eqb t t refl))
    (and_from _ _ (eq-eqb _ (stated_length t (octet_count item)) stated) (le-leb _ _ (omega (arith, size))))

-- what is read where the octets begin with a data item that was read
abbrev read_first : Item → List Item → Bool → List ℕ → Option (List ItemAnswer)
read_first item items last xs =
    option_map (item_first (told 0xFF (take (octet_count item) (drop 4 xs))))
    (item_answers items (drop (4 + octet_count item + padding_of (octet_count item) last) xs))

abbrev first_or_none : Bool → Option (List ItemAnswer) → Option (List ItemAnswer)
first_or_none refused answers = cond refused answers None

full_taken : (item : Item) (last : Bool) (octets rest : List ℕ) → length octets ≡ octet_count item → take (octet_count item) (drop 4 (full_octets item.word octets last ++ rest)) ≡ octets
full_taken item last octets rest all =
    ap (take (octet_count item)) (append_assoc octets (padding (length octets) last) rest)
    ∙ take_at octets (padding (length octets) last ++ rest) (octet_count item) all

full_left : (item : Item) (last : Bool) (octets rest : List ℕ) → length octets ≡ octet_count item
    → drop (4 + octet_count item + padding_of (octet_count item) last) (full_octets item.word octets last ++ rest) ≡ rest
full_left item last octets rest all =
    drop_at (full_octets item.word octets last) rest (4 + octet_count item + padding_of (octet_count item) last)
    (full_long item.word octets last ∙ ap (λ n. 4 + n + padding_of n last) all)

full_first : (item : Item) (items : List Item) (octets rest : List ℕ) → length octets ≡ octet_count item
    → item_answers (item ∷ items) (full_octets item.word octets (eqb (length items) 0) ++ rest) ≡ option_map (item_first (told 0xFF octets)) (item_answers items rest)
full_first item items octets rest all =
    let last : Bool = eqb (length items) 0 in
    let xs : List ℕ = full_octets item.word octets last ++ rest in
    ap (λ b. cond b (read_first item items last xs) (first_or_none (begins_refused xs) (option_map (item_first (told (slice_index xs 0) [])) (item_answers items (drop 4 xs)))))
    (full_begins item last octets rest all)
    ∙ ap₂ (λ ys zs. option_map (item_first (told 0xFF ys)) (item_answers items zs)) (full_taken item last octets rest all) (full_left item last octets rest all)

refused_first : (item : Item) (items : List Item) (code : ℕ) (rest : List ℕ) → eqb code 0xFF ≡ false
    → item_answers (item ∷ items) (code ∷ 0 ∷ 0 ∷ 0 ∷ rest) ≡ option_map (item_first (told code [])) (item_answers items rest)
refused_first item items code rest other =
    let answers : Option (List ItemAnswer) = option_map (item_first (told code [])) (item_answers items rest) in
    rw other (ap (λ b. first_or_none b answers) (le-leb 4 (length (code ∷ 0 ∷ 0 ∷ 0 ∷ rest)) (omega arith)))

-- ---- the data items of a memory

first_good : (m : Memory) (right : Bool) (item : Item) (items : List Item) (rest : List ℕ) → read_code m right item ≡ 0xFF
    → item_answers (item ∷ items) (data_item_octets (read_code m right item) item.word (read_octets m right item) (eqb (length items) 0) ++ rest)
    ≡ option_map (item_first (told_of m right item)) (item_answers items rest)
first_good m right item items rest good =
    let octets : List ℕ = read_octets m right item in
    ap (λ code. item_answers (item ∷ items) (data_item_octets code item.word octets (eqb (length items) 0) ++ rest)) good
    ∙ (full_first item items octets rest (read_whole m right item good)
    ∙ ap (λ code. option_map (item_first (told code octets)) (item_answers items rest)) (sym good))

first_refused : (m : Memory) (right : Bool) (item : Item) (items : List Item) (rest : List ℕ) → IsRefusing (read_code m right item)
    → item_answers (item ∷ items) (data_item_octets (read_code m right item) item.word (read_octets m right item) (eqb (length items) 0) ++ rest)
    ≡ option_map (item_first (told_of m right item)) (item_answers items rest)
first_refused m right item items rest refused =
    let code : ℕ = read_code m right item in
    ap (λ b. item_answers (item ∷ items) (cond b (head_octets code item.word (length (read_octets m right item)) ++ read_octets m right item ++ padding (length (read_octets m right item)) (eqb (length items) 0)) (code ∷ 0 ∷ 0 ∷ 0 ∷ []) ++ rest)) refused.carried
    ∙ (refused_first item items code rest refused.other
    ∙ ap (λ octets. option_map (item_first (told code octets)) (item_answers items rest)) (sym (read_nothing m right item refused)))

first_by : (m : Memory) (right : Bool) (item : Item) (items : List Item) (rest : List ℕ) → (read_code m right item ≡ 0xFF) ⊎ IsRefusing (read_code m right item)
    → item_answers (item ∷ items) (data_item_octets (read_code m right item) item.word (read_octets m right item) (eqb (length items) 0) ++ rest)
    ≡ option_map (item_first (told_of m right item)) (item_answers items rest)
first_by m right item items rest (inl good) = first_good m right item items rest good
first_by m right item items rest (inr refused) = first_refused m right item items rest refused

-- Each item is told with its code and its octets.
pub items_are_told : (m : Memory) (right : Bool) (items : List Item) → item_answers items (data_octets (map (read_item m right) items)) ≡ Some (map (told_of m right) items)
items_are_told m right [] = refl
items_are_told m right (item ∷ items) =
    let others : List ℕ = data_octets (map (read_item m right) items) in
    ap (λ n. item_answers (item ∷ items) (data_item_octets (read_code m right item) item.word (read_octets m right item) (eqb n 0) ++ others)) (length-map items (read_item m right))
    ∙ (first_by m right item items others (read_or_refused m right item)
    ∙ ap (option_map (item_first (told_of m right item))) (items_are_told m right items))

-- ---- their size

sent_by : (m : Memory) (right : Bool) (item : Item) → (read_code m right item ≡ 0xFF) ⊎ IsRefusing (read_code m right item) → sent_count (read_item m right item) ≤ octet_count item
sent_by m right item (inl good) =
    omega (arith, ap (λ code. cond (carries code) (length (read_octets m right item)) 0) good, read_whole m right item good)
sent_by m right item (inr refused) = omega (arith, ap (λ b. cond b (length (read_octets m right item)) 0) refused.carried)

sent_at_most : (m : Memory) (right : Bool) (items : List Item) → AreAtMost (map sent_count (map (read_item m right) items)) (map octet_count items)
sent_at_most m right [] = tt
sent_at_most m right (item ∷ items) = (sent_by m right item (read_or_refused m right item), sent_at_most m right items)

-- an answer has at most its full size
pub read_fits : (m : Memory) (right : Bool) (items : List Item) → 14 + length (data_octets (map (read_item m right) items)) ≤ answer_size items
read_fits m right items = answers_fit items (map (read_item m right) items) (sent_at_most m right items)
