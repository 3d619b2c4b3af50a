-- The foreseen sizes are lengths of what is written.
use Rattle.std.proofs.Common.{◌≡◌, ℕ, ◌+◌, ◌≤◌, Bool, true, false, cond, eqb, List, [], ◌∷◌, ◌++◌, length, map, refl, sym, ap, ◌∙◌, subst, arith}
use Rattle.std.proofs.lemmas.List.{length-append, length-map}
use Rattle.s7_item.proofs.ItemLemmas.{length-spelled}
use Rattle.s7_item.proofs.DataLaws.{length-padding}
use Rattle.s7_item.specs.Item.{octet_count}
use Rattle.s7_item.specs.DataItem.{carries, padding_of, padding, head_octets, data_item_octets, DataItem, data_octets}
use Rattle.s7_item.specs.Sizes.{data_size, sent_count, AreAtMost, ReadsHaveTheirSize, WritesHaveTheirSize, FullAnswersHaveTheirSize, AnswersFit}

-- nothing is padded by nothing
padding_of-zero : (last : Bool) → padding_of 0 last ≡ 0
padding_of-zero true = refl
padding_of-zero false = refl

length-one : (some : Bool) (code word : ℕ) (octets : List ℕ) (last : Bool) → length (cond some (head_octets code word (length octets) ++ octets ++ padding (length octets) last) (code ∷ 0 ∷ 0 ∷ 0 ∷ [])) ≡ 4 + cond some (length octets) 0 + padding_of (cond some (length octets) 0) last
length-one true code word octets last =
    omega (arith, length-append octets (padding (length octets) last), length-padding (length octets) last)
length-one false code word octets last = omega (arith, padding_of-zero last)

-- data items have their size as they are written
length-data_octets : (items : List DataItem) → length (data_octets items) ≡ data_size (map sent_count items)
length-data_octets [] = refl
length-data_octets (item ∷ items) =
    let last : Bool = eqb (length items) 0 in
    let same : eqb (length (map sent_count items)) 0 ≡ last = ap (λ n. eqb n 0) (length-map items sent_count) in
    length-append (data_item_octets item.code item.word item.octets last) (data_octets items)
    ∙ (ap (λ n. n + length (data_octets items)) (length-one (carries item.code) item.code item.word item.octets last)
    ∙ (ap (λ n. 4 + sent_count item + padding_of (sent_count item) last + n) (length-data_octets items)
    ∙ ap (λ b. 4 + sent_count item + padding_of (sent_count item) b + data_size (map sent_count items)) (sym same)))

-- fewer octets are padded to no more octets
padded_le : (n m : ℕ) (last : Bool) → n ≤ m → n + padding_of n last ≤ m + padding_of m last
padded_le n m true fewer = omega arith
padded_le n m false fewer = omega arith

same_length : (ns ms : List ℕ) → AreAtMost ns ms → length ns ≡ length ms
same_length [] [] h = refl
same_length [] (m ∷ ms) h = absurd h
same_length (n ∷ ns) [] h = absurd h
same_length (n ∷ ns) (m ∷ ms) h = omega (arith, same_length ns ms h.1)

data_size_le : (ns ms : List ℕ) → AreAtMost ns ms → data_size ns ≤ data_size ms
data_size_le [] [] h = omega arith
data_size_le [] (m ∷ ms) h = absurd h
data_size_le (n ∷ ns) [] h = absurd h
data_size_le (n ∷ ns) (m ∷ ms) h =
    let last : eqb (length ns) 0 ≡ eqb (length ms) 0 = ap (λ i. eqb i 0) (same_length ns ms h.1) in
    let more : n + padding_of n (eqb (length ns) 0) ≤ m + padding_of m (eqb (length ms) 0) =
    subst (λ b. n + padding_of n (eqb (length ns) 0) ≤ m + padding_of m b) last (padded_le n m (eqb (length ns) 0) h.0) in
    omega (arith, more, data_size_le ns ms h.1)

pub reads_sized : ReadsHaveTheirSize
reads_sized function items = omega (arith, length-spelled items)

pub writes_sized : WritesHaveTheirSize
writes_sized function items written full =
    omega (arith, length-spelled items, length-data_octets written ∙ ap data_size full)

pub answers_sized : FullAnswersHaveTheirSize
answers_sized items written full = ap (λ n. 14 + n) (length-data_octets written ∙ ap data_size full)

pub answers_fit : AnswersFit
answers_fit items written most =
    omega (arith, length-data_octets written, data_size_le (map sent_count written) (map octet_count items) most)
