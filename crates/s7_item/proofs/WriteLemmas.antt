-- Lemmas on writing data items.
use Rattle.std.proofs.Common.{◌≡◌, ℕ, Bool, true, false, ◌+◌, ◌-◌, ◌<◌, ◌≤◌, List, [], ◌∷◌, ◌++◌, eqb, take, drop, set, get_or, length, refl, sym, ap, ◌∙◌, append_assoc, arith, rules}
use Rattle.std.proofs.Math.Path.{ap₂}
use Rattle.std.proofs.lemmas.List.{drop-drop, drop_at, take_at, drop_more, length-append, set_at}
use borrow.Rule.Slice.PartMut.{put_mid}
use Rattle.s7_item.specs.DataItem.{head_octets, carries, padding_of, data_item_octets}

-- the octets, four octets before them and an octet 00 after them
pub padded_written : (head octets into : List ℕ) → length head ≡ 4 → 4 + length octets < length into → set (put_mid 4 (4 + length octets - 4) (head ++ drop 4 into) octets) (4 + length octets) 0 ≡ (head ++ (octets ++ 0 ∷ [])) ++ drop (4 + length octets + 1) into
padded_written head octets into long room =
    let n : ℕ = length octets in
    let rest : List ℕ = drop 4 into in
    let width : 4 + n - 4 ≡ n = omega arith in
    let front : take 4 (head ++ rest) ≡ head = take_at head rest 4 long in
    let behind : drop (4 + n - 4) (drop 4 (head ++ rest)) ≡ drop (4 + n) into =
    ap (λ i. drop i (drop 4 (head ++ rest))) width ∙ (ap (drop n) (drop_at head rest 4 long) ∙ drop-drop n 4 into) in
    let all : put_mid 4 (4 + n - 4) (head ++ rest) octets ≡ (head ++ octets) ++ drop (4 + n) into =
    ap₂ (λ xs ys. xs ++ (octets ++ ys)) front behind ∙ sym (append_assoc head octets (drop (4 + n) into)) in
    let next : drop (4 + n) into ≡ get_or into (4 + n) 0 ∷ drop (4 + n + 1) into = drop_more into (4 + n) 0 room in
    let size : length (head ++ octets) ≡ 4 + n = length-append head octets ∙ ap (λ i. i + n) long in
    let put : set ((head ++ octets) ++ drop (4 + n) into) (4 + n) 0 ≡ (head ++ octets) ++ 0 ∷ drop (4 + n + 1) into =
    ap (λ xs. set ((head ++ octets) ++ xs) (4 + n) 0) next ∙ set_at (head ++ octets) (get_or into (4 + n) 0) (drop (4 + n + 1) into) 0 (4 + n) size in
    ap (λ xs. set xs (4 + n) 0) all ∙ (put ∙ search (rules, append_assoc))

-- padding is one octet or none
padding_of-one : (n : ℕ) (last : Bool) → (padding_of n last ≡ 0 → ⊥) → padding_of n last ≡ 1
padding_of-one n true some = absurd (some refl)
padding_of-one n false some = omega arith

-- a data item with a padding octet
pub spelled_padded : (code word : ℕ) (octets : List ℕ) (last : Bool) → carries code ≡ true → (padding_of (length octets) last ≡ 0 → ⊥) → data_item_octets code word octets last ≡ head_octets code word (length octets) ++ (octets ++ 0 ∷ [])
spelled_padded code word octets last some odd =
    let one : eqb (padding_of (length octets) last) 1 ≡ true = ap (λ n. eqb n 1) (padding_of-one (length octets) last odd) in
    rw (some, one) refl

-- what stands in the slice after head, octets and padding octet were written
pub item_padded : (code word : ℕ) (octets into head copied : List ℕ) (last : Bool) → carries code ≡ true → (padding_of (length octets) last ≡ 0 → ⊥) → length (data_item_octets code word octets last) ≤ length into → head ≡ head_octets code word (length octets) → copied ≡ octets → set (put_mid 4 (4 + length octets - 4) (head ++ drop 4 into) copied) (4 + length octets) 0 ≡ data_item_octets code word octets last ++ drop (4 + length octets + 1) into
item_padded code word octets into head copied last some odd room begins is =
    let spelled : data_item_octets code word octets last ≡ head ++ (octets ++ 0 ∷ []) =
    spelled_padded code word octets last some odd ∙ ap (λ xs. xs ++ (octets ++ 0 ∷ [])) (sym begins) in
    let long : length head ≡ 4 = ap length begins in
    let size : length (data_item_octets code word octets last) ≡ 4 + (length octets + 1) =
    ap length spelled ∙ (length-append head (octets ++ 0 ∷ []) ∙ ap₂ (λ a b. a + b) long (length-append octets (0 ∷ []))) in
    let fits : 4 + length octets < length into = omega (arith, size, room) in
    ap (λ xs. set (put_mid 4 (4 + length octets - 4) (head ++ drop 4 into) xs) (4 + length octets) 0) is
    ∙ (padded_written head octets into long fits ∙ ap (λ xs. xs ++ drop (4 + length octets + 1) into) (sym spelled))
