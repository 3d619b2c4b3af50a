-- The octets of items, closed up in place.
use Rattle.std.proofs.Common.{◌≡◌, ℕ, ◌+◌, ◌-◌, ◌<◌, ◌≤◌, true, false, cond, eqb, List, [], ◌++◌, length, take, drop, get_or, slice_index, sym, ap, ◌∙◌, append_assoc, arith}
use Rattle.std.proofs.lemmas.List.{drop_more, drop-drop, get_or-drop, length-drop}
use Rattle.std.proofs.lemmas.List.Edits.{length-paste, take-paste, drop-paste}
use lib.Seq.{paste}
use Rattle.s7_item.specs.declared.item.Item.{Item}
use Rattle.s7_item.specs.Item.{octet_count}
use Rattle.s7_dialogue.specs.Checks.{octet_count_of}
use Rattle.s7_dialogue.specs.Taking.{without_gaps}
use Rattle.s7_dialogue.proofs.MessageLemmas.{count_more}

-- the octets of the k-th item, and of those behind it
gaps_more : (items : List Item) (codes found : List ℕ) (k n : ℕ) (d : Item) → k < length items
    → n ≡ octet_count (get_or items k d)
    → without_gaps (drop k items) (drop k codes) found
    ≡ cond (eqb (slice_index codes k) 0xFF) (take n found) [] ++ without_gaps (drop (k + 1) items)
    (drop (k + 1) codes) (drop n found)
gaps_more items codes found k n d less is =
    let item = get_or items k d in
    let first : slice_index (drop k codes) 0 ≡ slice_index codes k =
    get_or-drop k codes 0 0 ∙ ap (slice_index codes) (let e : k + 0 ≡ k = omega arith in e) in
    ap (λ xs. without_gaps xs (drop k codes) found) (drop_more items k d less)
    ∙ (ap (λ code. cond (eqb code 0xFF) (take (octet_count item) found) [] ++ without_gaps (drop (k + 1) items)
    (drop 1 (drop k codes)) (drop (octet_count item) found)) first
    ∙ (ap (λ cs. cond (eqb (slice_index codes k) 0xFF) (take (octet_count item) found) [] ++ without_gaps
    (drop (k + 1) items) cs (drop (octet_count item) found)) (drop-drop 1 k codes)
    ∙ ap (λ m. cond (eqb (slice_index codes k) 0xFF) (take m found) [] ++ without_gaps (drop (k + 1) items)
    (drop (k + 1) codes) (drop m found)) (sym is)))

room_left : (items : List Item) (k n from room : ℕ) (d : Item) → k < length items → n ≡ octet_count (get_or items k d)
    → from + octet_count_of (drop k items) ≤ room → from + n + octet_count_of (drop (k + 1) items) ≤ room
room_left items k n from room d less is within = omega (arith, within, is, count_more items k d less)

room_for : (items : List Item) (k n from room : ℕ) (d : Item) → k < length items → n ≡ octet_count (get_or items k d)
    → from + octet_count_of (drop k items) ≤ room → from + n ≤ room
room_for items k n from room d less is within = omega (arith, within, is, count_more items k d less)

-- an item that was refused leaves a gap
gap_left : (items : List Item) (codes found all : List ℕ) (k n from to : ℕ) (d : Item) → k < length items
    → n ≡ octet_count (get_or items k d)
    → eqb (slice_index codes k) 0xFF ≡ false
    → take to found ++ without_gaps (drop k items) (drop k codes) (drop from found) ≡ all
    → take to found ++ without_gaps (drop (k + 1) items) (drop (k + 1) codes) (drop (from + n) found) ≡ all
gap_left items codes found all k n from to d less is refused inv =
    let others = drop (k + 1) items in
    let later = drop (k + 1) codes in
    ap (λ xs. take to found ++ without_gaps others later xs) (sym (drop-drop n from found))
    ∙ (ap (λ b. take to
    found ++ (cond b (take n (drop from found)) [] ++ without_gaps others later (drop n (drop from found))))
    (sym refused)
    ∙ (ap (λ xs. take to found ++ xs) (sym (gaps_more items codes (drop from found) k n d less is)) ∙ inv))

-- the octets of an item that was read move up to those before
gap_closed : (items : List Item) (codes found now all : List ℕ) (k n m from to : ℕ) (d : Item) → k < length items
    → n ≡ octet_count (get_or items k d)
    → eqb (slice_index codes k) 0xFF ≡ true → m ≡ n → to ≤ from → from + n ≤ length found
    → now ≡ paste found to (drop from found) m
    → take to found ++ without_gaps (drop k items) (drop k codes) (drop from found) ≡ all
    → take (to + n) now ++ without_gaps (drop (k + 1) items) (drop (k + 1) codes) (drop (from + n) now) ≡ all
gap_closed items codes found now all k n m from to d less is read same behind within moved inv =
    let others = drop (k + 1) items in
    let later = drop (k + 1) codes in
    let piece = take n (drop from found) in
    let long : n ≤ length (drop from found) = omega (arith, within, length-drop from found) in
    let pasted : now ≡ paste found to (drop from found) n = moved ∙ ap (paste found to (drop from found)) same in
    let front : take (to + n) now ≡ take to found ++ piece =
    ap (take (to + n)) pasted ∙ take-paste found to (drop from found) n (omega (arith, behind, within)) long in
    let split : to + n + (from - to) ≡ from + n = omega (arith, behind) in
    let back : drop (from + n) now ≡ drop (from + n) found =
    ap (λ i. drop i now) (sym split)
    ∙ (sym (drop-drop (from - to) (to + n) now)
    ∙ (ap (λ xs. drop (from - to) (drop (to + n) xs)) pasted
    ∙ (ap (drop (from - to)) (drop-paste found to (drop from found) n (omega (arith, behind, within)) long)
    ∙ (drop-drop (from - to) (to + n) found ∙ ap (λ i. drop i found) split)))) in
    ap (λ xs. xs ++ without_gaps others later (drop (from + n) now)) front
    ∙ (ap (λ xs. (take to found ++ piece) ++ without_gaps others later xs) (back ∙ sym (drop-drop n from found))
    ∙ (append_assoc (take to found) piece (without_gaps others later (drop n (drop from found)))
    ∙ (ap (λ b. take to found ++ (cond b piece [] ++ without_gaps others later (drop n (drop from found)))) (sym read)
    ∙ (ap (λ xs. take to found ++ xs) (sym (gaps_more items codes (drop from found) k n d less is)) ∙ inv))))

-- one item on
pub record IsOn (items : List Item) (codes all : List ℕ) (k n from to : ℕ) (found : List ℕ) : Type 0 where
  pub so_far : take to found ++ without_gaps (drop (k + 1) items) (drop (k + 1) codes) (drop (from + n) found) ≡ all
  pub behind : to ≤ from + n
  pub within : from + n + octet_count_of (drop (k + 1) items) ≤ length found

pub on_past : (items : List Item) (codes found now all : List ℕ) (k n from to to' : ℕ) (d : Item) → k < length items
    → n ≡ octet_count (get_or items k d) → eqb (slice_index codes k) 0xFF ≡ false → to ≤ from
    → from + octet_count_of (drop k items) ≤ length found → to' ≡ to → now ≡ found
    → take to found ++ without_gaps (drop k items) (drop k codes) (drop from found) ≡ all
    → IsOn items codes all k n from to' now
on_past items codes found now all k n from to to' d less is refused behind within same still inv = record {
  so_far =
      ap (λ i. take i now ++ without_gaps (drop (k + 1) items) (drop (k + 1) codes) (drop (from + n) now)) same
      ∙ (ap (λ xs. take to xs ++ without_gaps (drop (k + 1) items) (drop (k + 1) codes) (drop (from + n) xs)) still
      ∙ gap_left items codes found all k n from to d less is refused inv);
  behind = omega (arith, behind, same);
  within = omega (arith, room_left items k n from (length found) d less is within, ap length still);
}

pub on_closed : (items : List Item) (codes found now all : List ℕ) (k n m from to to' : ℕ) (d : Item)
    → k < length items
    → n ≡ octet_count (get_or items k d) → eqb (slice_index codes k) 0xFF ≡ true → m ≡ n → to ≤ from
    → from + octet_count_of (drop k items) ≤ length found → to' ≡ to + n → now ≡ paste found to (drop from found) m
    → take to found ++ without_gaps (drop k items) (drop k codes) (drop from found) ≡ all
    → IsOn items codes all k n from to' now
on_closed items codes found now all k n m from to to' d less is read same behind within on moved inv =
    let room : from + n ≤ length found = room_for items k n from (length found) d less is within in
    let long : length now ≡ length found =
    ap length moved
    ∙ length-paste found to (drop from found) m (omega (arith, same, behind, room))
    (omega (arith, same, room, length-drop from found)) in
    record {
      so_far =
          ap (λ i. take i now ++ without_gaps (drop (k + 1) items) (drop (k + 1) codes) (drop (from + n) now)) on
          ∙ gap_closed items codes found now all k n m from to d less is read same behind room moved inv;
      behind = omega (arith, behind, on);
      within = omega (arith, room_left items k n from (length found) d less is within, long);
    }
