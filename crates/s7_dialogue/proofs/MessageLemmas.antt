-- The messages of reads and writes.
use Rattle.std.proofs.Common.{◌≡◌, ℕ, ◌+◌, ◌-◌, ◌<◌, ◌≤◌, false, true, eqb, List, [], ◌∷◌, ◌++◌, map, length, take, drop, get_or, refl, sym, ap, ◌∙◌, append_assoc, arith}
use Rattle.std.proofs.Math.Path.{ap₂}
use Rattle.std.proofs.lemmas.List.{length-drop, length-map, length-take-le, drop_more, take_at}
use Rattle.s7_header.specs.declared.header.Kind.TheVariants.{Job}
use Rattle.s7_header.specs.Header.{spelling_of}
use Rattle.s7_header.specs.Negotiation.{most_pdu}
use Rattle.s7_item.specs.declared.item.Item.{Item}
use Rattle.s7_item.specs.Item.{octet_count}
use Rattle.s7_item.specs.Params.{items_params}
use Rattle.s7_item.specs.DataItem.{padding_of, data_item_octets, data_octets}
use Rattle.s7_item.specs.Sizes.{data_size, sent_count, request_size}
use Rattle.s7_item.proofs.SizeLaws.{reads_sized, writes_sized}
use Rattle.s7_dialogue.specs.Question.{writes, written, question_octets}
use Rattle.s7_dialogue.specs.Checks.{octet_count_of}
use Rattle.s7_dialogue.specs.Front.{job_front}
use Rattle.s7_dialogue.proofs.ItemLemmas.{last_dropped}

-- as many octets as were written at the front
pub length-front : (into params rest : List ℕ) (n : ℕ) → into ≡ params ++ rest → n ≡ length params → length (take n into) ≡ length params
length-front into params rest n is long = ap length (ap (take n) is ∙ take_at params rest n (sym long))

-- parameters that were written at the front have the size of a read without its header
pub items_front : (function : ℕ) (items : List Item) (into rest : List ℕ) (n : ℕ) → into ≡ items_params function items ++ rest → n ≡ length (items_params function items) → 10 + length (take n into) ≡ request_size items false
items_front function items into rest n is long = ap (λ m. 10 + m) (length-front into (items_params function items) rest n is long) ∙ reads_sized function items

-- each item has all its octets
pub written_sent : (items : List Item) (octets : List ℕ) → length octets ≡ octet_count_of items → map sent_count (written items octets) ≡ map octet_count items
written_sent [] octets all = refl
written_sent (item ∷ items) octets all =
    ap₂ (λ n ns. n ∷ ns) (length-take-le (octet_count item) octets (omega (arith, all)))
    (written_sent items (drop (octet_count item) octets) (omega (arith, all, length-drop (octet_count item) octets)))

length-written : (items : List Item) (octets : List ℕ) → length (written items octets) ≡ length items
length-written [] octets = refl
length-written (item ∷ items) octets = grind (arith, length-written items (drop (octet_count item) octets))

-- the front with the data items is the message
pub write_spelled : (sequence n : ℕ) (items : List Item) (octets front now : List ℕ) → length octets ≡ octet_count_of items → n ≡ request_size items true - request_size items false → front ≡ job_front sequence (items_params 0x05 items) n
    → now ≡ front ++ data_octets (written items octets) → now ≡ question_octets sequence (writes items octets)
write_spelled sequence n items octets front now all is begins adds =
    let params : List ℕ = items_params 0x05 items in
    let body : List ℕ = data_octets (written items octets) in
    let long : n ≡ length body =
    omega (arith, is, reads_sized 0x05 items, writes_sized 0x05 items (written items octets) (written_sent items octets all)) in
    adds ∙ (ap (λ xs. xs ++ body) (begins ∙ ap (job_front sequence params) long)
    ∙ append_assoc (spelling_of (record { kind = Job; sequence = sequence; param_len = length params; body_len = length body; error = 0 })) params body)

-- the data item of the k-th item, and those of the items after it
pub told_step : (items : List Item) (k n : ℕ) (d : Item) (rest front after message now all : List ℕ) → k < length items → n ≡ octet_count (get_or items k d) → front ≡ take n rest → after ≡ drop n rest
    → now ≡ message ++ data_item_octets 0x00 (get_or items k d).word front (eqb (k + 1) (length items)) → message ++ data_octets (written (drop k items) rest) ≡ all → now ++ data_octets (written (drop (k + 1) items) after) ≡ all
told_step items k n d rest front after message now all less count is back adds inv =
    let item : Item = get_or items k d in
    let others : List Item = drop (k + 1) items in
    let last : eqb (k + 1) (length items) ≡ eqb (length (written others after)) 0 =
    last_dropped items k less ∙ ap (λ m. eqb m 0) (sym (length-written others after)) in
    let one : List ℕ = data_item_octets 0x00 item.word front (eqb (k + 1) (length items)) in
    let taken : take (octet_count item) rest ≡ front = ap (λ m. take m rest) (sym count) ∙ sym is in
    let left : drop (octet_count item) rest ≡ after = ap (λ m. drop m rest) (sym count) ∙ sym back in
    let first : data_octets (written (drop k items) rest) ≡ one ++ data_octets (written others after) =
    ap (λ xs. data_octets (written xs rest)) (drop_more items k d less)
    ∙ (ap₂ (λ xs ys. data_item_octets 0x00 item.word xs (eqb (length (written others ys)) 0) ++ data_octets (written others ys)) taken left
    ∙ ap (λ b. data_item_octets 0x00 item.word front b ++ data_octets (written others after)) (sym last)) in
    ap (λ xs. xs ++ data_octets (written others after)) adds
    ∙ (append_assoc message one (data_octets (written others after)) ∙ (ap (λ xs. message ++ xs) (sym first) ∙ inv))

-- how many octets the items from the k-th on have
pub count_more : (items : List Item) (k : ℕ) (d : Item) → k < length items → octet_count_of (drop k items) ≡ octet_count (get_or items k d) + octet_count_of (drop (k + 1) items)
count_more items k d less = ap octet_count_of (drop_more items k d less)

-- the octets that are left are those of the items after the k-th
pub left_step : (items : List Item) (k n : ℕ) (d : Item) (rest after : List ℕ) → k < length items → n ≡ octet_count (get_or items k d) → after ≡ drop n rest → length rest ≡ octet_count_of (drop k items) → length after ≡ octet_count_of (drop (k + 1) items)
left_step items k n d rest after less count back left =
    ap length back ∙ (length-drop n rest ∙ omega (arith, left, count, count_more items k d less))

-- the size of the k-th item's data item, and of those after it
size_more : (items : List Item) (k : ℕ) (d : Item) → k < length items
    → data_size (map octet_count (drop k items)) ≡ 4 + octet_count (get_or items k d) + padding_of (octet_count (get_or items k d)) (eqb (k + 1) (length items)) + data_size (map octet_count (drop (k + 1) items))
size_more items k d less =
    let item : Item = get_or items k d in
    let others : List Item = drop (k + 1) items in
    let last : eqb (length (map octet_count others)) 0 ≡ eqb (k + 1) (length items) =
    ap (λ n. eqb n 0) (length-map others octet_count) ∙ sym (last_dropped items k less) in
    ap (λ xs. data_size (map octet_count xs)) (drop_more items k d less)
    ∙ ap (λ b. 4 + octet_count item + padding_of (octet_count item) b + data_size (map octet_count others)) last

-- the data items of the items after the k-th fit too
pub fits_step : (items : List Item) (k n : ℕ) (d : Item) (rest front message now : List ℕ) → k < length items → n ≡ octet_count (get_or items k d) → front ≡ take n rest → length rest ≡ octet_count_of (drop k items)
    → length now ≡ length message + (4 + length front + padding_of (length front) (eqb (k + 1) (length items))) → length message + data_size (map octet_count (drop k items)) ≤ most_pdu → length now + data_size (map octet_count (drop (k + 1) items)) ≤ most_pdu
fits_step items k n d rest front message now less count is left adds fits =
    let taken : length front ≡ octet_count (get_or items k d) =
    ap length is ∙ (length-take-le n rest (omega (arith, left, count, count_more items k d less)) ∙ count) in
    let whole : length now ≡ length message + (4 + octet_count (get_or items k d) + padding_of (octet_count (get_or items k d)) (eqb (k + 1) (length items))) =
    adds ∙ ap (λ m. length message + (4 + m + padding_of m (eqb (k + 1) (length items)))) taken in
    omega (arith, whole, fits, size_more items k d less)
