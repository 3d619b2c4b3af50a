-- Lemmas on the groups of items that are asked for: they can be sent.
use Rattle.std.proofs.Common.{◌≡◌, ℕ, ◌+◌, ◌*◌, ◌≤◌, Bool, true, false, leb, ltb, Ok, List, [], ◌∷◌, ◌++◌, length, refl, sym, ap, ◌∙◌, arith}
use Rattle.std.specs.Prelude.{unwrap_or, ◌&&◌}
use Rattle.std.specs.List.{list_all, AllByRecursion}
use Rattle.std.proofs.lemmas.Bool.{and_parts, and_from, leb-true, le-leb, lt-ltb}
use Rattle.std.proofs.lemmas.List.Folds.{list_all-append}
use Rattle.s7_header.specs.Negotiation.{most_pdu}
use Rattle.s7_item.specs.declared.item.Item.{Item}
use Rattle.s7_item.specs.Item.{octet_count}
use Rattle.s7_item.specs.Word.{size_of}
use Rattle.s7_item.specs.Sizes.{request_size}
use Rattle.s7_split.specs.Fits.{fits, answer_length}
use Rattle.s7_split.specs.Parts.{parts_of, count_of, IsAlike, AreParts, CanBeSplit, CanBeAsked}
use Rattle.s7_split.specs.Groups.{groups_of, ends_of, cut_at, packed_of, IsGroup, AreGroups}
use Rattle.s7_split.proofs.PartLaws.{parts_exact, parts_asked}
use Rattle.s7_split.proofs.GroupLaws.{groups_exact, ends_cut}
use Rattle.s7_dialogue.specs.Checks.{is_known, is_placed, octet_count_of}
use Rattle.s7_dialogue.specs.Dialogue.{alone}
use Rattle.s7_dialogue.specs.Stages.{joined, is_addressed, is_sendable}
use Rattle.s7_dialogue.proofs.CheckLemmas.{all_addressed}

-- the request of what fits is no longer than any message may be
request_fits : (pdu : ℕ) (write : Bool) (items : List Item) → fits pdu write items ≡ true → pdu ≤ most_pdu → request_size items write ≤ most_pdu
unfolding fits
request_fits pdu write items fit most =
    omega (arith, most, leb-true (request_size items write) pdu (and_parts (leb (request_size items write) pdu) (leb (answer_length items write) pdu) fit).0)

-- the octets of items and others
pub octet_count_append : (xs ys : List Item) → octet_count_of (xs ++ ys) ≡ octet_count_of xs + octet_count_of ys
octet_count_append [] ys = omega arith
octet_count_append (x ∷ xs) ys = omega (arith, octet_count_append xs ys)

-- ---- the parts of an item

pub joined_alone : (items : List Item) → joined (alone items) ≡ items
joined_alone [] = refl
joined_alone (item ∷ items) = ap (λ xs. item ∷ xs) (joined_alone items)

octets_plus : (o c os cs s : ℕ) → o ≡ c * s → os ≡ cs * s → o + os ≡ (c + cs) * s
octets_plus o c os cs s one more = omega (arith, one, more)

parts_octets : (item : Item) (parts : List Item) → AllByRecursion (IsAlike item) parts → octet_count_of parts ≡ count_of parts * unwrap_or (size_of item.word) 0
parts_octets item [] alike = omega arith
parts_octets item (part ∷ parts) alike =
    let s : ℕ = unwrap_or (size_of item.word) 0 in
    let one : octet_count part ≡ part.count * s = ap (λ w. part.count * unwrap_or (size_of w) 0) alike.0.word in
    octets_plus (octet_count part) part.count (octet_count_of parts) (count_of parts) s one (parts_octets item parts alike.1)

-- the parts of an item have its octets together
pub parts_together : (item : Item) (pdu : ℕ) (write : Bool) → CanBeSplit item → 64 ≤ pdu → octet_count_of (joined (alone (parts_of item pdu write))) ≡ octet_count item
parts_together item pdu write split least =
    let right : AreParts item pdu write (parts_of item pdu write) = (parts_exact item pdu write (parts_of item pdu write) split least).0 refl in
    ap octet_count_of (joined_alone (parts_of item pdu write))
    ∙ (parts_octets item (parts_of item pdu write) right.alike ∙ ap (λ c. c * unwrap_or (size_of item.word) 0) right.whole)

one_sendable : (write addressed known small : Bool) → addressed ≡ true → known ≡ true → small ≡ true → ((addressed && true) && ((known && true) && small)) ≡ true
one_sendable write true true true a k s = refl
one_sendable write false known small a k s = absurd (cc)
one_sendable write true false small a k s = absurd (cc)
one_sendable write true true false a k s = absurd (cc)

parts_each : (item : Item) (pdu : ℕ) (write : Bool) (parts : List Item) → is_known item ≡ true → pdu ≤ most_pdu → AllByRecursion (IsAlike item) parts → AllByRecursion (CanBeAsked pdu write) parts → list_all (is_sendable true write) (alone parts) ≡ true
parts_each item pdu write [] known most alike asked = refl
parts_each item pdu write (part ∷ parts) known most alike asked =
    and_from (is_sendable true write (part ∷ [])) (list_all (is_sendable true write) (alone parts))
    (one_sendable write (is_addressed part) (is_known part) (leb (request_size (part ∷ []) write) most_pdu)
    (lt-ltb part.address 16777216 asked.0.address)
    (ap (λ w. is_known (record part { word = w })) alike.0.word ∙ known)
    (le-leb (request_size (part ∷ []) write) most_pdu (request_fits pdu write (part ∷ []) asked.0.fits most)))
    (parts_each item pdu write parts known most alike.1 asked.1)

-- each part can be sent alone
pub parts_sendable : (item : Item) (pdu : ℕ) (write : Bool) → is_known item ≡ true → CanBeSplit item → 64 ≤ pdu → pdu ≤ most_pdu → list_all (is_sendable true write) (alone (parts_of item pdu write)) ≡ true
parts_sendable item pdu write known split least most =
    let right : AreParts item pdu write (parts_of item pdu write) = (parts_exact item pdu write (parts_of item pdu write) split least).0 refl in
    parts_each item pdu write (parts_of item pdu write) known most right.alike (parts_asked item pdu write split least)

-- ---- the groups of items

pub groups_right : (pdu : ℕ) (write : Bool) (items : List Item) → packed_of pdu write items ≡ Ok tt → AreGroups pdu write items (groups_of pdu write items)
groups_right pdu write items packed = (groups_exact pdu write items (groups_of pdu write items) packed).0 refl

-- cut where the groups end, the items are the groups
pub groups_cut : (pdu : ℕ) (write : Bool) (items : List Item) (ends : List ℕ) → packed_of pdu write items ≡ Ok tt → ends ≡ ends_of 0 (groups_of pdu write items) → cut_at 0 ends items ≡ groups_of pdu write items
groups_cut pdu write items ends packed is =
    ap (λ es. cut_at 0 es items) is
    ∙ (ap (λ xs. cut_at 0 (ends_of 0 (groups_of pdu write items)) xs) (sym (groups_right pdu write items packed).whole)
    ∙ ends_cut (groups_of pdu write items))

group_sendable : (some addressed known small : Bool) → some ≡ true → addressed ≡ true → known ≡ true → small ≡ true → ((some && true) && (addressed && (known && small))) ≡ true
group_sendable true true true true s a k m = refl
group_sendable false addressed known small s a k m = absurd (cc)
group_sendable true false known small s a k m = absurd (cc)
group_sendable true true false small s a k m = absurd (cc)
group_sendable true true true false s a k m = absurd (cc)

groups_each : (pdu : ℕ) (write : Bool) (groups : List (List Item)) → pdu ≤ most_pdu → list_all is_known (joined groups) ≡ true → list_all is_addressed (joined groups) ≡ true → AllByRecursion (IsGroup pdu write) groups → list_all (is_sendable false write) groups ≡ true
groups_each pdu write [] most known addressed each = refl
groups_each pdu write (group ∷ groups) most known addressed each =
    let k = and_parts (list_all is_known group) (list_all is_known (joined groups)) (sym (list_all-append is_known group (joined groups)) ∙ known) in
    let a = and_parts (list_all is_addressed group) (list_all is_addressed (joined groups)) (sym (list_all-append is_addressed group (joined groups)) ∙ addressed) in
    and_from (is_sendable false write group) (list_all (is_sendable false write) groups)
    (group_sendable (ltb 0 (length group)) (list_all is_addressed group) (list_all is_known group) (leb (request_size group write) most_pdu)
    (lt-ltb 0 (length group) each.0.some) a.0 k.0
    (le-leb (request_size group write) most_pdu (request_fits pdu write group each.0.fits most)))
    (groups_each pdu write groups most k.1 a.1 each.1)

-- each group can be sent
pub groups_sendable : (pdu : ℕ) (write : Bool) (items : List Item) → pdu ≤ most_pdu → list_all is_known items ≡ true → list_all is_placed items ≡ true → packed_of pdu write items ≡ Ok tt → list_all (is_sendable false write) (groups_of pdu write items) ≡ true
groups_sendable pdu write items most known placed packed =
    let right : AreGroups pdu write items (groups_of pdu write items) = groups_right pdu write items packed in
    groups_each pdu write (groups_of pdu write items) most
    (ap (list_all is_known) right.whole ∙ known) (ap (list_all is_addressed) right.whole ∙ all_addressed items known placed) right.each
