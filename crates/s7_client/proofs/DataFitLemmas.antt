-- Lemmas on the parts of whole data blocks: each fits the PDU, and together they have no more octets than there are.
use Rattle.std.proofs.Common.{◌≡◌, ℕ, zero, suc, ◌+◌, ◌-◌, ◌/◌, ◌≤◌, min, Bool, true, false, cond, leb, List, [], ◌∷◌, ◌++◌, refl, sym, ap, subst, arith}
use Rattle.std.specs.List.{AllByRecursion}
use Rattle.std.proofs.lemmas.Bool.{and_from, le-leb}
use Rattle.std.proofs.lemmas.List.{map-append}
use Rattle.s7_item.specs.declared.item.Item.{Item}
use Rattle.s7_item.specs.Sizes.{request_size, answer_size}
use Rattle.s7_split.specs.Fits.{fits, answer_length}
use Rattle.s7_split.specs.Parts.{parts_of}
use Rattle.s7_dialogue.specs.DataBlocks.{data_item, data_items_from, data_parts}
use Rattle.s7_dialogue.specs.Checks.{octet_count_of}
use Rattle.s7_dialogue.specs.Dialogue.{alone}
use Rattle.s7_dialogue.specs.DataPlaces.{parts_of_all}
use Rattle.s7_dialogue.proofs.GroupLemmas.{octet_count_append}
use Rattle.s7_dialogue.proofs.SpotLemmas.{all_append}
use Rattle.s7_dialogue.proofs.DataPartLemmas.{byte_octets, pieces, parts_pieces}
use Rattle.s7_dialogue.proofs.DataReadLemmas.{write_sized, read_sized}

-- each item alone fits the PDU
abbrev FitAlone : ℕ → Bool → List Item → Type 0
FitAlone pdu write items = AllByRecursion (λ (group : List Item). fits pdu write group ≡ true) (alone items)

answer_sized : (number from count : ℕ) → answer_size (data_item number from count ∷ []) ≡ 18 + count
answer_sized number from count =
    let octets = byte_octets number from count in
    omega (arith, octets)

byte_fits : (number from count pdu : ℕ) (write : Bool) → 64 ≤ pdu → count ≤ cond write (pdu - 35) (pdu - 18)
    → fits pdu write (data_item number from count ∷ []) ≡ true
unfolding fits
byte_fits number from count pdu true least few =
    let part : List Item = data_item number from count ∷ [] in
    let sized = write_sized number from count in
    and_from (leb (request_size part true) pdu) (leb (answer_length part true) pdu)
    (le-leb (request_size part true) pdu (omega (arith, sized, few)))
    (le-leb (answer_length part true) pdu (omega arith))
byte_fits number from count pdu false least few =
    let part : List Item = data_item number from count ∷ [] in
    let sized = read_sized number from count in
    let answer = answer_sized number from count in
    and_from (leb (request_size part false) pdu) (leb (answer_length part false) pdu)
    (le-leb (request_size part false) pdu (omega (arith, sized)))
    (le-leb (answer_length part false) pdu (omega (arith, answer, few)))

pieces_fit : (n room number from left pdu : ℕ) (write : Bool) → 64 ≤ pdu → room ≤ cond write (pdu - 35) (pdu - 18)
    → FitAlone pdu write (pieces n room number from left)
pieces_fit zero room number from left pdu write least few = tt
pieces_fit (suc n) room number from left pdu write least few = (
  byte_fits number from (min room left) pdu write least (omega (arith, few)),
  pieces_fit n room number (from + min room left) (left - min room left) pdu write least few,
)

parts_fit : (number from count pdu : ℕ) (write : Bool) → 64 ≤ pdu
    → FitAlone pdu write (parts_of (data_item number from count) pdu write)
parts_fit number from count pdu write least =
    let room : ℕ = cond write (pdu - 35) (pdu - 18) in
    subst (FitAlone pdu write) (sym (parts_pieces number from count pdu room write refl))
    (pieces_fit (suc ((count - 1) / room)) room number from count pdu write least (omega arith))

items_fit : (n number from left pdu : ℕ) (write : Bool) → 64 ≤ pdu
    → FitAlone pdu write (parts_of_all pdu write (data_items_from n number from left))
items_fit zero number from left pdu write least = tt
items_fit (suc n) number from left pdu write least =
    let first : List Item = parts_of (data_item number from (min 65535 left)) pdu write in
    let later : List Item =
    parts_of_all pdu write (data_items_from n number (from + min 65535 left) (left - min 65535 left)) in
    subst (AllByRecursion (λ (group : List Item). fits pdu write group ≡ true))
    (sym (map-append (λ (item : Item). item ∷ []) first later))
    (all_append (λ (group : List Item). fits pdu write group ≡ true) (alone first) (alone later)
    (parts_fit number from (min 65535 left) pdu write least)
    (items_fit n number (from + min 65535 left) (left - min 65535 left) pdu write least))

-- all parts fit
pub data_fit : (number size pdu : ℕ) (write : Bool) → 64 ≤ pdu
    → AllByRecursion (λ (group : List Item). fits pdu write group ≡ true) (alone (data_parts number size pdu write))
data_fit number size pdu write least = items_fit ((size + 65534) / 65535) number 0 size pdu write least

pieces_few : (n room number from left : ℕ) → octet_count_of (pieces n room number from left) ≤ left
pieces_few zero room number from left = omega arith
pieces_few (suc n) room number from left =
    let one = byte_octets number from (min room left) in
    let rest = pieces_few n room number (from + min room left) (left - min room left) in
    omega (arith, one, rest)

parts_few : (number from count pdu : ℕ) (write : Bool)
    → octet_count_of (parts_of (data_item number from count) pdu write) ≤ count
parts_few number from count pdu write =
    let room : ℕ = cond write (pdu - 35) (pdu - 18) in
    let is = ap octet_count_of (parts_pieces number from count pdu room write refl) in
    let few = pieces_few (suc ((count - 1) / room)) room number from count in
    omega (arith, is, few)

items_few : (n number from left pdu : ℕ) (write : Bool)
    → octet_count_of (parts_of_all pdu write (data_items_from n number from left)) ≤ left
items_few zero number from left pdu write = omega arith
items_few (suc n) number from left pdu write =
    let first : List Item = parts_of (data_item number from (min 65535 left)) pdu write in
    let later : List Item =
    parts_of_all pdu write (data_items_from n number (from + min 65535 left) (left - min 65535 left)) in
    let both : octet_count_of (first ++ later) ≡ octet_count_of first + octet_count_of later =
    octet_count_append first later in
    let few = parts_few number from (min 65535 left) pdu write in
    let rest = items_few n number (from + min 65535 left) (left - min 65535 left) pdu write in
    omega (arith, both, few, rest)

-- they have no more octets than the data block
pub data_few : (number size pdu : ℕ) (write : Bool) → octet_count_of (data_parts number size pdu write) ≤ size
data_few number size pdu write = items_few ((size + 65534) / 65535) number 0 size pdu write
