-- What the questions of a job ask for: what holds of its items, of each its own of the octets.
use Rattle.std.proofs.Common.{◌≡◌, ℕ, ◌+◌, ◌≤◌, Bool, true, false, eqb, List, [], ◌∷◌, ◌++◌, length, drop, sym, ap, ◌∙◌, subst, arith}
use Rattle.std.specs.List.{AllByRecursion, flat_map, list_all}
use Rattle.std.proofs.lemmas.Bool.{and_parts, eqb-true}
use Rattle.std.proofs.lemmas.List.{length-take-le, length-drop}
use Rattle.s7_item.specs.declared.item.Item.{Item}
use Rattle.s7_item.specs.Item.{octet_count}
use Rattle.s7_split.specs.Parts.{parts_of}
use Rattle.s7_split.specs.Groups.{groups_of}
use Rattle.s7_dialogue.specs.Question.{Question, reads, writes}
use Rattle.s7_dialogue.specs.Checks.{is_known, octet_count_of, check_item, check_items}
use Rattle.s7_dialogue.specs.Dialogue.{read_questions, write_questions, alone}
use Rattle.s7_dialogue.proofs.CheckLemmas.{item_checked, items_checked, can_split}
use Rattle.s7_dialogue.proofs.GroupLemmas.{octet_count_append}
use Rattle.s7_dialogue.proofs.GroupLemmas.{groups_right, parts_together}
use Rattle.s7_rig.proofs.Askable.{AreKnown}

-- this holds of each item that is read or written, and a write has as many octets as its items
abbrev pub AsksFor : (Item → Type 0) → Question → Type 0
AsksFor P (reads items) = AllByRecursion P items
AsksFor P (writes items octets) = AllByRecursion P items × (length octets ≡ octet_count_of items)
AsksFor P _ = ⊥

-- ---- lists of items

-- it holds of each item of each list
abbrev InEach : (Item → Type 0) → List (List Item) → Type 0
InEach P groups = AllByRecursion (AllByRecursion P) groups

-- the items of lists, one after another
abbrev flat : List (List Item) → List Item
flat groups = flat_map (λ (group : List Item). group) groups

pub alone_each : (P : Item → Type 0) (items : List Item) → AllByRecursion P items → InEach P (alone items)
alone_each P [] all = tt
alone_each P (item ∷ items) all = ((all.0, tt), alone_each P items all.1)

all_front : (P : Item → Type 0) (xs ys : List Item) → AllByRecursion P (xs ++ ys) → AllByRecursion P xs
all_front P [] ys all = tt
all_front P (x ∷ xs) ys all = (all.0, all_front P xs ys all.1)

all_behind : (P : Item → Type 0) (xs ys : List Item) → AllByRecursion P (xs ++ ys) → AllByRecursion P ys
all_behind P [] ys all = all
all_behind P (x ∷ xs) ys all = all_behind P xs ys all.1

flat_each : (P : Item → Type 0) (groups : List (List Item)) → AllByRecursion P (flat groups) → InEach P groups
flat_each P [] all = tt
flat_each P (group ∷ groups) all =
    (all_front P group (flat groups) all, flat_each P groups (all_behind P group (flat groups) all))

-- ---- their questions

pub reads_for : (P : Item → Type 0) (groups : List (List Item)) → InEach P groups
    → AllByRecursion (AsksFor P) (read_questions groups)
reads_for P [] each = tt
reads_for P (group ∷ groups) each = (each.0, reads_for P groups each.1)

pub writes_for : (P : Item → Type 0) (groups : List (List Item)) (octets : List ℕ) → InEach P groups
    → length octets ≡ octet_count_of (flat groups) → AllByRecursion (AsksFor P) (write_questions groups octets)
writes_for P [] octets each whole = tt
writes_for P (group ∷ groups) octets each whole =
    let n = octet_count_of group in
    let both : length octets ≡ n + octet_count_of (flat groups) = whole ∙ octet_count_append group (flat groups) in (
      (each.0, length-take-le n octets (omega (arith, both))),
      writes_for P groups (drop n octets) each.1 (omega (arith, both, length-drop n octets)),
    )

-- ---- of an item

-- what holds of each part of an item holds of each that is read
pub part_reads_for : (P : Item → Type 0) (item : Item) (pdu : ℕ) → AllByRecursion P (parts_of item pdu false)
    → AllByRecursion (AsksFor P) (read_questions (alone (parts_of item pdu false)))
part_reads_for P item pdu all =
    reads_for P (alone (parts_of item pdu false)) (alone_each P (parts_of item pdu false) all)

-- and of each that is written
pub part_writes_for : (P : Item → Type 0) (item : Item) (octets : List ℕ) (pdu : ℕ) → 64 ≤ pdu
    → check_item item (eqb (length octets) (octet_count item)) ≡ 0 → AllByRecursion P (parts_of item pdu true)
    → AllByRecursion (AsksFor P) (write_questions (alone (parts_of item pdu true)) octets)
part_writes_for P item octets pdu least good all =
    let told = item_checked item (eqb (length octets) (octet_count item)) good in
    let together = parts_together item pdu true (can_split item told.0 told.1) least in
    writes_for P (alone (parts_of item pdu true)) octets (alone_each P (parts_of item pdu true) all)
    (eqb-true (length octets) (octet_count item) told.2 ∙ sym together)

-- ---- of several items

pub groups_each : (P : Item → Type 0) (items : List Item) (has : Bool) (pdu : ℕ) (write : Bool)
    → check_items items has pdu write ≡ 0 → AllByRecursion P items → InEach P (groups_of pdu write items)
groups_each P items has pdu write good all =
    let right = groups_right pdu write items (items_checked items has pdu write good).4 in
    flat_each P (groups_of pdu write items) (subst (AllByRecursion P) (sym right.whole) all)

-- what holds of each item holds of each that is read
pub group_reads_for : (P : Item → Type 0) (items : List Item) (pdu : ℕ) → check_items items true pdu false ≡ 0
    → AllByRecursion P items → AllByRecursion (AsksFor P) (read_questions (groups_of pdu false items))
group_reads_for P items pdu good all =
    reads_for P (groups_of pdu false items) (groups_each P items true pdu false good all)

-- and of each that is written
pub group_writes_for : (P : Item → Type 0) (items : List Item) (octets : List ℕ) (pdu : ℕ)
    → check_items items (eqb (length octets) (octet_count_of items)) pdu true ≡ 0
    → AllByRecursion P items → AllByRecursion (AsksFor P) (write_questions (groups_of pdu true items) octets)
group_writes_for P items octets pdu good all =
    let has = eqb (length octets) (octet_count_of items) in
    let told = items_checked items has pdu true good in
    let right = groups_right pdu true items told.4 in
    writes_for P (groups_of pdu true items) octets (groups_each P items has pdu true good all)
    (eqb-true (length octets) (octet_count_of items) told.3 ∙ ap octet_count_of (sym right.whole))

known_by : (items : List Item) → list_all is_known items ≡ true → AreKnown items
known_by [] known = tt
known_by (item ∷ items) known =
    let both = and_parts (is_known item) (list_all is_known items) known in (both.0, known_by items both.1)

-- the words of items that were checked are known
pub items_known : (items : List Item) (has : Bool) (pdu : ℕ) (write : Bool) → check_items items has pdu write ≡ 0
    → AreKnown items
items_known items has pdu write good = known_by items (items_checked items has pdu write good).1
