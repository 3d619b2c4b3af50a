-- How a list of items is packed into telegrams (Snap7 1.4 reference manual, `Cli_ReadMultiVars` and
-- `Cli_WriteMultiVars`: at most twenty items, and neither telegram longer than the PDU). Which items go together is
-- this profile's own.
use Rattle.std.specs.Prelude.{◌≡◌, ℕ, ◌+◌, ◌<◌, ◌≤◌, nat_lt, Bool, true, false, if◌then◌else◌, Option, Some, None, Result, Ok, Err, List, [], ◌∷◌, ◌++◌, length, take, slice_index, ◌↔◌}
use Rattle.std.specs.List.{flat_map, between, AllByRecursion}
use Rattle.s7_item.specs.declared.item.Item.{Item}
use Rattle.s7_split.specs.Fits.{fits}
use Rattle.s7_split.specs.declared.packing.PackFault.{PackFault}
use Rattle.s7_split.specs.declared.packing.PackFault.TheVariants.{TooMany, ItemOverPdu}

-- the index of the first item that doesn't fit a telegram even alone; the list begins with index `at`
abbrev pub first_over : ℕ → Bool → ℕ → List Item → Option ℕ
first_over pdu write at [] = None
first_over pdu write at (item ∷ items) =
    if fits pdu write (item ∷ []) then first_over pdu write (at + 1) items else Some at

abbrev pub over_of : Option ℕ → Result Unit PackFault
over_of None = Ok tt
over_of (Some place) = Err (ItemOverPdu place)

-- whether items can be packed, or the first refusal that applies
abbrev pub packed_of : ℕ → Bool → List Item → Result Unit PackFault
packed_of pdu write items =
    if nat_lt 20 (length items) then Err TooMany else over_of (first_over pdu write 0 items)

-- the groups of the items in `group`, which isn't full yet, and of these items after them: items join `group` as long
-- as they fit, and further groups follow
abbrev pub groups_from : ℕ → Bool → List Item → List Item → List (List Item)
groups_from pdu write group [] = group ∷ []
groups_from pdu write group (item ∷ items) =
    if fits pdu write (group ++ item ∷ [])
    then groups_from pdu write (group ++ item ∷ []) items
    else group ∷ groups_from pdu write (item ∷ []) items

-- the groups of items, each of which fits a telegram alone; an empty list has no groups
abbrev pub groups_of : ℕ → Bool → List Item → List (List Item)
groups_of pdu write [] = []
groups_of pdu write (item ∷ items) = groups_from pdu write (item ∷ []) items

-- for each group the index after its last item, in the list of all their items; the first item has index `from`
abbrev pub ends_of : ℕ → List (List Item) → List ℕ
ends_of from [] = []
ends_of from (group ∷ groups) = (from + length group) ∷ ends_of (from + length group) groups

-- from index `count` on the list has no end of a group: only 0, or nothing
abbrev pub IsBlankAfter : ℕ → List ℕ → Type 0
IsBlankAfter count ends = (k : ℕ) → count ≤ k → slice_index ends k ≡ 0

-- the pieces of a list, cut at these indices; the first piece begins at index `from`
abbrev pub cut_at : ℕ → List ℕ → List Item → List (List Item)
cut_at from [] items = []
cut_at from (end ∷ ends) items = between from end items ∷ cut_at end ends items

-- a group has items, and its request and answer fit the PDU length
pub record IsGroup (pdu : ℕ) (write : Bool) (group : List Item) : Type 0 where
  pub some : 0 < length group
  pub fits : fits pdu write group ≡ true

-- no group but the last would still fit with the next item added
abbrev pub AreFull : ℕ → Bool → List (List Item) → Type 0
AreFull pdu write [] = Unit {0}
AreFull pdu write (group ∷ []) = Unit {0}
AreFull pdu write (group ∷ next ∷ groups) =
    (fits pdu write (group ++ take 1 next) ≡ false) × AreFull pdu write (next ∷ groups)

-- The lists are the groups of items: one after another they are these items, each item once and in order; each
-- group fits; and each but the last is full.
pub record AreGroups (pdu : ℕ) (write : Bool) (items : List Item) (groups : List (List Item)) : Type 0 where
  pub whole : flat_map (λ (group : List Item). group) groups ≡ items
  pub each : AllByRecursion (IsGroup pdu write) groups
  pub full : AreFull pdu write groups

-- if the items can be packed, `AreGroups` holds of what `groups_of` gives, and of nothing else
abbrev pub GroupsAreExact : Type 0
GroupsAreExact =
    (pdu : ℕ) (write : Bool) (items : List Item) (groups : List (List Item))
    → packed_of pdu write items ≡ Ok tt
    → (groups ≡ groups_of pdu write items) ↔ AreGroups pdu write items groups

-- no group has more than twenty items
abbrev pub GroupsAreShort : Type 0
GroupsAreShort =
    (pdu : ℕ) (write : Bool) (items : List Item) → packed_of pdu write items ≡ Ok tt
    → AllByRecursion (λ (group : List Item). length group ≤ 20) (groups_of pdu write items)

-- cutting the items where the groups end gives the groups again
abbrev pub EndsCutGroups : Type 0
EndsCutGroups =
    (groups : List (List Item))
    → cut_at 0 (ends_of 0 groups) (flat_map (λ (group : List Item). group) groups) ≡ groups
