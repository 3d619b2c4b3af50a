-- The parameters of read and write telegrams: function, number of items, items
-- (Snap7 1.4 sources, s7_types.h: TReqFunReadParams).
use Rattle.std.specs.Prelude.{◌≡◌, ℕ, zero, suc, ◌+◌, ◌*◌, ◌<◌, ◌≤◌, ◌==◌, ◌||◌, nat_lt, if◌then◌else◌, Option, Some, Result, Ok, Err, List, [], ◌∷◌, length, take, drop, slice_index, ◌↔◌}
use Rattle.std.specs.Option.{option_map, option_and_then, ok_or}
use Rattle.std.specs.List.{flat_map}
use Rattle.s7_outer.specs.Numbers.{AreOctets}
use Rattle.s7_item.specs.Item.{item_octets, item_in}
use Rattle.s7_item.specs.declared.item.Item.{Item}
use Rattle.s7_item.specs.declared.params.ItemFault.{ItemFault}
use Rattle.s7_item.specs.declared.params.ItemFault.TheVariants.{Short, Count, Spec}

-- the octets of the parameters for these items
abbrev pub items_params : ℕ → List Item → List ℕ
items_params function items = function ∷ length items ∷ flat_map item_octets items

-- the items that n times twelve octets spell, if each twelve of them spell one
abbrev pub items_in : ℕ → List ℕ → Option (List Item)
items_in zero octets = Some []
items_in (suc n) octets =
    option_and_then (λ item. option_map (λ items. item ∷ items) (items_in n (drop 12 octets))) (item_in (take 12 octets))

-- the number of items that the parameters state, at most twenty (Snap7 1.4 reference manual, `Cli_ReadMultiVars`),
-- or the first fault of the number and the length
abbrev pub count_of : List ℕ → Result ℕ ItemFault
count_of params =
    let count = slice_index params 1 in
    if nat_lt (length params) 2 then Err Short
    else (if count == 0 || nat_lt 20 count then Err Count
    else (if length params == 2 + 12 * count then Ok count
    else Err Short))

-- the items after the function and the number, if these are right
abbrev pub items_after : List ℕ → Result ℕ ItemFault → Result (List Item) ItemFault
items_after params (Ok count) = ok_or (items_in count (drop 2 params)) Spec
items_after params (Err fault) = Err fault

-- the items of the parameters, or the first refusal that applies
unfoldable pub items_of : List ℕ → Result (List Item) ItemFault
items_of params = items_after params (count_of params)

-- the parameters spell these items: any function, the number of the items, and their octets
pub record SpellsItems (params : List ℕ) (items : List Item) : Type 0 where
  pub function : ℕ
  pub some : 0 < length items
  pub most : length items ≤ 20
  pub spelled : params ≡ items_params function items

-- what is written for items is read as these items
abbrev pub ItemsReadBack : Type 0
ItemsReadBack =
    (function : ℕ) (items : List Item) → 0 < length items → length items ≤ 20
    → items_of (items_params function items) ≡ Ok items

-- octets are read as items exactly if they spell these items
abbrev pub ItemsAreExact : Type 0
ItemsAreExact =
    (params : List ℕ) (items : List Item) → AreOctets params
    → (items_of params ≡ Ok items) ↔ SpellsItems params items
