-- The samples of tags: what a read finds.
use Rattle.std.specs.Prelude.{ℕ, Bool, true, not, ◌==◌, ◌&&◌, List, [], ◌∷◌, take, drop, map, Option, None, Some}
use Rattle.std.specs.Str.{bytes_eq}
use Rattle.s7_item.specs.declared.item.Item.{Item}
use Rattle.s7_client.specs.Form.{count_read}
use Rattle.s7_symbol.specs.declared.tag.Tag.{Tag}

-- A SAMPLE of a tag: the return code of its item, and the octets that were read; none if the item was refused
pub record Sample : Type 0 where
  pub code : ℕ
  pub octets : List ℕ

abbrev pub item_of : Tag → Item
item_of tag = tag.item

abbrev pub items_of : List Tag → List Item
items_of tags = map item_of tags

-- the sample of an item with this code, whose octets are the first of these
abbrev pub sample_first : Item → ℕ → List ℕ → Sample
sample_first item code octets = record { code = code; octets = take (count_read item code) octets }

-- the samples of items with these codes; the octets of all items are joined
unfoldable pub samples_in : List Item → List ℕ → List ℕ → List Sample
samples_in [] codes octets = []
samples_in (item ∷ items) [] octets = []
samples_in (item ∷ items) (code ∷ codes) octets =
    sample_first item code octets ∷ samples_in items codes (drop (count_read item code) octets)

-- two samples have the same code and the same octets
abbrev pub are_same : Sample → Sample → Bool
are_same a b = a.code == b.code && bytes_eq a.octets b.octets

-- the sample is the first of its tag, or differs from the last one
abbrev pub is_new : Option Sample → Sample → Bool
is_new None sample = true
is_new (Some last) sample = not (are_same last sample)
