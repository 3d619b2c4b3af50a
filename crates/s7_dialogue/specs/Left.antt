-- What contracts see of the questions left to ask.
use Rattle.std.specs.Prelude.{◌≡◌, ℕ, ◌≤◌, List, [], ◌∷◌, length, take, drop}
use Rattle.std.specs.List.{flat_map}
use Rattle.s7_item.specs.declared.item.Item.{Item}
use Rattle.s7_split.specs.Groups.{cut_at}
use Rattle.s7_dialogue.specs.Checks.{octet_count_of}
use Rattle.s7_dialogue.specs.Dialogue.{alone}
use Rattle.s7_dialogue.specs.declared.answers.answer.Asked.{Asked}
use Rattle.s7_dialogue.specs.declared.answers.answer.Asked.TheVariants as asked
use Rattle.s7_dialogue.specs.declared.questions.left.Grouped.{Grouped}
use Rattle.s7_dialogue.specs.declared.questions.left.Grouped.TheVariants as grouped
use Rattle.s7_dialogue.specs.declared.questions.left.Left.{Left}
use Rattle.s7_dialogue.specs.declared.questions.left.Left.TheVariants as left

-- the items of groups, one after another
abbrev pub joined : List (List Item) → List Item
joined groups = flat_map (λ (group : List Item). group) groups

abbrev pub groups_in : Grouped → List (List Item)
groups_in (grouped.Parts parts) = alone parts
groups_in (grouped.Groups items groups next from) = cut_at from (drop next (take groups.count groups.ends)) items

abbrev pub groups_left : Left → List (List Item)
groups_left left.Nothing = []
groups_left left.Negotiation = []
groups_left (left.Reads grouped) = groups_in grouped
groups_left (left.Writes grouped) = groups_in grouped

-- the number of questions left
abbrev pub questions_left : Left → ℕ
questions_left left.Nothing = 0
questions_left left.Negotiation = 1
questions_left (left.Reads grouped) = length (groups_in grouped)
questions_left (left.Writes grouped) = length (groups_in grouped)

-- the number of items of the questions left, and the number of their octets
abbrev pub items_left : Left → ℕ
items_left left = length (joined (groups_left left))

abbrev pub octets_left : Left → ℕ
octets_left left = octet_count_of (joined (groups_left left))

-- the greatest number of parts or items of a job, and the greatest number of their octets. An item has at most FFFF
-- elements of four octets (Snap7 1.4 sources, s7_types.h: TReqFunReadItem) and at most as many parts as octets, and a
-- job has at most twenty items (Snap7 1.4 reference manual, `Cli_ReadMultiVars`).
abbrev pub most_parts : ℕ
most_parts = 262140

abbrev pub most_octets : ℕ
most_octets = 5242800

pub record AreFew (l : Left) : Type 0 where
  pub questions : questions_left l ≤ most_parts
  pub octets : octets_left l ≤ most_octets
  pub items : items_left l ≤ most_parts

-- the items that are asked for
abbrev pub items_asked : Asked → List Item
items_asked asked.Negotiation = []
items_asked (asked.Read items) = items
items_asked (asked.Write items) = items

-- the first of the questions left is this one, and the others stay
abbrev pub TakesNext : Left → Asked → Left → Type 0
TakesNext left.Nothing told after = ⊥
TakesNext left.Negotiation told after = (told ≡ asked.Negotiation) × (after ≡ left.Nothing)
TakesNext (left.Reads grouped) told after =
    (items : List Item) × (later : Grouped) × (told ≡ asked.Read items) × (after ≡ left.Reads later)
    × (groups_in grouped ≡ items ∷ groups_in later)
TakesNext (left.Writes grouped) told after =
    (items : List Item) × (later : Grouped) × (told ≡ asked.Write items) × (after ≡ left.Writes later)
    × (groups_in grouped ≡ items ∷ groups_in later)
