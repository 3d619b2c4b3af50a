-- The tags that a tag file names line by line, or its first faulty line.
use Rattle.std.specs.Prelude.{◌≡◌, ℕ, ◌+◌, Bool, true, false, ◌==◌, ◌&&◌, ◌||◌, nat_le, nat_lt, List, [], ◌∷◌, ◌++◌, length, codes, Option, None, Some, Result, Ok, Err, if◌then◌else◌}
use Rattle.std.specs.List.{list_all, list_any}
use Rattle.std.specs.Str.{bytes_eq}
use Rattle.s7_item.specs.Codes.{bits, bytes}
use Rattle.s7_item.specs.declared.item.Item.{Item}
use Rattle.s7_text.specs.Lines.{Text, is_passed, lines, next_line}
use Rattle.s7_text.specs.Fields.{field_of, number_of, parts_around, rest_of}
use Rattle.s7_symbol.specs.Places.{Key, address_of, key_of, up_to}
use Rattle.s7_symbol.specs.declared.fault.TagFault.{TagFault}
use Rattle.s7_symbol.specs.declared.fault.TagFaultKind.{TagFaultKind}
use Rattle.s7_symbol.specs.declared.fault.TagFaultKind.TheVariants as fault
use Rattle.s7_symbol.specs.declared.kind.TagKind.{TagKind}
use Rattle.s7_symbol.specs.declared.kind.TagKind.TheVariants as kind
use Rattle.s7_symbol.specs.declared.tag.Tag.{Tag}

infixl 10 ◌>>=◌
abbrev pub ◌>>=◌ : {A B E : Type 0} → Result A E → (A → Result B E) → Result B E
(Ok x) >>= f = f x
(Err e) >>= f = Err e

abbrev pub or_else : {A E : Type 0} → E → Option A → Result A E
or_else e None = Err e
or_else e (Some x) = Ok x

-- ---- the four fields of a line

pub record Fields : Type 0 where
  pub name : Text
  pub of : Text
  pub key : Text
  pub start : Text

abbrev pub last_field : Text → Text → Text → Text → Option Text → Option Fields
last_field name of key start None = Some (record { name = name; of = of; key = key; start = start })
last_field name of key start (Some more) = None

abbrev pub third_on : Text → Text → Text → Option Text → Option Fields
third_on name of key None = None
third_on name of key (Some rest) = last_field name of key (field_of rest) (rest_of rest)

abbrev pub second_on : Text → Text → Option Text → Option Fields
second_on name of None = None
second_on name of (Some rest) = third_on name of (field_of rest) (rest_of rest)

abbrev pub first_on : Text → Option Text → Option Fields
first_on name None = None
first_on name (Some rest) = second_on name (field_of rest) (rest_of rest)

-- four fields, with one space between two
abbrev pub fields_of : Text → Option Fields
fields_of text = first_on (field_of text) (rest_of text)

-- ---- what the fields say

-- an ASCII letter, a digit or `_`
abbrev pub is_name_letter : ℕ → Bool
is_name_letter b = (nat_le 48 b && nat_le b 57) || (nat_le 65 b && nat_le b 90) || (nat_le 97 b && nat_le b 122) || (b == 95)

-- 1 to 32 ASCII letters, digits or `_`
abbrev pub is_name : Text → Bool
is_name text = (nat_le 1 (length text) && nat_le (length text) 32) && list_all is_name_letter text

abbrev pub text_kind : Option ℕ → Option TagKind
text_kind None = None
text_kind (Some most) = Some (kind.Text most)

-- the type of a string whose number stands before a `]`, if nothing follows the `]`
abbrev pub closed : Option (Text × Text) → Option TagKind
closed None = None
closed (Some parts) = if length parts.1 == 0 then text_kind (up_to 1 254 (number_of parts.0)) else None

-- the type of a text with `STRING` before its `[`
abbrev pub bracketed : Option (Text × Text) → Option TagKind
bracketed None = None
bracketed (Some parts) = if bytes_eq parts.0 (codes "STRING") then closed (parts_around 93 parts.1) else None

-- the type that `STRING[n]` names
abbrev pub string_kind : Text → Option TagKind
string_kind text = bracketed (parts_around 91 text)

abbrev pub kind_named : Text → Option TagKind
kind_named text =
    if bytes_eq text (codes "BOOL") then Some kind.Bool
    else (if bytes_eq text (codes "INT") then Some kind.Int
    else (if bytes_eq text (codes "DINT") then Some kind.Dint
    else (if bytes_eq text (codes "BCD") then Some kind.Bcd
    else (if bytes_eq text (codes "S5TIME") then Some kind.S5Time
    else (if bytes_eq text (codes "DATE_AND_TIME") then Some kind.DateTime
    else string_kind text)))))

abbrev pub is_bit : TagKind → Bool
is_bit kind.Bool = true
is_bit _ = false

-- the number of octets of a value
abbrev pub size_of : TagKind → ℕ
size_of kind.Bool = 1
size_of kind.Int = 2
size_of kind.Dint = 4
size_of kind.Bcd = 2
size_of kind.S5Time = 2
size_of (kind.Text most) = most + 2
size_of kind.DateTime = 8

-- the item of a tag: a bit, or as many bytes as the type has
abbrev pub item_at : TagKind → Key → ℕ → Item
item_at of key address = record {
  area = key.area;
  db = key.db;
  word = if is_bit of then bits else bytes;
  count = size_of of;
  address = address;
}

-- ---- a line

abbrev pub named : Text → Result Text TagFaultKind
named text = if is_name text then Ok text else Err fault.Name

-- the tag of a line NAME TYPE KEY START, or the line's fault
abbrev pub tag_of : Text → Result Tag TagFaultKind
tag_of text = do
  fields ← or_else fault.Fields (fields_of text)
  name ← named fields.name
  of ← or_else fault.Type (kind_named fields.of)
  key ← or_else fault.Place (key_of fields.key)
  address ← or_else fault.Place (address_of (is_bit of) fields.start)
  Ok (record { name = name; kind = of; item = item_at of key address })

-- one of these tags has the name
abbrev pub has_name : Text → List Tag → Bool
has_name name tags = list_any (λ (t : Tag). bytes_eq t.name name) tags

-- these tags and one more, if its name is new and they are fewer than 2,048
abbrev pub joined : List Tag → Tag → Result (List Tag) TagFaultKind
joined tags tag =
    if has_name tag.name tags then Err fault.Double
    else (if nat_lt (length tags) 2048 then Ok (tags ++ tag ∷ []) else Err fault.TooMany)

-- ---- the lines in order

abbrev pub with_tag : List Tag → Text → Result (List Tag) TagFaultKind
with_tag tags text = if is_passed text then Ok tags else tag_of text >>= joined tags

abbrev pub at_line : ℕ → Result (List Tag) TagFaultKind → Result (List Tag) TagFault
at_line line (Ok tags) = Ok tags
at_line line (Err kind) = Err (record { line = line; kind = kind })

-- these tags and those of the lines from this number on, or the first faulty line
unfoldable pub tags_from : ℕ → List Tag → List Text → Result (List Tag) TagFault
tags_from line tags [] = Ok tags
tags_from line tags (text ∷ rest) = do
  more ← at_line line (with_tag tags text)
  tags_from (next_line line) more rest

-- THE TAGS that a tag file names, or its first faulty line
abbrev pub tags : Text → Result (List Tag) TagFault
tags text = tags_from 1 [] (lines text)

-- ---- what a call returned is this, unless memory ran out

abbrev pub FailsAs : {Y : Type 0} → TagFault → TagFaultKind → Result Y TagFault → Type 0
FailsAs e fault.Memory told = Unit {0}
FailsAs e _ told = told ≡ Err e

abbrev pub GivesTags : Result (List Tag) TagFault → Result (List Tag) TagFault → Type 0
GivesTags (Ok tags) told = told ≡ Ok tags
GivesTags (Err e) told = FailsAs e e.kind told

-- what holds for every tag of a file
pub record IsTag (t : Tag) : Type 0 where
  pub name : is_name t.name ≡ true
  pub size : t.item.count ≡ size_of t.kind
  pub word : t.item.word ≡ (if is_bit t.kind then bits else bytes)
