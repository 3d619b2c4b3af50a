-- The line of a tag in a tag file: NAME TYPE KEY START.
use Rattle.std.specs.Prelude.{◌≡◌, ◌<◌, ◌/◌, ◌%◌, ℕ, Bool, true, false, ◌==◌, ◌&&◌, ◌||◌, nat_le, ◌∷◌, ◌++◌, codes, Ok, if◌then◌else◌}
use Rattle.std.specs.Fmt.{decimal}
use Rattle.s7_item.specs.Codes.{data_blocks, flags, inputs, outputs}
use Rattle.s7_text.specs.Lines.{Text}
use Rattle.s7_symbol.specs.Meanings.{has_room}
use Rattle.s7_symbol.specs.Tags.{IsTag, is_bit, tag_of}
use Rattle.s7_symbol.specs.declared.kind.TagKind.{TagKind}
use Rattle.s7_symbol.specs.declared.kind.TagKind.TheVariants as kind
use Rattle.s7_symbol.specs.declared.tag.Tag.{Tag}

-- the text of a type, as TYPE in a line
abbrev pub kind_text : TagKind → Text
kind_text kind.Bool = codes "BOOL"
kind_text kind.Int = codes "INT"
kind_text kind.Dint = codes "DINT"
kind_text kind.Bcd = codes "BCD"
kind_text kind.S5Time = codes "S5TIME"
kind_text (kind.Text most) = codes "STRING" ++ 91 ∷ decimal most ++ codes "]"
kind_text kind.DateTime = codes "DATE_AND_TIME"

-- the text of an area, as KEY in a line
abbrev pub key_text : ℕ → ℕ → Text
key_text area db =
    if area == data_blocks then codes "DB" ++ decimal db
    else (if area == inputs then codes "PE" else (if area == outputs then codes "PA" else codes "MK"))

-- the text of an address, as START in a line
abbrev pub start_text : Bool → ℕ → Text
start_text is_bit address =
    if is_bit then decimal (address / 8) ++ 46 ∷ decimal (address % 8) else decimal (address / 8)

-- two texts with a space between them
abbrev pub spaced : Text → Text → Text
spaced before after = before ++ (32 ∷ after)

-- THE LINE of a tag
abbrev pub tag_line : Tag → Text
tag_line t =
    spaced t.name (spaced (kind_text t.kind) (spaced (key_text t.item.area t.item.db)
    (start_text (is_bit t.kind) t.item.address)))

-- a type that has a name
abbrev pub is_type : TagKind → Bool
is_type (kind.Text most) = has_room most
is_type _ = true

-- an area that has a key, and the number of a data block or 0
abbrev pub has_key : ℕ → ℕ → Bool
has_key area db =
    if area == data_blocks then nat_le 1 db && nat_le db 65535
    else (area == inputs || (area == outputs || area == flags)) && db == 0

-- a tag that a line can name
pub record HasLine (t : Tag) : Type 0 where
  pub tag : IsTag t
  pub kind : is_type t.kind ≡ true
  pub key : has_key t.item.area t.item.db ≡ true
  pub address : t.item.address < 16777216
  pub octet : is_bit t.kind ≡ false → t.item.address % 8 ≡ 0

-- THE LINE of such a tag is read as that tag.
abbrev pub TagsHaveLines : Type 0
TagsHaveLines = (t : Tag) → HasLine t → tag_of (tag_line t) ≡ Ok t
