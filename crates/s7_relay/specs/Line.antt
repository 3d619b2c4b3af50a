-- A line of a windows file, KEY LENGTH = KEY OFFSET, read by itself: this profile's own.
use Rattle.std.specs.Prelude.{ℕ, ◌+◌, ◌==◌, ◌&&◌, ◌||◌, Bool, nat_le, is_some, List, [], ◌∷◌, take, drop, codes, Option, None, Some, Result, Ok, Err, if◌then◌else◌}
use Rattle.std.specs.Str.{bytes_eq}
use Rattle.s7_item.specs.Codes.{data_blocks, flags, inputs, outputs}
use Rattle.s7_area.specs.Registers.{most_octets}
use Rattle.s7_area.specs.declared.key.AreaKey.{AreaKey}
use Rattle.s7_text.specs.Fields.{number_of}
use Rattle.s7_text.specs.Lines.{Text, with_first}
use Rattle.s7_relay.specs.declared.fault.WindowKind.{WindowKind}
use Rattle.s7_relay.specs.declared.fault.WindowKind.TheVariants as fault

-- what a line states: the near area has `length` octets, which are those of the far area from octet `offset` on
pub record Terms : Type 0 where
  pub near : AreaKey
  pub length : ℕ
  pub far : AreaKey
  pub offset : ℕ

-- ---- fields

-- the fields of a line: what stands before, between and after its spaces
abbrev pub fields : Text → List Text
fields [] = [] ∷ []
fields (b ∷ bs) = if b == 32 then [] ∷ fields bs else with_first b (fields bs)

-- the four fields that stand around the =
pub record Parts : Type 0 where
  pub near : Text
  pub length : Text
  pub far : Text
  pub offset : Text

-- the fields around the =, if there are five fields and the third is =
abbrev pub around_sign : List Text → Option Parts
around_sign (near ∷ length ∷ sign ∷ far ∷ offset ∷ []) =
    if bytes_eq sign (codes "=")
    then Some (record { near = near; length = length; far = far; offset = offset }) else None
around_sign _ = None

-- ---- keys and numbers

-- the field begins with the letters of a data block; its number follows
abbrev pub is_block : Text → Bool
is_block field = bytes_eq (take 2 field) (codes "DB")

-- the code of an area whose KEY has no number
abbrev pub area_named : Text → Option ℕ
area_named field =
    if bytes_eq field (codes "PE") then Some inputs
    else (if bytes_eq field (codes "PA") then Some outputs
    else (if bytes_eq field (codes "MK") then Some flags
    else None))

-- the field is PE, PA or MK, or begins with DB
abbrev pub is_word : Text → Bool
is_word field = is_block field || is_some (area_named field)

abbrev pub up_to : ℕ → ℕ → Option ℕ → Option ℕ
up_to low high None = None
up_to low high (Some n) = if nat_le low n && nat_le n high then Some n else None

abbrev pub block : Option ℕ → Option AreaKey
block None = None
block (Some n) = Some (record { area = data_blocks; number = n })

abbrev pub single : Option ℕ → Option AreaKey
single None = None
single (Some area) = Some (record { area = area; number = 0 })

-- the area that a KEY names: the number of a data block is 1 to 65,535
abbrev pub key_named : Text → Option AreaKey
key_named field = if is_block field then block (up_to 1 65535 (number_of (drop 2 field))) else single (area_named field)

-- ---- all of a line

infixl 10 ◌>>=◌
abbrev pub ◌>>=◌ : {A B : Type 0} → Option A → (A → Option B) → Option B
None >>= f = None
(Some x) >>= f = f x

-- what the four fields state: LENGTH is at least 1, and LENGTH and OFFSET together are at most 2,097,152
abbrev pub terms_of : Parts → Option Terms
terms_of parts = do
  near ← key_named parts.near
  length ← up_to 1 most_octets (number_of parts.length)
  far ← key_named parts.far
  offset ← up_to 0 most_octets (number_of parts.offset)
  if nat_le (length + offset) most_octets
      then Some (record { near = near; length = length; far = far; offset = offset }) else None

abbrev pub numbered : Option Terms → Result Terms WindowKind
numbered None = Err fault.Number
numbered (Some terms) = Ok terms

abbrev pub worded : Option Parts → Result Terms WindowKind
worded None = Err fault.Fields
worded (Some parts) = if is_word parts.near && is_word parts.far then numbered (terms_of parts) else Err fault.Word

-- WHAT A LINE STATES, or what is wrong with it: the fields are looked at first, then both words, then all numbers
abbrev pub line_said : Text → Result Terms WindowKind
line_said text = worded (around_sign (fields text))
