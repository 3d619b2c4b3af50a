-- Heads of blocks: the first 36 octets of each image, in a layout of this profile's own, after Snap7 1.4 sources,
-- s7_types.h: TS7CompactBlockInfo, and Snap7 1.4 reference manual, `Cli_GetAgBlockInfo`: `TS7BlockInfo`.
use Rattle.std.specs.Prelude.{ℕ, ◌+◌, ◌-◌, ◌*◌, ◌/◌, ◌%◌, ◌==◌, ◌&&◌, min, nat_le, nat_eq, Bool, Some, List, [], ◌∷◌, ◌++◌, length, slice_index}
use Rattle.std.specs.Option.{option_eq}
use Rattle.s7_outer.specs.Numbers.{number_of_two, two_octets}
use Rattle.s7_block.specs.Kinds.{head_code}

-- the number in four octets, the high one first
abbrev pub number_of_four : ℕ → ℕ → ℕ → ℕ → ℕ
number_of_four a b c d = 256 * (256 * (256 * a + b) + c) + d

-- a number below 2 ^ 32 in four octets
abbrev pub four_octets : ℕ → List ℕ
four_octets n = n / 16777216 ∷ n / 65536 % 256 ∷ n / 256 % 256 ∷ n % 256 ∷ []

-- the time when a block was changed: milliseconds of the day, and days since 1984-01-01
pub record ChangeTime : Type 0 where
  pub milliseconds : ℕ
  pub days : ℕ

-- the fields of a head
pub record Head : Type 0 where
  pub version : ℕ
  pub flags : ℕ
  pub language : ℕ
  pub code : ℕ
  pub number : ℕ
  -- the number of octets of the image
  pub load_length : ℕ
  pub security : ℕ
  pub code_time : ChangeTime
  pub interface_time : ChangeTime
  pub interface_length : ℕ
  pub additional_length : ℕ
  pub local_length : ℕ
  -- the number of octets of the image that are the block's own
  pub body_length : ℕ

abbrev pub time_octets : ChangeTime → List ℕ
time_octets t = four_octets t.milliseconds ++ two_octets t.days

-- the 36 octets of a head
abbrev pub spelling_of_head : Head → List ℕ
spelling_of_head h =
    0x70 ∷ 0x70 ∷ h.version ∷ h.flags ∷ h.language ∷ h.code ∷ two_octets h.number ++ four_octets h.load_length
    ++ four_octets h.security ++ time_octets h.code_time ++ time_octets h.interface_time
    ++ two_octets h.interface_length ++ two_octets h.additional_length ++ two_octets h.local_length ++ two_octets h.body_length

-- the numbers in two and in four octets from an offset on
abbrev pub two_at : List ℕ → ℕ → ℕ
two_at octets k = number_of_two (slice_index octets k) (slice_index octets (k + 1))

abbrev pub four_at : List ℕ → ℕ → ℕ
four_at octets k =
    number_of_four (slice_index octets k) (slice_index octets (k + 1)) (slice_index octets (k + 2)) (slice_index octets (k + 3))

-- the fields of the head in the first 36 octets
abbrev pub head_of : List ℕ → Head
head_of octets = record {
  version = slice_index octets 2;
  flags = slice_index octets 3;
  language = slice_index octets 4;
  code = slice_index octets 5;
  number = two_at octets 6;
  load_length = four_at octets 8;
  security = four_at octets 12;
  code_time = record { milliseconds = four_at octets 16; days = two_at octets 20 };
  interface_time = record { milliseconds = four_at octets 22; days = two_at octets 26 };
  interface_length = two_at octets 28;
  additional_length = two_at octets 30;
  local_length = two_at octets 32;
  body_length = two_at octets 34;
}

-- the octets begin with `70 70`, as each head does
abbrev pub begins_head : List ℕ → Bool
begins_head octets = slice_index octets 0 == 0x70 && slice_index octets 1 == 0x70

-- the head is that of this block, in an image of this length
abbrev pub is_of_block : ℕ → ℕ → ℕ → Head → Bool
is_of_block len kind number h =
    option_eq nat_eq (head_code kind) (Some h.code) && h.number == number && h.load_length == len && nat_le h.body_length (len - 36)

-- an image of 36 to 65,536 octets whose head is that of this block; the limits are this profile's own
unfoldable pub head_agrees : List ℕ → ℕ → ℕ → Bool
head_agrees image kind number =
    nat_le 36 (length image) && nat_le (length image) 65536 && begins_head image
    && is_of_block (length image) kind number (head_of image)

-- the head of a data block that is an area of `len` octets; its contents are this profile's own
abbrev pub db_head : ℕ → ℕ → Head
db_head number len = record {
  version = 0x01;
  flags = 0x01;
  language = 0x05;
  code = 0x0A;
  number = number;
  load_length = 36 + len;
  security = 0;
  code_time = record { milliseconds = 0; days = 0 };
  interface_time = record { milliseconds = 0; days = 0 };
  interface_length = 0;
  additional_length = 0;
  local_length = 0;
  body_length = min len 65535;
}
