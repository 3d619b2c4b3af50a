-- The jobs that the lines of scripts name.
use Rattle.std.specs.Prelude.{ℕ, Bool, ◌≡◌, ◌==◌, ◌&&◌, ◌+◌, ◌*◌, ◌/◌, ◌%◌, ◌||◌, nat_le, List, [], ◌∷◌, ◌++◌, length, take, drop, codes, unwrap_or, Option, Some, None, Result, Ok, Err, if◌then◌else◌}
use Rattle.std.specs.List.{position, list_all}
use Rattle.std.specs.Str.{bytes_eq}
use Rattle.hex.specs.Hex.{decode_of}
use Rattle.hex.specs.declared.error.FromHexError.{FromHexError}
use Rattle.s7_item.specs.Codes.{data_blocks, counters, timers, bits, bytes, characters, words, integers, double_words, double_integers, reals}
use Rattle.s7_area.specs.declared.key.AreaKey.{AreaKey}
use Rattle.s7_item.specs.Word.{size_of}
use Rattle.s7_item.specs.declared.item.Item.{Item}
use Rattle.s7_block.specs.declared.block.BlockName.{BlockName}
use Rattle.s7_dialogue.specs.declared.job.Job.{Job}
use Rattle.s7_dialogue.specs.declared.job.Job.TheVariants as job
use Rattle.s7_text.specs.Lines.{Text, with_first}
use Rattle.s7_text.specs.Fields.{field_of, number_of, rest_of}
use Rattle.s7_text.specs.Moments.{moment_named}
use Rattle.s7_script.specs.Reading.{area_named}
use Rattle.s7_script.specs.declared.scripts.script_fault.ScriptFault.{ScriptFault}
use Rattle.s7_script.specs.declared.scripts.script_fault.ScriptKind.{ScriptKind}
use Rattle.s7_script.specs.declared.scripts.script_fault.ScriptKind.TheVariants as kind

infixl 10 ◌>>=◌
abbrev pub ◌>>=◌ : {A B E : Type 0} → Result A E → (A → Result B E) → Result B E
(Ok x) >>= f = f x
(Err e) >>= f = Err e

-- ---- fields; the first wrong one from the left decides

-- a number in a range
abbrev pub within : ℕ → ℕ → Option ℕ → Result ℕ ScriptKind
within low high None = Err kind.Number
within low high (Some n) = if nat_le low n && nat_le n high then Ok n else Err kind.Number

-- what was read, if no field is left after it
abbrev pub ended : {A : Type 0} → A → Option Text → Result A ScriptKind
ended x None = Ok x
ended x (Some rest) = Err kind.Fields

-- an area that exists once
abbrev pub named_key : Option ℕ → Result AreaKey ScriptKind
named_key None = Err kind.Word
named_key (Some area) = Ok (record { area = area; number = 0 })

-- the letters of a data block are followed by its number
abbrev pub key_of : Text → Result AreaKey ScriptKind
key_of field =
    if bytes_eq (take 2 field) (codes "DB")
    then (do
      number ← within 1 65535 (number_of (drop 2 field))
      Ok (record { area = data_blocks; number = number }))
    else named_key (area_named field)

-- the code of the word of this name
abbrev pub word_named : Text → Option ℕ
word_named name =
    if bytes_eq name (codes "bit") then Some bits
    else (if bytes_eq name (codes "byte") then Some bytes
    else (if bytes_eq name (codes "char") then Some characters
    else (if bytes_eq name (codes "word") then Some words
    else (if bytes_eq name (codes "int") then Some integers
    else (if bytes_eq name (codes "dword") then Some double_words
    else (if bytes_eq name (codes "dint") then Some double_integers
    else (if bytes_eq name (codes "real") then Some reals
    else (if bytes_eq name (codes "counter") then Some counters
    else (if bytes_eq name (codes "timer") then Some timers
    else None)))))))))

abbrev pub word_of : Option ℕ → Result ℕ ScriptKind
word_of None = Err kind.Word
word_of (Some word) = Ok word

abbrev pub is_point : ℕ → Bool
is_point b = b == 46

-- an octet and a bit, with a point between them
abbrev pub bit_place : Text → Option ℕ → Result ℕ ScriptKind
bit_place field None = Err kind.Number
bit_place field (Some point) = do
  octet ← within 0 2097151 (number_of (take point field))
  bit ← within 0 7 (number_of (drop (point + 1) field))
  Ok (octet * 8 + bit)

abbrev pub octet_place : Text → Result ℕ ScriptKind
octet_place field = do
  octet ← within 0 2097151 (number_of field)
  Ok (octet * 8)

-- the address that a start names; counters and timers have numbers
abbrev pub address_of : AreaKey → ℕ → Text → Result ℕ ScriptKind
address_of key word field =
    if key.area == counters || key.area == timers then within 0 16777215 (number_of field)
    else (if word == bits then bit_place field (position is_point field)
    else octet_place field)

-- ---- items

-- the place of an item, and the fields that follow
pub record Place : Type 0 where
  pub key : AreaKey
  pub word : ℕ
  pub address : ℕ
  pub rest : Option Text

abbrev pub with_start : AreaKey → ℕ → Option Text → Result Place ScriptKind
with_start key word None = Err kind.Fields
with_start key word (Some text) = do
  address ← address_of key word (field_of text)
  Ok (record { key = key; word = word; address = address; rest = rest_of text })

abbrev pub with_word : AreaKey → Option Text → Result Place ScriptKind
with_word key None = Err kind.Fields
with_word key (Some text) = do
  word ← word_of (word_named (field_of text))
  with_start key word (rest_of text)

-- the place that the fields KEY WORD START name, and the fields after them
abbrev pub place : Text → Result Place ScriptKind
place text = do
  key ← key_of (field_of text)
  with_word key (rest_of text)

abbrev pub item_at : Place → ℕ → Item
item_at p count = record {
  area = p.key.area;
  db = p.key.number;
  word = p.word;
  count = count;
  address = p.address;
}

abbrev pub with_count : Place → Option Text → Result Item ScriptKind
with_count p None = Err kind.Fields
with_count p (Some text) = do
  count ← within 0 65535 (number_of (field_of text))
  ended (item_at p count) (rest_of text)

-- the item that the fields KEY WORD START COUNT name
abbrev pub read_item : Text → Result Item ScriptKind
read_item text = do
  p ← place text
  with_count p p.rest

-- the number of octets of an element of the word
abbrev pub element_size : ℕ → ℕ
element_size word = unwrap_or (size_of word) 1

-- the item with as many elements as these octets make; they have to be whole elements
abbrev pub counted : Place → ℕ → Result Item ScriptKind
counted p octets =
    if octets % element_size p.word == 0
    then (if nat_le (octets / element_size p.word) 65535
    then Ok (item_at p (octets / element_size p.word))
    else Err kind.Number)
    else Err kind.Fields

-- an item to be written, and its octets
abbrev pub Written : Type 0
Written = Item × List ℕ

abbrev pub with_octets : Place → Option Text → Result (List ℕ) FromHexError → Result Written ScriptKind
with_octets p rest (Err e) = Err kind.Digits
with_octets p rest (Ok octets) = do
  item ← counted p (length octets)
  ended (item, octets) rest

-- the item and the octets of hexadecimal digits, which are an even number, at least two
abbrev pub with_digits : Place → Text → Option Text → Result Written ScriptKind
with_digits p field rest =
    if length field == 0 then Err kind.Digits else with_octets p rest (decode_of field)

abbrev pub with_hex : Place → Option Text → Result Written ScriptKind
with_hex p None = Err kind.Fields
with_hex p (Some text) = with_digits p (field_of text) (rest_of text)

-- the item and the octets that the fields KEY WORD START HEX name
abbrev pub written_item : Text → Result Written ScriptKind
written_item text = do
  p ← place text
  with_hex p p.rest

-- ---- several items

-- the parts of a text between ` ; ` and ` ; `
unfoldable pub parts : Text → List Text
parts [] = [] ∷ []
parts (a ∷ []) = (a ∷ []) ∷ []
parts (a ∷ b ∷ []) = (a ∷ b ∷ []) ∷ []
parts (a ∷ b ∷ c ∷ rest) =
    if bytes_eq (codes " ; ") (a ∷ b ∷ c ∷ []) then [] ∷ parts rest
    else with_first a (parts (b ∷ c ∷ rest))

-- the items that these texts name, or the fault of the first wrong one
unfoldable pub read_items : List Text → Result (List Item) ScriptKind
read_items [] = Ok []
read_items (part ∷ rest) = do
  item ← read_item part
  items ← read_items rest
  Ok (item ∷ items)

-- the items that these texts write and all their octets, joined; or the fault of the first wrong text
unfoldable pub written_items : List Text → Result (List Item × List ℕ) ScriptKind
written_items [] = Ok ([], [])
written_items (part ∷ rest) = do
  first ← written_item part
  others ← written_items rest
  Ok (first.0 ∷ others.0, first.1 ++ others.1)

-- ---- jobs

abbrev pub read_job : Option Text → Result Job ScriptKind
read_job None = Err kind.Fields
read_job (Some text) = do
  item ← read_item text
  Ok (job.ReadArea item)

abbrev pub write_job : Option Text → Result Job ScriptKind
write_job None = Err kind.Fields
write_job (Some text) = do
  written ← written_item text
  Ok (job.WriteArea written.0 written.1)

abbrev pub read_many_job : Option Text → Result Job ScriptKind
read_many_job None = Err kind.Fields
read_many_job (Some text) = do
  items ← read_items (parts text)
  Ok (job.ReadMany items)

abbrev pub write_many_job : Option Text → Result Job ScriptKind
write_many_job None = Err kind.Fields
write_many_job (Some text) = do
  written ← written_items (parts text)
  Ok (job.WriteMany written.0 written.1)

-- the code of the kind of blocks of this name
abbrev pub kind_named : Text → Option ℕ
kind_named name =
    if bytes_eq name (codes "OB") then Some 0x38
    else (if bytes_eq name (codes "DB") then Some 0x41
    else (if bytes_eq name (codes "SDB") then Some 0x42
    else (if bytes_eq name (codes "FC") then Some 0x43
    else (if bytes_eq name (codes "SFC") then Some 0x44
    else (if bytes_eq name (codes "FB") then Some 0x45
    else (if bytes_eq name (codes "SFB") then Some 0x46
    else None))))))

-- the job of a line `listof KIND`, by the fields after its word
abbrev pub list_of_job : Option Text → Result Job ScriptKind
list_of_job None = Err kind.Fields
list_of_job (Some text) = do
  of ← word_of (kind_named (field_of text))
  ended (job.ListOf of) (rest_of text)

abbrev pub with_number : ℕ → Option Text → Result BlockName ScriptKind
with_number of None = Err kind.Fields
with_number of (Some text) = do
  number ← within 0 65535 (number_of (field_of text))
  ended (record { kind = of; number = number }) (rest_of text)

-- the block that the fields KIND NUMBER name
abbrev pub block_named : Option Text → Result BlockName ScriptKind
block_named None = Err kind.Fields
block_named (Some text) = do
  of ← word_of (kind_named (field_of text))
  with_number of (rest_of text)

abbrev pub info_job : Option Text → Result Job ScriptKind
info_job rest = do
  name ← block_named rest
  Ok (job.Info name.kind name.number)

abbrev pub upload_job : Option Text → Result Job ScriptKind
upload_job rest = do
  name ← block_named rest
  Ok (job.Upload name.kind name.number)

abbrev pub with_image : Option Text → Result (List ℕ) FromHexError → Result Job ScriptKind
with_image rest (Err e) = Err kind.Digits
with_image rest (Ok image) = ended (job.Download image) rest

-- the job of a line `download HEX`, by the fields after its word; HEX has an even number of hexadecimal digits, at
-- least two
abbrev pub download_job : Option Text → Result Job ScriptKind
download_job None = Err kind.Fields
download_job (Some text) =
    if length (field_of text) == 0 then Err kind.Digits
    else with_image (rest_of text) (decode_of (field_of text))

abbrev pub delete_job : Option Text → Result Job ScriptKind
delete_job rest = do
  name ← block_named rest
  Ok (job.Delete name.kind name.number)

-- the job of a line `dbget NUMBER`, by the fields after its word
abbrev pub db_get_job : Option Text → Result Job ScriptKind
db_get_job None = Err kind.Fields
db_get_job (Some text) = do
  number ← within 1 65535 (number_of (field_of text))
  ended (job.DbGet number) (rest_of text)

-- an octet, in two hexadecimal digits
abbrev pub octet_in : Result (List ℕ) FromHexError → Result ℕ ScriptKind
octet_in (Ok (octet ∷ [])) = Ok octet
octet_in _ = Err kind.Digits

abbrev pub with_value : ℕ → Option Text → Result Job ScriptKind
with_value number None = Err kind.Fields
with_value number (Some text) = do
  value ← octet_in (decode_of (field_of text))
  ended (job.DbFill number value) (rest_of text)

-- the job of a line `dbfill NUMBER HH`, by the fields after its word
abbrev pub db_fill_job : Option Text → Result Job ScriptKind
db_fill_job None = Err kind.Fields
db_fill_job (Some text) = do
  number ← within 1 65535 (number_of (field_of text))
  with_value number (rest_of text)

-- a number of two octets, in four hexadecimal digits
abbrev pub two_octets_in : Result (List ℕ) FromHexError → Result ℕ ScriptKind
two_octets_in (Ok (high ∷ low ∷ [])) = Ok (high * 256 + low)
two_octets_in _ = Err kind.Digits

abbrev pub with_index : ℕ → Option Text → Result Job ScriptKind
with_index id None = Err kind.Fields
with_index id (Some text) = do
  index ← two_octets_in (decode_of (field_of text))
  ended (job.Szl id index) (rest_of text)

-- the job of a line `szl ID INDEX`, by the fields after its word
abbrev pub list_job : Option Text → Result Job ScriptKind
list_job None = Err kind.Fields
list_job (Some text) = do
  id ← two_octets_in (decode_of (field_of text))
  with_index id (rest_of text)

abbrev pub moment_job : Option ℕ → Option Text → Result Job ScriptKind
moment_job None rest = Err kind.Number
moment_job (Some moment) rest = ended (job.ClockSet moment) rest

-- the job of a line `setclock YYYY-MM-DDThh:mm:ss.mmm`, by the fields after its word; the date and time are of the
-- years 1990 to 2089
abbrev pub set_clock_job : Option Text → Result Job ScriptKind
set_clock_job None = Err kind.Fields
set_clock_job (Some text) = moment_job (moment_named (field_of text)) (rest_of text)

-- printable ASCII without space
abbrev pub is_printable : ℕ → Bool
is_printable b = nat_le 33 b && nat_le b 126

abbrev pub password_job : Option Text → Result Job ScriptKind
password_job None = Err kind.Fields
password_job (Some text) =
    if list_all is_printable (field_of text) then ended (job.PasswordSet (field_of text)) (rest_of text)
    else Err kind.Word

-- the job of a word without fields
abbrev pub plain_job : Text → Option Job
plain_job name =
    if bytes_eq name (codes "list") then Some job.List
    else (if bytes_eq name (codes "clock") then Some job.ClockRead
    else (if bytes_eq name (codes "start") then Some job.Start
    else (if bytes_eq name (codes "coldstart") then Some job.ColdStart
    else (if bytes_eq name (codes "stop") then Some job.Stop
    else (if bytes_eq name (codes "compress") then Some job.Compress
    else (if bytes_eq name (codes "copy") then Some job.CopyRam
    else (if bytes_eq name (codes "status") then Some job.Status
    else (if bytes_eq name (codes "clearpassword") then Some job.PasswordClear
    else None))))))))

abbrev pub or_unknown : Option Job → Option Text → Result Job ScriptKind
or_unknown None rest = Err kind.Word
or_unknown (Some job) rest = ended job rest

abbrev pub job_named : Text → Option Text → Result Job ScriptKind
job_named name rest =
    if bytes_eq name (codes "read") then read_job rest
    else (if bytes_eq name (codes "write") then write_job rest
    else (if bytes_eq name (codes "readmany") then read_many_job rest
    else (if bytes_eq name (codes "writemany") then write_many_job rest
    else (if bytes_eq name (codes "listof") then list_of_job rest
    else (if bytes_eq name (codes "info") then info_job rest
    else (if bytes_eq name (codes "upload") then upload_job rest
    else (if bytes_eq name (codes "download") then download_job rest
    else (if bytes_eq name (codes "delete") then delete_job rest
    else (if bytes_eq name (codes "dbget") then db_get_job rest
    else (if bytes_eq name (codes "dbfill") then db_fill_job rest
    else (if bytes_eq name (codes "szl") then list_job rest
    else (if bytes_eq name (codes "setclock") then set_clock_job rest
    else (if bytes_eq name (codes "password") then password_job rest
    else or_unknown (plain_job name) rest)))))))))))))

-- ---- what a call returned is this, unless memory ran out

abbrev pub FailsAs : {Y : Type 0} → ScriptKind → Result Y ScriptKind → Type 0
FailsAs kind.Memory told = Unit {0}
FailsAs e told = told ≡ Err e

abbrev pub Gives : {X Y : Type 0} → (X → Y) → Result X ScriptKind → Result Y ScriptKind → Type 0
Gives view (Ok x) told = told ≡ Ok (view x)
Gives view (Err e) told = FailsAs e told

abbrev pub LineFails : {Y : Type 0} → ScriptFault → ScriptKind → Result Y ScriptFault → Type 0
LineFails e kind.Memory told = Unit {0}
LineFails e _ told = told ≡ Err e

abbrev pub GivesScript : {X Y : Type 0} → (X → Y) → Result X ScriptFault → Result Y ScriptFault → Type 0
GivesScript view (Ok x) told = told ≡ Ok (view x)
GivesScript view (Err e) told = LineFails e e.kind told
