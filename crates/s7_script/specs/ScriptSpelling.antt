-- The one text that is written for the jobs of a script.
use Rattle.std.specs.Prelude.{◌≡◌, ◌<◌, ◌*◌, ◌/◌, ◌%◌, ℕ, Bool, true, false, ◌==◌, ◌&&◌, ◌||◌, nat_le, List, [], ◌∷◌, ◌++◌}
use Rattle.std.specs.Prelude.{length, map, take, drop, codes, None, Ok, if◌then◌else◌}
use Rattle.std.specs.List.{AllByRecursion, list_all}
use Rattle.std.specs.Fmt.{decimal}
use Rattle.hex.specs.Hex.{IsBytes, encode_lower}
use Rattle.s7_outer.specs.Numbers.{two_octets}
use Rattle.s7_item.specs.Codes.{inputs, outputs, flags, data_blocks, counters, timers, bits, bytes, characters, words}
use Rattle.s7_item.specs.Codes.{integers, double_words, double_integers, reals}
use Rattle.s7_item.specs.declared.item.Item.{Item}
use Rattle.s7_clock.specs.Moment.{IsHeld, year_on, month_on, day_on}
use Rattle.s7_dialogue.specs.declared.job.Job.{Job}
use Rattle.s7_dialogue.specs.declared.job.Job.TheVariants as job
use Rattle.s7_text.specs.Lines.{Text, next_line}
use Rattle.s7_text.specs.Moments.{Parts, date_text}
use Rattle.s7_script.specs.Spelling.{name_of}
use Rattle.s7_script.specs.Printing.{word_of}
use Rattle.s7_script.specs.Script.{element_size, is_printable}
use Rattle.s7_script.specs.Tagged.{script}
use Rattle.s7_script.specs.declared.scripts.script_list.ScriptLine.{ScriptLine}

-- ---- the place of an item

-- an area that has a key, and the number of a data block or 0
abbrev pub has_key : ℕ → ℕ → Bool
has_key area db =
    if area == data_blocks then nat_le 1 db && nat_le db 65535
    else (area == inputs || (area == outputs || (area == flags || (area == counters || area == timers)))) && db == 0

-- the text of an area, as KEY in a line
abbrev pub key_text : ℕ → ℕ → Text
key_text area db = if area == data_blocks then codes "DB" ++ decimal db else name_of area

-- a word length that has a name
abbrev pub has_word : ℕ → Bool
has_word word =
    word == bits || (word == bytes || (word == characters || (word == words || (word == integers
    || (word == double_words || (word == double_integers || (word == reals || (word == counters || word == timers))))))))

-- the name of a word length, as WORD in a line
abbrev pub word_text : ℕ → Text
word_text word =
    if word == bits then codes "bit"
    else (if word == bytes then codes "byte"
    else (if word == characters then codes "char"
    else (if word == words then codes "word"
    else (if word == integers then codes "int"
    else (if word == double_words then codes "dword"
    else (if word == double_integers then codes "dint"
    else (if word == reals then codes "real"
    else (if word == counters then codes "counter"
    else codes "timer"))))))))

-- counters and timers have numbers
abbrev pub is_numbered : ℕ → Bool
is_numbered area = area == counters || area == timers

-- the text of an address, as START in a line
abbrev pub start_text : ℕ → ℕ → ℕ → Text
start_text area word address =
    if is_numbered area then decimal address
    else (if word == bits then decimal (address / 8) ++ 46 ∷ decimal (address % 8) else decimal (address / 8))

-- a place that a line can name: an address of three octets, which is a number, the place of a bit or that of an octet
pub record HasPlace (item : Item) : Type 0 where
  pub key : has_key item.area item.db ≡ true
  pub word : has_word item.word ≡ true
  pub address : item.address < 16777216
  pub octet : is_numbered item.area ≡ false → (item.word == bits) ≡ false → item.address % 8 ≡ 0

-- KEY WORD START, and the fields after them
abbrev pub placed_text : Item → Text → Text
placed_text item rest =
    key_text item.area item.db
    ++ 32 ∷ (word_text item.word ++ 32 ∷ (start_text item.area item.word item.address ++ 32 ∷ rest))

-- ---- items

-- an item that a line can name
pub record HasText (item : Item) : Type 0 where
  pub place : HasPlace item
  pub few : item.count < 65536

-- KEY WORD START COUNT
abbrev pub item_text : Item → Text
item_text item = placed_text item (decimal item.count)

-- an item that a line can write, with its octets: at least one
pub record IsWritable (item : Item) (octets : List ℕ) : Type 0 where
  pub text : HasText item
  pub some : 0 < length octets
  pub whole : length octets ≡ item.count * element_size item.word
  pub are_octets : IsBytes octets

-- KEY WORD START HEX
abbrev pub written_text : Item → List ℕ → Text
written_text item octets = placed_text item (encode_lower octets)

-- the number of octets of an item
abbrev pub size_of : Item → ℕ
size_of item = item.count * element_size item.word

-- items that a line can write, with the octets of all of them
abbrev pub AreWritable : List Item → List ℕ → Type 0
AreWritable [] octets = octets ≡ []
AreWritable (item ∷ items) octets =
    IsWritable item (take (size_of item) octets) × AreWritable items (drop (size_of item) octets)

-- the text of each of them
abbrev pub written_texts : List Item → List ℕ → List Text
written_texts [] octets = []
written_texts (item ∷ items) octets =
    written_text item (take (size_of item) octets) ∷ written_texts items (drop (size_of item) octets)

-- these texts, with ` ; ` between each and the next
abbrev pub joined : List Text → Text
joined [] = []
joined (text ∷ []) = text
joined (text ∷ next ∷ rest) = text ++ (codes " ; " ++ joined (next ∷ rest))

-- ---- other fields

-- a kind of blocks that has a name
abbrev pub has_kind : ℕ → Bool
has_kind kind =
    kind == 0x38 || (kind == 0x41 || (kind == 0x42 || (kind == 0x43 || (kind == 0x44 || (kind == 0x45 || kind == 0x46)))))

-- the name of a kind of blocks, as KIND in a line
abbrev pub kind_text : ℕ → Text
kind_text kind =
    if kind == 0x38 then codes "OB"
    else (if kind == 0x41 then codes "DB"
    else (if kind == 0x42 then codes "SDB"
    else (if kind == 0x43 then codes "FC"
    else (if kind == 0x44 then codes "SFC"
    else (if kind == 0x45 then codes "FB"
    else codes "SFB")))))

-- KIND NUMBER
abbrev pub block_text : ℕ → ℕ → Text
block_text kind number = kind_text kind ++ 32 ∷ decimal number

-- a block that a line can name
abbrev pub HasBlock : ℕ → ℕ → Type 0
HasBlock kind number = (has_kind kind ≡ true) × (number < 65536)

-- the number of a data block
abbrev pub IsNumber : ℕ → Type 0
IsNumber number = (0 < number) × (number < 65536)

-- the date and time of a moment
abbrev pub parts_of : ℕ → Parts
parts_of moment = record {
  year = year_on (moment / 86400000);
  month = month_on (moment / 86400000);
  day = day_on (moment / 86400000);
  hour = moment / 3600000 % 24;
  minute = moment / 60000 % 60;
  second = moment / 1000 % 60;
  millisecond = moment % 1000;
}

-- ---- jobs

-- a job that a line can name
abbrev pub HasLine : Job → Type 0
HasLine job.Connect = ⊥
HasLine (job.ReadArea item) = HasText item
HasLine (job.WriteArea item octets) = IsWritable item octets
HasLine (job.ReadMany items) = (0 < length items) × AllByRecursion HasText items
HasLine (job.WriteMany items octets) = (0 < length items) × AreWritable items octets
HasLine job.List = Unit {0}
HasLine (job.ListOf kind) = has_kind kind ≡ true
HasLine (job.Info kind number) = HasBlock kind number
HasLine (job.Upload kind number) = HasBlock kind number
HasLine (job.Download image) = (0 < length image) × IsBytes image
HasLine (job.Delete kind number) = HasBlock kind number
HasLine (job.DbGet number) = IsNumber number
HasLine (job.DbFill number value) = IsNumber number × (value < 256)
HasLine (job.Szl id index) = (id < 65536) × (index < 65536)
HasLine job.ClockRead = Unit {0}
HasLine (job.ClockSet moment) = IsHeld moment
HasLine job.Start = Unit {0}
HasLine job.ColdStart = Unit {0}
HasLine job.Stop = Unit {0}
HasLine job.Compress = Unit {0}
HasLine job.CopyRam = Unit {0}
HasLine job.Status = Unit {0}
HasLine (job.PasswordSet text) = list_all is_printable text ≡ true
HasLine job.PasswordClear = Unit {0}
HasLine job.Disconnect = ⊥

-- the fields of a job after its word, each after a space
abbrev pub fields_text : Job → Text
fields_text (job.ReadArea item) = 32 ∷ item_text item
fields_text (job.WriteArea item octets) = 32 ∷ written_text item octets
fields_text (job.ReadMany items) = 32 ∷ joined (map item_text items)
fields_text (job.WriteMany items octets) = 32 ∷ joined (written_texts items octets)
fields_text (job.ListOf kind) = 32 ∷ kind_text kind
fields_text (job.Info kind number) = 32 ∷ block_text kind number
fields_text (job.Upload kind number) = 32 ∷ block_text kind number
fields_text (job.Download image) = 32 ∷ encode_lower image
fields_text (job.Delete kind number) = 32 ∷ block_text kind number
fields_text (job.DbGet number) = 32 ∷ decimal number
fields_text (job.DbFill number value) = 32 ∷ (decimal number ++ 32 ∷ encode_lower (value ∷ []))
fields_text (job.Szl id index) = 32 ∷ (encode_lower (two_octets id) ++ 32 ∷ encode_lower (two_octets index))
fields_text (job.ClockSet moment) = 32 ∷ date_text (parts_of moment)
fields_text (job.PasswordSet text) = 32 ∷ text
fields_text _ = []

-- THE LINE of a job
abbrev pub job_text : Job → Text
job_text j = word_of j ++ fields_text j

-- a line for each job
abbrev pub script_text : List Job → Text
script_text [] = []
script_text (j ∷ rest) = job_text j ++ 10 ∷ script_text rest

-- the jobs with the numbers of their lines, from this number on
abbrev pub on_lines : ℕ → List Job → List ScriptLine
on_lines line [] = []
on_lines line (j ∷ rest) = record { line = line; job = j; tag = None } ∷ on_lines (next_line line) rest

-- The text that is written for jobs is read as these jobs.
abbrev pub ScriptsReadBack : Type 0
ScriptsReadBack =
    (jobs : List Job) → AllByRecursion HasLine jobs → script (script_text jobs) ≡ Ok (on_lines 1 jobs)

-- What a script names can be written.
abbrev pub ScriptsAreSpelled : Type 0
ScriptsAreSpelled =
    (text : Text) (found : List ScriptLine) → script text ≡ Ok found
    → AllByRecursion (λ (line : ScriptLine). HasLine line.job) found
