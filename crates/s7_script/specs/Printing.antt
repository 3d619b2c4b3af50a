-- The line that is printed for the result of a job.
use Rattle.std.specs.Prelude.{◌≡◌, ◌≢◌, ℕ, Bool, ◌==◌, ◌≤◌, ◌+◌, ◌/◌, ◌%◌, slice_index, Option, None, Some, IsSome, List, [], ◌∷◌, ◌++◌, length, map, take, drop, codes, if◌then◌else◌}
use Rattle.std.specs.List.{flat_map}
use Rattle.std.specs.Fmt.{decimal}
use Rattle.hex.specs.Hex.{encode_lower, encode_upper}
use Rattle.s7_outer.specs.Numbers.{number_of_two}
use Rattle.s7_item.specs.declared.item.Item.{Item}
use Rattle.s7_szl.specs.Readers.{mode_of}
use Rattle.s7_clock.specs.Clock.{parts_in}
use Rattle.s7_clock.specs.Moment.{moment_in}
use Rattle.s7_dialogue.specs.declared.job.Job.{Job}
use Rattle.s7_dialogue.specs.declared.job.Job.TheVariants as job
use Rattle.s7_dialogue.specs.declared.job.JobResult.{JobResult}
use Rattle.s7_client.specs.Form.{count_read, octets_read}
use Rattle.s7_text.specs.Lines.{Text}
use Rattle.s7_text.specs.Moments.{clock_values}

-- the word of a job
abbrev pub word_of : Job → Text
word_of job.Connect = codes "connect"
word_of (job.ReadArea item) = codes "read"
word_of (job.WriteArea item octets) = codes "write"
word_of (job.ReadMany items) = codes "readmany"
word_of (job.WriteMany items octets) = codes "writemany"
word_of job.List = codes "list"
word_of (job.ListOf kind) = codes "listof"
word_of (job.Info kind number) = codes "info"
word_of (job.Upload kind number) = codes "upload"
word_of (job.Download image) = codes "download"
word_of (job.Delete kind number) = codes "delete"
word_of (job.DbGet number) = codes "dbget"
word_of (job.DbFill number value) = codes "dbfill"
word_of (job.Szl id index) = codes "szl"
word_of job.ClockRead = codes "clock"
word_of (job.ClockSet moment) = codes "setclock"
word_of job.Start = codes "start"
word_of job.ColdStart = codes "coldstart"
word_of job.Stop = codes "stop"
word_of job.Compress = codes "compress"
word_of job.CopyRam = codes "copy"
word_of job.Status = codes "status"
word_of (job.PasswordSet text) = codes "password"
word_of job.PasswordClear = codes "clearpassword"
word_of job.Disconnect = codes "disconnect"

-- a number below 4,294,967,296 in four octets
abbrev pub four_octets : ℕ → List ℕ
four_octets n = n / 16777216 ∷ n / 65536 % 256 ∷ n / 256 % 256 ∷ n % 256 ∷ []

-- a code in two digits
abbrev pub code_text : ℕ → Text
code_text code = encode_upper (code ∷ [])

-- for each item its code, a colon and its octets
unfoldable pub read_values : List Item → List ℕ → List ℕ → List Text
read_values [] cs octets = []
read_values (item ∷ items) [] octets = []
read_values (item ∷ items) (code ∷ cs) octets =
    (code_text code ++ 58 ∷ encode_lower (take (count_read item code) octets))
    ∷ read_values items cs (drop (count_read item code) octets)

abbrev pub octets_value : List ℕ → List Text
octets_value [] = []
octets_value (b ∷ bs) = encode_lower (b ∷ bs) ∷ []

-- the number in the two octets from this offset on
abbrev pub number_in : List ℕ → ℕ → ℕ
number_in octets at = number_of_two (slice_index octets at) (slice_index octets (at + 1))

-- the number at this offset of each group of four octets
unfoldable pub numbers_told : ℕ → List ℕ → List Text
numbers_told at [] = []
numbers_told at (a ∷ []) = []
numbers_told at (a ∷ b ∷ []) = []
numbers_told at (a ∷ b ∷ c ∷ []) = []
numbers_told at (a ∷ b ∷ c ∷ d ∷ rest) = decimal (number_in (a ∷ b ∷ c ∷ d ∷ []) at) ∷ numbers_told at rest

abbrev pub codes_of : JobResult → List ℕ
codes_of r = take r.count r.codes

-- whether the controller runs
abbrev pub mode_values : Option Bool → List Text
mode_values None = []
mode_values (Some runs) = (if runs then codes "run" else codes "stop") ∷ []

abbrev pub job_values : JobResult → Job → List Text
job_values r (job.ReadArea item) = octets_value r.octets
job_values r (job.ReadMany items) = read_values items (codes_of r) r.octets
job_values r (job.WriteMany items octets) = map code_text (codes_of r)
job_values r job.List = numbers_told 2 r.octets
job_values r (job.ListOf kind) = numbers_told 0 r.octets
job_values r (job.Info kind number) = octets_value r.octets
job_values r (job.Upload kind number) = octets_value r.octets
job_values r (job.DbGet number) = octets_value r.octets
job_values r (job.Szl id index) = octets_value r.octets
job_values r job.ClockRead = clock_values (parts_in r.octets)
job_values r job.Status = mode_values (mode_of r.octets)
job_values r _ = []

-- there are values only if the job succeeded
abbrev pub values : JobResult → List Text
values r = if r.code == 0 then job_values r r.job else []

abbrev pub spaced : Text → Text
spaced value = 32 ∷ value

abbrev pub or_dash : Text → Text
or_dash [] = codes " -"
or_dash (b ∷ bs) = b ∷ bs

-- each value after a space, and `-` if there is none
abbrev pub values_text : List Text → Text
values_text vs = or_dash (flat_map spaced vs)

-- THE LINE of a result: the number of the script's line, the word of the job, its code, and its values
abbrev pub print : ℕ → JobResult → Text
print line r =
    decimal line ++ 32 ∷ word_of r.job ++ 32 ∷ encode_upper (four_octets r.code) ++ values_text (values r) ++ 10 ∷ []

-- a result of several items has as many codes as items, and the octets of the items that were read; the octets of a
-- clock have a date and time, and those of a run state show it
abbrev pub IsPrintableOf : JobResult → Job → Type 0
IsPrintableOf r (job.ReadMany items) = (r.count ≤ 20) × (r.count ≡ length items) × (length r.octets ≡ octets_read items (codes_of r))
IsPrintableOf r (job.WriteMany items octets) = (r.count ≤ 20) × (r.count ≡ length items)
IsPrintableOf r job.ClockRead = (r.count ≡ 0) × IsSome (moment_in r.octets)
IsPrintableOf r job.Status = (r.count ≡ 0) × IsSome (mode_of r.octets)
IsPrintableOf r _ = r.count ≡ 0

abbrev pub IsPrintable : JobResult → Type 0
IsPrintable r = (r.code ≡ 0 → IsPrintableOf r r.job) × (r.code ≢ 0 → r.count ≡ 0)
