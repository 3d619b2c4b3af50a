-- What the command `gen` draws from a seed, by this profile's own rules: numbers, and from these the lines of scripts.
use Rattle.std.specs.Prelude.{ℕ, zero, suc, ◌+◌, ◌*◌, ◌%◌, ◌==◌, if◌then◌else◌, List, [], ◌∷◌, ◌++◌}
use Rattle.std.specs.Prelude.{map, take, drop, replicate, slice_index}
use Rattle.s7_schedule.specs.Drawing.{drawn_from, first_x}
use Rattle.s7_item.specs.Codes.{bytes, data_blocks, flags}
use Rattle.s7_item.specs.declared.item.Item.{Item}
use Rattle.s7_dialogue.specs.declared.job.Job.{Job}
use Rattle.s7_dialogue.specs.declared.job.Job.TheVariants as job

-- THE DRAWN NUMBERS of a seed: as many as 800 lines need at most
abbrev pub drawn : ℕ → List ℕ
drawn seed = drawn_from (first_x seed) 4000

-- ---- one line

-- octets of a data block, from the octet of this number on
abbrev pub block_item : ℕ → ℕ → ℕ → Item
block_item block start count =
    record { area = data_blocks; db = block; word = bytes; count = count; address = 8 * start }

-- the first sixteen octets of the flags
abbrev pub flags_item : Item
flags_item = record { area = flags; db = 0; word = bytes; count = 16; address = 0 }

-- kinds 0 and 1 are `read DBd byte s c`; kind 2 is `write DBd byte s` with c times an octet; kind 3 is `readmany MK
-- byte 0 16 ; DBd byte s e`, where e is 1 + c mod 64
abbrev pub line_by : ℕ → ℕ → ℕ → ℕ → ℕ → Job
line_by kind block start count octet =
    if kind == 2 then job.WriteArea (block_item block start count) (replicate count octet)
    else (if kind == 3 then job.ReadMany (flags_item ∷ block_item block start (1 + count % 64) ∷ [])
    else job.ReadArea (block_item block start count))

-- the first number determines the kind of the line
abbrev pub kind_of : List ℕ → ℕ
kind_of numbers = slice_index numbers 0 % 4

-- THE LINE that the first numbers of a list give: its kind, its data block from 1 to 4, its start below 3,000, its
-- count from 1 to 1,000, and the octet that it writes
abbrev pub line_of : List ℕ → Job
line_of numbers =
    line_by (kind_of numbers) (1 + slice_index numbers 1 % 4) (slice_index numbers 2 % 3000)
    (1 + slice_index numbers 3 % 1000) (slice_index numbers 4 % 256)

-- only a write uses a fifth number
abbrev pub taken_by : List ℕ → ℕ
taken_by numbers = if kind_of numbers == 2 then 5 else 4

-- ---- all lines

-- this number of lines, each from the numbers after those of the line before
unfoldable pub lines_of : ℕ → List ℕ → List Job
lines_of zero numbers = []
lines_of (suc more) numbers = line_of numbers ∷ lines_of more (drop (taken_by numbers) numbers)

-- a connect, these lines and a disconnect
abbrev pub script_with : List Job → List Job
script_with lines = job.Connect ∷ (lines ++ job.Disconnect ∷ [])

-- the script of a client, numbered from 0: it has the next 200 of all 800 lines
unfoldable pub script_of : ℕ → ℕ → List Job
script_of seed client = script_with (take 200 (drop (200 * client) (lines_of 800 (drawn seed))))

-- THE SCRIPTS of a seed, those of four clients
abbrev pub made_scripts : ℕ → List (List Job)
made_scripts seed = map (script_of seed) (0 ∷ 1 ∷ 2 ∷ 3 ∷ [])
