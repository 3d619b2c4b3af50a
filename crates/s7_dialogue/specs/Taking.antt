-- The effects of the steps in which an answer is taken.
use Rattle.std.specs.Prelude.{◌≡◌, ◌⊎◌, ℕ, ◌+◌, ◌==◌, Bool, List, [], ◌∷◌, ◌++◌, length, take, drop, slice_index, slice_set, map, None, Some, if◌then◌else◌}
use lib.Seq.{paste}
use Rattle.s7_item.specs.declared.item.Item.{Item}
use Rattle.s7_item.specs.Item.{octet_count}
use Rattle.s7_dialogue.specs.declared.answers.answer.Asked.{Asked}
use Rattle.s7_dialogue.specs.declared.answers.answer.Asked.TheVariants as asked
use Rattle.s7_dialogue.specs.declared.answers.answer.Answer.{Answer}
use Rattle.s7_dialogue.specs.declared.answers.answer.Answer.TheVariants as told
use Rattle.s7_dialogue.specs.declared.stages.flight.Flight.{Flight}
use Rattle.s7_dialogue.specs.declared.job.Job.{Job}
use Rattle.s7_dialogue.specs.declared.job.Job.TheVariants as job
use Rattle.s7_dialogue.specs.Question.{Question, reads, writes}
use Rattle.s7_dialogue.specs.Answer as spelled
use Rattle.s7_dialogue.specs.DataItems.{answers_in}
use Rattle.s7_dialogue.specs.Told.{Tells}
use Rattle.s7_dialogue.specs.Flight.{Row}
use Rattle.s7_dialogue.specs.Asks.{first_spot, spot_behind, flight_at}

-- a read of items, or a write of octets for them
abbrev pub question_for : Bool → List Item → List ℕ → Question
question_for write items octets = if write then writes items octets else reads items

-- the answer of the code's value is this answer to a read of the items, or to a write of some octets for them
abbrev pub TellsFor : Bool → List Item → Answer → spelled.Answer → Type 0
TellsFor write items told x = (octets : List ℕ) × Tells (question_for write items octets) told x

-- the value with which the code keeps a question is that of a read or of a write of these items
abbrev pub IsFor : List Item → Asked → Type 0
IsFor items told = (told ≡ asked.Read items) ⊎ (told ≡ asked.Write items)

-- what the code keeps of an unanswered telegram of these rows, and of the answer to it
pub record Taken (rows : List Row) (flight : Flight) (told : Answer) : Type 0 where
  pub front : List Row
  pub row : Row
  pub back : List Row
  pub answer : spelled.Answer
  pub before : rows ≡ front ++ row ∷ back
  pub unanswered : row.answer ≡ None
  pub kept : flight ≡ flight_at (spot_behind first_spot front) row
  pub tells : Tells row.question told answer

-- the rows with the answer
abbrev pub rows_with : List Row → Row → List Row → spelled.Answer → List Row
rows_with front row back answer = front ++ record row { answer = Some answer } ∷ back

-- ---- what is kept of an answer

-- the codes, with these in place of those from an index on; the number of codes stays
abbrev pub with_codes : ℕ → List ℕ → List ℕ → List ℕ
with_codes place [] codes = codes
with_codes place (code ∷ noted) codes = with_codes (place + 1) noted (slice_set codes place code)

-- the octets found so far, over which the octets of items that were read are written at the items' offsets; the first
-- item has offset `from`
abbrev pub with_octets : ℕ → List Item → List spelled.ItemAnswer → List ℕ → List ℕ
with_octets from [] answers found = found
with_octets from (item ∷ items) [] found = found
with_octets from (item ∷ items) (answer ∷ answers) found =
    with_octets (from + octet_count item) items answers (paste found from answer.octets (length answer.octets))

-- The octets and codes that were found before an answer to a telegram of these items, and those after it. A refusal
-- changes neither.
abbrev pub Keeps : List Item → Flight → Answer → List ℕ → List ℕ → List ℕ → List ℕ → Type 0
Keeps items flight (told.Refused error) found codes found' codes' = (found' ≡ found) × (codes' ≡ codes)
Keeps items flight (told.Granted n) found codes found' codes' = (found' ≡ found) × (codes' ≡ codes)
Keeps items flight (told.Items answers) found codes found' codes' =
    (found' ≡ with_octets flight.from items (answers_in answers.items) found)
    × (codes' ≡ with_codes flight.item (map (λ (item : spelled.ItemAnswer). item.code) (answers_in answers.items)) codes)
Keeps items flight (told.Codes noted) found codes found' codes' =
    (found' ≡ found) × (codes' ≡ with_codes flight.item noted.now codes)

-- the octets of the items whose code is FF, out of those of all items (Snap7 1.4 sources, s7_types.h:
-- TResFunReadItem)
abbrev pub without_gaps : List Item → List ℕ → List ℕ → List ℕ
without_gaps [] codes found = []
without_gaps (item ∷ items) codes found =
    (if slice_index codes 0 == 0xFF then take (octet_count item) found else [])
    ++ without_gaps items (drop 1 codes) (drop (octet_count item) found)

-- the octets that a job read, once it is over
abbrev pub closed : Job → List ℕ → List ℕ → List ℕ
closed (job.ReadMany items) codes found = without_gaps items codes found
closed _ codes found = found
