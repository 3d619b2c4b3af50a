-- What the code maintains for a job that was started, so that the job goes on from answer to answer as its conduct
-- states.
use Rattle.std.specs.Prelude.{◌≡◌, ℕ, ◌==◌, Bool, true, false, not, if◌then◌else◌, List, [], ◌∷◌, ◌++◌, length, take, drop, replicate, slice_get, IsSome, Option, None, Some}
use Rattle.std.specs.Bool.{MatchBool}
use Rattle.std.specs.List.{flat_map, AllByRecursion}
use Rattle.s7_item.specs.declared.item.Item.{Item}
use Rattle.s7_item.specs.Item.{octet_count}
use Rattle.s7_dialogue.specs.declared.config.Config.{Config}
use Rattle.s7_dialogue.specs.declared.grant.Grant.{Grant}
use Rattle.s7_dialogue.specs.declared.job.Job.{Job}
use Rattle.s7_dialogue.specs.declared.job.Job.TheVariants as job
use Rattle.s7_dialogue.specs.declared.stages.asking.Asking.{Asking}
use Rattle.s7_dialogue.specs.declared.questions.left.Left.{Left}
use Rattle.s7_dialogue.specs.declared.stages.running.Running.{Running}
use Rattle.s7_dialogue.specs.declared.stages.running.Stage.{Stage}
use Rattle.s7_dialogue.specs.declared.stages.running.Stage.TheVariants as stage
use Rattle.s7_dialogue.specs.Question.{Question, negotiates, reads, writes}
use Rattle.s7_dialogue.specs.Answer.{Answer, ItemAnswer, tells, notes, refuses, answer_of}
use Rattle.s7_dialogue.specs.Refusals.{telegram_refusal, part_refusal}
use Rattle.s7_dialogue.specs.Flight.{Row, answers_of}
use Rattle.s7_dialogue.specs.Left.{joined, questions_left, items_left, octets_left}
use Rattle.s7_dialogue.specs.Dialogue.{End, Conduct, asked_by, negotiated, departed_end, read_questions, write_questions, first_refusal, write_number, by_refusal, items_told, codes_in, of_answer, octets_told, codes_told, octets_brought, count_of_data, good_end, plan_of}
use Rattle.s7_dialogue.specs.Course.{Course}
use Rattle.s7_dialogue.specs.declared.stages.single.Ask.{Ask}
use Rattle.s7_dialogue.specs.declared.stages.single.Ask.TheVariants as ask
use Rattle.s7_dialogue.specs.declared.stages.single.Single.{Single}
use Rattle.s7_dialogue.specs.declared.transfers.user_data.Told.{Told}
use Rattle.s7_dialogue.specs.Singles.{TellsIfSome}
use Rattle.s7_dialogue.specs.DataBlocks.{data_length}
use Rattle.s7_dialogue.specs.DataPlaces.{told_for, data_questions, questions_behind as data_questions_behind}
use Rattle.s7_dialogue.specs.Stages.{unput_by, conduct_of_single, question_of_single}
use Rattle.s7_dialogue.specs.declared.stages.asking.Refused.{Refused}
use Rattle.s7_dialogue.specs.Asks.{Asks, items_of, refused_at}

-- the refusal in an answer: in a job whose telegrams ask for one item each, a refused item refuses its telegram too
abbrev pub refusal_by : Bool → Answer → Option ℕ
refusal_by alone answer = if alone then part_refusal answer else telegram_refusal answer

-- ---- conducts by the job

-- the questions of a job: a read or write of these groups
abbrev pub questions_of : Config → Job → List (List Item) → List Question
questions_of config job.Connect groups = negotiates (asked_by config) ∷ []
questions_of config (job.ReadArea item) groups = read_questions groups
questions_of config (job.WriteArea item octets) groups = write_questions groups octets
questions_of config (job.ReadMany items) groups = read_questions groups
questions_of config (job.WriteMany items octets) groups = write_questions groups octets
questions_of config _ groups = []

-- the error number of an answer that refuses
abbrev pub refusal_of : Job → Answer → Option ℕ
refusal_of (job.ReadArea item) answer = part_refusal answer
refusal_of (job.WriteArea item octets) answer = part_refusal answer
refusal_of (job.ReadMany items) answer = telegram_refusal answer
refusal_of (job.WriteMany items octets) answer = telegram_refusal answer
refusal_of _ answer = None

-- the error number with which the refusal of this question ends the job
abbrev pub number_of : Job → ℕ → ℕ → ℕ
number_of (job.WriteArea item octets) place number = write_number place number
number_of _ place number = number

-- the end of a read or write without a refusal
abbrev pub finished : Job → List (Option Answer) → End
finished (job.ReadArea item) answers = good_end (octets_told answers) []
finished (job.ReadMany items) answers = good_end (octets_told answers) (codes_told answers)
finished (job.WriteMany items octets) answers = good_end [] (codes_told answers)
finished _ answers = good_end [] []

abbrev pub ended_by : Job → List (Option Answer) → End
ended_by job answers = by_refusal (number_of job) (first_refusal (refusal_of job) 0 answers) (finished job answers)

abbrev pub ended_of : Config → Job → List (Option Answer) → End
ended_of config job.Connect answers = negotiated config answers
ended_of config (job.ReadArea item) answers = ended_by (job.ReadArea item) answers
ended_of config (job.WriteArea item octets) answers = ended_by (job.WriteArea item octets) answers
ended_of config (job.ReadMany items) answers = ended_by (job.ReadMany items) answers
ended_of config (job.WriteMany items octets) answers = ended_by (job.WriteMany items octets) answers
ended_of config _ answers = departed_end

abbrev pub conducted : Config → Job → ℕ → List (List Item) → Conduct
conducted config job width groups = record {
  width = width;
  question_at = λ (answers : List (Option Answer)). slice_get (questions_of config job groups) (length answers);
  refusal = refusal_of job;
  ended = ended_of config job;
}

-- each group has one item
abbrev pub AreAlone : List (List Item) → Type 0
AreAlone groups = AllByRecursion (λ (group : List Item). length group ≡ 1) groups

-- the groups of a read of one item have one item each; the groups of a read of several items are together these items
abbrev pub AreGroupsOf : Job → List (List Item) → Type 0
AreGroupsOf (job.ReadArea item) groups = AreAlone groups
AreGroupsOf (job.ReadMany items) groups = joined groups ≡ items
AreGroupsOf _ groups = Unit {0}

-- ---- what was read so far

-- these numbers, filled up with 00 to n numbers, or the first n of them
abbrev pub filled_up : ℕ → List ℕ → List ℕ
filled_up n numbers = take n (numbers ++ replicate n 0)

-- the octets of items at their offsets, by the answers for the first of them
abbrev pub octets_at_places : List Item → List ItemAnswer → List ℕ
octets_at_places [] answers = []
octets_at_places (item ∷ items) [] = filled_up (octet_count item) [] ++ octets_at_places items []
octets_at_places (item ∷ items) (answer ∷ answers) =
    filled_up (octet_count item) answer.octets ++ octets_at_places items answers

abbrev pub told_of_items : Option Answer → List ItemAnswer
told_of_items None = []
told_of_items (Some answer) = items_told answer

-- the octets of a question's items, and their codes
abbrev pub octets_of_row : Row → List ℕ
octets_of_row row = octets_at_places (items_of row.question) (told_of_items row.answer)

abbrev pub codes_of_row : Row → List ℕ
codes_of_row row = filled_up (length (items_of row.question)) (of_answer codes_in row.answer)

-- the octets read by the answers so far, with 00 for what is left to ask
abbrev pub octets_so_far : List Row → Left → List ℕ
octets_so_far rows left = flat_map octets_of_row rows ++ replicate (octets_left left) 0

abbrev pub codes_so_far : List Row → Left → List ℕ
codes_so_far rows left = flat_map codes_of_row rows ++ replicate (items_left left) 0

-- the job asks for groups of items
abbrev pub asks_groups : Job → Bool
asks_groups (job.ReadArea item) = true
asks_groups (job.WriteArea item octets) = true
asks_groups (job.ReadMany items) = true
asks_groups (job.WriteMany items octets) = true
asks_groups _ = false

-- the job reads items, and so gives their octets
abbrev pub brings_octets : Job → Bool
brings_octets (job.ReadArea item) = true
brings_octets (job.ReadMany items) = true
brings_octets _ = false

-- the job reads or writes several items, and so gives return codes
abbrev pub brings_codes : Job → Bool
brings_codes (job.ReadMany items) = true
brings_codes (job.WriteMany items octets) = true
brings_codes _ = false

-- ---- answers that fit their questions

-- an item that was read, with code FF (Snap7 1.4 sources, s7_types.h: TResFunReadItem), has all its octets, and a
-- refused item has none
abbrev pub TellsItem : Item → ItemAnswer → Type 0
TellsItem item answer =
    MatchBool (answer.code == 0xFF) (length answer.octets ≡ octet_count item) (answer.octets ≡ [])

abbrev pub TellAll : List Item → List ItemAnswer → Type 0
TellAll [] [] = Unit {0}
TellAll [] (answer ∷ answers) = ⊥
TellAll (item ∷ items) [] = ⊥
TellAll (item ∷ items) (answer ∷ answers) = TellsItem item answer × TellAll items answers

abbrev pub FitsQuestion : Question → Answer → Type 0
FitsQuestion (reads items) (tells answers) = TellAll items answers
FitsQuestion (reads items) (refuses error) = Unit {0}
FitsQuestion (reads items) _ = ⊥
FitsQuestion (writes items octets) (notes codes) = length codes ≡ length items
FitsQuestion (writes items octets) (refuses error) = Unit {0}
FitsQuestion (writes items octets) _ = ⊥
FitsQuestion _ _ = Unit {0}

abbrev pub FitsIfTold : Question → Option Answer → Type 0
FitsIfTold question None = Unit {0}
FitsIfTold question (Some answer) = FitsQuestion question answer

abbrev pub IsFit : Row → Type 0
IsFit row = FitsIfTold row.question row.answer

abbrev pub IsUnanswered : Row → Type 0
IsUnanswered row = row.answer ≡ None

-- ---- jobs that go on

-- The job asks as its conduct states, and these telegrams were sent. Of their answers the code keeps which one refuses
-- first, and what was read.
pub record Conducts (config : Config) (granted : Option Grant) (rows told : List Row) (job : Job)
    (found codes : List ℕ) (a : Asking) : Type 0 where
  pub groups : List (List Item)
  pub conduct : (plan_of job config granted).conduct ≡ conducted config job a.width groups
  pub whole : AreGroupsOf job groups
  pub asks : Asks config job (questions_of config job groups) rows a
  pub fit : AllByRecursion IsFit rows
  -- the answer to a negotiation ends its job
  pub unanswered : asks_groups job ≡ false → AllByRecursion IsUnanswered rows
  pub refused : refused_at a.refused ≡ first_refusal (refusal_of job) 0 (answers_of told)
  pub octets : asks_groups job ≡ true → found ≡ (if brings_octets job then octets_so_far told a.left else [])
  pub noted : asks_groups job ≡ true → codes ≡ (if brings_codes job then codes_so_far told a.left else [])

-- ---- one question at a time

-- the telegram in flight, if there is one
abbrev pub rows_out : Question → Option ℕ → List Row
rows_out question None = []
rows_out question (Some number) = record { question = question; number = number; answer = None } ∷ []

abbrev pub IsAnswered : Row → Type 0
IsAnswered row = IsSome row.answer

-- the octets kept of the answers so far: all of them; while parts of a data block are asked for, those that were read
abbrev pub octets_kept : Ask → List (Option Answer) → List ℕ
octets_kept (ask.Part block place) answers = told_for block.value answers
octets_kept _ answers = octets_brought answers

-- the questions for the parts that aren't answered yet, if parts of a data block are asked for; otherwise none
abbrev pub questions_left_by : Ask → List (Option Answer) → List Question
questions_left_by (ask.Part block place) answers =
    drop (count_of_data answers) (data_questions block (data_length (octets_brought answers)))
questions_left_by _ answers = []

abbrev pub questions_from : Ask → List Question
questions_from (ask.Part block place) = data_questions_behind block (Some place)
questions_from _ = []

-- before the first part only the head was asked for
abbrev pub is_counted : Ask → ℕ → Bool
is_counted (ask.Head block) count = count == 0
is_counted (ask.HeadFurther block octet) count = count == 0
is_counted (ask.Part block place) count = if place.from == 0 then count == 0 else not (count == 0)
is_counted _ count = true

-- A job that asks one question at a time asks as its conduct states: all its telegrams but the one in flight are
-- answered, no answer refuses, and their octets are kept.
pub record AsksSingly (config : Config) (granted : Option Grant) (rows : List Row) (job : Job) (found codes : List ℕ)
    (s : Single) : Type 0 where
  pub conduct : (plan_of job config granted).conduct ≡ conduct_of_single job s.ask
  pub before : List Row
  pub answered : AllByRecursion IsAnswered before
  pub out : rows ≡ before ++ rows_out (question_of_single job s.ask (take s.len found)) s.out
  pub next : (conduct_of_single job s.ask).question_at (answers_of before)
      ≡ Some (question_of_single job s.ask (take s.len found))
  pub unrefused : first_refusal (conduct_of_single job s.ask).refusal 0 (answers_of before) ≡ None
  pub brought : octets_kept s.ask (answers_of before) ≡ take s.len found
  pub left : questions_left_by s.ask (answers_of before) ≡ questions_from s.ask
  pub counted : is_counted s.ask (count_of_data (answers_of before)) ≡ true
  pub no_codes : codes ≡ []

-- A job that asks one question at a time goes on with this question, after `len` octets of its answer came.
abbrev pub IsNextOf : Config → Option Grant → List Row → Job → List ℕ → List ℕ → Ask → ℕ → Type 0
IsNextOf config granted rows job found codes asked len =
    (s : Single) → s.ask ≡ asked → s.out ≡ None → s.len ≡ len → AsksSingly config granted rows job found codes s

-- The job was at the position `course`, and goes on at the position `now`. `last` is the last sequence, and what may be
-- sent since then isn't queued yet.
pub record HasAsked (config : Config) (granted : Option Grant) (job : Job) (found codes : List ℕ) (a : Asking)
    (course now : Course) (a' : Asking) (last : ℕ) : Type 0 where
  pub conducts : Conducts config granted now.rows now.rows job found codes a'
  pub sequence : last ≡ now.sequence
  pub size : now.size ≡ course.size
  pub out : (front : List ℕ) → course.out ≡ front ++ unput_by config course.size job (stage.Asking a)
      → now.out ≡ front ++ unput_by config course.size job (stage.Asking a')

abbrev pub ConductsAt : Config → Option Grant → List Row → List Row → Job → List ℕ → List ℕ → Stage → Type 0
ConductsAt config granted rows told job found codes stage.Opening = ⊥
ConductsAt config granted rows told job found codes (stage.Asking a) =
    Conducts config granted rows told job found codes a
ConductsAt config granted rows told job found codes (stage.Single s) = AsksSingly config granted rows job found codes s
ConductsAt config granted rows told job found codes stage.Leaving = ⊥
ConductsAt config granted rows told job found codes (stage.Over code leaves) = ⊥

-- no telegram is unanswered; `refused` is the first refusal, or there is none and nothing is left to ask
abbrev pub IsDone : Stage → Option Refused → Type 0
IsDone stage.Opening refused = ⊥
IsDone (stage.Asking a) refused =
    (a.flights.items ≡ []) × (a.refused ≡ refused) × (refused ≡ None → questions_left a.left ≡ 0)
IsDone (stage.Single s) refused = ⊥
IsDone stage.Leaving refused = ⊥
IsDone (stage.Over code leaves) refused = ⊥

-- WHAT A JOB MAINTAINS after these telegrams and their answers
abbrev pub GoesOn : Running → Config → Option Grant → List Row → Type 0
GoesOn r config granted rows = ConductsAt config granted rows rows r.job r.found.items r.codes r.stage

-- `told` is what the message says of the answer to the one telegram in flight, whose question is `asked`, after `came`
-- octets of this answer.
pub record IsToldTo (r : Running) (asked : Ask) (came : ℕ) (message : List ℕ) (told : Told) : Type 0 where
  pub single : Single
  pub stage : r.stage ≡ stage.Single single
  pub ask : single.ask ≡ asked
  pub len : single.len ≡ came
  pub number : ℕ
  pub out : single.out ≡ Some number
  pub tells : TellsIfSome single.ask (take single.len r.found.items) told
      (answer_of (question_of_single r.job single.ask (take single.len r.found.items)) number message)
