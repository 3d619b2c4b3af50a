-- The dialogue of a job: what is sent first, which question may be asked next, and how the job ends, by the answers
-- so far.
use Rattle.std.specs.Prelude.{ℕ, ◌+◌, ◌*◌, Bool, true, false, ◌==◌, ◌||◌, ◌&&◌, nat_lt, min, max, List, [], ◌∷◌, ◌++◌, length, take, drop, map, slice_get, Option, None, Some, if◌then◌else◌, replicate}
use Rattle.std.specs.List.{flat_map}
use Rattle.s7_outer.specs.Numbers.{two_octets}
use Rattle.s7_header.specs.declared.negotiation.Negotiation.{Negotiation}
use Rattle.s7_header.specs.Negotiation.{least_pdu}
use Rattle.s7_item.specs.declared.item.Item.{Item}
use Rattle.s7_item.specs.Item.{octet_count}
use Rattle.s7_split.specs.Parts.{parts_of}
use Rattle.s7_split.specs.Groups.{groups_of}
use Rattle.s7_clock.specs.declared.control.Control.{Control}
use Rattle.s7_clock.specs.declared.control.Control.TheVariants as control
use Rattle.s7_clock.specs.Moment.{moment_octets}
use Rattle.s7_block.specs.declared.block.BlockName.{BlockName}
use Rattle.s7_block.specs.Names.{name_octets}
use Rattle.s7_dialogue.specs.declared.config.Config.{Config}
use Rattle.s7_dialogue.specs.declared.grant.Grant.{Grant}
use Rattle.s7_dialogue.specs.declared.grant.Leaves.{Leaves}
use Rattle.s7_dialogue.specs.declared.grant.Leaves.TheVariants.{AsItWas, Connected, Disconnected, Closed}
use Rattle.s7_dialogue.specs.declared.job.Job.{Job}
use Rattle.s7_dialogue.specs.declared.job.Job.TheVariants as job
use Rattle.s7_dialogue.specs.declared.questions.subject.Subject.{Subject}
use Rattle.s7_dialogue.specs.declared.questions.subject.Subject.TheVariants.{StatusList, RunState, BlockCounts, BlocksOfKind, BlockHead, DataHead, Clock, ClockSetting, Password, PasswordClearing}
use Rattle.s7_dialogue.specs.Codes.{no_fault, not_connected, negotiation_failed, partly_written}
use Rattle.s7_dialogue.specs.UserData.{comes_in_pieces, lead_of, filled_text, encoded}
use Rattle.s7_dialogue.specs.DataBlocks.{data_length, data_parts}
use Rattle.s7_dialogue.specs.Question.{Question, negotiates, reads, writes, controls, asks, asks_further}
use Rattle.s7_dialogue.specs.Question.{starts_upload, slices_upload, ends_upload}
use Rattle.s7_dialogue.specs.Question.{announces, awaits_call, gives, inserts}
use Rattle.s7_block.specs.Slices.{image_room}
use Rattle.s7_dialogue.specs.Answer.{Answer, grants, tells, notes, stands, brings, uploads, slices, uploaded, announced, calls, refuses}
use Rattle.s7_dialogue.specs.Answer.{ItemAnswer}
use Rattle.s7_dialogue.specs.Refusals.{telegram_refusal, part_refusal, control_refusal, download_refusal}
use Rattle.s7_dialogue.specs.Checks.{check_item, check_items, check_moment, check_password, check_image, octet_count_of}

pub record End : Type 0 where
  -- 0, or an error number
  pub code : ℕ
  -- the octets that were read
  pub octets : List ℕ
  -- the return codes of the items of a job with several items
  pub codes : List ℕ
  pub leaves : Leaves

-- How a job asks. An answer has the index of its question, and is `None` while the question is unanswered.
pub record Conduct : Type 0 where
  -- the number of questions that may be unanswered at a time
  pub width : ℕ
  -- the next question, by the answers to all questions before it, if there is one
  pub question_at : List (Option Answer) → Option Question
  -- the error number of an answer that refuses; after it nothing more is asked
  pub refusal : Answer → Option ℕ
  -- the end, once no question is unanswered and there is no next one
  pub ended : List (Option Answer) → End

-- what is sent before any question: a CR, a DR (ISO 8073, 13.3 and 13.5), or nothing
pub data First : Type 0 where
  nothing : First
  -- a connection request; its confirm is awaited then
  connect_request : First
  -- a disconnect request; the job ends once it was transmitted
  disconnect_request : First

pub record Plan : Type 0 where
  pub first : First
  pub conduct : Conduct

-- ---- ends

-- an end with this number, without octets or codes
abbrev pub number_end : ℕ → Leaves → End
number_end code leaves = record { code = code; octets = []; codes = []; leaves = leaves }

-- an end with this number that closes the client
abbrev pub fault_end : ℕ → End
fault_end code = number_end code Closed

-- a job that asks nothing
abbrev pub silent : End → Conduct
silent end = record { width = 0; question_at = λ answers. None; refusal = λ answer. None; ended = λ answers. end }

-- a job that is over at once
abbrev pub over : End → Plan
over end = record { first = nothing; conduct = silent end }

-- ---- connect and disconnect (Snap7 1.4 reference manual, `Cli_ConnectTo`, `Cli_Disconnect`)

-- the grant, if it is acceptable: a PDU from 64 to the one asked for; it has at least one job and at most those
-- asked for. These limits are this profile's own
abbrev pub taken_grant : Config → Negotiation → Option Grant
taken_grant config n =
    if nat_lt n.pdu least_pdu || nat_lt config.pdu n.pdu then None
    else Some (record { pdu = n.pdu; jobs = max 1 (min (min n.calling n.called) config.jobs) })

abbrev pub by_grant : Option Grant → End
by_grant None = number_end negotiation_failed Closed
by_grant (Some granted) = number_end no_fault (Connected granted)

-- the end of a connect, by the answer to its negotiation
abbrev pub negotiated_by : Config → Answer → End
negotiated_by config (grants n) = by_grant (taken_grant config n)
negotiated_by config (refuses error) = number_end negotiation_failed Closed
negotiated_by config (tells items) = number_end negotiation_failed Closed
negotiated_by config (notes codes) = number_end negotiation_failed Closed
negotiated_by config (stands status) = number_end negotiation_failed Closed
negotiated_by config (brings octet more octets) = number_end negotiation_failed Closed
negotiated_by config (uploads id size) = number_end negotiation_failed Closed
negotiated_by config (slices more octets) = number_end negotiation_failed Closed
negotiated_by config uploaded = number_end negotiation_failed Closed
negotiated_by config announced = number_end negotiation_failed Closed
negotiated_by config (calls sequence) = number_end negotiation_failed Closed

abbrev pub negotiated : Config → List (Option Answer) → End
negotiated config [] = number_end negotiation_failed Closed
negotiated config (None ∷ answers) = number_end negotiation_failed Closed
negotiated config (Some answer ∷ answers) = negotiated_by config answer

-- the negotiation that a configuration asks for (Snap7 1.4 sources, s7_types.h: TReqFunNegotiateParams)
abbrev pub asked_by : Config → Negotiation
asked_by config = record { calling = config.jobs; called = config.jobs; pdu = config.pdu }

-- a job of one question, which negotiates the PDU and the parallel jobs (Snap7 1.4 sources, s7_types.h:
-- TReqFunNegotiateParams)
abbrev pub negotiating : Config → Conduct
negotiating config = record {
  width = 1;
  question_at = λ (answers : List (Option Answer)). slice_get (negotiates (asked_by config) ∷ []) (length answers);
  refusal = λ answer. None;
  ended = negotiated config;
}

-- the end of a job that leaves the link
abbrev pub departed_end : End
departed_end = number_end no_fault Disconnected

-- ---- questions in order

-- the questions of a read of groups of items (Snap7 1.4 reference manual, `Cli_ReadArea`, `Cli_ReadMultiVars`)
abbrev pub read_questions : List (List Item) → List Question
read_questions groups = map reads groups

-- the questions of a write of groups of items, each with the octets of its items (Snap7 1.4 reference manual,
-- `Cli_WriteArea`, `Cli_WriteMultiVars`)
abbrev pub write_questions : List (List Item) → List ℕ → List Question
write_questions [] octets = []
write_questions (group ∷ groups) octets =
    writes group (take (octet_count_of group) octets) ∷ write_questions groups (drop (octet_count_of group) octets)

-- the refusal with this index and number, if there is a number; otherwise the refusal that comes later
abbrev pub first_or : Option ℕ → ℕ → Option (ℕ × ℕ) → Option (ℕ × ℕ)
first_or None place later = later
first_or (Some number) place later = Some (place, number)

abbrev pub refusal_in : (Answer → Option ℕ) → Option Answer → Option ℕ
refusal_in refusal None = None
refusal_in refusal (Some answer) = refusal answer

-- the index of the first answer that refuses, counted from `place`, and its error number
abbrev pub first_refusal : (Answer → Option ℕ) → ℕ → List (Option Answer) → Option (ℕ × ℕ)
first_refusal refusal place [] = None
first_refusal refusal place (answer ∷ answers) =
    first_or (refusal_in refusal answer) place (first_refusal refusal (place + 1) answers)

-- the error number of the refusal with this index, in most jobs and in a write of several parts
abbrev pub plain_number : ℕ → ℕ → ℕ
plain_number place number = number

abbrev pub write_number : ℕ → ℕ → ℕ
write_number place number = if place == 0 then number else partly_written

-- the first refusal, in the order of the questions, ends the job
abbrev pub by_refusal : (ℕ → ℕ → ℕ) → Option (ℕ × ℕ) → End → End
by_refusal number None finished = finished
by_refusal number (Some refused) finished = number_end (number refused.0 refused.1) AsItWas

-- the answers for items in an answer
abbrev pub items_told : Answer → List ItemAnswer
items_told (tells items) = items
items_told (grants granted) = []
items_told (notes codes) = []
items_told (stands status) = []
items_told (brings octet more octets) = []
items_told (uploads id size) = []
items_told (slices more octets) = []
items_told uploaded = []
items_told announced = []
items_told (calls sequence) = []
items_told (refuses error) = []

-- the return codes of the items in an answer, read or written
abbrev pub codes_in : Answer → List ℕ
codes_in (tells items) = map (λ (item : ItemAnswer). item.code) items
codes_in (notes codes) = codes
codes_in (grants granted) = []
codes_in (stands status) = []
codes_in (brings octet more octets) = []
codes_in (uploads id size) = []
codes_in (slices more octets) = []
codes_in uploaded = []
codes_in announced = []
codes_in (calls sequence) = []
codes_in (refuses error) = []

abbrev pub of_answer : (Answer → List ℕ) → Option Answer → List ℕ
of_answer told None = []
of_answer told (Some answer) = told answer

-- the octets that were read, joined in the order of the questions
abbrev pub octets_told : List (Option Answer) → List ℕ
octets_told answers =
    flat_map (of_answer (λ answer. flat_map (λ (item : ItemAnswer). item.octets) (items_told answer))) answers

abbrev pub codes_told : List (Option Answer) → List ℕ
codes_told answers = flat_map (of_answer codes_in) answers

abbrev pub good_end : List ℕ → List ℕ → End
good_end octets codes = record { code = no_fault; octets = octets; codes = codes; leaves = AsItWas }

-- each item as a group of its own
abbrev pub alone : List Item → List (List Item)
alone items = map (λ item. item ∷ []) items

-- the number of questions that may be unanswered: as many as were granted, and at least one
abbrev pub width_of : Grant → ℕ
width_of granted = max 1 granted.jobs

-- a job that asks the questions of a list, in order
abbrev pub listed : Grant → List Question → (Answer → Option ℕ) → (ℕ → ℕ → ℕ) → (List (Option Answer) → End) → Plan
listed granted questions refusal number finished = record {
  first = nothing;
  conduct = record {
    width = width_of granted;
    question_at = λ (answers : List (Option Answer)). slice_get questions (length answers);
    refusal = refusal;
    ended = λ (answers : List (Option Answer)).
        by_refusal number (first_refusal refusal 0 answers) (finished answers);
  };
}

-- ---- one question at a time

-- a job of one question, a control (Snap7 1.4 reference manual, `Cli_PlcHotStart`, `Cli_PlcColdStart`,
-- `Cli_PlcStop`, `Cli_Compress`, `Cli_CopyRamToRom`, `Cli_Delete`)
abbrev pub controlling : Control → Conduct
controlling control = record {
  width = 1;
  question_at = λ (answers : List (Option Answer)). slice_get (controls control ∷ []) (length answers);
  refusal = control_refusal control;
  ended = λ (answers : List (Option Answer)).
      by_refusal plain_number (first_refusal (control_refusal control) 0 answers) (good_end [] []);
}

-- the octets in an answer in user data, or in a slice of an upload
abbrev pub octets_in : Answer → List ℕ
octets_in (brings octet more octets) = octets
octets_in (slices more octets) = octets
octets_in (uploads id size) = []
octets_in uploaded = []
octets_in announced = []
octets_in (calls sequence) = []
octets_in (grants granted) = []
octets_in (tells items) = []
octets_in (notes codes) = []
octets_in (stands status) = []
octets_in (refuses error) = []

abbrev pub octets_brought : List (Option Answer) → List ℕ
octets_brought answers = flat_map (of_answer octets_in) answers

-- the next question after the octets so far, by the last answer: it asks for the next octets, if more follow
abbrev pub behind : Subject → List ℕ → Option Answer → Option Question
behind subject so_far (Some (brings octet more octets)) =
    if more && comes_in_pieces subject then Some (asks_further subject octet so_far) else None
behind subject so_far (Some (grants granted)) = None
behind subject so_far (Some (tells items)) = None
behind subject so_far (Some (notes codes)) = None
behind subject so_far (Some (stands status)) = None
behind subject so_far (Some (uploads id size)) = None
behind subject so_far (Some (slices more octets)) = None
behind subject so_far (Some uploaded) = None
behind subject so_far (Some announced) = None
behind subject so_far (Some (calls sequence)) = None
behind subject so_far (Some (refuses error)) = None
behind subject so_far None = None

abbrev pub last_answer : Option Answer → List (Option Answer) → Option Answer
last_answer answer [] = answer
last_answer answer (next ∷ answers) = last_answer next answers

-- The questions about a subject: user data with these octets, and then questions for the further octets of the answer,
-- piece by piece (Snap7 1.4 sources, s7_types.h: TReqFunReadSZLFirst, TReqFunReadSZLNext).
abbrev pub next_piece : Subject → List ℕ → List (Option Answer) → Option Question
next_piece subject octets [] = Some (asks subject octets)
next_piece subject octets (answer ∷ answers) =
    behind subject (octets_brought (answer ∷ answers)) (last_answer answer answers)

-- the end of such a job: it has the octets of the answers, without those that come before what was asked for
abbrev pub brought_end : Subject → List (Option Answer) → End
brought_end subject answers = good_end (drop (lead_of subject) (octets_brought answers)) []

abbrev pub asking_about : Subject → List ℕ → Conduct
asking_about subject octets = record {
  width = 1;
  question_at = next_piece subject octets;
  refusal = telegram_refusal;
  ended = λ (answers : List (Option Answer)).
      by_refusal plain_number (first_refusal telegram_refusal 0 answers) (brought_end subject answers);
}

-- the next question after the octets so far of an upload, by the last answer: it asks for the next slice if more
-- follow, and else ends the upload
abbrev pub behind_slice : ℕ → ℕ → List ℕ → Option Answer → Option Question
behind_slice id size so_far (Some (slices more octets)) =
    Some (if more then slices_upload id size so_far else ends_upload id)
behind_slice id size so_far (Some (grants granted)) = None
behind_slice id size so_far (Some (tells items)) = None
behind_slice id size so_far (Some (notes codes)) = None
behind_slice id size so_far (Some (stands status)) = None
behind_slice id size so_far (Some (brings octet more octets)) = None
behind_slice id size so_far (Some (uploads other others)) = None
behind_slice id size so_far (Some uploaded) = None
behind_slice id size so_far (Some announced) = None
behind_slice id size so_far (Some (calls sequence)) = None
behind_slice id size so_far (Some (refuses error)) = None
behind_slice id size so_far None = None

-- the next question after the answer that starts the upload of this id, with an image of `size` octets
abbrev pub behind_start : ℕ → ℕ → List (Option Answer) → Option Question
behind_start id size [] = Some (slices_upload id size [])
behind_start id size (answer ∷ answers) =
    behind_slice id size (octets_brought (answer ∷ answers)) (last_answer answer answers)

abbrev pub behind_first : Option Answer → List (Option Answer) → Option Question
behind_first (Some (uploads id size)) answers = behind_start id size answers
behind_first (Some (grants granted)) answers = None
behind_first (Some (tells items)) answers = None
behind_first (Some (notes codes)) answers = None
behind_first (Some (stands status)) answers = None
behind_first (Some (brings octet more octets)) answers = None
behind_first (Some (slices more octets)) answers = None
behind_first (Some uploaded) answers = None
behind_first (Some announced) answers = None
behind_first (Some (calls sequence)) answers = None
behind_first (Some (refuses error)) answers = None
behind_first None answers = None

-- The questions of an upload: the start, then the slices while more follow, and then the end (Snap7 1.4 reference
-- manual, `Cli_FullUpload`).
abbrev pub next_slice : BlockName → List (Option Answer) → Option Question
next_slice name [] = Some (starts_upload name)
next_slice name (answer ∷ answers) = behind_first answer answers

abbrev pub uploading : BlockName → Conduct
uploading name = record {
  width = 1;
  question_at = next_slice name;
  refusal = telegram_refusal;
  ended = λ (answers : List (Option Answer)).
      by_refusal plain_number (first_refusal telegram_refusal 0 answers) (good_end (octets_brought answers) []);
}

-- the next question for the server's job of this sequence, once the image was given up to offset `from`: it gives
-- the next octets, at most `room`, and after the last of them it asks for the insertion of the block (Snap7 1.4
-- reference manual, `Cli_Download`)
abbrev pub behind_call : List ℕ → ℕ → ℕ → ℕ → Question
behind_call image room from call =
    if nat_lt from (length image) then gives image room from call else inserts image call

abbrev pub behind_server : List ℕ → ℕ → ℕ → Option Answer → Option Question
behind_server image room from (Some (calls call)) = Some (behind_call image room from call)
behind_server image room from (Some (grants granted)) = None
behind_server image room from (Some (tells items)) = None
behind_server image room from (Some (notes codes)) = None
behind_server image room from (Some (stands status)) = None
behind_server image room from (Some (brings octet more octets)) = None
behind_server image room from (Some (uploads id size)) = None
behind_server image room from (Some (slices more octets)) = None
behind_server image room from (Some uploaded) = None
behind_server image room from (Some announced) = None
behind_server image room from (Some (refuses error)) = None
behind_server image room from None = None

-- The questions of a download: the image is announced; then the server asks for it piece by piece, each of `room`
-- octets but the last, and closes the download; then the block is inserted (Snap7 1.4 reference manual,
-- `Cli_Download`).
abbrev pub next_given : List ℕ → ℕ → List (Option Answer) → Option Question
next_given image room [] = Some (announces image)
next_given image room (answer ∷ []) = Some (awaits_call image)
next_given image room (answer ∷ next ∷ answers) =
    behind_server image room (room * length answers) (last_answer next answers)

abbrev pub downloading : List ℕ → ℕ → Conduct
downloading image room = record {
  width = 1;
  question_at = next_given image room;
  refusal = download_refusal;
  ended = λ (answers : List (Option Answer)).
      by_refusal plain_number (first_refusal download_refusal 0 answers) (good_end [] []);
}

-- ---- whole data blocks (Snap7 1.4 reference manual, `Cli_DBGet`, `Cli_DBFill`)

-- whether an answer is to a part of the data block, since the answers about the head are user data; and the number of
-- such answers
abbrev pub is_of_data : Option Answer → Bool
is_of_data (Some (brings octet more octets)) = false
is_of_data (Some (grants granted)) = true
is_of_data (Some (tells items)) = true
is_of_data (Some (notes codes)) = true
is_of_data (Some (stands status)) = true
is_of_data (Some (uploads id size)) = true
is_of_data (Some (slices more octets)) = true
is_of_data (Some uploaded) = true
is_of_data (Some announced) = true
is_of_data (Some (calls sequence)) = true
is_of_data (Some (refuses error)) = true
is_of_data None = true

abbrev pub count_of_data : List (Option Answer) → ℕ
count_of_data [] = 0
count_of_data (answer ∷ answers) = (if is_of_data answer then 1 else 0) + count_of_data answers

abbrev pub or_later : Option Question → Option Question → Option Question
or_later (Some question) later = Some question
or_later None later = later

-- The questions about a whole data block: its head, piece by piece, and then these questions, which depend on the
-- number of octets that the head states.
abbrev pub next_of_data : List ℕ → (ℕ → List Question) → List (Option Answer) → Option Question
next_of_data octets questions [] = Some (asks DataHead octets)
next_of_data octets questions (answer ∷ answers) =
    or_later (behind DataHead (octets_brought (answer ∷ answers)) (last_answer answer answers))
    (slice_get (questions (data_length (octets_brought (answer ∷ answers)))) (count_of_data (answer ∷ answers)))

-- A job that reads a whole data block.
abbrev pub getting : ℕ → List ℕ → ℕ → Conduct
getting pdu octets number = record {
  width = 1;
  question_at = next_of_data octets (λ size. read_questions (alone (data_parts number size pdu false)));
  refusal = part_refusal;
  ended = λ (answers : List (Option Answer)).
      by_refusal plain_number (first_refusal part_refusal 0 answers) (good_end (octets_told answers) []);
}

-- the error number of a refusal of the head or of the first part, and of a later part
abbrev pub fill_number : List (Option Answer) → ℕ → ℕ → ℕ
fill_number answers place number = if count_of_data (take place answers) == 0 then number else partly_written

-- A job that fills a whole data block with a value.
abbrev pub filling : ℕ → List ℕ → ℕ → ℕ → Conduct
filling pdu octets number value = record {
  width = 1;
  question_at = next_of_data octets
      (λ size. write_questions (alone (data_parts number size pdu true)) (replicate size value));
  refusal = part_refusal;
  ended = λ (answers : List (Option Answer)).
      by_refusal (fill_number answers) (first_refusal part_refusal 0 answers) (good_end [] []);
}

-- a job that asks its first question at once
abbrev pub at_once : Conduct → Plan
at_once conduct = record { first = nothing; conduct = conduct }

-- the id and the index of a status list (Snap7 1.4 reference manual, `Cli_ReadSZL`)
abbrev pub list_octets : ℕ → ℕ → List ℕ
list_octets id index = two_octets id ++ two_octets index

-- the octets that name a kind of blocks (Snap7 1.4 reference manual, `Cli_ListBlocksOfType`)
abbrev pub kind_octets : ℕ → List ℕ
kind_octets kind = 0x30 ∷ kind ∷ []

-- the name of a block in the controller's memory (Snap7 1.4 reference manual, `Cli_GetAgBlockInfo`)
abbrev pub block_octets : ℕ → ℕ → List ℕ
block_octets kind number = name_octets (record { kind = kind; number = number }) 0x41

-- ---- each job

abbrev pub if_good : ℕ → Plan → Plan
if_good check plan = if check == no_fault then plan else over (number_end check AsItWas)

-- the plan of a job on a connected client: its checks before anything is sent, and then its questions (Snap7 1.4
-- reference manual, `Cli_ReadArea`, `Cli_WriteArea`, `Cli_ReadMultiVars`, `Cli_WriteMultiVars`, `Cli_ListBlocks`,
-- `Cli_ListBlocksOfType`, `Cli_GetAgBlockInfo`, `Cli_FullUpload`, `Cli_Download`, `Cli_Delete`, `Cli_DBGet`,
-- `Cli_DBFill`, `Cli_ReadSZL`, `Cli_GetPlcDateTime`, `Cli_SetPlcDateTime`, `Cli_PlcHotStart`, `Cli_PlcColdStart`,
-- `Cli_PlcStop`, `Cli_Compress`, `Cli_CopyRamToRom`, `Cli_GetPlcStatus`, `Cli_SetSessionPassword`,
-- `Cli_ClearSessionPassword`, `Cli_Disconnect`)
abbrev pub connected_plan : Job → Grant → Plan
connected_plan job.Connect granted = over (number_end no_fault AsItWas)
connected_plan (job.ReadArea item) granted =
    if_good (check_item item true)
    (listed granted (read_questions (alone (parts_of item granted.pdu false))) part_refusal plain_number
    (λ answers. good_end (octets_told answers) []))
connected_plan (job.WriteArea item octets) granted =
    if_good (check_item item (length octets == octet_count item))
    (listed granted (write_questions (alone (parts_of item granted.pdu true)) octets) part_refusal write_number
    (λ answers. good_end [] []))
connected_plan (job.ReadMany items) granted =
    if_good (check_items items true granted.pdu false)
    (listed granted (read_questions (groups_of granted.pdu false items)) telegram_refusal plain_number
    (λ answers. good_end (octets_told answers) (codes_told answers)))
connected_plan (job.WriteMany items octets) granted =
    if_good (check_items items (length octets == octet_count_of items) granted.pdu true)
    (listed granted (write_questions (groups_of granted.pdu true items) octets) telegram_refusal plain_number
    (λ answers. good_end [] (codes_told answers)))
connected_plan job.List granted = at_once (asking_about BlockCounts [])
connected_plan (job.ListOf kind) granted = at_once (asking_about BlocksOfKind (kind_octets kind))
connected_plan (job.Info kind number) granted = at_once (asking_about BlockHead (block_octets kind number))
connected_plan (job.Upload kind number) granted = at_once (uploading (record { kind = kind; number = number }))
connected_plan (job.Download image) granted =
    if_good (check_image image) (at_once (downloading image (image_room granted.pdu)))
connected_plan (job.Delete kind number) granted = at_once (controlling (control.Delete kind number))
connected_plan (job.DbGet number) granted = at_once (getting granted.pdu (block_octets 0x41 number) number)
connected_plan (job.DbFill number value) granted =
    at_once (filling granted.pdu (block_octets 0x41 number) number value)
connected_plan (job.Szl id index) granted = at_once (asking_about StatusList (list_octets id index))
connected_plan job.ClockRead granted = at_once (asking_about Clock [])
connected_plan (job.ClockSet moment) granted =
    if_good (check_moment moment) (at_once (asking_about ClockSetting (moment_octets moment)))
connected_plan job.Start granted = at_once (controlling control.Start)
connected_plan job.ColdStart granted = at_once (controlling control.ColdStart)
connected_plan job.Stop granted = at_once (controlling control.Stop)
connected_plan job.Compress granted = at_once (controlling control.Compress)
connected_plan job.CopyRam granted = at_once (controlling control.CopyRam)
connected_plan job.Status granted = at_once (asking_about RunState (list_octets 0x0424 0))
connected_plan (job.PasswordSet text) granted =
    if_good (check_password text) (at_once (asking_about Password (encoded (filled_text text))))
connected_plan job.PasswordClear granted = at_once (asking_about PasswordClearing [])
connected_plan job.Disconnect granted = record { first = disconnect_request; conduct = silent departed_end }

-- a connection request, and then the negotiation (Snap7 1.4 reference manual, `Cli_ConnectTo`)
abbrev pub connecting_plan : Config → Plan
connecting_plan config = record { first = connect_request; conduct = negotiating config }

abbrev pub is_connect : Job → Bool
is_connect job.Connect = true
is_connect _ = false

-- the plan of a job on a client that isn't connected; only a connect asks anything
abbrev pub unconnected_plan : Job → Config → Plan
unconnected_plan job config =
    if is_connect job then connecting_plan config else over (number_end not_connected Disconnected)

-- THE PLAN of a job, by what was granted before it
abbrev pub plan_of : Job → Config → Option Grant → Plan
plan_of job config None = unconnected_plan job config
plan_of job config (Some granted) = connected_plan job granted
