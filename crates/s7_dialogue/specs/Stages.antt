-- What contracts see of the stage of a job.
use Rattle.std.specs.Prelude.{ℕ, ◌+◌, ◌-◌, ◌^◌, ◌≤◌, Bool, true, false, not, ◌==◌, ◌||◌, ◌&&◌, nat_lt, nat_le, List, [], map, length, take, drop, unwrap_or}
use Rattle.std.specs.List.{list_all}
use Rattle.s7_header.specs.Negotiation.{most_pdu}
use Rattle.s7_item.specs.declared.item.Item.{Item}
use Rattle.s7_item.specs.Sizes.{request_size}
use Rattle.s7_wire.specs.Sent.{sent_messages}
use Rattle.s7_clock.specs.Moment.{moment_octets}
use Rattle.s7_block.specs.declared.block.BlockName.{BlockName}
use Rattle.s7_dialogue.specs.declared.config.Config.{Config}
use Rattle.s7_dialogue.specs.declared.grant.Grant.{Grant}
use Rattle.s7_dialogue.specs.declared.grant.Leaves.{Leaves}
use Rattle.s7_dialogue.specs.declared.grant.Leaves.TheVariants as leaving
use Rattle.s7_dialogue.specs.declared.job.Job.{Job}
use Rattle.s7_dialogue.specs.declared.job.Job.TheVariants as job
use Rattle.s7_dialogue.specs.declared.answers.answer.Asked.{Asked}
use Rattle.s7_dialogue.specs.declared.answers.answer.Asked.TheVariants as asked
use Rattle.s7_dialogue.specs.declared.stages.flight.Flight.{Flight}
use Rattle.s7_dialogue.specs.declared.questions.left.Left.{Left}
use Rattle.s7_dialogue.specs.declared.questions.left.Left.TheVariants as left
use Rattle.s7_dialogue.specs.declared.questions.subject.Subject.TheVariants.{DataHead}
use Rattle.s7_dialogue.specs.declared.transfers.download.Pieces.{Pieces}
use Rattle.s7_dialogue.specs.declared.stages.single.Ask.{Ask}
use Rattle.s7_dialogue.specs.declared.stages.single.Ask.TheVariants as ask
use Rattle.s7_dialogue.specs.declared.stages.single.Single.{Single}
use Rattle.s7_dialogue.specs.declared.stages.running.Stage.{Stage}
use Rattle.s7_dialogue.specs.declared.stages.running.Stage.TheVariants as stage
use Rattle.s7_dialogue.specs.Codes.{no_fault}
use Rattle.s7_dialogue.specs.UserData.{filled_text, encoded}
use Rattle.s7_dialogue.specs.Question.{Question, negotiates, reads, writes, controls, asks, asks_further}
use Rattle.s7_dialogue.specs.Question.{question_octets, messages_of}
use Rattle.s7_dialogue.specs.Question.{starts_upload, slices_upload, ends_upload}
use Rattle.s7_dialogue.specs.Question.{announces, awaits_call, gives, inserts}
use Rattle.s7_dialogue.specs.Checks.{is_known, octet_count_of, check_moment, check_password, check_image}
use Rattle.s7_dialogue.specs.Left.{questions_left, groups_in, most_parts}
use Rattle.s7_dialogue.specs.Dialogue.{Conduct, asked_by, list_octets, kind_octets, block_octets, controlling, asking_about, uploading}
use Rattle.s7_dialogue.specs.Dialogue.{downloading}
use Rattle.s7_dialogue.specs.DataPlaces.{part_question, block_conduct, has_pdu, is_inside}
use Rattle.s7_dialogue.specs.Singles.{room_for, message_count, asks_left}
use Rattle.s7_dialogue.specs.Course.{Awaits, for_confirm, for_answers, for_departure, for_nothing}
pub use Rattle.s7_dialogue.specs.Left.{joined}

-- the octets that a job writes
abbrev pub octets_of : Job → List ℕ
octets_of (job.WriteArea item octets) = octets
octets_of (job.WriteMany items octets) = octets
octets_of _ = []

-- each telegram of the job asks for one item
abbrev pub is_alone : Job → Bool
is_alone (job.ReadArea item) = true
is_alone (job.WriteArea item octets) = true
is_alone _ = false

-- the question; in a write its octets begin at this offset
abbrev pub question_of : Config → Job → ℕ → Asked → Question
question_of config job from asked.Negotiation = negotiates (asked_by config)
question_of config job from (asked.Read items) = reads items
question_of config job from (asked.Write items) = writes items (take (octet_count_of items) (drop from (octets_of job)))

-- the message of a telegram
abbrev pub message_of : Config → Job → Flight → List ℕ
message_of config job flight = question_octets flight.sequence (question_of config job flight.from flight.asked)

-- ---- jobs that ask one question at a time

-- the octets that a job sends in user data (Snap7 1.4 reference manual, `Cli_ListBlocksOfType`, `Cli_GetAgBlockInfo`,
-- `Cli_ReadSZL`, `Cli_SetPlcDateTime`, `Cli_GetPlcStatus`, `Cli_SetSessionPassword`)
abbrev pub data_of_job : Job → List ℕ
data_of_job (job.ListOf kind) = kind_octets kind
data_of_job (job.Info kind number) = block_octets kind number
data_of_job (job.Szl id index) = list_octets id index
data_of_job (job.ClockSet moment) = moment_octets moment
data_of_job job.Status = list_octets 0x0424 0
data_of_job (job.PasswordSet text) = encoded (filled_text text)
data_of_job _ = []

-- the block that a job uploads
abbrev pub block_of : Job → BlockName
block_of (job.Upload kind number) = record { kind = kind; number = number }
block_of _ = record { kind = 0; number = 0 }

-- the image of the block that a job downloads
abbrev pub image_of : Job → List ℕ
image_of (job.Download image) = image
image_of _ = []

-- the question for which the code keeps this value, after the octets so far
abbrev pub question_of_single : Job → Ask → List ℕ → Question
question_of_single job (ask.Control control) so_far = controls control
question_of_single job (ask.About subject) so_far = asks subject (data_of_job job)
question_of_single job (ask.Further subject octet) so_far = asks_further subject octet so_far
question_of_single job ask.Upload so_far = starts_upload (block_of job)
question_of_single job (ask.Slice id size) so_far = slices_upload id size so_far
question_of_single job (ask.UploadEnd id) so_far = ends_upload id
question_of_single job (ask.Announce pieces) so_far = announces (image_of job)
question_of_single job (ask.AwaitCall pieces) so_far = awaits_call (image_of job)
question_of_single job (ask.Give pieces from call) so_far = gives (image_of job) pieces.room from call
question_of_single job (ask.Insert pieces call) so_far = inserts (image_of job) call
question_of_single job (ask.Head block) so_far = asks DataHead (block_octets 0x41 block.number)
question_of_single job (ask.HeadFurther block octet) so_far = asks_further DataHead octet so_far
question_of_single job (ask.Part block place) so_far = part_question block place

-- the conduct of a job that asks this question
abbrev pub conduct_of_single : Job → Ask → Conduct
conduct_of_single job (ask.Control control) = controlling control
conduct_of_single job (ask.About subject) = asking_about subject (data_of_job job)
conduct_of_single job (ask.Further subject octet) = asking_about subject (data_of_job job)
conduct_of_single job ask.Upload = uploading (block_of job)
conduct_of_single job (ask.Slice id size) = uploading (block_of job)
conduct_of_single job (ask.UploadEnd id) = uploading (block_of job)
conduct_of_single job (ask.Announce pieces) = downloading (image_of job) pieces.room
conduct_of_single job (ask.AwaitCall pieces) = downloading (image_of job) pieces.room
conduct_of_single job (ask.Give pieces from call) = downloading (image_of job) pieces.room
conduct_of_single job (ask.Insert pieces call) = downloading (image_of job) pieces.room
conduct_of_single job (ask.Head block) = block_conduct block
conduct_of_single job (ask.HeadFurther block octet) = block_conduct block
conduct_of_single job (ask.Part block place) = block_conduct block

-- the messages of the question in flight
abbrev pub single_messages : Job → Single → List (List ℕ)
single_messages job s = messages_of (unwrap_or s.out 0) (question_of_single job s.ask [])

-- The job's own value can be sent: a time that a clock can show, or a password of one to eight octets (Snap7 1.4
-- reference manual, `Cli_SetPlcDateTime`, `Cli_SetSessionPassword`). Other jobs have no such value.
abbrev pub is_sent_well : Job → Bool
is_sent_well (job.ClockSet moment) = check_moment moment == no_fault
is_sent_well (job.PasswordSet text) = check_password text == no_fault
is_sent_well _ = true

-- the image has a head that agrees with it, and a piece of it fits a PDU of 64 to 1,920 octets, this profile's own
-- limits
abbrev pub has_image : Job → Pieces → Bool
has_image job pieces =
    (check_image (image_of job) == no_fault && pieces.len == length (image_of job))
    && (nat_le 46 pieces.room && nat_le pieces.room 1902)

-- The question can be written: its user data are valid, its part fits the PDU and is inside the data block, or its
-- piece fits the PDU and is inside the image.
abbrev pub is_writable : Job → Ask → Bool
is_writable job (ask.About subject) = is_sent_well job
is_writable job (ask.Head block) = has_pdu block
is_writable job (ask.HeadFurther block octet) = has_pdu block
is_writable job (ask.Part block place) = has_pdu block && is_inside place
is_writable job (ask.Announce pieces) = has_image job pieces
is_writable job (ask.AwaitCall pieces) = has_image job pieces
is_writable job (ask.Give pieces from call) = has_image job pieces && nat_lt from pieces.len
is_writable job (ask.Insert pieces call) = has_image job pieces
is_writable job _ = true

-- The question can be written, and the job has room for each octet that it may read.
abbrev pub can_ask_single : Job → ℕ → Ask → Bool
can_ask_single job found asked = is_writable job asked && found == room_for asked

-- ---- what isn't queued yet, and what is awaited

-- the octets of the telegrams that aren't queued yet, by the TPDU size
abbrev pub unput_by : Config → ℕ → Job → Stage → List ℕ
unput_by config size job stage.Opening = []
unput_by config size job (stage.Asking a) =
    sent_messages size (map (message_of config job) (drop (length a.flights.items - a.unput) a.flights.items))
unput_by config size job (stage.Single s) =
    sent_messages size (drop (message_count s.ask - s.unput) (single_messages job s))
unput_by config size job stage.Leaving = []
unput_by config size job (stage.Over code leaves) = []

-- What a stage awaits. If the job is over, it awaits nothing, and has its end: with the octets `found`, the return
-- codes `codes`, and the message `carried` that was no answer, if one came.
abbrev pub awaited_by : List ℕ → List ℕ → List ℕ → Stage → Awaits
awaited_by found codes carried stage.Opening = for_confirm
awaited_by found codes carried (stage.Asking a) = for_answers
awaited_by found codes carried (stage.Single s) = for_answers
awaited_by found codes carried stage.Leaving = for_departure
awaited_by found codes carried (stage.Over code leaves) =
    for_nothing (record { code = code; octets = found; codes = codes; leaves = leaves }) carried

-- ---- what can be sent

-- the address fits its field (Snap7 1.4 sources, s7_types.h: TReqFunReadItem)
abbrev pub is_addressed : Item → Bool
is_addressed item = nat_lt item.address (2 ^ 24)

-- there are items, exactly one if each telegram asks for one; their word lengths are known; and their message is at
-- most as long as the longest message
abbrev pub is_sendable : Bool → Bool → List Item → Bool
is_sendable alone write items =
    (nat_lt 0 (length items) && (not alone || length items == 1))
    && (list_all is_addressed items && (list_all is_known items && nat_le (request_size items write) most_pdu))

-- A question can be asked: its items can be sent, and their octets exist from this offset on. In a write these are
-- octets of the job, and in a read they are the room for what is read.
abbrev pub can_ask : Job → ℕ → ℕ → Asked → Bool
can_ask job found from asked.Negotiation = true
can_ask job found from (asked.Read items) =
    is_sendable (is_alone job) false items && nat_le (from + octet_count_of items) found
can_ask job found from (asked.Write items) =
    is_sendable (is_alone job) true items && nat_le (from + octet_count_of items) (length (octets_of job))

abbrev pub can_ask_all : Job → ℕ → ℕ → Left → Bool
can_ask_all job found from left.Nothing = true
can_ask_all job found from left.Negotiation = true
can_ask_all job found from (left.Reads grouped) =
    list_all (is_sendable (is_alone job) false) (groups_in grouped)
    && nat_le (from + octet_count_of (joined (groups_in grouped))) found
can_ask_all job found from (left.Writes grouped) =
    list_all (is_sendable (is_alone job) true) (groups_in grouped)
    && nat_le (from + octet_count_of (joined (groups_in grouped))) (length (octets_of job))

abbrev pub can_fly : Job → ℕ → Flight → Bool
can_fly job found flight = nat_le flight.item most_parts && can_ask job found flight.from flight.asked

-- there is room for each octet that a read of several items gives
abbrev pub has_places : Job → ℕ → Bool
has_places (job.ReadMany items) found = nat_le (octet_count_of items) found
has_places _ found = true

-- ---- stages

abbrev pub IsOpening : Stage → Type 0
IsOpening stage.Opening = Unit {0}
IsOpening (stage.Asking a) = ⊥
IsOpening (stage.Single s) = ⊥
IsOpening stage.Leaving = ⊥
IsOpening (stage.Over code leaves) = ⊥

abbrev pub IsAsking : Stage → Type 0
IsAsking stage.Opening = ⊥
IsAsking (stage.Asking a) = Unit {0}
IsAsking (stage.Single s) = Unit {0}
IsAsking stage.Leaving = ⊥
IsAsking (stage.Over code leaves) = ⊥

-- the stage asks the questions of a list
abbrev pub IsListing : Stage → Type 0
IsListing stage.Opening = ⊥
IsListing (stage.Asking a) = Unit {0}
IsListing (stage.Single s) = ⊥
IsListing stage.Leaving = ⊥
IsListing (stage.Over code leaves) = ⊥

abbrev pub IsLeaving : Stage → Type 0
IsLeaving stage.Opening = ⊥
IsLeaving (stage.Asking a) = ⊥
IsLeaving (stage.Single s) = ⊥
IsLeaving stage.Leaving = Unit {0}
IsLeaving (stage.Over code leaves) = ⊥

abbrev pub IsOver : Stage → Type 0
IsOver stage.Opening = ⊥
IsOver (stage.Asking a) = ⊥
IsOver (stage.Single s) = ⊥
IsOver stage.Leaving = ⊥
IsOver (stage.Over code leaves) = Unit {0}

-- the greatest number of answers that the job still awaits
abbrev pub answers_left : Stage → ℕ
answers_left stage.Opening = 2
answers_left (stage.Asking a) = length a.flights.items + questions_left a.left
answers_left (stage.Single s) = asks_left s.ask s.len
answers_left stage.Leaving = 0
answers_left (stage.Over code leaves) = 0

-- an acceptable grant: a PDU from 64 to 1,920, and 1 to 8 jobs, this profile's own limits
pub record IsGrant (g : Grant) : Type 0 where
  pub least : 64 ≤ g.pdu
  pub most : g.pdu ≤ most_pdu
  pub some : 1 ≤ g.jobs
  pub few : g.jobs ≤ 8

-- if the job leaves the client connected with a new grant, the grant is acceptable
abbrev pub IsGoodLeave : Leaves → Type 0
IsGoodLeave leaving.AsItWas = Unit {0}
IsGoodLeave (leaving.Connected granted) = IsGrant granted
IsGoodLeave leaving.Disconnected = Unit {0}
IsGoodLeave leaving.Closed = Unit {0}

abbrev pub is_grant : Grant → Bool
is_grant g = (nat_le 64 g.pdu && nat_le g.pdu most_pdu) && (nat_le 1 g.jobs && nat_le g.jobs 8)

abbrev pub is_good_leave : Leaves → Bool
is_good_leave leaving.AsItWas = true
is_good_leave (leaving.Connected granted) = is_grant granted
is_good_leave leaving.Disconnected = true
is_good_leave leaving.Closed = true

abbrev pub LeavesLink : Leaves → Type 0
LeavesLink leaving.AsItWas = Unit {0}
LeavesLink (leaving.Connected granted) = Unit {0}
LeavesLink leaving.Disconnected = ⊥
LeavesLink leaving.Closed = ⊥

-- the job is over and leaves the link to the next job
abbrev pub LeavesOpen : Stage → Type 0
LeavesOpen stage.Opening = ⊥
LeavesOpen (stage.Asking a) = ⊥
LeavesOpen (stage.Single s) = ⊥
LeavesOpen stage.Leaving = ⊥
LeavesOpen (stage.Over code leaves) = LeavesLink leaves

-- What a stage asks and still has to ask can be asked, with room for `found` octets, and what it leaves is
-- acceptable.
abbrev pub is_ready : Job → ℕ → Stage → Bool
is_ready job found stage.Opening = has_places job found
is_ready job found (stage.Asking a) =
    list_all (can_fly job found) a.flights.items && (can_ask_all job found a.from a.left && has_places job found)
is_ready job found (stage.Single s) = can_ask_single job found s.ask
is_ready job found stage.Leaving = true
is_ready job found (stage.Over code leaves) = is_good_leave leaves
