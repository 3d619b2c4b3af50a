-- The answers to a client's telegrams (Snap7 1.4 sources, s7_types.h: TS7ResHeader23, TS7ResHeader17). An answer
-- has the sequence of its telegram. A job is answered by an acknowledgement with data and without an error, and
-- user data are answered by user data. A refusal of either is an acknowledgement with an error word and nothing
-- else. In a download the server goes on with jobs of its own, which have sequences of its own.
use Rattle.std.specs.Prelude.{ℕ, ◌+◌, Bool, true, false, not, ◌==◌, ◌&&◌, nat_le, List, [], ◌∷◌, length, drop, take, slice_index, Option, None, Some, option_map, Result, Ok, Err, if◌then◌else◌}
use Rattle.s7_header.specs.Octets.{number_at}
use Rattle.s7_header.specs.declared.header.Header.{Header}
use Rattle.s7_header.specs.declared.header.Kind.{Kind}
use Rattle.s7_header.specs.declared.header.Kind.TheVariants.{Job, Ack, AckData, User}
use Rattle.s7_header.specs.declared.faults.HeaderFault.{HeaderFault}
use Rattle.s7_header.specs.declared.faults.BadParams.{BadParams}
use Rattle.s7_header.specs.Header.{header_of, params_of, body_of}
use Rattle.s7_header.specs.declared.negotiation.Negotiation.{Negotiation}
use Rattle.s7_header.specs.Negotiation.{negotiation_of}
use Rattle.s7_item.specs.declared.item.Item.{Item}
use Rattle.s7_item.specs.Item.{octet_count}
use Rattle.s7_item.specs.Word.{transport_of}
use Rattle.s7_item.specs.DataItem.{stated_length, padding_of}
use Rattle.s7_header.specs.declared.user_params.UserParams.{UserParams}
use Rattle.s7_header.specs.UserParams.{user_params_of}
use Rattle.s7_block.specs.Slices.{Piece}
use Rattle.s7_block.specs.Telegrams.{announce_function, piece_function, end_function}
use Rattle.s7_clock.specs.declared.control.Control.{Control}
use Rattle.s7_clock.specs.declared.control.Control.TheVariants as control
use Rattle.s7_dialogue.specs.declared.questions.subject.Subject.{Subject}
use Rattle.s7_dialogue.specs.UserData.{octets_in, answers_about, goes_on_with}
use Rattle.s7_dialogue.specs.Question.{Question, negotiates, reads, writes, controls, asks, asks_further}
use Rattle.s7_dialogue.specs.Question.{starts_upload, slices_upload, ends_upload}
use Rattle.s7_dialogue.specs.Question.{announces, awaits_call, gives, inserts}
use Rattle.s7_dialogue.specs.Downloads.{name_in, piece_at, is_call, function_behind}
use Rattle.s7_dialogue.specs.Uploads.{upload_size, slice_in, fitting}

-- the answer for one item that was read: its return code, and its octets if the code is FF
pub record ItemAnswer : Type 0 where
  pub code : ℕ
  pub octets : List ℕ

pub data Answer : Type 0 where
  -- the negotiation was granted, with these values
  grants : (granted : Negotiation) → Answer
  -- the return codes and octets of the items of a read
  tells : (items : List ItemAnswer) → Answer
  -- the return codes of the items of a write
  notes : (codes : List ℕ) → Answer
  -- the status that answers a control
  stands : (status : ℕ) → Answer
  -- octets of user data with a sequence octet, and whether more follow
  brings : (octet : ℕ) → (more : Bool) → (octets : List ℕ) → Answer
  -- the id of an upload that was started, and the number of octets of the image
  uploads : (id size : ℕ) → Answer
  -- octets of an image, and whether more follow
  slices : (more : Bool) → (octets : List ℕ) → Answer
  -- the upload has ended
  uploaded : Answer
  -- the download has begun
  announced : Answer
  -- the server goes on with a download, by a job of this sequence
  calls : (sequence : ℕ) → Answer
  -- the telegram is refused, with this error word
  refuses : (error : ℕ) → Answer

-- ---- the data items of a read's answer (Snap7 1.4 sources, s7_types.h: TResFunReadItem)

-- the octets begin with a data item that was read: its transport size and its length are those of the item, and its
-- octets and the padding are present
abbrev pub begins_read : Item → Bool → List ℕ → Bool
begins_read item last octets =
    (slice_index octets 0 == 0xFF && slice_index octets 1 == transport_of item.word)
    && (number_at octets 2 == stated_length (transport_of item.word) (octet_count item)
    && nat_le (4 + octet_count item + padding_of (octet_count item) last) (length octets))

-- the octets begin with a data item that was refused: another code, and three octets 00
abbrev pub begins_refused : List ℕ → Bool
begins_refused octets =
    (not (slice_index octets 0 == 0xFF) && slice_index octets 1 == 0)
    && (number_at octets 2 == 0 && nat_le 4 (length octets))

abbrev pub item_first : ItemAnswer → List ItemAnswer → List ItemAnswer
item_first answer answers = answer ∷ answers

-- the octets read as the answers for these items; `None` if they aren't
abbrev pub item_answers : List Item → List ℕ → Option (List ItemAnswer)
item_answers [] octets = if length octets == 0 then Some [] else None
item_answers (item ∷ items) octets =
    if begins_read item (length items == 0) octets
    then option_map (item_first (record { code = 0xFF; octets = take (octet_count item) (drop 4 octets) }))
    (item_answers items (drop (4 + octet_count item + padding_of (octet_count item) (length items == 0)) octets))
    else (if begins_refused octets
    then option_map (item_first (record { code = slice_index octets 0; octets = [] })) (item_answers items (drop 4 octets))
    else None)

-- ---- the answers of each question

-- the parameters are the function and the number of items (Snap7 1.4 sources, s7_types.h: TResFunReadParams,
-- TResFunWrite)
abbrev pub counts_items : ℕ → List Item → List ℕ → Bool
counts_items function items params =
    length params == 2 && (slice_index params 0 == function && slice_index params 1 == length items)

-- the answer to a negotiation by its parameters, if they can be read (Snap7 1.4 sources, s7_types.h:
-- TReqFunNegotiateParams)
abbrev pub grant_in : Result Negotiation BadParams → Option Answer
grant_in (Ok granted) = Some (grants granted)
grant_in (Err bad) = None

-- the function of a control: 29 for a stop, else 28 (Snap7 1.4 sources, s7_types.h: TReqFunPlcStop,
-- TReqFunPlcHotStart)
abbrev pub function_of : Control → ℕ
function_of control.Start = 0x28
function_of control.ColdStart = 0x28
function_of control.Stop = 0x29
function_of control.Compress = 0x28
function_of control.CopyRam = 0x28
function_of (control.Insert kind number) = 0x28
function_of (control.Delete kind number) = 0x28

-- the parameters are the function of a control and a status; these octets are this profile's own
abbrev pub tells_status : Control → List ℕ → Bool
tells_status control params = length params == 2 && slice_index params 0 == function_of control

abbrev pub sliced : Piece → Answer
sliced piece = slices piece.more piece.octets

-- the answer in an acknowledgement with these parameters and data (Snap7 1.4 sources, s7_types.h: TS7ResHeader23)
abbrev pub acknowledged : Question → List ℕ → List ℕ → Option Answer
acknowledged (negotiates asked) params body =
    if length body == 0 then grant_in (negotiation_of params) else None
acknowledged (reads items) params body =
    if counts_items 0x04 items params then option_map tells (item_answers items body) else None
acknowledged (writes items octets) params body =
    if counts_items 0x05 items params && length body == length items then Some (notes body) else None
acknowledged (controls control) params body =
    if tells_status control params && length body == 0 then Some (stands (slice_index params 1)) else None
acknowledged (asks subject octets) params body = None
acknowledged (asks_further subject octet so_far) params body = None
acknowledged (starts_upload name) params body =
    if length body == 0 then option_map (uploads (slice_index params 7)) (upload_size params) else None
acknowledged (slices_upload id size so_far) params body = option_map sliced (fitting size so_far (slice_in params body))
acknowledged (ends_upload id) params body =
    if length params == 1 && slice_index params 0 == end_function && length body == 0 then Some uploaded else None
acknowledged (announces image) params body =
    if length params == 1 && slice_index params 0 == announce_function && length body == 0 then Some announced else None
acknowledged (awaits_call image) params body = None
acknowledged (gives image room from call) params body = None
acknowledged (inserts image call) params body =
    if tells_status (control.Insert (name_in image).kind (name_in image).number) params && length body == 0
    then Some (stands (slice_index params 1)) else None

-- ---- user data (Snap7 1.4 sources, s7_types.h: TS7Params7)

-- The answer in octets of user data with these parameters, after the octets so far. With an error word there are no
-- octets; otherwise the octets continue those so far.
abbrev pub brought : Subject → List ℕ → UserParams → List ℕ → Option Answer
brought subject so_far params octets =
    if params.error == 0
    then (if goes_on_with subject so_far (params.more == 1) octets
    then Some (brings params.sequence (params.more == 1) octets) else None)
    else (if length octets == 0 then Some (refuses params.error) else None)

abbrev pub if_data : Subject → List ℕ → UserParams → Option (List ℕ) → Option Answer
if_data subject so_far params None = None
if_data subject so_far params (Some octets) = brought subject so_far params octets

-- the octet is the sequence octet that is expected, or none is expected
abbrev pub is_under : Option ℕ → ℕ → Bool
is_under None octet = true
is_under (Some asked) octet = octet == asked

abbrev pub by_params : Subject → Option ℕ → List ℕ → List ℕ → Result UserParams BadParams → Option Answer
by_params subject under so_far body (Err bad) = None
by_params subject under so_far body (Ok params) =
    if answers_about subject params && is_under under params.sequence
    then if_data subject so_far params (octets_in body) else None

-- the answer in user data with these parameters and data
abbrev pub answered_by_user : Question → List ℕ → List ℕ → Option Answer
answered_by_user (negotiates asked) params body = None
answered_by_user (reads items) params body = None
answered_by_user (writes items octets) params body = None
answered_by_user (controls control) params body = None
answered_by_user (starts_upload name) params body = None
answered_by_user (slices_upload id size so_far) params body = None
answered_by_user (ends_upload id) params body = None
answered_by_user (announces image) params body = None
answered_by_user (awaits_call image) params body = None
answered_by_user (gives image room from call) params body = None
answered_by_user (inserts image call) params body = None
answered_by_user (asks subject octets) params body = by_params subject None [] body (user_params_of params)
answered_by_user (asks_further subject octet so_far) params body =
    by_params subject (Some octet) so_far body (user_params_of params)

-- the answer in a message of this type (Snap7 1.4 sources, s7_types.h: TS7ResHeader23, TS7ResHeader17)
abbrev pub by_kind : Kind → Question → Header → List ℕ → Option Answer
by_kind Job question h message = None
by_kind Ack question h message =
    if h.param_len == 0 && h.body_len == 0 then Some (refuses h.error) else None
by_kind AckData question h message =
    if h.error == 0 then acknowledged question (params_of message h) (body_of message h) else None
by_kind User question h message = answered_by_user question (params_of message h) (body_of message h)

-- ---- jobs of the server's (after Snap7 1.4 sources, s7_types.h: TReqDownloadParams)

-- the question awaits a job of the server's
abbrev pub awaits_server : Question → Bool
awaits_server (awaits_call image) = true
awaits_server (gives image room from call) = true
awaits_server _ = false

-- the answer in the server's job of this sequence with these parameters and data: it asks for the first piece, or
-- goes on after the piece that was given
abbrev pub called : Question → ℕ → List ℕ → List ℕ → Option Answer
called (awaits_call image) sequence params body =
    if is_call piece_function (name_in image) params body then Some (calls sequence) else None
called (gives image room from call) sequence params body =
    if is_call (function_behind (piece_at image room from)) (name_in image) params body then Some (calls sequence)
    else None
called _ sequence params body = None

-- only a job of the server's answers such a question
abbrev pub by_call : Kind → Question → Header → List ℕ → Option Answer
by_call Job question h message = called question h.sequence (params_of message h) (body_of message h)
by_call Ack question h message = None
by_call AckData question h message = None
by_call User question h message = None

abbrev pub by_header : Question → ℕ → List ℕ → Result Header HeaderFault → Option Answer
by_header question sequence message (Err fault) = None
by_header question sequence message (Ok h) =
    if awaits_server question then by_call h.kind question h message
    else (if h.sequence == sequence then by_kind h.kind question h message else None)

-- WHAT A MESSAGE ANSWERS to a question of this sequence; `None` if it is no answer to it
unfoldable pub answer_of : Question → ℕ → List ℕ → Option Answer
answer_of question sequence message = by_header question sequence message (header_of message)
