-- How a message is judged, by the state of its link. A message has ten octets or more and begins with 32
-- (Snap7 1.4 sources, s7_types.h: TS7ReqHeader). Which refusal applies first is this profile's own.
use Rattle.std.specs.Prelude.{ℕ, ◌+◌, Bool, true, false, ◌==◌, ◌&&◌, ◌||◌, not, nat_lt, nat_le, is_some, List, []}
use Rattle.std.specs.Prelude.{◌∷◌, ◌++◌, length}
use Rattle.std.specs.Prelude.{◌-◌, take, drop, slice_index, Option, None, Some, Result, Ok, Err, if◌then◌else◌}
use Rattle.std.specs.Str.{bytes_eq}
use Rattle.s7_outer.specs.Numbers.{two_octets}
use Rattle.s7_header.specs.declared.header.Header.{Header}
use Rattle.s7_header.specs.declared.faults.HeaderFault.{HeaderFault}
use Rattle.s7_header.specs.declared.header.Kind.{Kind}
use Rattle.s7_header.specs.declared.header.Kind.TheVariants.{Job, Ack, AckData, User}
use Rattle.s7_header.specs.declared.negotiation.Negotiation.{Negotiation}
use Rattle.s7_header.specs.declared.faults.TooSmall.{TooSmall}
use Rattle.s7_header.specs.declared.user_params.UserParams.{UserParams}
use Rattle.s7_header.specs.declared.faults.BadParams.{BadParams}
use Rattle.s7_header.specs.Octets.{number_at}
use Rattle.s7_header.specs.Header.{header_of, spelling_of, refusal_of, params_of, body_of}
use Rattle.s7_header.specs.Negotiation.{negotiation_of, granted, negotiation_spelling, most_pdu}
use Rattle.s7_header.specs.UserParams.{user_params_of, user_spelling}
use Rattle.s7_item.specs.declared.item.Item.{Item}
use Rattle.s7_item.specs.declared.places.DataPlace.{DataPlace}
use Rattle.s7_item.specs.declared.params.ItemFault.{ItemFault}
use Rattle.s7_item.specs.declared.read_data.DataFault.{DataFault}
use Rattle.s7_item.specs.Codes.{read_function, write_function}
use Rattle.s7_item.specs.Params.{items_of}
use Rattle.s7_item.specs.DataItem.{data_places_of}
use Rattle.s7_item.specs.Sizes.{answer_size}
use Rattle.s7_clock.specs.Control.{control_of}
use Rattle.s7_clock.specs.Moment.{moment_in}
use Rattle.s7_clock.specs.declared.control.Control.{Control}
use Rattle.s7_clock.specs.declared.control.Control.TheVariants as control
use Rattle.s7_clock.specs.declared.faults.BadParams.{BadParams as BadControl}
use Rattle.s7_plant.specs.Answers.{service_function, stop_function}
use Rattle.s7_block.specs.declared.block.BlockName.{BlockName}
use Rattle.s7_block.specs.Assembly.{Progress, idle, awaiting, whole, with_piece}
use Rattle.s7_block.specs.Heads.{head_agrees}
use Rattle.s7_block.specs.Kinds.{head_code, is_stored_kind}
use Rattle.s7_block.specs.Names.{named}
use Rattle.s7_block.specs.Sides.{left_in, is_held}
use Rattle.s7_block.specs.Slices.{Piece, first_piece, left_behind}
use Rattle.s7_plant.specs.declared.request.Ask.{Ask}
use Rattle.s7_plant.specs.declared.request.Request.{Request}
use Rattle.s7_plant.specs.declared.request.Request.TheVariants.{Read, Write}
use Rattle.s7_plant.specs.declared.request.Request.TheVariants as request
use Rattle.s7_plant.specs.Requests.{asked, no_room}
use Rattle.s7_plant.specs.Replies.{Said}
use Rattle.s7_session.specs.LinkState.{LinkState, Sliced, ServerJob, Download, next_octet, next_sequence}
use Rattle.s7_session.specs.Passwords.{decoded, is_password, no_data, set_error, clear_error}
use Rattle.s7_session.specs.Transfers.{Announced, announce_function, piece_function, close_function, start_function}
use Rattle.s7_session.specs.Transfers.{slice_function, end_function, upload_asked, download_announced, id_in}
use Rattle.s7_session.specs.Transfers.{image_data, more_octet, piece_in, with_upload, with_id}
use Rattle.s7_block.specs.Slices.{image_room}
use Rattle.s7_session.specs.Transfers.{server_job_octets, with_server_job, without_download, piece_left, finished}
use Rattle.s7_session.specs.declared.judge.Refusal.{Refusal}
use Rattle.s7_session.specs.declared.judge.Refusal.TheVariants.{UnknownFunction, NotNegotiated, Unreadable, OverPdu}
use Rattle.s7_session.specs.declared.judge.Refusal.TheVariants.{NotAllowed}

-- A message that asks the plant. Its request depends on the moment. It may need a moment, and its request may be
-- copied. The link's state afterwards, and the messages that answer it, depend on the reply that was entered.
pub record Asking : Type 0 where
  pub ask : ℕ → Ask
  pub is_timed : Bool
  pub is_copied : Bool
  pub link : Said → LinkState
  pub messages : Said → List (List ℕ)

pub data Judgement : Type 0 where
  -- the message is refused
  refuse : (refusal : Refusal) → Judgement
  -- it is answered from the link's own state, without the plant
  own : (messages : List (List ℕ)) → (link : LinkState) → Judgement
  -- it asks the plant
  ask : (asking : Asking) → Judgement

-- the sequence of a message
abbrev pub sequence_of : List ℕ → ℕ
sequence_of m = number_at m 4

-- the answer to a job (Snap7 1.4 sources, s7_types.h: TS7ResHeader23)
abbrev pub answer_octets : ℕ → List ℕ → List ℕ → List ℕ
answer_octets sequence params body =
    spelling_of (record {
      kind = AckData;
      sequence = sequence;
      param_len = length params;
      body_len = length body;
      error = 0;
    })
    ++ params ++ body

-- a refusal: an acknowledgement with an error word alone (Snap7 1.4 sources, s7_types.h: TS7ResHeader23)
abbrev pub refusal_octets : ℕ → ℕ → List ℕ
refusal_octets sequence error = spelling_of (refusal_of sequence error)

-- the answer that is made of a reply, a refusal if the reply has an error
abbrev pub reply_octets : ℕ → Said → List ℕ
reply_octets sequence reply =
    if reply.error == 0 then answer_octets sequence reply.params reply.body else refusal_octets sequence reply.error

-- octets of the request are copied: those of a write, or the image of a block that is inserted
abbrev pub is_copied : Request → Bool
is_copied (Read items) = false
is_copied (Write items places octets) = true
is_copied (request.Szl id index) = false
is_copied (request.ClockRead moment) = false
is_copied (request.ClockSet moment value) = false
is_copied (request.Start cold) = false
is_copied request.Stop = false
is_copied request.Compress = false
is_copied request.CopyRam = false
is_copied request.ListAll = false
is_copied (request.ListOf kind) = false
is_copied (request.Info kind number) = false
is_copied (request.StartUpload kind number) = false
is_copied (request.Insert kind number image spare) = true
is_copied (request.Delete kind number) = false

-- a request with the link's right that leaves the link's state as it is and needs no moment
abbrev pub plainly : LinkState → ℕ → Request → Asking
plainly link sequence request = record {
  ask = λ moment. asked link.right request;
  is_timed = false;
  is_copied = is_copied request;
  link = λ reply. link;
  messages = λ reply. reply_octets sequence reply ∷ [];
}

abbrev pub asks_plainly : LinkState → ℕ → Request → Judgement
asks_plainly link sequence request = ask (plainly link sequence request)

-- ---- the functions of a job (Snap7 1.4 sources, s7_types.h: TReqFunNegotiateParams, TReqFunReadParams)

abbrev pub negotiated : LinkState → ℕ → Result Negotiation TooSmall → Judgement
negotiated link sequence (Err too_small) = refuse OverPdu
negotiated link sequence (Ok n) =
    own (answer_octets sequence (negotiation_spelling n) [] ∷ []) (record link { granted = Some n.pdu })

abbrev pub negotiation : LinkState → ℕ → Result Negotiation BadParams → Judgement
negotiation link sequence (Err bad) = refuse Unreadable
negotiation link sequence (Ok asked) = negotiated link sequence (granted asked)

-- a read with data is refused as unreadable, and a read whose full answer is longer than the PDU as over the PDU
abbrev pub read : LinkState → ℕ → ℕ → List ℕ → Result (List Item) ItemFault → Judgement
read link pdu sequence body (Err fault) = refuse Unreadable
read link pdu sequence body (Ok items) =
    if nat_lt 0 (length body) then refuse Unreadable
    else (if nat_lt pdu (answer_size items) then refuse OverPdu
    else asks_plainly link sequence (Read items))

-- a write's answer has a code for each item (Snap7 1.4 sources, s7_types.h: TResFunWrite)
abbrev pub write_of : LinkState → ℕ → ℕ → List Item → List ℕ → Result (List DataPlace) DataFault → Judgement
write_of link pdu sequence items body (Err fault) = refuse Unreadable
write_of link pdu sequence items body (Ok places) =
    if nat_lt pdu (14 + length items) then refuse OverPdu
    else asks_plainly link sequence (Write items places body)

abbrev pub write : LinkState → ℕ → ℕ → List ℕ → Result (List Item) ItemFault → Judgement
write link pdu sequence body (Err fault) = refuse Unreadable
write link pdu sequence body (Ok items) = write_of link pdu sequence items body (data_places_of (length items) body)

-- ---- control (Snap7 1.4 sources, s7_types.h: TReqFunPlcHotStart, TReqFunPlcStop, TReqControlBlockParams)

-- a block is inserted if the link holds its finished download, and the head of the image agrees with its name
abbrev pub insert : LinkState → ℕ → ℕ → ℕ → Option (List ℕ) → Judgement
insert link sequence kind number None = refuse NotAllowed
insert link sequence kind number (Some image) =
    if is_stored_kind kind && head_agrees image kind number
    then asks_plainly link sequence (request.Insert kind number image no_room) else refuse NotAllowed

-- the requests of controls (Snap7 1.4 sources, s7_types.h: TReqFunPlcHotStart, TReqFunPlcColdStart, TReqFunPlcStop,
-- TReqFunCompress, TReqFunCopyRamToRom, TReqControlBlockParams); that only blocks of stored kinds are inserted and
-- deleted is this profile's own
abbrev pub control_asked : LinkState → ℕ → Control → Judgement
control_asked link sequence control.Start = asks_plainly link sequence (request.Start false)
control_asked link sequence control.ColdStart = asks_plainly link sequence (request.Start true)
control_asked link sequence control.Stop = asks_plainly link sequence request.Stop
control_asked link sequence control.Compress = asks_plainly link sequence request.Compress
control_asked link sequence control.CopyRam = asks_plainly link sequence request.CopyRam
control_asked link sequence (control.Insert kind number) =
    insert link sequence kind number (finished link.download kind number)
control_asked link sequence (control.Delete kind number) =
    if is_stored_kind kind then asks_plainly link sequence (request.Delete kind number) else refuse NotAllowed

-- a control with data is refused as unreadable
abbrev pub control_in : LinkState → ℕ → List ℕ → Result Control BadControl → Judgement
control_in link sequence body (Err bad) = refuse Unreadable
control_in link sequence body (Ok c) =
    if nat_lt 0 (length body) then refuse Unreadable else control_asked link sequence c

-- ---- uploads

-- the answer to an upload's start, with an id if the upload was started (after Snap7 1.4 sources, s7_types.h:
-- TResFunStartUploadParams)
abbrev pub upload_reply : LinkState → ℕ → Said → List ℕ
upload_reply link sequence reply =
    if reply.error == 0 then answer_octets sequence (with_id reply.params (next_octet link.upload_id)) []
    else refusal_octets sequence reply.error

abbrev pub by_upload : LinkState → ℕ → BlockName → Asking
by_upload link sequence name = record {
  ask = λ moment. asked link.right (request.StartUpload name.kind name.number);
  is_timed = false;
  is_copied = false;
  link = λ reply. with_upload link reply;
  messages = λ reply. upload_reply link sequence reply ∷ [];
}

abbrev pub upload_started : LinkState → ℕ → Option BlockName → Judgement
upload_started link sequence None = refuse Unreadable
upload_started link sequence (Some name) = ask (by_upload link sequence name)

-- the answer with a slice of the image, whose parameters say whether others follow (after Snap7 1.4 sources,
-- s7_types.h: TReqFunUploadParams, TResDownloadDataHeader)
abbrev pub slice_answer : ℕ → Piece → List ℕ
slice_answer sequence piece =
    answer_octets sequence (slice_function ∷ more_octet piece.more ∷ []) (image_data piece.octets)

-- The next octets of the upload of this id, if any are left. After the last of them only the end of the upload is
-- answered.
abbrev pub upload_sliced : LinkState → ℕ → ℕ → ℕ → Option (List ℕ) → Judgement
upload_sliced link pdu sequence id None = refuse Unreadable
upload_sliced link pdu sequence id (Some octets) =
    own (slice_answer sequence (first_piece (image_room pdu) octets) ∷ [])
    (record link { upload = Some (record { id = id; left = left_behind (image_room pdu) octets }) })

abbrev pub slice_asked : LinkState → ℕ → ℕ → Option ℕ → Judgement
slice_asked link pdu sequence None = refuse Unreadable
slice_asked link pdu sequence (Some id) = upload_sliced link pdu sequence id (left_in link.upload id)

-- the end of the upload of this id drops it (after Snap7 1.4 sources, s7_types.h: TReqFunEndUploadParams)
abbrev pub upload_ended : LinkState → ℕ → ℕ → Judgement
upload_ended link sequence id =
    if is_held link.upload id
    then own (answer_octets sequence (end_function ∷ []) [] ∷ []) (record link { upload = None })
    else refuse Unreadable

abbrev pub end_asked : LinkState → ℕ → Option ℕ → Judgement
end_asked link sequence None = refuse Unreadable
end_asked link sequence (Some id) = upload_ended link sequence id

-- ---- downloads (after Snap7 1.4 sources, s7_types.h: TReqStartDownloadParams, TReqDownloadParams)

-- the next job of the server's own
abbrev pub server_job : LinkState → ℕ → BlockName → List ℕ
server_job link function name = server_job_octets (next_sequence link.job_sequence) function name

-- a download that begins replaces the one before; the first piece is asked for at once
abbrev pub download_begun : LinkState → ℕ → BlockName → ℕ → Judgement
download_begun link sequence name size =
    own (answer_octets sequence (announce_function ∷ []) [] ∷ server_job link piece_function name ∷ [])
    (with_server_job link piece_function name (awaiting size []))

-- a download is started of a block of a kind that is stored, with an image of 36 to 65,536 octets: this profile's own
-- limits
abbrev pub download_started : LinkState → ℕ → Option Announced → Judgement
download_started link sequence None = refuse Unreadable
download_started link sequence (Some a) =
    if is_stored_kind a.name.kind && nat_le 36 a.size && nat_le a.size 65536
    then download_begun link sequence a.name a.size else refuse NotAllowed

-- a job of an upload or of a download (after Snap7 1.4 sources, s7_types.h: TReqStartDownloadParams,
-- TReqFunStartUploadParams, TReqFunUploadParams, TReqFunEndUploadParams)
abbrev pub transfer : LinkState → ℕ → ℕ → ℕ → List ℕ → Judgement
transfer link pdu code sequence params =
    if code == announce_function then download_started link sequence (download_announced params)
    else (if code == start_function then upload_started link sequence (upload_asked params)
    else (if code == slice_function then slice_asked link pdu sequence (id_in slice_function params)
    else end_asked link sequence (id_in end_function params)))

abbrev pub is_transfer : ℕ → Bool
is_transfer code =
    code == announce_function || code == start_function || code == slice_function || code == end_function

-- ---- the functions that need a PDU

-- The functions that read and write items, control, upload and download. Of these only a write has data (Snap7 1.4
-- sources, s7_types.h: TReqFunReadParams, TReqFunPlcHotStart, TReqFunPlcStop, TReqFunStartUploadParams,
-- TReqStartDownloadParams).
abbrev pub function : LinkState → ℕ → ℕ → ℕ → List ℕ → List ℕ → Judgement
function link pdu code sequence params body =
    if code == read_function then read link pdu sequence body (items_of params)
    else (if code == write_function then write link pdu sequence body (items_of params)
    else (if code == service_function || code == stop_function then control_in link sequence body (control_of params)
    else (if is_transfer code
    then (if nat_lt 0 (length body) then refuse Unreadable else transfer link pdu code sequence params)
    else refuse UnknownFunction)))

abbrev pub function_at : LinkState → Option ℕ → ℕ → ℕ → List ℕ → List ℕ → Judgement
function_at link None code sequence params body = refuse NotNegotiated
function_at link (Some pdu) code sequence params body = function link pdu code sequence params body

-- a job: F0 negotiates (Snap7 1.4 sources, s7_types.h: TReqFunNegotiateParams), and every other function needs a PDU
-- that was granted
abbrev pub job : LinkState → ℕ → List ℕ → List ℕ → Judgement
job link sequence [] body = function_at link link.granted 0 sequence [] body
job link sequence (code ∷ params) body =
    if code == 0xF0 then negotiation link sequence (negotiation_of (code ∷ params))
    else function_at link link.granted code sequence (code ∷ params) body

-- ---- user data (Snap7 1.4 sources, s7_types.h: TReqFunTypedParams, TS7Params7)

-- the parameters of an answer that fits one slice
abbrev pub user_answer : ℕ → ℕ → ℕ → ℕ → UserParams
user_answer group subfunction sequence error = record {
  answer = true;
  group = group;
  sub = subfunction;
  sequence = sequence;
  unit = 0;
  more = 0;
  error = error;
}

-- the answer to user data
abbrev pub user_octets : ℕ → UserParams → List ℕ → List ℕ
user_octets sequence params body =
    spelling_of (record { kind = User; sequence = sequence; param_len = 12; body_len = length body; error = 0 })
    ++ user_spelling params ++ body

-- the data of user data: FF, transport size 09 and the length before the octets; without octets `0A 00 00 00`
abbrev pub user_data : List ℕ → List ℕ
user_data [] = no_data
user_data (x ∷ xs) = 0xFF ∷ 0x09 ∷ (two_octets (length (x ∷ xs)) ++ (x ∷ xs))

-- the greatest number of octets in one slice of an answer: its header, its parameters and the head of its data take 26
-- of the PDU (Snap7 1.4 sources, s7_types.h: TS7ResHeader17, TS7Params7)
abbrev pub slice_room : ℕ → ℕ
slice_room pdu = pdu - 26

-- the answer's group, by the group of the request
abbrev pub group_of_answer : ℕ → ℕ
group_of_answer group = group + 0x40

-- the answer with as many of the first of these octets as fit, which says whether more follow
abbrev pub slice_octets : ℕ → ℕ → ℕ → ℕ → ℕ → List ℕ → List ℕ
slice_octets sequence group subfunction octet pdu octets =
    user_octets sequence
    (record (user_answer (group_of_answer group) subfunction octet 0) {
      more = if nat_lt (slice_room pdu) (length octets) then 1 else 0;
    })
    (user_data (take (slice_room pdu) octets))

-- the octets that don't fit this answer, which the link then holds; `None` if all of them fit
abbrev pub slices_left : ℕ → ℕ → ℕ → ℕ → List ℕ → Option Sliced
slices_left group subfunction octet pdu octets =
    if nat_lt (slice_room pdu) (length octets)
    then Some (record {
      group = group;
      subfunction = subfunction;
      sequence = octet;
      rest = drop (slice_room pdu) octets;
    })
    else None

-- the answer that is made of a reply to user data of this group and subfunction
abbrev pub user_reply : LinkState → ℕ → ℕ → ℕ → ℕ → Said → List ℕ
user_reply link pdu sequence group subfunction reply =
    if reply.error == 0
    then slice_octets sequence group subfunction (next_octet link.user_sequence) pdu reply.body
    else user_octets sequence
    (user_answer (group_of_answer group) subfunction (next_octet link.user_sequence) reply.error) no_data

-- any answer counts the sequence octet, and replaces a sliced answer that was held: this profile's own
abbrev pub user_link : LinkState → ℕ → ℕ → ℕ → Said → LinkState
user_link link pdu group subfunction reply = record link {
  user_sequence = next_octet link.user_sequence;
  sliced =
      if reply.error == 0 then slices_left group subfunction (next_octet link.user_sequence) pdu reply.body
      else None;
}

-- the request that user data of this group and subfunction makes, which depends on the moment; `is_timed` says whether
-- it needs one
abbrev pub by_user : LinkState → ℕ → ℕ → ℕ → ℕ → Bool → (ℕ → Request) → Asking
by_user link pdu sequence group subfunction is_timed request = record {
  ask = λ moment. asked link.right (request moment);
  is_timed = is_timed;
  is_copied = false;
  link = λ reply. user_link link pdu group subfunction reply;
  messages = λ reply. user_reply link pdu sequence group subfunction reply ∷ [];
}

abbrev pub asks_user : LinkState → ℕ → ℕ → ℕ → ℕ → Bool → (ℕ → Request) → Judgement
asks_user link pdu sequence group subfunction is_timed request =
    ask (by_user link pdu sequence group subfunction is_timed request)

-- ---- further slices (Snap7 1.4 sources, s7_types.h: TReqFunReadSZLNext)

abbrev pub is_slice_of : UserParams → Sliced → Bool
is_slice_of params held =
    (held.group == params.group && held.subfunction == params.sub) && held.sequence == params.sequence

abbrev pub further_of : LinkState → ℕ → ℕ → UserParams → Option Sliced → Judgement
further_of link pdu sequence params None = refuse Unreadable
further_of link pdu sequence params (Some held) =
    if is_slice_of params held
    then own (slice_octets sequence params.group params.sub params.sequence pdu held.rest ∷ [])
    (record link { sliced = slices_left params.group params.sub params.sequence pdu held.rest })
    else refuse Unreadable

-- The next octets of the answer that is held. The request has the answer's group, subfunction and sequence octet, and
-- no data. For answers other than status lists this is this profile's own.
abbrev pub further : LinkState → ℕ → ℕ → UserParams → List ℕ → Judgement
further link pdu sequence params body =
    if bytes_eq body no_data then further_of link pdu sequence params link.sliced else refuse Unreadable

-- ---- status lists (Snap7 1.4 sources, s7_types.h: TReqFunReadSZLFirst)

-- the data name a status list by its id and index
abbrev pub names_list : List ℕ → Bool
names_list body = length body == 8 && bytes_eq (take 4 body) (0xFF ∷ 0x09 ∷ 0x00 ∷ 0x04 ∷ [])

abbrev pub list_read : LinkState → ℕ → ℕ → List ℕ → Judgement
list_read link pdu sequence body =
    if names_list body
    then asks_user link pdu sequence 0x44 0x01 false (λ moment. request.Szl (number_at body 4) (number_at body 6))
    else refuse Unreadable

abbrev pub lists : LinkState → ℕ → ℕ → UserParams → List ℕ → Judgement
lists link pdu sequence params body =
    if params.sub == 0x01
    then (if params.answer then further link pdu sequence params body else list_read link pdu sequence body)
    else refuse UnknownFunction

-- ---- the clock (Snap7 1.4 sources, s7_types.h: TResDataGetTime, TReqDataSetTime)

-- the data have the ten octets of a clock
abbrev pub names_moment : List ℕ → Bool
names_moment body = length body == 14 && bytes_eq (take 4 body) (0xFF ∷ 0x09 ∷ 0x00 ∷ 0x0A ∷ [])

-- a read of the clock, whatever its data are
abbrev pub clock_read : LinkState → ℕ → ℕ → Judgement
clock_read link pdu sequence = asks_user link pdu sequence 0x47 0x01 true (λ moment. request.ClockRead moment)

abbrev pub clock_set_to : LinkState → ℕ → ℕ → Option ℕ → Judgement
clock_set_to link pdu sequence None = refuse Unreadable
clock_set_to link pdu sequence (Some value) =
    asks_user link pdu sequence 0x47 0x02 true (λ moment. request.ClockSet moment value)

abbrev pub clock_set : LinkState → ℕ → ℕ → List ℕ → Judgement
clock_set link pdu sequence body =
    if names_moment body then clock_set_to link pdu sequence (moment_in (drop 4 body)) else refuse Unreadable

abbrev pub clock : LinkState → ℕ → ℕ → UserParams → List ℕ → Judgement
clock link pdu sequence params body =
    if params.sub == 0x01
    then (if params.answer then further link pdu sequence params body else clock_read link pdu sequence)
    else (if params.sub == 0x02
    then (if params.answer then further link pdu sequence params body else clock_set link pdu sequence body)
    else refuse UnknownFunction)

-- ---- passwords (Snap7 1.4 sources, s7_types.h: TReqFunSecurity, TReqDataSecurity)

-- the state of the link after a telegram about its password: its right is `right`, and it holds no sliced answer
abbrev pub secured : LinkState → Bool → LinkState
secured link right = record link { right = right; user_sequence = next_octet link.user_sequence; sliced = None }

-- a telegram of the group of passwords is answered without data
abbrev pub security_answer : LinkState → ℕ → ℕ → ℕ → Bool → Judgement
security_answer link sequence subfunction error right =
    own (user_octets sequence (user_answer 0x85 subfunction (next_octet link.user_sequence) error) no_data ∷ [])
    (secured link right)

-- the guard's password gives the right; any other password changes no right
abbrev pub password_set : LinkState → ℕ → List ℕ → Judgement
password_set link sequence body =
    if is_password body then (
    let error = set_error link.guard (decoded (drop 4 body)) in
    security_answer link sequence 0x01 error (link.right || (error == 0))
    ) else refuse Unreadable

-- a right is given back
abbrev pub password_cleared : LinkState → ℕ → List ℕ → Judgement
password_cleared link sequence body =
    if bytes_eq body no_data then (
    let error = clear_error link.guard link.right in
    security_answer link sequence 0x02 error (link.right && not (error == 0))
    ) else refuse Unreadable

-- Parameters of the long form ask for a further slice of an answer. No answer of this group has one, so they are
-- refused.
abbrev pub security : LinkState → ℕ → UserParams → List ℕ → Judgement
security link sequence params body =
    if params.sub == 0x01 then (if params.answer then refuse Unreadable else password_set link sequence body)
    else (if params.sub == 0x02 then (if params.answer then refuse Unreadable else password_cleared link sequence body)
    else refuse UnknownFunction)

-- ---- blocks (Snap7 1.4 reference manual, `Cli_ListBlocks`, `Cli_ListBlocksOfType`, `Cli_GetAgBlockInfo`)

-- the data name a kind of blocks
abbrev pub names_kind : List ℕ → Bool
names_kind body =
    (length body == 6 && bytes_eq (take 5 body) (0xFF ∷ 0x09 ∷ 0x00 ∷ 0x02 ∷ 0x30 ∷ []))
    && is_some (head_code (slice_index body 5))

abbrev pub kind_listed : LinkState → ℕ → ℕ → List ℕ → Judgement
kind_listed link pdu sequence body =
    if names_kind body
    then asks_user link pdu sequence 0x43 0x02 false (λ moment. request.ListOf (slice_index body 5))
    else refuse Unreadable

-- the block that the data name, at the location `A`
abbrev pub block_told : List ℕ → Option BlockName
block_told body =
    if bytes_eq (take 4 body) (0xFF ∷ 0x09 ∷ 0x00 ∷ 0x08 ∷ []) then named (drop 4 body) 0x41 else None

abbrev pub informed : LinkState → ℕ → ℕ → Option BlockName → Judgement
informed link pdu sequence None = refuse Unreadable
informed link pdu sequence (Some name) =
    asks_user link pdu sequence 0x43 0x03 false (λ moment. request.Info name.kind name.number)

-- the counts of all kinds are given whatever the data are
abbrev pub blocks_asked : LinkState → ℕ → ℕ → ℕ → List ℕ → Judgement
blocks_asked link pdu sequence subfunction body =
    if subfunction == 0x01 then asks_user link pdu sequence 0x43 0x01 false (λ moment. request.ListAll)
    else (if subfunction == 0x02 then kind_listed link pdu sequence body
    else informed link pdu sequence (block_told body))

abbrev pub blocks : LinkState → ℕ → ℕ → UserParams → List ℕ → Judgement
blocks link pdu sequence params body =
    if params.sub == 0x01 || params.sub == 0x02 || params.sub == 0x03
    then (if params.answer then further link pdu sequence params body
    else blocks_asked link pdu sequence params.sub body)
    else refuse UnknownFunction

-- blocks, status lists, passwords and the clock (Snap7 1.4 sources, s7_types.h: grBlocksInfo, grSZL, grSecurity,
-- grClock)
abbrev pub group : LinkState → ℕ → ℕ → List ℕ → Result UserParams BadParams → Judgement
group link pdu sequence body (Err bad) = refuse Unreadable
group link pdu sequence body (Ok params) =
    if params.group == 0x43 then blocks link pdu sequence params body
    else (if params.group == 0x44 then lists link pdu sequence params body
    else (if params.group == 0x45 then security link sequence params body
    else (if params.group == 0x47 then clock link pdu sequence params body
    else refuse UnknownFunction)))

abbrev pub user_at : LinkState → Option ℕ → ℕ → List ℕ → List ℕ → Judgement
user_at link None sequence params body = refuse NotNegotiated
user_at link (Some pdu) sequence [] body = refuse UnknownFunction
user_at link (Some pdu) sequence (x ∷ params) body = group link pdu sequence body (user_params_of (x ∷ params))

-- ---- a message (Snap7 1.4 sources, s7_types.h: TS7ReqHeader)

-- the greatest length of a message: the PDU that was granted; before the negotiation the greatest PDU, this profile's
-- own
abbrev pub pdu_limit : Option ℕ → ℕ
pdu_limit None = most_pdu
pdu_limit (Some pdu) = pdu

abbrev pub kinds : LinkState → Kind → ℕ → List ℕ → List ℕ → Judgement
kinds link Job sequence params body = job link sequence params body
kinds link User sequence params body = user_at link link.granted sequence params body
kinds link Ack sequence params body = refuse UnknownFunction
kinds link AckData sequence params body = refuse UnknownFunction

abbrev pub headed : LinkState → List ℕ → Result Header HeaderFault → Judgement
headed link m (Err fault) = refuse OverPdu
headed link m (Ok h) =
    if nat_lt (pdu_limit link.granted) (length m) then refuse OverPdu
    else kinds link h.kind (sequence_of m) (params_of m h) (body_of m h)

-- a job or user data (Snap7 1.4 sources, s7_types.h: TS7ReqHeader)
abbrev pub is_request : List ℕ → Bool
is_request m = slice_index m 1 == 0x01 || slice_index m 1 == 0x07

-- ---- answers to the server's own jobs

-- an acknowledgement with the sequence of the server's outstanding job (Snap7 1.4 sources, s7_types.h: TS7ResHeader23)
abbrev pub answers_job : Option ServerJob → List ℕ → Bool
answers_job None m = false
answers_job (Some job) m =
    (slice_index m 1 == 0x02 || slice_index m 1 == 0x03) && sequence_of m == job.sequence

-- the download is dropped, and nothing is sent: this profile's own
abbrev pub dropped : LinkState → Judgement
dropped link = own [] (without_download link)

-- the server's next job after a piece, by what the piece made of the image
abbrev pub asked_next : LinkState → BlockName → Progress → List (List ℕ)
asked_next link name idle = []
asked_next link name (awaiting len octets) = server_job link piece_function name ∷ []
asked_next link name (whole octets) = server_job link close_function name ∷ []

abbrev pub goes_on : LinkState → BlockName → Progress → Judgement
goes_on link name progress = own (asked_next link name progress) (piece_left link name progress)

abbrev pub piece_came : LinkState → Option Download → Option Piece → Judgement
piece_came link None piece = dropped link
piece_came link (Some d) None = dropped link
piece_came link (Some d) (Some piece) = goes_on link d.name (with_piece 65536 d.progress piece)

-- the download is closed; the link keeps its image
abbrev pub closed : LinkState → List ℕ → List ℕ → Judgement
closed link params body =
    if bytes_eq params (close_function ∷ []) && length body == 0 then own [] (record link { server_job = None })
    else dropped link

abbrev pub job_answered : LinkState → ℕ → List ℕ → List ℕ → Judgement
job_answered link function params body =
    if function == piece_function then piece_came link link.download (piece_in (pdu_limit link.granted) params body)
    else closed link params body

-- The answer to the server's job with this function (after Snap7 1.4 sources, s7_types.h: TReqDownloadParams). An
-- answer that can't be read as such, or that has an error, drops the download.
abbrev pub answer_came : LinkState → ℕ → List ℕ → Result Header HeaderFault → Judgement
answer_came link function m (Err fault) = dropped link
answer_came link function m (Ok h) =
    if slice_index m 1 == 0x03 && h.error == 0 then job_answered link function (params_of m h) (body_of m h)
    else dropped link

abbrev pub by_server_job : LinkState → Option ServerJob → List ℕ → Judgement
by_server_job link None m = refuse UnknownFunction
by_server_job link (Some job) m = answer_came link job.function m (header_of m)

-- ---- a message as a whole

-- a message that is no request is the answer to the server's outstanding job, or isn't served
abbrev pub no_request : LinkState → List ℕ → Judgement
no_request link m =
    if answers_job link.server_job m then by_server_job link link.server_job m else refuse UnknownFunction

-- THE JUDGEMENT of a message: the answer to the server's job; or the first refusal that applies; or else what it asks
-- for
unfoldable pub judge : LinkState → List ℕ → Judgement
judge link m = if is_request m then headed link m (header_of m) else no_request link m
