-- The questions of a client, and the telegrams in which they are sent (Snap7 1.4 sources, s7_types.h:
-- TS7ReqHeader): a header with the sequence, then parameters and data.
use Rattle.std.specs.Prelude.{ℕ, Bool, true, false, List, [], ◌∷◌, ◌++◌, length, take, drop}
use Rattle.s7_header.specs.declared.header.Kind.{Kind}
use Rattle.s7_header.specs.declared.header.Kind.TheVariants.{Job, AckData, User}
use Rattle.s7_header.specs.Header.{spelling_of}
use Rattle.s7_header.specs.declared.negotiation.Negotiation.{Negotiation}
use Rattle.s7_header.specs.Negotiation.{negotiation_spelling}
use Rattle.s7_header.specs.UserParams.{user_spelling}
use Rattle.s7_item.specs.declared.item.Item.{Item}
use Rattle.s7_item.specs.Item.{octet_count}
use Rattle.s7_item.specs.Params.{items_params}
use Rattle.s7_item.specs.DataItem.{DataItem, data_octets}
use Rattle.s7_clock.specs.declared.control.Control.{Control}
use Rattle.s7_clock.specs.declared.control.Control.TheVariants.{Insert}
use Rattle.s7_clock.specs.Control.{control_spelling}
use Rattle.s7_block.specs.declared.block.BlockName.{BlockName}
use Rattle.s7_block.specs.Telegrams.{slice_function, end_function, image_data}
use Rattle.s7_dialogue.specs.declared.questions.subject.Subject.{Subject}
use Rattle.s7_dialogue.specs.UserData.{request_params, further_params, no_data, data_of}
use Rattle.s7_dialogue.specs.Uploads.{start_params, id_params}
use Rattle.s7_dialogue.specs.Downloads.{name_in, piece_at, announce_params, piece_params, close_params}

pub data Question : Type 0 where
  -- negotiates the PDU and the parallel jobs
  negotiates : (asked : Negotiation) → Question
  -- reads the octets of items
  reads : (items : List Item) → Question
  -- writes items; the octets are those of all items joined
  writes : (items : List Item) → (octets : List ℕ) → Question
  -- asks for a control: run, stop, compress or copy the memory, or delete a block
  controls : (control : Control) → Question
  -- asks for user data about a subject, and sends these octets
  asks : (subject : Subject) → (octets : List ℕ) → Question
  -- asks for the next octets of an answer in user data, which has this sequence octet, after the octets so far
  asks_further : (subject : Subject) → (octet : ℕ) → (so_far : List ℕ) → Question
  -- starts the upload of a block
  starts_upload : (name : BlockName) → Question
  -- asks for the next octets of the upload of this id, whose image has `size` octets, after the octets so far
  slices_upload : (id size : ℕ) → (so_far : List ℕ) → Question
  -- ends the upload of this id
  ends_upload : (id : ℕ) → Question
  -- announces the download of a block with this image
  announces : (image : List ℕ) → Question
  -- asks nothing: the server is to ask for the first piece of the image
  awaits_call : (image : List ℕ) → Question
  -- gives the image from an offset on, as much as there is room for, as the answer to the server's job of this
  -- sequence; the server is to go on
  gives : (image : List ℕ) → (room from call : ℕ) → Question
  -- answers the server's job of this sequence, which closes the download, and asks for the insertion of the block
  inserts : (image : List ℕ) → (call : ℕ) → Question

-- the data items of a write (Snap7 1.4 sources, s7_types.h: TReqFunWriteDataItem): each item has as many of the
-- octets as its elements need
abbrev pub written : List Item → List ℕ → List DataItem
written [] octets = []
written (item ∷ items) octets =
    record { code = 0x00; word = item.word; octets = take (octet_count item) octets }
    ∷ written items (drop (octet_count item) octets)

-- the parameters of a question; those of reads and writes have the functions 04 and 05 (Snap7 1.4 sources,
-- s7_types.h: TReqFunReadParams)
abbrev pub params_of : Question → List ℕ
params_of (negotiates asked) = negotiation_spelling asked
params_of (reads items) = items_params 0x04 items
params_of (writes items octets) = items_params 0x05 items
params_of (controls control) = control_spelling control
params_of (asks subject octets) = user_spelling (request_params subject)
params_of (asks_further subject octet so_far) = user_spelling (further_params subject octet)
params_of (starts_upload name) = start_params name
params_of (slices_upload id size so_far) = id_params slice_function id
params_of (ends_upload id) = id_params end_function id
params_of (announces image) = announce_params image
params_of (awaits_call image) = []
params_of (gives image room from call) = piece_params (piece_at image room from)
params_of (inserts image call) = control_spelling (Insert (name_in image).kind (name_in image).number)

-- the data of a question: the data items of a write, the data of user data, a piece of an image, or none (Snap7 1.4
-- sources, s7_types.h: TReqFunWriteDataItem, TReqDataSecurity, TResDownloadDataHeader)
abbrev pub body_of : Question → List ℕ
body_of (negotiates asked) = []
body_of (reads items) = []
body_of (writes items octets) = data_octets (written items octets)
body_of (controls control) = []
body_of (asks subject octets) = data_of octets
body_of (asks_further subject octet so_far) = no_data
body_of (starts_upload name) = []
body_of (slices_upload id size so_far) = []
body_of (ends_upload id) = []
body_of (announces image) = []
body_of (awaits_call image) = []
body_of (gives image room from call) = image_data (piece_at image room from).octets
body_of (inserts image call) = []

-- the type of a question's header (Snap7 1.4 sources, s7_types.h: TS7ReqHeader, TS7ResHeader23)
abbrev pub kind_of : Question → Kind
kind_of (negotiates asked) = Job
kind_of (reads items) = Job
kind_of (writes items octets) = Job
kind_of (controls control) = Job
kind_of (asks subject octets) = User
kind_of (asks_further subject octet so_far) = User
kind_of (starts_upload name) = Job
kind_of (slices_upload id size so_far) = Job
kind_of (ends_upload id) = Job
kind_of (announces image) = Job
kind_of (awaits_call image) = Job
kind_of (gives image room from call) = AckData
kind_of (inserts image call) = Job

-- a question has a sequence of the client's own, unless it answers a job of the server's or nothing is sent for it
abbrev pub is_numbered : Question → Bool
is_numbered (awaits_call image) = false
is_numbered (gives image room from call) = false
is_numbered _ = true

-- the sequence of a question's message; `sequence` is the client's own
abbrev pub sequence_in : ℕ → Question → ℕ
sequence_in sequence (gives image room from call) = call
sequence_in sequence _ = sequence

-- a message of this kind and sequence with these parameters and data (Snap7 1.4 sources, s7_types.h: TS7ReqHeader,
-- TS7ResHeader23)
abbrev pub message_octets : Kind → ℕ → List ℕ → List ℕ → List ℕ
message_octets kind sequence params body =
    spelling_of (record { kind = kind; sequence = sequence; param_len = length params; body_len = length body; error = 0 })
    ++ params ++ body

-- a job of this sequence
abbrev pub job_octets : ℕ → List ℕ → List ℕ → List ℕ
job_octets sequence params body = message_octets Job sequence params body

-- the message of a question
abbrev pub question_octets : ℕ → Question → List ℕ
question_octets sequence question =
    message_octets (kind_of question) (sequence_in sequence question) (params_of question) (body_of question)

-- the answer to the server's job that closes a download (after Snap7 1.4 sources, s7_types.h: TReqDownloadParams)
abbrev pub closing_octets : ℕ → List ℕ
closing_octets call = message_octets AckData call close_params []

-- THE MESSAGES that are sent for a question: its own, after the one that closes a download if there is one, or none
abbrev pub messages_of : ℕ → Question → List (List ℕ)
messages_of sequence (awaits_call image) = []
messages_of sequence (inserts image call) = closing_octets call ∷ question_octets sequence (inserts image call) ∷ []
messages_of sequence question = question_octets sequence question ∷ []
