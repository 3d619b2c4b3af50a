-- Jobs that ask one question at a time, and what a message says of the answer.
use Rattle.std.specs.Prelude.{◌≡◌, ℕ, ◌+◌, ◌-◌, ◌<◌, ◌≤◌, Bool, true, false, nat_lt, if◌then◌else◌, List, [], ◌∷◌, ◌++◌, length, Option, None, Some, option_map}
use Rattle.s7_szl.specs.Joining.{most_joined}
use Rattle.s7_dialogue.specs.declared.transfers.data_block.DataBlock.{DataBlock}
use Rattle.s7_dialogue.specs.declared.transfers.data_block.Place.{Place}
use Rattle.s7_dialogue.specs.declared.questions.subject.Subject.{Subject}
use Rattle.s7_dialogue.specs.declared.transfers.download.Pieces.{Pieces}
use Rattle.s7_dialogue.specs.declared.stages.single.Ask.{Ask}
use Rattle.s7_dialogue.specs.declared.stages.single.Ask.TheVariants as ask
use Rattle.s7_dialogue.specs.declared.transfers.user_data.Told.{Told}
use Rattle.s7_dialogue.specs.declared.transfers.user_data.Told.TheVariants as told
use Rattle.s7_dialogue.specs.UserData.{comes_in_pieces, lead_of}
use Rattle.s7_dialogue.specs.Uploads.{most_uploaded}
use Rattle.s7_dialogue.specs.DataBlocks.{tells_data, data_length}
use Rattle.s7_dialogue.specs.Answer.{Answer, tells, notes, stands, brings, uploads, slices, uploaded, announced, calls}
use Rattle.s7_dialogue.specs.Refusals.{code_refusal, telegram_refusal, part_refusal, control_refusal, download_refusal}
use Rattle.s7_dialogue.specs.DataPlaces.{most_data, place_from, part_count, next_part, refused_number, room_for_value, comes_for}

-- the number of messages of a question
abbrev pub message_count : Ask → ℕ
message_count (ask.AwaitCall pieces) = 0
message_count (ask.Insert pieces call) = 2
message_count _ = 1

-- a question has a sequence of the client's own, unless it answers a job of the server's or nothing is sent for it
abbrev pub is_numbered_ask : Ask → Bool
is_numbered_ask (ask.AwaitCall pieces) = false
is_numbered_ask (ask.Give pieces from call) = false
is_numbered_ask _ = true

-- the greatest number of octets that the answers give in all
abbrev pub room_for : Ask → ℕ
room_for (ask.Control control) = 0
room_for (ask.About subject) = most_joined
room_for (ask.Further subject octet) = most_joined
room_for ask.Upload = most_uploaded
room_for (ask.Slice id size) = most_uploaded
room_for (ask.UploadEnd id) = most_uploaded
room_for (ask.Announce pieces) = 0
room_for (ask.AwaitCall pieces) = 0
room_for (ask.Give pieces from call) = 0
room_for (ask.Insert pieces call) = 0
room_for (ask.Head block) = room_for_value block.value
room_for (ask.HeadFurther block octet) = room_for_value block.value
room_for (ask.Part block place) = room_for_value block.value

-- the number of octets that the parts still give
abbrev pub parts_bring : Ask → ℕ
parts_bring (ask.Part block place) = comes_for block.value (place.here + place.later)
parts_bring _ = 0

-- the greatest number of octets that an answer gives after these octets so far
abbrev pub most_brought : Ask → ℕ → ℕ
most_brought (ask.Head block) came = most_joined - came
most_brought (ask.HeadFurther block octet) came = most_joined - came
most_brought (ask.Part block place) came = comes_for block.value (part_count block place)
most_brought asked came = room_for asked - came

-- the greatest number of answers still awaited, after `came` octets. Each answer but the last gives octets; an
-- upload also has a start and an end; each part of a data block has at least one octet; so has each piece of an
-- image that is given, after an announcement and before an insertion
abbrev pub asks_left : Ask → ℕ → ℕ
asks_left (ask.Control control) came = 1
asks_left (ask.About subject) came = 1 + (most_joined - came)
asks_left (ask.Further subject octet) came = 1 + (most_joined - came)
asks_left ask.Upload came = 3 + (most_uploaded - came)
asks_left (ask.Slice id size) came = 2 + (most_uploaded - came)
asks_left (ask.UploadEnd id) came = 1
asks_left (ask.Announce pieces) came = 3 + pieces.len
asks_left (ask.AwaitCall pieces) came = 2 + pieces.len
asks_left (ask.Give pieces from call) came = 1 + (pieces.len - from)
asks_left (ask.Insert pieces call) came = 1
asks_left (ask.Head block) came = 2 + (most_joined - came) + most_data
asks_left (ask.HeadFurther block octet) came = 2 + (most_joined - came) + most_data
asks_left (ask.Part block place) came = 1 + (place.here + place.later)

-- the number of octets of all answers that come before what was asked for
abbrev pub lead_in : Ask → ℕ
lead_in (ask.About subject) = lead_of subject
lead_in (ask.Further subject octet) = lead_of subject
lead_in _ = 0

-- the error number of an answer that refuses this question
abbrev pub refusal_to : Ask → Answer → Option ℕ
refusal_to (ask.Control control) answer = control_refusal control answer
refusal_to (ask.Part block place) answer = option_map (refused_number block place) (part_refusal answer)
refusal_to (ask.Announce pieces) answer = download_refusal answer
refusal_to (ask.AwaitCall pieces) answer = download_refusal answer
refusal_to (ask.Give pieces from call) answer = download_refusal answer
refusal_to (ask.Insert pieces call) answer = download_refusal answer
refusal_to _ answer = telegram_refusal answer

-- ---- answers that don't refuse: the octets that they give, and the next question

-- the control was carried out
abbrev pub TellsStatus : List ℕ → Option Ask → Answer → Type 0
TellsStatus octets next (stands status) = (status ≡ 0) × (octets ≡ []) × (next ≡ None)
TellsStatus octets next _ = ⊥

-- Octets of user data about this subject came. If more follow, at least one came, and the next ones are asked for.
abbrev pub TellsPiece : Subject → List ℕ → Option Ask → Answer → Type 0
TellsPiece subject octets next (brings octet more piece) =
    (octets ≡ piece) × (next ≡ (if more then Some (ask.Further subject octet) else None))
    × (more ≡ true → 0 < length piece) × (more ≡ true → comes_in_pieces subject ≡ true)
TellsPiece subject octets next _ = ⊥

-- the upload has begun
abbrev pub TellsStart : List ℕ → Option Ask → Answer → Type 0
TellsStart octets next (uploads id size) = (octets ≡ []) × (next ≡ Some (ask.Slice id size))
TellsStart octets next _ = ⊥

-- A slice came. If more follow, it has octets, and the next slice is asked for; else the end is.
abbrev pub TellsSlice : ℕ → ℕ → List ℕ → Option Ask → Answer → Type 0
TellsSlice id size octets next (slices more piece) =
    (octets ≡ piece) × (next ≡ Some (if more then ask.Slice id size else ask.UploadEnd id))
    × (more ≡ true → 0 < length piece)
TellsSlice id size octets next _ = ⊥

-- the upload has ended
abbrev pub TellsEnd : List ℕ → Option Ask → Answer → Type 0
TellsEnd octets next uploaded = (octets ≡ []) × (next ≡ None)
TellsEnd octets next _ = ⊥

-- the download has begun: the server is to ask for the first piece
abbrev pub TellsBegun : Pieces → List ℕ → Option Ask → Answer → Type 0
TellsBegun pieces octets next announced = (octets ≡ []) × (next ≡ Some (ask.AwaitCall pieces))
TellsBegun pieces octets next _ = ⊥

-- the next question for the server's job of this sequence, once the image was given up to an offset
abbrev pub ask_behind : Pieces → ℕ → ℕ → Ask
ask_behind pieces from call = if nat_lt from pieces.len then ask.Give pieces from call else ask.Insert pieces call

-- the server has gone on with the download
abbrev pub TellsCall : Pieces → ℕ → List ℕ → Option Ask → Answer → Type 0
TellsCall pieces from octets next (calls call) = (octets ≡ []) × (next ≡ Some (ask_behind pieces from call))
TellsCall pieces from octets next _ = ⊥

-- a piece of a head came, and more follow
abbrev pub TellsOfHead : DataBlock → List ℕ → Option Ask → Answer → Type 0
TellsOfHead block octets next (brings octet more piece) =
    (octets ≡ piece) × (next ≡ Some (ask.HeadFurther block octet)) × (more ≡ true) × (0 < length piece)
TellsOfHead block octets next _ = ⊥

-- A part was read or written, with code FF (Snap7 1.4 sources, s7_types.h: TResFunReadItem, TResFunWrite), and the
-- next one is asked for, if there is one.
abbrev pub TellsPart : DataBlock → Place → List ℕ → Option Ask → Answer → Type 0
TellsPart block place octets next (tells (item ∷ [])) =
    (block.value ≡ None) × (item.code ≡ 0xFF) × (octets ≡ item.octets)
    × (next ≡ option_map (ask.Part block) (next_part block place))
TellsPart block place octets next (notes (code ∷ [])) =
    (octets ≡ []) × (code ≡ 0xFF) × (next ≡ option_map (ask.Part block) (next_part block place))
TellsPart block place octets next _ = ⊥

abbrev pub BringsOn : Ask → List ℕ → Option Ask → Answer → Type 0
BringsOn (ask.Control control) octets next answer = TellsStatus octets next answer
BringsOn (ask.About subject) octets next answer = TellsPiece subject octets next answer
BringsOn (ask.Further subject octet) octets next answer = TellsPiece subject octets next answer
BringsOn ask.Upload octets next answer = TellsStart octets next answer
BringsOn (ask.Slice id size) octets next answer = TellsSlice id size octets next answer
BringsOn (ask.UploadEnd id) octets next answer = TellsEnd octets next answer
BringsOn (ask.Announce pieces) octets next answer = TellsBegun pieces octets next answer
BringsOn (ask.AwaitCall pieces) octets next answer = TellsCall pieces 0 octets next answer
BringsOn (ask.Give pieces from call) octets next answer = TellsCall pieces (from + pieces.room) octets next answer
BringsOn (ask.Insert pieces call) octets next answer = TellsStatus octets next answer
BringsOn (ask.Head block) octets next answer = TellsOfHead block octets next answer
BringsOn (ask.HeadFurther block octet) octets next answer = TellsOfHead block octets next answer
BringsOn (ask.Part block place) octets next answer = TellsPart block place octets next answer

-- The last piece of a head came after these octets, and the first part of its data block is asked for.
abbrev pub TellsHead : DataBlock → List ℕ → Ask → Answer → Type 0
TellsHead block so_far next (brings octet more piece) =
    (more ≡ false) × (tells_data (so_far ++ piece) ≡ true)
    × ((place : Place) × (place_from 0 (data_length (so_far ++ piece)) ≡ Some place) × (next ≡ ask.Part block place))
TellsHead block so_far next _ = ⊥

abbrev pub BeginsAnew : Ask → List ℕ → Ask → Answer → Type 0
BeginsAnew (ask.Head block) so_far next answer = TellsHead block so_far next answer
BeginsAnew (ask.HeadFurther block octet) so_far next answer = TellsHead block so_far next answer
BeginsAnew _ so_far next answer = ⊥

-- what the code's value says of an answer, after these octets so far; there is room for the octets of the answer
abbrev pub TellsSingle : Ask → List ℕ → Told → Answer → Type 0
TellsSingle asked so_far (told.Refused number) answer = refusal_to asked answer ≡ Some number
TellsSingle asked so_far (told.Brought octets next) answer =
    BringsOn asked octets.now next answer × (length octets.now ≤ most_brought asked (length so_far))
TellsSingle asked so_far (told.Anew next) answer = BeginsAnew asked so_far next answer

-- what the code's value says of a part's return code and octets (Snap7 1.4 sources, s7_types.h: TResFunReadItem,
-- TResFunWrite)
abbrev pub IsToldOf : DataBlock → Place → ℕ → List ℕ → Told → Type 0
IsToldOf block place code octets (told.Refused number) =
    option_map (refused_number block place) (code_refusal code) ≡ Some number
IsToldOf block place code octets (told.Brought piece next) =
    (code ≡ 0xFF) × (piece.now ≡ octets) × (next ≡ option_map (ask.Part block) (next_part block place))
IsToldOf block place code octets (told.Anew next) = ⊥

-- after the last piece the head is that of a data block that can be read or filled
abbrev pub IsWholeIfLast : List ℕ → Answer → Type 0
IsWholeIfLast so_far (brings octet more piece) = more ≡ false → tells_data (so_far ++ piece) ≡ true
IsWholeIfLast so_far _ = Unit {0}

abbrev pub TellsIfSome : Ask → List ℕ → Told → Option Answer → Type 0
TellsIfSome asked so_far told None = ⊥
TellsIfSome asked so_far told (Some answer) = TellsSingle asked so_far told answer
