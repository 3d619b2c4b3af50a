-- The questions of a job of a connected client, and what a session answers to each.
use Rattle.std.specs.Prelude.{◌≡◌, ◌⊎◌, ℕ, ◌+◌, ◌<◌, ◌≤◌, Bool, true, false, ◌==◌, ◌&&◌, nat_lt, if◌then◌else◌, List, []}
use Rattle.std.specs.Prelude.{◌∷◌, ◌++◌, length, take, slice_index, map, is_some, Option, None, Some}
use Rattle.s7_plant.specs.Answers as plant
use Rattle.s7_plant.specs.declared.request.Ask.{Ask}
use Rattle.s7_plant.specs.declared.request.Request.{Request}
use Rattle.s7_plant.specs.declared.request.Request.TheVariants.{Read}
use Rattle.s7_plant.specs.declared.request.Request.TheVariants as plain
use Rattle.s7_plant.specs.Requests.{asked, no_room}
use Rattle.s7_plant.specs.Replies.{Said}
use Rattle.s7_plant.specs.State.{State}
use Rattle.s7_wire.specs.Sent.{sent_messages}
use Rattle.s7_header.specs.Negotiation.{most_pdu}
use Rattle.s7_header.specs.Octets.{number_at}
use Rattle.s7_clock.specs.declared.control.Control.{Control}
use Rattle.s7_clock.specs.declared.control.Control.TheVariants as control
use Rattle.s7_clock.specs.Moment.{moment_in}
use Rattle.s7_block.specs.declared.block.BlockName.{BlockName}
use Rattle.s7_block.specs.Kinds.{head_code, is_stored_kind}
use Rattle.s7_block.specs.Names.{is_name, name_octets, named}
use Rattle.s7_block.specs.Sides.{is_held}
use Rattle.s7_block.specs.Assembly.{awaiting, whole}
use Rattle.s7_block.specs.Telegrams.{piece_function, close_function}
use Rattle.s7_dialogue.specs.declared.questions.subject.Subject.{Subject}
use Rattle.s7_dialogue.specs.declared.questions.subject.Subject.TheVariants.{StatusList, RunState, Clock, ClockSetting, Password}
use Rattle.s7_dialogue.specs.declared.questions.subject.Subject.TheVariants.{PasswordClearing, BlockCounts, BlocksOfKind, BlockHead}
use Rattle.s7_dialogue.specs.declared.questions.subject.Subject.TheVariants.{DataHead}
use Rattle.s7_dialogue.specs.UserData.{group_of, subfunction_of, is_whole}
use Rattle.s7_dialogue.specs.Question.{Question, reads, writes, controls, asks, asks_further, messages_of}
use Rattle.s7_dialogue.specs.Question.{starts_upload, slices_upload, ends_upload}
use Rattle.s7_dialogue.specs.Question.{announces, awaits_call, gives, inserts}
use Rattle.s7_dialogue.specs.Downloads.{name_in}
use Rattle.s7_block.specs.Slices.{image_room}
use Rattle.s7_dialogue.specs.Answer.{Answer, refuses, tells, notes, stands, brings, uploads, slices, uploaded, announced}
use Rattle.s7_dialogue.specs.Answer.{calls, answer_of}
use Rattle.s7_session.specs.LinkState.{LinkState, Sliced, next_octet}
use Rattle.s7_session.specs.Passwords.{decoded, set_error, clear_error}
use Rattle.s7_session.specs.Transfers.{server_job_octets}
use Rattle.s7_session.specs.Judgement.{slice_room}
use Rattle.s7_session.specs.Owed.{past}
use Rattle.s7_session.specs.Telegrams.{AnyFull, clock_failures}
use Rattle.s7_session.specs.Verdict.{Verdict}
use Rattle.s7_rig.specs.Heard.{told_of}
use Rattle.s7_rig.specs.Settled.{Serves}
use Rattle.s7_rig.specs.Dialogues.{AreReplies}
use Rattle.s7_rig.specs.Written.{own_write, own_codes}

-- the request of a control to the plant; a deletion asks the plant only if the block's kind is stored and its number
-- has two octets, and no question alone asks for an insertion
abbrev pub request_of : Control → Option Request
request_of control.Start = Some (plain.Start false)
request_of control.ColdStart = Some (plain.Start true)
request_of control.Stop = Some plain.Stop
request_of control.Compress = Some plain.Compress
request_of control.CopyRam = Some plain.CopyRam
request_of (control.Insert kind number) = None
request_of (control.Delete kind number) =
    if is_stored_kind kind && nat_lt number 65536 then Some (plain.Delete kind number) else None

-- ---- further octets

-- The link holds, under this sequence octet, the octets that follow these of an answer in user data; together they are
-- the whole answer.
pub record HoldsRest (link : LinkState) (subject : Subject) (octet : ℕ) (so_far : List ℕ) : Type 0 where
  pub held : Sliced
  pub is : link.sliced ≡ Some held
  pub group : held.group ≡ group_of subject
  pub subfunction : held.subfunction ≡ subfunction_of subject
  pub sequence : held.sequence ≡ octet
  pub some : 0 < length held.rest
  pub whole : is_whole subject (so_far ++ held.rest) ≡ true
  pub most : length (so_far ++ held.rest) ≤ 8448

-- The link holds the octets that follow these of the upload of this id. Together they have the length that was stated,
-- which is at most that of an upload.
pub record HoldsImage (link : LinkState) (id size : ℕ) (so_far : List ℕ) : Type 0 where
  pub rest : List ℕ
  pub is : link.upload ≡ Some (record { id = id; left = Some rest })
  pub whole : length (so_far ++ rest) ≡ size
  pub most : size ≤ 65572

-- The link holds the download of this image, of a kind that is stored. Its octets up to an offset came, and the
-- server's job of this sequence asks for the next ones.
pub record HoldsPieces (link : LinkState) (image : List ℕ) (from call : ℕ) : Type 0 where
  pub stored : is_stored_kind (name_in image).kind ≡ true
  pub download : link.download
      ≡ Some (record { name = name_in image; progress = awaiting (length image) (take from image) })
  pub job : link.server_job ≡ Some (record { sequence = call; function = piece_function })

-- The link holds the download with all its octets, and the server's job of this sequence closes it.
pub record HoldsWhole (link : LinkState) (image : List ℕ) (call : ℕ) : Type 0 where
  pub stored : is_stored_kind (name_in image).kind ≡ true
  pub download : link.download ≡ Some (record { name = name_in image; progress = whole image })
  pub job : link.server_job ≡ Some (record { sequence = call; function = close_function })

-- what a question needs of the link: that it holds further octets, the upload that the question names, or the download
abbrev pub IsReadyFor : LinkState → Question → Type 0
IsReadyFor link (asks_further subject octet so_far) = HoldsRest link subject octet so_far
IsReadyFor link (slices_upload id size so_far) = HoldsImage link id size so_far
IsReadyFor link (ends_upload id) = is_held link.upload id ≡ true
IsReadyFor link (awaits_call image) = HoldsPieces link image 0 link.job_sequence
IsReadyFor link (gives image room from call) = HoldsPieces link image from call
IsReadyFor link (inserts image call) = HoldsWhole link image call
IsReadyFor link _ = Unit {0}

-- if more octets follow, the link holds them
abbrev pub HoldsMore : Bool → LinkState → Subject → ℕ → List ℕ → Type 0
HoldsMore more link subject octet so_far = more ≡ true → HoldsRest link subject octet so_far

-- if more slices follow, the link holds their octets; otherwise it holds the upload, until its end
abbrev pub HoldsUpload : Bool → LinkState → ℕ → ℕ → List ℕ → Type 0
HoldsUpload true link id size so_far = HoldsImage link id size so_far
HoldsUpload false link id size so_far = is_held link.upload id ≡ true

-- the server's job that asks for the first piece of an image
abbrev pub first_call : LinkState → List ℕ → List ℕ
first_call link image = server_job_octets link.job_sequence piece_function (name_in image)

-- the messages that the session has sent and its client hasn't read when this question is asked: the server's job for
-- the first piece, which it sent with its last answer, if the client awaits that job; otherwise none
abbrev pub IsAwaited : List (List ℕ) → LinkState → Question → Type 0
IsAwaited unheard link (awaits_call image) = unheard ≡ first_call link image ∷ []
IsAwaited unheard link _ = unheard ≡ []

-- the messages after the answer to a question
abbrev pub IsUnheard : List (List ℕ) → LinkState → Question → Answer → Type 0
IsUnheard unheard link (announces image) announced = unheard ≡ first_call link image ∷ []
IsUnheard unheard link _ _ = unheard ≡ []

-- if more of an image is to come, the link awaits it; otherwise it has all of it
abbrev pub HoldsGiven : Bool → LinkState → List ℕ → ℕ → ℕ → Type 0
HoldsGiven true link image from call = HoldsPieces link image from call
HoldsGiven false link image from call = HoldsWhole link image call

-- what the link holds after an answer: the octets that follow it, or the progress of a download. A slice is no answer
-- to an upload's end, and user data is none to a read or a write.
abbrev pub GoesOn : LinkState → Question → Answer → Type 0
GoesOn link (reads items) (brings octet more piece) = ⊥
GoesOn link (writes items octets) (brings octet more piece) = ⊥
GoesOn link (asks subject octets) (brings octet more piece) = HoldsMore more link subject octet piece
GoesOn link (asks_further subject asked so_far) (brings octet more piece) =
    HoldsMore more link subject octet (so_far ++ piece)
GoesOn link (starts_upload name) (uploads id size) = HoldsImage link id size []
GoesOn link (slices_upload id size so_far) (slices more octets) = HoldsUpload more link id size (so_far ++ octets)
GoesOn link (ends_upload id) (slices more octets) = ⊥
GoesOn link (announces image) announced = HoldsPieces link image 0 link.job_sequence
GoesOn link (awaits_call image) (calls call) = HoldsPieces link image 0 call
GoesOn link (gives image room from call) (calls next) =
    HoldsGiven (nat_lt (from + room) (length image)) link image (from + room) next
GoesOn link (inserts image call) (calls next) = ⊥
GoesOn link _ _ = Unit {0}

-- ---- what is answered

-- the request of user data about a subject at a moment
abbrev pub AsksFor : Subject → List ℕ → ℕ → Request → Type 0
AsksFor StatusList octets moment request = request ≡ plain.Szl (number_at octets 0) (number_at octets 2)
AsksFor RunState octets moment request = request ≡ plain.Szl (number_at octets 0) (number_at octets 2)
AsksFor BlockCounts octets moment request = request ≡ plain.ListAll
AsksFor BlocksOfKind octets moment request = request ≡ plain.ListOf (slice_index octets 1)
AsksFor BlockHead octets moment request =
    (name : BlockName) × (named octets 0x41 ≡ Some name) × (request ≡ plain.Info name.kind name.number)
AsksFor DataHead octets moment request =
    (name : BlockName) × (named octets 0x41 ≡ Some name) × (request ≡ plain.Info name.kind name.number)
AsksFor Clock octets moment request = request ≡ plain.ClockRead moment
AsksFor ClockSetting octets moment request =
    (value : ℕ) × (moment_in octets ≡ Some value) × (request ≡ plain.ClockSet moment value)
AsksFor Password octets moment request = ⊥
AsksFor PasswordClearing octets moment request = ⊥

-- the subject is a password, which is set or given back; no plant is asked about it
abbrev pub IsSecurity : Subject → Type 0
IsSecurity Password = Unit {0}
IsSecurity PasswordClearing = Unit {0}
IsSecurity _ = ⊥

-- the octets name a kind that doesn't exist, or no block; no plant is asked about such a name
abbrev pub NamesNone : Subject → List ℕ → Type 0
NamesNone BlocksOfKind octets = is_some (head_code (slice_index octets 1)) ≡ false
NamesNone BlockHead octets = named octets 0x41 ≡ None
NamesNone DataHead octets = named octets 0x41 ≡ None
NamesNone _ octets = ⊥

-- the answer that the client reads for a reply to a control, and to user data with this PDU and under this sequence
-- octet
abbrev pub control_heard : Said → Answer
control_heard reply = if reply.error == 0 then stands (slice_index reply.params 1) else refuses reply.error

abbrev pub user_heard : ℕ → ℕ → Said → Answer
user_heard pdu octet reply =
    if reply.error == 0
    then brings octet (nat_lt (slice_room pdu) (length reply.body)) (take (slice_room pdu) reply.body)
    else refuses reply.error

-- the block whose upload is asked for, as the octets of its name are read: the block itself if its kind exists and its
-- number has two octets
abbrev pub uploaded_of : BlockName → Option BlockName
uploaded_of name = named (name_octets name 0x41) 0x41

-- the answer that the client reads for this reply to the start of an upload; the upload has this id
abbrev pub upload_heard : ℕ → Said → Answer
upload_heard id reply = if reply.error == 0 then uploads id (length reply.body) else refuses reply.error

abbrev pub security_heard : ℕ → ℕ → Answer
security_heard octet error = if error == 0 then brings octet false [] else refuses error

-- a verdict says that the history was full, or that the clock failed, and this is the error word for it
abbrev pub IsUndone : List Verdict → ℕ → Type 0
IsUndone verdicts error =
    (AnyFull verdicts × (error ≡ 0x8F01)) ⊎ ((0 < clock_failures verdicts) × (error ≡ 0x8F02))

-- this request was entered, with a right or without, and its reply gives the answer
abbrev pub IsEntered : Request → List (Ask × Said) → (Bool → Said → Type 0) → Type 0
IsEntered request new heard =
    (right : Bool) × (reply : Said) × (new ≡ (asked right request, reply) ∷ []) × heard right reply

-- the deletion of a block that can't be deleted is refused
abbrev pub IsBarred : Control → Answer → Type 0
IsBarred (control.Delete kind number) answer =
    (request_of (control.Delete kind number) ≡ None)
    × (answer ≡ refuses (if is_name kind number then 0x8F03 else 0x8404))
IsBarred _ answer = ⊥

-- The answer to a question for which neither the history was full nor the clock failed, on a link of this PDU, and what
-- was entered for it. A request was entered with a right or without. A read answers what the memory of the state that
-- gave the reply has; a write answers the codes that this memory gives. A control, user data, the start of an upload,
-- and the insertion of the very image that was given answer what the reply says. Passwords, further octets, slices and
-- the end of an upload enter nothing. Nor do a download up to its insertion, a name of no block, which is refused, a
-- block that can't be deleted because its kind isn't stored or its number is too large, and a block that can't be
-- downloaded because its kind isn't stored. Further octets and slices are as many as fit a telegram of those that
-- complete the answer or the image. A negotiation is no such question.
abbrev pub IsTold : ℕ → Question → Answer → List (Ask × Said) → Type 0
IsTold pdu (reads items) answer new =
    IsEntered (Read items) new
    (λ right reply. (s : State) → reply ≡ plant.answer_of s (asked right (Read items))
    → answer ≡ tells (map (told_of s.memory right) items))
IsTold pdu (writes items octets) answer new =
    IsEntered (own_write items octets) new
    (λ right reply. (s : State) → reply ≡ plant.answer_of s (asked right (own_write items octets))
    → answer ≡ notes (own_codes s.memory right items octets))
IsTold pdu (controls c) answer new =
    ((request : Request) × (request_of c ≡ Some request)
    × IsEntered request new (λ right reply. answer ≡ control_heard reply))
    ⊎ ((new ≡ []) × IsBarred c answer)
IsTold pdu (asks subject octets) answer new =
    ((moment : ℕ) × (request : Request) × (octet : ℕ) × AsksFor subject octets moment request
    × IsEntered request new (λ right reply. answer ≡ user_heard pdu octet reply))
    ⊎ (IsSecurity subject × (new ≡ []) × (octet : ℕ) × (error : ℕ) × (answer ≡ security_heard octet error))
    ⊎ (NamesNone subject octets × (new ≡ []) × (answer ≡ refuses 0x8404))
IsTold pdu (asks_further subject octet so_far) answer new =
    (new ≡ []) × (rest : List ℕ) × (is_whole subject (so_far ++ rest) ≡ true)
    × (answer ≡ brings octet (nat_lt (slice_room pdu) (length rest)) (take (slice_room pdu) rest))
IsTold pdu (starts_upload name) answer new =
    ((block : BlockName) × (id : ℕ) × (uploaded_of name ≡ Some block)
    × IsEntered (plain.StartUpload block.kind block.number) new (λ right reply. answer ≡ upload_heard id reply))
    ⊎ ((uploaded_of name ≡ None) × (new ≡ []) × (answer ≡ refuses 0x8404))
IsTold pdu (slices_upload id size so_far) answer new =
    (new ≡ []) × (rest : List ℕ) × (length (so_far ++ rest) ≡ size)
    × (answer ≡ slices (nat_lt (image_room pdu) (length rest)) (take (image_room pdu) rest))
IsTold pdu (ends_upload id) answer new = (new ≡ []) × (answer ≡ uploaded)
IsTold pdu (announces image) answer new =
    (new ≡ [])
    × ((answer ≡ announced) ⊎ ((is_stored_kind (name_in image).kind ≡ false) × (answer ≡ refuses 0x8F03)))
IsTold pdu (awaits_call image) answer new = (new ≡ []) × (call : ℕ) × (answer ≡ calls call)
IsTold pdu (gives image room from call) answer new = (new ≡ []) × (next : ℕ) × (answer ≡ calls next)
IsTold pdu (inserts image call) answer new =
    IsEntered (plain.Insert (name_in image).kind (name_in image).number image no_room) new
    (λ right reply. answer ≡ control_heard reply)
IsTold pdu _ answer new = ⊥

-- The answer to a question and what was entered for it, given the verdicts for the question itself. If one of them says
-- that the history was full or the clock failed, the question is refused and nothing is entered; otherwise `IsTold`
-- holds.
pub data HasTold (pdu : ℕ) (own : List Verdict) (question : Question) (answer : Answer) (new : List (Ask × Said))
    : Type 0 where
  is_refused : (error : ℕ) → IsUndone own error → new ≡ [] → answer ≡ refuses error
      → HasTold pdu own question answer new
  is_told : IsTold pdu question answer new → HasTold pdu own question answer new

-- The message is an answer to the question, these messages after it weren't read yet, this was entered for the
-- question, and the link holds what follows the answer.
pub record IsHeard (pdu : ℕ) (own : List Verdict) (link : LinkState) (question : Question) (number : ℕ)
    (message : List ℕ) (behind : List (List ℕ)) (new : List (Ask × Said)) : Type 0 where
  pub answer : Answer
  pub is : answer_of question number message ≡ Some answer
  pub told : HasTold pdu own question answer new
  pub goes_on : GoesOn link question answer
  pub unheard : IsUnheard behind link question answer

-- a password is judged by the link's guard, and is given back by the link's right
abbrev pub IsSecuredBy : LinkState → Subject → List ℕ → Answer → Type 0
IsSecuredBy link Password octets answer =
    answer ≡ security_heard (next_octet link.user_sequence) (set_error link.guard (decoded octets))
IsSecuredBy link PasswordClearing octets answer =
    answer ≡ security_heard (next_octet link.user_sequence) (clear_error link.guard link.right)
IsSecuredBy link _ octets answer = Unit {0}

-- what the link alone decides: the answers about passwords, and the next of the octets that it held
abbrev pub IsByLink : LinkState → ℕ → Question → Answer → Type 0
IsByLink link pdu (asks subject octets) answer = IsSecuredBy link subject octets answer
IsByLink link pdu (asks_further subject octet so_far) answer =
    (held : Sliced) × (link.sliced ≡ Some held)
    × (answer ≡ brings octet (nat_lt (slice_room pdu) (length held.rest)) (take (slice_room pdu) held.rest))
IsByLink link pdu (slices_upload id size so_far) answer =
    (rest : List ℕ) × (link.upload ≡ Some (record { id = id; left = Some rest }))
    × (answer ≡ slices (nat_lt (image_room pdu) (length rest)) (take (image_room pdu) rest))
IsByLink link pdu _ answer = Unit {0}

-- the state of a link that used a question
abbrev pub link_past : LinkState → List ℕ → ℕ → Question → List Verdict → LinkState
link_past first b number question verdicts =
    (past first (b ++ sent_messages 1024 (messages_of number question)) verdicts).link

-- A question is answered by one message, the first of those that the session sent and its client hasn't read; after it
-- come the messages that the session sends for the question. The first of the verdicts that follow are the question's
-- own. If the replies are those of states, the message is no longer than the greatest PDU, and the client reads it as
-- an answer. What the link alone decides follows from its state before.
pub record Replies (first : LinkState) (b : List ℕ) (js vs : List Verdict) (unheard : List (List ℕ)) (pdu : ℕ)
    (question : Question) (number : ℕ) : Type 0 where
  pub own : List Verdict
  pub left : List Verdict
  pub split : vs ≡ own ++ left
  pub sent : List (List ℕ)
  pub message : List ℕ
  pub behind : List (List ℕ)
  pub in_order : unheard ++ sent ≡ message ∷ behind
  pub new : List (Ask × Said)
  pub serves : Serves first b js (sent_messages 1024 (messages_of number question)) (js ++ own) (Some pdu)
      (sent_messages 1024 sent) new
  pub least : AreReplies new → 10 ≤ length message
  pub most : AreReplies new → length message ≤ most_pdu
  pub heard : AreReplies new
      → IsHeard pdu own (link_past first b number question (js ++ own)) question number message behind new
  pub by_link : (answer : Answer) → answer_of question number message ≡ Some answer
      → IsByLink (past first b js).link pdu question answer
