-- Lemmas on questions that are asked alone: their messages, and what isn't put yet.
use Rattle.std.proofs.Common.{◌≡◌, ◌==◌, ℕ, zero, suc, ◌-◌, ◌*◌, ◌<◌, ◌≤◌, Bool, true, false, cond, leb, ltb, ◌&&◌, Option, Some, None, List, [], ◌∷◌, ◌++◌, length, drop, refl, sym, ap, ◌∙◌, arith}
use Rattle.std.specs.Prelude.{IsSome, is_some, bit_xor, replicate, unwrap_or}
use Rattle.std.specs.List.{AllByRecursion}
use Rattle.std.proofs.lemmas.Bool.{and_parts, leb-true}
use Rattle.std.proofs.lemmas.List.{length-append, length-replicate, length-drop, length-take, drop_all}
use Rattle.s7_wire.specs.Sent.{sent_message, sent_messages}
use Rattle.s7_wire.proofs.SendLemmas.{length-sent}
use Rattle.s7_header.specs.declared.header.Kind.TheVariants.{Job as job_kind, User}
use Rattle.s7_header.specs.declared.user_params.UserParams.{UserParams}
use Rattle.s7_header.specs.UserParams.{user_spelling}
use Rattle.s7_header.specs.Negotiation.{most_pdu}
use Rattle.s7_clock.specs.declared.control.Control.{Control}
use Rattle.s7_clock.specs.declared.control.Control.TheVariants as control
use Rattle.s7_clock.specs.Control.{control_spelling}
use Rattle.s7_clock.specs.Moment.{moment_octets}
use Rattle.s7_szl.specs.Joining.{most_joined}
use Rattle.s7_block.specs.Telegrams.{slice_function, end_function}
use Rattle.s7_item.specs.declared.item.Item.{Item}
use Rattle.s7_item.specs.Params.{items_params}
use Rattle.s7_item.specs.DataItem.{data_octets}
use Rattle.s7_item.proofs.SizeLaws.{reads_sized, writes_sized}
use Rattle.s7_dialogue.specs.declared.transfers.data_block.DataBlock.{DataBlock}
use Rattle.s7_dialogue.specs.declared.transfers.data_block.Place.{Place}
use Rattle.s7_dialogue.specs.declared.questions.subject.Subject.TheVariants.{DataHead}
use Rattle.s7_dialogue.specs.DataBlocks.{data_item}
use Rattle.s7_dialogue.specs.DataPlaces.{part_count, question_for, room_for_value, has_pdu, is_inside}
use Rattle.s7_dialogue.specs.declared.config.Config.{Config}
use Rattle.s7_dialogue.specs.declared.job.Job.{Job}
use Rattle.s7_dialogue.specs.declared.job.Job.TheVariants as job
use Rattle.s7_dialogue.specs.declared.transfers.download.Pieces.{Pieces}
use Rattle.s7_dialogue.specs.declared.stages.single.Ask.{Ask}
use Rattle.s7_dialogue.specs.declared.stages.single.Ask.TheVariants as ask
use Rattle.s7_dialogue.specs.declared.stages.single.Single.{Single}
use Rattle.s7_dialogue.specs.declared.stages.running.Stage.TheVariants as stage
use Rattle.s7_dialogue.specs.Codes.{no_fault, invalid_parameters}
use Rattle.s7_dialogue.specs.Checks.{octet_count_of, check_password}
use Rattle.s7_dialogue.specs.Dialogue.{block_octets}
use Rattle.s7_dialogue.specs.UserData.{request_params, further_params, data_of, filled_text, encoded_after, encoded}
use Rattle.s7_dialogue.specs.Uploads.{start_params, id_params}
use Rattle.s7_dialogue.specs.Question.{written, message_octets, question_octets, messages_of, gives}
use Rattle.s7_dialogue.specs.Downloads.{name_in, announce_params}
use Rattle.s7_dialogue.specs.Stages.{data_of_job, block_of, image_of, question_of_single, single_messages, is_sent_well, has_image, can_ask_single, unput_by}
use Rattle.s7_dialogue.specs.Singles.{message_count}
use Rattle.s7_dialogue.proofs.MessageLemmas.{written_sent}
use Rattle.s7_dialogue.proofs.MessagesAskedLemmas.{each_message, count_asked, last_message, few_messages}
use Rattle.s7_dialogue.proofs.DownloadImageLemmas.{IsGiven, image_given}
use Rattle.s7_dialogue.proofs.DataPartLemmas.{byte_octets}
use Rattle.s7_dialogue.proofs.DataReadLemmas.{write_sized, few_written}

-- ---- the octets that a job sends

clock_long : (moment : ℕ) → length (moment_octets moment) ≡ 10
unfolding moment_octets
clock_long moment = refl

length-encoded_after : (second first : ℕ) (octets : List ℕ)
    → length (encoded_after second first octets) ≡ length octets
length-encoded_after second first [] = refl
length-encoded_after second first (octet ∷ octets) =
    omega (arith, length-encoded_after first (bit_xor (bit_xor octet 0x55) second) octets)

length-encoded : (text : List ℕ) → length (encoded text) ≡ length text
unfolding encoded
length-encoded text = length-encoded_after 0 0 text

good_password : (some few : Bool) → (cond (some && few) no_fault invalid_parameters == no_fault) ≡ true
    → few ≡ true
good_password true true good = refl
good_password true false good = absurd (cc)
good_password false few good = absurd (cc)

password_long : (text : List ℕ) → (check_password text == no_fault) ≡ true
    → length (encoded (filled_text text)) ≡ 8
password_long text good =
    let few : length text ≤ 8 =
    leb-true (length text) 8 (good_password (ltb 0 (length text)) (leb (length text) 8) good) in
    let filling : length (replicate {A = ℕ} (8 - length text) 0x20) ≡ 8 - length text =
    length-replicate (8 - length text) 0x20 in
    omega (
      arith,
      few,
      filling,
      length-encoded (filled_text text),
      length-append text (replicate (8 - length text) 0x20),
    )

-- ten octets at most
data_few : (done : Job) → is_sent_well done ≡ true → length (data_of_job done) ≤ 10
data_few (job.ListOf kind) well = omega arith
data_few (job.Info kind number) well = omega arith
data_few (job.Szl id index) well = omega arith
data_few (job.ClockSet moment) well = omega (arith, clock_long moment)
data_few job.Status well = omega arith
data_few (job.PasswordSet text) well = omega (arith, password_long text well)
data_few _ well = omega arith

-- ---- the message of a question

-- it has a header, and is no longer than any message may be
abbrev pub IsSent : List ℕ → Type 0
IsSent message = (10 ≤ length message) × (length message ≤ most_pdu)

job_small : (sequence : ℕ) (params : List ℕ) → length params ≤ 32 → IsSent (message_octets job_kind sequence params [])
job_small sequence params few =
    let long = length-append params [] in (omega (arith, long), omega (arith, few, long))

few_either : (b : Bool) (xs ys : List ℕ) → length xs ≤ 12 → length ys ≤ 12 → length (cond b xs ys) ≤ 12
few_either true xs ys few others = few
few_either false xs ys few others = others

params_few : (params : UserParams) → length (user_spelling params) ≤ 12
params_few params = few_either params.answer _ _ (omega arith) (omega arith)

body_few : (octets : List ℕ) → length octets ≤ 10 → length (data_of octets) ≤ 14
body_few [] few = omega arith
body_few (octet ∷ octets) few = omega (arith, few)

user_small : (sequence : ℕ) (params : UserParams) (octets : List ℕ) → length octets ≤ 10
    → IsSent (message_octets User sequence (user_spelling params) (data_of octets))
user_small sequence params octets few =
    let long = length-append (user_spelling params) (data_of octets) in
    (omega (arith, long), omega (arith, long, params_few params, body_few octets few))

control_small : (sequence : ℕ) (c : Control) → IsSent (message_octets job_kind sequence (control_spelling c) [])
control_small sequence control.Start = job_small sequence (control_spelling control.Start) (omega arith)
control_small sequence control.ColdStart = job_small sequence (control_spelling control.ColdStart) (omega arith)
control_small sequence control.Stop = job_small sequence (control_spelling control.Stop) (omega arith)
control_small sequence control.Compress = job_small sequence (control_spelling control.Compress) (omega arith)
control_small sequence control.CopyRam = job_small sequence (control_spelling control.CopyRam) (omega arith)
control_small sequence (control.Insert kind number) =
    job_small sequence (control_spelling (control.Insert kind number)) (omega arith)
control_small sequence (control.Delete kind number) =
    job_small sequence (control_spelling (control.Delete kind number)) (omega arith)

part_sent : (value : Option ℕ) (number from count sequence : ℕ) → (is_some value ≡ true → count ≤ 1885)
    → IsSent (question_octets sequence (question_for value (data_item number from count)))
part_sent None number from count sequence few =
    let items : List Item = data_item number from count ∷ [] in
    let long = length-append (items_params 0x04 items) [] in
    let sized = reads_sized 0x04 items in
    (omega (arith, long), omega (arith, long, sized))
part_sent (Some value) number from count sequence few =
    let items : List Item = data_item number from count ∷ [] in
    let octets : List ℕ = replicate count value in
    let all : length octets ≡ octet_count_of items =
    length-replicate count value ∙ omega (arith, byte_octets number from count) in
    let long = length-append (items_params 0x05 items) (data_octets (written items octets)) in
    let sized = writes_sized 0x05 items (written items octets) (written_sent items octets all) in
    let size = write_sized number from count in
    (omega (arith, long), omega (arith, long, sized, size, few refl))

few_filled : (value : Option ℕ) (block : DataBlock) (place : Place) → has_pdu block ≡ true → block.value ≡ value
    → is_some value ≡ true → part_count block place ≤ 1885
few_filled None block place has is some = absurd (cc)
few_filled (Some value) block place has is some = few_written block place value has is

-- a piece of an image
piece_sent : (image : List ℕ) (room from call sequence : ℕ) → room ≤ 1902
    → IsSent (question_octets sequence (gives image room from call))
piece_sent image room from call sequence few =
    let short = length-take room (drop from image) in (omega arith, omega (arith, few, short))

-- what is known of the image that a job gives
given : (done : Job) (pieces : Pieces) (found : Bool) → (has_image done pieces && found) ≡ true
    → IsGiven (image_of done) pieces
given done pieces found can = image_given done pieces (and_parts (has_image done pieces) found can).0

pub announce_given : (done : Job) (found : ℕ) (asked : Ask) (pieces : Pieces) → asked ≡ ask.Announce pieces
    → can_ask_single done found asked ≡ true → IsGiven (image_of done) pieces
announce_given done found asked pieces is can =
    given done pieces (found == 0) (ap (can_ask_single done found) (sym is) ∙ can)

pub insert_given : (done : Job) (found : ℕ) (asked : Ask) (pieces : Pieces) (call : ℕ) → asked ≡ ask.Insert pieces call
    → can_ask_single done found asked ≡ true → IsGiven (image_of done) pieces
insert_given done found asked pieces call is can =
    given done pieces (found == 0) (ap (can_ask_single done found) (sym is) ∙ can)

pub question_sent : (done : Job) (found sequence : ℕ) (asked : Ask) (so_far : List ℕ)
    → can_ask_single done found asked ≡ true
    → IsSent (question_octets sequence (question_of_single done asked so_far))
question_sent done found sequence (ask.Control c) so_far can = control_small sequence c
question_sent done found sequence (ask.About subject) so_far can =
    user_small sequence (request_params subject) (data_of_job done)
    (data_few done (and_parts (is_sent_well done) (found == most_joined) can).0)
question_sent done found sequence (ask.Further subject octet) so_far can =
    user_small sequence (further_params subject octet) [] (omega arith)
question_sent done found sequence ask.Upload so_far can =
    job_small sequence (start_params (block_of done)) (omega arith)
question_sent done found sequence (ask.Slice id size) so_far can =
    job_small sequence (id_params slice_function id) (omega arith)
question_sent done found sequence (ask.UploadEnd id) so_far can =
    job_small sequence (id_params end_function id) (omega arith)
question_sent done found sequence (ask.Announce pieces) so_far can =
    job_small sequence (announce_params (image_of done)) (omega arith)
question_sent done found sequence (ask.AwaitCall pieces) so_far can = job_small sequence [] (omega arith)
question_sent done found sequence (ask.Give pieces from call) so_far can =
    let writable = (and_parts (has_image done pieces && ltb from pieces.len) (found == 0) can).0 in
    piece_sent (image_of done) pieces.room from call sequence (given done pieces (ltb from pieces.len) writable).few
question_sent done found sequence (ask.Insert pieces call) so_far can =
    control_small sequence (control.Insert (name_in (image_of done)).kind (name_in (image_of done)).number)
question_sent done found sequence (ask.Head block) so_far can =
    user_small sequence (request_params DataHead) (block_octets 0x41 block.number) (omega arith)
question_sent done found sequence (ask.HeadFurther block octet) so_far can =
    user_small sequence (further_params DataHead octet) [] (omega arith)
question_sent done found sequence (ask.Part block place) so_far can =
    let writable =
    (and_parts (has_pdu block && is_inside place) (found == room_for_value block.value) can).0 in
    let has = (and_parts (has_pdu block) (is_inside place) writable).0 in
    part_sent block.value block.number place.from (part_count block place) sequence
    (few_filled block.value block place has refl)

-- ---- what isn't put yet

pub sent_few : (size : ℕ) (messages : List (List ℕ)) → 128 ≤ size → AllByRecursion IsSent messages
    → length (sent_messages size messages) ≤ 2032 * length messages
sent_few size [] least sent = omega arith
sent_few size (message ∷ messages) least sent =
    let one : length (sent_message size message) ≤ 2032 =
    length-sent message size (omega (arith, sent.0.1)) least in
    omega (
      arith,
      length-append (sent_message size message) (sent_messages size messages),
      one,
      sent_few size messages least sent.1,
    )

all_dropped : {A : Type 0} (P : A → Type 0) (n : ℕ) (xs : List A) → AllByRecursion P xs → AllByRecursion P (drop n xs)
all_dropped P zero xs all = all
all_dropped P (suc n) [] all = tt
all_dropped P (suc n) (x ∷ xs) all = all_dropped P n xs all.1

pub single_few : (config : Config) (size : ℕ) (done : Job) (found : ℕ) (s : Single) → 128 ≤ size
    → can_ask_single done found s.ask ≡ true
    → length (unput_by config size done (stage.Single s)) ≤ 16256
single_few config size done found s least can =
    let number = unwrap_or s.out 0 in
    let k = message_count s.ask - s.unput in
    let sent =
    all_dropped IsSent k (single_messages done s)
    (each_message IsSent (question_of_single done s.ask []) number (λ call. (omega arith, omega arith))
    (question_sent done found number s.ask [] can)) in
    omega (
      arith,
      sent_few size (drop k (single_messages done s)) least sent,
      length-drop k (single_messages done s),
      count_asked done s.ask [] number,
      few_messages s.ask,
    )

-- nothing, where all was put or the question didn't go out
pub none_unput : (size : ℕ) (done : Job) (asked : Ask) (sequence n : ℕ) → n ≡ 0
    → sent_messages size (drop (message_count asked - n) (messages_of sequence (question_of_single done asked []))) ≡ []
none_unput size done asked sequence n none =
    ap (sent_messages size)
    (drop_all (message_count asked - n) (messages_of sequence (question_of_single done asked []))
    (omega (arith, none, count_asked done asked [] sequence)))

none_out : (n : ℕ) (out : Option ℕ) → (0 < n → IsSome out) → out ≡ None → n ≡ 0
none_out zero out put none = refl
none_out (suc n) out put none = absurd (let e : false ≡ true = sym (ap is_some none) ∙ put (omega arith) in cc)

pub unasked_unput : (config : Config) (size : ℕ) (done : Job) (s : Single) → s.out ≡ None
    → unput_by config size done (stage.Single s) ≡ []
unasked_unput config size done s none =
    none_unput size done s.ask (unwrap_or s.out 0) s.unput (none_out s.unput s.out s.put none)

-- two go out for an insertion alone
pub one_unput : (asked : Ask) (n : ℕ) → n ≤ message_count asked
    → ((pieces : Pieces) (call : ℕ) → asked ≡ ask.Insert pieces call → ⊥) → n < 2
one_unput (ask.Insert pieces call) n most other = absurd (other pieces call refl)
one_unput (ask.AwaitCall pieces) n most other = omega (arith, most)
one_unput (ask.Control control) n most other = omega (arith, most)
one_unput (ask.About subject) n most other = omega (arith, most)
one_unput (ask.Further subject octet) n most other = omega (arith, most)
one_unput ask.Upload n most other = omega (arith, most)
one_unput (ask.Slice id size) n most other = omega (arith, most)
one_unput (ask.UploadEnd id) n most other = omega (arith, most)
one_unput (ask.Announce pieces) n most other = omega (arith, most)
one_unput (ask.Give pieces from call) n most other = omega (arith, most)
one_unput (ask.Head block) n most other = omega (arith, most)
one_unput (ask.HeadFurther block octet) n most other = omega (arith, most)
one_unput (ask.Part block place) n most other = omega (arith, most)

-- the last message that isn't put yet
pub put_last : (size : ℕ) (done : Job) (asked : Ask) (sequence n : ℕ) (message : List ℕ) → 0 < n → n < 2
    → n ≤ message_count asked → message ≡ question_octets sequence (question_of_single done asked [])
    → sent_messages size
    (drop (message_count asked - n) (messages_of sequence (question_of_single done asked [])))
    ≡ sent_message size message
    ++ sent_messages size
    (drop (message_count asked - (n - 1)) (messages_of sequence (question_of_single done asked [])))
put_last size done asked sequence n message some one most is =
    let messages = messages_of sequence (question_of_single done asked []) in
    let at : message_count asked - n ≡ message_count asked - 1 = omega (arith, some, one) in
    let none : drop (message_count asked - (n - 1)) messages ≡ [] =
    drop_all (message_count asked - (n - 1)) messages (omega (arith, some, one, count_asked done asked [] sequence)) in
    ap (λ k. sent_messages size (drop k messages)) at
    ∙ (ap (sent_messages size) (last_message done asked [] sequence (omega (arith, some, most)))
    ∙ (ap (λ m. sent_message size m ++ []) (sym is)
    ∙ ap (λ ms. sent_message size message ++ sent_messages size ms) (sym none)))
