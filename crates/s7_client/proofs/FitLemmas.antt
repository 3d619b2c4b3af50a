-- Laws of what is sent: no message is longer than the PDU, and no more are unanswered than may be.
use Rattle.std.proofs.Common.{◌≡◌, ◌⊎◌, inl, inr, ℕ, zero, suc, ◌+◌, ◌-◌, ◌*◌, ◌≤◌, Bool, true, false, cond, eqb, leb, ltb, Option, Some, None, List, [], ◌∷◌, ◌++◌, map, length, take, drop, refl, ap, subst, arith}
use Rattle.std.specs.Prelude.{◌&&◌, max, bit_xor, replicate, slice_get}
use Rattle.std.specs.List.{AllByRecursion}
use Rattle.std.proofs.lemmas.Bool.{and_parts, eqb-true, leb-true}
use Rattle.std.proofs.lemmas.List.{length-append, length-drop, length-replicate, length-take, length-take-le}
use Rattle.s7_header.specs.declared.header.Kind.{Kind}
use Rattle.s7_header.specs.declared.header.Kind.TheVariants as kind
use Rattle.s7_header.specs.Header.{has_error}
use Rattle.s7_header.specs.UserParams.{user_spelling}
use Rattle.s7_item.specs.declared.item.Item.{Item}
use Rattle.s7_item.specs.Item.{octet_count}
use Rattle.s7_item.specs.Params.{items_params}
use Rattle.s7_item.specs.DataItem.{data_octets}
use Rattle.s7_item.specs.Sizes.{request_size}
use Rattle.s7_item.proofs.SizeLaws.{reads_sized, writes_sized}
use Rattle.s7_split.specs.Fits.{fits, answer_length}
use Rattle.s7_split.specs.Parts.{parts_of, CanBeAsked, CanBeSplit}
use Rattle.s7_split.specs.Groups.{groups_of, IsGroup, AreGroups}
use Rattle.s7_split.proofs.PartLaws.{parts_asked}
use Rattle.s7_block.specs.declared.block.BlockName.{BlockName}
use Rattle.s7_block.specs.Telegrams.{slice_function, end_function}
use Rattle.s7_clock.specs.declared.control.Control.{Control}
use Rattle.s7_clock.specs.declared.control.Control.TheVariants as control
use Rattle.s7_clock.specs.Control.{control_spelling}
use Rattle.s7_clock.specs.Moment.{moment_octets}
use Rattle.s7_dialogue.specs.declared.config.Config.{Config}
use Rattle.s7_dialogue.specs.declared.grant.Grant.{Grant}
use Rattle.s7_dialogue.specs.declared.grant.Leaves.TheVariants.{AsItWas}
use Rattle.s7_dialogue.specs.declared.job.Job.{Job}
use Rattle.s7_dialogue.specs.declared.job.Job.TheVariants as job
use Rattle.s7_dialogue.specs.declared.questions.subject.Subject.{Subject}
use Rattle.s7_dialogue.specs.declared.questions.subject.Subject.TheVariants.{StatusList, RunState, BlockCounts, BlocksOfKind, BlockHead, DataHead, Clock, ClockSetting, Password, PasswordClearing}
use Rattle.s7_dialogue.specs.UserData.{request_params, further_params, no_data, data_of, filled_text, encoded_after, encoded}
use Rattle.s7_dialogue.specs.DataBlocks.{data_length, data_parts}
use Rattle.s7_dialogue.specs.Uploads.{start_params, id_params}
use Rattle.s7_dialogue.specs.Question.{Question, reads, writes, controls, asks, asks_further, written, message_octets, question_octets}
use Rattle.s7_dialogue.specs.Question.{starts_upload, slices_upload, ends_upload}
use Rattle.s7_dialogue.specs.Question.{announces, awaits_call, gives, inserts, messages_of}
use Rattle.s7_block.specs.Slices.{image_room}
use Rattle.s7_dialogue.specs.Answer.{Answer, calls}
use Rattle.s7_dialogue.specs.Checks.{octet_count_of, check_item, check_items, check_moment, check_password, check_image}
use Rattle.s7_dialogue.specs.Stages.{joined}
use Rattle.s7_dialogue.specs.Flight.{Row, open_count}
use Rattle.s7_dialogue.specs.Dialogue.{Conduct, Plan, over, End, number_end, read_questions, write_questions, alone, controlling, octets_brought, count_of_data, behind, or_later, next_of_data, last_answer, asking_about, list_octets, kind_octets, block_octets, if_good, connected_plan, plan_of}
use Rattle.s7_dialogue.specs.Dialogue.{behind_call, behind_server, next_given}
use Rattle.s7_dialogue.specs.Course.{Origin, conduct_of, course}
use Rattle.s7_dialogue.proofs.CheckLemmas.{item_checked, items_checked, can_split}
use Rattle.s7_dialogue.proofs.MessageLemmas.{written_sent}
use Rattle.s7_dialogue.proofs.MessagesAskedLemmas.{each_message}
use Rattle.s7_dialogue.proofs.GroupLemmas.{octet_count_append, joined_alone, groups_right, parts_together}
use Rattle.s7_dialogue.proofs.FlightLemmas.{same_some, open_append, ComesNext, filled_open}
use Rattle.s7_dialogue.proofs.RowLemmas.{RowsKept, course_rows}
use Rattle.s7_dialogue.proofs.BringLemmas.{asks_behind}
use Rattle.s7_dialogue.proofs.UploadLemmas.{IsOf, IsUnderWay, upload_asks}
use Rattle.s7_client.proofs.DataFitLemmas.{data_fit, data_few}

-- ---- general lemmas

-- general: what holds of each element holds of the one at a place
pub one_of_all : {A : Type 0} (P : A → Type 0) (xs : List A) (k : ℕ) (x : A) → AllByRecursion P xs
    → slice_get xs k ≡ Some x → P x
one_of_all P [] k x each at = absurd (cc)
one_of_all P (y ∷ xs) zero x each at = subst P (same_some y x at) each.0
one_of_all P (y ∷ xs) (suc k) x each at = one_of_all P xs k x each.1 at

-- general: what follows of one element follows of each
all_so : {A : Type 0} (P Q : A → Type 0) (xs : List A) → ((x : A) → P x → Q x) → AllByRecursion P xs
    → AllByRecursion Q xs
all_so P Q [] so each = tt
all_so P Q (x ∷ xs) so each = (so x each.0, all_so P Q xs so each.1)

-- general: the same of what is made of each element
all_mapped : {A B : Type 0} (P : A → Type 0) (Q : B → Type 0) (f : A → B) (xs : List A) → ((x : A) → P x → Q (f x))
    → AllByRecursion P xs
    → AllByRecursion Q (map f xs)
all_mapped P Q f [] so each = tt
all_mapped P Q f (x ∷ xs) so each = (so x each.0, all_mapped P Q f xs so each.1)

-- ---- one message

-- the message of a question isn't longer than the PDU
abbrev IsShort : ℕ → Question → Type 0
IsShort pdu question = (sequence : ℕ) → length (question_octets sequence question) ≤ pdu

-- the request for a group fits the PDU
abbrev Fits : ℕ → Bool → List Item → Type 0
Fits pdu write group = fits pdu write group ≡ true

message_long : (kind : Kind) (sequence : ℕ) (params body : List ℕ) → has_error kind ≡ false
    → length (message_octets kind sequence params body) ≡ 10 + length params + length body
message_long kind.Job sequence params body bare = omega (arith, length-append params body)
message_long kind.User sequence params body bare = omega (arith, length-append params body)
message_long _ sequence params body bare = absurd (cc)

request_short : (pdu : ℕ) (write : Bool) (group : List Item) → Fits pdu write group → request_size group write ≤ pdu
unfolding fits
request_short pdu write group fit =
    leb-true (request_size group write) pdu
    (and_parts (leb (request_size group write) pdu) (leb (answer_length group write) pdu) fit).0

read_short : (pdu : ℕ) (group : List Item) → Fits pdu false group → IsShort pdu (reads group)
read_short pdu group fit = λ sequence.
    omega (
      arith,
      message_long kind.Job sequence (items_params 0x04 group) [] refl,
      reads_sized 0x04 group,
      request_short pdu false group fit,
    )

write_short : (pdu : ℕ) (group : List Item) (octets : List ℕ) → Fits pdu true group
    → length octets ≡ octet_count_of group → IsShort pdu (writes group octets)
write_short pdu group octets fit all = λ sequence.
    omega (
      arith,
      message_long kind.Job sequence (items_params 0x05 group) (data_octets (written group octets)) refl,
      writes_sized 0x05 group (written group octets) (written_sent group octets all),
      request_short pdu true group fit,
    )

control_short : (pdu : ℕ) (control : Control) → 64 ≤ pdu → length (control_spelling control) ≤ 54
    → IsShort pdu (controls control)
control_short pdu control least few = λ sequence.
    omega (arith, least, few, message_long kind.Job sequence (control_spelling control) [] refl)

data_short : (octets : List ℕ) → length (data_of octets) ≤ 4 + length octets
data_short [] = omega arith
data_short (octet ∷ octets) = omega arith

asks_short : (pdu : ℕ) (subject : Subject) (octets : List ℕ) → 64 ≤ pdu → length octets ≤ 42
    → IsShort pdu (asks subject octets)
asks_short pdu subject octets least few = λ sequence.
    omega (
      arith,
      least,
      few,
      data_short octets,
      message_long kind.User sequence (user_spelling (request_params subject)) (data_of octets) refl,
    )

further_short : (pdu : ℕ) (subject : Subject) (octet : ℕ) (so_far : List ℕ) → 64 ≤ pdu
    → IsShort pdu (asks_further subject octet so_far)
further_short pdu subject octet so_far least = λ sequence.
    omega (arith, least, message_long kind.User sequence (user_spelling (further_params subject octet)) no_data refl)

-- a slice of an upload, or its end
slice_short : (pdu id size : ℕ) (question : Question) → 64 ≤ pdu → IsOf id size question → IsShort pdu question
slice_short pdu id size (slices_upload other others so_far) least of = λ sequence.
    omega (arith, least, message_long kind.Job sequence (id_params slice_function other) [] refl)
slice_short pdu id size (ends_upload other) least of = λ sequence.
    omega (arith, least, message_long kind.Job sequence (id_params end_function other) [] refl)
slice_short pdu id size _ least of = absurd of

-- or its start
upload_short : (pdu : ℕ) (name : BlockName) (answers : List (Option Answer)) (question : Question) → 64 ≤ pdu
    → ((answers ≡ []) × (starts_upload name ≡ question)) ⊎ IsUnderWay answers question → IsShort pdu question
upload_short pdu name answers question least (inl first) =
    subst (IsShort pdu) first.1
    (λ sequence. omega (arith, least, message_long kind.Job sequence (start_params name) [] refl))
upload_short pdu name answers question least (inr under) = slice_short pdu under.id under.size question least under.of

-- ---- downloads

-- what goes out behind the server's job: a piece, as much of the image as the PDU has room for, or the insertion
behind_short : (pdu : ℕ) (image : List ℕ) (from call : ℕ) (more : Bool) → 64 ≤ pdu
    → IsShort pdu (cond more (gives image (image_room pdu) from call) (inserts image call))
behind_short pdu image from call true least = λ sequence.
    omega (arith, least, length-take (image_room pdu) (drop from image))
behind_short pdu image from call false least = λ sequence. omega (arith, least)

server_short : (pdu : ℕ) (image : List ℕ) (from : ℕ) (last : Option Answer) (question : Question) → 64 ≤ pdu
    → behind_server image (image_room pdu) from last ≡ Some question → IsShort pdu question
server_short pdu image from (Some (calls call)) question least is =
    subst (IsShort pdu) (same_some (behind_call image (image_room pdu) from call) question is)
    (behind_short pdu image from call (ltb from (length image)) least)
server_short pdu image from (Some _) question least is = absurd (cc)
server_short pdu image from None question least is = absurd (cc)

download_short : (pdu : ℕ) (image : List ℕ) (answers : List (Option Answer)) (question : Question) → 64 ≤ pdu
    → next_given image (image_room pdu) answers ≡ Some question → IsShort pdu question
download_short pdu image [] question least is =
    subst (IsShort pdu) (same_some (announces image) question is) (λ sequence. omega (arith, least))
download_short pdu image (answer ∷ []) question least is =
    subst (IsShort pdu) (same_some (awaits_call image) question is) (λ sequence. omega (arith, least))
download_short pdu image (answer ∷ next ∷ answers) question least is =
    server_short pdu image (image_room pdu * length answers) (last_answer next answers) question least is

-- ---- the messages of all questions

reads_short : (pdu : ℕ) (groups : List (List Item)) → AllByRecursion (Fits pdu false) groups
    → AllByRecursion (IsShort pdu) (read_questions groups)
reads_short pdu groups each = all_mapped (Fits pdu false) (IsShort pdu) reads groups (read_short pdu) each

-- each group has as many of the octets as its items
writes_short : (pdu : ℕ) (groups : List (List Item)) (octets : List ℕ) → AllByRecursion (Fits pdu true) groups
    → octet_count_of (joined groups) ≤ length octets
    → AllByRecursion (IsShort pdu) (write_questions groups octets)
writes_short pdu [] octets each all = tt
writes_short pdu (group ∷ groups) octets each all =
    let n : ℕ = octet_count_of group in
    let both : octet_count_of (group ++ joined groups) ≡ n + octet_count_of (joined groups) =
    octet_count_append group (joined groups) in (
      write_short pdu group (take n octets) each.0 (length-take-le n octets (omega (arith, both, all))),
      writes_short pdu groups (drop n octets) each.1 (omega (arith, both, all, length-drop n octets)),
    )

parts_fit : (item : Item) (pdu : ℕ) (write : Bool) → CanBeSplit item → 64 ≤ pdu
    → AllByRecursion (Fits pdu write) (alone (parts_of item pdu write))
parts_fit item pdu write split least =
    all_mapped (CanBeAsked pdu write) (Fits pdu write) (λ part. part ∷ []) (parts_of item pdu write) (λ part h. h.fits)
    (parts_asked item pdu write split least)

groups_fit : (pdu : ℕ) (write : Bool) (items : List Item) → AreGroups pdu write items (groups_of pdu write items)
    → AllByRecursion (Fits pdu write) (groups_of pdu write items)
groups_fit pdu write items right =
    all_so (IsGroup pdu write) (Fits pdu write) (groups_of pdu write items) (λ group h. h.fits) right.each

-- ---- the question that is asked

listed_short : (pdu : ℕ) (questions : List Question) (answers : List (Option Answer)) (question : Question)
    → AllByRecursion (IsShort pdu) questions → slice_get questions (length answers) ≡ Some question
    → IsShort pdu question
listed_short pdu questions answers question each is =
    one_of_all (IsShort pdu) questions (length answers) question each is

good_by : (check : ℕ) (plan : Plan) (answers : List (Option Answer)) (question : Question) (b : Bool) → eqb check 0 ≡ b
    → (cond b plan (over (number_end check AsItWas))).conduct.question_at answers ≡ Some question
    → (check ≡ 0) × (plan.conduct.question_at answers ≡ Some question)
good_by check plan answers question true good is = (eqb-true check 0 good, is)
good_by check plan answers question false good is = absurd (cc)

-- what is asked was checked
pub good_sent : (check : ℕ) (plan : Plan) (answers : List (Option Answer)) (question : Question)
    → (if_good check plan).conduct.question_at answers ≡ Some question
    → (check ≡ 0) × (plan.conduct.question_at answers ≡ Some question)
good_sent check plan answers question is = good_by check plan answers question (eqb check 0) refl is

-- the one call of a control
control_sent : (pdu : ℕ) (control : Control) (answers : List (Option Answer)) (question : Question) → 64 ≤ pdu
    → length (control_spelling control) ≤ 54
    → (controlling control).question_at answers ≡ Some question → IsShort pdu question
control_sent pdu control answers question least few is =
    listed_short pdu (controls control ∷ []) answers question (control_short pdu control least few, tt) is

-- user data with few octets, and what is asked behind its answers
piece_short : (pdu : ℕ) (subject : Subject) (octets : List ℕ) (answers : List (Option Answer)) (question : Question)
    → 64 ≤ pdu → length octets ≤ 42
    → (asking_about subject octets).question_at answers ≡ Some question → IsShort pdu question
piece_short pdu subject octets [] question least few is =
    subst (IsShort pdu) (same_some (asks subject octets) question is) (asks_short pdu subject octets least few)
piece_short pdu subject octets (first ∷ answers) question least few is =
    let so_far : List ℕ = octets_brought (first ∷ answers) in
    let next = asks_behind subject so_far (last_answer first answers) question is in
    subst (IsShort pdu) next.1 (further_short pdu subject next.0 so_far least)

-- ---- whole data blocks

later_is : (first later : Option Question) (question : Question) → or_later first later ≡ Some question
    → (first ≡ Some question) ⊎ (later ≡ Some question)
later_is None later question is = inr is
later_is (Some one) later question is = inl is

-- the head, and then these questions
data_short_by : (pdu : ℕ) (octets : List ℕ) (questions : ℕ → List Question) (answers : List (Option Answer))
    (question : Question) → 64 ≤ pdu → length octets ≤ 42
    → ((size : ℕ) → AllByRecursion (IsShort pdu) (questions size))
    → next_of_data octets questions answers ≡ Some question → IsShort pdu question
data_short_by pdu octets questions [] question least few each is =
    subst (IsShort pdu) (same_some (asks DataHead octets) question is) (asks_short pdu DataHead octets least few)
data_short_by pdu octets questions (first ∷ answers) question least few each is =
    let so_far : List ℕ = octets_brought (first ∷ answers) in
    let count : ℕ = count_of_data (first ∷ answers) in
    by_either
    (later_is (behind DataHead so_far (last_answer first answers))
    (slice_get (questions (data_length so_far)) count) question is)
  where
    by_either : (behind DataHead (octets_brought (first ∷ answers)) (last_answer first answers) ≡ Some question)
        ⊎ (slice_get (questions (data_length (octets_brought (first ∷ answers)))) (count_of_data (first ∷ answers))
        ≡ Some question)
        → IsShort pdu question
    by_either (inl head) =
        let so_far : List ℕ = octets_brought (first ∷ answers) in
        let next = asks_behind DataHead so_far (last_answer first answers) question head in
        subst (IsShort pdu) next.1 (further_short pdu DataHead next.0 so_far least)
    by_either (inr part) =
        let so_far : List ℕ = octets_brought (first ∷ answers) in
        one_of_all (IsShort pdu) (questions (data_length so_far)) (count_of_data (first ∷ answers)) question
        (each (data_length so_far)) part

data_read : (pdu number size : ℕ) → 64 ≤ pdu
    → AllByRecursion (IsShort pdu) (read_questions (alone (data_parts number size pdu false)))
data_read pdu number size least =
    reads_short pdu (alone (data_parts number size pdu false)) (data_fit number size pdu false least)

data_written : (pdu number size value : ℕ) → 64 ≤ pdu
    → AllByRecursion (IsShort pdu)
    (write_questions (alone (data_parts number size pdu true)) (replicate size value))
data_written pdu number size value least =
    let parts : List Item = data_parts number size pdu true in
    let whole = ap octet_count_of (joined_alone parts) in
    let long : length (replicate {A = ℕ} size value) ≡ size = length-replicate size value in
    writes_short pdu (alone parts) (replicate size value) (data_fit number size pdu true least)
    (omega (arith, whole, long, data_few number size pdu true))

-- ---- the octets of user data

length-clock : (moment : ℕ) → length (moment_octets moment) ≡ 10
unfolding moment_octets
length-clock moment = refl

length-encoded_after : (second first : ℕ) (text : List ℕ) → length (encoded_after second first text) ≡ length text
length-encoded_after second first [] = refl
length-encoded_after second first (octet ∷ text) =
    ap suc (length-encoded_after first (bit_xor (bit_xor octet 0x55) second) text)

good_text : (b : Bool) → ◌≡◌ {A = ℕ} (cond b 0 2097152) 0 → b ≡ true
good_text true good = refl
good_text false good = absurd (omega (arith, good))

length-password : (text : List ℕ) → check_password text ≡ 0 → length (encoded (filled_text text)) ≡ 8
unfolding encoded
length-password text good =
    let some : Bool = ltb 0 (length text) in
    let few : Bool = leb (length text) 8 in
    let blanks : ℕ = 8 - length text in
    omega (
      arith,
      leb-true (length text) 8 (and_parts some few (good_text (some && few) good)).1,
      length-encoded_after 0 0 (filled_text text),
      length-append text (replicate blanks 0x20),
      length-replicate {A = ℕ} blanks 0x20,
    )

-- ---- each job

-- the parts of an item are written with the item's octets
item_written : (item : Item) (octets : List ℕ) (pdu : ℕ) → 64 ≤ pdu
    → check_item item (eqb (length octets) (octet_count item)) ≡ 0
    → AllByRecursion (IsShort pdu) (write_questions (alone (parts_of item pdu true)) octets)
item_written item octets pdu least good =
    let told = item_checked item (eqb (length octets) (octet_count item)) good in
    let split : CanBeSplit item = can_split item told.0 told.1 in
    let long = eqb-true (length octets) (octet_count item) told.2 in
    writes_short pdu (alone (parts_of item pdu true)) octets (parts_fit item pdu true split least)
    (omega (arith, long, parts_together item pdu true split least))

item_read : (item : Item) (pdu : ℕ) → 64 ≤ pdu → check_item item true ≡ 0
    → AllByRecursion (IsShort pdu) (read_questions (alone (parts_of item pdu false)))
item_read item pdu least good =
    let told = item_checked item true good in
    reads_short pdu (alone (parts_of item pdu false))
    (parts_fit item pdu false (can_split item told.0 told.1) least)

items_read : (items : List Item) (pdu : ℕ) → check_items items true pdu false ≡ 0
    → AllByRecursion (IsShort pdu) (read_questions (groups_of pdu false items))
items_read items pdu good =
    let told = items_checked items true pdu false good in
    let right : AreGroups pdu false items (groups_of pdu false items) = groups_right pdu false items told.4 in
    reads_short pdu (groups_of pdu false items) (groups_fit pdu false items right)

-- the groups of items are written with the octets of all of them
items_written : (items : List Item) (octets : List ℕ) (pdu : ℕ)
    → check_items items (eqb (length octets) (octet_count_of items)) pdu true ≡ 0
    → AllByRecursion (IsShort pdu) (write_questions (groups_of pdu true items) octets)
items_written items octets pdu good =
    let told = items_checked items (eqb (length octets) (octet_count_of items)) pdu true good in
    let right : AreGroups pdu true items (groups_of pdu true items) = groups_right pdu true items told.4 in
    let long = eqb-true (length octets) (octet_count_of items) told.3 in
    let whole = ap octet_count_of right.whole in
    writes_short pdu (groups_of pdu true items) octets (groups_fit pdu true items right) (omega (arith, long, whole))

-- no question's own message of a connected client is longer than the PDU that was granted
pub sent_short : (asked : Job) (config : Config) (granted : Grant) (answers : List (Option Answer))
    (question : Question) → 64 ≤ granted.pdu
    → (plan_of asked config (Some granted)).conduct.question_at answers ≡ Some question
    → IsShort granted.pdu question
sent_short job.Connect config granted answers question least is = absurd (cc)
sent_short (job.ReadArea item) config granted answers question least is =
    let sent = good_sent (check_item item true) _ answers question is in
    listed_short granted.pdu (read_questions (alone (parts_of item granted.pdu false))) answers question
    (item_read item granted.pdu least sent.0) sent.1
sent_short (job.WriteArea item octets) config granted answers question least is =
    let sent = good_sent (check_item item (eqb (length octets) (octet_count item))) _ answers question is in
    listed_short granted.pdu (write_questions (alone (parts_of item granted.pdu true)) octets) answers question
    (item_written item octets granted.pdu least sent.0) sent.1
sent_short (job.ReadMany items) config granted answers question least is =
    let sent = good_sent (check_items items true granted.pdu false) _ answers question is in
    listed_short granted.pdu (read_questions (groups_of granted.pdu false items)) answers question
    (items_read items granted.pdu sent.0) sent.1
sent_short (job.WriteMany items octets) config granted answers question least is =
    let good : ℕ = check_items items (eqb (length octets) (octet_count_of items)) granted.pdu true in
    let sent = good_sent good _ answers question is in
    listed_short granted.pdu (write_questions (groups_of granted.pdu true items) octets) answers question
    (items_written items octets granted.pdu sent.0) sent.1
sent_short job.List config granted answers question least is =
    piece_short granted.pdu BlockCounts [] answers question least (omega arith) is
sent_short (job.ListOf kind) config granted answers question least is =
    piece_short granted.pdu BlocksOfKind (kind_octets kind) answers question least (omega arith) is
sent_short (job.Info kind number) config granted answers question least is =
    piece_short granted.pdu BlockHead (block_octets kind number) answers question least (omega arith) is
sent_short (job.Upload kind number) config granted answers question least is =
    let name : BlockName = record { kind = kind; number = number } in
    upload_short granted.pdu name answers question least (upload_asks name answers question is)
sent_short (job.Download image) config granted answers question least is =
    let sent = good_sent (check_image image) _ answers question is in
    download_short granted.pdu image answers question least sent.1
sent_short (job.Delete kind number) config granted answers question least is =
    control_sent granted.pdu (control.Delete kind number) answers question least (omega arith) is
sent_short (job.DbGet number) config granted answers question least is =
    data_short_by granted.pdu (block_octets 0x41 number)
    (λ size. read_questions (alone (data_parts number size granted.pdu false))) answers question least (omega arith)
    (λ size. data_read granted.pdu number size least) is
sent_short (job.DbFill number value) config granted answers question least is =
    data_short_by granted.pdu (block_octets 0x41 number)
    (λ size. write_questions (alone (data_parts number size granted.pdu true)) (replicate size value)) answers question
    least (omega arith) (λ size. data_written granted.pdu number size value least) is
sent_short (job.Szl id index) config granted answers question least is =
    piece_short granted.pdu StatusList (list_octets id index) answers question least (omega arith) is
sent_short job.ClockRead config granted answers question least is =
    piece_short granted.pdu Clock [] answers question least (omega arith) is
sent_short (job.ClockSet moment) config granted answers question least is =
    let sent = good_sent (check_moment moment) _ answers question is in
    piece_short granted.pdu ClockSetting (moment_octets moment) answers question least (omega (arith, length-clock moment))
    sent.1
sent_short job.Start config granted answers question least is =
    control_sent granted.pdu control.Start answers question least (omega arith) is
sent_short job.ColdStart config granted answers question least is =
    control_sent granted.pdu control.ColdStart answers question least (omega arith) is
sent_short job.Stop config granted answers question least is =
    control_sent granted.pdu control.Stop answers question least (omega arith) is
sent_short job.Compress config granted answers question least is =
    control_sent granted.pdu control.Compress answers question least (omega arith) is
sent_short job.CopyRam config granted answers question least is =
    control_sent granted.pdu control.CopyRam answers question least (omega arith) is
sent_short job.Status config granted answers question least is =
    piece_short granted.pdu RunState (list_octets 0x0424 0) answers question least (omega arith) is
sent_short (job.PasswordSet text) config granted answers question least is =
    let sent = good_sent (check_password text) _ answers question is in
    piece_short granted.pdu Password (encoded (filled_text text)) answers question least
    (omega (arith, length-password text sent.0)) sent.1
sent_short job.PasswordClear config granted answers question least is =
    piece_short granted.pdu PasswordClearing [] answers question least (omega arith) is
sent_short job.Disconnect config granted answers question least is = absurd (cc)

-- nor any other of a question
pub messages_short : (asked : Job) (config : Config) (granted : Grant) (answers : List (Option Answer))
    (question : Question) (sequence : ℕ) → 64 ≤ granted.pdu
    → (plan_of asked config (Some granted)).conduct.question_at answers ≡ Some question
    → AllByRecursion (λ (message : List ℕ). length message ≤ granted.pdu) (messages_of sequence question)
messages_short asked config granted answers question sequence least is =
    each_message (λ (message : List ℕ). length message ≤ granted.pdu) question sequence (λ call. omega (arith, least))
    (sent_short asked config granted answers question least is sequence)

-- ---- how many are unanswered

-- a question goes out only while fewer are unanswered than may be
few_asked : (conduct : Conduct) (rows : List Row) (question : Question) (number : ℕ) → ComesNext conduct rows question
    → open_count rows ≤ conduct.width
    → open_count (rows ++ record { question = question; number = number; answer = None } ∷ []) ≤ conduct.width
unfolding open_count
few_asked conduct rows question number next few =
    omega (
      arith,
      next.fewer,
      open_append rows (record { question = question; number = number; answer = None } ∷ []),
    )

few_kept : (conduct : Conduct) → RowsKept conduct (λ rows. open_count rows ≤ conduct.width)
unfolding open_count
few_kept conduct = record {
  none = omega arith;
  asked = few_asked conduct;
  answered = λ rows message rows' f few. omega (arith, few, filled_open rows message rows' f);
}

-- never are more unanswered than may be
pub course_few : (origin : Origin) (b : List ℕ) → open_count (course origin b).rows ≤ (conduct_of origin).width
course_few origin b =
    course_rows origin (λ rows. open_count rows ≤ (conduct_of origin).width) (few_kept (conduct_of origin)) b

checked_width : (n : ℕ) (plan : Plan) (end : End) (b : Bool) → plan.conduct.width ≤ n
    → (cond b plan (over end)).conduct.width ≤ n
checked_width n plan end true few = few
checked_width n plan end false few = omega arith

width_connected : (asked : Job) (granted : Grant) → (connected_plan asked granted).conduct.width ≤ max 1 granted.jobs
width_connected (job.ReadArea item) granted =
    checked_width (max 1 granted.jobs) _ _ (eqb (check_item item true) 0) (omega arith)
width_connected (job.WriteArea item octets) granted =
    checked_width (max 1 granted.jobs) _ _ (eqb (check_item item (eqb (length octets) (octet_count item))) 0)
    (omega arith)
width_connected (job.ReadMany items) granted =
    checked_width (max 1 granted.jobs) _ _ (eqb (check_items items true granted.pdu false) 0) (omega arith)
width_connected (job.WriteMany items octets) granted =
    checked_width (max 1 granted.jobs) _ _
    (eqb (check_items items (eqb (length octets) (octet_count_of items)) granted.pdu true) 0) (omega arith)
width_connected (job.Download image) granted =
    checked_width (max 1 granted.jobs) _ _ (eqb (check_image image) 0) (omega arith)
width_connected (job.ClockSet moment) granted =
    checked_width (max 1 granted.jobs) _ _ (eqb (check_moment moment) 0) (omega arith)
width_connected (job.PasswordSet text) granted =
    checked_width (max 1 granted.jobs) _ _ (eqb (check_password text) 0) (omega arith)
width_connected _ granted = omega arith

width_granted : (asked : Job) (config : Config) (known : Option Grant) (granted : Grant) → known ≡ Some granted
    → (plan_of asked config known).conduct.width ≤ max 1 granted.jobs
width_granted asked config None granted is = absurd (cc)
width_granted asked config (Some known) granted is =
    subst (λ (g : Grant). (connected_plan asked known).conduct.width ≤ max 1 g.jobs) (same_some known granted is)
    (width_connected asked known)

-- and no more than jobs were granted
pub unanswered_few : (origin : Origin) (granted : Grant) (b : List ℕ) → origin.granted ≡ Some granted
    → open_count (course origin b).rows ≤ max 1 granted.jobs
unanswered_few origin granted b is =
    omega (arith, course_few origin b, width_granted origin.job origin.config origin.granted granted is)
