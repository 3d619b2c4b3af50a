-- What a job on a connected client asks: reads and writes of one to twenty items, whose answers have room; controls;
-- user data with its octets, and further octets of what comes in pieces; uploads; and downloads of an image that is good.
use Rattle.std.proofs.Common.{◌≡◌, ℕ, ◌<◌, ◌≤◌, Bool, true, false, ◌&&◌, cond, eqb, leb, ltb, Option, None, Some, List, [], ◌∷◌, length, drop, refl, ap, subst, arith}
use Rattle.std.specs.Prelude.{IsSome, is_some, slice_get, replicate}
use Rattle.std.specs.List.{AllByRecursion}
use Rattle.std.proofs.lemmas.Bool.{and_parts, leb-true}
use Rattle.s7_item.specs.declared.item.Item.{Item}
use Rattle.s7_item.specs.Item.{octet_count}
use Rattle.s7_item.specs.Word.{size_of}
use Rattle.s7_item.specs.Sizes.{request_size, answer_size}
use Rattle.s7_clock.specs.Moment.{IsHeld, first_moment, last_moment, moment_octets}
use Rattle.s7_clock.specs.declared.control.Control.TheVariants as control
use Rattle.s7_split.specs.Fits.{fits}
use Rattle.s7_split.specs.Parts.{parts_of, CanBeAsked}
use Rattle.s7_split.specs.Groups.{groups_of, IsGroup}
use Rattle.s7_split.proofs.PartLaws.{parts_asked}
use Rattle.s7_split.proofs.GroupLaws.{groups_short}
use Rattle.s7_dialogue.specs.declared.config.Config.{Config}
use Rattle.s7_dialogue.specs.declared.grant.Grant.{Grant}
use Rattle.s7_dialogue.specs.declared.job.Job.{Job}
use Rattle.s7_dialogue.specs.declared.job.Job.TheVariants as job
use Rattle.s7_dialogue.specs.declared.questions.subject.Subject.{Subject}
use Rattle.s7_dialogue.specs.declared.questions.subject.Subject.TheVariants.{StatusList, RunState, BlockCounts, BlocksOfKind, BlockHead, Clock, ClockSetting, Password, PasswordClearing}
use Rattle.s7_dialogue.specs.Codes.{invalid_parameters}
use Rattle.s7_block.specs.Slices.{image_room}
use Rattle.s7_dialogue.specs.UserData.{comes_in_pieces, filled_text, encoded}
use Rattle.s7_dialogue.specs.Question.{Question, controls, asks_further}
use Rattle.s7_dialogue.specs.Answer.{Answer, grants, tells, notes, stands, brings, uploads, slices, uploaded, announced, calls, refuses}
use Rattle.s7_dialogue.specs.Checks.{octet_count_of, check_item, check_items, check_moment, check_password, check_image}
use Rattle.s7_dialogue.specs.DataBlocks.{data_parts}
use Rattle.s7_dialogue.specs.Dialogue.{End, read_questions, write_questions, alone, listed, if_good, at_once, asking_about, downloading, next_piece, behind, last_answer, octets_brought, list_octets, kind_octets, block_octets, plan_of}
use Rattle.s7_dialogue.proofs.CheckLemmas.{item_checked, items_checked, can_split}
use Rattle.s7_client.proofs.DataFitLemmas.{data_fit}
use Rattle.s7_dialogue.proofs.GroupLemmas.{groups_right}
use Rattle.s7_client.proofs.FitLemmas.{one_of_all, good_sent}
use Rattle.s7_dialogue.proofs.FlightLemmas.{same_some}
use Rattle.s7_rig.proofs.Askable.{AreSome, CanGoWith, IsAskable, AreKnown}
use Rattle.s7_rig.proofs.PlacedLemmas.{parts_known}
use Rattle.s7_rig.proofs.UserClockLemmas.{clock_read, length-clock}
use Rattle.s7_rig.proofs.UserPasswordLemmas.{length-password}
use Rattle.s7_rig.proofs.UploadAsksLemmas.{of_upload}
use Rattle.s7_rig.proofs.DownloadAsksLemmas.{of_download}
use Rattle.s7_rig.proofs.DataAsksLemmas.{of_data, data_known}
use Rattle.s7_rig.proofs.AskedItems.{alone_each, groups_each, items_known}

-- ---- all questions of a job

abbrev HasWord : Item → Type 0
HasWord item = IsSome (size_of item.word)

abbrev IsShortGroup : ℕ → Bool → List Item → Type 0
IsShortGroup pdu write group = AreSome group × (fits pdu write group ≡ true)

room_left : (pdu : ℕ) (items : List Item) → fits pdu false items ≡ true → answer_size items ≤ pdu
unfolding fits
room_left pdu items fit =
    leb-true (answer_size items) pdu (and_parts (leb (request_size items false) pdu) (leb (answer_size items) pdu) fit).1

reads_askable : (pdu : ℕ) (groups : List (List Item)) → AllByRecursion (IsShortGroup pdu false) groups → AllByRecursion (IsAskable pdu) (read_questions groups)
reads_askable pdu [] each = tt
reads_askable pdu (group ∷ groups) each = ((each.0.0, room_left pdu group each.0.1), reads_askable pdu groups each.1)

writes_askable : (pdu : ℕ) (groups : List (List Item)) (octets : List ℕ) → AllByRecursion (IsShortGroup pdu true) groups → AllByRecursion AreKnown groups → AllByRecursion (IsAskable pdu) (write_questions groups octets)
writes_askable pdu [] octets each known = tt
writes_askable pdu (group ∷ groups) octets each known = ((each.0.0, known.0), writes_askable pdu groups (drop (octet_count_of group) octets) each.1 known.1)

parts_short : (pdu : ℕ) (write : Bool) (parts : List Item) → AllByRecursion (CanBeAsked pdu write) parts → AllByRecursion (IsShortGroup pdu write) (alone parts)
parts_short pdu write [] each = tt
parts_short pdu write (part ∷ parts) each = (((omega arith, omega arith), each.0.fits), parts_short pdu write parts each.1)

-- items that fit alone
alone_short : (pdu : ℕ) (write : Bool) (items : List Item)
    → AllByRecursion (λ (group : List Item). fits pdu write group ≡ true) (alone items)
    → AllByRecursion (IsShortGroup pdu write) (alone items)
alone_short pdu write [] each = tt
alone_short pdu write (item ∷ items) each =
    (((omega arith, omega arith), each.0), alone_short pdu write items each.1)

groups_short_each : (pdu : ℕ) (write : Bool) (groups : List (List Item)) → AllByRecursion (IsGroup pdu write) groups → AllByRecursion (λ (group : List Item). length group ≤ 20) groups
    → AllByRecursion (IsShortGroup pdu write) groups
groups_short_each pdu write [] each short = tt
groups_short_each pdu write (group ∷ groups) each short = (((each.0.some, short.0), each.0.fits), groups_short_each pdu write groups each.1 short.1)

item_parts : (item : Item) (has : Bool) (pdu : ℕ) (write : Bool) → 64 ≤ pdu → check_item item has ≡ 0 → AllByRecursion (IsShortGroup pdu write) (alone (parts_of item pdu write))
item_parts item has pdu write least good =
    let told = item_checked item has good in
    parts_short pdu write (parts_of item pdu write) (parts_asked item pdu write (can_split item told.0 told.1) least)

items_groups : (items : List Item) (has : Bool) (pdu : ℕ) (write : Bool) → check_items items has pdu write ≡ 0 → AllByRecursion (IsShortGroup pdu write) (groups_of pdu write items)
items_groups items has pdu write good =
    let packed = (items_checked items has pdu write good).4 in
    groups_short_each pdu write (groups_of pdu write items) (groups_right pdu write items packed).each (groups_short pdu write items packed)

-- ---- the question that is asked

-- the questions of a job that was checked
checked_askable : (granted : Grant) (check : ℕ) (questions : List Question) (refusal : Answer → Option ℕ)
    (number : ℕ → ℕ → ℕ) (finished : List (Option Answer) → End) (answers : List (Option Answer)) (q : Question)
    → (check ≡ 0 → AllByRecursion (IsAskable granted.pdu) questions)
    → (if_good check (listed granted questions refusal number finished)).conduct.question_at answers ≡ Some q
    → IsAskable granted.pdu q
checked_askable granted check questions refusal number finished answers q each is =
    let good = good_sent check (listed granted questions refusal number finished) answers q is in
    one_of_all (IsAskable granted.pdu) questions (length answers) q (each good.0) good.1

-- ---- one question after another

one_askable : (pdu : ℕ) (question q : Question) (k : ℕ) → IsAskable pdu question
    → slice_get (question ∷ []) k ≡ Some q → IsAskable pdu q
one_askable pdu question q k can is = one_of_all (IsAskable pdu) (question ∷ []) k q (can, tt) is

further_askable : (pdu : ℕ) (subject : Subject) (octet : ℕ) (so_far : List ℕ) (more : Bool) (q : Question)
    → (more ≡ true → comes_in_pieces subject ≡ true)
    → cond more (Some (asks_further subject octet so_far)) None ≡ Some q → IsAskable pdu q
further_askable pdu subject octet so_far true q pieces is =
    subst (IsAskable pdu) (same_some (asks_further subject octet so_far) q is) (pieces refl)
further_askable pdu subject octet so_far false q pieces is = absurd (cc)

behind_askable : (pdu : ℕ) (subject : Subject) (so_far : List ℕ) (last : Option Answer) (q : Question)
    → behind subject so_far last ≡ Some q → IsAskable pdu q
behind_askable pdu subject so_far (Some (brings octet more octets)) q is =
    further_askable pdu subject octet so_far (more && comes_in_pieces subject) q
    (λ both. (and_parts more (comes_in_pieces subject) both).1) is
behind_askable pdu subject so_far (Some (grants granted)) q is = absurd (cc)
behind_askable pdu subject so_far (Some (tells items)) q is = absurd (cc)
behind_askable pdu subject so_far (Some (notes codes)) q is = absurd (cc)
behind_askable pdu subject so_far (Some (stands status)) q is = absurd (cc)
behind_askable pdu subject so_far (Some (uploads id size)) q is = absurd (cc)
behind_askable pdu subject so_far (Some (slices more octets)) q is = absurd (cc)
behind_askable pdu subject so_far (Some uploaded) q is = absurd (cc)
behind_askable pdu subject so_far (Some announced) q is = absurd (cc)
behind_askable pdu subject so_far (Some (calls sequence)) q is = absurd (cc)
behind_askable pdu subject so_far (Some (refuses error)) q is = absurd (cc)
behind_askable pdu subject so_far None q is = absurd (cc)

piece_askable : (pdu : ℕ) (subject : Subject) (octets : List ℕ) (answers : List (Option Answer)) (q : Question)
    → CanGoWith subject octets → next_piece subject octets answers ≡ Some q → IsAskable pdu q
piece_askable pdu subject octets [] q can is = subst (IsAskable pdu) (same_some _ q is) can
piece_askable pdu subject octets (answer ∷ answers) q can is =
    behind_askable pdu subject (octets_brought (answer ∷ answers)) (last_answer answer answers) q is

-- ---- what is checked of user data

both_good : (a b : Bool) (code : ℕ) → 0 < code → cond (a && b) 0 code ≡ 0 → (a ≡ true) × (b ≡ true)
both_good true true code bad good = (refl, refl)
both_good true false code bad good = absurd (omega (arith, bad, good))
both_good false b code bad good = absurd (omega (arith, bad, good))

moment_checked : (moment : ℕ) → check_moment moment ≡ 0 → IsHeld moment
moment_checked moment good =
    let both = both_good (leb first_moment moment) (leb moment last_moment) invalid_parameters (omega arith) good in
    record {
      from = leb-true first_moment moment both.0;
      to = leb-true moment last_moment both.1;
    }

setting_can : (moment : ℕ) → IsHeld moment → CanGoWith ClockSetting (moment_octets moment)
setting_can moment held = (length-clock moment, ap is_some (clock_read moment held))

password_can : (text : List ℕ) → check_password text ≡ 0 → CanGoWith Password (encoded (filled_text text))
password_can text good =
    let both = both_good (ltb 0 (length text)) (leb (length text) 8) invalid_parameters (omega arith) good in
    length-password text (leb-true (length text) 8 both.1)

-- ---- the parts of a whole data block

parts_read : (number size pdu : ℕ) → 64 ≤ pdu
    → AllByRecursion (IsAskable pdu) (read_questions (alone (data_parts number size pdu false)))
parts_read number size pdu least =
    let parts : List Item = data_parts number size pdu false in
    reads_askable pdu (alone parts) (alone_short pdu false parts (data_fit number size pdu false least))

parts_written : (number size pdu : ℕ) (octets : List ℕ) → 64 ≤ pdu
    → AllByRecursion (IsAskable pdu) (write_questions (alone (data_parts number size pdu true)) octets)
parts_written number size pdu octets least =
    let parts : List Item = data_parts number size pdu true in
    writes_askable pdu (alone parts) octets (alone_short pdu true parts (data_fit number size pdu true least))
    (alone_each HasWord parts (data_known number size pdu true))

-- ---- each job

pub askable : (asked : Job) (config : Config) (granted : Grant) (answers : List (Option Answer)) (q : Question)
    → 64 ≤ granted.pdu → (plan_of asked config (Some granted)).conduct.question_at answers ≡ Some q
    → IsAskable granted.pdu q
askable job.Connect config granted answers q least is = absurd (cc)
askable (job.ReadArea item) config granted answers q least is =
    checked_askable granted (check_item item true) (read_questions (alone (parts_of item granted.pdu false))) _ _ _
    answers q
    (λ good. reads_askable granted.pdu _ (item_parts item true granted.pdu false least good)) is
askable (job.WriteArea item octets) config granted answers q least is =
    let has = eqb (length octets) (octet_count item) in
    checked_askable granted (check_item item has) (write_questions (alone (parts_of item granted.pdu true)) octets)
    _ _ _ answers q
    (λ good. writes_askable granted.pdu _ octets (item_parts item has granted.pdu true least good)
    (alone_each HasWord (parts_of item granted.pdu true) (parts_known item has granted.pdu true good least))) is
askable (job.ReadMany items) config granted answers q least is =
    checked_askable granted (check_items items true granted.pdu false)
    (read_questions (groups_of granted.pdu false items)) _ _ _ answers q
    (λ good. reads_askable granted.pdu _ (items_groups items true granted.pdu false good)) is
askable (job.WriteMany items octets) config granted answers q least is =
    let has = eqb (length octets) (octet_count_of items) in
    checked_askable granted (check_items items has granted.pdu true)
    (write_questions (groups_of granted.pdu true items) octets) _ _ _ answers q
    (λ good. writes_askable granted.pdu _ octets (items_groups items has granted.pdu true good)
    (groups_each HasWord items has granted.pdu true good (items_known items has granted.pdu true good))) is
askable job.List config granted answers q least is = piece_askable granted.pdu BlockCounts [] answers q refl is
askable (job.ListOf kind) config granted answers q least is =
    piece_askable granted.pdu BlocksOfKind (kind_octets kind) answers q (kind, refl) is
askable (job.Info kind number) config granted answers q least is =
    piece_askable granted.pdu BlockHead (block_octets kind number) answers q refl is
askable (job.Upload kind number) config granted answers q least is =
    of_upload (IsAskable granted.pdu) (λ id size so_far. tt) (λ id. tt) (record { kind = kind; number = number }) answers q
    tt is
askable (job.Download image) config granted answers q least is =
    let room = image_room granted.pdu in
    let sent = good_sent (check_image image) (at_once (downloading image room)) answers q is in
    of_download (IsAskable granted.pdu) image room (λ from call less. (sent.0, refl, less)) (λ call. sent.0) answers q
    sent.0 sent.0 sent.1
askable (job.Delete kind number) config granted answers q least is =
    one_askable granted.pdu (controls (control.Delete kind number)) q (length answers) tt is
askable (job.DbGet number) config granted answers q least is =
    of_data (IsAskable granted.pdu) (block_octets 0x41 number)
    (λ size. read_questions (alone (data_parts number size granted.pdu false))) answers q (number, refl)
    (λ octet so_far. refl) (λ size. parts_read number size granted.pdu least) is
askable (job.DbFill number value) config granted answers q least is =
    of_data (IsAskable granted.pdu) (block_octets 0x41 number)
    (λ size. write_questions (alone (data_parts number size granted.pdu true)) (replicate size value)) answers q
    (number, refl) (λ octet so_far. refl)
    (λ size. parts_written number size granted.pdu (replicate size value) least) is
askable (job.Szl id index) config granted answers q least is =
    piece_askable granted.pdu StatusList (list_octets id index) answers q refl is
askable job.ClockRead config granted answers q least is = piece_askable granted.pdu Clock [] answers q refl is
askable (job.ClockSet moment) config granted answers q least is =
    let sent = good_sent (check_moment moment) (at_once (asking_about ClockSetting (moment_octets moment))) answers q is in
    piece_askable granted.pdu ClockSetting (moment_octets moment) answers q
    (setting_can moment (moment_checked moment sent.0)) sent.1
askable job.Start config granted answers q least is =
    one_askable granted.pdu (controls control.Start) q (length answers) tt is
askable job.ColdStart config granted answers q least is =
    one_askable granted.pdu (controls control.ColdStart) q (length answers) tt is
askable job.Stop config granted answers q least is =
    one_askable granted.pdu (controls control.Stop) q (length answers) tt is
askable job.Compress config granted answers q least is =
    one_askable granted.pdu (controls control.Compress) q (length answers) tt is
askable job.CopyRam config granted answers q least is =
    one_askable granted.pdu (controls control.CopyRam) q (length answers) tt is
askable job.Status config granted answers q least is =
    piece_askable granted.pdu RunState (list_octets 0x0424 0) answers q refl is
askable (job.PasswordSet text) config granted answers q least is =
    let octets = encoded (filled_text text) in
    let sent = good_sent (check_password text) (at_once (asking_about Password octets)) answers q is in
    piece_askable granted.pdu Password octets answers q (password_can text sent.0) sent.1
askable job.PasswordClear config granted answers q least is =
    piece_askable granted.pdu PasswordClearing [] answers q refl is
askable job.Disconnect config granted answers q least is = absurd (cc)
