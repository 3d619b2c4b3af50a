-- What a question wants of its link is there: further octets are asked of a link that holds them, slices and the end of an
-- upload of one that holds the upload, and what a download goes by of one that holds it. Before a question nothing is
-- unheard but the server's job that is awaited.
use Rattle.std.proofs.Common.{◌≡◌, ℕ, ◌+◌, ◌<◌, Bool, true, false, cond, eqb, Option, None, Some, List, [], ◌∷◌, ◌++◌, length, refl, ap, sym, ◌∙◌, subst, arith, append_assoc, append-nil}
use Rattle.std.specs.Prelude.{replicate}
use Rattle.std.specs.List.{AllByRecursion}
use Rattle.std.proofs.lemmas.Bool.{eqb-true}
use Rattle.std.proofs.lemmas.List.{map-append}
use Rattle.s7_item.specs.declared.item.Item.{Item}
use Rattle.s7_item.specs.Item.{octet_count}
use Rattle.s7_split.specs.Parts.{parts_of}
use Rattle.s7_split.specs.Groups.{groups_of}
use Rattle.s7_clock.specs.declared.control.Control.{Control}
use Rattle.s7_clock.specs.declared.control.Control.TheVariants as control
use Rattle.s7_plant.specs.declared.request.Ask.{Ask}
use Rattle.s7_plant.specs.Replies.{Said}
use Rattle.s7_dialogue.specs.declared.grant.Grant.{Grant}
use Rattle.s7_dialogue.specs.declared.grant.Leaves.TheVariants.{AsItWas}
use Rattle.s7_dialogue.specs.declared.job.Job.{Job}
use Rattle.s7_dialogue.specs.declared.job.Job.TheVariants as job
use Rattle.s7_dialogue.specs.declared.questions.subject.Subject.{Subject}
use Rattle.s7_dialogue.specs.declared.questions.subject.Subject.TheVariants.{DataHead}
use Rattle.s7_dialogue.specs.DataBlocks.{data_parts}
use Rattle.s7_block.specs.Slices.{image_room}
use Rattle.s7_block.specs.declared.block.BlockName.{BlockName}
use Rattle.s7_dialogue.specs.Question.{Question, reads, writes, controls, asks, asks_further}
use Rattle.s7_dialogue.specs.Question.{starts_upload, slices_upload, ends_upload, announces, awaits_call, gives, inserts}
use Rattle.s7_dialogue.specs.Answer.{Answer}
use Rattle.s7_dialogue.specs.Checks.{check_item, check_items, check_moment, check_password, check_image, octet_count_of}
use Rattle.s7_dialogue.specs.Flight.{Row, answers_of}
use Rattle.s7_dialogue.specs.Dialogue.{End, Conduct, Plan, over, number_end, read_questions, write_questions, alone}
use Rattle.s7_dialogue.specs.Dialogue.{getting, filling, block_octets, octets_brought, last_answer, next_piece}
use Rattle.s7_dialogue.specs.Dialogue.{next_of_data, first_refusal}
use Rattle.s7_dialogue.specs.Dialogue.{controlling, asking_about, uploading, downloading, listed, if_good}
use Rattle.s7_dialogue.specs.Dialogue.{connected_plan, plan_of}
use Rattle.s7_dialogue.specs.Course.{Origin, conduct_of, next_question, course}
use Rattle.s7_dialogue.proofs.FlightLemmas.{same_some, nothing_left}
use Rattle.s7_client.proofs.FitLemmas.{one_of_all}
use Rattle.s7_session.specs.LinkState.{LinkState}
use Rattle.s7_session.specs.Verdict.{Verdict}
use Rattle.s7_rig.specs.Exchanges.{IsReadyFor, IsAwaited, IsUnheard, GoesOn, HasTold}
use Rattle.s7_rig.proofs.Awaiting.{AreAsked, IsDue, AreInTurn}
use Rattle.s7_rig.proofs.Conversing.{Exchange, rows_of}
use Rattle.s7_rig.proofs.DownloadJudgedLemmas.{checked}
use Rattle.s7_rig.proofs.UploadAsksLemmas.{of_upload}
use Rattle.s7_rig.proofs.DataAsksLemmas.{of_data}
use Rattle.s7_rig.proofs.HoldPieces.{behind_is, piece_ready}
use Rattle.s7_rig.proofs.HoldSlices.{slice_ready}
use Rattle.s7_rig.proofs.HoldData.{IsOfItems, reads_items, writes_items, data_ready}
use Rattle.s7_rig.proofs.HoldDownload.{IsNext, given_next, given_last}
use Rattle.s7_rig.proofs.HoldTurns.{course_in_turn, turn_at, none_refused, last_unrefused}
use Rattle.s7_rig.proofs.TelegramLemmas.{AreOut, open_none, asked_at}

-- the link is ready for each of these questions
abbrev pub AreReady : LinkState → List Row → Type 0
AreReady link rows = AllByRecursion (λ (row : Row). IsReadyFor link row.question) rows

-- before the first of these questions these messages are unheard, and where none is out none is
abbrev pub AreAwaited : List (List ℕ) → LinkState → List Row → Type 0
AreAwaited unheard link [] = unheard ≡ []
AreAwaited unheard link (row ∷ rows) = IsAwaited unheard link row.question

-- both
abbrev pub AreNext : List (List ℕ) → LinkState → List Row → Type 0
AreNext unheard link rows = AreReady link rows × AreAwaited unheard link rows

-- ---- questions before which nothing is unheard

-- nothing is unheard before the question, or behind its answer
abbrev IsSilent : Question → Type 0
IsSilent (announces image) = ⊥
IsSilent (awaits_call image) = ⊥
IsSilent _ = Unit {0}

silent_awaited : (unheard : List (List ℕ)) (link : LinkState) (question : Question) → IsSilent question → unheard ≡ []
    → IsAwaited unheard link question
silent_awaited unheard link (awaits_call image) silent none = absurd silent
silent_awaited unheard link _ silent none = none

silent_unheard : (unheard : List (List ℕ)) (link : LinkState) (question : Question) (answer : Answer)
    → IsSilent question → IsUnheard unheard link question answer → unheard ≡ []
silent_unheard unheard link (announces image) answer silent none = absurd silent
silent_unheard unheard link _ answer silent none = none

-- ---- questions that want nothing

abbrev IsPlain : Question → Type 0
IsPlain (asks_further subject octet so_far) = ⊥
IsPlain (slices_upload id size so_far) = ⊥
IsPlain (ends_upload id) = ⊥
IsPlain (announces image) = ⊥
IsPlain (awaits_call image) = ⊥
IsPlain (gives image room from call) = ⊥
IsPlain (inserts image call) = ⊥
IsPlain _ = Unit {0}

plain_ready : (link : LinkState) (question : Question) → IsPlain question → IsReadyFor link question
plain_ready link (asks_further subject octet so_far) plain = absurd plain
plain_ready link (slices_upload id size so_far) plain = absurd plain
plain_ready link (ends_upload id) plain = absurd plain
plain_ready link (awaits_call image) plain = absurd plain
plain_ready link (gives image room from call) plain = absurd plain
plain_ready link (inserts image call) plain = absurd plain
plain_ready link _ plain = tt

plain_silent : (question : Question) → IsPlain question → IsSilent question
plain_silent (announces image) plain = plain
plain_silent (awaits_call image) plain = plain
plain_silent _ plain = tt

-- the conduct asks only such
abbrev AsksPlainly : Conduct → Type 0
AsksPlainly c = (answers : List (Option Answer)) (question : Question) → c.question_at answers ≡ Some question
    → IsPlain question

plainly_asked : (c : Conduct) (k : ℕ) (gone rows : List Row) → AsksPlainly c → AreAsked c k (gone ++ rows)
    → AllByRecursion (λ (row : Row). IsPlain row.question) rows
plainly_asked c k [] [] plain asked = tt
plainly_asked c k [] (row ∷ rows) plain asked =
    (plain asked.0.answers row.question asked.0.asks, plainly_asked c (k + 1) [] rows plain asked.1)
plainly_asked c k (x ∷ gone) rows plain asked = plainly_asked c (k + 1) gone rows plain asked.1

all_ready : (link : LinkState) (rows : List Row) → AllByRecursion (λ (row : Row). IsPlain row.question) rows
    → AreReady link rows
all_ready link [] plain = tt
all_ready link (row ∷ rows) plain = (plain_ready link row.question plain.0, all_ready link rows plain.1)

plainly_next : (unheard : List (List ℕ)) (link : LinkState) (rows : List Row)
    → AllByRecursion (λ (row : Row). IsPlain row.question) rows → unheard ≡ [] → AreNext unheard link rows
plainly_next unheard link [] plain none = (tt, none)
plainly_next unheard link (row ∷ rows) plain none = (
  all_ready link (row ∷ rows) plain,
  silent_awaited unheard link row.question (plain_silent row.question plain.0) none,
)

-- ---- questions in turn

-- A link goes on from an answer to what was asked behind these answers, with these messages unheard.
record IsGone (c : Conduct) (behind : List (List ℕ)) (link : LinkState) (answers : List (Option Answer))
    (question : Question) (answer : Answer) : Type 0 where
  pdu : ℕ
  own : List Verdict
  new : List (Ask × Said)
  asked : c.question_at answers ≡ Some question
  told : HasTold pdu own question answer new
  goes : GoesOn link question answer
  unheard : IsUnheard behind link question answer

-- One question is asked at a time: any link is ready for the first, and one that goes on from the answer to a question
-- that isn't refused is ready for the next. Where none is asked behind an answer that isn't refused, nothing is unheard.
record AsksInTurn (c : Conduct) : Type 0 where
  narrow : c.width ≡ 1
  first : (link : LinkState) (next : Question) → c.question_at [] ≡ Some next → IsNext [] link next
  behind : (link : LinkState) (behind : List (List ℕ)) (answers : List (Option Answer)) (question : Question)
      (answer : Answer) (next : Question) → IsGone c behind link answers question answer → c.refusal answer ≡ None
      → c.question_at (answers ++ Some answer ∷ []) ≡ Some next → IsNext behind link next
  last : (link : LinkState) (behind : List (List ℕ)) (answers : List (Option Answer)) (question : Question)
      (answer : Answer) → IsGone c behind link answers question answer
      → (c.refusal answer ≡ None → c.question_at (answers ++ Some answer ∷ []) ≡ None) → behind ≡ []

-- such a conduct, where nothing is ever unheard
silently : (c : Conduct) → c.width ≡ 1
    → ((answers : List (Option Answer)) (question : Question) → c.question_at answers ≡ Some question → IsSilent question)
    → ((link : LinkState) (next : Question) → c.question_at [] ≡ Some next → IsReadyFor link next)
    → ((link : LinkState) (answers : List (Option Answer)) (question : Question) (answer : Answer) (next : Question)
    → c.question_at answers ≡ Some question → GoesOn link question answer
    → c.question_at (answers ++ Some answer ∷ []) ≡ Some next → IsReadyFor link next)
    → AsksInTurn c
silently c narrow silent first behind = record {
  narrow = narrow;
  first = λ link next is. (first link next is, silent_awaited [] link next (silent [] next is) refl);
  behind = λ link unheard answers question answer next gone unrefused is. (
    behind link answers question answer next gone.asked gone.goes is,
    silent_awaited unheard link next (silent (answers ++ Some answer ∷ []) next is)
        (silent_unheard unheard link question answer (silent answers question gone.asked) gone.unheard),
  );
  last = λ link unheard answers question answer gone none.
      silent_unheard unheard link question answer (silent answers question gone.asked) gone.unheard;
}

piece_silent : (subject : Subject) (octets : List ℕ) (answers : List (Option Answer)) (question : Question)
    → next_piece subject octets answers ≡ Some question → IsSilent question
piece_silent subject octets [] question is = subst IsSilent (same_some (asks subject octets) question is) tt
piece_silent subject octets (first ∷ answers) question is =
    let further = behind_is subject (octets_brought (first ∷ answers)) (last_answer first answers) question is in
    subst IsSilent (sym further.1) tt

about_in_turn : (subject : Subject) (octets : List ℕ) → AsksInTurn (asking_about subject octets)
about_in_turn subject octets =
    silently (asking_about subject octets) refl (piece_silent subject octets)
    (λ link next is. subst (IsReadyFor link) (same_some (asks subject octets) next is) tt)
    (λ link answers question answer next asked goes is.
    piece_ready link subject octets answers question answer next asked goes is)

upload_in_turn : (name : BlockName) → AsksInTurn (uploading name)
upload_in_turn name =
    silently (uploading name) refl
    (λ answers question is.
    of_upload IsSilent (λ id size so_far. tt) (λ id. tt) name answers question tt is)
    (λ link next is. subst (IsReadyFor link) (same_some (starts_upload name) next is) tt)
    (λ link answers question answer next asked goes is.
    slice_ready link question answer next name answers asked goes is)

-- reads and writes of items
items_silent : (questions : List Question) → AllByRecursion IsOfItems questions → AllByRecursion IsSilent questions
items_silent [] each = tt
items_silent (reads items ∷ questions) each = (tt, items_silent questions each.1)
items_silent (writes items octets ∷ questions) each = (tt, items_silent questions each.1)
items_silent (_ ∷ questions) each = absurd each.0

data_in_turn : (c : Conduct) (octets : List ℕ) (questions : ℕ → List Question) → c.width ≡ 1
    → ((size : ℕ) → AllByRecursion IsOfItems (questions size))
    → ((answers : List (Option Answer)) → c.question_at answers ≡ next_of_data octets questions answers)
    → AsksInTurn c
data_in_turn c octets questions narrow each same =
    silently c narrow
    (λ answers question is.
    of_data IsSilent octets questions answers question tt (λ octet so_far. tt)
    (λ size. items_silent (questions size) (each size)) (sym (same answers) ∙ is))
    (λ link next is.
    subst (IsReadyFor link) (same_some (asks DataHead octets) next (sym (same []) ∙ is)) tt)
    (λ link answers question answer next asked goes is.
    data_ready link octets questions each answers question answer next (sym (same answers) ∙ asked) goes
    (sym (same (answers ++ Some answer ∷ [])) ∙ is))

getting_in_turn : (pdu number : ℕ) → AsksInTurn (getting pdu (block_octets 0x41 number) number)
getting_in_turn pdu number =
    data_in_turn (getting pdu (block_octets 0x41 number) number) (block_octets 0x41 number)
    (λ size. read_questions (alone (data_parts number size pdu false))) refl
    (λ size. reads_items (alone (data_parts number size pdu false))) (λ answers. refl)

filling_in_turn : (pdu number value : ℕ) → AsksInTurn (filling pdu (block_octets 0x41 number) number value)
filling_in_turn pdu number value =
    data_in_turn (filling pdu (block_octets 0x41 number) number value) (block_octets 0x41 number)
    (λ size. write_questions (alone (data_parts number size pdu true)) (replicate size value)) refl
    (λ size. writes_items (alone (data_parts number size pdu true)) (replicate size value)) (λ answers. refl)

-- the image has octets, which its check says
download_in_turn : (image : List ℕ) (room : ℕ) → 0 < length image → AsksInTurn (downloading image room)
download_in_turn image room some = record {
  narrow = refl;
  first = λ link next is. subst (IsNext [] link) (same_some (announces image) next is) (tt, refl);
  behind = λ link unheard answers question answer next gone unrefused is.
      given_next link image room next unheard gone.pdu gone.own answers question answer gone.new some gone.asked
      gone.told unrefused gone.goes gone.unheard is;
  last = λ link unheard answers question answer gone none.
      given_last link unheard image room answers question answer gone.asked gone.unheard none;
}

-- ---- the questions of each job

-- a job asks plainly, or in turn
data Asks (c : Conduct) : Type 0 where
  plainly : AsksPlainly c → Asks c
  in_turn : AsksInTurn c → Asks c

reads_plain : (groups : List (List Item)) → AllByRecursion IsPlain (read_questions groups)
reads_plain [] = tt
reads_plain (group ∷ groups) = (tt, reads_plain groups)

writes_plain : (groups : List (List Item)) (octets : List ℕ) → AllByRecursion IsPlain (write_questions groups octets)
writes_plain [] octets = tt
writes_plain (group ∷ groups) octets = (tt, writes_plain groups _)

-- once it was checked
checked_by : (check : ℕ) (plan : Plan) (good : Bool) → eqb check 0 ≡ good → (check ≡ 0 → Asks plan.conduct)
    → Asks (cond good plan (over (number_end check AsItWas))).conduct
checked_by check plan true is same = same (eqb-true check 0 is)
checked_by check plan false is same = plainly (λ answers question asked. absurd (cc))

checked_asks : (check : ℕ) (plan : Plan) → (check ≡ 0 → Asks plan.conduct) → Asks (if_good check plan).conduct
checked_asks check plan same = checked_by check plan (eqb check 0) refl same

listed_asks : (check : ℕ) (granted : Grant) (questions : List Question) (refusal : Answer → Option ℕ)
    (number : ℕ → ℕ → ℕ) (finished : List (Option Answer) → End) → AllByRecursion IsPlain questions
    → Asks (if_good check (listed granted questions refusal number finished)).conduct
listed_asks check granted questions refusal number finished plain =
    checked_asks check (listed granted questions refusal number finished)
    (λ good. plainly (λ answers question is. one_of_all IsPlain questions (length answers) question plain is))

control_asks : (control : Control) → Asks (controlling control)
control_asks control =
    plainly (λ answers question is. one_of_all IsPlain (controls control ∷ []) (length answers) question (tt, tt) is)

about_asks : (subject : Subject) (octets : List ℕ) → Asks (asking_about subject octets)
about_asks subject octets = in_turn (about_in_turn subject octets)

some_image : (image : List ℕ) → check_image image ≡ 0 → 0 < length image
some_image image good = let is = checked image good in omega (arith, is.least)

asks_as : (done : Job) (granted : Grant) → Asks (connected_plan done granted).conduct
asks_as (job.ReadArea item) granted =
    listed_asks (check_item item true) granted _ _ _ _ (reads_plain (alone (parts_of item granted.pdu false)))
asks_as (job.WriteArea item octets) granted =
    listed_asks (check_item item (eqb (length octets) (octet_count item))) granted _ _ _ _
    (writes_plain (alone (parts_of item granted.pdu true)) octets)
asks_as (job.ReadMany items) granted =
    listed_asks (check_items items true granted.pdu false) granted _ _ _ _
    (reads_plain (groups_of granted.pdu false items))
asks_as (job.WriteMany items octets) granted =
    listed_asks (check_items items (eqb (length octets) (octet_count_of items)) granted.pdu true) granted _ _ _ _
    (writes_plain (groups_of granted.pdu true items) octets)
asks_as job.List granted = about_asks _ _
asks_as (job.ListOf kind) granted = about_asks _ _
asks_as (job.Info kind number) granted = about_asks _ _
asks_as (job.Upload kind number) granted = in_turn (upload_in_turn (record { kind = kind; number = number }))
asks_as (job.Download image) granted =
    checked_asks (check_image image) _
    (λ good. in_turn (download_in_turn image (image_room granted.pdu) (some_image image good)))
asks_as (job.Delete kind number) granted = control_asks (control.Delete kind number)
asks_as (job.DbGet number) granted = in_turn (getting_in_turn granted.pdu number)
asks_as (job.DbFill number value) granted = in_turn (filling_in_turn granted.pdu number value)
asks_as (job.Szl id index) granted = about_asks _ _
asks_as job.ClockRead granted = about_asks _ _
asks_as (job.ClockSet moment) granted = checked_asks (check_moment moment) _ (λ good. about_asks _ _)
asks_as job.Start granted = control_asks control.Start
asks_as job.ColdStart granted = control_asks control.ColdStart
asks_as job.Stop granted = control_asks control.Stop
asks_as job.Compress granted = control_asks control.Compress
asks_as job.CopyRam granted = control_asks control.CopyRam
asks_as job.Status granted = about_asks _ _
asks_as (job.PasswordSet text) granted = checked_asks (check_password text) _ (λ good. about_asks _ _)
asks_as job.PasswordClear granted = about_asks _ _
asks_as _ granted = plainly (λ answers question is. absurd (cc))

-- ---- at each place

module _ (origin : Origin) (grant : Grant) (granted : origin.granted ≡ Some grant) where
  asks_at : Asks (conduct_of origin)
  asks_at =
      subst (λ g. Asks (plan_of origin.job origin.config g).conduct) (sym granted) (asks_as origin.job grant)

  -- where telegrams go out in turn, the link is ready for those that are out, if it is for what comes next
  turn_next : (unheard : List (List ℕ)) (link : LinkState) (gone rows : List Row)
      → ((next : Question) → (conduct_of origin).question_at (answers_of gone) ≡ Some next
      → first_refusal (conduct_of origin).refusal 0 (answers_of gone) ≡ None → IsNext unheard link next)
      → (rows ≡ [] → unheard ≡ []) → AreOut rows → AreInTurn (conduct_of origin) [] (gone ++ rows)
      → AreNext unheard link rows
  turn_next unheard link gone [] so none out turn = (tt, none refl)
  turn_next unheard link gone (row ∷ later) so none out turn =
      let at = turn_at (conduct_of origin) [] gone row later out.0.unanswered turn in
      let next = so row.question at.0.is at.0.unrefused in
      ((next.0, subst (AreReady link) (sym at.1) tt), next.1)

  -- ---- before any octet

  first_by : (link : LinkState) (rows : List Row) → (course origin []).rows ≡ rows → AreOut rows
      → AreAsked (conduct_of origin) 0 rows → Asks (conduct_of origin) → AreNext [] link rows
  first_by link rows is out asked (plainly plain) =
      plainly_next [] link rows (plainly_asked (conduct_of origin) 0 [] rows plain asked) refl
  first_by link rows is out asked (in_turn turn) =
      turn_next [] link [] rows (λ next asks unrefused. turn.first link next asks) (λ none. refl) out
      (subst (AreInTurn (conduct_of origin) []) is (course_in_turn origin [] (omega (arith, turn.narrow))))

  -- Any link is ready for what a job asks first, where nothing is unheard.
  pub first_holds : (link : LinkState) (rows : List Row) → (course origin []).rows ≡ rows → AreOut rows
      → AreAsked (conduct_of origin) 0 rows → AreNext [] link rows
  first_holds link rows is out asked = first_by link rows is out asked asks_at

  -- ---- behind an answer

  module _ (link : LinkState) (b b' : List ℕ) (gone : List Exchange) (row : Row) (later : List Row)
      (x : Exchange) (rows : List Row) (was : (course origin b).rows ≡ rows_of gone ++ row ∷ later)
      (unanswered : row.answer ≡ None) (question : x.question ≡ row.question)
      (now : (course origin b').rows ≡ rows_of (gone ++ x ∷ []) ++ rows)
      (none_more : next_question (conduct_of origin) (course origin b').rows ≡ None) (out : AreOut rows)
      (asked : AreAsked (conduct_of origin) 0 (rows_of (gone ++ x ∷ []) ++ rows)) (pdu : ℕ)
      (behind : List (List ℕ)) (told : HasTold pdu x.verdicts x.question x.answer x.entries)
      (goes : GoesOn link x.question x.answer) (unheard : IsUnheard behind link x.question x.answer) where
    answers_more : answers_of (rows_of (gone ++ x ∷ [])) ≡ answers_of (rows_of gone) ++ Some x.answer ∷ []
    answers_more =
        ap answers_of (map-append _ gone (x ∷ [])) ∙ map-append _ (rows_of gone) (rows_of (x ∷ []))

    -- a conduct that asks plainly asked the question plainly
    plain_before : AsksPlainly (conduct_of origin) → IsPlain x.question
    plain_before plain =
        let c = conduct_of origin in
        let answered : Row = record { question = x.question; number = x.number; answer = Some x.answer } in
        let all = ap (λ (front : List Row). front ++ rows) (map-append _ gone (x ∷ []))
        ∙ append_assoc (rows_of gone) (answered ∷ []) rows in
        let at = asked_at c 0 (rows_of gone) answered rows (subst (AreAsked c 0) all asked) in
        plain at.0 x.question at.1

    -- where one is out at a time, all before the question were answered, and none refused
    due_before : AsksInTurn (conduct_of origin) → IsDue (conduct_of origin) (answers_of (rows_of gone)) row
    due_before turn =
        let c = conduct_of origin in
        let before = subst (AreInTurn c []) was (course_in_turn origin b (omega (arith, turn.narrow))) in
        (turn_at c [] (rows_of gone) row later unanswered before).0

    gone_on : AsksInTurn (conduct_of origin)
        → IsGone (conduct_of origin) behind link (answers_of (rows_of gone)) x.question x.answer
    gone_on turn = record {
      pdu = pdu;
      own = x.verdicts;
      new = x.entries;
      asked = (due_before turn).is ∙ ap Some (sym question);
      told = told;
      goes = goes;
      unheard = unheard;
    }

    -- where none is out and none refused, nothing is left to ask
    none_left : AsksInTurn (conduct_of origin) → rows ≡ [] → (conduct_of origin).refusal x.answer ≡ None
        → (conduct_of origin).question_at (answers_of (rows_of gone) ++ Some x.answer ∷ []) ≡ None
    none_left turn none good =
        let c = conduct_of origin in
        let all = rows_of (gone ++ x ∷ []) in
        let same : (course origin b').rows ≡ all = now ∙ (ap (λ (back : List Row). all ++ back) none ∙ append-nil all) in
        let unrefused =
        none_refused c.refusal 0 (answers_of (rows_of gone)) x.answer (due_before turn).unrefused good in
        ap c.question_at (sym answers_more)
        ∙ nothing_left c all (omega (arith, turn.narrow, open_none (gone ++ x ∷ [])))
        (ap (first_refusal c.refusal 0) answers_more ∙ unrefused) (ap (next_question c) (sym same) ∙ none_more)

    next_by : Asks (conduct_of origin) → AreNext behind link rows
    next_by (plainly plain) =
        let c = conduct_of origin in
        plainly_next behind link rows (plainly_asked c 0 (rows_of (gone ++ x ∷ [])) rows plain asked)
        (silent_unheard behind link x.question x.answer (plain_silent x.question (plain_before plain)) unheard)
    next_by (in_turn turn) =
        let c = conduct_of origin in
        let answers = answers_of (rows_of gone) in
        let on = gone_on turn in
        turn_next behind link (rows_of (gone ++ x ∷ [])) rows
        (λ next asks unrefused.
        turn.behind link behind answers x.question x.answer next on
        (last_unrefused c.refusal 0 answers x.answer (ap (first_refusal c.refusal 0) (sym answers_more) ∙ unrefused))
        (ap c.question_at (sym answers_more) ∙ asks))
        (λ none. turn.last link behind answers x.question x.answer on (none_left turn none)) out
        (subst (AreInTurn c []) now (course_in_turn origin b' (omega (arith, turn.narrow))))

    -- A link that goes on from the answer is ready for what is asked behind it.
    pub next_holds : AreNext behind link rows
    next_holds = next_by asks_at
