-- Lemmas on jobs that ask one question at a time: what is asked behind one more answer, and how they end with it.
use Rattle.std.proofs.Common.{◌≡◌, ◌⊎◌, inl, inr, ℕ, ◌+◌, ◌≤◌, Bool, true, false, cond, ltb, ◌&&◌, Option, Some, None, List, [], ◌∷◌, ◌++◌, length, drop, refl, sym, ap, ◌∙◌, subst, arith}
use Rattle.std.specs.Prelude.{is_none, option_map}
use Rattle.std.proofs.Math.Path.{ap₂}
use Rattle.std.proofs.lemmas.Bool.{and_parts}
use Rattle.std.proofs.lemmas.List.{map-append, nil_from_length}
use Rattle.s7_clock.specs.declared.control.Control.{Control}
use Rattle.s7_block.specs.declared.block.BlockName.{BlockName}
use Rattle.s7_dialogue.specs.declared.job.Job.{Job}
use Rattle.s7_dialogue.specs.declared.questions.subject.Subject.{Subject}
use Rattle.s7_dialogue.specs.declared.transfers.download.Pieces.{Pieces}
use Rattle.s7_dialogue.specs.declared.stages.single.Ask.{Ask}
use Rattle.s7_dialogue.specs.declared.stages.single.Ask.TheVariants as ask
use Rattle.s7_dialogue.specs.UserData.{comes_in_pieces, lead_of}
use Rattle.s7_dialogue.specs.Question.{Question, controls, asks_further, starts_upload, slices_upload, ends_upload}
use Rattle.s7_dialogue.specs.Question.{announces, awaits_call, gives, inserts}
use Rattle.s7_dialogue.specs.Answer.{Answer, stands, brings, uploads, slices, uploaded, announced, calls}
use Rattle.s7_dialogue.specs.Refusals.{control_refusal, telegram_refusal, download_refusal}
use Rattle.s7_dialogue.specs.Flight.{Row, answers_of, open_count}
use Rattle.s7_dialogue.specs.Dialogue.{End, Conduct, octets_in, octets_brought, count_of_data, brought_end, first_refusal, good_end, by_refusal, plain_number, controlling, asking_about, next_slice, uploading}
use Rattle.s7_dialogue.specs.Dialogue.{behind_server, next_given, downloading}
use Rattle.s7_dialogue.specs.Course.{Course, for_nothing, next_question, settled, asking}
use Rattle.s7_dialogue.specs.Stages.{data_of_job, block_of, image_of, has_image, question_of_single, conduct_of_single, is_writable}
use Rattle.s7_dialogue.specs.Singles.{room_for, lead_in, ask_behind, TellsStatus, TellsPiece, TellsStart, TellsSlice, TellsEnd, BringsOn}
use Rattle.s7_dialogue.specs.Singles.{TellsBegun, TellsCall}
use Rattle.s7_dialogue.specs.Asks.{earlier}
use Rattle.s7_dialogue.specs.GoesOn.{octets_kept, questions_left_by, questions_from, is_counted}
use Rattle.s7_dialogue.proofs.FlightLemmas.{same_some, settled_ends}
use Rattle.s7_dialogue.proofs.AskLemmas.{refusal_open, asked_none}
use Rattle.s7_dialogue.proofs.RefusalLemmas.{refusal_more, refusal_same}
use Rattle.s7_dialogue.proofs.BringLemmas.{piece_behind, brought_append}
use Rattle.s7_dialogue.proofs.UploadLemmas.{IsUnderWay, upload_asks, slice_behind}
use Rattle.s7_dialogue.proofs.DownloadImageLemmas.{image_given}
use Rattle.s7_dialogue.proofs.DownloadLemmas.{download_asks, first_behind, server_behind, asks_called, of_called}

-- ---- one more answer, behind others

abbrev pub Answers : Type 0
Answers = List (Option Answer)

pub answers_behind : (rows : List Row) (row : Row) → answers_of (rows ++ row ∷ []) ≡ answers_of rows ++ row.answer ∷ []
answers_behind rows row = map-append (λ (r : Row). r.answer) rows (row ∷ [])

-- where none before it refuses, it is the first that does
pub refused_behind : (refusal : Answer → Option ℕ) (answers : Answers) (x : Answer) (number : ℕ)
    → first_refusal refusal 0 answers ≡ None → refusal x ≡ Some number
    → first_refusal refusal 0 (answers ++ Some x ∷ []) ≡ Some (length answers, number)
refused_behind refusal answers x number none is =
    let place : 0 + length answers ≡ length answers = omega arith in
    refusal_more refusal 0 number answers [] x is
    ∙ (ap (λ o. earlier o (0 + length answers) number) (refusal_open refusal 0 answers ∙ none)
    ∙ ap (λ n. Some (n, number)) place)

-- or none does
pub unrefused_behind : (refusal : Answer → Option ℕ) (answers : Answers) (x : Answer)
    → first_refusal refusal 0 answers ≡ None → refusal x ≡ None
    → first_refusal refusal 0 (answers ++ Some x ∷ []) ≡ None
unrefused_behind refusal answers x none is =
    refusal_same refusal 0 answers [] x is ∙ (refusal_open refusal 0 answers ∙ none)

-- and a control asks nothing more
none_more : (control : Control) (answers : Answers) (answer : Option Answer) (question : Question)
    → (controlling control).question_at answers ≡ Some question
    → (controlling control).question_at (answers ++ answer ∷ []) ≡ None
none_more control [] answer question is = refl
none_more control (first ∷ answers) answer question is = absurd (cc)

-- ---- the end

-- The conduct ends so with one more answer, and nothing may be asked then.
pub record EndsWith (c : Conduct) (answers : Answers) (end : End) : Type 0 where
  pub last : first_refusal c.refusal 0 answers ≡ None → c.question_at answers ≡ None
  pub is : c.ended answers ≡ end

none_by : (less : Bool) (refused : Option (ℕ × ℕ)) (next : Option Question) → (refused ≡ None → next ≡ None)
    → cond (less && is_none refused) next None ≡ None
none_by true None next last = last refl
none_by true (Some r) next last = refl
none_by false refused next last = refl

-- such a job is over, once all of its telegrams are answered
pub ended_with : (c : Conduct) (course : Course) (end : End) → EndsWith c (answers_of course.rows) end
    → open_count course.rows ≡ 0
    → (asking c course ≡ settled c course) × ((settled c course).awaits ≡ for_nothing end [])
ended_with c course end ends none =
    let over : next_question c course.rows ≡ None =
    none_by (ltb (open_count course.rows) c.width) (first_refusal c.refusal 0 (answers_of course.rows))
    (c.question_at (answers_of course.rows)) ends.last in
    (ap (settled c) (asked_none c.width c course over), settled_ends c course none ∙ ap (λ e. for_nothing e []) ends.is)

-- ---- what goes on behind one more answer

-- What is kept of the answers, where this is asked next: these octets, and what else is left to ask.
pub record Keeps (asked : Ask) (answers : Answers) (octets : List ℕ) : Type 0 where
  pub are : octets_kept asked answers ≡ octets
  pub left : questions_left_by asked answers ≡ questions_from asked
  pub counted : is_counted asked (count_of_data answers) ≡ true

-- One more answer, which refuses nothing, leaves all these octets. What is asked next is asked in the same way, and
-- where nothing is, the job ends with them, behind so many that stand before what was asked for.
pub record GoesBehind (done : Job) (c : Conduct) (lead : ℕ) (answers : Answers) (x : Answer) (all : List ℕ)
    (next : Option Ask) : Type 0 where
  pub unrefused : c.refusal x ≡ None
  pub asks : c.question_at (answers ++ Some x ∷ []) ≡ option_map (λ (a : Ask). question_of_single done a all) next
  pub alike : (a : Ask) → next ≡ Some a → conduct_of_single done a ≡ c
  pub keeps : (a : Ask) → next ≡ Some a → Keeps a (answers ++ Some x ∷ []) all
  pub ended : next ≡ None → first_refusal c.refusal 0 (answers ++ Some x ∷ []) ≡ None
      → c.ended (answers ++ Some x ∷ []) ≡ good_end (drop lead all) []

-- ---- an answer that brings octets

-- The answer brings these octets behind those that came, whatever else was answered.
record Brings (done : Job) (c : Conduct) (lead : ℕ) (answers : Answers) (x : Answer) (so_far octets : List ℕ)
    (next : Option Ask) : Type 0 where
  unrefused : c.refusal x ≡ None
  brings : octets_in x ≡ octets
  asks : c.question_at (answers ++ Some x ∷ [])
      ≡ option_map (λ (a : Ask). question_of_single done a (so_far ++ octets)) next
  alike : (a : Ask) → next ≡ Some a → conduct_of_single done a ≡ c
  ended : (all : Answers) → first_refusal c.refusal 0 all ≡ None → octets_brought all ≡ so_far ++ octets
      → c.ended all ≡ good_end (drop lead (so_far ++ octets)) []

-- a control, which is all that is asked
none_before : (control : Control) (answers : Answers) (question : Question)
    → (controlling control).question_at answers ≡ Some question → answers ≡ []
none_before control [] question at = refl
none_before control (first ∷ answers) question at = absurd (cc)

status_behind : (done : Job) (control : Control) (answers : Answers) (x : Answer) (so_far octets : List ℕ)
    (next : Option Ask)
    → (controlling control).question_at answers ≡ Some (controls control) → octets_brought answers ≡ so_far
    → TellsStatus octets next x → Brings done (controlling control) 0 answers x so_far octets next
status_behind done control answers (stands status) so_far octets next at came tells =
    let none : so_far ≡ [] = sym came ∙ ap octets_brought (none_before control answers (controls control) at) in
    record {
      unrefused = ap (λ n. control_refusal control (stands n)) tells.0;
      brings = sym tells.1;
      asks =
          none_more control answers (Some (stands status)) (controls control) at
          ∙ ap (option_map (λ (a : Ask). question_of_single done a (so_far ++ octets))) (sym tells.2);
      alike = λ a is. absurd (let e = tells.2 in cc);
      ended = λ all first brought. ap (λ o. by_refusal plain_number o (good_end [] [])) first
          ∙ ap (λ xs. good_end xs []) (sym (ap (λ xs. xs ++ octets) none ∙ tells.1));
    }
status_behind done control answers _ so_far octets next at came tells = absurd tells

-- a piece of user data
pub brought_more : (answers : Answers) (x : Answer) (so_far octets : List ℕ) → octets_brought answers ≡ so_far
    → octets_in x ≡ octets → octets_brought (answers ++ Some x ∷ []) ≡ so_far ++ octets
brought_more answers x so_far octets came same =
    brought_append answers x ∙ (ap (λ xs. xs ++ octets_in x) came ∙ ap (λ xs. so_far ++ xs) same)

piece_asks : (done : Job) (subject : Subject) (octet : ℕ) (more : Bool) (all : List ℕ) (next : Option Ask)
    → next ≡ cond more (Some (ask.Further subject octet)) None → (more ≡ true → comes_in_pieces subject ≡ true)
    → cond (more && comes_in_pieces subject) (Some (asks_further subject octet all)) None
    ≡ option_map (λ (a : Ask). question_of_single done a all) next
piece_asks done subject octet true all next is pieces =
    ap (λ b. cond b (Some (asks_further subject octet all)) None) (pieces refl)
    ∙ ap (option_map (λ (a : Ask). question_of_single done a all)) (sym is)
piece_asks done subject octet false all next is pieces =
    ap (option_map (λ (a : Ask). question_of_single done a all)) (sym is)

piece_alike : (done : Job) (subject : Subject) (octet : ℕ) (more : Bool) (next : Option Ask) (a : Ask)
    → next ≡ cond more (Some (ask.Further subject octet)) None → next ≡ Some a
    → conduct_of_single done a ≡ asking_about subject (data_of_job done)
piece_alike done subject octet true next a is some =
    ap (conduct_of_single done) (same_some a (ask.Further subject octet) (sym some ∙ is))
piece_alike done subject octet false next a is some = absurd (cc)

piece_goes : (done : Job) (subject : Subject) (answers : Answers) (x : Answer) (so_far octets : List ℕ)
    (next : Option Ask) → octets_brought answers ≡ so_far → TellsPiece subject octets next x
    → Brings done (asking_about subject (data_of_job done)) (lead_of subject) answers x so_far octets next
piece_goes done subject answers (brings octet more piece) so_far octets next came tells =
    let x = brings octet more piece in
    record {
      unrefused = refl;
      brings = sym tells.0;
      asks =
          piece_behind subject (data_of_job done) answers (Some x)
          ∙ (ap (λ xs. cond (more && comes_in_pieces subject) (Some (asks_further subject octet xs)) None)
          (brought_more answers x so_far octets came (sym tells.0))
          ∙ piece_asks done subject octet more (so_far ++ octets) next tells.1 tells.3);
      alike = λ a is. piece_alike done subject octet more next a tells.1 is;
      ended = λ all first brought. ap (λ o. by_refusal plain_number o (brought_end subject all)) first
          ∙ ap (λ xs. good_end (drop (lead_of subject) xs) []) brought;
    }
piece_goes done subject answers _ so_far octets next came tells = absurd tells

-- the end of an upload that no answer refuses
image_end : (name : BlockName) (all : Answers) (octets : List ℕ) → first_refusal telegram_refusal 0 all ≡ None
    → octets_brought all ≡ octets → (uploading name).ended all ≡ good_end (drop 0 octets) []
image_end name all octets first brought =
    ap (λ o. by_refusal plain_number o (good_end (octets_brought all) [])) first ∙ ap (λ xs. good_end xs []) brought

-- an upload's start
start_behind : (done : Job) (answers : Answers) (x : Answer) (so_far octets : List ℕ) (next : Option Ask)
    → next_slice (block_of done) answers ≡ Some (starts_upload (block_of done)) → octets_brought answers ≡ so_far
    → TellsStart octets next x → Brings done (uploading (block_of done)) 0 answers x so_far octets next
start_behind done answers (uploads id size) so_far octets next at came tells =
    let name : BlockName = block_of done in
    by_asked (upload_asks name answers (starts_upload name) at)
  where
    by_asked : ((answers ≡ []) × (starts_upload (block_of done) ≡ starts_upload (block_of done)))
        ⊎ IsUnderWay answers (starts_upload (block_of done))
        → Brings done (uploading (block_of done)) 0 answers (uploads id size) so_far octets next
    by_asked (inl first) =
        let name : BlockName = block_of done in
        let none : so_far ++ octets ≡ [] =
        ap (λ xs. xs ++ octets) (sym came ∙ ap octets_brought first.0) ∙ tells.0 in
        record {
          unrefused = refl;
          brings = sym tells.0;
          asks =
              ap (λ (xs : Answers). next_slice name (xs ++ Some (uploads id size) ∷ [])) first.0
              ∙ (ap (λ xs. Some (slices_upload id size xs)) (sym none)
              ∙ ap (option_map (λ (a : Ask). question_of_single done a (so_far ++ octets))) (sym tells.1));
          alike = λ a is. ap (conduct_of_single done) (same_some a (ask.Slice id size) (sym is ∙ tells.1));
          ended = λ all unrefused brought. image_end name all (so_far ++ octets) unrefused brought;
        }
    by_asked (inr under) = absurd under.of
start_behind done answers _ so_far octets next at came tells = absurd tells

-- a slice
slice_asks : (done : Job) (id size : ℕ) (more : Bool) (all : List ℕ) (next : Option Ask)
    → next ≡ Some (cond more (ask.Slice id size) (ask.UploadEnd id))
    → Some (cond more (slices_upload id size all) (ends_upload id))
    ≡ option_map (λ (a : Ask). question_of_single done a all) next
slice_asks done id size true all next is = ap (option_map (λ (a : Ask). question_of_single done a all)) (sym is)
slice_asks done id size false all next is = ap (option_map (λ (a : Ask). question_of_single done a all)) (sym is)

slice_alike : (done : Job) (id size : ℕ) (more : Bool) (next : Option Ask) (a : Ask)
    → next ≡ Some (cond more (ask.Slice id size) (ask.UploadEnd id)) → next ≡ Some a
    → conduct_of_single done a ≡ uploading (block_of done)
slice_alike done id size true next a is some =
    ap (conduct_of_single done) (same_some a (ask.Slice id size) (sym some ∙ is))
slice_alike done id size false next a is some =
    ap (conduct_of_single done) (same_some a (ask.UploadEnd id) (sym some ∙ is))

slice_goes : (done : Job) (id size : ℕ) (answers : Answers) (x : Answer) (so_far octets : List ℕ) (next : Option Ask)
    → next_slice (block_of done) answers ≡ Some (slices_upload id size so_far) → octets_brought answers ≡ so_far
    → TellsSlice id size octets next x → Brings done (uploading (block_of done)) 0 answers x so_far octets next
slice_goes done id size answers (slices more piece) so_far octets next at came tells =
    by_asked (upload_asks (block_of done) answers (slices_upload id size so_far) at)
  where
    by_asked : ((answers ≡ []) × (starts_upload (block_of done) ≡ slices_upload id size so_far))
        ⊎ IsUnderWay answers (slices_upload id size so_far)
        → Brings done (uploading (block_of done)) 0 answers (slices more piece) so_far octets next
    by_asked (inl first) = absurd (let e = first.1 in cc)
    by_asked (inr under) =
        let name : BlockName = block_of done in
        let x = slices more piece in
        let started : answers ≡ Some (uploads id size) ∷ under.rest =
        under.first ∙ ap₂ (λ i n. Some (uploads i n) ∷ under.rest) (sym under.of.0) (sym under.of.1) in
        record {
          unrefused = refl;
          brings = sym tells.0;
          asks =
              slice_behind name id size answers under.rest (Some x) started
              ∙ (ap (λ xs. Some (cond more (slices_upload id size xs) (ends_upload id)))
              (brought_more answers x so_far octets came (sym tells.0))
              ∙ slice_asks done id size more (so_far ++ octets) next tells.1);
          alike = λ a is. slice_alike done id size more next a tells.1 is;
          ended = λ all unrefused brought. image_end name all (so_far ++ octets) unrefused brought;
        }
slice_goes done id size answers _ so_far octets next at came tells = absurd tells

-- its end
end_goes : (done : Job) (id : ℕ) (answers : Answers) (x : Answer) (so_far octets : List ℕ) (next : Option Ask)
    → next_slice (block_of done) answers ≡ Some (ends_upload id) → octets_brought answers ≡ so_far
    → TellsEnd octets next x → Brings done (uploading (block_of done)) 0 answers x so_far octets next
end_goes done id answers uploaded so_far octets next at came tells =
    by_asked (upload_asks (block_of done) answers (ends_upload id) at)
  where
    by_asked : ((answers ≡ []) × (starts_upload (block_of done) ≡ ends_upload id)) ⊎ IsUnderWay answers (ends_upload id)
        → Brings done (uploading (block_of done)) 0 answers uploaded so_far octets next
    by_asked (inl first) = absurd (let e = first.1 in cc)
    by_asked (inr under) =
        let name : BlockName = block_of done in
        record {
          unrefused = refl;
          brings = sym tells.0;
          asks =
              slice_behind name under.id under.size answers under.rest (Some uploaded) under.first
              ∙ ap (option_map (λ (a : Ask). question_of_single done a (so_far ++ octets))) (sym tells.1);
          alike = λ a is. absurd (let e = tells.1 in cc);
          ended = λ all unrefused brought. image_end name all (so_far ++ octets) unrefused brought;
        }
end_goes done id answers _ so_far octets next at came tells = absurd tells

-- ---- downloads

-- the end of a download that no answer refuses, which brought nothing
given_end : (image : List ℕ) (room : ℕ) (all : Answers) (so_far octets : List ℕ)
    → first_refusal download_refusal 0 all ≡ None → so_far ≡ [] → octets ≡ []
    → (downloading image room).ended all ≡ good_end (drop 0 (so_far ++ octets)) []
given_end image room all so_far octets first none empty =
    ap (λ o. by_refusal plain_number o (good_end [] [])) first
    ∙ ap (λ xs. good_end xs []) (sym (ap (λ xs. xs ++ octets) none ∙ empty))

-- its announcement
announce_goes : (done : Job) (pieces : Pieces) (answers : Answers) (x : Answer) (so_far octets : List ℕ)
    (next : Option Ask)
    → next_given (image_of done) pieces.room answers ≡ Some (announces (image_of done)) → so_far ≡ []
    → TellsBegun pieces octets next x
    → Brings done (downloading (image_of done) pieces.room) 0 answers x so_far octets next
announce_goes done pieces answers announced so_far octets next at none tells =
    let image = image_of done in
    record {
      unrefused = refl;
      brings = sym tells.0;
      asks =
          ap (λ (xs : Answers). next_given image pieces.room (xs ++ Some announced ∷ []))
          (download_asks image pieces.room answers (announces image) at)
          ∙ ap (option_map (λ (a : Ask). question_of_single done a (so_far ++ octets))) (sym tells.1);
      alike = λ a is. ap (conduct_of_single done) (same_some a (ask.AwaitCall pieces) (sym is ∙ tells.1));
      ended = λ all unrefused brought. given_end image pieces.room all so_far octets unrefused none tells.0;
    }
announce_goes done pieces answers _ so_far octets next at none tells = absurd tells

-- a job of the server's, once the image was given up to a place
call_goes : (done : Job) (pieces : Pieces) (from : ℕ) (answers : Answers) (x : Answer) (so_far octets : List ℕ)
    (next : Option Ask)
    → ((answer : Option Answer) → next_given (image_of done) pieces.room (answers ++ answer ∷ [])
    ≡ behind_server (image_of done) pieces.room from answer)
    → pieces.len ≡ length (image_of done) → so_far ≡ [] → TellsCall pieces from octets next x
    → Brings done (downloading (image_of done) pieces.room) 0 answers x so_far octets next
call_goes done pieces from answers (calls call) so_far octets next behind whole none tells =
    let image = image_of done in
    record {
      unrefused = refl;
      brings = sym tells.0;
      asks =
          behind (Some (calls call))
          ∙ (ap (λ (q : Question). Some q) (sym (asks_called done pieces from call (so_far ++ octets) whole))
          ∙ ap (option_map (λ (a : Ask). question_of_single done a (so_far ++ octets))) (sym tells.1));
      alike = λ a is.
          ap (conduct_of_single done) (same_some a (ask_behind pieces from call) (sym is ∙ tells.1))
          ∙ of_called (λ (b : Ask). conduct_of_single done b ≡ downloading image pieces.room) pieces from call
          (λ given. refl) refl;
      ended = λ all unrefused brought. given_end image pieces.room all so_far octets unrefused none tells.0;
    }
call_goes done pieces from answers _ so_far octets next behind whole none tells = absurd tells

-- its insertion
insert_goes : (done : Job) (pieces : Pieces) (call : ℕ) (answers : Answers) (x : Answer) (so_far octets : List ℕ)
    (next : Option Ask)
    → next_given (image_of done) pieces.room answers ≡ Some (inserts (image_of done) call) → so_far ≡ []
    → TellsStatus octets next x
    → Brings done (downloading (image_of done) pieces.room) 0 answers x so_far octets next
insert_goes done pieces call answers (stands status) so_far octets next at none tells =
    let image = image_of done in
    record {
      unrefused = ap (λ n. download_refusal (stands n)) tells.0;
      brings = sym tells.1;
      asks =
          server_behind image pieces.room answers (Some (stands status))
          (download_asks image pieces.room answers (inserts image call) at)
          ∙ ap (option_map (λ (a : Ask). question_of_single done a (so_far ++ octets))) (sym tells.2);
      alike = λ a is. absurd (let e = tells.2 in cc);
      ended = λ all unrefused brought. given_end image pieces.room all so_far octets unrefused none tells.1;
    }
insert_goes done pieces call answers _ so_far octets next at none tells = absurd tells

-- ---- all that isn't asked of whole data blocks

abbrev pub IsPlain : Ask → Type 0
IsPlain (ask.Head block) = ⊥
IsPlain (ask.HeadFurther block octet) = ⊥
IsPlain (ask.Part block place) = ⊥
IsPlain _ = Unit {0}

plain_keeps : (a : Ask) (answers : Answers) (octets : List ℕ) → IsPlain a → octets_brought answers ≡ octets
    → Keeps a answers octets
plain_keeps (ask.Head block) answers octets plain came = absurd plain
plain_keeps (ask.HeadFurther block octet) answers octets plain came = absurd plain
plain_keeps (ask.Part block place) answers octets plain came = absurd plain
plain_keeps _ answers octets plain came = record { are = came; left = refl; counted = refl }

plain_as : (a b : Ask) (next : Option Ask) → next ≡ Some a → next ≡ Some b → IsPlain b → IsPlain a
plain_as a b next is other plain = subst IsPlain (same_some b a (sym other ∙ is)) plain

piece_plain : (subject : Subject) (octets : List ℕ) (next : Option Ask) (x : Answer) (a : Ask)
    → TellsPiece subject octets next x → next ≡ Some a → IsPlain a
piece_plain subject octets next (brings octet true piece) a tells is =
    plain_as a (ask.Further subject octet) next is tells.1 tt
piece_plain subject octets next (brings octet false piece) a tells is = absurd (let e = tells.1 in cc)
piece_plain subject octets next _ a tells is = absurd tells

slice_plain : (id size : ℕ) (octets : List ℕ) (next : Option Ask) (x : Answer) (a : Ask)
    → TellsSlice id size octets next x → next ≡ Some a → IsPlain a
slice_plain id size octets next (slices true piece) a tells is =
    plain_as a (ask.Slice id size) next is tells.1 tt
slice_plain id size octets next (slices false piece) a tells is =
    plain_as a (ask.UploadEnd id) next is tells.1 tt
slice_plain id size octets next _ a tells is = absurd tells

start_plain : (octets : List ℕ) (next : Option Ask) (x : Answer) (a : Ask) → TellsStart octets next x
    → next ≡ Some a → IsPlain a
start_plain octets next (uploads id size) a tells is = plain_as a (ask.Slice id size) next is tells.1 tt
start_plain octets next _ a tells is = absurd tells

status_plain : (octets : List ℕ) (next : Option Ask) (x : Answer) (a : Ask) → TellsStatus octets next x
    → next ≡ Some a → IsPlain a
status_plain octets next (stands status) a tells is = absurd (let e = tells.2 in cc)
status_plain octets next _ a tells is = absurd tells

end_plain : (octets : List ℕ) (next : Option Ask) (x : Answer) (a : Ask) → TellsEnd octets next x
    → next ≡ Some a → IsPlain a
end_plain octets next uploaded a tells is = absurd (let e = tells.1 in cc)
end_plain octets next _ a tells is = absurd tells

begun_plain : (pieces : Pieces) (octets : List ℕ) (next : Option Ask) (x : Answer) (a : Ask)
    → TellsBegun pieces octets next x → next ≡ Some a → IsPlain a
begun_plain pieces octets next announced a tells is = plain_as a (ask.AwaitCall pieces) next is tells.1 tt
begun_plain pieces octets next _ a tells is = absurd tells

call_plain : (pieces : Pieces) (from : ℕ) (octets : List ℕ) (next : Option Ask) (x : Answer) (a : Ask)
    → TellsCall pieces from octets next x → next ≡ Some a → IsPlain a
call_plain pieces from octets next (calls call) a tells is =
    plain_as a (ask_behind pieces from call) next is tells.1 (of_called IsPlain pieces from call (λ given. tt) tt)
call_plain pieces from octets next _ a tells is = absurd tells

goes_plain : (done : Job) (c : Conduct) (lead : ℕ) (answers : Answers) (x : Answer) (so_far octets : List ℕ)
    (next : Option Ask)
    → Brings done c lead answers x so_far octets next → octets_brought answers ≡ so_far
    → ((a : Ask) → next ≡ Some a → IsPlain a)
    → GoesBehind done c lead answers x (so_far ++ octets) next
goes_plain done c lead answers x so_far octets next b came plain =
    let all = brought_more answers x so_far octets came b.brings in
    record {
      unrefused = b.unrefused;
      asks = b.asks;
      alike = b.alike;
      keeps = λ a is. plain_keeps a (answers ++ Some x ∷ []) (so_far ++ octets) (plain a is) all;
      ended = λ over none. b.ended (answers ++ Some x ∷ []) none all;
    }

none_came : (so_far : List ℕ) → length so_far ≤ 0 → so_far ≡ []
none_came so_far few = nil_from_length so_far (omega (arith, few))

-- behind a piece that is given
given_behind : (done : Job) (pieces : Pieces) (from call : ℕ) (answers : Answers)
    → next_given (image_of done) pieces.room answers ≡ Some (gives (image_of done) pieces.room from call)
    → (answer : Option Answer) → next_given (image_of done) pieces.room (answers ++ answer ∷ [])
    ≡ behind_server (image_of done) pieces.room (from + pieces.room) answer
given_behind done pieces from call answers at answer =
    let image = image_of done in
    let before = download_asks image pieces.room answers (gives image pieces.room from call) at in
    server_behind image pieces.room answers answer before.0
    ∙ ap (λ n. behind_server image pieces.room (n + pieces.room) answer) (sym before.1)

-- whatever is asked
pub plain_goes : (done : Job) (asked : Ask) (answers : Answers) (x : Answer) (so_far octets : List ℕ)
    (next : Option Ask) → IsPlain asked → is_writable done asked ≡ true → length so_far ≤ room_for asked
    → (conduct_of_single done asked).question_at answers ≡ Some (question_of_single done asked so_far)
    → Keeps asked answers so_far → BringsOn asked octets next x
    → GoesBehind done (conduct_of_single done asked) (lead_in asked) answers x (so_far ++ octets) next
plain_goes done (ask.Control control) answers x so_far octets next plain writable few at kept tells =
    goes_plain done _ _ answers x so_far octets next
    (status_behind done control answers x so_far octets next at kept.are tells) kept.are
    (λ a is. status_plain octets next x a tells is)
plain_goes done (ask.About subject) answers x so_far octets next plain writable few at kept tells =
    goes_plain done _ _ answers x so_far octets next
    (piece_goes done subject answers x so_far octets next kept.are tells) kept.are
    (λ a is. piece_plain subject octets next x a tells is)
plain_goes done (ask.Further subject octet) answers x so_far octets next plain writable few at kept tells =
    goes_plain done _ _ answers x so_far octets next
    (piece_goes done subject answers x so_far octets next kept.are tells) kept.are
    (λ a is. piece_plain subject octets next x a tells is)
plain_goes done ask.Upload answers x so_far octets next plain writable few at kept tells =
    goes_plain done _ _ answers x so_far octets next
    (start_behind done answers x so_far octets next at kept.are tells) kept.are
    (λ a is. start_plain octets next x a tells is)
plain_goes done (ask.Slice id size) answers x so_far octets next plain writable few at kept tells =
    goes_plain done _ _ answers x so_far octets next
    (slice_goes done id size answers x so_far octets next at kept.are tells) kept.are
    (λ a is. slice_plain id size octets next x a tells is)
plain_goes done (ask.UploadEnd id) answers x so_far octets next plain writable few at kept tells =
    goes_plain done _ _ answers x so_far octets next
    (end_goes done id answers x so_far octets next at kept.are tells) kept.are
    (λ a is. end_plain octets next x a tells is)
plain_goes done (ask.Announce pieces) answers x so_far octets next plain writable few at kept tells =
    goes_plain done _ _ answers x so_far octets next
    (announce_goes done pieces answers x so_far octets next at (none_came so_far few) tells) kept.are
    (λ a is. begun_plain pieces octets next x a tells is)
plain_goes done (ask.AwaitCall pieces) answers x so_far octets next plain writable few at kept tells =
    let image = image_of done in
    goes_plain done _ _ answers x so_far octets next
    (call_goes done pieces 0 answers x so_far octets next
    (λ answer. first_behind image pieces.room answers answer
    (download_asks image pieces.room answers (awaits_call image) at))
    (image_given done pieces writable).whole (none_came so_far few) tells) kept.are
    (λ a is. call_plain pieces 0 octets next x a tells is)
plain_goes done (ask.Give pieces from call) answers x so_far octets next plain writable few at kept tells =
    goes_plain done _ _ answers x so_far octets next
    (call_goes done pieces (from + pieces.room) answers x so_far octets next
    (given_behind done pieces from call answers at)
    (image_given done pieces (and_parts (has_image done pieces) (ltb from pieces.len) writable).0).whole
    (none_came so_far few) tells) kept.are
    (λ a is. call_plain pieces (from + pieces.room) octets next x a tells is)
plain_goes done (ask.Insert pieces call) answers x so_far octets next plain writable few at kept tells =
    goes_plain done _ _ answers x so_far octets next
    (insert_goes done pieces call answers x so_far octets next at (none_came so_far few) tells) kept.are
    (λ a is. status_plain octets next x a tells is)
plain_goes done _ answers x so_far octets next plain writable few at kept tells = absurd plain
