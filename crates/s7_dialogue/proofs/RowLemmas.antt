-- Laws of whole courses: what each of their steps keeps, and how the telegrams that went out follow the questions of a
-- plan.
use Rattle.std.proofs.Common.{◌≡◌, ◌≢◌, ℕ, zero, suc, ◌≤◌, Bool, true, false, cond, ltb, Option, Some, None, Ok, Err, List, [], ◌∷◌, ◌++◌, map, length, take, refl, sym, ap, ◌∙◌, subst, arith}
use Rattle.std.specs.Prelude.{Result, slice_get}
use Rattle.std.specs.List.{AllByRecursion}
use Rattle.std.proofs.lemmas.List.{length-append, length-map, length-take, map-append}
use Rattle.s7_tpkt.specs.Packets.{packets_of, rest_of, state_of}
use Rattle.s7_cotp.specs.Told.{Told, ConnectionTold, connect, confirm, fragment, disconnect, reject}
use Rattle.s7_cotp.specs.Reading.{tpdu_of}
use Rattle.s7_cotp.specs.Messages.{Step, more, whole, too_many_fragments, too_long, joined_with}
use Rattle.s7_cotp.specs.declared.tpdu.CotpFault.{CotpFault}
use Rattle.s7_wire.specs.Bounds.{message_limit, size_of_code}
use Rattle.s7_wire.specs.Reading.{Ending, disconnected, faulted, opening_of, with_opening, with_joining, connected, with_told, with_tpdu, with_state}
use Rattle.s7_wire.specs.declared.found.Opening.TheVariants.{Confirm}
use Rattle.s7_wire.specs.declared.found.ReadFault.{ReadFault}
use Rattle.s7_wire.specs.declared.found.ReadFault.TheVariants.{BadFrame, FrameTooLong, BadTpdu, Unexpected, TooManyFragments, TooLong}
use Rattle.s7_dialogue.specs.declared.config.Config.{Config}
use Rattle.s7_dialogue.specs.declared.grant.Grant.{Grant}
use Rattle.s7_dialogue.specs.Codes.{invalid_answer}
use Rattle.s7_dialogue.specs.Question.{Question}
use Rattle.s7_dialogue.specs.Answer.{Answer, answer_of}
use Rattle.s7_dialogue.specs.Flight.{Row, answers_of, filled}
use Rattle.s7_dialogue.specs.Dialogue.{End, fault_end, Conduct, First, nothing, connect_request, disconnect_request, Plan, listed, plan_of}
use Rattle.s7_dialogue.specs.Course.{Origin, Course, Awaits, for_confirm, for_answers, for_departure, for_nothing, Unfinished, nothing_unfinished, conduct_of, asking, with_fault, by_rows, with_message, size_where, read_before, code_where, with_ending, with_reading, unless_over, with_packet, blank, by_first, begun, run, packets_run, course, limits}
use Rattle.s7_dialogue.proofs.FlightLemmas.{same_some, ComesNext, comes_next, asked_on_keeps, with_answer, IsFilled, filled_is, filled_map, filled_long}
use Rattle.s7_dialogue.proofs.PacketLemmas.{packet_read}

-- ---- what each step of a course keeps

-- a fault ends the job, with a message that was no answer or none
abbrev pub ended_by_fault : Course → ℕ → List ℕ → Course
ended_by_fault c code carried = record c { awaits = for_nothing (fault_end code) carried }

-- P holds on, whatever comes.
pub record IsKept (conduct : Conduct) (P : Course → Type 0) : Type 0 where
  pub faulted : (c : Course) (code : ℕ) (carried : List ℕ) → code ≢ 0 → P c → P (ended_by_fault c code carried)
  pub joined : (c : Course) (unfinished : Unfinished) → P c → P (record c { unfinished = unfinished })
  pub confirmed : (c : Course) (size : ℕ) → c.awaits ≡ for_confirm → P c → P (asking conduct (record c { size = size }))
  pub answered : (c : Course) (message : List ℕ) (rows : List Row) → c.awaits ≡ for_answers
      → filled c.rows message ≡ Some rows → P c → P (asking conduct (record c { rows = rows }))

module _ (origin : Origin) (P : Course → Type 0) (keeps : IsKept (conduct_of origin) P) where
  fault_kept : (c : Course) (code : ℕ) → code ≢ 0 → P c → P (with_fault c code)
  fault_kept c code bad p = keeps.faulted c code [] bad p

  rows_kept : (c : Course) (message : List ℕ) (rows : Option (List Row)) → c.awaits ≡ for_answers
      → filled c.rows message ≡ rows → P c → P (by_rows (conduct_of origin) c message rows)
  rows_kept c message None awaits is p = keeps.faulted c invalid_answer message (λ e. omega (arith, e)) p
  rows_kept c message (Some rows) awaits is p = keeps.answered c message rows awaits is p

  if_kept : (b : Bool) (x y : Course) → P x → P y → P (cond b x y)
  if_kept true x y p q = p
  if_kept false x y p q = q

  message_kept : (c : Course) (message : List ℕ) → c.awaits ≡ for_answers → P c
      → P (with_message (conduct_of origin) c message)
  message_kept c message awaits p =
      if_kept (ltb (length message) 10) _ _ (fault_kept c _ (λ e. omega (arith, e)) p)
      (rows_kept c message (filled c.rows message) awaits refl p)

  code_is : (awaits : Awaits) (fault : ReadFault) → code_where awaits fault ≢ 0
  code_is awaits BadFrame e = omega (arith, e)
  code_is awaits FrameTooLong e = omega (arith, e)
  code_is awaits BadTpdu e = omega (arith, e)
  code_is for_confirm Unexpected e = omega (arith, e)
  code_is for_answers Unexpected e = omega (arith, e)
  code_is for_departure Unexpected e = omega (arith, e)
  code_is (for_nothing end carried) Unexpected e = omega (arith, e)
  code_is awaits TooManyFragments e = omega (arith, e)
  code_is awaits TooLong e = omega (arith, e)

  ending_kept : (c : Course) (ending : Option Ending) → P c → P (with_ending c ending)
  ending_kept c None p = p
  ending_kept c (Some disconnected) p = fault_kept c _ (λ e. omega (arith, e)) p
  ending_kept c (Some (faulted fault at)) p = fault_kept c _ (code_is c.awaits fault) p

  unless_kept : (next c : Course) (awaits : Awaits) → P next → P c → P (unless_over next c awaits)
  unless_kept next c for_confirm p q = p
  unless_kept next c for_answers p q = p
  unless_kept next c for_departure p q = q
  unless_kept next c (for_nothing end carried) p q = q

  opening_kept : (c : Course) (body : List ℕ) (o : Option ConnectionTold) → c.awaits ≡ for_confirm → P c
      → P (with_reading (conduct_of origin) c (with_opening (read_before c) body o))
  opening_kept c body None awaits p = ending_kept c (Some (faulted Unexpected 0)) p
  opening_kept c body (Some told) awaits p = keeps.confirmed c (size_of_code told.size_code) awaits p

  joining_kept : (c : Course) (body : List ℕ) (step : Step) → c.awaits ≡ for_answers → P c
      → P (with_reading (conduct_of origin) c (with_joining (read_before c) body step))
  joining_kept c body (more octets count) awaits p = keeps.joined c _ p
  joining_kept c body (whole message) awaits p =
      message_kept (record c { unfinished = nothing_unfinished }) message awaits (keeps.joined c nothing_unfinished p)
  joining_kept c body too_many_fragments awaits p = ending_kept c (Some (faulted TooManyFragments 0)) p
  joining_kept c body too_long awaits p = ending_kept c (Some (faulted TooLong 0)) p

  connected_kept : (c : Course) (body : List ℕ) (told : Told) → c.awaits ≡ for_answers → P c
      → P (with_reading (conduct_of origin) c (connected (read_before c) body told))
  connected_kept c body (fragment last user) awaits p =
      joining_kept c body
      (joined_with message_limit c.unfinished.octets c.unfinished.count (record { last = last; user = user })) awaits p
  connected_kept c body (disconnect reason) awaits p = ending_kept c (Some disconnected) p
  connected_kept c body (connect t) awaits p = ending_kept c (Some (faulted Unexpected 0)) p
  connected_kept c body (confirm t) awaits p = ending_kept c (Some (faulted Unexpected 0)) p
  connected_kept c body (reject cause) awaits p = ending_kept c (Some (faulted Unexpected 0)) p

  told_kept : (c : Course) (body : List ℕ) (told : Told) (awaits : Awaits) → c.awaits ≡ awaits → P c
      → P (unless_over (with_reading (conduct_of origin) c
      (with_told Confirm (read_before c) body (size_where awaits c.size) told)) c awaits)
  told_kept c body told for_confirm is p = opening_kept c body (opening_of Confirm told) is p
  told_kept c body told for_answers is p = connected_kept c body told is p
  told_kept c body told for_departure is p = p
  told_kept c body told (for_nothing end carried) is p = p

  tpdu_kept : (c : Course) (body : List ℕ) (tpdu : Result Told CotpFault) → P c
      → P (unless_over (with_reading (conduct_of origin) c (with_tpdu Confirm (read_before c) body tpdu)) c c.awaits)
  tpdu_kept c body (Ok told) p = told_kept c body told c.awaits refl p
  tpdu_kept c body (Err fault) p = unless_kept _ c c.awaits (ending_kept c (Some (faulted BadTpdu 0)) p) p

  pub packet_kept : (c : Course) (body : List ℕ) → P c → P (with_packet origin c body)
  packet_kept c body p = subst P (sym (packet_read origin c body)) (tpdu_kept c body (tpdu_of body) p)

  pub run_kept : (c : Course) (bodies : List (List ℕ)) → P c → P (run origin c bodies)
  run_kept c [] p = p
  run_kept c (body ∷ bodies) p = run_kept (with_packet origin c body) bodies (packet_kept c body p)

  -- what holds at the start and is kept holds of the course after all octets
  pub course_kept : P (begun origin) → (b : List ℕ) → P (course origin b)
  unfolding course
  course_kept start b =
      let p = run_kept (begun origin) (packets_of (limits origin) b) start in
      let c = packets_run origin b in
      let state = state_of (limits origin (packets_of (limits origin) b)) (rest_of (limits origin) b) in
      let ending = (with_state (read_before c) state).ending in
      unless_kept (with_ending c ending) c c.awaits (ending_kept c ending p) p

-- ---- what the telegrams keep

-- R holds of the telegrams that went out, whatever comes.
pub record RowsKept (conduct : Conduct) (R : List Row → Type 0) : Type 0 where
  pub none : R []
  pub asked : (rows : List Row) (question : Question) (number : ℕ) → ComesNext conduct rows question → R rows
      → R (rows ++ record { question = question; number = number; answer = None } ∷ [])
  pub answered : (rows : List Row) (message : List ℕ) (rows' : List Row) → IsFilled rows message rows' → R rows
      → R rows'

pub asking_rows : (conduct : Conduct) (R : List Row → Type 0) → RowsKept conduct R → (c : Course) → R c.rows
    → R (asking conduct c).rows
asking_rows conduct R keeps c r =
    asked_on_keeps (λ (c : Course). R c.rows) conduct
    (λ c question next r. keeps.asked c.rows question _ (comes_next conduct c.rows question next) r) conduct.width c r

by_first_rows : (config : Config) (conduct : Conduct) (R : List Row → Type 0) (keeps : RowsKept conduct R) (c : Course)
    (first : First) → R c.rows → R (by_first config conduct c first).rows
by_first_rows config conduct R keeps c nothing r = asking_rows conduct R keeps c r
by_first_rows config conduct R keeps c connect_request r = r
by_first_rows config conduct R keeps c disconnect_request r = r

begun_rows : (origin : Origin) (R : List Row → Type 0) → RowsKept (conduct_of origin) R → R (begun origin).rows
unfolding begun
begun_rows origin R keeps =
    by_first_rows origin.config (conduct_of origin) R keeps (blank origin)
    (plan_of origin.job origin.config origin.granted).first keeps.none

each_rows : (conduct : Conduct) (R : List Row → Type 0) → RowsKept conduct R
    → IsKept conduct (λ (c : Course). R c.rows)
each_rows conduct R keeps = record {
  faulted = λ c code carried bad r. r;
  joined = λ c unfinished r. r;
  confirmed = λ c size awaits r. asking_rows conduct R keeps (record c { size = size }) r;
  answered = λ c message rows awaits is r.
      asking_rows conduct R keeps (record c { rows = rows })
      (keeps.answered c.rows message rows (filled_is c.rows message rows is) r);
}

-- what the telegrams keep holds of them after all octets
pub course_rows : (origin : Origin) (R : List Row → Type 0) → RowsKept (conduct_of origin) R → (b : List ℕ)
    → R (course origin b).rows
course_rows origin R keeps b =
    course_kept origin (λ (c : Course). R c.rows) (each_rows (conduct_of origin) R keeps) (begun_rows origin R keeps) b

-- ---- general lemmas

pub all_append : {A : Type 0} (P : A → Type 0) (xs ys : List A) → AllByRecursion P xs → AllByRecursion P ys
    → AllByRecursion P (xs ++ ys)
all_append P [] ys p q = q
all_append P (x ∷ xs) ys p q = (p.0, all_append P xs ys p.1 q)

pub all_parts : {A : Type 0} (P : A → Type 0) (xs ys : List A) → AllByRecursion P (xs ++ ys)
    → AllByRecursion P xs × AllByRecursion P ys
all_parts P [] ys p = (tt, p)
all_parts P (x ∷ xs) ys p = let parts = all_parts P xs ys p.1 in ((p.0, parts.0), parts.1)

-- the first elements, and the next one
take_next : {A : Type 0} (xs : List A) (k : ℕ) (x : A) → slice_get xs k ≡ Some x → take (suc k) xs ≡ take k xs ++ x ∷ []
take_next [] k x at = absurd (cc)
take_next (y ∷ xs) zero x at = ap (λ z. z ∷ []) (same_some y x at)
take_next (y ∷ xs) (suc k) x at = ap (λ zs. y ∷ zs) (take_next xs k x at)

-- ---- telegrams and the questions of a plan

-- the questions come in the order of this list, whatever was answered
abbrev pub IsListed : Conduct → List Question → Type 0
IsListed conduct questions =
    (answers : List (Option Answer)) → conduct.question_at answers ≡ slice_get questions (length answers)

-- an answer that is there is what some message answers to the telegram
abbrev pub HasAnswer : Row → Type 0
HasAnswer row =
    (answer : Answer) → row.answer ≡ Some answer
    → (message : List ℕ) × (answer_of row.question row.number message ≡ Some answer)

-- The telegrams ask the first of these questions, in order, and have answers to these.
pub record RowsFit (questions : List Question) (rows : List Row) : Type 0 where
  pub asked : map (λ (row : Row). row.question) rows ≡ take (length rows) questions
  pub answered : AllByRecursion HasAnswer rows

-- no more went out than there are questions
pub rows_few : (questions : List Question) (rows : List Row) → RowsFit questions rows → length rows ≤ length questions
rows_few questions rows fit =
    omega (
      arith,
      length-map rows (λ (row : Row). row.question),
      ap length fit.asked,
      length-take (length rows) questions,
    )

fit_asked : (conduct : Conduct) (questions : List Question) → IsListed conduct questions
    → (rows : List Row) (question : Question) (number : ℕ) → ComesNext conduct rows question → RowsFit questions rows
    → RowsFit questions (rows ++ record { question = question; number = number; answer = None } ∷ [])
fit_asked conduct questions listed rows question number next fit =
    let row : Row = record { question = question; number = number; answer = None } in
    let at : slice_get questions (length rows) ≡ Some question =
    ap (slice_get questions) (sym (length-map rows (λ (row : Row). row.answer)))
    ∙ (sym (listed (answers_of rows)) ∙ next.is) in
    let more : suc (length rows) ≡ length (rows ++ row ∷ []) = omega (arith, length-append rows (row ∷ [])) in
    record {
      asked = map-append (λ (row : Row). row.question) rows (row ∷ [])
          ∙ (ap (λ (qs : List Question). qs ++ question ∷ []) fit.asked
          ∙ (sym (take_next questions (length rows) question at)
          ∙ ap (λ n. take n questions) more));
      answered = all_append HasAnswer rows (row ∷ []) fit.answered ((λ answer is. absurd (cc)), tt);
    }

fit_answered : (questions : List Question) (rows : List Row) (message : List ℕ) (rows' : List Row)
    → IsFilled rows message rows' → RowsFit questions rows → RowsFit questions rows'
fit_answered questions rows message rows' f fit =
    let same = filled_map (λ (row : Row). row.question) rows message rows' (λ row answer. refl) f in
    let parts = all_parts HasAnswer f.front (f.row ∷ f.back) (subst (AllByRecursion HasAnswer) f.before fit.answered) in
    record {
      asked = same ∙ (fit.asked ∙ ap (λ n. take n questions) (sym (filled_long rows message rows' f)));
      answered = subst (AllByRecursion HasAnswer) (sym f.after)
          (all_append HasAnswer f.front (with_answer f.row f.answer ∷ f.back) parts.0
          ((λ answer is. (message, f.answers ∙ is)), parts.1.1));
    }

fit_kept : (conduct : Conduct) (questions : List Question) → IsListed conduct questions
    → RowsKept conduct (RowsFit questions)
fit_kept conduct questions listed = record {
  none = record { asked = refl; answered = tt };
  asked = fit_asked conduct questions listed;
  answered = fit_answered questions;
}

-- the telegrams that went out follow the questions of the plan
pub rows_fit : (origin : Origin) (questions : List Question) → IsListed (conduct_of origin) questions → (b : List ℕ)
    → RowsFit questions (course origin b).rows
rows_fit origin questions listed b =
    course_rows origin (RowsFit questions) (fit_kept (conduct_of origin) questions listed) b

-- and so do those of a job that asks the questions of a list
pub listed_fit : (origin : Origin) (granted : Grant) (questions : List Question) (refusal : Answer → Option ℕ)
    (number : ℕ → ℕ → ℕ) (finished : List (Option Answer) → End)
    → plan_of origin.job origin.config origin.granted ≡ listed granted questions refusal number finished → (b : List ℕ)
    → RowsFit questions (course origin b).rows
listed_fit origin granted questions refusal number finished is b =
    rows_fit origin questions (λ answers. ap (λ (plan : Plan). plan.conduct.question_at answers) is) b
