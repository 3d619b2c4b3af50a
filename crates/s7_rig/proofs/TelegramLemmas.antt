-- The telegrams of a job, and what is asked behind them.
use Rattle.std.proofs.Common.{◌≡◌, ℕ, ◌+◌, ◌<◌, Bool, true, false, cond, eqb, Option, None, Some, List, [], ◌∷◌, ◌++◌, length, refl, ap, sym, ◌∙◌, subst, arith, length-append}
use Rattle.std.specs.List.{AllByRecursion, flat_map}
use Rattle.std.proofs.lemmas.Bool.{eqb-false, ne_eqb}
use Rattle.std.proofs.lemmas.List.{length-map}
use Rattle.s7_wire.specs.Sent.{sent_messages}
use Rattle.s7_dialogue.specs.Answer.{Answer, answer_of}
use Rattle.s7_dialogue.specs.Flight.{Row, answers_of, open_count, filled}
use Rattle.s7_dialogue.specs.Dialogue.{Conduct}
use Rattle.s7_dialogue.specs.Course.{Course, for_answers, for_nothing, next_question, next_sequence, asking}
use Rattle.s7_dialogue.specs.Question.{is_numbered}
use Rattle.s7_dialogue.proofs.FlightLemmas.{IsOpen, IsAnswered, none_open, all_open, open_append, comes_next, AreNext, last_number, asks_on, nothing_more, row_messages, with_answer, filled_first}
use Rattle.s7_rig.proofs.Awaiting.{telegrams_of, AreAsked, awaits_with}
use Rattle.s7_rig.proofs.Conversing.{Exchange, rows_of}

-- ---- questions that are out

-- a question is unanswered, under a sequence that fits its field
pub record IsOut (row : Row) : Type 0 where
  pub unanswered : row.answer ≡ None
  pub low : row.number < 65536

abbrev pub AreOut : List Row → Type 0
AreOut rows = AllByRecursion IsOut rows

are_open : (rows : List Row) → AreOut rows → AllByRecursion IsOpen rows
are_open [] out = tt
are_open (row ∷ rows) out = (out.0.unanswered, are_open rows out.1)

each_answered : (xs : List Exchange) → AllByRecursion IsAnswered (rows_of xs)
each_answered [] = tt
each_answered (x ∷ xs) = ((x.answer, refl), each_answered xs)

-- exchanges are answered
pub open_none : (xs : List Exchange) → open_count (rows_of xs) ≡ 0
open_none xs = none_open (rows_of xs) (each_answered xs)

-- behind them those that are out are all that is unanswered
pub open_behind : (xs : List Exchange) (rows : List Row) → AreOut rows
    → open_count (rows_of xs ++ rows) ≡ length rows
open_behind xs rows out = omega (arith, open_append (rows_of xs) rows, open_none xs, all_open rows (are_open rows out))

-- what is awaited, by how many are unanswered
pub awaits_more : (c : Conduct) (rows : List Row) → 0 < open_count rows → awaits_with c rows ≡ for_answers
awaits_more c rows some =
    ap (λ t. cond t (for_nothing (c.ended (answers_of rows)) []) for_answers)
    (ne_eqb (open_count rows) 0 (λ e. omega (arith, e, some)))

pub awaits_none : (c : Conduct) (rows : List Row) → open_count rows ≡ 0
    → awaits_with c rows ≡ for_nothing (c.ended (answers_of rows)) []
awaits_none c rows none = ap (λ n. cond (eqb n 0) (for_nothing (c.ended (answers_of rows)) []) for_answers) none

-- an answer to the first of them is taken as its answer
pub filled_behind : (xs : List Exchange) (row : Row) (later : List Row) (message : List ℕ) (answer : Answer)
    → row.answer ≡ None → answer_of row.question row.number message ≡ Some answer
    → filled (rows_of xs ++ row ∷ later) message ≡ Some (rows_of xs ++ with_answer row answer ∷ later)
filled_behind xs row later message answer unanswered is =
    filled_first (rows_of xs) later row message answer (open_none xs) unanswered is

-- ---- what is asked

pub asked_at : (c : Conduct) (k : ℕ) (xs : List Row) (row : Row) (ys : List Row) → AreAsked c k (xs ++ row ∷ ys)
    → (answers : List (Option Answer)) × (c.question_at answers ≡ Some row.question)
asked_at c k [] row ys asked = (asked.0.answers, asked.0.asks)
asked_at c k (x ∷ xs) row ys asked = asked_at c (k + 1) xs row ys asked.1

pub asked_both : (c : Conduct) (k : ℕ) (xs ys : List Row) → AreAsked c k xs → AreAsked c (k + length xs) ys
    → AreAsked c k (xs ++ ys)
asked_both c k [] ys asked others = subst (λ n. AreAsked c n ys) (omega arith) others
asked_both c k (x ∷ xs) ys asked others =
    (asked.0, asked_both c (k + 1) xs ys asked.1 (subst (λ n. AreAsked c n ys) (omega arith) others))

-- whatever was answered
pub asked_filled : (c : Conduct) (k : ℕ) (xs : List Row) (row : Row) (answer : Answer) (ys : List Row)
    → AreAsked c k (xs ++ row ∷ ys) → AreAsked c k (xs ++ with_answer row answer ∷ ys)
asked_filled c k [] row answer ys asked = asked
asked_filled c k (x ∷ xs) row answer ys asked = (asked.0, asked_filled c (k + 1) xs row answer ys asked.1)

next_asked : (c : Conduct) (rows : List Row) (sequence : ℕ) (new : List Row) → AreNext c rows sequence new
    → AreAsked c (length rows) new
next_asked c rows sequence [] next = tt
next_asked c rows sequence (row ∷ new) next =
    let comes = comes_next c rows row.question next.0.question in (
      record { answers = answers_of rows; long = length-map rows _; asks = comes.is },
      subst (λ n. AreAsked c n new) (length-append rows (row ∷ []))
          (next_asked c (rows ++ row ∷ []) row.number new next.1),
    )

low_next : (s : ℕ) (last : Bool) → eqb s 65535 ≡ last → s < 65536 → cond last 1 (s + 1) < 65536
low_next s true e low = omega arith
low_next s false e low =
    let other = eqb-false s 65535 e in
    omega (arith, low, other)

low_behind : (s : ℕ) (numbered : Bool) → s < 65536 → cond numbered (next_sequence s) s < 65536
low_behind s true low = low_next s (eqb s 65535) refl low
low_behind s false low = low

next_out : (c : Conduct) (rows : List Row) (sequence : ℕ) (new : List Row) → AreNext c rows sequence new
    → sequence < 65536 → AreOut new × (last_number sequence new < 65536)
next_out c rows sequence [] next low = (tt, low)
next_out c rows sequence (row ∷ new) next low =
    let low_too = low_behind sequence (is_numbered row.question) low in
    let here : row.number < 65536 = subst (λ n. n < 65536) (sym next.0.number) low_too in
    let others = next_out c (rows ++ row ∷ []) row.number new next.1 here in
    ((record { unanswered = next.0.unanswered; low = here }, others.0), others.1)

-- All that may be asked was asked behind the rows of before, in TPDUs of 1,024 octets.
pub record AsksAll (c : Conduct) (before after : Course) : Type 0 where
  pub new : List Row
  pub are_out : AreOut new
  pub asked : AreAsked c (length before.rows) new
  pub rows : after.rows ≡ before.rows ++ new
  pub out : after.out ≡ before.out ++ telegrams_of new
  pub size : after.size ≡ 1024
  pub unfinished : after.unfinished ≡ before.unfinished
  pub sequence : after.sequence < 65536
  pub none_more : next_question c after.rows ≡ None
  pub awaits : after.awaits ≡ awaits_with c after.rows

pub asks_all : (c : Conduct) (course : Course) → course.size ≡ 1024 → course.sequence < 65536
    → AsksAll c course (asking c course)
asks_all c course size low =
    let on = asks_on c.width c course in
    let out = next_out c course.rows course.sequence on.new on.each low in
    record {
      new = on.new;
      are_out = out.0;
      asked = next_asked c course.rows course.sequence on.new on.each;
      rows = on.rows;
      out = on.out ∙ ap (λ n. course.out ++ sent_messages n (flat_map row_messages on.new)) size;
      size = on.size ∙ size;
      unfinished = on.unfinished;
      sequence = subst (λ n. n < 65536) (sym on.sequence) out.1;
      none_more = nothing_more c course;
      awaits = refl;
    }
