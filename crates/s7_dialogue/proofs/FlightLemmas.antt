-- Laws of telegrams in flight: what asking on adds to them, and which of them a message fills.
use Rattle.std.proofs.Common.{◌≡◌, ◌⊎◌, inl, inr, ℕ, zero, suc, ◌+◌, ◌<◌, ◌≤◌, Bool, true, false, cond, eqb, ltb, Option, Some, None, List, [], ◌∷◌, ◌++◌, map, length, refl, sym, ap, ◌∙◌, append_assoc, arith}
use Rattle.std.specs.Prelude.{◌&&◌, is_none, option_map}
use Rattle.std.specs.List.{AllByRecursion, flat_map}
use Rattle.std.proofs.lemmas.Bool.{eqb-true, ne_eqb, ltb-true, lt-ltb, le-ltb}
use Rattle.std.proofs.lemmas.List.{append-nil, length-map}
use Rattle.std.proofs.lemmas.List.Concat.{flat_map-append}
use Rattle.s7_wire.specs.Sent.{sent_message, sent_messages}
use Rattle.s7_dialogue.specs.Question.{Question, messages_of}
use Rattle.s7_dialogue.specs.Answer.{Answer, answer_of}
use Rattle.s7_dialogue.specs.Flight.{Row, answers_of, open_count, answer_to, filled_by, filled}
use Rattle.s7_dialogue.specs.Dialogue.{End, Conduct, first_refusal}
use Rattle.s7_dialogue.specs.Course.{Course, for_answers, for_nothing, next_question, sequence_behind, asked, if_some, asked_on, settled, asking}

-- general
pub same_some : {A : Type 0} (x y : A) → Some x ≡ Some y → x ≡ y
same_some x y e = cc

-- ---- unanswered telegrams

abbrev pub IsOpen : Row → Type 0
IsOpen row = row.answer ≡ None

abbrev pub IsAnswered : Row → Type 0
IsAnswered row = (answer : Answer) × (row.answer ≡ Some answer)

pub open_append : (rows more : List Row) → open_count (rows ++ more) ≡ open_count rows + open_count more
unfolding open_count
open_append [] more = omega arith
open_append (row ∷ rows) more = omega (arith, open_append rows more)

counted : (answer : Option Answer) (n : ℕ) → cond (is_none answer) 1 0 + n ≡ 0
    → ((a : Answer) × (answer ≡ Some a)) × (n ≡ 0)
counted None n none = absurd (omega (arith, none))
counted (Some a) n none = ((a, refl), omega (arith, none))

pub all_answered : (rows : List Row) → open_count rows ≡ 0 → AllByRecursion IsAnswered rows
unfolding open_count
all_answered [] none = tt
all_answered (row ∷ rows) none =
    let both = counted row.answer (open_count rows) none in (both.0, all_answered rows both.1)

pub none_open : (rows : List Row) → AllByRecursion IsAnswered rows → open_count rows ≡ 0
unfolding open_count
none_open [] each = refl
none_open (row ∷ rows) each =
    let rest = none_open rows each.1 in ap (λ o. cond (is_none o) 1 0 + open_count rows) each.0.1 ∙ omega (arith, rest)

pub all_open : (rows : List Row) → AllByRecursion IsOpen rows → open_count rows ≡ length rows
unfolding open_count
all_open [] each = refl
all_open (row ∷ rows) each =
    let rest = all_open rows each.1 in ap (λ o. cond (is_none o) 1 0 + open_count rows) each.0 ∙ omega (arith, rest)

-- ---- what may be asked next

by_width : (b known : Bool) (next : Option Question) → b ≡ false → cond (b && known) next None ≡ None
by_width true known next full = absurd (cc)
by_width false known next full = refl

pub none_next : (c : Conduct) (rows : List Row) → c.width ≤ open_count rows → next_question c rows ≡ None
none_next c rows full =
    by_width (ltb (open_count rows) c.width) (is_none (first_refusal c.refusal 0 (answers_of rows)))
    (c.question_at (answers_of rows)) (le-ltb (open_count rows) c.width full)

-- a question that comes next: fewer are unanswered than may be, and no answer refuses
pub record ComesNext (c : Conduct) (rows : List Row) (question : Question) : Type 0 where
  pub fewer : open_count rows < c.width
  pub unrefused : first_refusal c.refusal 0 (answers_of rows) ≡ None
  pub is : c.question_at (answers_of rows) ≡ Some question

next_parts : (less : Bool) (refused : Option (ℕ × ℕ)) (next : Option Question) (question : Question)
    → cond (less && is_none refused) next None ≡ Some question
    → (less ≡ true) × (refused ≡ None) × (next ≡ Some question)
next_parts true None next question is = (refl, refl, is)
next_parts true (Some r) next question is = absurd (cc)
next_parts false refused next question is = absurd (cc)

pub comes_next : (c : Conduct) (rows : List Row) (question : Question) → next_question c rows ≡ Some question
    → ComesNext c rows question
comes_next c rows question is =
    let parts = next_parts (ltb (open_count rows) c.width) (first_refusal c.refusal 0 (answers_of rows))
    (c.question_at (answers_of rows)) question is in
    record { fewer = ltb-true (open_count rows) c.width parts.0; unrefused = parts.1; is = parts.2 }

last_parts : (less : Bool) (refused : Option (ℕ × ℕ)) (next : Option Question) → less ≡ true → refused ≡ None
    → cond (less && is_none refused) next None ≡ None → next ≡ None
last_parts true None next may unrefused none = none
last_parts true (Some r) next may unrefused none = absurd (cc)
last_parts false refused next may unrefused none = absurd (cc)

-- where nothing may be asked, although no answer refuses and more may be unanswered, nothing is left to ask
pub nothing_left : (c : Conduct) (rows : List Row) → open_count rows < c.width
    → first_refusal c.refusal 0 (answers_of rows) ≡ None → next_question c rows ≡ None
    → c.question_at (answers_of rows) ≡ None
nothing_left c rows fewer unrefused none =
    last_parts (ltb (open_count rows) c.width) (first_refusal c.refusal 0 (answers_of rows))
    (c.question_at (answers_of rows)) (lt-ltb (open_count rows) c.width fewer) unrefused none

-- ---- asking on

if_some_keeps : (P : Course → Type 0) (next : Option Question) (course : Course) (later : Question → Course)
    → (next ≡ None → P course) → ((question : Question) → next ≡ Some question → P (later question))
    → P (if_some next course later)
if_some_keeps P None course later here there = here refl
if_some_keeps P (Some question) course later here there = there question refl

-- what each question that may be asked keeps is kept
pub asked_on_keeps : (P : Course → Type 0) (c : Conduct)
    → ((course : Course) (question : Question) → next_question c course.rows ≡ Some question → P course
    → P (asked course question))
    → (n : ℕ) (course : Course) → P course → P (asked_on n c course)
unfolding asked_on
asked_on_keeps P c keeps zero course p = p
asked_on_keeps P c keeps (suc n) course p =
    if_some_keeps P (next_question c course.rows) course _ (λ none. p)
    (λ question next. asked_on_keeps P c keeps n (asked course question) (keeps course question next p))

-- the messages that went out for a question
abbrev pub row_messages : Row → List (List ℕ)
row_messages row = messages_of row.number row.question

-- a question that may go out after these, behind the last of which the sequence is this
pub record IsNext (c : Conduct) (rows : List Row) (sequence : ℕ) (row : Row) : Type 0 where
  pub question : next_question c rows ≡ Some row.question
  pub number : row.number ≡ sequence_behind sequence row.question
  pub unanswered : row.answer ≡ None

abbrev pub AreNext : Conduct → List Row → ℕ → List Row → Type 0
AreNext c rows sequence [] = Unit {0}
AreNext c rows sequence (row ∷ new) = IsNext c rows sequence row × AreNext c (rows ++ row ∷ []) row.number new

-- the sequence behind the last question
abbrev pub last_number : ℕ → List Row → ℕ
last_number sequence [] = sequence
last_number sequence (row ∷ new) = last_number row.number new

pub next_open : (c : Conduct) (rows : List Row) (sequence : ℕ) (new : List Row) → AreNext c rows sequence new
    → AllByRecursion IsOpen new
next_open c rows sequence [] next = tt
next_open c rows sequence (row ∷ new) next =
    (next.0.unanswered, next_open c (rows ++ row ∷ []) row.number new next.1)

-- What asking on adds to a course: new telegrams, one after another.
pub record AsksOn (c : Conduct) (before after : Course) : Type 0 where
  pub new : List Row
  pub rows : after.rows ≡ before.rows ++ new
  pub each : AreNext c before.rows before.sequence new
  pub out : after.out ≡ before.out ++ sent_messages before.size (flat_map row_messages new)
  pub sequence : after.sequence ≡ last_number before.sequence new
  pub size : after.size ≡ before.size
  pub unfinished : after.unfinished ≡ before.unfinished
  pub awaits : after.awaits ≡ before.awaits

asks_nothing : (c : Conduct) (course : Course) → AsksOn c course course
asks_nothing c course = record {
  new = [];
  rows = sym (append-nil course.rows);
  each = tt;
  out = sym (append-nil course.out);
  sequence = refl;
  size = refl;
  unfinished = refl;
  awaits = refl;
}

-- the telegram with a question
abbrev pub row_asked : Course → Question → Row
row_asked course question =
    record { question = question; number = sequence_behind course.sequence question; answer = None }

asks_first : (c : Conduct) (course after : Course) (question : Question)
    → next_question c course.rows ≡ Some question → AsksOn c (asked course question) after → AsksOn c course after
asks_first c course after question next on = record {
  new = row_asked course question ∷ on.new;
  rows = on.rows ∙ append_assoc course.rows (row_asked course question ∷ []) on.new;
  each = (record { question = next; number = refl; unanswered = refl }, on.each);
  out = on.out
      ∙ (append_assoc course.out (sent_messages course.size (row_messages (row_asked course question)))
      (sent_messages course.size (flat_map row_messages on.new))
      ∙ ap (λ sent. course.out ++ sent)
      (sym (flat_map-append (sent_message course.size) (row_messages (row_asked course question))
      (flat_map row_messages on.new))));
  sequence = on.sequence;
  size = on.size;
  unfinished = on.unfinished;
  awaits = on.awaits;
}

pub asks_on : (n : ℕ) (c : Conduct) (course : Course) → AsksOn c course (asked_on n c course)
unfolding asked_on
asks_on zero c course = asks_nothing c course
asks_on (suc n) c course =
    if_some_keeps (AsksOn c course) (next_question c course.rows) course _ (λ none. asks_nothing c course)
    (λ question next. asks_first c course (asked_on n c (asked course question)) question next
    (asks_on n c (asked course question)))

pub asked_open : (course : Course) (question : Question)
    → open_count (asked course question).rows ≡ open_count course.rows + 1
unfolding open_count
asked_open course question = open_append course.rows (row_asked course question ∷ [])

-- each new telegram is unanswered
pub asks_open : (c : Conduct) (before after : Course) (on : AsksOn c before after)
    → open_count after.rows ≡ open_count before.rows + length on.new
asks_open c before after on =
    ap open_count on.rows
    ∙ (open_append before.rows on.new
    ∙ ap (λ n. open_count before.rows + n) (all_open on.new (next_open c before.rows before.sequence on.new on.each)))

enough_asked : (n : ℕ) (c : Conduct) (course : Course) → c.width ≤ n + open_count course.rows
    → next_question c (asked_on n c course).rows ≡ None
unfolding asked_on
enough_asked zero c course enough = none_next c course.rows (omega (arith, enough))
enough_asked (suc n) c course enough =
    if_some_keeps (λ (after : Course). next_question c after.rows ≡ None) (next_question c course.rows) course _
    (λ none. none)
    (λ question next. enough_asked n c (asked course question)
    (omega (arith, enough, asked_open course question)))

-- once all that may be asked was asked, nothing may be asked
pub nothing_more : (c : Conduct) (course : Course) → next_question c (asked_on c.width c course).rows ≡ None
nothing_more c course = enough_asked c.width c course (omega arith)

-- ---- the end

pub settled_waits : (c : Conduct) (course : Course) → 0 < open_count course.rows
    → (settled c course).awaits ≡ for_answers
settled_waits c course some =
    ap (λ b. cond b (for_nothing (c.ended (answers_of course.rows)) []) for_answers)
    (ne_eqb (open_count course.rows) 0 (λ e. omega (arith, e, some)))

pub settled_ends : (c : Conduct) (course : Course) → open_count course.rows ≡ 0
    → (settled c course).awaits ≡ for_nothing (c.ended (answers_of course.rows)) []
settled_ends c course none =
    ap (λ n. cond (eqb n 0) (for_nothing (c.ended (answers_of course.rows)) []) for_answers) none

over_by : (b : Bool) (end other : End) (carried : List ℕ)
    → cond b (for_nothing end []) for_answers ≡ for_nothing other carried
    → (b ≡ true) × (other ≡ end) × (carried ≡ [])
over_by true end other carried is = (refl, cc, cc)
over_by false end other carried is = absurd (cc)

-- A job that is over by its answers: all are there, and an answer refuses or nothing was left to ask.
pub record IsEnded (c : Conduct) (rows : List Row) (end : End) (carried : List ℕ) : Type 0 where
  pub is : end ≡ c.ended (answers_of rows)
  pub answered : open_count rows ≡ 0
  pub last : 0 < c.width → first_refusal c.refusal 0 (answers_of rows) ≡ None → c.question_at (answers_of rows) ≡ None
  pub none : carried ≡ []

ended_by : (c : Conduct) (rows : List Row) (end : End) (carried : List ℕ) → next_question c rows ≡ None
    → cond (eqb (open_count rows) 0) (for_nothing (c.ended (answers_of rows)) []) for_answers ≡ for_nothing end carried
    → IsEnded c rows end carried
ended_by c rows end carried none is =
    let parts = over_by (eqb (open_count rows) 0) (c.ended (answers_of rows)) end carried is in
    let answered : open_count rows ≡ 0 = eqb-true (open_count rows) 0 parts.0 in
    record {
      is = parts.1;
      answered = answered;
      last = λ some unrefused. nothing_left c rows (omega (arith, some, answered)) unrefused none;
      none = parts.2;
    }

pub asking_ends : (c : Conduct) (course : Course) (end : End) (carried : List ℕ)
    → (asking c course).awaits ≡ for_nothing end carried → IsEnded c (asking c course).rows end carried
asking_ends c course end carried is =
    ended_by c (asked_on c.width c course).rows end carried (nothing_more c course) is

refused_or : (refused : Option (ℕ × ℕ)) (P : Type 0) → (refused ≡ None → P) → P ⊎ ((r : ℕ × ℕ) × (refused ≡ Some r))
refused_or None P so = inl (so refl)
refused_or (Some r) P so = inr (r, refl)

-- either nothing was left to ask, or an answer refuses
pub ended_why : (c : Conduct) (rows : List Row) (end : End) (carried : List ℕ) → 0 < c.width
    → IsEnded c rows end carried
    → (c.question_at (answers_of rows) ≡ None)
    ⊎ ((r : ℕ × ℕ) × (first_refusal c.refusal 0 (answers_of rows) ≡ Some r))
ended_why c rows end carried some ended =
    refused_or (first_refusal c.refusal 0 (answers_of rows)) (c.question_at (answers_of rows) ≡ None) (ended.last some)

-- ---- the row that a message fills

-- the message is no answer to this telegram, where it is unanswered
abbrev pub PassesBy : List ℕ → Row → Type 0
PassesBy message row = row.answer ≡ None → answer_of row.question row.number message ≡ None

abbrev pub with_answer : Row → Answer → Row
with_answer row answer = record row { answer = Some answer }

-- The message answers one of these telegrams, the first unanswered one that it answers.
pub record IsFilled (rows : List Row) (message : List ℕ) (rows' : List Row) : Type 0 where
  pub front : List Row
  pub row : Row
  pub back : List Row
  pub answer : Answer
  pub before : rows ≡ front ++ row ∷ back
  pub after : rows' ≡ front ++ with_answer row answer ∷ back
  pub unanswered : row.answer ≡ None
  pub answers : answer_of row.question row.number message ≡ Some answer
  pub first : AllByRecursion (PassesBy message) front

answer_parts : (known told : Option Answer) (answer : Answer) → cond (is_none known) told None ≡ Some answer
    → (known ≡ None) × (told ≡ Some answer)
answer_parts None told answer is = (refl, is)
answer_parts (Some a) told answer is = absurd (cc)

answer_none : (known told : Option Answer) → cond (is_none known) told None ≡ None → known ≡ None → told ≡ None
answer_none None told none unanswered = none
answer_none (Some a) told none unanswered = absurd (cc)

filled_here : (row : Row) (rows rows' : List Row) (message : List ℕ) (answer : Answer)
    → answer_to row message ≡ Some answer → with_answer row answer ∷ rows ≡ rows' → IsFilled (row ∷ rows) message rows'
filled_here row rows rows' message answer told is =
    let parts = answer_parts row.answer (answer_of row.question row.number message) answer told in
    record {
      front = [];
      row = row;
      back = rows;
      answer = answer;
      before = refl;
      after = sym is;
      unanswered = parts.0;
      answers = parts.1;
      first = tt;
    }

filled_later : (row : Row) (rows others rows' : List Row) (message : List ℕ) → answer_to row message ≡ None
    → IsFilled rows message others → row ∷ others ≡ rows' → IsFilled (row ∷ rows) message rows'
filled_later row rows others rows' message told f is = record {
  front = row ∷ f.front;
  row = f.row;
  back = f.back;
  answer = f.answer;
  before = ap (λ xs. row ∷ xs) f.before;
  after = sym is ∙ ap (λ xs. row ∷ xs) f.after;
  unanswered = f.unanswered;
  answers = f.answers;
  first = (answer_none row.answer (answer_of row.question row.number message) told, f.first);
}

filled_if : (row : Row) (rows rows' : List Row) (message : List ℕ) (told : Option Answer) (later : Option (List Row))
    → answer_to row message ≡ told → ((others : List Row) → later ≡ Some others → IsFilled rows message others)
    → filled_by row rows told later ≡ Some rows' → IsFilled (row ∷ rows) message rows'
filled_if row rows rows' message (Some answer) later told on is =
    filled_here row rows rows' message answer told (same_some (with_answer row answer ∷ rows) rows' is)
filled_if row rows rows' message None None told on is = absurd (cc)
filled_if row rows rows' message None (Some others) told on is =
    filled_later row rows others rows' message told (on others refl) (same_some (row ∷ others) rows' is)

pub filled_is : (rows : List Row) (message : List ℕ) (rows' : List Row) → filled rows message ≡ Some rows'
    → IsFilled rows message rows'
unfolding filled
filled_is [] message rows' is = absurd (cc)
filled_is (row ∷ rows) message rows' is =
    filled_if row rows rows' message (answer_to row message) (filled rows message) refl
    (λ others e. filled_is rows message others e) is

-- where it fills none it answers no unanswered telegram
none_if : (row : Row) (rows : List Row) (message : List ℕ) (told : Option Answer) (later : Option (List Row))
    → answer_to row message ≡ told → (later ≡ None → AllByRecursion (PassesBy message) rows)
    → filled_by row rows told later ≡ None → AllByRecursion (PassesBy message) (row ∷ rows)
none_if row rows message (Some answer) later told on is = absurd (cc)
none_if row rows message None None told on is =
    (answer_none row.answer (answer_of row.question row.number message) told, on refl)
none_if row rows message None (Some others) told on is = absurd (cc)

pub filled_none : (rows : List Row) (message : List ℕ) → filled rows message ≡ None
    → AllByRecursion (PassesBy message) rows
unfolding filled
filled_none [] message is = tt
filled_none (row ∷ rows) message is =
    none_if row rows message (answer_to row message) (filled rows message) refl (filled_none rows message) is

passes_none : (known told : Option Answer) → (known ≡ None → told ≡ None) → cond (is_none known) told None ≡ None
passes_none None told passes = passes refl
passes_none (Some a) told passes = refl

answered_by : (row : Row) (message : List ℕ) (answer : Answer) → row.answer ≡ None
    → answer_of row.question row.number message ≡ Some answer → answer_to row message ≡ Some answer
answered_by row message answer unanswered answers =
    ap (λ o. cond (is_none o) (answer_of row.question row.number message) None) unanswered ∙ answers

-- the first unanswered telegram that it answers is filled
pub filled_at : (front back : List Row) (row : Row) (message : List ℕ) (answer : Answer)
    → AllByRecursion (PassesBy message) front → row.answer ≡ None
    → answer_of row.question row.number message ≡ Some answer
    → filled (front ++ row ∷ back) message ≡ Some (front ++ with_answer row answer ∷ back)
unfolding filled
filled_at [] back row message answer first unanswered answers =
    ap (λ o. filled_by row back o (filled back message)) (answered_by row message answer unanswered answers)
filled_at (r ∷ front) back row message answer first unanswered answers =
    ap (λ o. filled_by r (front ++ row ∷ back) o (filled (front ++ row ∷ back) message))
    (passes_none r.answer (answer_of r.question r.number message) first.0)
    ∙ ap (λ (o : Option (List Row)). option_map (λ (others : List Row). r ∷ others) o)
    (filled_at front back row message answer first.1 unanswered answers)

pub fills : (rows : List Row) (message : List ℕ) (rows' : List Row) → IsFilled rows message rows'
    → filled rows message ≡ Some rows'
fills rows message rows' f =
    ap (λ rs. filled rs message) f.before
    ∙ (filled_at f.front f.back f.row message f.answer f.first f.unanswered f.answers
    ∙ ap (λ (rs : List Row). Some rs) (sym f.after))

pub answered_pass : (message : List ℕ) (rows : List Row) → AllByRecursion IsAnswered rows
    → AllByRecursion (PassesBy message) rows
answered_pass message [] each = tt
answered_pass message (row ∷ rows) each =
    ((λ unanswered. let known = each.0.1 in absurd (cc)), answered_pass message rows each.1)

-- answers that come in order fill one telegram after another
pub filled_first : (front back : List Row) (row : Row) (message : List ℕ) (answer : Answer) → open_count front ≡ 0
    → row.answer ≡ None → answer_of row.question row.number message ≡ Some answer
    → filled (front ++ row ∷ back) message ≡ Some (front ++ with_answer row answer ∷ back)
filled_first front back row message answer none unanswered answers =
    filled_at front back row message answer (answered_pass message front (all_answered front none)) unanswered answers

open_with : (row : Row) (answer : Answer) (back : List Row) → row.answer ≡ None
    → open_count (row ∷ back) ≡ open_count (with_answer row answer ∷ back) + 1
unfolding open_count
open_with row answer back unanswered =
    ap (λ o. cond (is_none o) 1 0 + open_count back) unanswered ∙ omega arith

-- one less is unanswered
pub filled_open : (rows : List Row) (message : List ℕ) (rows' : List Row) → IsFilled rows message rows'
    → open_count rows ≡ open_count rows' + 1
filled_open rows message rows' f =
    let old = ap open_count f.before ∙ open_append f.front (f.row ∷ f.back) in
    let new = ap open_count f.after ∙ open_append f.front (with_answer f.row f.answer ∷ f.back) in
    omega (arith, old, new, open_with f.row f.answer f.back f.unanswered)

-- and all else of the telegrams stays
same_mapped : {A : Type 0} (f : Row → A) (front back : List Row) (row : Row) (answer : Answer)
    → f (with_answer row answer) ≡ f row → map f (front ++ with_answer row answer ∷ back) ≡ map f (front ++ row ∷ back)
same_mapped f [] back row answer same = ap (λ x. x ∷ map f back) same
same_mapped f (r ∷ front) back row answer same = ap (λ xs. f r ∷ xs) (same_mapped f front back row answer same)

pub filled_map : {A : Type 0} (f : Row → A) (rows : List Row) (message : List ℕ) (rows' : List Row)
    → ((row : Row) (answer : Answer) → f (with_answer row answer) ≡ f row) → IsFilled rows message rows'
    → map f rows' ≡ map f rows
filled_map f rows message rows' same i =
    ap (map f) i.after ∙ (same_mapped f i.front i.back i.row i.answer (same i.row i.answer) ∙ sym (ap (map f) i.before))

pub filled_long : (rows : List Row) (message : List ℕ) (rows' : List Row) → IsFilled rows message rows'
    → length rows' ≡ length rows
filled_long rows message rows' f =
    sym (length-map rows' (λ (row : Row). row.question))
    ∙ (ap length (filled_map (λ (row : Row). row.question) rows message rows' (λ row answer. refl) f)
    ∙ length-map rows (λ (row : Row). row.question))
