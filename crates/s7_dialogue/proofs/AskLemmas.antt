-- Lemmas on jobs that ask: the next question goes out.
use Rattle.std.proofs.Common.{◌≡◌, ℕ, zero, suc, ◌+◌, ◌-◌, ◌<◌, ◌≤◌, Bool, true, false, cond, ltb, Option, Some, None, List, [], ◌∷◌, ◌++◌, length, map, drop, refl, sym, ap, ◌∙◌, subst, append_assoc, arith}
use Rattle.std.specs.Prelude.{◌&&◌, slice_get, is_none, replicate}
use Rattle.std.specs.List.{flat_map}
use Rattle.std.proofs.lemmas.Bool.{ltb-true, lt-ltb}
use Rattle.std.proofs.lemmas.List.{length-append, length-map, map-append, append-nil, drop-drop, drop-append-le, nil_from_length, replicate-append-replicate, take_all, length-replicate}
use Rattle.std.proofs.lemmas.List.Concat.{flat_map-append}
use Rattle.s7_wire.specs.Sent.{sent_message, sent_messages}
use Rattle.s7_item.specs.declared.item.Item.{Item}
use Rattle.s7_item.specs.Item.{octet_count}
use Rattle.s7_dialogue.specs.declared.config.Config.{Config}
use Rattle.s7_dialogue.specs.declared.grant.Grant.{Grant}
use Rattle.s7_dialogue.specs.declared.job.Job.{Job}
use Rattle.s7_dialogue.specs.declared.answers.answer.Asked.{Asked}
use Rattle.s7_dialogue.specs.declared.answers.answer.Asked.TheVariants as asked
use Rattle.s7_dialogue.specs.declared.stages.flight.Flight.{Flight}
use Rattle.s7_dialogue.specs.declared.questions.left.Left.{Left}
use Rattle.s7_dialogue.specs.declared.questions.left.Left.TheVariants as left
use Rattle.s7_dialogue.specs.declared.stages.asking.Asking.{Asking}
use Rattle.s7_dialogue.specs.declared.stages.asking.Refused.{Refused}
use Rattle.s7_dialogue.specs.declared.stages.running.Stage.TheVariants as stage
use Rattle.s7_dialogue.specs.Question.{Question, question_octets, messages_of}
use Rattle.s7_dialogue.specs.Answer.{Answer}
use Rattle.s7_dialogue.specs.Flight.{Row, answers_of, open_count}
use Rattle.s7_dialogue.specs.Checks.{octet_count_of}
use Rattle.s7_dialogue.specs.Left.{groups_in, questions_left, octets_left, items_left, items_asked, TakesNext}
use Rattle.s7_dialogue.specs.Dialogue.{Conduct, first_or, first_refusal, plan_of, read_questions, write_questions}
use Rattle.s7_dialogue.specs.Course.{Course, next_sequence, next_question, if_some, asked as asked_course, asked_on}
use Rattle.s7_dialogue.specs.Stages.{octets_of, question_of, message_of, unput_by}
use Rattle.s7_dialogue.specs.Asks.{asked_of, items_of, Spot, first_spot, spot_past, spot_behind, spot_of, flight_at, if_open, flights_of, questions_behind, Asks, Pushes, AsksNext, MayAskNone, refused_at}
use Rattle.s7_dialogue.specs.GoesOn.{questions_of, refusal_of, conducted, filled_up, octets_at_places, octets_of_row, codes_of_row, octets_so_far, codes_so_far, brings_octets, brings_codes, IsFit, IsUnanswered, Conducts, HasAsked}
use Rattle.s7_dialogue.proofs.FlightLemmas.{open_append}
use Rattle.s7_dialogue.proofs.GoingLemmas.{IsLess, takes_less}
use Rattle.s7_dialogue.proofs.MessagesAskedLemmas.{listed_behind, listed_message}
use Rattle.s7_dialogue.proofs.SpotLemmas.{spot_append, flights_append, again_append, flights_open, all_append}

-- ---- the next question

-- what is kept of a question that is made again
pub kept_again : (config : Config) (job : Job) (from : ℕ) (told : Asked)
    → asked_of (question_of config job from told) ≡ told
kept_again config job from asked.Negotiation = refl
kept_again config job from (asked.Read items) = refl
kept_again config job from (asked.Write items) = refl

-- it is the first of those that are left
pub behind_next : (config : Config) (job : Job) (from : ℕ) (before after : Left) (told : Asked)
    → TakesNext before told after
    → questions_behind config job from before
    ≡ question_of config job from told ∷ questions_behind config job (from + octet_count_of (items_asked told)) after
behind_next config job from left.Nothing after told takes = absurd takes
behind_next config job from left.Negotiation after told takes =
    ap (λ t. question_of config job from t ∷ []) (sym takes.0)
    ∙ ap (λ l. question_of config job from told ∷ questions_behind config job
    (from + octet_count_of (items_asked told)) l)
    (sym takes.1)
behind_next config job from (left.Reads grouped) after told takes =
    ap read_questions takes.4
    ∙ (ap (λ t. question_of config job from t ∷ read_questions (groups_in takes.1)) (sym takes.2)
    ∙ ap (λ l. question_of config job from told ∷ questions_behind config job
    (from + octet_count_of (items_asked told)) l)
    (sym takes.3))
behind_next config job from (left.Writes grouped) after told takes =
    let os = octets_of job in
    ap (λ gs. write_questions gs (drop from os)) takes.4
    ∙ (ap (λ xs. question_of config job from (asked.Write takes.0) ∷ write_questions (groups_in takes.1) xs)
    (drop-drop (octet_count_of takes.0) from os)
    ∙ (ap (λ t. question_of config job from t ∷ write_questions (groups_in takes.1)
    (drop (from + octet_count_of (items_asked t)) os))
    (sym takes.2)
    ∙ ap (λ l. question_of config job from told ∷ questions_behind config job
    (from + octet_count_of (items_asked told)) l)
    (sym takes.3)))

pub at_end : {A : Type 0} (xs ys : List A) (y : A) → slice_get (xs ++ y ∷ ys) (length xs) ≡ Some y
at_end [] ys y = refl
at_end (x ∷ xs) ys y = at_end xs ys y

pub past_end : {A : Type 0} (xs : List A) → slice_get (xs ++ []) (length xs) ≡ None
past_end [] = refl
past_end (x ∷ xs) = past_end xs

pub may_ask : (less : Bool) (refused : Option (ℕ × ℕ)) (next : Option Question) → less ≡ true → refused ≡ None
    → cond (less && is_none refused) next None ≡ next
may_ask true None next is unrefused = refl
may_ask true (Some r) next is unrefused = absurd (cc)
may_ask false refused next is unrefused = absurd (cc)

-- the question that comes next, where one may go out
pub next_at : (config : Config) (job : Job) (width : ℕ) (groups : List (List Item)) (rows : List Row)
    → open_count rows < width → first_refusal (refusal_of job) 0 (answers_of rows) ≡ None
    → next_question (conducted config job width groups) rows ≡ slice_get (questions_of config job groups)
    (length rows)
next_at config job width groups rows fewer unrefused =
    may_ask (ltb (open_count rows) width) (first_refusal (refusal_of job) 0 (answers_of rows))
    (slice_get (questions_of config job groups) (length (answers_of rows))) (lt-ltb (open_count rows) width fewer)
    unrefused
    ∙ ap (slice_get (questions_of config job groups)) (length-map rows (λ (row : Row). row.answer))

-- ---- what a telegram that goes out changes

-- it doesn't refuse
pub refusal_open : (refusal : Answer → Option ℕ) (place : ℕ) (answers : List (Option Answer))
    → first_refusal refusal place (answers ++ None ∷ []) ≡ first_refusal refusal place answers
refusal_open refusal place [] = refl
refusal_open refusal place (None ∷ answers) = refusal_open refusal (place + 1) answers
refusal_open refusal place (Some answer ∷ answers) =
    ap (first_or (refusal answer) place) (refusal_open refusal (place + 1) answers)

nothing_filled : (n : ℕ) → filled_up n [] ≡ replicate n 0
nothing_filled n =
    let long : length (replicate {A = ℕ} n 0) ≡ n =
    length-replicate n 0 in take_all n (replicate n 0) (omega (arith, long))

octets_unknown : (items : List Item) → octets_at_places items [] ≡ replicate (octet_count_of items) 0
octets_unknown [] = refl
octets_unknown (item ∷ items) =
    ap (λ xs. xs ++ octets_at_places items []) (nothing_filled (octet_count item))
    ∙ (ap (λ xs. replicate (octet_count item) 0 ++ xs) (octets_unknown items)
    ∙ replicate-append-replicate (octet_count item) (octet_count_of items) 0)

-- 00 at its places, as before
more_found : (f : Row → List ℕ) (rows : List Row) (row : Row) (all one others : ℕ) → f row ≡ replicate one 0
    → all ≡ one + others
    → flat_map f rows ++ replicate all 0 ≡ flat_map f (rows ++ row ∷ []) ++ replicate others 0
more_found f rows row all one others is sum =
    ap (λ n. flat_map f rows ++ replicate n 0) sum
    ∙ (ap (λ xs. flat_map f rows ++ xs) (sym (replicate-append-replicate one others 0))
    ∙ (ap (λ xs. flat_map f rows ++ (xs ++ replicate others 0)) (sym is)
    ∙ (sym (append_assoc (flat_map f rows) (f row) (replicate others 0))
    ∙ ap (λ xs. xs ++ replicate others 0)
    (ap (λ xs. flat_map f rows ++ xs) (sym (append-nil (f row))) ∙ sym (flat_map-append f rows (row ∷ []))))))

pub more_octets : (rows : List Row) (row : Row) (before after : Left) (told : Asked) → asked_of row.question ≡ told
    → row.answer ≡ None → IsLess before after told
    → octets_so_far rows before ≡ octets_so_far (rows ++ row ∷ []) after
more_octets rows row before after told is unanswered less =
    let items = items_asked told in
    more_found octets_of_row rows row (octets_left before) (octet_count_of items) (octets_left after)
    (ap (λ t. octets_of_row (record { question = row.question; number = row.number; answer = t })) unanswered
    ∙ (ap (λ t. octets_at_places (items_asked t) []) is ∙ octets_unknown items))
    less.octets

pub more_codes : (rows : List Row) (row : Row) (before after : Left) (told : Asked) → asked_of row.question ≡ told
    → row.answer ≡ None → IsLess before after told → codes_so_far rows before ≡ codes_so_far (rows ++ row ∷ []) after
more_codes rows row before after told is unanswered less =
    let items = items_asked told in
    more_found codes_of_row rows row (items_left before) (length items) (items_left after)
    (ap (λ t. codes_of_row (record { question = row.question; number = row.number; answer = t })) unanswered
    ∙ (ap (λ t. filled_up (length (items_asked t)) []) is ∙ nothing_filled (length items)))
    less.items

-- ---- one more question

-- the row of a question that goes out
abbrev pub row_of : Config → Job → Course → ℕ → Asked → Row
row_of config job course from told =
    record { question = question_of config job from told; number = next_sequence course.sequence; answer = None }

-- the job asks on
pub asks_next : (config : Config) (job : Job) (questions : List Question) (rows : List Row) (a b : Asking) (row : Row)
    (told : Asked)
    → Asks config job questions rows a → row.question ≡ question_of config job a.from told → row.answer ≡ None
    → Pushes a told row.number b → TakesNext a.left told b.left → Asks config job questions (rows ++ row ∷ []) b
asks_next config job questions rows a b row told asks is unanswered pushes next =
    let spot : spot_of a ≡ spot_behind first_spot rows = asks.spot in
    let kept : asked_of row.question ≡ told = ap asked_of is ∙ kept_again config job a.from told in
    let flight : flight_at (spot_of a) row ≡ flight_at (spot_of a)
    (record row { question = question_of config job a.from told }) =
    ap (λ q. flight_at (spot_of a) (record row { question = q })) is in
    record {
      whole =
          asks.whole
          ∙ (ap (λ qs. map (λ (r : Row). r.question) rows ++ qs)
          (behind_next config job a.from a.left b.left told next
          ∙ (ap (λ q. q ∷ questions_behind config job (a.from + octet_count_of (items_asked told)) b.left) (sym is)
          ∙ ap (λ (s : Spot). row.question ∷ questions_behind config job s.from b.left) (sym pushes.spot)))
          ∙ (sym (append_assoc (map (λ (r : Row). r.question) rows) (row.question ∷ [])
          (questions_behind config job b.from b.left))
          ∙ ap (λ qs. qs ++ questions_behind config job b.from b.left)
          (sym (map-append (λ (r : Row). r.question) rows (row ∷ [])))));
      again =
          again_append config job first_spot rows (row ∷ []) asks.again (
            subst (λ (s : Spot). question_of config job s.from (asked_of row.question) ≡ row.question) spot
                (ap (question_of config job a.from) kept ∙ sym is),
            tt,
          );
      flights =
          pushes.flights
          ∙ (ap (λ fs. fs ++ record
          { asked = told; sequence = row.number; place = a.place; from = a.from; item = a.item } ∷ []) asks.flights
          ∙ (ap (λ t. flights_of first_spot rows ++ record
          { asked = t; sequence = row.number; place = a.place; from = a.from; item = a.item } ∷ []) (sym kept)
          ∙ (ap (λ s. flights_of first_spot rows ++ flight_at s row ∷ []) spot
          ∙ (ap (λ o. flights_of first_spot rows ++ if_open o (flight_at (spot_behind first_spot rows) row) [])
          (sym unanswered)
          ∙ sym (flights_append first_spot rows (row ∷ []))))));
      spot =
          pushes.spot
          ∙ (ap (λ t. spot_past (spot_of a) (items_asked t)) (sym kept)
          ∙ (ap (λ s. spot_past s (items_of row.question)) spot ∙ sym (spot_append first_spot rows (row ∷ []))));
    }

-- and what it keeps stays
pub conducts_next : (config : Config) (granted : Option Grant) (rows : List Row) (job : Job) (found codes : List ℕ)
    (a b : Asking) (row : Row) (told : Asked)
    → Conducts config granted rows rows job found codes a → row.question ≡ question_of config job a.from told
    → row.answer ≡ None
    → Pushes a told row.number b → TakesNext a.left told b.left
    → Conducts config granted (rows ++ row ∷ []) (rows ++ row ∷ []) job found codes b
conducts_next config granted rows job found codes a b row told h is unanswered pushes next =
    let less : IsLess a.left b.left told = takes_less a.left b.left told next in
    let kept : asked_of row.question ≡ told = ap asked_of is ∙ kept_again config job a.from told in
    record {
      groups = h.groups;
      conduct = h.conduct ∙ ap (λ w. conducted config job w h.groups) (sym pushes.width);
      whole = h.whole;
      asks =
          asks_next config job (questions_of config job h.groups) rows a b row told h.asks is unanswered pushes next;
      unanswered = λ other. all_append IsUnanswered rows (row ∷ []) (h.unanswered other) (unanswered, tt);
      fit =
          all_append IsFit rows (row ∷ []) h.fit
          (subst (λ o. IsFit (record row { answer = o })) (sym unanswered) tt, tt);
      refused =
          ap refused_at pushes.refused
          ∙ (h.refused
          ∙ (sym (refusal_open (refusal_of job) 0 (answers_of rows))
          ∙ (ap (λ o. first_refusal (refusal_of job) 0 (answers_of rows ++ o ∷ [])) (sym unanswered)
          ∙ ap (first_refusal (refusal_of job) 0) (sym (map-append (λ (r : Row). r.answer) rows (row ∷ []))))));
      octets =
          λ asks. h.octets asks
          ∙ ap (λ xs. cond (brings_octets job) xs []) (more_octets rows row a.left b.left told kept unanswered less);
      noted =
          λ asks. h.noted asks
          ∙ ap (λ xs. cond (brings_codes job) xs []) (more_codes rows row a.left b.left told kept unanswered less);
    }

-- the question that goes out is the one that comes next
pub question_next : (config : Config) (granted : Option Grant) (rows : List Row) (job : Job) (found codes : List ℕ)
    (a : Asking) (told : Asked) (after : Left)
    → Conducts config granted rows rows job found codes a → TakesNext a.left told after → a.refused ≡ None
    → length a.flights.items < a.width
    → next_question (plan_of job config granted).conduct rows ≡ Some (question_of config job a.from told)
question_next config granted rows job found codes a told after h next unrefused fewer =
    let qs = map (λ (r : Row). r.question) rows in
    let q = question_of config job a.from told in
    let later = questions_behind config job (a.from + octet_count_of (items_asked told)) after in
    let out : length a.flights.items ≡ open_count rows = ap length h.asks.flights ∙ flights_open first_spot rows in
    ap (λ c. next_question c rows) h.conduct
    ∙ (next_at config job a.width h.groups rows (omega (arith, out, fewer)) (sym h.refused ∙ ap refused_at unrefused)
    ∙ (ap (λ xs. slice_get xs (length rows))
    (h.asks.whole ∙ ap (λ xs. qs ++ xs) (behind_next config job a.from a.left after told next))
    ∙ (ap (slice_get (qs ++ q ∷ later)) (sym (length-map rows (λ (r : Row). r.question))) ∙ at_end qs later q)))

-- ---- asking on

-- What was asked so far, and so many questions at most that may be asked yet, are all that may go out.
pub record AsksSoFar (config : Config) (granted : Option Grant) (job : Job) (found codes : List ℕ) (a : Asking)
    (course : Course) (a' : Asking) (last : ℕ)
    : Type 0 where
  pub now : Course
  pub most : ℕ
  pub on : asked_on (plan_of job config granted).conduct.width (plan_of job config granted).conduct course
      ≡ asked_on most (plan_of job config granted).conduct now
  pub enough : a'.width ≤ most + open_count now.rows
  pub asked : HasAsked config granted job found codes a course now a' last

width_is : (config : Config) (granted : Option Grant) (rows : List Row) (job : Job) (found codes : List ℕ)
    (a : Asking)
    → Conducts config granted rows rows job found codes a → a.width ≡ (plan_of job config granted).conduct.width
width_is config granted rows job found codes a h = sym (ap (λ (c : Conduct). c.width) h.conduct)

-- before the first question
pub asks_none : (config : Config) (granted : Option Grant) (job : Job) (found codes : List ℕ) (a : Asking)
    (course : Course) (sequence : ℕ)
    → Conducts config granted course.rows course.rows job found codes a → course.sequence ≡ sequence
    → AsksSoFar config granted job found codes a course a sequence
asks_none config granted job found codes a course sequence h same =
    record {
      now = course;
      most = (plan_of job config granted).conduct.width;
      on = refl;
      enough = omega (arith, width_is config granted course.rows job found codes a h);
      asked = record { conducts = h; sequence = sym same; size = refl; out = λ front is. is };
    }

asked_first : (n : ℕ) (c : Conduct) (course : Course) (question : Question)
    → next_question c course.rows ≡ Some question
    → asked_on (suc n) c course ≡ asked_on n c (asked_course course question)
unfolding asked_on
asked_first n c course question next =
    ap (λ o. if_some o course (λ question. asked_on n c (asked_course course question))) next

pub asked_none : (n : ℕ) (c : Conduct) (course : Course) → next_question c course.rows ≡ None
    → asked_on n c course ≡ course
unfolding asked_on
asked_none zero c course none = refl
asked_none (suc n) c course none =
    ap (λ o. if_some o course (λ question. asked_on n c (asked_course course question))) none

-- a negotiation, a read or a write goes out
abbrev with_listed : Config → Job → Course → ℕ → Asked → Course
with_listed config job course from told = record course {
  rows = course.rows ++ row_of config job course from told ∷ [];
  sequence = next_sequence course.sequence;
  out =
      course.out
      ++ sent_message course.size
      (question_octets (next_sequence course.sequence) (question_of config job from told));
}

asked_listed : (config : Config) (job : Job) (course : Course) (from : ℕ) (told : Asked)
    → asked_course course (question_of config job from told) ≡ with_listed config job course from told
asked_listed config job course from told =
    let q = question_of config job from told in
    let number = next_sequence course.sequence in
    ap (λ n. record course {
      rows = course.rows ++ record { question = q; number = n; answer = None } ∷ [];
      sequence = n;
      out = course.out ++ sent_messages course.size (messages_of n q);
    }) (listed_behind config job from course.sequence told)
    ∙ ap (λ sent. record course {
      rows = course.rows ++ row_of config job course from told ∷ [];
      sequence = number;
      out = course.out ++ sent;
    })
    (ap (sent_messages course.size) (listed_message config job from number told)
    ∙ append-nil (sent_message course.size (question_octets number q)))

one_opened : (rows : List Row) (row : Row) → row.answer ≡ None → open_count (rows ++ row ∷ []) ≡ open_count rows + 1
unfolding open_count
one_opened rows row unanswered =
    open_append rows (row ∷ []) ∙ ap (λ o. open_count rows + (cond (is_none o) 1 0 + 0)) unanswered

one_more : (n : ℕ) → 0 < n → n ≡ suc (n - 1)
one_more n some = omega arith

-- the octets that aren't put yet, with those of one more telegram
drop_unput : (fs : List Flight) (f : Flight) (n : ℕ) → n ≤ length fs
    → drop (length (fs ++ f ∷ []) - (n + 1)) (fs ++ f ∷ []) ≡ drop (length fs - n) fs ++ f ∷ []
drop_unput fs f n few =
    let same : length (fs ++ f ∷ []) - (n + 1) ≡ length fs - n = omega (arith, length-append fs (f ∷ [])) in
    ap (λ k. drop k (fs ++ f ∷ [])) same ∙ drop-append-le (length fs - n) fs (f ∷ []) (omega arith)

unput_more : (config : Config) (size : ℕ) (job : Job) (a b : Asking) (told : Asked) (number : ℕ)
    → a.unput ≤ length a.flights.items → Pushes a told number b
    → unput_by config size job (stage.Asking b)
    ≡ unput_by config size job (stage.Asking a)
    ++ sent_message size
    (message_of config job
    (record { asked = told; sequence = number; place = a.place; from = a.from; item = a.item }))
unput_more config size job a b told number put pushes =
    let f : Flight = record { asked = told; sequence = number; place = a.place; from = a.from; item = a.item } in
    let fs = a.flights.items in
    let waiting = drop (length fs - a.unput) fs in
    let m = message_of config job in
    ap (λ gs. sent_messages size (map m (drop (length gs - b.unput) gs))) pushes.flights
    ∙ (ap (λ n. sent_messages size (map m (drop (length (fs ++ f ∷ []) - n) (fs ++ f ∷ [])))) pushes.unput
    ∙ (ap (λ gs. sent_messages size (map m gs)) (drop_unput fs f a.unput put)
    ∙ (ap (sent_messages size) (map-append m waiting (f ∷ []))
    ∙ (flat_map-append (sent_message size) (map m waiting) (m f ∷ [])
    ∙ ap (λ xs. sent_messages size (map m waiting) ++ xs) (append-nil (sent_message size (m f)))))))

-- one more question
pub asks_more : (config : Config) (granted : Option Grant) (job : Job) (found codes : List ℕ) (a : Asking)
    (course : Course) (a' b : Asking) (last next : ℕ)
    → a'.unput ≤ length a'.flights.items
    → AsksSoFar config granted job found codes a course a' last → next ≡ next_sequence last → AsksNext a' next b
    → AsksSoFar config granted job found codes a course b next
asks_more config granted job found codes a course a' b last next put h number step =
    let c = (plan_of job config granted).conduct in
    let rows = h.now.rows in
    let q = question_of config job a'.from step.told in
    let then : Course = with_listed config job h.now a'.from step.told in
    let asked : HasAsked config granted job found codes a course h.now a' last = h.asked in
    let numbered : next ≡ next_sequence h.now.sequence = number ∙ ap next_sequence asked.sequence in
    let pushes : Pushes a' step.told (next_sequence h.now.sequence) b =
    subst (λ n. Pushes a' step.told n b) numbered step.pushes in
    let comes : next_question c rows ≡ Some q =
    question_next config granted rows job found codes a' step.told b.left asked.conducts step.next step.unrefused
    step.fewer in
    let out : length a'.flights.items ≡ open_count rows =
    ap length asked.conducts.asks.flights ∙ flights_open first_spot rows in
    let some : 0 < h.most = omega (arith, h.enough, out, step.fewer) in
    let opened : open_count then.rows ≡ open_count rows + 1 =
    one_opened rows (row_of config job h.now a'.from step.told) refl in
    record {
      now = then;
      most = h.most - 1;
      on =
          h.on
          ∙ (ap (λ n. asked_on n c h.now) (one_more h.most some)
          ∙ (asked_first (h.most - 1) c h.now q comes
          ∙ ap (asked_on (h.most - 1) c) (asked_listed config job h.now a'.from step.told)));
      enough = omega (arith, h.enough, opened, some, pushes.width);
      asked = record {
        conducts =
            conducts_next config granted rows job found codes a' b (row_of config job h.now a'.from step.told)
            step.told
            asked.conducts refl refl pushes step.next;
        sequence = numbered;
        size = asked.size;
        out = λ front is.
            ap (λ xs. xs ++ sent_message h.now.size
            (message_of config job
            (record {
              asked = step.told;
              sequence = next_sequence h.now.sequence;
              place = a'.place;
              from =
                  a'.from;
              item = a'.item;
            })))
            (asked.out front is)
            ∙ (append_assoc front (unput_by config course.size job (stage.Asking a'))
            (sent_message h.now.size
            (message_of config job
            (record {
              asked = step.told;
              sequence = next_sequence h.now.sequence;
              place = a'.place;
              from =
                  a'.from;
              item = a'.item;
            })))
            ∙ ap (λ xs. front ++ xs)
            (ap (λ n. unput_by config course.size job (stage.Asking a')
            ++ sent_message n
            (message_of config job
            (record {
              asked = step.told;
              sequence = next_sequence h.now.sequence;
              place = a'.place;
              from =
                  a'.from;
              item = a'.item;
            }))) asked.size
            ∙ sym (unput_more config course.size job a' b step.told (next_sequence h.now.sequence) put pushes)));
      };
    }

-- where nothing is left
pub none_behind : (config : Config) (job : Job) (from : ℕ) (l : Left) → questions_left l ≡ 0
    → questions_behind config job from l ≡ []
none_behind config job from left.Nothing none = refl
none_behind config job from left.Negotiation none = absurd (omega (arith, none))
none_behind config job from (left.Reads grouped) none = ap read_questions (nil_from_length (groups_in grouped) none)
none_behind config job from (left.Writes grouped) none =
    ap (λ gs. write_questions gs (drop from (octets_of job))) (nil_from_length (groups_in grouped) none)

may_not : (less : Bool) (refused : Option (ℕ × ℕ)) (next : Option Question)
    → (refused ≡ None → less ≡ true → next ≡ None) → cond (less && is_none refused) next None ≡ None
may_not true None next none = none refl refl
may_not true (Some r) next none = refl
may_not false refused next none = refl

pub unrefused_at : (o : Option Refused) → refused_at o ≡ None → o ≡ None
unrefused_at None none = refl
unrefused_at (Some r) none = absurd (cc)

-- no question comes next, where none may go out
none_comes : (config : Config) (granted : Option Grant) (rows : List Row) (job : Job) (found codes : List ℕ)
    (a : Asking)
    → Conducts config granted rows rows job found codes a → MayAskNone a
    → next_question (plan_of job config granted).conduct rows ≡ None
none_comes config granted rows job found codes a h none =
    let qs = questions_of config job h.groups in
    let xs = map (λ (r : Row). r.question) rows in
    let out : length a.flights.items ≡ open_count rows = ap length h.asks.flights ∙ flights_open first_spot rows in
    ap (λ c. next_question c rows) h.conduct
    ∙ may_not (ltb (open_count rows) a.width) (first_refusal (refusal_of job) 0 (answers_of rows))
    (slice_get qs (length (answers_of rows)))
    (λ unrefused less.
    let left : questions_left a.left ≡ 0 =
    none (unrefused_at a.refused (h.refused ∙ unrefused))
    (omega (arith, out, ltb-true (open_count rows) a.width less)) in
    ap (slice_get qs) (length-map rows (λ (r : Row). r.answer) ∙ sym (length-map rows (λ (r : Row). r.question)))
    ∙ (ap (λ ys. slice_get ys (length xs))
    (h.asks.whole ∙ ap (λ ys. xs ++ ys) (none_behind config job a.from a.left left)) ∙ past_end xs))

-- all that may go out
pub asks_all : (config : Config) (granted : Option Grant) (job : Job) (found codes : List ℕ) (a : Asking)
    (course : Course) (a' : Asking) (last : ℕ)
    → AsksSoFar config granted job found codes a course a' last → MayAskNone a'
    → HasAsked config granted job found codes a course
    (asked_on (plan_of job config granted).conduct.width (plan_of job config granted).conduct course) a' last
asks_all config granted job found codes a course a' last h none =
    let c = (plan_of job config granted).conduct in
    let comes : next_question c h.now.rows ≡ None =
    none_comes config granted h.now.rows job found codes a' h.asked.conducts none in
    subst (λ n. HasAsked config granted job found codes a course n a' last)
    (sym (h.on ∙ asked_none h.most c h.now comes)) h.asked
