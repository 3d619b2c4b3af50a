-- Lemmas on jobs that ask one question at a time, as they ask it.
use Rattle.std.proofs.Common.{◌≡◌, ℕ, ◌+◌, ◌-◌, ◌<◌, true, cond, ltb, Option, Some, None, List, [], ◌∷◌, ◌++◌, take, drop, refl, sym, ap, ◌∙◌, subst, arith}
use Rattle.std.specs.Prelude.{IsSome, is_some, unwrap_or}
use Rattle.std.specs.List.{AllByRecursion}
use Rattle.std.proofs.lemmas.Bool.{lt-ltb}
use Rattle.std.proofs.lemmas.List.{append-nil}
use Rattle.s7_wire.specs.Sent.{sent_messages}
use Rattle.s7_dialogue.specs.declared.config.Config.{Config}
use Rattle.s7_dialogue.specs.declared.grant.Grant.{Grant}
use Rattle.s7_dialogue.specs.declared.job.Job.{Job}
use Rattle.s7_dialogue.specs.declared.stages.single.Ask.{Ask}
use Rattle.s7_dialogue.specs.declared.stages.single.Ask.TheVariants as ask
use Rattle.s7_dialogue.specs.declared.stages.single.Single.{Single}
use Rattle.s7_dialogue.specs.declared.stages.running.Stage.TheVariants as stage
use Rattle.s7_dialogue.specs.declared.stages.running.Running.{Running}
use Rattle.s7_dialogue.specs.Question.{Question, messages_of}
use Rattle.s7_dialogue.specs.Answer.{Answer}
use Rattle.s7_dialogue.specs.Flight.{Row, answers_of, open_count}
use Rattle.s7_dialogue.specs.Dialogue.{Conduct, first_refusal, count_of_data, plan_of}
use Rattle.s7_dialogue.specs.Course.{Course, next_sequence, next_question, sequence_behind, asked, if_some, asked_on, settled, asking}
use Rattle.s7_dialogue.specs.Stages.{question_of_single, conduct_of_single, single_messages, unput_by, awaited_by}
use Rattle.s7_dialogue.specs.Singles.{message_count, is_numbered_ask}
use Rattle.s7_dialogue.specs.GoesOn.{octets_kept, questions_left_by, questions_from, is_counted, rows_out, IsAnswered, AsksSingly, IsNextOf, ConductsAt}
use Rattle.s7_dialogue.specs.Running.{Follows, Reached, unput_of}
use Rattle.s7_dialogue.proofs.FlightLemmas as flight
use Rattle.s7_dialogue.proofs.FlightLemmas.{none_next, none_open, all_open, open_append, settled_waits}
use Rattle.s7_dialogue.proofs.AskLemmas.{may_ask, asked_none}
use Rattle.s7_dialogue.proofs.MessagesAskedLemmas.{single_behind, same_messages}

-- ---- any conduct

-- the question that comes next, where one may go out
next_is : (c : Conduct) (rows : List Row) (question : Question) → open_count rows < c.width
    → first_refusal c.refusal 0 (answers_of rows) ≡ None → c.question_at (answers_of rows) ≡ Some question
    → next_question c rows ≡ Some question
next_is c rows question fewer unrefused is =
    may_ask (ltb (open_count rows) c.width) (first_refusal c.refusal 0 (answers_of rows))
    (c.question_at (answers_of rows)) (lt-ltb (open_count rows) c.width fewer) unrefused
    ∙ is

-- where one may be unanswered, one goes out
one_asked : (width : ℕ) (c : Conduct) (course : Course) (question : Question) → width ≡ 1
    → next_question c course.rows ≡ Some question → asked_on width c course ≡ asked course question
unfolding asked_on
one_asked width c course question one next =
    ap (λ n. asked_on n c course) one ∙ ap (λ o. if_some o course (λ question. asked course question)) next

-- ---- telegrams that are answered

known : (o : Option Answer) → IsSome o → (x : Answer) × (o ≡ Some x)
known None some = absurd (cc)
known (Some x) some = (x, refl)

pub each_known : (rows : List Row) → AllByRecursion IsAnswered rows → AllByRecursion flight.IsAnswered rows
each_known [] each = tt
each_known (row ∷ rows) each = (known row.answer each.0, each_known rows each.1)

pub answered_open : (rows : List Row) → AllByRecursion IsAnswered rows → open_count rows ≡ 0
answered_open rows each = none_open rows (each_known rows each)

one_open : (rows : List Row) (row : Row) → open_count rows ≡ 0 → row.answer ≡ None → open_count (rows ++ row ∷ []) ≡ 1
one_open rows row none unanswered =
    let opened : open_count (row ∷ []) ≡ 1 = all_open (row ∷ []) (unanswered, tt) in
    omega (arith, open_append rows (row ∷ []), none, opened)

-- ---- what such a job keeps

-- What `AsksSingly` says of a job that asks this, behind so many octets, where its telegram went out under a sequence
-- or not yet.
pub record Stands (config : Config) (granted : Option Grant) (rows : List Row) (done : Job) (found codes : List ℕ)
    (asked : Ask) (len : ℕ) (out : Option ℕ)
    : Type 0 where
  pub conduct : (plan_of done config granted).conduct ≡ conduct_of_single done asked
  pub before : List Row
  pub answered : AllByRecursion IsAnswered before
  pub are : rows ≡ before ++ rows_out (question_of_single done asked (take len found)) out
  pub next : (conduct_of_single done asked).question_at (answers_of before)
      ≡ Some (question_of_single done asked (take len found))
  pub unrefused : first_refusal (conduct_of_single done asked).refusal 0 (answers_of before) ≡ None
  pub brought : octets_kept asked (answers_of before) ≡ take len found
  pub left : questions_left_by asked (answers_of before) ≡ questions_from asked
  pub counted : is_counted asked (count_of_data (answers_of before)) ≡ true
  pub no_codes : codes ≡ []

pub stands_at : (r : Running) (s : Single) (config : Config) (granted : Option Grant) (rows : List Row) (out : Option ℕ)
    → r.stage ≡ stage.Single s → s.out ≡ out → Follows r config granted rows
    → Stands config granted rows r.job r.found.items r.codes s.ask s.len out
stands_at r s config granted rows out is out_is follows =
    let h : AsksSingly config granted rows r.job r.found.items r.codes s =
    subst (λ st. ConductsAt config granted rows rows r.job r.found.items r.codes st) is follows.goes_on in
    subst (λ (o : Option ℕ). Stands config granted rows r.job r.found.items r.codes s.ask s.len o) out_is
    (record {
      conduct = h.conduct;
      before = h.before;
      answered = h.answered;
      are = h.out;
      next = h.next;
      unrefused = h.unrefused;
      brought = h.brought;
      left = h.left;
      counted = h.counted;
      no_codes = h.no_codes;
    })

pub follows_alone : (r : Running) (s : Single) (config : Config) (granted : Option Grant) (rows : List Row)
    → r.stage ≡ stage.Single s
    → Stands config granted rows r.job r.found.items r.codes s.ask s.len s.out → Follows r config granted rows
follows_alone r s config granted rows is h =
    record {
      goes_on =
          subst (λ st. ConductsAt config granted rows rows r.job r.found.items r.codes st) (sym is)
          (record {
            conduct = h.conduct;
            before = h.before;
            answered = h.answered;
            out = h.are;
            next = h.next;
            unrefused = h.unrefused;
            brought = h.brought;
            left = h.left;
            counted = h.counted;
            no_codes = h.no_codes;
          });
    }

single_width : (done : Job) (asked : Ask) → (conduct_of_single done asked).width ≡ 1
single_width done (ask.Control control) = refl
single_width done (ask.About subject) = refl
single_width done (ask.Further subject octet) = refl
single_width done _ = refl

width_one : (config : Config) (granted : Option Grant) (rows : List Row) (done : Job) (found codes : List ℕ)
    (asked : Ask) (len : ℕ) (out : Option ℕ)
    → Stands config granted rows done found codes asked len out → (plan_of done config granted).conduct.width ≡ 1
width_one config granted rows done found codes asked len out h =
    ap (λ (c : Conduct). c.width) h.conduct ∙ single_width done asked

-- ---- the question goes out

-- none of its messages is put yet
unput_alone : (config : Config) (size : ℕ) (done : Job) (s : Single) (number : ℕ) → s.unput ≡ message_count s.ask
    → s.out ≡ Some number
    → unput_by config size done (stage.Single s)
    ≡ sent_messages size (messages_of number (question_of_single done s.ask []))
unput_alone config size done s number unput out =
    let all : message_count s.ask - s.unput ≡ 0 = omega (arith, unput) in
    ap (λ n. sent_messages size (drop n (single_messages done s))) all
    ∙ ap (λ o. sent_messages size (messages_of (unwrap_or o 0) (question_of_single done s.ask []))) out

-- the sequence behind what is asked
abbrev pub behind_ask : Ask → ℕ → ℕ
behind_ask asked sequence = cond (is_numbered_ask asked) (next_sequence sequence) sequence

-- the question went out
reached_asked : (r r' : Running) (s s' : Single) (config : Config) (granted : Option Grant) (course : Course)
    (last : ℕ)
    → r.stage ≡ stage.Single s → r'.stage ≡ stage.Single s' → r'.job ≡ r.job → r'.found.items ≡ r.found.items
    → r'.codes ≡ r.codes → s.out ≡ None → last ≡ behind_ask s.ask course.sequence → s'.out ≡ Some last
    → s'.unput ≡ message_count s.ask → s'.ask ≡ s.ask → s'.len ≡ s.len → Follows r config granted course.rows
    → Reached config granted course (asking (plan_of r.job config granted).conduct course) r' last
reached_asked r r' s s' config granted course last is is' same found codes none next out unput ask_same len follows =
    let c = (plan_of r.job config granted).conduct in
    let h = stands_at r s config granted course.rows None is none follows in
    let so_far = take s.len r.found.items in
    let q = question_of_single r.job s.ask so_far in
    let now = asked course q in
    let behind : sequence_behind course.sequence q ≡ last =
    single_behind r.job s.ask so_far course.sequence ∙ sym next in
    let all : course.rows ≡ h.before = h.are ∙ append-nil h.before in
    let unanswered : open_count course.rows ≡ 0 = ap open_count all ∙ answered_open h.before h.answered in
    let one = width_one config granted course.rows r.job r.found.items r.codes s.ask s.len None h in
    let comes : next_question c course.rows ≡ Some q =
    next_is c course.rows q (omega (arith, unanswered, one))
    (ap (λ (d : Conduct). first_refusal d.refusal 0 (answers_of course.rows)) h.conduct
    ∙ (ap (λ rs. first_refusal (conduct_of_single r.job s.ask).refusal 0 (answers_of rs)) all ∙ h.unrefused))
    (ap (λ (d : Conduct). d.question_at (answers_of course.rows)) h.conduct
    ∙ (ap (λ rs. (conduct_of_single r.job s.ask).question_at (answers_of rs)) all ∙ h.next)) in
    let on : asked_on c.width c course ≡ now = one_asked c.width c course q one comes in
    let settles : asking c course ≡ settled c now = ap (settled c) on in
    let opened : open_count now.rows ≡ open_count course.rows + 1 = flight.asked_open course q in
    let stands : Stands config granted now.rows r.job r.found.items r.codes s.ask s.len (Some last) = record {
      conduct = h.conduct;
      before = h.before;
      answered = h.answered;
      are =
          ap
          (λ rs. rs ++ record { question = q; number = sequence_behind course.sequence q; answer = None } ∷ [])
          all
          ∙ ap (λ n. h.before ++ record { question = q; number = n; answer = None } ∷ []) behind;
      next = h.next;
      unrefused = h.unrefused;
      brought = h.brought;
      left = h.left;
      counted = h.counted;
      no_codes = h.no_codes;
    } in
    let stands' : Stands config granted now.rows r'.job r'.found.items r'.codes s'.ask s'.len s'.out =
    subst (λ (j : Job). Stands config granted now.rows j r'.found.items r'.codes s'.ask s'.len s'.out) (sym same)
    (subst (λ (xs : List ℕ). Stands config granted now.rows r.job xs r'.codes s'.ask s'.len s'.out) (sym found)
    (subst (λ (xs : List ℕ). Stands config granted now.rows r.job r.found.items xs s'.ask s'.len s'.out) (sym codes)
    (subst (λ (a : Ask). Stands config granted now.rows r.job r.found.items r.codes a s'.len s'.out) (sym ask_same)
    (subst (λ (n : ℕ). Stands config granted now.rows r.job r.found.items r.codes s.ask n s'.out) (sym len)
    (subst (λ (o : Option ℕ). Stands config granted now.rows r.job r.found.items r.codes s.ask s.len o) (sym out)
    stands))))) in
    let put : unput_of config course.size r'
    ≡ sent_messages course.size (messages_of last (question_of_single r'.job s'.ask [])) =
    ap (unput_by config course.size r'.job) is'
    ∙ unput_alone config course.size r'.job s' last (unput ∙ ap message_count (sym ask_same)) out in
    record {
      awaits =
          ap (λ (k : Course). k.awaits) settles
          ∙ (settled_waits c now (omega (arith, opened))
          ∙ ap (awaited_by r'.found.items r'.codes []) (sym is'));
      follows = λ asks. subst (λ (k : Course). Follows r' config granted k.rows) (sym settles)
          (follows_alone r' s' config granted now.rows is' stands');
      sequence = sym behind ∙ sym (ap (λ (k : Course). k.sequence) settles);
      out =
          ap (λ (k : Course). k.out) settles
          ∙ ap (λ xs. course.out ++ xs)
          (ap (λ n. sent_messages course.size (messages_of n q)) behind
          ∙ (ap (sent_messages course.size) (same_messages r.job s.ask so_far last)
          ∙ (ap (λ a. sent_messages course.size (messages_of last (question_of_single r.job a []))) (sym ask_same)
          ∙ (ap (λ j. sent_messages course.size (messages_of last (question_of_single j s'.ask []))) (sym same)
          ∙ sym put))));
    }

-- one telegram is out already, and nothing changes
reached_waiting : (r r' : Running) (s : Single) (config : Config) (granted : Option Grant) (course : Course)
    (number last : ℕ)
    → r.stage ≡ stage.Single s → r'.stage ≡ stage.Single s → r'.job ≡ r.job → r'.found.items ≡ r.found.items
    → r'.codes ≡ r.codes → s.out ≡ Some number → last ≡ course.sequence → Follows r config granted course.rows
    → unput_of config course.size r ≡ []
    → Reached config granted course (asking (plan_of r.job config granted).conduct course) r' last
reached_waiting r r' s config granted course number last is is' same found codes out next follows none =
    let c = (plan_of r.job config granted).conduct in
    let h = stands_at r s config granted course.rows (Some number) is out follows in
    let q = question_of_single r.job s.ask (take s.len r.found.items) in
    let row : Row = record { question = q; number = number; answer = None } in
    let waits : open_count course.rows ≡ 1 =
    ap open_count h.are ∙ one_open h.before row (answered_open h.before h.answered) refl in
    let one = width_one config granted course.rows r.job r.found.items r.codes s.ask s.len (Some number) h in
    let on : asked_on c.width c course ≡ course =
    asked_none c.width c course (none_next c course.rows (omega (arith, waits, one))) in
    let settles : asking c course ≡ settled c course = ap (settled c) on in
    let stands : Stands config granted course.rows r'.job r'.found.items r'.codes s.ask s.len s.out =
    subst (λ (j : Job). Stands config granted course.rows j r'.found.items r'.codes s.ask s.len s.out) (sym same)
    (subst (λ (xs : List ℕ). Stands config granted course.rows r.job xs r'.codes s.ask s.len s.out) (sym found)
    (subst (λ (xs : List ℕ). Stands config granted course.rows r.job r.found.items xs s.ask s.len s.out) (sym codes)
    (stands_at r s config granted course.rows s.out is refl follows))) in
    record {
      awaits =
          ap (λ (k : Course). k.awaits) settles
          ∙ (settled_waits c course (omega (arith, waits)) ∙ ap (awaited_by r'.found.items r'.codes []) (sym is'));
      follows = λ asks. subst (λ (k : Course). Follows r' config granted k.rows) (sym settles)
          (follows_alone r' s config granted course.rows is' stands);
      sequence = next ∙ sym (ap (λ (k : Course). k.sequence) settles);
      out =
          ap (λ (k : Course). k.out) settles
          ∙ (sym (append-nil course.out)
          ∙ ap (λ xs. course.out ++ xs)
          (sym none
          ∙ (ap (unput_by config course.size r.job) (is ∙ sym is')
          ∙ ap (λ j. unput_by config course.size j r'.stage) (sym same))));
    }

-- whichever it is
pub reached_alone : (r r' : Running) (s s' : Single) (config : Config) (granted : Option Grant) (course : Course)
    (last sequence : ℕ)
    → r.stage ≡ stage.Single s → r'.stage ≡ stage.Single s' → r'.job ≡ r.job → r'.found.items ≡ r.found.items
    → r'.codes ≡ r.codes
    → (s.out ≡ None → (last ≡ behind_ask s.ask sequence) × (s'.out ≡ Some last) × (s'.unput ≡ message_count s.ask))
    → (IsSome s.out → (last ≡ sequence) × (s' ≡ s)) → s'.ask ≡ s.ask → s'.len ≡ s.len
    → Follows r config granted course.rows → course.sequence ≡ sequence → unput_of config course.size r ≡ []
    → Reached config granted course (asking (plan_of r.job config granted).conduct course) r' last
reached_alone r r' s s' config granted course last sequence is is' same found codes asks waits ask_same len follows at
    none = by_out s.out refl
  where
    by_out : (out : Option ℕ) → s.out ≡ out
        → Reached config granted course (asking (plan_of r.job config granted).conduct course) r' last
    by_out None out =
        let now = asks out in
        reached_asked r r' s s' config granted course last is is' same found codes out
        (now.0 ∙ ap (behind_ask s.ask) (sym at)) now.1 now.2 ask_same len follows
    by_out (Some number) out =
        let now = waits (ap is_some out) in
        reached_waiting r r' s config granted course number last is (is' ∙ ap stage.Single now.1) same found codes out
        (now.0 ∙ sym at) follows none

-- what is asked next
pub next_stands : (config : Config) (granted : Option Grant) (rows : List Row) (done : Job) (found codes : List ℕ)
    (asked : Ask) (len : ℕ) → Stands config granted rows done found codes asked len None
    → IsNextOf config granted rows done found codes asked len
next_stands config granted rows done found codes asked len h = λ s asks out long.
    let k : Stands config granted rows done found codes s.ask s.len s.out =
    subst (λ (a : Ask). Stands config granted rows done found codes a s.len s.out) (sym asks)
    (subst (λ (n : ℕ). Stands config granted rows done found codes asked n s.out) (sym long)
    (subst (λ (o : Option ℕ). Stands config granted rows done found codes asked len o) (sym out) h)) in
    record {
      conduct = k.conduct;
      before = k.before;
      answered = k.answered;
      out = k.are;
      next = k.next;
      unrefused = k.unrefused;
      brought = k.brought;
      left = k.left;
      counted = k.counted;
      no_codes = k.no_codes;
    }
