-- Lemmas on jobs that take a message.
use Rattle.std.proofs.Common.{◌≡◌, ℕ, suc, ◌+◌, ◌-◌, ◌/◌, ◌≤◌, Bool, true, false, cond, ltb, Option, Some, None, List, [], ◌∷◌, ◌++◌, length, map, drop, max, refl, sym, ap, ◌∙◌, subst, arith}
use Rattle.std.specs.Prelude.{◌&&◌, is_none, option_map}
use Rattle.std.specs.List.{flat_map, AllByRecursion}
use Rattle.std.proofs.lemmas.List.{length-append, length-map, length-drop, append-nil, nil_from_length}
use Rattle.s7_cotp.specs.Pairs.{pairs_of, pairs_from}
use Rattle.s7_wire.specs.Sent.{fragment_octets, sent_message, sent_messages}
use Rattle.s7_dialogue.specs.declared.config.Config.{Config}
use Rattle.s7_dialogue.specs.declared.grant.Grant.{Grant}
use Rattle.s7_dialogue.specs.declared.job.Job.{Job}
use Rattle.s7_dialogue.specs.declared.job.Job.TheVariants as job
use Rattle.s7_dialogue.specs.declared.answers.answer.Asked.{Asked}
use Rattle.s7_dialogue.specs.declared.answers.answer.Asked.TheVariants as asked
use Rattle.s7_dialogue.specs.declared.answers.answer.Answer as kept
use Rattle.s7_dialogue.specs.declared.stages.flight.Flight.{Flight}
use Rattle.s7_dialogue.specs.declared.stages.asking.Asking.{Asking}
use Rattle.s7_dialogue.specs.declared.stages.running.Stage.TheVariants as stage
use Rattle.s7_dialogue.specs.declared.stages.running.Running.{Running}
use Rattle.s7_dialogue.specs.Question.{Question, negotiates, reads, writes}
use Rattle.s7_dialogue.specs.Answer.{Answer, answer_of}
use Rattle.s7_header.specs.declared.negotiation.Negotiation.{Negotiation}
use Rattle.s7_item.specs.declared.item.Item.{Item}
use Rattle.s7_dialogue.specs.Told.{Tells}
use Rattle.s7_dialogue.specs.Flight.{Row, answers_of, open_count, filled_by, filled}
use Rattle.s7_dialogue.specs.Dialogue.{End, Conduct, negotiated, negotiated_by, first_refusal, plan_of}
use Rattle.s7_dialogue.specs.Course.{Course, for_nothing, next_question, settled, asking}
use Rattle.s7_dialogue.specs.Stages.{question_of, message_of, unput_by, IsOver}
use Rattle.s7_dialogue.specs.Asks.{asked_of, items_of, Spot, first_spot, spot_past, flight_at, if_open, flights_of, AreMadeAgain, questions_behind, Asks, IsSilent, TakesFirst, refused_at}
use Rattle.s7_dialogue.specs.GoesOn.{questions_of, conducted, asks_groups, brings_octets, brings_codes, octets_so_far, codes_so_far, Conducts}
use Rattle.s7_dialogue.specs.Taking.{Taken, rows_with}
use Rattle.s7_dialogue.specs.Running.{Follows, Reached, awaited_in, unput_of}
use Rattle.s7_dialogue.proofs.FlightLemmas.{PassesBy, none_open, settled_ends}
use Rattle.s7_dialogue.proofs.AskLemmas.{asked_none}
use Rattle.s7_dialogue.proofs.KeepLemmas.{asked_by}
use Rattle.s7_dialogue.proofs.UnputLemmas.{none_unput}
use Rattle.s7_dialogue.proofs.TakenLemmas.{IsTaking, taking, silent_row}
use Rattle.s7_dialogue.proofs.KindLemmas.{MayAsk, may_ask_with, noted_of}
use Rattle.s7_dialogue.proofs.FollowLemmas.{conducts_at}
use Rattle.s7_dialogue.proofs.ReachLemmas.{asking_not_over, over_unput}

-- ---- no answer

passes_open : (answer : Option Answer) (message : List ℕ) (config : Config) (job : Job) (spot : Spot) (row : Row)
    (flights : List Flight) → question_of config job spot.from (asked_of row.question) ≡ row.question
    → row.answer ≡ answer
    → AllByRecursion (IsSilent message) (if_open answer (flight_at spot row) flights)
    → PassesBy message row × AllByRecursion (IsSilent message) flights
passes_open None message config job spot row flights again is silent =
    (silent_row message config job spot row (flight_at spot row) again refl silent.0, silent.1)
passes_open (Some x) message config job spot row flights again is silent =
    ((λ unanswered. absurd (let e : Some x ≡ None = sym is ∙ unanswered in cc)), silent)

all_pass : (message : List ℕ) (config : Config) (job : Job) (spot : Spot) (rows : List Row)
    → AreMadeAgain config job spot rows → AllByRecursion (IsSilent message) (flights_of spot rows)
    → AllByRecursion (PassesBy message) rows
all_pass message config job spot [] again silent = tt
all_pass message config job spot (row ∷ rows) again silent =
    let next = spot_past spot (items_of row.question) in
    let both = passes_open row.answer message config job spot row (flights_of next rows) again.0 refl silent in
    (both.0, all_pass message config job next rows again.1 both.1)

no_answer : (known by_told : Option Answer) → (known ≡ None → by_told ≡ None)
    → cond (is_none known) by_told None ≡ None
no_answer None by_told passes = passes refl
no_answer (Some x) by_told passes = refl

pub none_filled : (message : List ℕ) (rows : List Row) → AllByRecursion (PassesBy message) rows
    → filled rows message ≡ None
unfolding filled
none_filled message [] passes = refl
none_filled message (row ∷ rows) passes =
    ap (λ o. filled_by row rows o (filled rows message))
    (no_answer row.answer (answer_of row.question row.number message) passes.0)
    ∙ ap (λ (o : Option (List Row)). option_map (λ (others : List Row). row ∷ others) o)
    (none_filled message rows passes.1)

pub none_taken : (message : List ℕ) (r : Running) (a : Asking) (config : Config) (granted : Option Grant)
    (rows : List Row) → r.stage ≡ stage.Asking a
    → AllByRecursion (IsSilent message) a.flights.items → Follows r config granted rows → filled rows message ≡ None
none_taken message r a config granted rows is silent follows =
    let h = conducts_at r a config granted rows is follows in
    none_filled message rows
    (all_pass message config r.job first_spot rows h.asks.again
    (subst (AllByRecursion (IsSilent message)) h.asks.flights silent))

-- ---- where nothing was left to put

some_fragment : (n room to : ℕ) (message : List ℕ)
    → flat_map (fragment_octets message) (pairs_from (n + 1) room 0 to) ≡ [] → ⊥
some_fragment n room to message none =
    let next : n + 1 ≡ suc n = omega arith in
    let e : flat_map (fragment_octets message) (pairs_from (suc n) room 0 to) ≡ [] =
    ap (λ k. flat_map (fragment_octets message) (pairs_from k room 0 to)) (sym next) ∙ none in
    omega (arith, ap length e)

-- each message takes octets
some_sent : (size : ℕ) (message : List ℕ) → sent_message size message ≡ [] → ⊥
unfolding pairs_of
some_sent size message none =
    some_fragment ((max (length message) 1 - 1) / (size - 3)) (size - 3) (length message) message none

front_none : (xs ys : List ℕ) → xs ++ ys ≡ [] → xs ≡ []
front_none xs ys none = nil_from_length xs (omega (arith, ap length none, length-append xs ys))

none_sent : (size : ℕ) (messages : List (List ℕ)) → sent_messages size messages ≡ [] → messages ≡ []
none_sent size [] none = refl
none_sent size (message ∷ messages) none =
    absurd (some_sent size message (front_none (sent_message size message) (sent_messages size messages) none))

all_put : (config : Config) (size : ℕ) (job : Job) (a : Asking) → a.unput ≤ length a.flights.items
    → unput_by config size job (stage.Asking a) ≡ [] → a.unput ≡ 0
all_put config size job a few none =
    let n = length a.flights.items - a.unput in
    let waiting = drop n a.flights.items in
    let e = none_sent size (map (message_of config job) waiting) none in
    omega (arith, few, ap length e, length-map waiting (message_of config job), length-drop n a.flights.items)

taken_put : (message : List ℕ) (config : Config) (size : ℕ) (job : Job) (a a' : Asking) (flight : Flight)
    (t : kept.Answer)
    → TakesFirst message a a' flight t → unput_by config size job (stage.Asking a) ≡ []
    → unput_by config size job (stage.Asking a') ≡ []
taken_put message config size job a a' flight t takes none =
    none_unput config size job a' (omega (arith, takes.unput, all_put config size job a a.put none))

-- ---- an answer to a read or write

conducts_taken : (message : List ℕ) (config : Config) (granted : Option Grant) (rows : List Row) (job : Job)
    (found codes : List ℕ) (a a' : Asking) (flight : Flight) (t : kept.Answer)
    → (h : Conducts config granted rows rows job found codes a) → TakesFirst message a a' flight t
    → (took : IsTaking message config job (questions_of config job h.groups) rows a' flight t)
    → asks_groups job ≡ true
    → Conducts config granted (rows_with took.taken.front took.taken.row took.taken.back took.taken.answer) rows job
    found codes a'
conducts_taken message config granted rows job found codes a a' flight t h takes took groups = record {
  groups = h.groups;
  conduct = h.conduct ∙ ap (λ w. conducted config job w h.groups) (sym takes.same.width);
  whole = h.whole;
  asks = took.asks;
  fit = took.fit h.fit;
  unanswered = λ other. absurd (let e : true ≡ false = sym groups ∙ other in cc);
  refused = ap refused_at takes.refused ∙ h.refused;
  octets = λ asks. h.octets asks ∙ ap (λ l. cond (brings_octets job) (octets_so_far rows l) []) (sym takes.same.left);
  noted = λ asks. h.noted asks ∙ ap (λ l. cond (brings_codes job) (codes_so_far rows l) []) (sym takes.same.left);
}

-- What comes of a message that is taken.
pub record IsTakenBy (message : List ℕ) (config : Config) (granted : Option Grant) (course : Course) (done : Job)
    (r' : Running) (last : ℕ) : Type 0 where
  pub rows : List Row
  pub fills : filled course.rows message ≡ Some rows
  pub reached : Reached config granted course
      (asking (plan_of done config granted).conduct (record course { rows = rows })) r' last

-- the job noted the answer, and asked on
pub taken_on : (message : List ℕ) (config : Config) (granted : Option Grant) (course : Course) (r r1 r' : Running)
    (a a' : Asking) (flight : Flight) (t : kept.Answer) (write : Bool) (items : List Item) (last : ℕ)
    → r.stage ≡ stage.Asking a → TakesFirst message a a' flight t → flight.asked ≡ asked_by write items
    → Follows r config granted course.rows → unput_of config course.size r ≡ []
    → ((rows : List Row) (taken : Taken rows flight t)
    → Conducts config granted (rows_with taken.front taken.row taken.back taken.answer) rows r.job r.found.items
    r.codes a'
    → Follows r1 config granted (rows_with taken.front taken.row taken.back taken.answer))
    → unput_of config course.size r1 ≡ unput_by config course.size r.job (stage.Asking a') → r1.job ≡ r.job
    → ((now : Course) → Follows r1 config granted now.rows → now.sequence ≡ course.sequence
    → unput_of config now.size r1 ≡ []
    → Reached config granted now (asking (plan_of r1.job config granted).conduct now) r' last)
    → IsTakenBy message config granted course r.job r' last
taken_on message config granted course r r1 r' a a' flight t write items last is takes wanted follows none notes unput
    same goes =
    let h = conducts_at r a config granted course.rows is follows in
    let took =
    taking message config r.job (questions_of config r.job h.groups) course.rows a a' flight t h.asks takes in
    let taken = took.taken in
    let rows' = rows_with taken.front taken.row taken.back taken.answer in
    let noted = noted_of config r.job h.groups course.rows flight t a' write items taken wanted took.asks in
    let now : Course = record course { rows = rows' } in
    let put : unput_of config course.size r1 ≡ [] =
    unput ∙ taken_put message config course.size r.job a a' flight t takes
    (ap (unput_by config course.size r.job) (sym is) ∙ none) in
    let on : Reached config granted now (asking (plan_of r1.job config granted).conduct now) r' last =
    goes now (notes course.rows taken
    (conducts_taken message config granted course.rows r.job r.found.items r.codes a a' flight t h takes took
    noted.groups))
    refl put in
    let reached : Reached config granted now (asking (plan_of r.job config granted).conduct now) r' last =
    subst (λ (j : Job). Reached config granted now (asking (plan_of j config granted).conduct now) r' last) same on in
    record {
      rows = rows';
      fills = took.fills;
      reached =
          record {
            awaits = reached.awaits;
            follows = reached.follows;
            sequence = reached.sequence;
            out =
                reached.out;
          };
    }

-- ---- the answer to a negotiation

pub not_for_items : (told : Asked) → ((items : List Item) → told ≡ asked.Read items → ⊥)
    → ((items : List Item) → told ≡ asked.Write items → ⊥) → told ≡ asked.Negotiation
not_for_items asked.Negotiation not_read not_written = refl
not_for_items (asked.Read items) not_read not_written = absurd (not_read items refl)
not_for_items (asked.Write items) not_read not_written = absurd (not_written items refl)

negotiates_by : (done : Job) (question : Question) → asked_of question ≡ asked.Negotiation → MayAsk done question
    → (n : Negotiation) × (question ≡ negotiates n)
negotiates_by done (negotiates n) is may = (n, refl)
negotiates_by done (reads items) is may = absurd (cc)
negotiates_by done (writes items octets) is may = absurd (cc)
negotiates_by done _ is may = absurd may

either_none : (b : Bool) (next : Option Question) → next ≡ None → cond b next None ≡ None
either_none true next none = none
either_none false next none = refl

-- it is the one telegram of its job
one_row : (config : Config) (done : Job) (groups : List (List Item)) (front back : List Row) (row : Row) (x : Answer)
    (a : Asking) → done ≡ job.Connect
    → Asks config done (questions_of config done groups) (rows_with front row back x) a
    → rows_with front row back x ≡ record row { answer = Some x } ∷ []
one_row config done groups front back row x a is asks =
    let rows' = rows_with front row back x in
    let qs = map (λ (r : Row). r.question) rows' in
    let later = questions_behind config done a.from a.left in
    let one : length qs + length later ≡ 1 =
    sym (length-append qs later)
    ∙ (ap length (sym asks.whole) ∙ ap (λ (j : Job). length (questions_of config j groups)) is) in
    let long : length qs ≡ length front + (1 + length back) =
    length-map rows' (λ (r : Row). r.question)
    ∙ (length-append front (record row { answer = Some x } ∷ back) ∙ omega arith) in
    ap (λ rs. rs ++ record row { answer = Some x } ∷ back) (nil_from_length front (omega (arith, one, long)))
    ∙ ap (λ rs. record row { answer = Some x } ∷ rs) (nil_from_length back (omega (arith, one, long)))

-- and ends it
negotiated_ends : (config : Config) (granted : Option Grant) (course : Course) (done : Job) (width : ℕ)
    (groups : List (List Item)) (row : Row) (x : Answer)
    → done ≡ job.Connect → (plan_of done config granted).conduct ≡ conducted config done width groups
    → course.rows ≡ record row { answer = Some x } ∷ []
    → asking (plan_of done config granted).conduct course ≡ settled (plan_of done config granted).conduct course
negotiated_ends config granted course done width groups row x is conduct rows =
    let c = (plan_of done config granted).conduct in
    let d = conducted config job.Connect width groups in
    let same : c ≡ d = conduct ∙ ap (λ (j : Job). conducted config j width groups) is in
    let none : next_question c course.rows ≡ None =
    ap (λ (e : Conduct). next_question e course.rows) same
    ∙ (ap (next_question d) rows
    ∙ either_none
    (ltb (open_count (record row { answer = Some x } ∷ [])) width && is_none
    (first_refusal d.refusal 0 (answers_of (record row { answer = Some x } ∷ []))))
    (d.question_at (answers_of (record row { answer = Some x } ∷ []))) refl) in
    ap (settled c) (asked_none c.width c course none)

pub taken_grant : (message : List ℕ) (config : Config) (granted : Option Grant) (course : Course) (r r' : Running)
    (a a' : Asking) (flight : Flight) (t : kept.Answer) (end : End) (last : ℕ)
    → r.stage ≡ stage.Asking a → TakesFirst message a a' flight t → flight.asked ≡ asked.Negotiation
    → Follows r config granted course.rows → course.sequence ≡ last
    → ((n : Negotiation) (x : Answer) → Tells (negotiates n) t x → end ≡ negotiated_by config x)
    → awaited_in r' [] ≡ for_nothing end [] → IsOver r'.stage
    → IsTakenBy message config granted course r.job r' last
taken_grant message config granted course r r' a a' flight t end last is takes wanted follows same ends awaits over =
    let h = conducts_at r a config granted course.rows is follows in
    let took =
    taking message config r.job (questions_of config r.job h.groups) course.rows a a' flight t h.asks takes in
    let taken = took.taken in
    let row = taken.row in
    let x = taken.answer in
    let rows' = rows_with taken.front row taken.back x in
    let now : Course = record course { rows = rows' } in
    let c = (plan_of r.job config granted).conduct in
    let may : MayAsk r.job row.question =
    may_ask_with config r.job h.groups taken.front taken.back row x a' took.asks in
    let n = negotiates_by r.job row.question (ap (λ (f : Flight). f.asked) (sym taken.kept) ∙ wanted) may in
    let connects : r.job ≡ job.Connect = subst (MayAsk r.job) n.1 may in
    let one : rows' ≡ record row { answer = Some x } ∷ [] =
    one_row config r.job h.groups taken.front taken.back row x a' connects took.asks in
    let settles : asking c now ≡ settled c now =
    negotiated_ends config granted now r.job a.width h.groups row x connects h.conduct one in
    let none : open_count rows' ≡ 0 =
    ap open_count one ∙ none_open (record row { answer = Some x } ∷ []) ((x, refl), tt) in
    let by_told : end ≡ negotiated_by config x = ends n.0 x (subst (λ (q : Question). Tells q t x) n.1 taken.tells) in
    let answer : c.ended (answers_of rows') ≡ negotiated_by config x =
    ap (λ (e : Conduct). e.ended (answers_of rows'))
    (h.conduct ∙ ap (λ (j : Job). conducted config j a.width h.groups) connects)
    ∙ ap (λ rs. negotiated config (answers_of rs)) one in
    record {
      rows = rows';
      fills = took.fills;
      reached = record {
        awaits =
            ap (λ (k : Course). k.awaits) settles
            ∙ (settled_ends c now none ∙ (ap (λ e. for_nothing e []) (answer ∙ sym by_told) ∙ sym awaits));
        follows = λ asks. absurd (asking_not_over r'.stage over asks);
        sequence = sym same ∙ sym (ap (λ (k : Course). k.sequence) settles);
        out =
            ap (λ (k : Course). k.out) settles
            ∙ (sym (append-nil course.out)
            ∙ ap (λ xs. course.out ++ xs) (sym (over_unput config course.size r'.job r'.stage over)));
      };
    }
