-- Lemmas on the telegram that a message answers.
use Rattle.std.proofs.Common.{◌≡◌, ℕ, ◌+◌, ◌≤◌, Bool, true, false, cond, eqb, leb, not, ◌&&◌, Option, Some, None, List, [], ◌∷◌, ◌++◌, length, map, take, drop, slice_index, refl, sym, ap, ◌∙◌, subst, arith}
use Rattle.std.specs.Bool.{MatchBool}
use Rattle.std.specs.Prelude.{IfSome}
use Rattle.std.specs.Option.{option_map, option_and_then}
use Rattle.std.specs.List.{AllByRecursion}
use Rattle.std.proofs.lemmas.Option.{same_Some}
use Rattle.std.proofs.lemmas.Bool.{and_parts, not-true, leb-true}
use Rattle.std.proofs.lemmas.List.{length-drop, length-take-le}
use Rattle.s7_item.specs.declared.item.Item.{Item}
use Rattle.s7_item.specs.Item.{octet_count}
use Rattle.s7_item.specs.Word.{transport_of}
use Rattle.s7_item.specs.DataItem.{stated_length, padding_of}
use Rattle.s7_header.specs.Octets.{number_at}
use Rattle.s7_dialogue.specs.declared.config.Config.{Config}
use Rattle.s7_dialogue.specs.declared.job.Job.{Job}
use Rattle.s7_dialogue.specs.declared.answers.answer.Answer as kept
use Rattle.s7_dialogue.specs.declared.answers.answer.Answer.TheVariants as told
use Rattle.s7_dialogue.specs.declared.stages.flight.Flight.{Flight}
use Rattle.s7_dialogue.specs.declared.stages.asking.Asking.{Asking}
use Rattle.s7_dialogue.specs.Question.{Question, negotiates, reads, writes}
use Rattle.s7_dialogue.specs.Answer.{Answer, ItemAnswer, begins_read, begins_refused, item_first, item_answers, answer_of}
use Rattle.s7_dialogue.specs.DataItems.{First, first_of, answers_in}
use Rattle.s7_dialogue.specs.Told.{IsAsked, Tells, TellsSome}
use Rattle.s7_dialogue.specs.Stages.{question_of}
use Rattle.s7_dialogue.specs.Flight.{Row, filled}
use Rattle.s7_dialogue.specs.Asks.{asked_of, items_of, Spot, first_spot, spot_past, spot_behind, flight_at, if_open, flights_of, AreMadeAgain, questions_behind, Asks, IsSilent, TakesFirst}
use Rattle.s7_dialogue.specs.GoesOn.{TellsItem, TellAll, FitsQuestion, IsFit}
use Rattle.s7_dialogue.specs.Taking.{Taken, rows_with}
use Rattle.s7_dialogue.proofs.EndLemmas.{heads_same}
use Rattle.s7_dialogue.proofs.FlightLemmas.{PassesBy, filled_at}
use Rattle.s7_dialogue.proofs.SpotLemmas.{spot_append, flights_append}
use Rattle.s7_dialogue.proofs.ItemLemmas.{then_others, answers_first}

-- ---- the first telegram that the message answers

-- a question that is made again of what is kept of it
pub kept_of : (config : Config) (job : Job) (from : ℕ) (question : Question)
    → question_of config job from (asked_of question) ≡ question → IsAsked (asked_of question) question
kept_of config job from (negotiates n) again = tt
kept_of config job from (reads items) again = refl
kept_of config job from (writes items octets) again = refl
kept_of config job from _ again = absurd (cc)

again_at : (config : Config) (job : Job) (spot : Spot) (front back : List Row) (row : Row)
    → AreMadeAgain config job spot (front ++ row ∷ back)
    → question_of config job (spot_behind spot front).from (asked_of row.question) ≡ row.question
again_at config job spot [] back row again = again.0
again_at config job spot (r ∷ front) back row again =
    again_at config job (spot_past spot (items_of r.question)) front back row again.1

-- The telegram is that of this row, which no telegram before it answers.
record IsFound (message : List ℕ) (spot : Spot) (rows : List Row) (before : List Flight) (flight : Flight)
    (after : List Flight) : Type 0 where
  front : List Row
  row : Row
  back : List Row
  are : rows ≡ front ++ row ∷ back
  unanswered : row.answer ≡ None
  kept : flight ≡ flight_at (spot_behind spot front) row
  first : AllByRecursion (PassesBy message) front
  ahead : before ≡ flights_of spot front
  behind : after ≡ flights_of (spot_past (spot_behind spot front) (items_of row.question)) back

found_past : (message : List ℕ) (spot : Spot) (row : Row) (rows : List Row) (before before' : List Flight)
    (flight : Flight) (after : List Flight)
    → PassesBy message row → before' ≡ if_open row.answer (flight_at spot row) before
    → IsFound message (spot_past spot (items_of row.question)) rows before flight after
    → IsFound message spot (row ∷ rows) before' flight after
found_past message spot row rows before before' flight after passes is f = record {
  front = row ∷ f.front;
  row = f.row;
  back = f.back;
  are = ap (λ rs. row ∷ rs) f.are;
  unanswered = f.unanswered;
  kept = f.kept;
  first = (passes, f.first);
  ahead = is ∙ ap (if_open row.answer (flight_at spot row)) f.ahead;
  behind = f.behind;
}

found_here : (message : List ℕ) (spot : Spot) (row : Row) (rows : List Row) (flight : Flight) (after : List Flight)
    → row.answer ≡ None
    → flight_at spot row ∷ flights_of (spot_past spot (items_of row.question)) rows ≡ flight ∷ after
    → IsFound message spot (row ∷ rows) [] flight after
found_here message spot row rows flight after unanswered is =
    let both =
    heads_same (flight_at spot row) flight (flights_of (spot_past spot (items_of row.question)) rows) after is in
    record {
      front = [];
      row = row;
      back = rows;
      are = refl;
      unanswered = unanswered;
      kept = sym both.0;
      first = tt;
      ahead = refl;
      behind = sym both.1;
    }

-- the message is no answer to the telegram of a row
pub silent_row : (message : List ℕ) (config : Config) (job : Job) (spot : Spot) (row : Row) (flight : Flight)
    → question_of config job spot.from (asked_of row.question) ≡ row.question → flight_at spot row ≡ flight
    → IsSilent message flight → PassesBy message row
silent_row message config job spot row flight again is silent =
    let s : IsSilent message (flight_at spot row) = subst (IsSilent message) (sym is) silent in
    λ unanswered. s row.question (kept_of config job spot.from row.question again)

find_by : (message : List ℕ) (config : Config) (job : Job) (spot : Spot) (row : Row) (rows : List Row)
    (answer : Option Answer) (before : List Flight) (flight : Flight) (after : List Flight)
    → question_of config job spot.from (asked_of row.question) ≡ row.question
    → row.answer ≡ answer → AllByRecursion (IsSilent message) before
    → ((bs : List Flight) → AllByRecursion (IsSilent message) bs
    → flights_of (spot_past spot (items_of row.question)) rows ≡ bs ++ flight ∷ after
    → IsFound message (spot_past spot (items_of row.question)) rows bs flight after)
    → if_open answer (flight_at spot row)
    (flights_of (spot_past spot (items_of row.question)) rows) ≡ before ++ flight ∷ after
    → IsFound message spot (row ∷ rows) before flight after
find_by message config job spot row rows (Some x) before flight after again answer silent later is =
    found_past message spot row rows before before flight after
    (λ unanswered. absurd (let e : Some x ≡ None = sym answer ∙ unanswered in cc))
    (ap (λ o. if_open o (flight_at spot row) before) (sym answer))
    (later before silent is)
find_by message config job spot row rows None [] flight after again answer silent later is =
    found_here message spot row rows flight after answer is
find_by message config job spot row rows None (b ∷ before) flight after again answer silent later is =
    let both =
    heads_same (flight_at spot row) b (flights_of (spot_past spot (items_of row.question)) rows)
    (before ++ flight ∷ after) is in
    found_past message spot row rows before (b ∷ before) flight after
    (silent_row message config job spot row b again both.0 silent.0)
    (ap (λ f. f ∷ before) (sym both.0) ∙ ap (λ o. if_open o (flight_at spot row) before) (sym answer))
    (later before silent.1 both.1)

none_found : (before after : List Flight) (flight : Flight) → [] ≡ before ++ flight ∷ after → ⊥
none_found [] after flight is = omega (arith, ap length is)
none_found (b ∷ before) after flight is = omega (arith, ap length is)

find : (message : List ℕ) (config : Config) (job : Job) (spot : Spot) (rows : List Row) (before : List Flight)
    (flight : Flight) (after : List Flight)
    → AreMadeAgain config job spot rows → AllByRecursion (IsSilent message) before
    → flights_of spot rows ≡ before ++ flight ∷ after
    → IsFound message spot rows before flight after
find message config job spot [] before flight after again silent is = absurd (none_found before after flight is)
find message config job spot (row ∷ rows) before flight after again silent is =
    let next = spot_past spot (items_of row.question) in
    find_by message config job spot row rows row.answer before flight after again.0 refl silent
    (λ bs quiet there. find message config job next rows bs flight after again.1 quiet there) is

-- ---- what it tells fits the question

item_fits_by : (read refused : Bool) (item : Item) (x y : First) → (read ≡ true → x.answer.code ≡ 0xFF)
    → (read ≡ true → length x.answer.octets ≡ octet_count item)
    → (refused ≡ true → eqb y.answer.code 0xFF ≡ false) → y.answer.octets ≡ []
    → IfSome (cond read (Some x) (cond refused (Some y) None)) (λ first. TellsItem item first.answer)
item_fits_by true refused item x y code long other none =
    subst (λ (b : Bool). MatchBool b (length x.answer.octets ≡ octet_count item) (x.answer.octets ≡ []))
    (sym (ap (λ k. eqb k 0xFF) (code refl))) (long refl)
item_fits_by false true item x y code long other none =
    subst (λ (b : Bool). MatchBool b (length y.answer.octets ≡ octet_count item) (y.answer.octets ≡ []))
    (sym (other refl)) none
item_fits_by false false item x y code long other none = tt

read_long : (code transport stated : Bool) (n pad : ℕ) (octets : List ℕ)
    → ((code && transport) && (stated && leb (4 + n + pad) (length octets))) ≡ true
    → length (take n (drop 4 octets)) ≡ n
read_long code transport stated n pad octets is =
    let fits : 4 + n + pad ≤ length octets =
    leb-true (4 + n + pad) (length octets)
    (and_parts stated (leb (4 + n + pad) (length octets))
    (and_parts (code && transport) (stated && leb (4 + n + pad) (length octets)) is).1).1 in
    length-take-le n (drop 4 octets) (omega (arith, fits, length-drop 4 octets))

refused_code : (code blank rest : Bool) → ((not code && blank) && rest) ≡ true → code ≡ false
refused_code code blank rest is =
    not-true code (and_parts (not code) blank (and_parts (not code && blank) rest is).0).0

item_fits : (item : Item) (last : Bool) (octets : List ℕ)
    → IfSome (first_of item last octets) (λ first. TellsItem item first.answer)
item_fits item last octets =
    item_fits_by (begins_read item last octets) (begins_refused octets) item _ _ (λ read. refl)
    (read_long (eqb (slice_index octets 0) 0xFF) (eqb (slice_index octets 1) (transport_of item.word))
    (eqb (number_at octets 2) (stated_length (transport_of item.word) (octet_count item))) (octet_count item)
    (padding_of (octet_count item) last) octets)
    (refused_code (eqb (slice_index octets 0) 0xFF) (eqb (slice_index octets 1) 0)
    (eqb (number_at octets 2) 0 && leb 4 (length octets))) refl

others_fit : (items : List Item) (item : Item) (answer : ItemAnswer) (found : Option (List ItemAnswer))
    (answers : List ItemAnswer)
    → TellsItem item answer → ((others : List ItemAnswer) → found ≡ Some others → TellAll items others)
    → option_map (item_first answer) found ≡ Some answers → TellAll (item ∷ items) answers
others_fit items item answer None answers fits later is = absurd (cc)
others_fit items item answer (Some others) answers fits later is =
    subst (TellAll (item ∷ items)) (same_Some (answer ∷ others) answers is) (fits, later others refl)

none_fit : (empty : Bool) (answers : List ItemAnswer) → cond empty (Some []) None ≡ Some answers → TellAll [] answers
none_fit true answers is = subst (TellAll []) (same_Some [] answers is) tt
none_fit false answers is = absurd (cc)

answers_fit : (items : List Item) (item : Item) (found : Option First) (answers : List ItemAnswer)
    → IfSome found (λ first. TellsItem item first.answer)
    → ((octets : List ℕ) (others : List ItemAnswer) → item_answers items octets ≡ Some others → TellAll items others)
    → option_and_then (then_others items) found ≡ Some answers → TellAll (item ∷ items) answers
answers_fit items item None answers fits later is = absurd (cc)
answers_fit items item (Some first) answers fits later is =
    others_fit items item first.answer (item_answers items first.rest) answers fits
    (λ others e. later first.rest others e) is

-- the answers that octets are fit their items
pub tell_all : (items : List Item) (octets : List ℕ) (answers : List ItemAnswer)
    → item_answers items octets ≡ Some answers → TellAll items answers
tell_all [] octets answers is = none_fit (eqb (length octets) 0) answers is
tell_all (item ∷ items) octets answers is =
    answers_fit items item (first_of item (eqb (length items) 0) octets) answers
    (item_fits item (eqb (length items) 0) octets)
    (λ os others e. tell_all items os others e) (sym (answers_first item items octets) ∙ is)

pub tells_fit : (question : Question) (t : kept.Answer) (x : Answer) → Tells question t x → FitsQuestion question x
tells_fit (reads items) (told.Refused error) x telling = subst (FitsQuestion (reads items)) (sym telling) tt
tells_fit (reads items) (told.Granted n) x telling = absurd telling
tells_fit (reads items) (told.Items answers) x telling =
    subst (FitsQuestion (reads items)) (sym telling.2) (tell_all items telling.0 (answers_in answers.items) telling.1)
tells_fit (reads items) (told.Codes noted) x telling = absurd telling
tells_fit (writes items octets) (told.Refused error) x telling =
    subst (FitsQuestion (writes items octets)) (sym telling) tt
tells_fit (writes items octets) (told.Granted n) x telling = absurd telling
tells_fit (writes items octets) (told.Items answers) x telling = absurd telling
tells_fit (writes items octets) (told.Codes noted) x telling =
    subst (FitsQuestion (writes items octets)) (sym telling.0) telling.1
tells_fit _ t x telling = tt

-- ---- the rows with the answer

again_with : (config : Config) (job : Job) (spot : Spot) (front back : List Row) (row : Row) (x : Answer)
    → AreMadeAgain config job spot (front ++ row ∷ back) → AreMadeAgain config job spot (rows_with front row back x)
again_with config job spot [] back row x again = again
again_with config job spot (r ∷ front) back row x again =
    (again.0, again_with config job (spot_past spot (items_of r.question)) front back row x again.1)

fit_with : (front back : List Row) (row : Row) (x : Answer) → FitsQuestion row.question x
    → AllByRecursion IsFit (front ++ row ∷ back)
    → AllByRecursion IsFit (rows_with front row back x)
fit_with [] back row x fits fit = (fits, fit.1)
fit_with (r ∷ front) back row x fits fit = (fit.0, fit_with front back row x fits fit.1)

questions_with : (front back : List Row) (row : Row) (x : Answer)
    → map (λ (r : Row). r.question) (rows_with front row back x) ≡ map (λ (r : Row). r.question) (front ++ row ∷ back)
questions_with [] back row x = refl
questions_with (r ∷ front) back row x = ap (λ qs. r.question ∷ qs) (questions_with front back row x)

told_answer : (question : Question) (t : kept.Answer) (o : Option Answer) → TellsSome question t o
    → (x : Answer) × (o ≡ Some x) × Tells question t x
told_answer question t None h = absurd h
told_answer question t (Some x) h = (x, refl, h)

-- A telegram was answered: the rows with the answer, and what the job asks on.
pub record IsTaking (message : List ℕ) (config : Config) (job : Job) (questions : List Question) (rows : List Row)
    (a : Asking) (flight : Flight) (t : kept.Answer)
    : Type 0 where
  pub taken : Taken rows flight t
  pub fills : filled rows message ≡ Some (rows_with taken.front taken.row taken.back taken.answer)
  pub asks : Asks config job questions (rows_with taken.front taken.row taken.back taken.answer) a
  pub fit : AllByRecursion IsFit rows → AllByRecursion IsFit (rows_with taken.front taken.row taken.back taken.answer)

taking_found : (message : List ℕ) (config : Config) (job : Job) (questions : List Question) (rows : List Row)
    (a a' : Asking) (flight : Flight) (t : kept.Answer)
    → Asks config job questions rows a → (takes : TakesFirst message a a' flight t)
    → IsFound message first_spot rows takes.front flight takes.back
    → IsTaking message config job questions rows a' flight t
taking_found message config job questions rows a a' flight t asks takes f =
    let spot = spot_behind first_spot f.front in
    let asked : IsAsked flight.asked f.row.question =
    subst (λ (g : Flight). IsAsked g.asked f.row.question) (sym f.kept)
    (kept_of config job spot.from f.row.question
    (again_at config job first_spot f.front f.back f.row
    (subst (AreMadeAgain config job first_spot) f.are asks.again))) in
    let found =
    told_answer f.row.question t (answer_of f.row.question flight.sequence message)
    (takes.answers f.row.question asked) in
    let x = found.0 in
    let answers : answer_of f.row.question f.row.number message ≡ Some x =
    ap (λ (g : Flight). answer_of f.row.question g.sequence message) (sym f.kept) ∙ found.1 in
    let rows' = rows_with f.front f.row f.back x in
    record {
      taken = record {
        front = f.front;
        row = f.row;
        back = f.back;
        answer = x;
        before = f.are;
        unanswered = f.unanswered;
        kept = f.kept;
        tells = found.2;
      };
      fills =
          ap (λ rs. filled rs message) f.are ∙ filled_at f.front f.back f.row message x f.first f.unanswered answers;
      asks = record {
        whole =
            asks.whole
            ∙ (ap (λ rs. map (λ (r : Row). r.question) rs ++ questions_behind config job a.from a.left) f.are
            ∙ (ap (λ qs. qs ++ questions_behind config job a.from a.left)
            (sym (questions_with f.front f.back f.row x))
            ∙ (ap (λ l. map (λ (r : Row). r.question) rows' ++ questions_behind config job a.from l)
            (sym takes.same.left)
            ∙ ap (λ (s : Spot). map (λ (r : Row). r.question) rows' ++ questions_behind config job s.from a'.left)
            (sym takes.same.spot))));
        again =
            again_with config job first_spot f.front f.back f.row x
            (subst (AreMadeAgain config job first_spot) f.are asks.again);
        flights =
            takes.rest
            ∙ (ap (λ fs. fs ++ takes.back) f.ahead
            ∙ (ap (λ fs. flights_of first_spot f.front ++ fs) f.behind
            ∙ sym (flights_append first_spot f.front (record f.row { answer = Some x } ∷ f.back))));
        spot =
            takes.same.spot
            ∙ (asks.spot
            ∙ (ap (spot_behind first_spot) f.are
            ∙ (spot_append first_spot f.front (f.row ∷ f.back)
            ∙ sym (spot_append first_spot f.front (record f.row { answer = Some x } ∷ f.back)))));
      };
      fit =
          λ fit. fit_with f.front f.back f.row x (tells_fit f.row.question t x found.2)
          (subst (AllByRecursion IsFit) f.are fit);
    }

pub taking : (message : List ℕ) (config : Config) (job : Job) (questions : List Question) (rows : List Row)
    (a a' : Asking) (flight : Flight) (t : kept.Answer)
    → Asks config job questions rows a → TakesFirst message a a' flight t
    → IsTaking message config job questions rows a' flight t
taking message config job questions rows a a' flight t asks takes =
    taking_found message config job questions rows a a' flight t asks takes
    (find message config job first_spot rows takes.front flight takes.back asks.again takes.first
    (sym asks.flights ∙ takes.out))
