-- Lemmas on jobs that ask one question at a time, as they take its answer.
use Rattle.std.proofs.Common.{◌≡◌, ◌==◌, ℕ, ◌+◌, ◌≤◌, true, eqb, leb, ltb, ◌&&◌, Bor, Option, Some, None, List, [], ◌∷◌, ◌++◌, length, take, drop, refl, sym, ap, ◌∙◌, subst, eq-eqb, arith}
use Rattle.std.specs.Prelude.{option_map}
use Rattle.std.proofs.Math.Path.{ap₂}
use Rattle.std.specs.List.{AllByRecursion}
use Rattle.std.proofs.lemmas.Bool.{and_parts, and_from, eqb-true, leb-true, lt-ltb, le-leb}
use Rattle.std.proofs.lemmas.List.{append-nil, length-append, length-take-le, take_at}
use Rattle.s7_block.specs.Heads.{four_at}
use Rattle.s7_dialogue.specs.declared.config.Config.{Config}
use Rattle.s7_dialogue.specs.declared.grant.Grant.{Grant}
use Rattle.s7_dialogue.specs.declared.grant.Leaves.TheVariants.{AsItWas}
use Rattle.s7_dialogue.specs.declared.job.Job.{Job}
use Rattle.s7_dialogue.specs.declared.transfers.data_block.DataBlock.{DataBlock}
use Rattle.s7_dialogue.specs.declared.transfers.data_block.Place.{Place}
use Rattle.s7_dialogue.specs.declared.questions.subject.Subject.{Subject}
use Rattle.s7_dialogue.specs.declared.stages.single.Ask.{Ask}
use Rattle.s7_dialogue.specs.declared.stages.single.Ask.TheVariants as ask
use Rattle.s7_dialogue.specs.declared.stages.single.Single.{Single}
use Rattle.s7_dialogue.specs.declared.stages.running.Stage.{Stage}
use Rattle.s7_dialogue.specs.declared.stages.running.Stage.TheVariants as stage
use Rattle.s7_dialogue.specs.declared.stages.running.Running.{Running}
use Rattle.s7_dialogue.specs.declared.transfers.user_data.Told.{Told}
use Rattle.s7_dialogue.specs.declared.transfers.user_data.Told.TheVariants as told
use Rattle.s7_dialogue.specs.DataBlocks.{tells_data, data_length}
use Rattle.s7_dialogue.specs.DataPlaces.{room_for_value, comes_for, has_pdu, is_inside}
use Rattle.s7_dialogue.specs.Question.{Question}
use Rattle.s7_dialogue.specs.Answer.{Answer, answer_of, brings}
use Rattle.s7_dialogue.specs.Flight.{Row, answers_of, filled}
use Rattle.s7_dialogue.specs.Dialogue.{End, Conduct, first_refusal, good_end, number_end, plan_of}
use Rattle.s7_dialogue.specs.Course.{Course, for_nothing, asking}
use Rattle.s7_dialogue.specs.Stages.{question_of_single, conduct_of_single, is_writable, can_ask_single, is_ready, answers_left, IsOver}
use Rattle.s7_dialogue.specs.Singles.{room_for, parts_bring, most_brought, asks_left, lead_in, TellsHead, BringsOn, BeginsAnew, TellsSingle, TellsIfSome}
use Rattle.s7_dialogue.specs.GoesOn.{IsAnswered, IsNextOf, IsToldTo}
use Rattle.s7_dialogue.specs.Running.{Follows, Reached, awaited_in}
use Rattle.s7_dialogue.proofs.FlightLemmas.{PassesBy, answered_pass, filled_first}
use Rattle.s7_dialogue.proofs.SpotLemmas.{all_append}
use Rattle.s7_dialogue.proofs.ReachLemmas.{asking_not_over, over_unput}
use Rattle.s7_dialogue.proofs.SingleAskLemmas.{each_known, answered_open, Stands, stands_at, next_stands}
use Rattle.s7_dialogue.proofs.SingleBehindLemmas.{Answers, answers_behind, unrefused_behind, EndsWith, ended_with, Keeps, GoesBehind}
use Rattle.s7_dialogue.proofs.SingleAnswerLemmas.{goes_behind, anew_behind, ends_behind, ends_refused, IsNext, is_next, room_within}
use Rattle.s7_dialogue.proofs.DataBehindLemmas.{first_place}
use Rattle.s7_dialogue.proofs.TakeLemmas.{none_filled, IsTakenBy}

-- ---- the telegram that is out

-- a job of which a telegram is out under this sequence
abbrev IsOut : Running → Single → Config → Option Grant → List Row → ℕ → Type 0
IsOut r s config granted rows number =
    Stands config granted rows r.job r.found.items r.codes s.ask s.len (Some number)

abbrev asked_alone : Running → Single → Question
asked_alone r s = question_of_single r.job s.ask (take s.len r.found.items)

-- the telegrams with its answer
abbrev told_rows : List Row → Question → ℕ → Answer → List Row
told_rows before question number x =
    before ++ record { question = question; number = number; answer = Some x } ∷ []

all_told : (before : List Row) (question : Question) (number : ℕ) (x : Answer) → AllByRecursion IsAnswered before
    → AllByRecursion IsAnswered (told_rows before question number x)
all_told before question number x each =
    all_append IsAnswered before (record { question = question; number = number; answer = Some x } ∷ []) each
    (refl, tt)

fills_alone : (r : Running) (s : Single) (config : Config) (granted : Option Grant) (rows : List Row) (number : ℕ)
    (message : List ℕ) (x : Answer)
    → (h : IsOut r s config granted rows number) → answer_of (asked_alone r s) number message ≡ Some x
    → filled rows message ≡ Some (told_rows h.before (asked_alone r s) number x)
fills_alone r s config granted rows number message x h answers =
    ap (λ rs. filled rs message) h.are
    ∙ filled_first h.before [] (record { question = asked_alone r s; number = number; answer = None }) message x
    (answered_open h.before h.answered) refl answers

-- a message that is no answer to it fills nothing, and neither does any where none is out
pub none_alone : (r : Running) (s : Single) (found : List ℕ) (config : Config) (granted : Option Grant)
    (rows : List Row) (message : List ℕ)
    → r.stage ≡ stage.Single s → found ≡ r.found.items
    → ((number : ℕ) → s.out ≡ Some number
    → answer_of (question_of_single r.job s.ask (take s.len found)) number message ≡ None)
    → Follows r config granted rows → filled rows message ≡ None
none_alone r s found config granted rows message is same none follows = by_out s.out refl
  where
    by_out : (out : Option ℕ) → s.out ≡ out → filled rows message ≡ None
    by_out None out =
        let h = stands_at r s config granted rows None is out follows in
        none_filled message rows
        (subst (AllByRecursion (PassesBy message)) (sym (h.are ∙ append-nil h.before))
        (answered_pass message h.before (each_known h.before h.answered)))
    by_out (Some number) out =
        let h = stands_at r s config granted rows (Some number) is out follows in
        let row : Row = record { question = asked_alone r s; number = number; answer = None } in
        let silent : answer_of (asked_alone r s) number message ≡ None =
        subst (λ (xs : List ℕ). answer_of (question_of_single r.job s.ask (take s.len xs)) number message ≡ None) same
        (none number out) in
        none_filled message rows
        (subst (AllByRecursion (PassesBy message)) (sym h.are)
        (all_append (PassesBy message) h.before (row ∷ [])
        (answered_pass message h.before (each_known h.before h.answered)) ((λ unanswered. silent), tt)))

-- ---- what the code says of its answer

pub told_alone : (r : Running) (s : Single) (found message : List ℕ) (t : Told)
    → r.stage ≡ stage.Single s → found ≡ r.found.items
    → ((number : ℕ) × (s.out ≡ Some number) × TellsIfSome s.ask (take s.len found) t
    (answer_of (question_of_single r.job s.ask (take s.len found)) number message))
    → IsToldTo r s.ask s.len message t
told_alone r s found message t is same of = record {
  single = s;
  stage = is;
  ask = refl;
  len = refl;
  number = of.0;
  out = of.1;
  tells =
      subst (λ (xs : List ℕ). TellsIfSome s.ask (take s.len xs) t
      (answer_of (question_of_single r.job s.ask (take s.len xs)) of.0 message)) same of.2;
}

-- how many answers are left
pub left_alone : (r : Running) (asked : Ask) (len : ℕ) (message : List ℕ) (t : Told)
    → IsToldTo r asked len message t → answers_left r.stage ≡ asks_left asked len
left_alone r asked len message t of = ap answers_left of.stage ∙ ap₂ asks_left of.ask of.len

some_left : (asked : Ask) (len : ℕ) → 1 ≤ asks_left asked len
some_left (ask.Control control) len = omega arith
some_left (ask.About subject) len = omega arith
some_left (ask.Further subject octet) len = omega arith
some_left ask.Upload len = omega arith
some_left (ask.Slice id size) len = omega arith
some_left (ask.UploadEnd id) len = omega arith
some_left (ask.Announce pieces) len = omega arith
some_left (ask.AwaitCall pieces) len = omega arith
some_left (ask.Give pieces from call) len = omega arith
some_left (ask.Insert pieces call) len = omega arith
some_left (ask.Head block) len = omega arith
some_left (ask.HeadFurther block octet) len = omega arith
some_left (ask.Part block place) len = omega arith

none_left : (st : Stage) → IsOver st → answers_left st ≡ 0
none_left stage.Opening over = absurd over
none_left (stage.Asking a) over = absurd over
none_left (stage.Single s) over = absurd over
none_left stage.Leaving over = absurd over
none_left (stage.Over code leaves) over = refl

-- and none, once the job is over
pub over_fewer : (r r' : Running) (asked : Ask) (len : ℕ) (message : List ℕ) (t : Told)
    → IsToldTo r asked len message t → IsOver r'.stage → answers_left r'.stage + 1 ≤ answers_left r.stage
over_fewer r r' asked len message t of over =
    omega (arith, none_left r'.stage over, left_alone r asked len message t of, some_left asked len)

-- The answer is there, and this is told of it.
record Tells (r : Running) (s : Single) (message : List ℕ) (t : Told) : Type 0 where
  number : ℕ
  out : s.out ≡ Some number
  answer : Answer
  is : answer_of (asked_alone r s) number message ≡ Some answer
  tells : TellsSingle s.ask (take s.len r.found.items) t answer

told_some : (asked : Ask) (so_far : List ℕ) (t : Told) (o : Option Answer) → TellsIfSome asked so_far t o
    → (x : Answer) × (o ≡ Some x) × TellsSingle asked so_far t x
told_some asked so_far t None h = absurd h
told_some asked so_far t (Some x) h = (x, refl, h)

tells_as : (r : Running) (asked : Ask) (len : ℕ) (message : List ℕ) (t t' : Told)
    → (of : IsToldTo r asked len message t) → t ≡ t' → Tells r of.single message t'
tells_as r asked len message t t' of is =
    let s = of.single in
    let answer = answer_of (asked_alone r s) of.number message in
    let some =
    told_some s.ask (take s.len r.found.items) t' answer
    (subst (λ (u : Told). TellsIfSome s.ask (take s.len r.found.items) u answer) is of.tells) in
    record { number = of.number; out = of.out; answer = some.0; is = some.1; tells = some.2 }

-- ---- the job is over

ends_alone : (r r' : Running) (s : Single) (config : Config) (granted : Option Grant) (course : Course)
    (number last : ℕ) (message : List ℕ) (x : Answer) (end : End)
    → (h : IsOut r s config granted course.rows number) → answer_of (asked_alone r s) number message ≡ Some x
    → EndsWith (conduct_of_single r.job s.ask) (answers_of h.before ++ Some x ∷ []) end → course.sequence ≡ last
    → awaited_in r' [] ≡ for_nothing end [] → IsOver r'.stage
    → IsTakenBy message config granted course r.job r' last
ends_alone r r' s config granted course number last message x end h answers ends same awaits over =
    let rows' = told_rows h.before (asked_alone r s) number x in
    let now : Course = record course { rows = rows' } in
    let c = (plan_of r.job config granted).conduct in
    let both =
    ended_with c now end
    (subst (λ (d : Conduct). EndsWith d (answers_of rows') end) (sym h.conduct)
    (subst (λ (xs : Answers). EndsWith (conduct_of_single r.job s.ask) xs end)
    (sym (answers_behind h.before (record { question = asked_alone r s; number = number; answer = Some x }))) ends))
    (answered_open rows' (all_told h.before (asked_alone r s) number x h.answered)) in
    record {
      rows = rows';
      fills = fills_alone r s config granted course.rows number message x h answers;
      reached = record {
        awaits = ap (λ (k : Course). k.awaits) both.0 ∙ (both.1 ∙ sym awaits);
        follows = λ asks. absurd (asking_not_over r'.stage over asks);
        sequence = sym same ∙ sym (ap (λ (k : Course). k.sequence) both.0);
        out =
            ap (λ (k : Course). k.out) both.0
            ∙ (sym (append-nil course.out)
            ∙ ap (λ xs. course.out ++ xs) (sym (over_unput config course.size r'.job r'.stage over)));
      };
    }

-- by a refusal
pub refused_alone : (r r' : Running) (asked : Ask) (len : ℕ) (message : List ℕ) (t : Told) (number last : ℕ)
    (config : Config) (granted : Option Grant) (course : Course)
    → IsToldTo r asked len message t → t ≡ told.Refused number
    → Follows r config granted course.rows → course.sequence ≡ last
    → awaited_in r' [] ≡ for_nothing (number_end number AsItWas) [] → IsOver r'.stage
    → IsTakenBy message config granted course r.job r' last
refused_alone r r' asked len message t number last config granted course of told_is follows at awaits over =
    let s = of.single in
    let h = tells_as r asked len message t (told.Refused number) of told_is in
    let stands = stands_at r s config granted course.rows (Some h.number) of.stage h.out follows in
    ends_alone r r' s config granted course h.number last message h.answer (number_end number AsItWas) stands h.is
    (ends_refused r.job s.ask (answers_of stands.before) h.answer number stands.unrefused stands.counted h.tells) at
    awaits over

-- ---- octets came

-- There is room for the octets behind those that came, and what is asked next can be asked.
pub record Fits (r : Running) (asked : Ask) (len : ℕ) (octets : List ℕ) (next : Option Ask) : Type 0 where
  pub room : len + length octets ≤ length r.found.items
  pub whole : length r.found.items ≡ room_for asked
  pub on : (a : Ask) → next ≡ Some a → IsNext r.job asked len octets a

can_alone : (r : Running) (s : Single) → r.stage ≡ stage.Single s
    → (is_writable r.job s.ask ≡ true) × ((length r.found.items == room_for s.ask) ≡ true)
can_alone r s is =
    and_parts (is_writable r.job s.ask) (length r.found.items == room_for s.ask)
    (ap (is_ready r.job (length r.found.items)) (sym is) ∙ r.ready)

-- what is asked can be written
pub writable_alone : (r : Running) (s : Single) → r.stage ≡ stage.Single s → is_writable r.job s.ask ≡ true
writable_alone r s is = (can_alone r s is).0

places : (r : Running) (s : Single) → r.stage ≡ stage.Single s → length r.found.items ≡ room_for s.ask
places r s is = eqb-true (length r.found.items) (room_for s.ask) (can_alone r s is).1

-- there is a place for each octet that came
came_alone : (r : Running) (s : Single) → r.stage ≡ stage.Single s → length (take s.len r.found.items) ≡ s.len
came_alone r s is =
    let whole = places r s is in
    length-take-le s.len r.found.items (omega (arith, whole, s.most))

fits_as : (r : Running) (s : Single) (message : List ℕ) (octets : Bor (List ℕ)) (next : Option Ask)
    → r.stage ≡ stage.Single s → Tells r s message (told.Brought octets next) → Fits r s.ask s.len octets.now next
fits_as r s message octets next is h =
    let whole = places r s is in
    let few : length octets.now ≤ most_brought s.ask s.len =
    subst (λ (n : ℕ). length octets.now ≤ most_brought s.ask n) (came_alone r s is) h.tells.1 in
    record {
      room = omega (arith, whole, room_within s.ask s.len (length octets.now) s.most few);
      whole = whole;
      on = λ a some.
          is_next r.job s.ask s.len octets.now next h.answer a (writable_alone r s is) s.most few h.tells.0 some;
    }

pub fits_told : (r : Running) (asked : Ask) (len : ℕ) (message : List ℕ) (t : Told) (octets : Bor (List ℕ))
    (next : Option Ask)
    → IsToldTo r asked len message t → t ≡ told.Brought octets next → Fits r asked len octets.now next
fits_told r asked len message t octets next of told_is =
    subst (λ (n : ℕ). Fits r asked n octets.now next) of.len
    (subst (λ (a : Ask). Fits r a of.single.len octets.now next) of.ask
    (fits_as r of.single message octets next of.stage
    (tells_as r asked len message t (told.Brought octets next) of told_is)))

-- what came then
front_with : (n : ℕ) (octets piece rest : List ℕ) → n ≤ length octets
    → take (n + length piece) (take n octets ++ piece ++ rest) ≡ take n octets ++ piece
front_with n octets piece rest within =
    take_at (take n octets ++ piece) rest (n + length piece)
    (omega (arith, length-append (take n octets) piece, length-take-le n octets within))

-- the octets with these at their place
abbrev pub pasted : List ℕ → ℕ → List ℕ → List ℕ
pasted found at octets = take at found ++ octets ++ drop (at + length octets) found

abbrev placed : Running → ℕ → List ℕ → List ℕ
placed r len octets = pasted r.found.items len octets

-- what is kept before the answer to the telegram that is out
kept_before : (r : Running) (s : Single) (config : Config) (granted : Option Grant) (rows : List Row) (number : ℕ)
    → (h : IsOut r s config granted rows number) → Keeps s.ask (answers_of h.before) (take s.len r.found.items)
kept_before r s config granted rows number h = record { are = h.brought; left = h.left; counted = h.counted }

-- that answer, behind those before it
behind_out : (r : Running) (s : Single) (config : Config) (granted : Option Grant) (rows : List Row) (number : ℕ)
    (x : Answer) (octets : List ℕ) (next : Option Ask)
    → r.stage ≡ stage.Single s
    → (h : IsOut r s config granted rows number) → BringsOn s.ask octets next x
    → GoesBehind r.job (conduct_of_single r.job s.ask) (lead_in s.ask) (answers_of h.before) x
    (take s.len r.found.items ++ octets) next
behind_out r s config granted rows number x octets next is h tells =
    let came = came_alone r s is in
    goes_behind r.job s.ask (answers_of h.before) x (take s.len r.found.items) octets next (writable_alone r s is)
    (omega (arith, came, s.most)) h.next (kept_before r s config granted rows number h) tells

-- nothing more is asked
pub ended_alone : (r r' : Running) (asked : Ask) (len : ℕ) (message found' : List ℕ) (t : Told)
    (octets : Bor (List ℕ)) (next : Option Ask) (lead last : ℕ) (config : Config) (granted : Option Grant)
    (course : Course)
    → IsToldTo r asked len message t → t ≡ told.Brought octets next
    → next ≡ None → found' ≡ placed r len octets.now → lead ≡ lead_in asked → Follows r config granted course.rows
    → course.sequence ≡ last
    → awaited_in r' [] ≡ for_nothing (good_end (drop lead (take (len + length octets.now) found')) r.codes) []
    → IsOver r'.stage → IsTakenBy message config granted course r.job r' last
ended_alone r r' asked len message found' t octets next lead last config granted course of told_is over_is put leads
    follows at awaits over =
    let s = of.single in
    let is = of.stage in
    let h = tells_as r asked len message t (told.Brought octets next) of told_is in
    let fits = fits_as r s message octets next is h in
    let stands = stands_at r s config granted course.rows (Some h.number) is h.out follows in
    let came = take s.len r.found.items in
    let n : ℕ = lead_in s.ask in
    let goes = behind_out r s config granted course.rows h.number h.answer octets.now next is
    stands h.tells.0 in
    let ends =
    ends_behind r.job (conduct_of_single r.job s.ask) n (answers_of stands.before) h.answer (came ++ octets.now) next
    goes stands.unrefused over_is in
    ends_alone r r' s config granted course h.number last message h.answer (good_end (drop n (came ++ octets.now)) [])
    stands h.is ends at
    (awaits
    ∙ (ap (λ m. for_nothing (good_end (drop lead (take (m + length octets.now) found')) r.codes) []) (sym of.len)
    ∙ (ap (λ k. for_nothing (good_end (drop k (take (s.len + length octets.now) found')) r.codes) [])
    (leads ∙ ap lead_in (sym of.ask))
    ∙ (ap (λ xs. for_nothing (good_end (drop n (take (s.len + length octets.now) xs)) r.codes) [])
    (put ∙ ap (λ m. placed r m octets.now) (sym of.len))
    ∙ (ap (λ xs. for_nothing (good_end (drop n xs) r.codes) [])
    (front_with s.len r.found.items octets.now (drop (s.len + length octets.now) r.found.items)
    (omega (arith, fits.room)))
    ∙ ap (λ xs. for_nothing (good_end (drop n (came ++ octets.now)) xs) []) stands.no_codes)))))
    over

-- what a job keeps that asks for more
asks_on : (config : Config) (granted : Option Grant) (rows : List Row) (done : Job) (found found' codes : List ℕ)
    (asked : Ask) (len len' number : ℕ) (x : Answer) (all : List ℕ) (next : Option Ask) (a : Ask)
    → (h : Stands config granted rows done found codes asked len (Some number))
    → GoesBehind done (conduct_of_single done asked) (lead_in asked) (answers_of h.before) x all next
    → next ≡ Some a → take len' found' ≡ all
    → Stands config granted (told_rows h.before (question_of_single done asked (take len found)) number x) done
    found' codes a len' None
asks_on config granted rows done found found' codes asked len len' number x all next a h goes is front =
    let q = question_of_single done asked (take len found) in
    let row : Row = record { question = q; number = number; answer = Some x } in
    let rows' = told_rows h.before q number x in
    let answers = answers_of h.before in
    let c = conduct_of_single done asked in
    let alike : conduct_of_single done a ≡ c = goes.alike a is in
    let behind : answers_of rows' ≡ answers ++ Some x ∷ [] = answers_behind h.before row in
    let keeps : Keeps a (answers_of rows') all =
    subst (λ (xs : Answers). Keeps a xs all) (sym behind) (goes.keeps a is) in
    record {
      conduct = h.conduct ∙ sym alike;
      before = rows';
      answered = all_told h.before q number x h.answered;
      are = sym (append-nil rows');
      next =
          ap (λ (d : Conduct). d.question_at (answers_of rows')) alike
          ∙ (ap c.question_at behind
          ∙ (goes.asks
          ∙ (ap (option_map (λ (b : Ask). question_of_single done b all)) is
          ∙ ap (λ xs. Some (question_of_single done a xs)) (sym front))));
      unrefused =
          ap (λ (d : Conduct). first_refusal d.refusal 0 (answers_of rows')) alike
          ∙ (ap (first_refusal c.refusal 0) behind
          ∙ unrefused_behind c.refusal answers x h.unrefused goes.unrefused);
      brought = keeps.are ∙ sym front;
      left = keeps.left;
      counted = keeps.counted;
      no_codes = h.no_codes;
    }

-- A job goes on with what it asks next, where it goes on with any course that it follows then.
goes_alone : (r r' : Running) (s : Single) (message found' : List ℕ) (t : Told) (all : List ℕ) (next : Option Ask)
    (a : Ask) (len' last : ℕ) (config : Config) (granted : Option Grant) (course : Course)
    → (h : Tells r s message t) → (before : IsOut r s config granted course.rows h.number)
    → GoesBehind r.job (conduct_of_single r.job s.ask) (lead_in s.ask) (answers_of before.before) h.answer all next
    → next ≡ Some a → take len' found' ≡ all
    → ((now : Course) → IsNextOf config granted now.rows r.job found' r.codes a len' → now.sequence ≡ course.sequence
    → Reached config granted now (asking (plan_of r.job config granted).conduct now) r' last)
    → IsTakenBy message config granted course r.job r' last
goes_alone r r' s message found' t all next a len' last config granted course h before goes is front goes_on =
    let rows' = told_rows before.before (asked_alone r s) h.number h.answer in
    let now : Course = record course { rows = rows' } in
    let asks =
    asks_on config granted course.rows r.job r.found.items found' r.codes s.ask s.len len' h.number h.answer all next a
    before goes is front in
    let reached : Reached config granted now (asking (plan_of r.job config granted).conduct now) r' last =
    goes_on now (next_stands config granted rows' r.job found' r.codes a len' asks) refl in
    record {
      rows = rows';
      fills = fills_alone r s config granted course.rows h.number message h.answer before h.is;
      reached =
          record {
            awaits = reached.awaits;
            follows = reached.follows;
            sequence = reached.sequence;
            out = reached.out;
          };
    }

pub next_alone : (r r' : Running) (asked : Ask) (len : ℕ) (message found' : List ℕ) (t : Told)
    (octets : Bor (List ℕ)) (next : Option Ask) (a : Ask) (last : ℕ) (config : Config) (granted : Option Grant)
    (course : Course)
    → IsToldTo r asked len message t → t ≡ told.Brought octets next
    → next ≡ Some a → found' ≡ placed r len octets.now → Follows r config granted course.rows
    → ((now : Course) → IsNextOf config granted now.rows r.job found' r.codes a (len + length octets.now)
    → now.sequence ≡ course.sequence
    → Reached config granted now (asking (plan_of r.job config granted).conduct now) r' last)
    → IsTakenBy message config granted course r.job r' last
next_alone r r' asked len message found' t octets next a last config granted course of told_is next_is put follows
    goes_on =
    let s = of.single in
    let is = of.stage in
    let h = tells_as r asked len message t (told.Brought octets next) of told_is in
    let fits = fits_as r s message octets next is h in
    let stands = stands_at r s config granted course.rows (Some h.number) is h.out follows in
    let goes = behind_out r s config granted course.rows h.number h.answer octets.now next is
    stands h.tells.0 in
    goes_alone r r' s message found' (told.Brought octets next) (take s.len r.found.items ++ octets.now) next a
    (len + length octets.now) last config granted course h stands goes next_is
    (ap (λ m. take (m + length octets.now) found') (sym of.len)
    ∙ ap (take (s.len + length octets.now)) (put ∙ ap (λ m. placed r m octets.now) (sym of.len))
    ∙ front_with s.len r.found.items octets.now (drop (s.len + length octets.now) r.found.items)
    (omega (arith, fits.room)))
    goes_on

-- and it can be asked
pub next_ready : (r : Running) (asked : Ask) (len : ℕ) (octets : List ℕ) (next : Option Ask) (a : Ask) (n : ℕ)
    → Fits r asked len octets next → next ≡ Some a → n ≡ length r.found.items → can_ask_single r.job n a ≡ true
next_ready r asked len octets next a n fits is same =
    let ready = fits.on a is in
    ap₂ (λ writable all. writable && all) ready.writable
    (eq-eqb n (room_for a) (same ∙ (fits.whole ∙ sym ready.room)))

-- ---- octets come anew

-- What is asked then has a place for each octet, can be written, and leaves fewer answers.
pub record IsAnew (r : Running) (asked : Ask) (len : ℕ) (a : Ask) : Type 0 where
  pub later : (subject : Subject) → a ≡ ask.About subject → ⊥
  pub behind : (block : DataBlock) → a ≡ ask.Head block → ⊥
  pub most : parts_bring a ≤ room_for a
  pub ready : can_ask_single r.job (length r.found.items) a ≡ true
  pub fewer : asks_left a 0 + 1 ≤ asks_left asked len

few_data : (octets : List ℕ) → tells_data octets ≡ true → data_length octets ≤ 2097152
few_data octets is =
    let load : ℕ = four_at octets 12 in
    let both =
    and_parts (leb 37 load) (leb load 2097188)
    (and_parts (eqb (length octets) 40) (leb 37 load && leb load 2097188) is).1 in
    omega (arith, leb-true load 2097188 both.1)

comes_all : (value : Option ℕ) (left : ℕ) → left ≤ 2097152 → comes_for value left ≤ room_for_value value
comes_all None left within = within
comes_all (Some value) left within = omega arith

head_anew : (r : Running) (asked : Ask) (len : ℕ) (block : DataBlock) (so_far : List ℕ) (a : Ask) (x : Answer)
    → has_pdu block ≡ true → length r.found.items ≡ room_for_value block.value
    → 2097154 ≤ asks_left asked len → TellsHead block so_far a x → IsAnew r asked len a
head_anew r asked len block so_far a (brings octet more piece) has whole left told =
    let size : ℕ = data_length (so_far ++ piece) in
    let place : Place = told.2.0 in
    let first = first_place size place told.2.1 in
    let few = few_data (so_far ++ piece) told.1 in
    let end : place.from + place.here + place.later ≤ 2097152 = omega (arith, few, first.0, first.2) in
    subst (IsAnew r asked len) (sym told.2.2)
    (record {
      later = λ about e. absurd (cc);
      behind = λ other e. absurd (cc);
      most = comes_all block.value (place.here + place.later) (omega (arith, few, first.2));
      ready =
          and_from (has_pdu block && is_inside place) (length r.found.items == room_for_value block.value)
          (and_from (has_pdu block) (is_inside place) has
          (and_from (ltb 0 place.here) (leb (place.from + place.here + place.later) 2097152)
          (lt-ltb 0 place.here first.1) (le-leb (place.from + place.here + place.later) 2097152 end)))
          (eq-eqb (length r.found.items) (room_for_value block.value) whole);
      fewer = omega (arith, left, few, first.2);
    })
head_anew r asked len block so_far a _ has whole left told = absurd told

anew_by : (r : Running) (asked : Ask) (len : ℕ) (so_far : List ℕ) (a : Ask) (x : Answer)
    → is_writable r.job asked ≡ true → length r.found.items ≡ room_for asked → BeginsAnew asked so_far a x
    → IsAnew r asked len a
anew_by r (ask.Head block) len so_far a x writable whole told =
    head_anew r (ask.Head block) len block so_far a x writable whole (omega arith) told
anew_by r (ask.HeadFurther block octet) len so_far a x writable whole told =
    head_anew r (ask.HeadFurther block octet) len block so_far a x writable whole (omega arith) told
anew_by r _ len so_far a x writable whole told = absurd told

pub anew_told : (r : Running) (asked : Ask) (len : ℕ) (message : List ℕ) (t : Told) (a : Ask)
    → IsToldTo r asked len message t → t ≡ told.Anew a → IsAnew r asked len a
anew_told r asked len message t a of told_is =
    let s = of.single in
    let h = tells_as r asked len message t (told.Anew a) of told_is in
    subst (λ (n : ℕ). IsAnew r asked n a) of.len
    (subst (λ (b : Ask). IsAnew r b s.len a) of.ask
    (anew_by r s.ask s.len (take s.len r.found.items) a h.answer (writable_alone r s of.stage) (places r s of.stage)
    h.tells))

pub anew_alone : (r r' : Running) (asked : Ask) (len : ℕ) (message : List ℕ) (t : Told) (a : Ask) (last : ℕ)
    (config : Config) (granted : Option Grant) (course : Course)
    → IsToldTo r asked len message t → t ≡ told.Anew a
    → Follows r config granted course.rows
    → ((now : Course) → IsNextOf config granted now.rows r.job r.found.items r.codes a 0
    → now.sequence ≡ course.sequence
    → Reached config granted now (asking (plan_of r.job config granted).conduct now) r' last)
    → IsTakenBy message config granted course r.job r' last
anew_alone r r' asked len message t a last config granted course of told_is follows goes_on =
    let s = of.single in
    let is = of.stage in
    let h = tells_as r asked len message t (told.Anew a) of told_is in
    let stands = stands_at r s config granted course.rows (Some h.number) is h.out follows in
    let goes =
    anew_behind r.job s.ask (answers_of stands.before) h.answer (take s.len r.found.items) a (writable_alone r s is)
    (kept_before r s config granted course.rows h.number stands) h.tells in
    goes_alone r r' s message r.found.items (told.Anew a) [] (Some a) a 0 last config granted course h stands goes refl
    refl goes_on
