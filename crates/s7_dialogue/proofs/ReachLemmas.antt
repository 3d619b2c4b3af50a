-- Lemmas on jobs that reach the next place of their course.
use Rattle.std.proofs.Common.{◌≡◌, ℕ, Bool, true, false, eqb, Option, List, [], ◌++◌, length, refl, sym, ap, ◌∙◌, subst, arith}
use Rattle.std.proofs.lemmas.Bool.{eqb-true, eqb-false}
use Rattle.std.proofs.lemmas.List.{append-nil, nil_from_length}
use Rattle.s7_dialogue.specs.declared.config.Config.{Config}
use Rattle.s7_dialogue.specs.declared.grant.Grant.{Grant}
use Rattle.s7_dialogue.specs.declared.job.Job.{Job}
use Rattle.s7_dialogue.specs.declared.stages.asking.Asking.{Asking}
use Rattle.s7_dialogue.specs.declared.stages.running.Stage.{Stage}
use Rattle.s7_dialogue.specs.declared.stages.running.Stage.TheVariants as stage
use Rattle.s7_dialogue.specs.declared.stages.running.Running.{Running}
use Rattle.s7_dialogue.specs.Flight.{Row, answers_of, open_count}
use Rattle.s7_dialogue.specs.Dialogue.{plan_of}
use Rattle.s7_dialogue.specs.Course.{Course, for_nothing, asked_on, asking}
use Rattle.s7_dialogue.specs.Stages.{unput_by, awaited_by, IsAsking, IsOver}
use Rattle.s7_dialogue.specs.Asks.{first_spot, MayAskNone}
use Rattle.s7_dialogue.specs.GoesOn.{Conducts, HasAsked, IsDone}
use Rattle.s7_dialogue.specs.Running.{Reached, awaited_in, unput_of}
use Rattle.s7_dialogue.proofs.FlightLemmas.{settled_waits, settled_ends}
use Rattle.s7_dialogue.proofs.SpotLemmas.{flights_open}
use Rattle.s7_dialogue.proofs.UnputLemmas.{none_unput}
use Rattle.s7_dialogue.proofs.FollowLemmas.{follows_at}

pub asking_not_over : (st : Stage) → IsOver st → IsAsking st → ⊥
asking_not_over stage.Opening over asks = over
asking_not_over (stage.Asking a) over asks = over
asking_not_over (stage.Single single) over asks = over
asking_not_over stage.Leaving over asks = over
asking_not_over (stage.Over code leaves) over asks = asks

pub over_unput : (config : Config) (size : ℕ) (job : Job) (st : Stage) → IsOver st → unput_by config size job st ≡ []
over_unput config size job stage.Opening over = refl
over_unput config size job (stage.Asking a) over = absurd over
over_unput config size job (stage.Single single) over = absurd over
over_unput config size job stage.Leaving over = refl
over_unput config size job (stage.Over code leaves) over = refl

-- how many telegrams are unanswered
still_open : (config : Config) (granted : Option Grant) (rows told : List Row) (job : Job) (found codes : List ℕ)
    (a : Asking)
    → Conducts config granted rows told job found codes a → open_count rows ≡ length a.flights.items
still_open config granted rows told job found codes a h =
    sym (ap length h.asks.flights ∙ flights_open first_spot rows)

-- what went out, where nothing was left to put
asked_out : (config : Config) (granted : Option Grant) (job : Job) (found codes : List ℕ) (a a' : Asking)
    (course now : Course) (last : ℕ)
    → HasAsked config granted job found codes a course now a' last
    → unput_by config course.size job (stage.Asking a) ≡ []
    → now.out ≡ course.out ++ unput_by config course.size job (stage.Asking a')
asked_out config granted job found codes a a' course now last h none =
    h.out course.out (sym (append-nil course.out) ∙ ap (λ xs. course.out ++ xs) (sym none))

-- the job asks, and waits for answers
pub reached_waiting : (r r' : Running) (config : Config) (granted : Option Grant) (a a' : Asking) (course : Course)
    (last : ℕ) (empty : Bool)
    → r.stage ≡ stage.Asking a → r'.stage ≡ stage.Asking a' → r'.job ≡ r.job → r'.found.items ≡ r.found.items
    → r'.codes ≡ r.codes
    → HasAsked config granted r.job r.found.items r.codes a course
    (asked_on (plan_of r.job config granted).conduct.width (plan_of r.job config granted).conduct course) a' last
    → unput_of config course.size r ≡ [] → empty ≡ eqb (length a'.flights.items) 0 → empty ≡ false
    → Reached config granted course (asking (plan_of r.job config granted).conduct course) r' last
reached_waiting r r' config granted a a' course last empty is is' same found codes h none tests waits =
    let c = (plan_of r.job config granted).conduct in
    let now = asked_on c.width c course in
    let conducts : Conducts config granted now.rows now.rows r'.job r'.found.items r'.codes a' =
    subst (λ (j : Job). Conducts config granted now.rows now.rows j r'.found.items r'.codes a') (sym same)
    (subst (λ (xs : List ℕ). Conducts config granted now.rows now.rows r.job xs r'.codes a') (sym found)
    (subst (λ (xs : List ℕ). Conducts config granted now.rows now.rows r.job r.found.items xs a') (sym codes)
    h.conducts)) in
    let out : open_count now.rows ≡ length a'.flights.items =
    still_open config granted now.rows now.rows r.job r.found.items r.codes a' h.conducts in
    let some : length a'.flights.items ≡ 0 → ⊥ = eqb-false (length a'.flights.items) 0 (sym tests ∙ waits) in
    record {
      awaits =
          settled_waits c now (omega (arith, out, some))
          ∙ ap (λ st. awaited_by r'.found.items r'.codes [] st) (sym is');
      follows = λ asks. follows_at r' a' config granted now.rows is' conducts;
      sequence = h.sequence;
      out =
          asked_out config granted r.job r.found.items r.codes a a' course now last h
          (ap (unput_by config course.size r.job) (sym is) ∙ none)
          ∙ (ap (λ j. course.out ++ unput_by config course.size j (stage.Asking a')) (sym same)
          ∙ ap (λ st. course.out ++ unput_by config course.size r'.job st) (sym is'));
    }

-- or is over
pub reached_end : (r r' : Running) (config : Config) (granted : Option Grant) (a a' : Asking) (course : Course)
    (last : ℕ) (empty : Bool)
    → r.stage ≡ stage.Asking a
    → HasAsked config granted r.job r.found.items r.codes a course
    (asked_on (plan_of r.job config granted).conduct.width (plan_of r.job config granted).conduct course) a' last
    → unput_of config course.size r ≡ [] → empty ≡ eqb (length a'.flights.items) 0 → empty ≡ true → MayAskNone a'
    → ((rows : List Row) → IsDone (stage.Asking a') a'.refused
    → Conducts config granted rows rows r.job r.found.items r.codes a'
    → awaited_in r' [] ≡ for_nothing ((plan_of r.job config granted).conduct.ended (answers_of rows)) [])
    → IsOver r'.stage
    → Reached config granted course (asking (plan_of r.job config granted).conduct course) r' last
reached_end r r' config granted a a' course last empty is h none tests done all settles over =
    let c = (plan_of r.job config granted).conduct in
    let now = asked_on c.width c course in
    let none_left : length a'.flights.items ≡ 0 = eqb-true (length a'.flights.items) 0 (sym tests ∙ done) in
    let none_out : a'.flights.items ≡ [] = nil_from_length a'.flights.items none_left in
    let out : open_count now.rows ≡ 0 =
    still_open config granted now.rows now.rows r.job r.found.items r.codes a' h.conducts ∙ none_left in
    record {
      awaits =
          settled_ends c now out
          ∙ sym (settles now.rows
          (none_out, refl, λ unrefused. all unrefused (omega (arith, none_left, a'.least_width))) h.conducts);
      follows = λ asks. absurd (asking_not_over r'.stage over asks);
      sequence = h.sequence;
      out =
          asked_out config granted r.job r.found.items r.codes a a' course now last h
          (ap (unput_by config course.size r.job) (sym is) ∙ none)
          ∙ (ap (λ xs. course.out ++ xs) (none_unput config course.size r.job a' (omega (arith, a'.put, none_left)))
          ∙ ap (λ xs. course.out ++ xs) (sym (over_unput config course.size r'.job r'.stage over)));
    }
