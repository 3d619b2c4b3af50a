-- What packets leave of a job.
use Rattle.std.proofs.Common.{◌≡◌, ◌==◌, Bool, true, false, cond, ℕ, ◌+◌, ◌≤◌, List, [], ◌++◌, length, refl, ap, sym, ◌∙◌, subst, arith}
use Rattle.std.specs.Prelude.{Option, None, Some, nat_lt}
use Rattle.std.proofs.lemmas.Bool.Decides.{nat_tests}
use Rattle.std.proofs.lemmas.List.{append-nil}
use Rattle.s7_wire.specs.Reads.{unfinished_in}
use Rattle.s7_dialogue.specs.declared.config.Config.{Config}
use Rattle.s7_dialogue.specs.declared.job.Job.{Job}
use Rattle.s7_dialogue.specs.declared.grant.Grant.{Grant}
use Rattle.s7_dialogue.specs.declared.grant.Leaves.{Leaves}
use Rattle.s7_dialogue.specs.declared.grant.Leaves.TheVariants as leaving
use Rattle.s7_dialogue.specs.declared.stages.running.Running.{Running}
use Rattle.s7_dialogue.specs.declared.stages.running.Stage.{Stage}
use Rattle.s7_dialogue.specs.declared.stages.running.Stage.TheVariants as stage
use Rattle.s7_client.specs.declared.talk.Talk.{Talk}
use Rattle.s7_client.specs.declared.under_way.UnderWay.{UnderWay}
use Rattle.s7_dialogue.specs.Codes.{short_message, invalid_answer}
use Rattle.s7_dialogue.specs.Flight.{Row, open_count, answers_of, filled}
use Rattle.s7_dialogue.specs.Dialogue.{Conduct, End, connect_request, fault_end, plan_of}
use Rattle.s7_dialogue.specs.Course.{Origin, Course, Awaits, for_confirm, for_answers, for_departure, for_nothing, conduct_of, asked_on, asking, with_fault, by_rows, with_message}
use Rattle.s7_dialogue.specs.Running.{awaited_in, awaited_by, unput_of, unput_by, conduct_in, Reached, Follows, IsOver, IsAsking, IsOpening, IsLeaving, answers_left}
use Rattle.s7_client.specs.At.{IsAt, IsAwaiting, LeavesOpen, LeavesLink, Reaches, joiner_in, messages_left, pending, size_in}
use Rattle.s7_dialogue.proofs.FlightLemmas.{asks_on}

pub asking_awaits : (s : Stage) → IsAsking s → IsAwaiting s
asking_awaits stage.Opening h = absurd h
asking_awaits (stage.Asking a) h = tt
asking_awaits (stage.Single single) h = tt
asking_awaits stage.Leaving h = absurd h
asking_awaits (stage.Over code leaves) h = absurd h

pub opening_awaits : (s : Stage) → IsOpening s → IsAwaiting s
opening_awaits stage.Opening h = tt
opening_awaits (stage.Asking a) h = absurd h
opening_awaits (stage.Single single) h = absurd h
opening_awaits stage.Leaving h = absurd h
opening_awaits (stage.Over code leaves) h = absurd h

pub awaiting_goes_on : (s : Stage) → IsAwaiting s → IsOver s → ⊥
awaiting_goes_on stage.Opening h over = over
awaiting_goes_on (stage.Asking a) h over = over
awaiting_goes_on (stage.Single single) h over = over
awaiting_goes_on stage.Leaving h over = h
awaiting_goes_on (stage.Over code leaves) h over = h

pub opening_not_asking : (s : Stage) → IsOpening s → IsAsking s → ⊥
opening_not_asking stage.Opening h a = a
opening_not_asking (stage.Asking asked) h a = h
opening_not_asking (stage.Single single) h a = h
opening_not_asking stage.Leaving h a = h
opening_not_asking (stage.Over code leaves) h a = h

pub over_not_opening : (s : Stage) → IsOver s → IsOpening s → ⊥
over_not_opening stage.Opening over h = over
over_not_opening (stage.Asking a) over h = over
over_not_opening (stage.Single single) over h = over
over_not_opening stage.Leaving over h = over
over_not_opening (stage.Over code leaves) over h = h

pub over_not_leaving : (s : Stage) → IsOver s → IsLeaving s → ⊥
over_not_leaving stage.Opening over h = over
over_not_leaving (stage.Asking a) over h = over
over_not_leaving (stage.Single single) over h = over
over_not_leaving stage.Leaving over h = over
over_not_leaving (stage.Over code leaves) over h = h

pub over_not_asking : (s : Stage) → IsOver s → IsAsking s → ⊥
over_not_asking s over h = awaiting_goes_on s (asking_awaits s h) over

-- ---- how many messages are left

pub one_is_none : (s : Stage) → IsAwaiting s → messages_left s ≡ answers_left s + 1
one_is_none stage.Opening h = refl
one_is_none (stage.Asking a) h = refl
one_is_none (stage.Single single) h = refl
one_is_none stage.Leaving h = absurd h
one_is_none (stage.Over code leaves) h = absurd h

pub awaits_some : (s : Stage) → IsAwaiting s → 1 ≤ messages_left s
awaits_some s h = omega (arith, one_is_none s h)

pub over_none : (s : Stage) → IsOver s → messages_left s ≡ 0
over_none stage.Opening h = absurd h
over_none (stage.Asking a) h = absurd h
over_none (stage.Single single) h = absurd h
over_none stage.Leaving h = absurd h
over_none (stage.Over code leaves) h = refl

-- ---- a fault

-- what an end leaves
abbrev pub leaves_of : Awaits → Leaves
leaves_of for_confirm = leaving.Closed
leaves_of for_answers = leaving.Closed
leaves_of for_departure = leaving.Closed
leaves_of (for_nothing end carried) = end.leaves

pub left_by : (found codes carried message : List ℕ) (end : _) (s : Stage)
    → awaited_by found codes carried s ≡ for_nothing end message → LeavesOpen s → LeavesLink end.leaves
left_by found codes carried message end stage.Opening e h = absurd h
left_by found codes carried message end (stage.Asking a) e h = absurd h
left_by found codes carried message end (stage.Single single) e h = absurd h
left_by found codes carried message end stage.Leaving e h = absurd h
left_by found codes carried message end (stage.Over code leaves) e h = subst LeavesLink (ap leaves_of e) h

-- a job that ended with a fault leaves no link
pub closed_stage : (r : Running) (code : ℕ) → awaited_in r [] ≡ for_nothing (fault_end code) [] → LeavesOpen r.stage → ⊥
closed_stage r code e h = left_by r.found.items r.codes [] [] (fault_end code) r.stage e h

pub over_unput : (config : Config) (size : ℕ) (job : Job) (s : Stage) → IsOver s → unput_by config size job s ≡ []
over_unput config size job stage.Opening h = absurd h
over_unput config size job (stage.Asking a) h = absurd h
over_unput config size job (stage.Single single) h = absurd h
over_unput config size job stage.Leaving h = absurd h
over_unput config size job (stage.Over code leaves) h = refl

-- nothing is to be sent
pub none_pending : (config : Config) (t : Talk) (r : Running) → t.outbox.unsent ≡ []
    → ((size : ℕ) → unput_of config size r ≡ []) → pending config t r ≡ []
none_pending config t r sent unput = ap (λ x. x ++ unput_of config (size_in t) r) sent ∙ unput (size_in t)

pub none_over : (config : Config) (t : Talk) (r : Running) → t.outbox.unsent ≡ [] → IsOver r.stage
    → pending config t r ≡ []
none_over config t r sent over = none_pending config t r sent (λ size. over_unput config size r.job r.stage over)

-- ---- how a job goes on

pub conduct_same : (done done' : Job) (config config' : Config) (granted granted' : Option Grant) → done ≡ done'
    → config ≡ config' → granted ≡ granted'
    → (plan_of done config granted).conduct ≡ (plan_of done' config' granted').conduct
conduct_same done done' config config' granted granted' a b c =
    ap (λ x. (plan_of x config granted).conduct) a
    ∙ (ap (λ (x : Config). (plan_of done' x granted).conduct) b ∙ ap (λ x. (plan_of done' config' x).conduct) c)

-- answers are awaited, or nothing
abbrev pub IsSettled : Awaits → Type 0
IsSettled for_confirm = ⊥
IsSettled for_answers = Unit {0}
IsSettled for_departure = ⊥
IsSettled (for_nothing end carried) = Unit {0}

settled_by : (b : Bool) (end : End) → IsSettled (cond b (for_nothing end []) for_answers)
settled_by true end = tt
settled_by false end = tt

pub asking_settled : (c : Conduct) (course : Course) → IsSettled (asking c course).awaits
asking_settled c course =
    let rows = (asked_on c.width c course).rows in
    settled_by (open_count rows == 0) (c.ended (answers_of rows))

pub not_opening : (found codes carried : List ℕ) (s : Stage) → IsSettled (awaited_by found codes carried s)
    → IsOpening s → ⊥
not_opening found codes carried stage.Opening a h = a
not_opening found codes carried (stage.Asking a) b h = h
not_opening found codes carried (stage.Single single) b h = h
not_opening found codes carried stage.Leaving a h = h
not_opening found codes carried (stage.Over code leaves) a h = h

pub not_leaving : (found codes carried : List ℕ) (s : Stage) → IsSettled (awaited_by found codes carried s)
    → IsLeaving s → ⊥
not_leaving found codes carried stage.Opening a h = h
not_leaving found codes carried (stage.Asking a) b h = h
not_leaving found codes carried (stage.Single single) b h = h
not_leaving found codes carried stage.Leaving a h = a
not_leaving found codes carried (stage.Over code leaves) a h = h

pub follows_as : (r : Running) (config config' : Config) (granted granted' : Option Grant) (rows : _)
    → config' ≡ config → granted' ≡ granted
    → Follows r config granted rows → Follows r config' granted' rows
follows_as r config config' granted granted' rows ec eg f =
    subst (λ (x : Config). Follows r x granted' rows) (sym ec)
    (subst (λ (x : Option Grant). Follows r config x rows) (sym eg) f)

-- Where all questions that may go out were asked, what may be sent for them isn't put yet.
reaches_asked : (origin : Origin) (before here : Course) (t : Talk) (u : UnderWay) (config : Config)
    (granted : Option Grant) (c : Conduct) (last : ℕ)
    → origin.config ≡ config → origin.granted ≡ granted
    → Reached config granted before (asking c here) u.running last → u.running.job ≡ origin.job → size_in t ≡ before.size
    → size_in t ≡ here.size
    → t.sequence ≡ last → unfinished_in (joiner_in t) ≡ here.unfinished → u.carried.octets ≡ [] → t.outbox.unsent ≡ []
    → Reaches origin before (asking c here) t u
reaches_asked origin before here t u config granted c last ec eg h done size size' sequence unfinished silent none =
    let r = u.running in
    let keeps = asks_on c.width c here in
    let is_settled : IsSettled (awaited_in r []) = subst IsSettled h.awaits (asking_settled c here) in
    record {
      at = record {
        job = done;
        size = size' ∙ sym keeps.size;
        sequence = sequence ∙ h.sequence;
        unfinished = λ k. unfinished ∙ sym keeps.unfinished;
        awaits = h.awaits ∙ ap (awaited_in r) (sym silent);
        opens = λ k. absurd (not_opening r.found.items r.codes [] r.stage is_settled k);
        follows = λ k. follows_as r config origin.config granted origin.granted _ ec eg (h.follows k);
        departs = λ k. absurd (not_leaving r.found.items r.codes [] r.stage is_settled k);
        silent = λ k. silent;
      };
      out =
          h.out
          ∙ (ap (λ (x : Config). before.out ++ unput_of x before.size r) (sym ec)
          ∙ (ap (λ x. before.out ++ unput_of origin.config x r) (sym size)
          ∙ ap (λ x. before.out ++ (x ++ unput_of origin.config (size_in t) r)) (sym none)));
    }

pub reached : (origin : Origin) (before here : Course) (t : Talk) (u : UnderWay) (config : Config)
    (granted : Option Grant) (c : Conduct) (last : ℕ)
    → origin.config ≡ config → origin.granted ≡ granted → c ≡ conduct_of origin
    → Reached config granted before (asking c here) u.running last → u.running.job ≡ origin.job → size_in t ≡ before.size
    → size_in t ≡ here.size
    → t.sequence ≡ last → unfinished_in (joiner_in t) ≡ here.unfinished → u.carried.octets ≡ [] → t.outbox.unsent ≡ []
    → Reaches origin before (asking (conduct_of origin) here) t u
reached origin before here t u config granted c last ec eg same h done size size' sequence unfinished silent none =
    subst (λ x. Reaches origin before (asking x here) t u) same
    (reaches_asked origin before here t u config granted c last ec eg h done size size' sequence unfinished silent none)

-- ---- a whole message

long_enough : (n : ℕ) → 10 ≤ n → nat_lt n 10 ≡ false
long_enough n h = grind (arith, nat_tests)

by_length : (origin : Origin) (course : Course) (message whole : List ℕ) (o : Option (List Row)) (t : Talk)
    (u : UnderWay) → message ≡ whole → 10 ≤ length message → filled course.rows message ≡ o
    → Reaches origin course (by_rows (conduct_of origin) course message o) t u
    → Reaches origin course (with_message (conduct_of origin) course whole) t u
by_length origin course message whole o t u same long is h =
    let by : Option (List Row) → Course = by_rows (conduct_of origin) course message in
    let W : List ℕ → Type 0 = λ m. Reaches origin course (with_message (conduct_of origin) course m) t u in
    let P : Option (List Row) → Type 0 = λ x. Reaches origin course (by x) t u in
    let Q : Bool → Type 0 =
    λ b. Reaches origin course (cond b (with_fault course short_message) (by (filled course.rows message))) t u in
    subst W same (subst Q (sym (long_enough (length message) long)) (subst P (sym is) h))

-- the job as the code was handed it
pub follows_here : (origin : Origin) (course : Course) (t : Talk) (u : UnderWay) (config : Config)
    (granted : Option Grant) → origin.config ≡ config → origin.granted ≡ granted
    → IsAsking u.running.stage → IsAt origin course t u → Follows u.running config granted course.rows
follows_here origin course t u config granted ec eg asks at =
    follows_as u.running origin.config config origin.granted granted course.rows (sym ec) (sym eg) (at.follows asks)

-- an answer, and what is asked then
pub reached_answer : (origin : Origin) (course : Course) (t t' : Talk) (u u' : UnderWay) (config : Config)
    (granted : Option Grant) (message whole : List ℕ) (rows : List Row) (last : ℕ)
    → origin.config ≡ config → origin.granted ≡ granted → message ≡ whole → 10 ≤ length message
    → IsAsking u.running.stage → IsAt origin course t u → filled course.rows message ≡ Some rows
    → Reached config granted course (asking (conduct_in u.running config granted) (record course { rows = rows }))
    u'.running last
    → u'.running.job ≡ u.running.job → u'.carried.octets ≡ u.carried.octets → size_in t' ≡ size_in t → t'.sequence ≡ last
    → joiner_in t' ≡ joiner_in t → t'.outbox.unsent ≡ []
    → Reaches origin course (with_message (conduct_of origin) course whole) t' u'
reached_answer origin course t t' u u' config granted message whole rows last ec eg same long asks at is h done carried
    size sequence joiner none =
    let going = awaiting_goes_on u.running.stage (asking_awaits u.running.stage asks) in
    by_length origin course message whole (Some rows) t' u' same long is
    (reached origin course (record course { rows = rows }) t' u' config granted
    (conduct_in u.running config granted) last ec eg
    (conduct_same u.running.job origin.job config origin.config granted origin.granted at.job (sym ec) (sym eg))
    h (done ∙ at.job) (size ∙ at.size) (size ∙ at.size) sequence (ap unfinished_in joiner ∙ at.unfinished going)
    (carried ∙ at.silent going) none)

-- a message that answers nothing
pub reached_nothing : (origin : Origin) (course : Course) (t : Talk) (u u' : UnderWay) (message whole : List ℕ)
    → message ≡ whole → 10 ≤ length message → IsAt origin course t u → filled course.rows message ≡ None
    → ((carried : List ℕ) → awaited_in u'.running carried ≡ for_nothing (fault_end invalid_answer) carried)
    → IsOver u'.running.stage
    → u'.running.job ≡ u.running.job → u'.carried.octets ≡ message → pending origin.config t u'.running ≡ []
    → Reaches origin course (with_message (conduct_of origin) course whole) t u'
reached_nothing origin course t u u' message whole same long at is e over done carried none =
    by_length origin course message whole None t u' same long is (record {
      at = record {
        job = done ∙ at.job;
        size = at.size;
        sequence = at.sequence;
        unfinished = λ h. absurd (h over);
        awaits = ap (for_nothing (fault_end invalid_answer)) (sym carried) ∙ sym (e u'.carried.octets);
        opens = λ h. absurd (over_not_opening u'.running.stage over h);
        follows = λ h. absurd (over_not_asking u'.running.stage over h);
        departs = λ h. absurd (over_not_leaving u'.running.stage over h);
        silent = λ h. absurd (h over);
      };
      out = sym (append-nil course.out) ∙ ap (λ x. course.out ++ x) (sym none);
    })

-- ---- the confirm

-- the negotiation is to be asked
opened : (origin : Origin) (course : Course) (t : Talk) (u : UnderWay) (r : Running) → IsOpening u.running.stage
    → IsAt origin course t u
    → ((plan_of u.running.job origin.config origin.granted).first ≡ connect_request
    → Follows r origin.config origin.granted [])
    → Follows r origin.config origin.granted course.rows
opened origin course t u r opening at follows =
    let h = at.opens opening in
    subst (Follows r origin.config origin.granted) (sym h.1)
    (follows (ap (λ j. (plan_of j origin.config origin.granted).first) at.job ∙ h.0))

pub reached_open : (origin : Origin) (course : Course) (t t' : Talk) (u u' : UnderWay) (r : Running) (last : ℕ)
    → IsOpening u.running.stage → IsAt origin course t u
    → ((plan_of u.running.job origin.config origin.granted).first ≡ connect_request
    → Follows r origin.config origin.granted [])
    → (Follows r origin.config origin.granted course.rows → course.sequence ≡ t.sequence
    → Reached origin.config origin.granted course (asking (conduct_in r origin.config origin.granted) course)
    u'.running last)
    → r.job ≡ u.running.job → u'.running.job ≡ r.job → u'.carried.octets ≡ u.carried.octets
    → size_in t' ≡ size_in t → joiner_in t' ≡ joiner_in t → t'.sequence ≡ last → t'.outbox.unsent ≡ []
    → Reaches origin course (asking (conduct_of origin) course) t' u'
reached_open origin course t t' u u' r last opening at follows asks done done' carried size joiner sequence none =
    let going = awaiting_goes_on u.running.stage (opening_awaits u.running.stage opening) in
    reached origin course course t' u' origin.config origin.granted (conduct_in r origin.config origin.granted) last
    refl refl
    (conduct_same r.job origin.job origin.config origin.config origin.granted origin.granted (done ∙ at.job) refl refl)
    (asks (opened origin course t u r opening at follows) (sym at.sequence))
    (done' ∙ (done ∙ at.job)) (size ∙ at.size) (size ∙ at.size) sequence
    (ap unfinished_in joiner ∙ at.unfinished going) (carried ∙ at.silent going) none
