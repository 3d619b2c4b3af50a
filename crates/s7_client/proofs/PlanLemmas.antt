-- Laws of the plans of jobs: how a course stands at what it awaits, and which of them begins with a disconnect request.
use Rattle.std.proofs.Common.{◌≡◌, ◌≢◌, ◌⊎◌, inl, inr, ℕ, ◌<◌, Bool, true, false, cond, eqb, ltb, Option, Some, None, List, [], length, refl, sym, ◌∙◌, ap, subst, arith}
use Rattle.std.specs.Prelude.{IsSome}
use Rattle.std.proofs.lemmas.Bool.{eqb-true, eqb-false, ltb-true, ltb-false}
use Rattle.s7_item.specs.Item.{octet_count}
use Rattle.s7_dialogue.specs.declared.config.Config.{Config}
use Rattle.s7_dialogue.specs.declared.grant.Grant.{Grant}
use Rattle.s7_dialogue.specs.declared.grant.Leaves.TheVariants.{Disconnected}
use Rattle.s7_dialogue.specs.declared.job.Job.{Job}
use Rattle.s7_dialogue.specs.declared.job.Job.TheVariants as job
use Rattle.s7_dialogue.specs.Codes.{not_connected}
use Rattle.s7_dialogue.specs.Checks.{check_item, check_items, check_moment, check_password, check_image, octet_count_of}
use Rattle.s7_dialogue.specs.Flight.{Row, answers_of, open_count}
use Rattle.s7_dialogue.specs.Dialogue.{Conduct, End, first_refusal, fault_end, number_end, departed_end, First, nothing, connect_request, disconnect_request, Plan, over, connecting_plan, is_connect, connected_plan, plan_of}
use Rattle.s7_dialogue.specs.Course.{Origin, Course, Awaits, for_confirm, for_answers, for_departure, for_nothing, conduct_of, next_question, asked_on, asking, by_first, begins_anew, blank, begun, course}
use Rattle.s7_dialogue.proofs.FlightLemmas.{nothing_left, nothing_more, settled_ends, IsEnded, asking_ends}
use Rattle.s7_dialogue.proofs.RowLemmas.{IsKept, course_kept}
use Rattle.s7_client.specs.Fit.{IsNoneAsked, JobsAskAll}

-- ---- how a course stands at what it awaits

-- the end by a fault
abbrev pub IsFaulted : End → Type 0
IsFaulted end = (code : ℕ) × (code ≢ 0) × (end ≡ fault_end code)

abbrev pub StandsAt : Origin → List Row → Awaits → Type 0
StandsAt origin rows for_confirm =
    ((plan_of origin.job origin.config origin.granted).first ≡ connect_request) × (rows ≡ [])
StandsAt origin rows for_answers = (0 < open_count rows) × (next_question (conduct_of origin) rows ≡ None)
StandsAt origin rows for_departure =
    ((plan_of origin.job origin.config origin.granted).first ≡ disconnect_request) × (rows ≡ [])
StandsAt origin rows (for_nothing end carried) = IsEnded (conduct_of origin) rows end carried ⊎ IsFaulted end

abbrev StandsIn : Origin → Course → Type 0
StandsIn origin c = StandsAt origin c.rows c.awaits

some_of : (n : ℕ) → n ≢ 0 → 0 < n
some_of n some = omega (arith, some)

stands_by : (origin : Origin) (c : Course) (b : Bool) → eqb (open_count (asking (conduct_of origin) c).rows) 0 ≡ b
    → StandsAt origin (asking (conduct_of origin) c).rows
    (cond b (for_nothing ((conduct_of origin).ended (answers_of (asking (conduct_of origin) c).rows)) []) for_answers)
stands_by origin c true none =
    let conduct = conduct_of origin in
    let after = asked_on conduct.width conduct c in
    inl (asking_ends conduct c (conduct.ended (answers_of after.rows)) []
    (settled_ends conduct after (eqb-true (open_count after.rows) 0 none)))
stands_by origin c false some =
    let rows = (asking (conduct_of origin) c).rows in
    (some_of (open_count rows) (eqb-false (open_count rows) 0 some), nothing_more (conduct_of origin) c)

asking_stands : (origin : Origin) (c : Course) → StandsIn origin (asking (conduct_of origin) c)
asking_stands origin c = stands_by origin c (eqb (open_count (asking (conduct_of origin) c).rows) 0) refl

stands_first : (origin : Origin) (first : First) → (plan_of origin.job origin.config origin.granted).first ≡ first
    → StandsIn origin (by_first origin.config (conduct_of origin) (blank origin) first)
stands_first origin nothing is = asking_stands origin (blank origin)
stands_first origin connect_request is = (is, refl)
stands_first origin disconnect_request is = (is, refl)

begun_stands : (origin : Origin) → StandsIn origin (begun origin)
unfolding begun
begun_stands origin = stands_first origin (plan_of origin.job origin.config origin.granted).first refl

stands_kept : (origin : Origin) → IsKept (conduct_of origin) (StandsIn origin)
stands_kept origin = record {
  faulted = λ c code carried bad stands. inr (code, bad, refl);
  joined = λ c unfinished stands. stands;
  confirmed = λ c size awaits stands. asking_stands origin (record c { size = size });
  answered = λ c message rows awaits is stands. asking_stands origin (record c { rows = rows });
}

pub course_stands : (origin : Origin) (b : List ℕ) → StandsAt origin (course origin b).rows (course origin b).awaits
course_stands origin b = course_kept origin (StandsIn origin) (stands_kept origin) (begun_stands origin) b

-- a course that is over
pub course_over : (origin : Origin) (b : List ℕ) (end : End) (carried : List ℕ)
    → (course origin b).awaits ≡ for_nothing end carried
    → IsEnded (conduct_of origin) (course origin b).rows end carried ⊎ IsFaulted end
course_over origin b end carried is = subst (StandsAt origin (course origin b).rows) is (course_stands origin b)

-- one that awaits the confirm
pub course_opens : (origin : Origin) (b : List ℕ) → (course origin b).awaits ≡ for_confirm
    → ((plan_of origin.job origin.config origin.granted).first ≡ connect_request) × ((course origin b).rows ≡ [])
course_opens origin b is = subst (StandsAt origin (course origin b).rows) is (course_stands origin b)

-- one that awaits answers
pub course_asks : (origin : Origin) (b : List ℕ) → (course origin b).awaits ≡ for_answers
    → (0 < open_count (course origin b).rows)
    × (next_question (conduct_of origin) (course origin b).rows ≡ None)
course_asks origin b is = subst (StandsAt origin (course origin b).rows) is (course_stands origin b)

none_asked_by : (c : Conduct) (rows : List Row) (less : Bool) (refused : Option (ℕ × ℕ)) → ltb (open_count rows) c.width ≡ less
    → first_refusal c.refusal 0 (answers_of rows) ≡ refused → next_question c rows ≡ None → IsNoneAsked c rows
none_asked_by c rows false refused fewer is none = inl (ltb-false (open_count rows) c.width fewer)
none_asked_by c rows true (Some r) fewer is none = inr (inl (λ e. let x : Some r ≡ None = sym is ∙ e in cc))
none_asked_by c rows true None fewer is none = inr (inr (nothing_left c rows (ltb-true (open_count rows) c.width fewer) is none))

-- all that may be asked was asked
pub course_asks_all : JobsAskAll
course_asks_all origin b is =
    let c = conduct_of origin in
    let rows = (course origin b).rows in
    let asks = course_asks origin b is in
    (asks.0, none_asked_by c rows (ltb (open_count rows) c.width) (first_refusal c.refusal 0 (answers_of rows)) refl refl asks.1)

-- and one that awaits that its disconnect request is transmitted
pub course_leaves : (origin : Origin) (b : List ℕ) → (course origin b).awaits ≡ for_departure
    → ((plan_of origin.job origin.config origin.granted).first ≡ disconnect_request) × ((course origin b).rows ≡ [])
course_leaves origin b is = subst (StandsAt origin (course origin b).rows) is (course_stands origin b)

-- ---- a disconnect request goes out first

asks_if : (b : Bool) (plan : Plan) (end : End) → plan.first ≡ nothing
    → (cond b plan (over end)).first ≡ disconnect_request
    → ⊥
asks_if true plan end asks leaves = absurd (cc)
asks_if false plan end asks leaves = absurd (cc)

connected_leaves : (done : Job) (granted : Grant) → (connected_plan done granted).first ≡ disconnect_request
    → (done ≡ job.Disconnect) × (departed_end ≡ (connected_plan done granted).conduct.ended [])
connected_leaves (job.ReadArea item) granted is =
    absurd (asks_if (eqb (check_item item true) 0) _ _ refl is)
connected_leaves (job.WriteArea item octets) granted is =
    absurd (asks_if (eqb (check_item item (eqb (length octets) (octet_count item))) 0) _ _ refl is)
connected_leaves (job.ReadMany items) granted is =
    absurd (asks_if (eqb (check_items items true granted.pdu false) 0) _ _ refl is)
connected_leaves (job.WriteMany items octets) granted is =
    absurd
    (asks_if (eqb (check_items items (eqb (length octets) (octet_count_of items)) granted.pdu true) 0) _ _ refl is)
connected_leaves (job.Download image) granted is = absurd (asks_if (eqb (check_image image) 0) _ _ refl is)
connected_leaves (job.ClockSet moment) granted is = absurd (asks_if (eqb (check_moment moment) 0) _ _ refl is)
connected_leaves (job.PasswordSet text) granted is = absurd (asks_if (eqb (check_password text) 0) _ _ refl is)
connected_leaves job.Disconnect granted is = (refl, refl)
connected_leaves _ granted is = absurd (cc)

unconnected_leaves : (asks : Bool) (config : Config)
    → (cond asks (connecting_plan config) (over (number_end 0x00010000 Disconnected))).first ≡ disconnect_request → ⊥
unconnected_leaves true config is = absurd (cc)
unconnected_leaves false config is = absurd (cc)

-- only that of a disconnect, which ends with its departure
pub plan_leaves : (done : Job) (config : Config) (granted : Option Grant)
    → (plan_of done config granted).first ≡ disconnect_request
    → (done ≡ job.Disconnect) × (departed_end ≡ (plan_of done config granted).conduct.ended [])
plan_leaves done config None is = absurd (unconnected_leaves (is_connect done) config is)
plan_leaves done config (Some granted) is = connected_leaves done granted is

-- ---- a connect request goes out first

opens_if : (b : Bool) (plan : Plan) (end : End) → plan.first ≡ nothing
    → (cond b plan (over end)).first ≡ connect_request
    → ⊥
opens_if true plan end asks opens = absurd (cc)
opens_if false plan end asks opens = absurd (cc)

connected_opens : (done : Job) (granted : Grant) → (connected_plan done granted).first ≡ connect_request → ⊥
connected_opens (job.ReadArea item) granted is =
    opens_if (eqb (check_item item true) 0) _ _ refl is
connected_opens (job.WriteArea item octets) granted is =
    opens_if (eqb (check_item item (eqb (length octets) (octet_count item))) 0) _ _ refl is
connected_opens (job.ReadMany items) granted is =
    opens_if (eqb (check_items items true granted.pdu false) 0) _ _ refl is
connected_opens (job.WriteMany items octets) granted is =
    opens_if (eqb (check_items items (eqb (length octets) (octet_count_of items)) granted.pdu true) 0) _ _ refl is
connected_opens (job.Download image) granted is = opens_if (eqb (check_image image) 0) _ _ refl is
connected_opens (job.ClockSet moment) granted is = opens_if (eqb (check_moment moment) 0) _ _ refl is
connected_opens (job.PasswordSet text) granted is = opens_if (eqb (check_password text) 0) _ _ refl is
connected_opens _ granted is = absurd (cc)

-- only that of a job on a client that isn't connected
pub plan_opens : (done : Job) (config : Config) (granted : Option Grant) → IsSome granted
    → (plan_of done config granted).first ≡ connect_request → ⊥
plan_opens done config None some is = absurd (cc)
plan_opens done config (Some granted) some is = connected_opens done granted is

-- and of the connect that begins the link anew
pub plan_anew : (done : Job) (config : Config) (granted : Option Grant) → begins_anew granted done ≡ true
    → (plan_of done config granted).first ≡ connect_request
plan_anew done config None anew =
    ap (λ (b : Bool). (cond b (connecting_plan config) (over (number_end not_connected Disconnected))).first) anew
plan_anew done config (Some granted) anew = absurd (cc)
