-- How the jobs of a client end, and what their ends leave.
use Rattle.std.proofs.Common.{◌≡◌, ◌≢◌, ◌⊎◌, inl, inr, ℕ, Bool, true, false, cond, eqb, List, [], ◌∷◌, length, Option, None, Some, refl, sym, ap, ◌∙◌, subst, arith}
use Rattle.std.specs.Prelude.{IsTrue}
use Rattle.s7_outer.specs.Shown.{Shown}
use Rattle.s7_outer.specs.Count.{Rose}
use Rattle.s7_item.specs.Item.{octet_count}
use Rattle.s7_block.specs.declared.block.BlockName.{BlockName}
use Rattle.s7_clock.specs.declared.control.Control.{Control}
use Rattle.s7_clock.specs.declared.control.Control.TheVariants as control
use Rattle.s7_dialogue.specs.declared.config.Config.{Config}
use Rattle.s7_dialogue.specs.declared.grant.Grant.{Grant}
use Rattle.s7_dialogue.specs.declared.grant.Leaves.{Leaves}
use Rattle.s7_dialogue.specs.declared.grant.Leaves.TheVariants.{AsItWas, Connected, Disconnected, Closed}
use Rattle.s7_dialogue.specs.declared.job.Job.{Job}
use Rattle.s7_dialogue.specs.declared.job.Job.TheVariants as job
use Rattle.s7_dialogue.specs.declared.questions.subject.Subject.{Subject}
use Rattle.s7_dialogue.specs.declared.questions.subject.Subject.TheVariants.{StatusList, RunState, BlockCounts, BlocksOfKind, BlockHead, Clock, ClockSetting, Password, PasswordClearing}
use Rattle.s7_dialogue.specs.Answer.{Answer, grants, tells, notes, stands, brings, uploads, slices, uploaded, announced, calls, refuses}
use Rattle.s7_dialogue.specs.Codes.{not_connected, timed_out}
use Rattle.s7_dialogue.specs.Checks.{check_item, check_items, check_moment, check_password, check_image, octet_count_of}
use Rattle.s7_dialogue.specs.Flight.{answers_of, open_count}
use Rattle.s7_dialogue.specs.Dialogue.{End, First, nothing, connect_request, disconnect_request, Plan, over, number_end, fault_end, departed_end}
use Rattle.s7_dialogue.specs.Dialogue.{taken_grant, by_grant, negotiated, connected_plan, unconnected_plan, plan_of}
use Rattle.s7_dialogue.specs.Dialogue.{Conduct, plain_number, write_number, by_refusal, good_end, controlling, asking_about, uploading, fill_number, at_once}
use Rattle.s7_dialogue.specs.Course.{Origin, Course, Awaits, for_confirm, for_answers, for_departure, for_nothing, conduct_of}
use Rattle.s7_dialogue.specs.Course.{asked_on, asking, blank, by_first, begun, course}
use Rattle.s7_client.specs.Standing.{IsFault, IsByOctets, IsByDeparture}
use Rattle.s7_client.specs.Polling.{IsDoneBy, grant_after}
use Rattle.s7_dialogue.proofs.RowLemmas.{IsKept, course_kept}
use Rattle.s7_rig.specs.Scripts.{IsNoConnect}

-- ---- what ends leave

-- Only a client that was connected stays as it was, only a connect connects, only a disconnect comes off and leaves a
-- client that isn't connected, and only a fault closes.
abbrev Leaving : Job → Option Grant → ℕ → Leaves → Type 0
Leaving done granted code AsItWas = granted ≢ None
Leaving done granted code (Connected now) = (done ≡ job.Connect) × (granted ≡ None)
Leaving done granted code Disconnected = code ≡ 0 → (done ≡ job.Disconnect) × (granted ≢ None)
Leaving done granted code Closed = code ≢ 0

-- that of an end
abbrev LeavesAs : Job → Option Grant → End → Type 0
LeavesAs done granted end = Leaving done granted end.code end.leaves

-- what is awaited, where the job is over or leaves
abbrev OverAs : Job → Option Grant → Conduct → Awaits → Type 0
OverAs done granted conduct for_confirm = Unit {0}
OverAs done granted conduct for_answers = Unit {0}
OverAs done granted conduct for_departure = (conduct.ended []).leaves ≡ Disconnected
OverAs done granted conduct (for_nothing end carried) = LeavesAs done granted end

-- each end of a plan leaves so, and one that begins with a disconnect request leaves the link
record PlanLeaves (done : Job) (granted : Option Grant) (plan : Plan) : Type 0 where
  ends : (answers : List (Option Answer)) → LeavesAs done granted (plan.conduct.ended answers)
  departs : plan.first ≡ disconnect_request → (plan.conduct.ended []).leaves ≡ Disconnected

-- ---- on a connected client

is_granted : (granted : Grant) → Some granted ≢ None
is_granted granted = λ e. absurd (cc)

not_departing : (a : Leaves) → nothing ≡ disconnect_request → a ≡ Disconnected
not_departing a e = absurd (cc)

over_leaves : (done : Job) (granted : Grant) (code : ℕ)
    → PlanLeaves done (Some granted) (over (number_end code AsItWas))
over_leaves done granted code =
    record { ends = λ answers. is_granted granted; departs = λ e. not_departing AsItWas e }

refusal_leaves : (done : Job) (granted : Grant) (number : ℕ → ℕ → ℕ) (refused : Option (ℕ × ℕ)) (octets codes : List ℕ)
    → LeavesAs done (Some granted) (by_refusal number refused (good_end octets codes))
refusal_leaves done granted number (Some r) octets codes = is_granted granted
refusal_leaves done granted number None octets codes = is_granted granted

-- a job that asks questions once it was checked
checked_leaves : (done : Job) (granted : Grant) (code : ℕ) (plan : Plan) (good : Bool)
    → PlanLeaves done (Some granted) plan
    → PlanLeaves done (Some granted) (cond good plan (over (number_end code AsItWas)))
checked_leaves done granted code plan true leaves = leaves
checked_leaves done granted code plan false leaves = over_leaves done granted code

-- one that asks from its start on
control_leaves : (done : Job) (granted : Grant) (control : Control)
    → PlanLeaves done (Some granted) (at_once (controlling control))
control_leaves done granted control =
    record { ends = λ answers. refusal_leaves done granted _ _ _ _; departs = λ e. not_departing _ e }

about_leaves : (done : Job) (granted : Grant) (subject : Subject) (octets : List ℕ)
    → PlanLeaves done (Some granted) (at_once (asking_about subject octets))
about_leaves done granted subject octets =
    record { ends = λ answers. refusal_leaves done granted _ _ _ _; departs = λ e. not_departing _ e }

upload_leaves : (done : Job) (granted : Grant) (name : BlockName)
    → PlanLeaves done (Some granted) (at_once (uploading name))
upload_leaves done granted name =
    record { ends = λ answers. refusal_leaves done granted _ _ _ _; departs = λ e. not_departing _ e }

connected_leaves : (done : Job) (granted : Grant) → PlanLeaves done (Some granted) (connected_plan done granted)
connected_leaves job.Connect granted = over_leaves job.Connect granted 0
connected_leaves (job.ReadArea item) granted =
    let check = check_item item true in
    checked_leaves (job.ReadArea item) granted check _ (eqb check 0) (record {
      ends = λ answers. refusal_leaves (job.ReadArea item) granted _ _ _ _;
      departs = λ e. not_departing _ e;
    })
connected_leaves (job.WriteArea item octets) granted =
    let check = check_item item (eqb (length octets) (octet_count item)) in
    checked_leaves (job.WriteArea item octets) granted check _ (eqb check 0) (record {
      ends = λ answers. refusal_leaves (job.WriteArea item octets) granted _ _ _ _;
      departs = λ e. not_departing _ e;
    })
connected_leaves (job.ReadMany items) granted =
    let check = check_items items true granted.pdu false in
    checked_leaves (job.ReadMany items) granted check _ (eqb check 0) (record {
      ends = λ answers. refusal_leaves (job.ReadMany items) granted _ _ _ _;
      departs = λ e. not_departing _ e;
    })
connected_leaves (job.WriteMany items octets) granted =
    let check = check_items items (eqb (length octets) (octet_count_of items)) granted.pdu true in
    checked_leaves (job.WriteMany items octets) granted check _ (eqb check 0) (record {
      ends = λ answers. refusal_leaves (job.WriteMany items octets) granted _ _ _ _;
      departs = λ e. not_departing _ e;
    })
connected_leaves job.List granted = about_leaves job.List granted BlockCounts _
connected_leaves (job.ListOf kind) granted = about_leaves (job.ListOf kind) granted BlocksOfKind _
connected_leaves (job.Info kind number) granted = about_leaves (job.Info kind number) granted BlockHead _
connected_leaves (job.Upload kind number) granted =
    upload_leaves (job.Upload kind number) granted (record { kind = kind; number = number })
connected_leaves (job.Download image) granted =
    let check = check_image image in
    checked_leaves (job.Download image) granted check _ (eqb check 0) (record {
      ends = λ answers. refusal_leaves (job.Download image) granted _ _ _ _;
      departs = λ e. not_departing _ e;
    })
connected_leaves (job.Delete kind number) granted =
    control_leaves (job.Delete kind number) granted (control.Delete kind number)
connected_leaves (job.DbGet number) granted = record {
  ends = λ answers. refusal_leaves (job.DbGet number) granted _ _ _ _;
  departs = λ e. not_departing _ e;
}
connected_leaves (job.DbFill number value) granted = record {
  ends = λ answers. refusal_leaves (job.DbFill number value) granted _ _ _ _;
  departs = λ e. not_departing _ e;
}
connected_leaves (job.Szl id index) granted = about_leaves (job.Szl id index) granted StatusList _
connected_leaves job.ClockRead granted = about_leaves job.ClockRead granted Clock _
connected_leaves (job.ClockSet moment) granted =
    let check = check_moment moment in
    checked_leaves (job.ClockSet moment) granted check _ (eqb check 0)
    (about_leaves (job.ClockSet moment) granted ClockSetting _)
connected_leaves job.Start granted = control_leaves job.Start granted control.Start
connected_leaves job.ColdStart granted = control_leaves job.ColdStart granted control.ColdStart
connected_leaves job.Stop granted = control_leaves job.Stop granted control.Stop
connected_leaves job.Compress granted = control_leaves job.Compress granted control.Compress
connected_leaves job.CopyRam granted = control_leaves job.CopyRam granted control.CopyRam
connected_leaves job.Status granted = about_leaves job.Status granted RunState _
connected_leaves (job.PasswordSet text) granted =
    let check = check_password text in
    checked_leaves (job.PasswordSet text) granted check _ (eqb check 0)
    (about_leaves (job.PasswordSet text) granted Password _)
connected_leaves job.PasswordClear granted = about_leaves job.PasswordClear granted PasswordClearing _
connected_leaves job.Disconnect granted =
    record { ends = λ answers good. (refl, is_granted granted); departs = λ e. refl }

refusal_stays : (number : ℕ → ℕ → ℕ) (refused : Option (ℕ × ℕ)) (octets codes : List ℕ)
    → (by_refusal number refused (good_end octets codes)).leaves ≡ AsItWas
refusal_stays number (Some r) octets codes = refl
refusal_stays number None octets codes = refl

checked_stays : (check : ℕ) (plan : Plan) (good : Bool) (answers : List (Option Answer))
    → (plan.conduct.ended answers).leaves ≡ AsItWas
    → ((cond good plan (over (number_end check AsItWas))).conduct.ended answers).leaves ≡ AsItWas
checked_stays check plan true answers stays = stays
checked_stays check plan false answers stays = refl

-- a job on a connected client leaves it so, unless it disconnects
pub stays_or_leaves : (done : Job) (grant : Grant) (answers : List (Option Answer))
    → (((connected_plan done grant).conduct.ended answers).leaves ≡ AsItWas) ⊎ (done ≡ job.Disconnect)
stays_or_leaves job.Connect grant answers = inl refl
stays_or_leaves (job.ReadArea item) grant answers =
    let check = check_item item true in
    inl (checked_stays check _ (eqb check 0) answers (refusal_stays plain_number _ _ _))
stays_or_leaves (job.WriteArea item octets) grant answers =
    let check = check_item item (eqb (length octets) (octet_count item)) in
    inl (checked_stays check _ (eqb check 0) answers (refusal_stays write_number _ _ _))
stays_or_leaves (job.ReadMany items) grant answers =
    let check = check_items items true grant.pdu false in
    inl (checked_stays check _ (eqb check 0) answers (refusal_stays plain_number _ _ _))
stays_or_leaves (job.WriteMany items octets) grant answers =
    let check = check_items items (eqb (length octets) (octet_count_of items)) grant.pdu true in
    inl (checked_stays check _ (eqb check 0) answers (refusal_stays plain_number _ _ _))
stays_or_leaves (job.Download image) grant answers =
    let check = check_image image in
    inl (checked_stays check _ (eqb check 0) answers (refusal_stays plain_number _ _ _))
stays_or_leaves (job.ClockSet moment) grant answers =
    let check = check_moment moment in
    inl (checked_stays check _ (eqb check 0) answers (refusal_stays plain_number _ _ _))
stays_or_leaves (job.PasswordSet text) grant answers =
    let check = check_password text in
    inl (checked_stays check _ (eqb check 0) answers (refusal_stays plain_number _ _ _))
stays_or_leaves (job.DbFill number value) grant answers = inl (refusal_stays (fill_number answers) _ _ _)
stays_or_leaves job.Disconnect grant answers = inr refl
stays_or_leaves _ grant answers = inl (refusal_stays plain_number _ _ _)

-- ---- on a client that isn't connected

grant_leaves : (granted : Option Grant) → LeavesAs job.Connect None (by_grant granted)
grant_leaves None = λ e. absurd (omega (arith, e))
grant_leaves (Some granted) = (refl, refl)

negotiated_leaves : (config : Config) (answers : List (Option Answer))
    → LeavesAs job.Connect None (negotiated config answers)
negotiated_leaves config [] = grant_leaves None
negotiated_leaves config (None ∷ answers) = grant_leaves None
negotiated_leaves config (Some (grants n) ∷ answers) = grant_leaves (taken_grant config n)
negotiated_leaves config (Some (refuses error) ∷ answers) = grant_leaves None
negotiated_leaves config (Some (tells items) ∷ answers) = grant_leaves None
negotiated_leaves config (Some (notes codes) ∷ answers) = grant_leaves None
negotiated_leaves config (Some (stands status) ∷ answers) = grant_leaves None
negotiated_leaves config (Some (brings octet more octets) ∷ answers) = grant_leaves None
negotiated_leaves config (Some (uploads id size) ∷ answers) = grant_leaves None
negotiated_leaves config (Some (slices more octets) ∷ answers) = grant_leaves None
negotiated_leaves config (Some uploaded ∷ answers) = grant_leaves None
negotiated_leaves config (Some announced ∷ answers) = grant_leaves None
negotiated_leaves config (Some (calls sequence) ∷ answers) = grant_leaves None

not_connected_leaves : (done : Job) → PlanLeaves done None (over (number_end not_connected Disconnected))
not_connected_leaves done =
    record { ends = λ answers good. absurd (omega (arith, good)); departs = λ e. refl }

unconnected_leaves : (done : Job) (config : Config) → PlanLeaves done None (unconnected_plan done config)
unconnected_leaves job.Connect config = record {
  ends = negotiated_leaves config;
  departs = λ e. absurd (cc);
}
unconnected_leaves done config = not_connected_leaves done

plan_leaves : (done : Job) (config : Config) (granted : Option Grant)
    → PlanLeaves done granted (plan_of done config granted)
plan_leaves done config None = unconnected_leaves done config
plan_leaves done config (Some granted) = connected_leaves done granted

-- ---- courses

module _ (origin : Origin) where
  abbrev leaves : PlanLeaves origin.job origin.granted (plan_of origin.job origin.config origin.granted)
  leaves = plan_leaves origin.job origin.config origin.granted

  abbrev Holds : Course → Type 0
  Holds k = OverAs origin.job origin.granted (conduct_of origin) k.awaits

  settled_by : (answers : List (Option Answer)) (b : Bool)
      → OverAs origin.job origin.granted (conduct_of origin)
      (cond b (for_nothing ((conduct_of origin).ended answers) []) for_answers)
  settled_by answers true = leaves.ends answers
  settled_by answers false = tt

  asking_holds : (k : Course) → Holds (asking (conduct_of origin) k)
  asking_holds k =
      let rows = (asked_on (conduct_of origin).width (conduct_of origin) k).rows in
      settled_by (answers_of rows) (eqb (open_count rows) 0)

  first_holds : (first : First) → (plan_of origin.job origin.config origin.granted).first ≡ first
      → Holds (by_first origin.config (conduct_of origin) (blank origin) first)
  first_holds nothing is = asking_holds (blank origin)
  first_holds connect_request is = tt
  first_holds disconnect_request is = leaves.departs is

  begun_holds : Holds (begun origin)
  unfolding begun
  begun_holds = first_holds (plan_of origin.job origin.config origin.granted).first refl

  all_kept : IsKept (conduct_of origin) Holds
  all_kept = record {
    faulted = λ k code carried bad h. bad;
    joined = λ k unfinished h. h;
    confirmed = λ k size awaits h. asking_holds (record k { size = size });
    answered = λ k message rows awaits is h. asking_holds (record k { rows = rows });
  }

  course_holds : (b : List ℕ) → Holds (course origin b)
  course_holds b = course_kept origin Holds all_kept begun_holds b

-- ---- jobs that don't connect, and links that neither fail nor end

no_connect : (done : Job) → IsNoConnect done → done ≢ job.Connect
no_connect done none = λ is. absurd (subst IsNoConnect is none)

no_connect_by : (done : Job) (granted : Option Grant) (code : ℕ) (leaves : Leaves) → IsNoConnect done → Leaving done granted code leaves
    → grant_after leaves None ≡ None
no_connect_by done granted code AsItWas none left = refl
no_connect_by done granted code (Connected now) none left = absurd (no_connect done none left.0)
no_connect_by done granted code Disconnected none left = refl
no_connect_by done granted code Closed none left = refl

unconnected_by : (done : Job) (code : ℕ) (leaves : Leaves) → IsNoConnect done → Leaving done None code leaves → code ≢ 0
unconnected_by done code AsItWas none left = absurd (left refl)
unconnected_by done code (Connected now) none left = absurd (no_connect done none left.0)
unconnected_by done code Disconnected none left = λ good. absurd ((left good).1 refl)
unconnected_by done code Closed none left = left

abbrev pub IsQuiet : Shown → Shown → Type 0
IsQuiet link link' = (Rose link.faults link'.faults → ⊥) × (IsTrue link'.has_ended → ⊥)

no_departure : (leaves : Leaves) → leaves ≡ AsItWas → leaves ≡ Disconnected → ⊥
no_departure leaves stays departs = cc

no_leaving : Closed ≡ Disconnected → ⊥
no_leaving e = cc

-- ---- the causes of an end

module _ (origin : Origin) (link link' : Shown) (kept : List ℕ) (end : End) (carried b written : List ℕ)
    (waited : Option ℕ) where
  -- the octets that were used
  octets_leave : (course origin b).awaits ≡ for_nothing end carried → LeavesAs origin.job origin.granted end
  octets_leave over = subst (OverAs origin.job origin.granted (conduct_of origin)) over (course_holds origin b)

  -- the end of a disconnect request that was transmitted
  departure_leaves : IsByDeparture origin end carried b written → end.leaves ≡ Disconnected
  departure_leaves left =
      subst (λ (e : End). e.leaves ≡ Disconnected) (sym left.is)
      (subst (OverAs origin.job origin.granted (conduct_of origin)) left.awaited (course_holds origin b))

  departure_as : IsByDeparture origin end carried b written → LeavesAs origin.job origin.granted end
  departure_as left =
      subst (LeavesAs origin.job origin.granted) (sym left.is)
      ((plan_leaves origin.job origin.config origin.granted).ends [])

  -- faults close the client
  fault_leaves : (code : ℕ) → code ≢ 0 → IsFault code end carried → LeavesAs origin.job origin.granted end
  fault_leaves code bad fault = subst (LeavesAs origin.job origin.granted) (sym fault.0) bad

  ended : IsDoneBy origin link link' kept end carried b written waited → LeavesAs origin.job origin.granted end
  ended (inl (inl octets)) = octets_leave octets.over
  ended (inl (inr (inl departure))) = departure_as departure
  ended (inl (inr (inr (inl by_end)))) = fault_leaves _ (λ e. absurd (omega (arith, e))) by_end.fault
  ended (inl (inr (inr (inr (inl by_receive))))) = fault_leaves _ (λ e. absurd (omega (arith, e))) by_receive.fault
  ended (inl (inr (inr (inr (inr by_send))))) = fault_leaves _ (λ e. absurd (omega (arith, e))) by_send.fault
  ended (inr patience) = fault_leaves _ (λ e. absurd (omega (arith, e))) patience.fault

  -- ---- jobs that don't connect

  -- a job that doesn't connect grants nothing
  pub no_connect_leaves : IsDoneBy origin link link' kept end carried b written waited → IsNoConnect origin.job
      → grant_after end.leaves None ≡ None
  no_connect_leaves cause none = no_connect_by origin.job origin.granted end.code end.leaves none (ended cause)

  -- on a client that isn't connected such a job ends with a number
  pub unconnected_fails : origin.granted ≡ None → IsNoConnect origin.job
      → IsDoneBy origin link link' kept end carried b written waited → end.code ≢ 0
  unconnected_fails fresh none cause =
      unconnected_by origin.job end.code end.leaves none (subst (λ g. LeavesAs origin.job g end) fresh (ended cause))

  -- ---- over links that neither fail nor end

  -- a job ends by the octets that it used, by its departure, or because it met too many polls
  quiet_ends : IsQuiet link link' → IsDoneBy origin link link' kept end carried b written waited
      → IsByOctets origin end carried b written ⊎ IsByDeparture origin end carried b written
      ⊎ (end ≡ fault_end timed_out)
  quiet_ends quiet (inl (inl octets)) = inl octets
  quiet_ends quiet (inl (inr (inl departure))) = inr (inl departure)
  quiet_ends quiet (inl (inr (inr (inl by_end)))) = absurd (quiet.1 by_end.has_ended)
  quiet_ends quiet (inl (inr (inr (inr (inl by_receive))))) = absurd (quiet.0 by_receive.rose)
  quiet_ends quiet (inl (inr (inr (inr (inr by_send))))) = absurd (quiet.0 by_send.rose)
  quiet_ends quiet (inr patience) = inr (inr patience.fault.0)

  departed_by : (grant : Grant) → IsByDeparture origin end carried b written
      → end ≡ (connected_plan origin.job grant).conduct.ended []
      → (((connected_plan origin.job grant).conduct.ended []).leaves ≡ AsItWas) ⊎ (origin.job ≡ job.Disconnect)
      → (end ≡ departed_end) × (origin.job ≡ job.Disconnect)
  departed_by grant left is (inl stays) =
      absurd (no_departure end.leaves (ap (λ (e : End). e.leaves) is ∙ stays) (departure_leaves left))
  departed_by grant left is (inr leaves) = (is ∙ ap (λ j. (connected_plan j grant).conduct.ended []) leaves, leaves)

  working_by : (grant : Grant) → origin.granted ≡ Some grant
      → IsByOctets origin end carried b written ⊎ IsByDeparture origin end carried b written
      ⊎ (end ≡ fault_end timed_out)
      → IsByOctets origin end carried b written ⊎ ((end ≡ departed_end) × (origin.job ≡ job.Disconnect))
      ⊎ (end ≡ fault_end timed_out)
  working_by grant working (inl octets) = inl octets
  working_by grant working (inr (inl left)) =
      inr (inl (departed_by grant left
      (left.is ∙ ap (λ g. (plan_of origin.job origin.config g).conduct.ended []) working)
      (stays_or_leaves origin.job grant [])))
  working_by grant working (inr (inr late)) = inr (inr late)

  -- one on a connected client departs only where it disconnects
  pub working_ends : (grant : Grant) → origin.granted ≡ Some grant → IsQuiet link link'
      → IsDoneBy origin link link' kept end carried b written waited
      → IsByOctets origin end carried b written ⊎ ((end ≡ departed_end) × (origin.job ≡ job.Disconnect))
      ⊎ (end ≡ fault_end timed_out)
  working_ends grant working quiet cause = working_by grant working (quiet_ends quiet cause)

  connect_by : origin.granted ≡ None → origin.job ≡ job.Connect
      → IsByOctets origin end carried b written ⊎ IsByDeparture origin end carried b written
      ⊎ (end ≡ fault_end timed_out) → IsByOctets origin end carried b written ⊎ (end ≡ fault_end timed_out)
  connect_by fresh connects (inl octets) = inl octets
  connect_by fresh connects (inr (inl left)) =
      let is : (conduct_of origin).ended [] ≡ negotiated origin.config [] =
      ap (λ g. (plan_of origin.job origin.config g).conduct.ended []) fresh
      ∙ ap (λ j. (plan_of j origin.config None).conduct.ended []) connects in
      absurd (no_leaving (sym (ap (λ (e : End). e.leaves) (left.is ∙ is)) ∙ departure_leaves left))
  connect_by fresh connects (inr (inr late)) = inr late

  -- a connect never departs
  pub connect_ends : origin.granted ≡ None → origin.job ≡ job.Connect → IsQuiet link link'
      → IsDoneBy origin link link' kept end carried b written waited
      → IsByOctets origin end carried b written ⊎ (end ≡ fault_end timed_out)
  connect_ends fresh connects quiet cause = connect_by fresh connects (quiet_ends quiet cause)
