-- A job that is over leaves both ends between two messages.
use Rattle.std.proofs.Common.{◌≡◌, ◌⊎◌, inl, inr, ℕ, ◌<◌, Bool, true, false, cond, eqb, Some, List, [], ◌++◌, length, refl, ap, sym, ◌∙◌, subst, append-nil}
use Rattle.s7_item.specs.Item.{octet_count}
use Rattle.s7_dialogue.specs.declared.grant.Grant.{Grant}
use Rattle.s7_dialogue.specs.declared.grant.Leaves.TheVariants.{AsItWas}
use Rattle.s7_dialogue.specs.declared.job.Job.{Job}
use Rattle.s7_dialogue.specs.declared.job.Job.TheVariants as job
use Rattle.s7_dialogue.specs.Checks.{check_item, check_items, check_moment, check_password, check_image, octet_count_of}
use Rattle.s7_dialogue.specs.Dialogue.{End, First, nothing, disconnect_request, Plan, over, number_end, connected_plan, plan_of}
use Rattle.s7_dialogue.specs.Course.{Origin, Course, Awaits, for_departure, for_nothing, course}
use Rattle.s7_client.specs.Standing.{AwaitsOctets}
use Rattle.s7_session.specs.LinkState.{LinkState}
use Rattle.s7_session.specs.Verdict.{Verdict}
use Rattle.s7_session.specs.Owed.{past, owed, entered}
use Rattle.s7_rig.specs.Settled.{Settled}
use Rattle.s7_rig.specs.Dialogues.{IsJobOver}
use Rattle.s7_rig.proofs.BeginLemmas.{first_course, BeginsAsking, begins_asking}
use Rattle.s7_rig.proofs.ListFacts.{none_of}
use Rattle.s7_rig.proofs.HoldLemmas.{first_holds}
use Rattle.s7_rig.proofs.DialogueLemmas.{Whole, IsWhole, Place, IsAt, IsDone}
use Rattle.s7_rig.proofs.JobLemmas.{done}

-- ---- how a job on a connected client begins

-- with its questions, or with a disconnect request
abbrev AsksOrLeaves : First → Type 0
AsksOrLeaves first = (first ≡ nothing) ⊎ (first ≡ disconnect_request)

checked_first : (check : ℕ) (plan : Plan) (good : Bool) → plan.first ≡ nothing
    → AsksOrLeaves (cond good plan (over (number_end check AsItWas))).first
checked_first check plan true is = inl is
checked_first check plan false is = inl refl

connected_first : (asked : Job) (granted : Grant) → AsksOrLeaves (connected_plan asked granted).first
connected_first job.Connect granted = inl refl
connected_first (job.ReadArea item) granted = checked_first (check_item item true) _ _ refl
connected_first (job.WriteArea item octets) granted =
    checked_first (check_item item (eqb (length octets) (octet_count item))) _ _ refl
connected_first (job.ReadMany items) granted = checked_first (check_items items true granted.pdu false) _ _ refl
connected_first (job.WriteMany items octets) granted =
    checked_first (check_items items (eqb (length octets) (octet_count_of items)) granted.pdu true) _ _ refl
connected_first (job.Download image) granted = checked_first (check_image image) _ _ refl
connected_first (job.ClockSet moment) granted = checked_first (check_moment moment) _ _ refl
connected_first (job.PasswordSet text) granted = checked_first (check_password text) _ _ refl
connected_first job.Disconnect granted = inr refl
connected_first _ granted = inl refl

-- ---- from there on

-- a session that used nothing of the job, with its verdicts
record IsUnused (w : Whole) (b : List ℕ) (js : List Verdict) : Type 0 where
  settled : Settled w.first b js (Some w.pdu)
  taken : List ℕ
  left : List Verdict
  used_is : w.used ≡ b ++ taken
  verdicts_are : w.verdicts ≡ js ++ left
  sent_is : w.sent ≡ taken ++ w.unused
  owed_is : w.before ≡ owed w.first b js
  entered_is : w.entries ≡ entered w.first b js
  met_is : w.judged ≡ js

abbrev first_place : (w : Whole) (b : List ℕ) (js : List Verdict) → IsUnused w b js → BeginsAsking w.origin → Place
first_place w b js u begins = record {
  gone = [];
  rows = begins.asks.new;
  heard = [];
  more = w.heard;
  out = [];
  used = b;
  verdicts = js;
  taken = u.taken;
  left = u.left;
  unheard = [];
}

at_first : (w : Whole) (b : List ℕ) (js : List Verdict) (u : IsUnused w b js) (begins : BeginsAsking w.origin)
    → IsWhole w → IsAt w (first_place w b js u begins)
at_first w b js u begins i = record {
  awaiting = begins.awaiting;
  rows_are = begins.asks.rows;
  are_out = begins.asks.are_out;
  asked = begins.asks.asked;
  told = tt;
  settled = u.settled;
  next = first_holds w.origin i.grant i.granted (past w.first b js).link begins.asks.new begins.asks.rows
      begins.asks.are_out begins.asks.asked;
  heard_is = refl;
  out_is = begins.asks.out;
  sent_is = u.sent_is;
  used_is = u.used_is;
  verdicts_are = u.verdicts_are;
  owed_is = sym u.owed_is ∙ (sym (append-nil w.before) ∙ sym (append-nil (w.before ++ [])));
  entered_is = sym u.entered_is ∙ sym (append-nil w.entries);
  met_is = sym u.met_is ∙ sym (append-nil w.judged);
}

not_departure : (a : Awaits) (end : End) (carried : List ℕ) → a ≡ for_departure → a ≡ for_nothing end carried → ⊥
not_departure a end carried e h = cc

-- a job that leaves isn't over by what it heard
not_leaving : (w : Whole) → IsWhole w
    → (plan_of w.origin.job w.origin.config w.origin.granted).first ≡ disconnect_request → ⊥
not_leaving w i leaves =
    let awaits : (course w.origin []).awaits ≡ for_departure =
    ap (λ (c : Course). c.awaits) (first_course w.origin disconnect_request leaves) in
    let heard = none_of w.heard (λ some. subst AwaitsOctets awaits (i.over.all_awaited [] w.heard refl some)) in
    not_departure (course w.origin w.heard).awaits w.end w.carried
    (ap (λ x. (course w.origin x).awaits) heard ∙ awaits) i.over.over

done_by_first : (w : Whole) (b : List ℕ) (js : List Verdict) (u : IsUnused w b js) → w.origin.size ≡ 1024
    → w.origin.sequence < 65536 → (i : IsWhole w)
    → AsksOrLeaves (plan_of w.origin.job w.origin.config w.origin.granted).first → IsDone w
done_by_first w b js u size low i (inl asks) =
    let begins = begins_asking w.origin i.grant i.granted size low asks in
    done w (first_place w b js u begins) i (at_first w b js u begins i)
done_by_first w b js u size low i (inr leaves) = absurd (not_leaving w i leaves)

job_done : (w : Whole) (b : List ℕ) (js : List Verdict) → IsUnused w b js → IsWhole w → w.origin.size ≡ 1024
    → w.origin.sequence < 65536 → IsDone w
job_done w b js u i size low =
    done_by_first w b js u size low i
    (subst (λ g. AsksOrLeaves (plan_of w.origin.job w.origin.config g).first) (sym i.granted)
    (connected_first w.origin.job i.grant))

-- ---- in the words of a job that is over

abbrev pub whole_of : (first : LinkState) (origin : Origin) (pdu : ℕ) (heard sent : List ℕ) (end : End)
    (carried b used : List ℕ) (js verdicts : List Verdict) (behind : List ℕ)
    → IsJobOver first origin pdu heard sent end carried b used js verdicts behind → Whole
whole_of first origin pdu heard sent end carried b used js verdicts behind o = record {
  first = first;
  origin = origin;
  pdu = pdu;
  heard = heard;
  sent = sent;
  end = end;
  carried = carried;
  used = b ++ used;
  verdicts = js ++ verdicts;
  unused = o.unused;
  judged = js;
  before = owed first b js;
  entries = entered first b js;
  behind = behind;
}

-- A job that is over went by exchanges, and left both ends between two messages.
pub over_is_done : (first : LinkState) (origin : Origin) (pdu : ℕ) (heard sent : List ℕ) (end : End)
    (carried b used : List ℕ) (js verdicts : List Verdict) (behind : List ℕ)
    → (o : IsJobOver first origin pdu heard sent end carried b used js verdicts behind)
    → IsDone (whole_of first origin pdu heard sent end carried b used js verdicts behind o)
over_is_done first origin pdu heard sent end carried b used js verdicts behind o =
    job_done (whole_of first origin pdu heard sent end carried b used js verdicts behind o) b js
    (record {
      settled = o.settled;
      taken = used;
      left = verdicts;
      used_is = refl;
      verdicts_are = refl;
      sent_is = o.taken;
      owed_is = refl;
      entered_is = refl;
      met_is = refl;
    })
    (record {
      grant = o.grant;
      granted = o.granted;
      pdu_is = o.pdu_is;
      least = o.least;
      most = o.most;
      over = o.over;
      met = o.met;
      replies = o.replies;
      owed_is = o.owed_is;
    }) o.size o.sequence
