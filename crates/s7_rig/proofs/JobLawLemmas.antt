-- What a read told stood at its places, and a job that can come off does, by what both ends of its link have of it.
use Rattle.std.proofs.Common.{◌≡◌, ℕ, ◌≤◌, inl, inr, Bool, true, List, ◌++◌, map, ap, sym, ◌∙◌, subst, arith}
use Rattle.std.proofs.lemmas.List.{append_cancel_left}
use Rattle.s7_area.specs.Memory.{Memory}
use Rattle.s7_dialogue.specs.Codes.{no_fault}
use Rattle.s7_dialogue.specs.Course.{Origin}
use Rattle.s7_dialogue.specs.Dialogue.{End, plan_of}
use Rattle.s7_plant.specs.State.{begins_with}
use Rattle.s7_session.specs.Books.{History, own}
use Rattle.s7_session.specs.Entry.{Entry, answered}
use Rattle.s7_session.specs.LinkState.{LinkState}
use Rattle.s7_session.specs.Owed.{entered}
use Rattle.s7_session.specs.Telegrams.{AnyFull, clock_failures}
use Rattle.s7_session.specs.Verdict.{Verdict}
use Rattle.s7_rig.specs.Complete.{AreWithRight, CanComeOff}
use Rattle.s7_rig.specs.Dialogues.{ReadsAs, IsJobOver}
use Rattle.s7_rig.specs.Scripts.{IsNoConnect}
use Rattle.s7_rig.specs.Split.{ReadStands}
use Rattle.s7_rig.proofs.Conversing.{entries_of, Converses}
use Rattle.s7_rig.proofs.ComeOffLemmas.{comes_off}
use Rattle.s7_rig.proofs.OverLemmas.{job_is_settled, job_went}
use Rattle.s7_rig.proofs.PlaceLemmas.{read_stands}
use Rattle.s7_rig.proofs.RightLemmas.{own_allowed}
use Rattle.s7_rig.proofs.ShapeLemmas.{AreAllowed}
use Rattle.s7_rig.proofs.UnrefusedLemmas.{AnyUndone}

-- what a read with code 0 told stood at the numbers of its entries, the link's own calls in the history
pub job_stands : (opening : Memory) (history : History) (link : ℕ) (earlier mine : List Entry)
    (first : LinkState) (origin : Origin) (pdu : ℕ) (heard sent : List ℕ) (end : End) (carried b used : List ℕ)
    (js verdicts : List Verdict) (behind : List ℕ)
    → IsJobOver first origin pdu heard sent end carried b used js verdicts behind
    → own (begins_with opening) link history ≡ earlier ++ mine
    → entered first (b ++ used) (js ++ verdicts) ≡ entered first b js ++ map answered mine
    → end.code ≡ no_fault
    → ReadStands (begins_with opening) history link pdu origin.job (map (λ (e : Entry). e.number) mine) end.octets
    end.codes
job_stands opening history link earlier mine first origin pdu heard sent end carried b used js verdicts behind over
    split entered_is good =
    let settled = job_is_settled first origin pdu heard sent end carried b used js verdicts behind over in
    let read = settled.read good in
    let mine_are : map answered mine ≡ read.0 =
    append_cancel_left (entered first b js) (map answered mine) read.0
    (sym entered_is ∙ (ap (λ x. entered first (b ++ x) (js ++ verdicts)) settled.all_used ∙ read.1)) in
    read_stands (begins_with opening) history link pdu origin.job earlier mine end.octets end.codes split
    (subst (λ es. ReadsAs origin.job pdu es end.octets end.codes) (sym mine_are) read.2)

all_done : (verdicts : List Verdict) → (AnyFull verdicts → ⊥) → clock_failures verdicts ≡ 0 → AnyUndone verdicts → ⊥
all_done verdicts none clock (inl any) = none any
all_done verdicts none clock (inr failed) = absurd (omega (arith, failed, clock))

pub job_comes_off : (opening : Memory) (history : History) (link : ℕ) (right : Bool) (earlier mine : List Entry)
    (first : LinkState) (origin : Origin) (pdu : ℕ) (heard sent : List ℕ) (end : End) (carried b used : List ℕ)
    (js verdicts : List Verdict) (behind : List ℕ)
    → IsJobOver first origin pdu heard sent end carried b used js verdicts behind → IsNoConnect origin.job
    → own (begins_with opening) link history ≡ earlier ++ mine
    → entered first (b ++ used) (js ++ verdicts) ≡ entered first b js ++ map answered mine
    → (AnyFull verdicts → ⊥) → clock_failures verdicts ≡ 0
    → (right ≡ true → AreWithRight history (map (λ (e : Entry). e.number) mine))
    → CanComeOff opening right pdu origin.job → end.code ≡ no_fault
job_comes_off opening history link right earlier mine first origin pdu heard sent end carried b used js verdicts behind
    over job split entered_is none clock has can =
    let settled = job_is_settled first origin pdu heard sent end carried b used js verdicts behind over in
    let went = job_went first origin pdu heard sent end carried b used js verdicts behind over in
    let mine_are : map answered mine ≡ entries_of went.exchanges =
    append_cancel_left (entered first b js) (map answered mine) (entries_of went.exchanges)
    (sym entered_is ∙ (ap (λ x. entered first (b ++ x) (js ++ verdicts)) settled.all_used ∙ went.entered_is)) in
    comes_off opening right pdu origin.job over.grant end went.exchanges job
    (subst (λ n. 64 ≤ n) (sym over.pdu_is) over.least) over.least (
      subst (AreAllowed opening right) mine_are
          (own_allowed (begins_with opening) link history right earlier mine split has),
      λ any. all_done verdicts none clock (subst AnyUndone went.verdicts_are any),
    )
    (subst (λ g. Converses pdu (plan_of origin.job origin.config g).conduct end went.exchanges) over.granted
    went.converses)
    (subst (λ n. CanComeOff opening right n origin.job) (sym over.pdu_is) can)
