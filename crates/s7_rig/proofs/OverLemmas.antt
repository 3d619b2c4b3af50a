-- The law of a whole job over one link.
use Rattle.std.proofs.Common.{◌≡◌, ℕ, List, ◌++◌, ap, sym, ◌∙◌, subst, append-nil}
use Rattle.std.specs.Prelude.{Some}
use Rattle.std.proofs.lemmas.List.{append_cancel_left}
use Rattle.s7_dialogue.specs.Dialogue.{End}
use Rattle.s7_dialogue.specs.Course.{Origin}
use Rattle.s7_session.specs.LinkState.{LinkState}
use Rattle.s7_session.specs.Verdict.{Verdict}
use Rattle.s7_session.specs.Owed.{owed, entered}
use Rattle.s7_rig.specs.Settled.{Settled}
use Rattle.s7_rig.specs.Dialogues.{AreReplies, ReadsAs, IsJobOver, IsJobSettled}
use Rattle.s7_rig.proofs.Conversing.{entries_of, verdicts_met, WentBy}
use Rattle.s7_rig.proofs.SettledLemmas.{over_is_done}
use Rattle.s7_rig.proofs.JobReads.{job_read}
use Rattle.s7_rig.proofs.PartLemmas.{replies_behind}

-- A job that is over left both ends between two messages, and a read that came off is what its entries read.
pub job_is_settled : (first : LinkState) (origin : Origin) (pdu : ℕ) (heard sent : List ℕ) (end : End) (carried b used : List ℕ) (js verdicts : List Verdict) (behind : List ℕ)
    → IsJobOver first origin pdu heard sent end carried b used js verdicts behind
    → IsJobSettled first origin pdu heard sent end b used js verdicts behind
job_is_settled first origin pdu heard sent end carried b used js verdicts behind o =
    let d = over_is_done first origin pdu heard sent end carried b used js verdicts behind o in
    let all : sent ≡ used = o.taken ∙ (ap (λ x. used ++ x) d.none_unused ∙ append-nil used) in
    record {
      all_used = sym all;
      nothing_behind = d.nothing_behind;
      settled = subst (λ x. Settled first (b ++ x) (js ++ verdicts) (Some pdu)) (sym all) d.settled;
      owed_is =
          ap (λ x. owed first (b ++ x) (js ++ verdicts)) all
          ∙ (o.owed_is ∙ (ap (λ x. (owed first b js ++ heard) ++ x) d.nothing_behind ∙ append-nil (owed first b js ++ heard)));
      size = d.size;
      sequence = d.sequence;
      read = λ good. (
        entries_of d.exchanges,
        ap (λ x. entered first (b ++ x) (js ++ verdicts)) all ∙ d.entered_is,
        subst (λ n. ReadsAs origin.job n (entries_of d.exchanges) end.octets end.codes) o.pdu_is
            (job_read origin o.grant end d.exchanges o.least o.granted good d.converses
            (replies_behind (entered first b js) (entries_of d.exchanges) (subst AreReplies d.entered_is o.replies))),
      );
    }

-- It went by exchanges.
pub job_went : (first : LinkState) (origin : Origin) (pdu : ℕ) (heard sent : List ℕ) (end : End) (carried b used : List ℕ) (js verdicts : List Verdict) (behind : List ℕ)
    → IsJobOver first origin pdu heard sent end carried b used js verdicts behind
    → WentBy first origin pdu end b sent js verdicts
job_went first origin pdu heard sent end carried b used js verdicts behind o =
    let d = over_is_done first origin pdu heard sent end carried b used js verdicts behind o in
    let all : sent ≡ used = o.taken ∙ (ap (λ x. used ++ x) d.none_unused ∙ append-nil used) in
    record {
      exchanges = d.exchanges;
      entered_is = ap (λ x. entered first (b ++ x) (js ++ verdicts)) all ∙ d.entered_is;
      verdicts_are = sym (append_cancel_left js verdicts (verdicts_met d.exchanges) d.met_is);
      converses = d.converses;
    }
