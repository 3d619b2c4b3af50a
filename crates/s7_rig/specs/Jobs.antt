-- The results of jobs whose client is served by a session.
use Rattle.std.specs.Prelude.{◌≡◌, ℕ, Bool, true, List, ◌++◌, map, Option}
use Rattle.s7_area.specs.Memory.{Memory}
use Rattle.s7_area.specs.declared.guard.Guard.{Guard}
use Rattle.s7_dialogue.specs.Codes.{no_fault}
use Rattle.s7_dialogue.specs.Course.{Origin}
use Rattle.s7_dialogue.specs.Dialogue.{End}
use Rattle.s7_plant.specs.State.{begins_with}
use Rattle.s7_session.specs.Books.{History, own}
use Rattle.s7_session.specs.Entry.{Entry, answered}
use Rattle.s7_session.specs.LinkState.{LinkState}
use Rattle.s7_session.specs.Owed.{entered}
use Rattle.s7_session.specs.Telegrams.{AnyFull, clock_failures}
use Rattle.s7_session.specs.Verdict.{Verdict}
use Rattle.s7_rig.specs.Complete.{AreWithRight, CanComeOff}
use Rattle.s7_rig.specs.Dialogues.{IsJobOver, IsJobSettled, IsConnectOver, IsConnectSettled}
use Rattle.s7_rig.specs.Scripts.{IsNoConnect}
use Rattle.s7_rig.specs.Split.{ReadStands}

-- JOBS ARE SETTLED that end by octets which are a prefix of the expected output of a session for what their client
-- sent. If such a job is a read with code 0, it read what its entries read, in their order; these entries are at rising
-- numbers of a history. If it is a first connect, it succeeds.
pub record JobsAreSettled : Type 0 where
  pub settled : (first : LinkState) (origin : Origin) (pdu : ℕ) (heard sent : List ℕ) (end : End)
      (carried b used : List ℕ) (js verdicts : List Verdict) (behind : List ℕ)
      → IsJobOver first origin pdu heard sent end carried b used js verdicts behind
      → IsJobSettled first origin pdu heard sent end b used js verdicts behind
  -- Suppose that the session is a link's on a book that began with this memory. Then what a read with code 0 gave is
  -- what the areas held at the numbers of its entries, which rise. These entries are the link's own calls in the
  -- history, after the earlier ones.
  pub stands : (opening : Memory) (history : History) (link : ℕ) (earlier mine : List Entry)
      (first : LinkState) (origin : Origin) (pdu : ℕ) (heard sent : List ℕ) (end : End) (carried b used : List ℕ)
      (js verdicts : List Verdict) (behind : List ℕ)
      → IsJobOver first origin pdu heard sent end carried b used js verdicts behind
      → own (begins_with opening) link history ≡ earlier ++ mine
      → entered first (b ++ used) (js ++ verdicts) ≡ entered first b js ++ map answered mine
      → end.code ≡ no_fault
      → ReadStands (begins_with opening) history link pdu origin.job (map (λ (e : Entry). e.number) mine) end.octets
      end.codes
  pub connected : (guard : Option Guard) (origin : Origin) (heard sent : List ℕ) (end : End) (carried used : List ℕ)
      (verdicts : List Verdict) (behind : List ℕ)
      → IsConnectOver guard origin heard sent end carried used verdicts behind
      → IsConnectSettled guard origin heard sent end used verdicts behind

-- JOBS SUCCEED IF THEY CAN. Octets ended a job that is no connect, and the session is a link's on a book that began
-- with this memory. The job's entries are the link's own calls in the history, after the earlier ones. The history
-- wasn't full and the clock didn't fail for any telegram of the job. If the job needs a right, all its entries have it.
-- Then the job has code 0 if it can succeed.
pub record JobsComeOff : Type 0 where
  pub comes_off : (opening : Memory) (history : History) (link : ℕ) (right : Bool) (earlier mine : List Entry)
      (first : LinkState) (origin : Origin) (pdu : ℕ) (heard sent : List ℕ) (end : End) (carried b used : List ℕ)
      (js verdicts : List Verdict) (behind : List ℕ)
      → IsJobOver first origin pdu heard sent end carried b used js verdicts behind → IsNoConnect origin.job
      → own (begins_with opening) link history ≡ earlier ++ mine
      → entered first (b ++ used) (js ++ verdicts) ≡ entered first b js ++ map answered mine
      → (AnyFull verdicts → ⊥) → clock_failures verdicts ≡ 0
      → (right ≡ true → AreWithRight history (map (λ (e : Entry). e.number) mine))
      → CanComeOff opening right pdu origin.job → end.code ≡ no_fault
