-- What is told of acts behind others of which nothing is told.
use Rattle.std.proofs.Common.{◌≡◌, ℕ, ◌≤◌, true, false, Some, List, [], ◌∷◌, ◌++◌, ap, sym, ◌∙◌, subst, append_assoc}
use Rattle.std.specs.Prelude.{Result, Ok, Err, is_none}
use Rattle.s7_outer.specs.Shown.{Shown}
use Rattle.s7_outer.specs.declared.memory.Memory.{Memory}
use Rattle.s7_dialogue.specs.declared.config.Config.{Config}
use Rattle.s7_partner.specs.declared.role.Role.{Role}
use Rattle.s7_partner.specs.declared.event.PartnerEvent.{PartnerEvent}
use Rattle.s7_partner.specs.declared.event.PartnerEvent.TheVariants as told
use Rattle.s7_partner.specs.declared.step.Step.{Step}
use Rattle.s7_partner.specs.declared.step.Step.TheVariants as step
use Rattle.s7_partner.specs.States.{State, Act, reads, hands, with_acts}
use Rattle.s7_partner.specs.Acts.{AreQuiet, EndsSend}
use Rattle.s7_partner.specs.Partners.{IsSettled, Closes, by_message, by_ending, by_end, by_receive, by_transmit}
use Rattle.s7_partner.specs.Partners.{HasMetNotYet, is_waiting, Tells}
use Rattle.s7_partner.specs.Steps.{TellsStep}
use Rattle.s7_partner.proofs.ActLemmas.{with_acts-append, AreQuiet-append}
use Rattle.s7_partner.proofs.MoveLemmas.{rose_before}

-- ---- from an earlier moment of the link

closes_before : (role : Role) (s : State) (k link link' : Shown) (kept b written : List ℕ) (code : ℕ)
    → k.faults ≤ link.faults → Closes role s link link' kept b written code → Closes role s k link' kept b written code
closes_before role s k link link' kept b written code le (by_message e) = by_message e
closes_before role s k link link' kept b written code le (by_ending ending e f live settled sent) =
    by_ending ending e f live settled sent
closes_before role s k link link' kept b written code le (by_end e f g h) = by_end e f g h
closes_before role s k link link' kept b written code le (by_receive e f g) =
    by_receive (rose_before k.faults link.faults link'.faults le e) f g
closes_before role s k link link' kept b written code le (by_transmit rest goes none out some rose g) =
    by_transmit rest goes none out some (rose_before k.faults link.faults link'.faults le rose) g

met_before : (s : State) (kept : List ℕ) (k link link' : Shown) (written : List ℕ) → k.waits ≤ link.waits
    → HasMetNotYet s kept link link' written → HasMetNotYet s kept k link' written
met_before s kept k link link' written le m = record {
  rose = rose_before k.waits link.waits link'.waits le m.rose;
  full = m.full;
  empty = m.empty;
  waiting = m.waiting;
}

-- ---- behind other acts

-- a fact of the state behind all of them
abbrev at_both : (role : Role) (config : Config) (s : State) (xs ys : List Act) (P : State → Type 0)
    → P (with_acts role config (with_acts role config s xs) ys) → P (with_acts role config s (xs ++ ys))
at_both role config s xs ys P = subst P (sym (with_acts-append role config s xs ys))

pub tells_behind : (role : Role) (config : Config) (s : State) (xs ys : List Act) (k link link' : Shown)
    (kept b written : List ℕ) (result : Result PartnerEvent Memory) → AreQuiet role config s xs
    → k.faults ≤ link.faults → k.waits ≤ link.waits
    → Tells role config (with_acts role config s xs) ys link link' kept b written result
    → Tells role config s (xs ++ ys) k link' kept b written result
tells_behind role config s xs ys k link link' kept b written (Ok told.Sent) quiet faults waits t =
    let front = t.0 in
    let event = t.1 in (
      xs ++ front,
      event,
      ap (λ (x : List Act). xs ++ x) t.2 ∙ sym (append_assoc xs front (reads event ∷ [])),
      AreQuiet-append role config s xs front quiet t.3,
      at_both role config s xs front (λ (x : State). EndsSend role config x (reads event)) t.4,
      at_both role config s xs ys IsSettled t.5,
    )
tells_behind role config s xs ys k link link' kept b written (Ok (told.Received rid body)) quiet faults waits t =
    let front = t.0 in (
      xs ++ front,
      t.1,
      ap (λ (x : List Act). xs ++ x) t.2 ∙ sym (append_assoc xs front (hands ∷ [])),
      AreQuiet-append role config s xs front quiet t.3,
      at_both role config s xs front (λ (x : State). x.whole ≡ Some t.1) t.4,
      t.5,
      t.6,
    )
tells_behind role config s xs ys k link link' kept b written (Ok told.Pending) quiet faults waits t = (
  AreQuiet-append role config s xs ys quiet t.0,
  at_both role config s xs ys IsSettled t.1,
  at_both role config s xs ys (λ (x : State). is_waiting x ≡ true) t.2,
  at_both role config s xs ys (λ (x : State). HasMetNotYet x kept k link' written)
      (met_before (with_acts role config (with_acts role config s xs) ys) kept k link link' written waits t.3),
)
tells_behind role config s xs ys k link link' kept b written (Ok told.Idle) quiet faults waits t = (
  AreQuiet-append role config s xs ys quiet t.0,
  at_both role config s xs ys IsSettled t.1,
  at_both role config s xs ys (λ (x : State). is_waiting x ≡ false) t.2,
  at_both role config s xs ys (λ (x : State). HasMetNotYet x kept k link' written)
      (met_before (with_acts role config (with_acts role config s xs) ys) kept k link link' written waits t.3),
)
tells_behind role config s xs ys k link link' kept b written (Ok (told.Closed code)) quiet faults waits t = (
  AreQuiet-append role config s xs ys quiet t.0,
  at_both role config s xs ys (λ (x : State). Closes role x k link' kept b written code)
      (closes_before role (with_acts role config (with_acts role config s xs) ys) k link link' kept b written code
      faults t.1),
)
tells_behind role config s xs ys k link link' kept b written (Err memory) quiet faults waits t = (
  AreQuiet-append role config s xs ys quiet t.0,
  at_both role config s xs ys (λ (x : State). is_none x.whole ≡ false) t.1,
)

pub step_behind : (role : Role) (config : Config) (s : State) (xs ys : List Act) (k link link' : Shown)
    (kept b written : List ℕ) (result : Step) → AreQuiet role config s xs
    → k.faults ≤ link.faults → k.waits ≤ link.waits
    → TellsStep role config (with_acts role config s xs) ys link link' kept b written result
    → TellsStep role config s (xs ++ ys) k link' kept b written result
step_behind role config s xs ys k link link' kept b written step.Went quiet faults waits t =
    AreQuiet-append role config s xs ys quiet t
step_behind role config s xs ys k link link' kept b written step.NotYet quiet faults waits t = (
  AreQuiet-append role config s xs ys quiet t.0,
  at_both role config s xs ys IsSettled t.1,
  at_both role config s xs ys (λ (x : State). HasMetNotYet x kept k link' written)
      (met_before (with_acts role config (with_acts role config s xs) ys) kept k link link' written waits t.2),
)
step_behind role config s xs ys k link link' kept b written step.Sent quiet faults waits t =
    tells_behind role config s xs ys k link link' kept b written (Ok told.Sent) quiet faults waits t
step_behind role config s xs ys k link link' kept b written (step.Closed code) quiet faults waits t =
    tells_behind role config s xs ys k link link' kept b written (Ok (told.Closed code)) quiet faults waits t
