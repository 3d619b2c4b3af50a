-- Steps one after another.
use Rattle.std.proofs.Common.{◌≡◌, ℕ, List, ◌++◌, ◌∙◌, subst, append_assoc}
use Rattle.s7_outer.specs.Shown.{Shown}
use Rattle.s7_dialogue.specs.declared.config.Config.{Config}
use Rattle.s7_partner.specs.declared.role.Role.{Role}
use Rattle.s7_partner.specs.declared.partner.Partner.{Partner}
use Rattle.s7_partner.specs.declared.step.Step.{Step}
use Rattle.s7_partner.specs.declared.step.Step.TheVariants as step
use Rattle.s7_partner.specs.States.{State, Act, after}
use Rattle.s7_partner.specs.Partners.{Course}
use Rattle.s7_partner.specs.Order.{IsOrderly}
use Rattle.s7_partner.specs.Held.{unread_of, StandsFor}
use Rattle.s7_partner.specs.Steps.{TellsStep, IsClosing, HasRun, Runs}
use Rattle.s7_partner.proofs.ActLemmas.{after-append}
use Rattle.s7_partner.proofs.DeedLemmas.{orderly_both}
use Rattle.s7_partner.proofs.MoveLemmas.{moves_both}
use Rattle.s7_partner.proofs.MeetLemmas.{step_counts}
use Rattle.s7_partner.proofs.TellLemmas.{step_behind}

pub subst_three : (P : List Act → List ℕ → List ℕ → Type 0) (acts acts' : List Act) (b b' w w' : List ℕ) → acts' ≡ acts
    → b' ≡ b → w' ≡ w → P acts' b' w' → P acts b w
subst_three P acts acts' b b' w w' ea eb ew h =
    subst (λ (x : List Act). P x b w) ea (subst (λ (x : List ℕ). P acts' x w) eb (subst (P acts' b') ew h))

-- a run by lists that are equal to those of its acts and octets
pub run_at : (role : Role) (config : Config) (kept : List ℕ) (new : Partner) (link link' : Shown) (acts : List Act)
    (b written received used more : List ℕ) (result : Step) (further acts' : List Act) (b' w' : List ℕ)
    → acts' ≡ acts ++ further → b' ≡ b ++ used → w' ≡ written ++ more
    → IsOrderly role config kept acts further b written received used more
    → Course role config acts' b' w'
    → TellsStep role config (after role config acts) further link link' (unread_of new) b' w' result
    → ((IsClosing result → ⊥) → StandsFor new acts' b' w')
    → HasRun role config kept new link link' acts b written received used more result
run_at role config kept new link link' acts b written received used more result further acts' b' w' ea eb ew orderly
    course tells stands =
    let all = acts ++ further in
    record {
      further = further;
      orderly = orderly;
      course = subst_three (Course role config) all acts' (b ++ used) b' (written ++ more) w' ea eb ew course;
      tells = subst_three
          (λ x y z. TellsStep role config (after role config acts) further link link' (unread_of new) y z result)
          all acts' (b ++ used) b' (written ++ more) w' ea eb ew tells;
      stands = λ h. subst_three (StandsFor new) all acts' (b ++ used) b' (written ++ more) w' ea eb ew (stands h);
    }

-- ---- one run behind another

pub runs_both : (a b c : Partner) (k k1 k2 : Shown) (result : Step) → Runs a k b k1 step.Went → Runs b k1 c k2 result
    → Runs a k c k2 result
unfolding moves_both
runs_both a b c k k1 k2 result m n = record {
  role = n.role ∙ m.role;
  config = n.config ∙ m.config;
  moves = moves_both (unread_of a) (unread_of b) (unread_of c) k k1 k2 m.moves n.moves;
  counts = step_counts result k k1 k2 m.counts n.counts;
  closed = n.closed;
  run = λ acts bb w stands.
      let x = m.run acts bb w stands in
      let y = subst (λ (r : Role). HasRun r a.config (unread_of b) c k1 k2 (acts ++ x.further) (bb ++ m.moves.used)
      (w ++ m.moves.written) n.moves.received n.moves.used n.moves.written result) m.role
      (subst (λ (r : Config). HasRun b.role r (unread_of b) c k1 k2 (acts ++ x.further) (bb ++ m.moves.used)
      (w ++ m.moves.written) n.moves.received n.moves.used n.moves.written result) m.config
      (n.run (acts ++ x.further) (bb ++ m.moves.used) (w ++ m.moves.written) (x.stands (λ h. h)))) in
      run_at a.role a.config (unread_of a) c k k2 acts bb w (m.moves.received ++ n.moves.received)
      (m.moves.used ++ n.moves.used) (m.moves.written ++ n.moves.written) result (x.further ++ y.further)
      ((acts ++ x.further) ++ y.further) ((bb ++ m.moves.used) ++ n.moves.used)
      ((w ++ m.moves.written) ++ n.moves.written)
      (append_assoc acts x.further y.further) (append_assoc bb m.moves.used n.moves.used)
      (append_assoc w m.moves.written n.moves.written)
      (orderly_both a.role a.config (unread_of a) (unread_of b) acts x.further y.further bb w m.moves.received
      m.moves.used m.moves.written n.moves.received n.moves.used n.moves.written m.moves.inbox x.orderly y.orderly)
      y.course
      (step_behind a.role a.config (after a.role a.config acts) x.further y.further k k1 k2 (unread_of c)
      ((bb ++ m.moves.used) ++ n.moves.used) ((w ++ m.moves.written) ++ n.moves.written) result x.tells
      m.moves.faults m.moves.waits
      (subst (λ (s : State). TellsStep a.role a.config s y.further k1 k2 (unread_of c)
      ((bb ++ m.moves.used) ++ n.moves.used) ((w ++ m.moves.written) ++ n.moves.written) result)
      (after-append a.role a.config acts x.further) y.tells))
      y.stands;
}
