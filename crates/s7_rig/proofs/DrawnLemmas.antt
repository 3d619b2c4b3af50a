-- Turns that are drawn, and those that are left to draw.
use Rattle.std.proofs.Common.{◌≡◌, ℕ, ◌+◌, ◌-◌, ◌<◌, suc, Bool, List, [], ◌∷◌, refl, ap, sym, ◌∙◌, subst, arith}
use Rattle.s7_schedule.specs.Drawing.{drawn, next_x, actor_by}
use Rattle.s7_rig.specs.State.{State}
use Rattle.s7_rig.specs.Stopped.{TurnsLead, TurnsStop}
use Rattle.s7_rig.specs.Turns.{IsTurnOf}
use Rattle.s7_rig.proofs.StoppedLemmas.{leads_none, leads_turn}

-- no turn is left to draw
pub drawn-none : (x left actors : ℕ) → left ≡ 0 → drawn x left actors ≡ []
unfolding drawn
drawn-none x left actors e = rw e refl

drawn-next : (x next steps made actors actor : ℕ) → made < steps → next ≡ next_x x → actor ≡ actor_by next actors
    → drawn x (steps - made) actors ≡ actor ∷ drawn next (steps - (made + 1)) actors
unfolding drawn
drawn-next x next steps made actors actor h is_next is =
    let e : steps - made ≡ suc (steps - (made + 1)) = omega arith in
    rw e (ap (λ y. actor_by y actors ∷ drawn y (steps - (made + 1)) actors) (sym is_next)
    ∙ ap (λ a. a ∷ drawn next (steps - (made + 1)) actors) (sym is))

-- before a turn is drawn
pub drawn-begin : (x y steps actors : ℕ) (s : State) → x ≡ y
    → TurnsLead (drawn y steps actors) (drawn x (steps - 0) actors) s s
drawn-begin x y steps actors s e =
    let k : steps ≡ steps - 0 = omega arith in
    subst (λ n. TurnsLead (drawn y steps actors) (drawn x n actors) s s) k
    (subst (λ z. TurnsLead (drawn y steps actors) (drawn z steps actors) s s) (sym e)
    (leads_none (drawn y steps actors) s))

-- this one was drawn and made
pub drawn-turn : (schedule : List ℕ) (x next steps made actors actor : ℕ) (old middle new : State) (stirs : Bool)
    → made < steps → next ≡ next_x x → actor ≡ actor_by next actors
    → TurnsLead schedule (drawn x (steps - made) actors) old middle → IsTurnOf actor middle new stirs
    → TurnsLead schedule (drawn next (steps - (made + 1)) actors) old new
drawn-turn schedule x next steps made actors actor old middle new stirs h is_next is led t =
    leads_turn schedule (drawn next (steps - (made + 1)) actors) actor old middle new stirs
    (subst (λ left. TurnsLead schedule left old middle) (drawn-next x next steps made actors actor h is_next is) led) t

-- the next that would be drawn isn't
pub drawn-stop : (schedule : List ℕ) (x steps made actors : ℕ) (old last : State) → made < steps
    → TurnsLead schedule (drawn x (steps - made) actors) old last → TurnsStop schedule old last
drawn-stop schedule x steps made actors old last h led = (
  actor_by (next_x x) actors,
  drawn (next_x x) (steps - (made + 1)) actors,
  subst (λ left. TurnsLead schedule left old last)
      (drawn-next x (next_x x) steps made actors (actor_by (next_x x) actors) h refl refl) led,
)
