-- Turns of a schedule that were made, and those that are left.
use Rattle.std.proofs.Common.{◌≡◌, ℕ, ◌+◌, ◌-◌, ◌*◌, ◌<◌, ◌||◌, inl, inr, suc, length, take, drop, get_or, Bool, false, List, [], ◌∷◌, ◌++◌, refl, ap, sym, ◌∙◌, subst, arith, append_assoc, append-nil}
use Rattle.std.proofs.Math.Seq.{drop-cons}
use Rattle.std.proofs.lemmas.List.{take-append-drop}
use Rattle.s7_schedule.specs.Drawing.{seeded}
use Rattle.s7_rig.specs.Numbers.{count_from}
use Rattle.s7_rig.specs.Runs.{Turns, most_rounds}
use Rattle.s7_rig.specs.State.{State}
use Rattle.s7_rig.specs.Stopped.{RoundsStop, RunStops, TurnsLead, TurnsStop}
use Rattle.s7_rig.specs.Turns.{IsTurnOf}
use Rattle.s7_rig.proofs.NumbersLemmas.{count_from-append}
use Rattle.s7_rig.proofs.TurnsLemmas.{Turns-append, Turns-none, Turns-push}

-- ---- turn by turn

pub leads_none : (schedule : List ℕ) (s : State) → TurnsLead schedule schedule s s
leads_none schedule s = record { made = []; front = refl; stirred = false; turned = Turns-none s }

pub leads_turn : (schedule left : List ℕ) (actor : ℕ) (old middle new : State) (stirs : Bool)
    → TurnsLead schedule (actor ∷ left) old middle → IsTurnOf actor middle new stirs → TurnsLead schedule left old new
leads_turn schedule left actor old middle new stirs h t = record {
  made = h.made ++ actor ∷ [];
  front = h.front ∙ sym (append_assoc h.made (actor ∷ []) left);
  stirred = h.stirred || stirs;
  turned = Turns-push h.made actor old middle new h.stirred stirs h.turned t;
}

-- none is left
pub leads_all : (schedule left : List ℕ) (old new : State) → left ≡ [] → TurnsLead schedule left old new
    → (stirs : Bool) × Turns schedule old new stirs
leads_all schedule left old new none h =
    let all : h.made ≡ schedule = sym (h.front ∙ ap (λ ys. h.made ++ ys) none ∙ append-nil h.made) in
    (h.stirred, subst (λ xs. Turns xs old new h.stirred) all h.turned)

-- ---- where they stopped

-- at a place of their list
pub stops_at : (xs : List ℕ) (i : ℕ) (old last : State) (stirs : Bool) → i < length xs
    → Turns (take i xs) old last stirs → TurnsStop xs old last
stops_at xs i old last stirs below t = (
  get_or xs i 0,
  drop (suc i) xs,
  record {
    made = take i xs;
    front = sym (take-append-drop i xs) ∙ ap (λ ys. take i xs ++ ys) (drop-cons xs i 0 below);
    stirred = stirs;
    turned = t;
  },
)

-- at an actor of all
pub stops_count : (i n : ℕ) (old last : State) (stirs : Bool) → i < n → Turns (count_from 0 i) old last stirs
    → TurnsStop (count_from 0 n) old last
unfolding count_from
stops_count i n old last stirs below t =
    let all : n ≡ i + suc (n - (i + 1)) = omega arith in (
      0 + i,
      count_from (0 + i + 1) (n - (i + 1)),
      record {
        made = count_from 0 i;
        front = ap (count_from 0) all ∙ count_from-append 0 i (suc (n - (i + 1)));
        stirred = stirs;
        turned = t;
      },
    )

-- before other turns
stops_before : (xs ys : List ℕ) (old last : State) → TurnsStop xs old last → TurnsStop (xs ++ ys) old last
stops_before xs ys old last (actor, left, h) = (
  actor,
  left ++ ys,
  record {
    made = h.made;
    front = ap (λ zs. zs ++ ys) h.front ∙ append_assoc h.made (actor ∷ left) ys;
    stirred = h.stirred;
    turned = h.turned;
  },
)

-- behind other turns
stops_behind : (xs ys : List ℕ) (old middle last : State) (stirs : Bool) → Turns xs old middle stirs
    → TurnsStop ys middle last → TurnsStop (xs ++ ys) old last
stops_behind xs ys old middle last stirs t (actor, left, h) = (
  actor,
  left,
  record {
    made = xs ++ h.made;
    front = ap (λ zs. xs ++ zs) h.front ∙ sym (append_assoc xs h.made (actor ∷ left));
    stirred = stirs || h.stirred;
    turned = Turns-append xs h.made old middle last stirs h.stirred t h.turned;
  },
)

-- ---- a run

module _ (turns : List ℕ) (seed steps : ℕ) (old : State) where
  pub stated_stop : (last : State) → TurnsStop turns old last → RunStops turns seed steps old last
  stated_stop last h = inl (stops_before turns (seeded seed steps (2 * length old.posts)) old last h)

  pub drawn_stop : (n : ℕ) (middle last : State) (stirs : Bool) → n ≡ length old.posts → Turns turns old middle stirs
      → TurnsStop (seeded seed steps (2 * n)) middle last → RunStops turns seed steps old last
  drawn_stop n middle last stirs count t h =
      inl (stops_behind turns (seeded seed steps (2 * length old.posts)) old middle last stirs t
      (subst (λ k. TurnsStop (seeded seed steps (2 * k)) middle last) count h))

  pub rounds_stop : (n : ℕ) (middle behind last : State) (stirs later : Bool) → n ≡ length old.posts
      → Turns turns old middle stirs → Turns (seeded seed steps (2 * n)) middle behind later
      → RoundsStop most_rounds behind last → RunStops turns seed steps old last
  rounds_stop n middle behind last stirs later count t drawn h =
      let seeds = seeded seed steps (2 * length old.posts) in
      let all = subst (λ k. Turns (seeded seed steps (2 * k)) middle behind later) count drawn in
      inr (behind, stirs || later, Turns-append turns seeds old middle behind stirs later t all, h)
