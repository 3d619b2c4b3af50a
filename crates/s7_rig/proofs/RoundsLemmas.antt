-- Rounds, one more in front.
use Rattle.std.proofs.Common.{◌≡◌, ℕ, ◌+◌, ◌-◌, ◌<◌, ◌≤◌, suc, true, false, refl, inl, inr, arith}
use Rattle.s7_rig.specs.State.{State, are_finished}
use Rattle.s7_rig.specs.Runs.{Turns, actors_of, Rounds}
use Rattle.s7_rig.specs.Stopped.{RoundsStop, TurnsStop}

-- ---- whatever comes of so many rounds

-- whatever so many rounds more come to, they come to it from here
abbrev pub CountsOn : (ℕ → State → State → Type 0) → ℕ → State → State → Type 0
CountsOn come made old now = (more : ℕ) (new : State) → come more now new → come (made + more) old new

pub CountsOn-begin : (come : ℕ → State → State → Type 0) (s : State) → CountsOn come 0 s s
CountsOn-begin come s more new h =
    let e : 0 + more ≡ more = omega arith in
    rw e h

-- one more round was made
pub CountsOn-more : (come : ℕ → State → State → Type 0) (made : ℕ) (old now next : State)
    → ((more : ℕ) (new : State) → come more next new → come (suc more) now new) → CountsOn come made old now
    → CountsOn come (made + 1) old next
CountsOn-more come made old now next round on more new r =
    let e : made + 1 + more ≡ made + suc more = omega arith in
    rw e (on (suc more) new (round more new r))

-- where rounds are left
pub CountsOn-ends : (come : ℕ → State → State → Type 0) (made most : ℕ) (old now new : State) → made < most
    → CountsOn come made old now → ((more : ℕ) → come (suc more) now new) → come most old new
CountsOn-ends come made most old now new below on h =
    let e : most ≡ made + suc (most - (made + 1)) = omega arith in
    rw e (on (suc (most - (made + 1))) new (h (most - (made + 1))))

-- ---- rounds

pub Rounds-none : (s : State) → Rounds 0 s s
unfolding Rounds
Rounds-none s = refl

pub Rounds-finished : (more : ℕ) (s : State) → are_finished s ≡ true → Rounds (suc more) s s
unfolding Rounds
Rounds-finished more s h = inl (h, refl)

pub Rounds-still : (more : ℕ) (s new : State) → are_finished s ≡ false → Turns (actors_of s) s new false → Rounds (suc more) s new
unfolding Rounds
Rounds-still more s new h t = inr (h, new, false, t, inl (refl, refl))

pub Rounds-more : (more : ℕ) (s middle new : State) → are_finished s ≡ false → Turns (actors_of s) s middle true → Rounds more middle new → Rounds (suc more) s new
unfolding Rounds
Rounds-more more s middle new h t r = inr (h, middle, true, t, inr (refl, r))

-- where none is left
pub Rounds-all : (made most : ℕ) (old now : State) → made ≤ most → most ≤ made → CountsOn Rounds made old now → Rounds most old now
Rounds-all made most old now below above on =
    let e : most ≡ made + 0 = omega arith in
    rw e (on 0 now (Rounds-none now))

-- ---- rounds that stopped

pub RoundsStop-here : (more : ℕ) (s last : State) → are_finished s ≡ false → TurnsStop (actors_of s) s last
    → RoundsStop (suc more) s last
unfolding RoundsStop
RoundsStop-here more s last h t = (h, inl t)

pub RoundsStop-more : (more : ℕ) (s middle last : State) → are_finished s ≡ false → Turns (actors_of s) s middle true
    → RoundsStop more middle last → RoundsStop (suc more) s last
unfolding RoundsStop
RoundsStop-more more s middle last h t r = (h, inr (middle, t, r))
