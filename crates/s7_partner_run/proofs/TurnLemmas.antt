-- Turns and rounds, one more in front.
use Rattle.std.proofs.Common.{◌≡◌, ℕ, zero, suc, ◌+◌, ◌-◌, ◌<◌, ◌≤◌, true, false, List, [], ◌∷◌, ◌++◌, map, refl, ap, sym, ◌∙◌, append-nil}
use Rattle.std.proofs.Common.{subst, inl, inr, arith}
use Rattle.std.specs.Prelude.{Option, None, Result, Ok, Err, IfOk}
use Rattle.s7_memory.specs.PipesHeld.{PipesHeld}
use Rattle.s7_outer.specs.declared.memory.Memory.{Memory}
use Rattle.s7_schedule.specs.Drawing.{drawn, next_x, actor_by}
use Rattle.s7_partner.specs.declared.role.Role.{Role}
use Rattle.s7_partner.specs.declared.role.Role.TheVariants.{Active, Passive}
use Rattle.s7_partner_run.specs.declared.event.News.{News}
use Rattle.s7_partner_run.specs.declared.event.PairEvent.{PairEvent}
use Rattle.s7_partner_run.specs.Events.{events_of}
use Rattle.s7_partner_run.specs.Talking.{Post}
use Rattle.s7_partner_run.specs.Pairs.{State, TakesTurn, TurnsOver, TurnsOnce, Turns, role_by, is_over, Rounds, side_of, post_at}
use Rattle.s7_partner_run.specs.Pairs.{with_post}

-- ---- turns that are drawn

pub drawn-none : (x left : ℕ) (s : State) → left ≡ 0 → Turns (map role_by (drawn x left 2)) s s
unfolding Turns drawn
drawn-none x left s e = rw e refl

-- before a turn is drawn
pub drawn-all : (x y steps : ℕ) (old new : State) → x ≡ y → Turns (map role_by (drawn x (steps - 0) 2)) old new
    → Turns (map role_by (drawn y steps 2)) old new
drawn-all x y steps old new e h =
    let k : steps - 0 ≡ steps = omega arith in
    subst (λ n. Turns (map role_by (drawn y n 2)) old new) k
    (subst (λ z. Turns (map role_by (drawn z (steps - 0) 2)) old new) e h)

pub drawn-more : (x next steps made actor : ℕ) (role : Role) (old middle new : State) → made < steps → next ≡ next_x x
    → actor ≡ actor_by next 2 → role ≡ role_by actor → TurnsOnce role old middle
    → Turns (map role_by (drawn next (steps - (made + 1)) 2)) middle new
    → Turns (map role_by (drawn x (steps - made) 2)) old new
unfolding Turns drawn
drawn-more x next steps made actor role old middle new h is_next is plays t ts =
    let e : steps - made ≡ suc (steps - (made + 1)) = omega arith in
    rw e (
      middle,
      subst (λ r. TurnsOnce r old middle) (plays ∙ ap role_by (is ∙ ap (λ y. actor_by y 2) is_next)) t,
      subst (λ y. Turns (map role_by (drawn y (steps - (made + 1)) 2)) middle new) is_next ts,
    )

pub both_turned : (old middle new : State) → TurnsOnce Active old middle → TurnsOnce Passive middle new
    → Turns (Active ∷ Passive ∷ []) old new
unfolding Turns
both_turned old middle new t u = (middle, t, (new, u, refl))

-- ---- rounds

-- whatever so many rounds more come to, they come to it from here
abbrev pub CountsOn : ℕ → State → State → Type 0
CountsOn made old now = (more : ℕ) (new : State) → Rounds more now new → Rounds (made + more) old new

pub CountsOn-begin : (s : State) → CountsOn 0 s s
CountsOn-begin s more new h =
    let e : 0 + more ≡ more = omega arith in
    rw e h

pub Rounds-none : (s : State) → Rounds 0 s s
unfolding Rounds
Rounds-none s = refl

pub Rounds-over : (more : ℕ) (s : State) → is_over s ≡ true → Rounds (suc more) s s
unfolding Rounds
Rounds-over more s h = inl (h, refl)

Rounds-more : (more : ℕ) (s middle new : State) → is_over s ≡ false → Turns (Active ∷ Passive ∷ []) s middle
    → Rounds more middle new → Rounds (suc more) s new
unfolding Rounds
Rounds-more more s middle new h t r = inr (h, middle, t, r)

pub CountsOn-more : (made : ℕ) (old now next : State) → is_over now ≡ false → Turns (Active ∷ Passive ∷ []) now next
    → CountsOn made old now → CountsOn (made + 1) old next
CountsOn-more made old now next h t on more new r =
    let e : made + 1 + more ≡ made + suc more = omega arith in
    rw e (on (suc more) new (Rounds-more more now next new h t r))

-- where rounds are left
pub CountsOn-ends : (made most : ℕ) (old now : State) → made < most → CountsOn made old now → is_over now ≡ true
    → Rounds most old now
CountsOn-ends made most old now below on h =
    let e : most ≡ made + suc (most - (made + 1)) = omega arith in
    rw e (on (suc (most - (made + 1))) now (Rounds-over (most - (made + 1)) now h))

-- where none is left
pub CountsOn-all : (made most : ℕ) (old now : State) → made ≤ most → most ≤ made → CountsOn made old now
    → Rounds most old now
CountsOn-all made most old now below above on =
    let e : most ≡ made + 0 = omega arith in
    rw e (on 0 now (Rounds-none now))

-- ---- one turn

taken : (role : Role) (old new : State) (post : Post) (pipes : PipesHeld)
    (result : Result (Option News) Memory) → TurnsOver (side_of role) (post_at role old) old.pipes post pipes result
    → new ≡ record (with_post role old post) { pipes = pipes } → IfOk result (λ news. TakesTurn role old new news)
taken role old new post pipes (Ok news) t same =
    record { post = post; pipes = pipes; turn = t; same = same }
taken role old new post pipes (Err memory) t same = tt

pub turn_taken : (r role : Role) (old new : State) (post : Post) (pipes : PipesHeld)
    (result : Result (Option News) Memory) → r ≡ role
    → TurnsOver (side_of role) (post_at role old) old.pipes post pipes result
    → new ≡ record (with_post role old post) { pipes = pipes } → IfOk result (λ news. TakesTurn r old new news)
turn_taken r role old new post pipes result e t same =
    subst (λ x. IfOk result (λ news. TakesTurn x old new news)) (sym e) (taken role old new post pipes result t same)

pub news_kept : (role : Role) (old middle new : State) (o p : Option News) → o ≡ p → TakesTurn role old middle o
    → new ≡ record middle { events = middle.events ++ events_of role p } → TurnsOnce role old new
news_kept role old middle new o p e t same =
    record { middle = middle; news = p; takes = subst (TakesTurn role old middle) e t; same = same }

pub nothing_kept : (role : Role) (old new : State) (o : Option News) → o ≡ None → TakesTurn role old new o
    → TurnsOnce role old new
nothing_kept role old new o e t =
    news_kept role old new new o None e t
    (ap (λ (es : List PairEvent). record new { events = es }) (sym (append-nil new.events)))
