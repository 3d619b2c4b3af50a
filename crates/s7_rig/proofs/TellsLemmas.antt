-- What a completion is told of the results that a client gains.
use Rattle.std.proofs.Common.{◌≡◌, ℕ, ◌<◌, ◌≤◌, ◌⊎◌, inl, inr, zero, suc, List, [], ◌∷◌, ◌++◌, length, map, get_or, Option, None, Some, option_map, Bool, refl, ap, sym, ◌∙◌, subst, arith}
use Rattle.std.proofs.Common.{Result, Ok, Err, append_assoc, append-nil}
use Rattle.std.specs.Prelude.{IfOk, is_some, slice_set}
use Rattle.std.specs.Result.{OnOk, OnErr}
use Rattle.std.proofs.lemmas.Iterator.Adapters.{option_map_id}
use Rattle.std.proofs.lemmas.List.{length-append}
use Rattle.std.proofs.lemmas.List.Sums.{fold-append}
use Rattle.s7_dialogue.specs.declared.job.JobResult.{JobResult}
use Rattle.s7_client.specs.declared.job.Polled.{Polled}
use Rattle.s7_client.specs.declared.job.Polled.TheVariants as polled
use Rattle.s7_client.specs.Completions.{Told, told_of_result, told_of_results}
use Rattle.s7_dialogue.specs.declared.config.Config.{Config}
use Rattle.s7_rig.specs.Scripts.{Script}
use Rattle.s7_area.specs.declared.guard.Guard.{Guard}
use Rattle.s7_plant.specs.Books.{BookTold}
use Rattle.s7_rig.specs.declared.station.Station.{Station}
use Rattle.s7_rig.specs.State.{Post, State}
use Rattle.s7_rig.specs.Shown.{EndTold, first_results, post_of, post_told, results_in_first, state_told}
use Rattle.s7_area.specs.Memory.{Memory}
use Rattle.s7_plant.specs.Journals.{entries_of}
use Rattle.s7_plant.specs.State as plant
use Rattle.s7_rig.specs.Rigs.{RigRan, ToldWanting, Turning}
use Rattle.s7_rig.specs.Runs.{AreFresh, IsRun}
use Rattle.s7_rig.specs.Stopped.{RunStops}
use Rattle.s7_rig.specs.Tells.{Tells, TellsFirst, TellsWanting}
use Rattle.s7_rig.specs.Turns.{IsClientTurn, IsSessionTurn, StartsNext, StartsNothing, with_polled}

-- ---- one after another

pub tells_none : (rs : List JobResult) (t : Option Told) → Tells rs rs t t
tells_none rs t = record { gained = []; results = sym (append-nil rs); told = sym (option_map_id t) }

told_twice : (o : Option Told) (xs ys : List JobResult)
    → option_map (λ t. told_of_results t ys) (option_map (λ t. told_of_results t xs) o)
    ≡ option_map (λ t. told_of_results t (xs ++ ys)) o
told_twice None xs ys = refl
told_twice (Some t) xs ys = ap Some (sym (fold-append told_of_result t xs ys))

pub tells_then : (a b c : List JobResult) (x y z : Option Told) → Tells a b x y → Tells b c y z → Tells a c x z
tells_then a b c x y z h k = record {
  gained = h.gained ++ k.gained;
  results = k.results ∙ ap (λ r. r ++ k.gained) h.results ∙ append_assoc a h.gained k.gained;
  told = k.told ∙ ap (option_map (λ t. told_of_results t k.gained)) h.told ∙ told_twice x h.gained k.gained;
}

-- of the first results
pub tells_all : (rs : List JobResult) (x y : Option Told) → Tells [] rs x y
    → y ≡ option_map (λ t. told_of_results t rs) x
tells_all rs x y h = h.told ∙ ap (λ gained. option_map (λ t. told_of_results t gained) x) (sym h.results)

-- ---- whether there is a completion

some_mapped : {A B : Type 0} (f : A → B) (o : Option A) → is_some (option_map f o) ≡ is_some o
some_mapped f None = refl
some_mapped f (Some x) = refl

-- what is told leaves the completion where it is
pub still_there : {A B : Type 0} (f : A → B) (next : B → B) (old new : Option A)
    → option_map f new ≡ option_map next (option_map f old) → is_some new ≡ is_some old
still_there f next old new told =
    sym (some_mapped f new) ∙ ap is_some told ∙ some_mapped next (option_map f old) ∙ some_mapped f old

-- ---- a client's turn

-- the results are as before, or one came
abbrev pub Gains : List JobResult → List JobResult → Type 0
Gains old new = (new ≡ old) ⊎ ((told : JobResult) × (new ≡ old ++ told ∷ []))

started_results : (p q : Post) → StartsNext p q ⊎ StartsNothing p q → q.results ≡ p.results
started_results p q (inl s) = ap (λ (x : Post). x.results) s.same
started_results p q (inr s) = ap (λ (x : Post). x.results) s.same

polled_gains : (r : Polled) (p : Post) → Gains p.results (with_polled r p).results
polled_gains (polled.Done told) p = inr (told, refl)
polled_gains polled.Pending p = inl refl
polled_gains polled.Idle p = inl refl

pub client_gains : (p q : Post) (stirs : Bool) → IsClientTurn p q stirs → Gains p.results q.results
client_gains p q stirs t =
    subst (λ xs. Gains xs q.results) (started_results p t.ready t.starts)
    (subst (λ xs. Gains t.ready.results xs) (sym (ap (λ (x : Post). x.results) t.polls.same))
    (polled_gains t.polls.result (record t.ready { client = t.polls.client; pipes = t.polls.pipes })))

one_behind : (xs : List JobResult) (x d : JobResult) → get_or (xs ++ x ∷ []) (length xs) d ≡ x
one_behind [] x d = refl
one_behind (y ∷ xs) x d = one_behind xs x d

-- where one came, which stands at the end of what was, it is told
pub tells_one : (xs ys zs : List JobResult) (n : ℕ) (told : JobResult) (before after : Option Told) → Gains xs ys
    → n ≡ length xs → zs ≡ ys → n < length zs → told ≡ get_or zs n told
    → after ≡ option_map (λ t. told_of_result t told) before → Tells xs ys before after
tells_one xs ys zs n told before after (inl e) count same within at is =
    let a = ap length e in
    let b = ap length same in
    absurd (omega arith)
tells_one xs ys zs n told before after (inr (x, e)) count same within at is =
    let one = at ∙ ap (λ rs. get_or rs n told) (same ∙ e) ∙ ap (λ i. get_or (xs ++ x ∷ []) i told) count
    ∙ one_behind xs x told in
    record { gained = told ∷ []; results = e ∙ ap (λ r. xs ++ r ∷ []) (sym one); told = is }

-- and else nothing is
pub tells_nothing : (xs ys zs : List JobResult) (n : ℕ) (t : Option Told) → Gains xs ys → n ≡ length xs → zs ≡ ys
    → length zs ≤ n → Tells xs ys t t
tells_nothing xs ys zs n t (inl e) count same past = subst (λ rs. Tells xs rs t t) (sym e) (tells_none xs t)
tells_nothing xs ys zs n t (inr (x, e)) count same past =
    let a = ap length e in
    let b = ap length same in
    absurd (omega (arith, length-append xs (x ∷ [])))

-- ---- a turn of a rig

abbrev first_in : List Station → List JobResult
first_in xs = results_in_first (map post_told (map post_of xs))

-- the first client's
pub tells_first : (xs : List Station) (i : ℕ) (x y : Station) (before after : Option Told)
    → i ≡ 0 → i < length xs → x ≡ get_or xs i x → Tells x.results.items y.results.items before after
    → Tells (first_in xs) (first_in (slice_set xs i y)) before after
tells_first [] i x y before after zeroth within at h = absurd (omega (arith, within))
tells_first (z ∷ xs) zero x y before after zeroth within at h =
    subst (λ (s : Station). Tells s.results.items y.results.items before after) at h
tells_first (z ∷ xs) (suc i) x y before after zeroth within at h = absurd (omega (arith, zeroth))

-- another's, or one that keeps the results
pub tells_other : (xs : List Station) (i : ℕ) (x y : Station) (t : Option Told)
    → i < length xs → x ≡ get_or xs i x → (i ≡ 0 → y.results.items ≡ x.results.items)
    → Tells (first_in xs) (first_in (slice_set xs i y)) t t
tells_other [] i x y t within at kept = absurd (omega (arith, within))
tells_other (z ∷ xs) zero x y t within at kept =
    subst (λ rs. Tells z.results.items rs t t) (sym (kept refl ∙ ap (λ (s : Station). s.results.items) at))
    (tells_none z.results.items t)
tells_other (z ∷ xs) (suc i) x y t within at kept = tells_none z.results.items t

-- a session's turn keeps the results
pub session_keeps : (p q : Post) (b b' : BookTold) (stirs : Bool) → IsSessionTurn p q b b' stirs → q.results ≡ p.results
session_keeps p q b b' stirs t = ap (λ (x : Post). x.results) t.same

-- ---- a whole run

fresh_results : (guard : Option Guard) (config : Config) (link : ℕ) (scripts : List Script) (posts : List Post)
    → AreFresh guard config link scripts posts → results_in_first (map post_told posts) ≡ []
unfolding AreFresh
fresh_results guard config link scripts [] h = refl
fresh_results guard config link [] (p ∷ posts) h = absurd h
fresh_results guard config link (jobs ∷ scripts) (p ∷ posts) h = h.0.results

-- what was told since the rig was new
pub rig_tells : (guard : Option Guard) (config : Config) (scripts : List Script) (start last : State)
    (end : EndTold) (x y : Option Told) → AreFresh guard config 1 scripts start.posts → TellsFirst start last x y
    → end ≡ state_told last → y ≡ option_map (λ t. told_of_results t (first_results end)) x
rig_tells guard config scripts start last end x y fresh tells is =
    tells_all (first_results (state_told last)) x y
    (subst (λ rs. Tells rs (first_results (state_told last)) x y)
    (fresh_results guard config 1 scripts start.posts fresh) tells)
    ∙ ap (λ e. option_map (λ t. told_of_results t (first_results e)) x) (sym is)

-- ---- where there is a value

pub on_ok_from : {T E Q : Type 0} (P : T → Type 0) (r : Result T E) → IfOk r P → ((x : T) → P x → Q) → OnOk r Q
on_ok_from P (Ok x) h f = f x h
on_ok_from P (Err e) h f = tt

pub any_ok : {T E P : Type 0} (r : Result T E) → P → OnOk r P
any_ok (Ok x) h = h
any_ok (Err e) h = tt

pub any_err : {T E P : Type 0} (r : Result T E) → P → OnErr r P
any_err (Ok x) h = tt
any_err (Err e) h = h

pub err_weaker : {T E P Q : Type 0} (r : Result T E) → (P → Q) → OnErr r P → OnErr r Q
err_weaker (Ok x) f h = tt
err_weaker (Err e) f h = f h

-- ---- where memory was wanting

-- at this turn
pub wanting_here : (stops : State → State → Type 0) (old last : State) (x y z : Option Told) → stops old last
    → TellsFirst old last x y → z ≡ y → TellsWanting stops old x z
wanting_here stops old last x y z stopped tells same = record {
  last = last;
  stopped = stopped;
  tells = subst (λ t. TellsFirst old last x t) (sym same) tells;
}

-- behind what was told before
pub wanting_then : (stops later : State → State → Type 0) (old middle : State) (x y z : Option Told)
    → ((last : State) → later middle last → stops old last) → TellsFirst old middle x y
    → TellsWanting later middle y z → TellsWanting stops old x z
wanting_then stops later old middle x y z behind tells w = record {
  last = w.last;
  stopped = behind w.last w.stopped;
  tells = tells_then _ _ _ _ _ _ tells w.tells;
}

-- a rig that began so
module _ (opening : Memory) (limit : ℕ) (config : Config) (scripts : List Script) (start : State)
    (opened : plant.state_of start.book.opening ≡ plant.begins_with opening)
    (unchanged : plant.state_of start.book.plant ≡ plant.begins_with opening)
    (journal : start.book.journal ≡ entries_of [] limit)
    (fresh : AreFresh opening.guard config 1 scripts start.posts) (x y : Option Told) where
  pub rig_wanting : (turning : Turning) (last : State)
      → RunStops turning.turns turning.seed turning.steps start last
      ⊎ IsRun turning.turns turning.seed turning.steps start last
      → TellsFirst start last x y → ToldWanting opening limit config scripts turning x y
  rig_wanting turning last reached tells = inr (
    last,
    record {
      start = start;
      opened = opened;
      unchanged = unchanged;
      journal = journal;
      fresh = fresh;
      reached = reached;
    },
    rig_tells opening.guard config scripts start last (state_told last) x y fresh tells refl,
  )

-- memory was wanting behind a whole run
pub ran_wanting : (opening : Memory) (limit : ℕ) (config : Config) (scripts : List Script) (turning : Turning)
    (end : EndTold) (x y : Option Told) → RigRan opening limit config scripts turning end
    → y ≡ option_map (λ t. told_of_results t (first_results end)) x
    → ToldWanting opening limit config scripts turning x y
ran_wanting opening limit config scripts turning end x y ran told = inr (
  ran.last,
  record {
    start = ran.start;
    opened = ran.opened;
    unchanged = ran.unchanged;
    journal = ran.journal;
    fresh = ran.fresh;
    reached = inr ran.run;
  },
  told ∙ ap (λ e. option_map (λ t. told_of_results t (first_results e)) x) ran.ends,
)
