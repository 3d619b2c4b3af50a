-- Who watches: one more event, one who comes, and one who goes.
use Rattle.std.proofs.Common.{◌≡◌, ℕ, suc, zero, ◌+◌, ◌<◌, ◌≤◌, Bool, true, false, cond, eqb, List, [], ◌∷◌, ◌++◌}
use Rattle.std.proofs.Common.{length, map, take, drop, set, get_or, refl, sym, ap, ◌∙◌, arith, add-one, length-append}
use Rattle.std.specs.Prelude.{bit_and}
use Rattle.std.specs.List.{AllByRecursion, remove}
use Rattle.std.proofs.Math.ListN.{get_or-map}
use Rattle.std.proofs.lemmas.List.{map-set, take_all, drop_all, drop-append-le, append-nil}
use Rattle.std.proofs.lemmas.List.Sums.{fold-append}
use Rattle.std.proofs.lemmas.List.Elements.{All-set, All-append, All-take, All-drop, All-from_recursion, recursion_from_All}
use Rattle.s7_turn.specs.declared.view.Entry.{Entry as Call}
use Rattle.s7_turn.specs.Histories.{replay}
use Rattle.s7_plant.specs.declared.event.Event.{Event}
use Rattle.s7_plant.specs.declared.request.Ask.{Ask}
use Rattle.s7_plant.specs.BookLaws.{events_more, length_events}
use Rattle.s7_plant.specs.Events.{IsTold, AreTold, event_at, events}
use Rattle.s7_plant.specs.Journals.{after_call}
use Rattle.s7_plant.specs.Observers.{Seen, Watch, fresh, told_one, watch, watch_one}
use Rattle.s7_plant.specs.State.{State}

-- ---- a list whose elements are changed one after another

-- the first i changed, and the others as they were
abbrev changed_to : {A : Type 0} → (A → A) → ℕ → List A → List A
changed_to one i xs = map one (take i xs) ++ drop i xs

next_changed : {A : Type 0} (one : A → A) (xs : List A) (i : ℕ) (d : A) → i < length xs → set (changed_to one i xs) i (one (get_or (changed_to one i xs) i d)) ≡ changed_to one (suc i) xs
next_changed one [] i d less = absurd (omega arith)
next_changed one (x ∷ xs) zero d less = refl
next_changed one (x ∷ xs) (suc i) d less = ap (λ ys. one x ∷ ys) (next_changed one xs i d (omega arith))

-- the element at i is changed
pub changed_more : {W A : Type 0} (shown : W → A) (one : A → A) (had : List A) (ys : List W) (i : ℕ) (v d : W) → shown v ≡ one (shown (get_or ys i d)) → map shown ys ≡ changed_to one i had → i < length had → map shown (set ys i v) ≡ changed_to one (i + 1) had
changed_more shown one had ys i v d made so_far less =
    let read : shown (get_or ys i d) ≡ get_or (changed_to one i had) i (shown d) = sym (get_or-map shown ys i d) ∙ ap (λ xs. get_or xs i (shown d)) so_far in
    rw (map-set, so_far, made, add-one, ap one read) (next_changed one had i (shown d) less)

pub changed_all : {A : Type 0} (one : A → A) (i : ℕ) (xs : List A) → length xs ≤ i → changed_to one i xs ≡ map one xs
changed_all one i xs done = rw (take_all, drop_all i xs done) (append-nil (map one xs))

pub map_remove : {A B : Type 0} (f : A → B) (xs : List A) (i : ℕ) → map f (remove xs i) ≡ remove (map f xs) i
map_remove f [] zero = refl
map_remove f [] (suc i) = refl
map_remove f (x ∷ xs) zero = refl
map_remove f (x ∷ xs) (suc i) = ap (λ ys. f x ∷ ys) (map_remove f xs i)

-- ---- one more event

fresh_cond : (b : Bool) (s t : Seen) → fresh t ≡ fresh s → fresh (cond b s t) ≡ fresh s
fresh_cond true s t same = refl
fresh_cond false s t same = same

-- mask and depth stay
pub fresh_told_one : (s : Seen) (e : Event) → fresh (told_one s e) ≡ fresh s
fresh_told_one s e = fresh_cond (eqb (bit_and e.code s.mask) 0) s _ refl

-- the event of one more call
abbrev pub next_event : State → List (Call Ask) → Call Ask → Event
next_event s history call = event_at (replay after_call s history) (length history) call

events_append : (s : State) (history : List (Call Ask)) (call : Call Ask) → events s (history ++ call ∷ []) ≡ events s history ++ next_event s history call ∷ []
events_append s history call =
    events_more s 0 history (call ∷ []) ∙ ap (λ n. events s history ++ event_at (replay after_call s history) n call ∷ []) (omega arith)

told_more : (s : State) (history : List (Call Ask)) (call : Call Ask) (w : Watch) → IsTold s history w → IsTold s (history ++ call ∷ []) (watch_one (next_event s history call) w)
told_more s history call w is =
    let event = next_event s history call in
    let within : w.since ≤ length (events s history) = omega (arith, is.since, length_events s 0 history) in
    record {
      since = omega (arith, is.since, length-append history (call ∷ []));
      told = rw (events_append s history call, drop-append-le w.since (events s history) (event ∷ []) within, fold-append told_one (fresh (told_one w.seen event)) (drop w.since (events s history)) (event ∷ []), fresh_told_one w.seen event)
          (ap (λ x. told_one x event) is.told);
    }

pub all_told_more : (s : State) (history : List (Call Ask)) (call : Call Ask) (ws : List Watch) → AreTold s history ws → AreTold s (history ++ call ∷ []) (map (watch_one (next_event s history call)) ws)
all_told_more s history call [] are = tt
all_told_more s history call (w ∷ ws) are = (told_more s history call w are.0, all_told_more s history call ws are.1)

-- ---- one who comes, and one who goes

-- who has just come was told of nothing
told_none : (s : State) (history : List (Call Ask)) (seen : Seen) (since : ℕ) → since ≡ length history → seen ≡ fresh seen → IsTold s history (watch seen since)
told_none s history seen since now is = record {
  since = omega (arith, now);
  told = rw (drop_all since (events s history) (omega (arith, now, length_events s 0 history))) is;
}

pub all_told_set : (s : State) (history : List (Call Ask)) (ws : List Watch) (k : ℕ) (seen : Seen) (since : ℕ) → since ≡ length history → seen ≡ fresh seen → AreTold s history ws → AreTold s history (set ws k (watch seen since))
all_told_set s history ws k seen since now is are =
    recursion_from_All (IsTold s history) _ (All-set (IsTold s history) ws k (watch seen since) (told_none s history seen since now is) (All-from_recursion (IsTold s history) ws are))

pub all_told_remove : (s : State) (history : List (Call Ask)) (ws : List Watch) (k : ℕ) → AreTold s history ws → AreTold s history (remove ws k)
all_told_remove s history ws k are =
    let all = All-from_recursion (IsTold s history) ws are in
    recursion_from_All (IsTold s history) _ (All-append (IsTold s history) (take k ws) (drop (suc k) ws) (All-take (IsTold s history) k ws all) (All-drop (IsTold s history) (suc k) ws all))

-- where nothing was asked yet, those who have counted nothing were told of all
pub all_told_fresh : {O : Type 0} (s : State) (shown : O → Seen) (os : List O) → AllByRecursion (λ o. shown o ≡ fresh (shown o)) os → AreTold s [] (map (λ o. watch (shown o) 0) os)
all_told_fresh s shown [] all = tt
all_told_fresh s shown (o ∷ os) all = (told_none s [] (shown o) 0 refl all.0, all_told_fresh s shown os all.1)
