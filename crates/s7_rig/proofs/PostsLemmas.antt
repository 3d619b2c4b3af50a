-- A list of stations, as a list of posts.
use Rattle.std.proofs.Common.{◌≡◌, ℕ, ◌-◌, ◌<◌, ◌≤◌, Bool, List, length, get_or, map, slice_get, Some, option_map, sym, ap, ◌∙◌, subst, inl, inr, true, Result, Ok, Err, arith}
use Rattle.std.proofs.lemmas.Option.{slice_get-map, slice_get-get_or}
use Rattle.std.proofs.lemmas.Bool.{false≢true}
use Rattle.std.proofs.lemmas.List.{map-set, length-map}
use Rattle.std.specs.Prelude.{IfOk, slice_set}
use Rattle.std.specs.Result.{is_ok, OnOk}
use Rattle.s7_plant.specs.Books.{BookTold}
use Rattle.s7_rig.specs.declared.station.Station.{Station}
use Rattle.s7_rig.specs.State.{State}
use Rattle.s7_rig.specs.Shown.{post_of}
use Rattle.s7_rig.specs.Turns.{IsClientTurn, SessionTurn, IsTurnOf}

-- what stands at a place of a mapped list
pub mapped_at : {A B : Type 0} (f : A → B) (xs : List A) (i : ℕ) (x : A) → i < length xs → x ≡ get_or xs i x → slice_get (map f xs) i ≡ Some (f x)
mapped_at f xs i x h e = slice_get-map f xs i ∙ (ap (option_map f) (slice_get-get_or xs i x h) ∙ ap (λ y. Some (f y)) (sym e))

-- the actors below it are the clients
pub client_turned : (xs : List Station) (i : ℕ) (x y : Station) (b : BookTold) (stirs : Bool) → i < length xs → x ≡ get_or xs i x
    → IsClientTurn (post_of x) (post_of y) stirs
    → IsTurnOf i (record { book = b; posts = map post_of xs }) (record { book = b; posts = map post_of (slice_set xs i y) }) stirs
client_turned xs i x y b stirs below at t =
    let within : i < length (map post_of xs) = omega (arith, length-map xs post_of) in
    inl (
      within,
      record {
        post = post_of x;
        post' = post_of y;
        at = mapped_at post_of xs i x below at;
        turn = t;
        same = ap (λ ps. record { book = b; posts = ps }) (map-set post_of xs i y);
      },
    )

-- the actors from the number of clients on are the sessions
pub session_turned : (actor count : ℕ) (old new : State) (stirs : Bool) → length old.posts ≡ count → count ≤ actor → SessionTurn (actor - count) old new stirs → IsTurnOf actor old new stirs
session_turned actor count old new stirs e h t =
    inr (subst (λ n. (n ≤ actor) × SessionTurn (actor - n) old new stirs) (sym e) (h, t))

-- what holds where there is a value
pub on_ok_at : {T E P : Type 0} (r : Result T E) → is_ok r ≡ true → OnOk r P → P
on_ok_at (Ok x) e h = h
on_ok_at (Err x) e h = absurd (false≢true e)

-- two facts of a value
pub both_ok : {T E : Type 0} (P Q : T → Type 0) (r : Result T E) → IfOk r P → IfOk r Q → IfOk r (λ x. P x × Q x)
both_ok P Q (Ok x) h k = (h, k)
both_ok P Q (Err e) h k = tt
