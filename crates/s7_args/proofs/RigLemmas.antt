-- What the words of a rig say of its scripts and turns.
use Rattle.std.proofs.Common.{◌≡◌, ◌∙◌, ◌<◌, ◌≤◌, arith, ℕ, Bool, cond, true, false, not, ◌&&◌, ◌*◌, refl, sym, ap, List, [], ◌∷◌, map, length, Option, Some, None, inl, inr, nat_le, true≢false}
use Rattle.std.specs.Prelude.{option_map, unwrap_or}
use Rattle.std.specs.Borrow.{Bor}
use Rattle.std.proofs.lemmas.Bool.Decides.{leb_tells}
use Rattle.std.proofs.lemmas.List.{length-map}
use Rattle.s7_args.specs.CommandLine.{Text, Given, has_required, value_of, values_of}
use Rattle.s7_args.specs.Fields.{number_given}
use Rattle.s7_args.specs.Tool.{ToolTold, actors, client_count, lacks_watch, most_scripts, rig_line, rig_of, rig_with, rounds, scripts, turns, turns_or_none, watch}
use Rattle.s7_args.proofs.Fine.{both_true}
use Rattle.s7_args.proofs.Rows.{given-values, has_some}

-- the texts behind a slice that was given, or behind an empty one
pub texts_or_none : (o : Option (Bor (List (Bor Text)))) (default r : Bor (List (Bor Text))) (vs : List Text) → r ≡ unwrap_or o default → default.now ≡ []
    → unwrap_or (option_map (λ s. map (λ v. v.now) s.now) o) [] ≡ vs → map (λ v. v.now) r.now ≡ vs
texts_or_none None default r vs is empty got = ap (λ (b : Bor (List (Bor Text))). map (λ v. v.now) b.now) is ∙ ap (map (λ v. v.now)) empty ∙ got
texts_or_none (Some s) default r vs is empty got = ap (λ (b : Bor (List (Bor Text))). map (λ v. v.now) b.now) is ∙ got

abbrev pub paths_of : Given → List Text
paths_of given = values_of given scripts.name

pub same_length : (items : List (Bor Text)) (given : Given) → map (λ v. v.now) items ≡ paths_of given → length items ≡ length (paths_of given)
same_length items given are = sym (length-map items (λ (v : Bor Text). v.now)) ∙ ap length are

has_one : (vs : List Text) → has_some vs ≡ true → 1 ≤ length vs
has_one [] is = absurd (true≢false (sym is))
has_one (v ∷ vs) is = omega arith

-- one script has to be there
pub one_script : (given : Given) → has_required rig_line given ≡ true → 1 ≤ length (paths_of given)
one_script given required = has_one (paths_of given) (sym (given-values given scripts.name) ∙ (both_true _ _ (both_true _ _ required).1).0)

within_most : (n : ℕ) → n ≤ most_scripts → nat_le n most_scripts ≡ true
within_most n less = elim (leb_tells n most_scripts) [ inl low ↦ low.0 | inr high ↦ absurd (omega (arith, high.1)) ]

past_most : (n : ℕ) → most_scripts < n → nat_le n most_scripts ≡ false
past_most n more = elim (leb_tells n most_scripts) [ inl low ↦ absurd (omega (arith, low.1)) | inr high ↦ high.0 ]

pub too_many : (given : Given) → most_scripts < length (paths_of given) → ◌≡◌ {A = Option ToolTold} None (rig_of given)
too_many given more = rw (past_most (length (paths_of given)) more) refl

abbrev pub watched_of : Given → Option Text
watched_of given = value_of given watch.name

-- rounds are given without tags to be read in them
pub no_watch : (given : Given) → true ≡ lacks_watch (watched_of given) (number_given given rounds)
    → ◌≡◌ {A = Option ToolTold} None (rig_of given)
no_watch given lacks = rw (← lacks) (go (nat_le (length (paths_of given)) most_scripts))
  where
    go : (b : Bool) → ◌≡◌ {A = Option ToolTold} None (cond (b && false) (option_map (rig_with given (paths_of given)) (turns_or_none (actors (paths_of given) (watched_of given)) (value_of given turns.name))) None)
    go true = refl
    go false = refl

pub no_turns : (given : Given) → ◌≡◌ {A = Option (List ℕ)} None (turns_or_none (actors (paths_of given) (watched_of given)) (value_of given turns.name))
    → ◌≡◌ {A = Option ToolTold} None (rig_of given)
no_turns given none = go (nat_le (length (paths_of given)) most_scripts && not (lacks_watch (watched_of given) (number_given given rounds)))
  where
    go : (b : Bool) → ◌≡◌ {A = Option ToolTold} None (cond b (option_map (rig_with given (paths_of given)) (turns_or_none (actors (paths_of given) (watched_of given)) (value_of given turns.name))) None)
    go true = ap (option_map (rig_with given (paths_of given))) none
    go false = refl

-- the actors are those of the scripts and of the watcher
pub actors_are : (n : ℕ) (w : Option (Bor Text)) (given : Given) → n ≡ length (paths_of given)
    → option_map (λ s. s.now) w ≡ watched_of given
    → 2 * client_count n w ≡ actors (paths_of given) (watched_of given)
actors_are n None given count watched = λ i. 2 * client_count (count i) (watched i)
actors_are n (Some s) given count watched = λ i. 2 * client_count (count i) (watched i)

pub rig_told : (given : Given) (order : List ℕ) → length (paths_of given) ≤ most_scripts
    → false ≡ lacks_watch (watched_of given) (number_given given rounds)
    → Some order ≡ turns_or_none (actors (paths_of given) (watched_of given)) (value_of given turns.name)
    → Some (rig_with given (paths_of given) order) ≡ rig_of given
rig_told given order less needs order_is =
    rw (within_most (length (paths_of given)) less, ← needs) (ap (option_map (rig_with given (paths_of given))) order_is)
