-- Lemmas on the telegrams that are out, and where their questions stand.
use Rattle.std.proofs.Common.{◌≡◌, ℕ, ◌+◌, cond, Option, Some, None, List, [], ◌∷◌, ◌++◌, length, refl, ap, arith}
use Rattle.std.specs.Prelude.{is_none}
use Rattle.std.specs.List.{AllByRecursion}
use Rattle.s7_dialogue.specs.declared.config.Config.{Config}
use Rattle.s7_dialogue.specs.declared.job.Job.{Job}
use Rattle.s7_dialogue.specs.declared.stages.flight.Flight.{Flight}
use Rattle.s7_dialogue.specs.Answer.{Answer}
use Rattle.s7_dialogue.specs.Flight.{Row, open_count}
use Rattle.s7_dialogue.specs.Asks.{items_of, Spot, spot_past, spot_behind, flight_at, if_open, flights_of, AreMadeAgain}

-- ---- telegrams that are out

pub spot_append : (spot : Spot) (xs ys : List Row)
    → spot_behind spot (xs ++ ys) ≡ spot_behind (spot_behind spot xs) ys
spot_append spot [] ys = refl
spot_append spot (row ∷ xs) ys = spot_append (spot_past spot (items_of row.question)) xs ys

if_open_append : (answer : Option Answer) (flight : Flight) (xs ys zs : List Flight) → zs ≡ xs ++ ys
    → if_open answer flight zs ≡ if_open answer flight xs ++ ys
if_open_append None flight xs ys zs is = ap (λ fs. flight ∷ fs) is
if_open_append (Some answer) flight xs ys zs is = is

pub flights_append : (spot : Spot) (xs ys : List Row)
    → flights_of spot (xs ++ ys) ≡ flights_of spot xs ++ flights_of (spot_behind spot xs) ys
flights_append spot [] ys = refl
flights_append spot (row ∷ xs) ys =
    let next = spot_past spot (items_of row.question) in
    if_open_append row.answer (flight_at spot row) (flights_of next xs) (flights_of (spot_behind next xs) ys)
    (flights_of next (xs ++ ys)) (flights_append next xs ys)

pub again_append : (config : Config) (job : Job) (spot : Spot) (xs ys : List Row) → AreMadeAgain config job spot xs
    → AreMadeAgain config job (spot_behind spot xs) ys → AreMadeAgain config job spot (xs ++ ys)
again_append config job spot [] ys first later = later
again_append config job spot (row ∷ xs) ys first later =
    (first.0, again_append config job (spot_past spot (items_of row.question)) xs ys first.1 later)

if_open_count : (answer : Option Answer) (flight : Flight) (flights : List Flight) (n : ℕ) → length flights ≡ n
    → length (if_open answer flight flights) ≡ cond (is_none answer) 1 0 + n
if_open_count None flight flights n is = omega (arith, is)
if_open_count (Some answer) flight flights n is = omega (arith, is)

pub flights_open : (spot : Spot) (rows : List Row) → length (flights_of spot rows) ≡ open_count rows
unfolding open_count
flights_open spot [] = refl
flights_open spot (row ∷ rows) =
    let next = spot_past spot (items_of row.question) in
    if_open_count row.answer (flight_at spot row) (flights_of next rows) (open_count rows) (flights_open next rows)

pub all_append : {A : Type 0} (P : A → Type 0) (xs ys : List A) → AllByRecursion P xs → AllByRecursion P ys
    → AllByRecursion P (xs ++ ys)
all_append P [] ys first later = later
all_append P (x ∷ xs) ys first later = (first.0, all_append P xs ys first.1 later)
