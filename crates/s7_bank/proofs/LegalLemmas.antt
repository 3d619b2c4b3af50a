-- Calls for parts of telegrams make legal histories.
use Rattle.std.proofs.Common.{◌≡◌, ◌⊎◌, inl, inr, ℕ, ◌+◌, ◌≤◌, Bool, true, false, true≢false, eqb, eq-eqb, List, [], ◌∷◌, length, map, refl, ap, sym, ◌∙◌, append_assoc, length-append, arith}
use Rattle.std.specs.Prelude.{◌++◌, if◌then◌else◌}
use Rattle.std.specs.List.{AllByRecursion}
use Rattle.std.proofs.lemmas.List.{append-nil}
use Rattle.s7_turn.specs.declared.view.Entry.{Entry as Call}
use Rattle.s7_turn.specs.Histories.{entry, has, places_from, Agrees, Each}
use Rattle.s7_plant.specs.declared.request.Ask.{Ask}
use Rattle.s7_plant.specs.State.{State}
use Rattle.s7_session.specs.Books.{History, own}
use Rattle.s7_session.specs.Entry.{Entry, answered}
use Rattle.s7_listener.proofs.OwnLemmas.{own_agrees, own_grows, own_of_none}
use Rattle.s7_bank.specs.BankLaws.{Made, MadeAll, PartsAreLegal, BanksAreLegal}
use Rattle.s7_bank.specs.BankLegal.{Part, PartVerdict, Entered, Full, verdicts_of, entered_by, entered_of, AnyFull, NoneEntered, FullStays, BankLinks, IsCallerOf}

map_more : {A B : Type 0} (f : A → B) (xs : List A) (x : A) → map f (xs ++ x ∷ []) ≡ map f xs ++ f x ∷ []
map_more f [] x = refl
map_more f (y ∷ xs) x = ap (λ l. f y ∷ l) (map_more f xs x)

grows : (seen : History) (callers : List ℕ) (history : History) → Agrees seen callers history → length seen ≤ length history
grows seen callers history a = let l = ap length a.1 ∙ length-append seen a.0 in omega (arith, l)

-- ---- calls for parts

module _ (opening : State) (limit caller : ℕ) (callers : List ℕ) (stands : has callers caller ≡ true) where
  -- the caller's own calls grow by what was entered
  own_of_part : (seen : History) (ask : Ask) (v : PartVerdict) (after : History) → Made opening limit caller callers seen ask v after
      → map answered (own opening caller after) ≡ map answered (own opening caller seen) ++ entered_by ask v
  own_of_part seen ask (Entered reply) after made =
      let found : History = made.0 in
      let more : Entry = record { number = length found; ask = ask; reply = reply } in
      ap (λ h. map answered (own opening caller h)) made.4
      ∙ ap (map answered) (sym (own_grows opening caller callers seen found (length found) ask reply stands made.1 refl made.3 (own opening caller seen) refl))
      ∙ map_more answered (own opening caller seen) more
  own_of_part seen ask Full after made =
      ap (map answered) (own_agrees opening caller callers seen after stands made.0) ∙ sym (append-nil (map answered (own opening caller seen)))

  own_of_parts : (seen : History) (parts : List Part) (after : History) → MadeAll opening limit caller callers seen parts after
      → map answered (own opening caller after) ≡ map answered (own opening caller seen) ++ entered_of parts
  own_of_parts seen [] after made = ap (λ h. map answered (own opening caller h)) made ∙ sym (append-nil (map answered (own opening caller seen)))
  own_of_parts seen (p ∷ parts) after made =
      own_of_parts made.0 parts after made.2
      ∙ ap (λ l. l ++ entered_of parts) (own_of_part seen p.ask p.verdict made.0 made.1)
      ∙ append_assoc (map answered (own opening caller seen)) (entered_by p.ask p.verdict) (entered_of parts)

  -- histories grow
  grows_by : (seen : History) (ask : Ask) (v : PartVerdict) (after : History) → Made opening limit caller callers seen ask v after → length seen ≤ length after
  grows_by seen ask (Entered reply) after made =
      let l = grows seen callers made.0 made.1 in
      let n = ap length made.4 ∙ length-append made.0 (entry caller ask ∷ []) in
      omega (arith, l, n)
  grows_by seen ask Full after made = grows seen callers after made.0

  grow_all : (seen : History) (parts : List Part) (after : History) → MadeAll opening limit caller callers seen parts after → length seen ≤ length after
  grow_all seen [] after made = let l = ap length made in omega (arith, l)
  grow_all seen (p ∷ parts) after made =
      let l = grows_by seen p.ask p.verdict made.0 made.1 in
      let n = grow_all made.0 parts after made.2 in
      omega (arith, l, n)

  -- once the history is full, it has its greatest length, and nothing more is entered
  full_head : (seen : History) (ask : Ask) (v : PartVerdict) (rest : List PartVerdict) (between after : History) → Made opening limit caller callers seen ask v between
      → length between ≤ length after → (AnyFull rest → limit ≤ length after) → AnyFull (v ∷ rest) → limit ≤ length after
  full_head seen ask (Entered reply) rest between after made l later any = later any
  full_head seen ask Full rest between after made l later any = omega (arith, l, made.1)

  any_full : (seen : History) (parts : List Part) (after : History) → MadeAll opening limit caller callers seen parts after → AnyFull (verdicts_of parts) → limit ≤ length after
  any_full seen [] after made any = absurd any
  any_full seen (p ∷ parts) after made any =
      full_head seen p.ask p.verdict (verdicts_of parts) made.0 after made.1 (grow_all made.0 parts after made.2) (any_full made.0 parts after made.2) any

  none_head : (seen : History) (ask : Ask) (v : PartVerdict) (rest : List PartVerdict) (between : History) → Made opening limit caller callers seen ask v between
      → limit ≤ length seen → NoneEntered rest → NoneEntered (v ∷ rest)
  none_head seen ask (Entered reply) rest between made full none =
      let l = grows seen callers made.0 made.1 in absurd (omega (arith, l, full, made.2))
  none_head seen ask Full rest between made full none = none

  none_entered : (seen : History) (parts : List Part) (after : History) → MadeAll opening limit caller callers seen parts after → limit ≤ length seen → NoneEntered (verdicts_of parts)
  none_entered seen [] after made full = tt
  none_entered seen (p ∷ parts) after made full =
      let l = grows_by seen p.ask p.verdict made.0 made.1 in
      none_head seen p.ask p.verdict (verdicts_of parts) made.0 made.1 full (none_entered made.0 parts after made.2 (omega (arith, l, full)))

  stays_head : (seen : History) (ask : Ask) (v : PartVerdict) (rest : List PartVerdict) (between : History) → Made opening limit caller callers seen ask v between
      → FullStays rest → (limit ≤ length between → NoneEntered rest) → FullStays (v ∷ rest)
  stays_head seen ask (Entered reply) rest between made stays none = stays
  stays_head seen ask Full rest between made stays none = none (omega (arith, made.1))

  full_stays : (seen : History) (parts : List Part) (after : History) → MadeAll opening limit caller callers seen parts after → FullStays (verdicts_of parts)
  full_stays seen [] after made = tt
  full_stays seen (p ∷ parts) after made =
      stays_head seen p.ask p.verdict (verdicts_of parts) made.0 made.1 (full_stays made.0 parts after made.2) (none_entered made.0 parts after made.2)

pub parts_are_legal : PartsAreLegal
parts_are_legal opening limit caller callers later seen after history parts stands silent made named agrees few = record {
  calls = ap (map answered) (own_agrees opening caller later after history named agrees)
      ∙ own_of_parts opening limit caller callers stands seen parts after made
      ∙ ap (λ es. map answered es ++ entered_of parts) (sym (own_of_none opening caller seen silent));
  full = λ any.
      let l = any_full opening limit caller callers stands seen parts after made any in
      let n = grows after later history agrees in
      omega (arith, l, n, few);
  full_stays = full_stays opening limit caller callers stands seen parts after made;
}

-- ---- the callers of a history

taken : (b : Bool) (k : ℕ) (rest : List ℕ) → b ≡ true → (if b then k ∷ rest else rest) ≡ [] → ⊥
taken true k rest is e = cc
taken false k rest is e = absurd (true≢false (sym is))

untaken : (b : Bool) (k : ℕ) (rest : List ℕ) → (if b then k ∷ rest else rest) ≡ [] → rest ≡ []
untaken true k rest e = absurd (cc)
untaken false k rest e = e

module _ (callers : List ℕ) (links : BankLinks) where
  link_of : (k : ℕ) (call : Call Ask) (history : History) → IsCallerOf links call.caller ⊎ (places_from k call.caller (call ∷ history) ≡ []) → IsCallerOf links call.caller
  link_of k call history (inl is) = is
  link_of k call history (inr none) = absurd (taken (eqb call.caller call.caller) k (places_from (k + 1) call.caller history) (eq-eqb call.caller call.caller refl) none)

  links_after : (k x : ℕ) (call : Call Ask) (history : History) → IsCallerOf links x ⊎ (places_from k x (call ∷ history) ≡ []) → IsCallerOf links x ⊎ (places_from (k + 1) x history ≡ [])
  links_after k x call history (inl is) = inl is
  links_after k x call history (inr none) = inr (untaken (eqb call.caller x) k (places_from (k + 1) x history) none)

  only_links : (k : ℕ) (history : History) → Each (λ e. has callers e.caller ≡ true) history
      → ((x : ℕ) → has callers x ≡ true → IsCallerOf links x ⊎ (places_from k x history ≡ []))
      → AllByRecursion (λ (call : Call Ask). IsCallerOf links call.caller) history
  only_links k [] each covers = tt
  only_links k (call ∷ history) each covers = (
    link_of k call history (covers call.caller each.0),
    only_links (k + 1) history each.1 (λ x stands. links_after k x call history (covers x stands)),
  )

pub banks_are_legal : BanksAreLegal
banks_are_legal opening limit callers history links each covers legal = record {
  each = legal;
  only = only_links callers links 0 history each covers;
}
