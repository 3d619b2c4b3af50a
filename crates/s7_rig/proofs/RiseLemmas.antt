-- The places of a client rise over all its jobs.
use Rattle.std.proofs.Common.{◌≡◌, ◌⊎◌, inl, inr, ℕ, zero, suc, ◌+◌, ◌-◌, ◌<◌, ◌≤◌, Bool, List, [], ◌∷◌, ◌++◌, length, refl, ap, sym, ◌∙◌, subst, arith}
use Rattle.std.specs.Prelude.{Option, None, Some, option_map, unwrap_or}
use Rattle.std.specs.List.{AllByRecursion, flat_map}
use Rattle.std.proofs.lemmas.List.{append-nil, append_assoc, length-append}
use Rattle.s7_client.specs.declared.job.Polled.{Polled}
use Rattle.s7_client.specs.declared.job.Polled.TheVariants as polled
use Rattle.s7_plant.specs.Books.{BookTold}
use Rattle.s7_session.specs.Books.{history_of}
use Rattle.s7_rig.specs.Numbers.{count_from}
use Rattle.s7_rig.specs.Split.{Rise}
use Rattle.s7_rig.specs.State.{Post}
use Rattle.s7_rig.specs.Turns.{entry_count, StartsNext, StartsNothing, IsClientTurn, IsSessionTurn, with_polled}
use Rattle.s7_rig.specs.Followed.{all_of}

-- ---- numbers that rise

abbrev pub Below : ℕ → List ℕ → Type 0
Below n xs = AllByRecursion (λ (x : ℕ). x < n) xs

below_more : (n m : ℕ) (xs : List ℕ) → n ≤ m → Below n xs → Below m xs
below_more n m [] more h = tt
below_more n m (x ∷ xs) more h = (omega (arith, h.0), below_more n m xs more h.1)

below_append : (n : ℕ) (xs ys : List ℕ) → Below n xs → Below n ys → Below n (xs ++ ys)
below_append n [] ys h k = k
below_append n (x ∷ xs) ys h k = (h.0, below_append n xs ys h.1 k)

below_front : (n : ℕ) (xs ys : List ℕ) → Below n (xs ++ ys) → Below n xs
below_front n [] ys h = tt
below_front n (x ∷ xs) ys h = (h.0, below_front n xs ys h.1)

counted_below : (n k : ℕ) → Below (n + k) (count_from n k)
unfolding count_from
counted_below n zero = tt
counted_below n (suc k) =
    (omega arith, below_more ((n + 1) + k) (n + suc k) (count_from (n + 1) k) (omega arith) (counted_below (n + 1) k))

counted_rise : (n k : ℕ) → Rise (count_from n k)
unfolding Rise count_from
counted_rise n zero = tt
counted_rise n (suc zero) = tt
counted_rise n (suc (suc k)) = (omega arith, counted_rise (n + 1) (suc k))

pub rise_front : (xs ys : List ℕ) → Rise (xs ++ ys) → Rise xs
unfolding Rise
rise_front [] ys h = tt
rise_front (x ∷ []) ys h = tt
rise_front (x ∷ y ∷ xs) ys h = (h.0, rise_front (y ∷ xs) ys h.1)

-- numbers, and others from one on that is above them
rise_counted : (n k : ℕ) (xs : List ℕ) → Rise xs → Below n xs → Rise (xs ++ count_from n k)
unfolding Rise count_from
rise_counted n k [] h below = counted_rise n k
rise_counted n zero (x ∷ []) h below = tt
rise_counted n (suc k) (x ∷ []) h below = (below.0, counted_rise n (suc k))
rise_counted n k (x ∷ y ∷ xs) h below = (h.0, rise_counted n k (y ∷ xs) h.1 below.1)

-- ---- a client's places

-- one more list of places
all_push : (places : List (List ℕ)) (ns : List ℕ) → all_of (places ++ ns ∷ []) ≡ all_of places ++ ns
all_push [] ns = append-nil ns
all_push (ms ∷ places) ns = ap (λ l. ms ++ l) (all_push places ns) ∙ sym (append_assoc ms (all_of places) ns)

-- all numbers that a client has: of the jobs that are done, and of the one under way
abbrev pub numbers_of : Post → List ℕ
numbers_of p = all_of p.places ++ unwrap_or p.noted []

-- WHAT HOLDS of a client's numbers
pub record Rises (b : BookTold) (p : Post) : Type 0 where
  pub rise : Rise (numbers_of p)
  pub below : Below (entry_count b) (numbers_of p)

start_rises : (b : BookTold) (p q : Post) → StartsNext p q ⊎ StartsNothing p q → Rises b p → Rises b q
start_rises b p q (inl s) h =
    subst (Rises b) (sym s.same) (record {
      rise = subst Rise (sym (append-nil (all_of p.places))) (rise_front (all_of p.places) (unwrap_or p.noted []) h.rise);
      below = subst (Below (entry_count b)) (sym (append-nil (all_of p.places)))
          (below_front (entry_count b) (all_of p.places) (unwrap_or p.noted []) h.below);
    })
start_rises b p q (inr s) h = subst (Rises b) (sym s.same) h

poll_rises : (b : BookTold) (p : Post) (result : Polled) → Rises b p → Rises b (with_polled result p)
poll_rises b p (polled.Done told) h =
    let same : all_of p.places ++ unwrap_or p.noted [] ≡ all_of (p.places ++ unwrap_or p.noted [] ∷ []) ++ [] =
    sym (append-nil (all_of (p.places ++ unwrap_or p.noted [] ∷ [])) ∙ all_push p.places (unwrap_or p.noted [])) in
    record { rise = subst Rise same h.rise; below = subst (Below (entry_count b)) same h.below }
poll_rises b p polled.Pending h = h
poll_rises b p polled.Idle h = h

pub client_rises : (b : BookTold) (p q : Post) (stirs : Bool) → IsClientTurn p q stirs → Rises b p → Rises b q
client_rises b p q stirs t h =
    let ready = start_rises b p t.ready t.starts h in
    subst (Rises b) (sym t.polls.same)
    (poll_rises b (record t.ready { client = t.polls.client; pipes = t.polls.pipes }) t.polls.result
    (record { rise = ready.rise; below = ready.below }))

-- a book has more entries behind a session's turn
more_entries : (b b' : BookTold) (p q : Post) (stirs : Bool) → IsSessionTurn p q b b' stirs → entry_count b ≤ entry_count b'
more_entries b b' p q stirs t =
    let g = t.takes.goes_on in
    omega (arith, ap length g.history, length-append (history_of b) g.calls)

noted_rise : (n k : ℕ) (xs : List ℕ) (o : Option (List ℕ)) → Rise (xs ++ unwrap_or o []) → Below n (xs ++ unwrap_or o [])
    → Rise (xs ++ unwrap_or (option_map (λ numbers. numbers ++ count_from n k) o) [])
    × Below (n + k) (xs ++ unwrap_or (option_map (λ numbers. numbers ++ count_from n k) o) [])
noted_rise n k xs None h below = (h, below_more n (n + k) (xs ++ []) (omega arith) below)
noted_rise n k xs (Some ns) h below =
    let same : (xs ++ ns) ++ count_from n k ≡ xs ++ (ns ++ count_from n k) = append_assoc xs ns (count_from n k) in (
      subst Rise same (rise_counted n k (xs ++ ns) h below),
      subst (Below (n + k)) same
          (below_append (n + k) (xs ++ ns) (count_from n k) (below_more n (n + k) (xs ++ ns) (omega arith) below) (counted_below n k)),
    )

pub session_rises : (b b' : BookTold) (p q : Post) (stirs : Bool) → IsSessionTurn p q b b' stirs → Rises b p → Rises b' q
session_rises b b' p q stirs t h =
    let n : ℕ = entry_count b in
    let more = more_entries b b' p q stirs t in
    let all : n + (entry_count b' - n) ≡ entry_count b' = omega arith in
    let noted = noted_rise n (entry_count b' - n) (all_of p.places) p.noted h.rise h.below in
    subst (Rises b') (sym t.same) (record {
      rise = noted.0;
      below = subst (λ m. Below m (all_of p.places ++ unwrap_or (option_map (λ numbers. numbers ++ count_from n (entry_count b' - n)) p.noted) [])) all noted.1;
    })

pub others_rise : (b b' : BookTold) (p q r : Post) (stirs : Bool) → IsSessionTurn p q b b' stirs → Rises b r → Rises b' r
others_rise b b' p q r stirs t h =
    record { rise = h.rise; below = below_more (entry_count b) (entry_count b') (numbers_of r) (more_entries b b' p q stirs t) h.below }
