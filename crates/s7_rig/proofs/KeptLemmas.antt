-- What each turn keeps of each client, every turn of a run keeps.
use Rattle.std.proofs.Common.{◌≡◌, ◌≢◌, ◌⊎◌, inl, inr, ℕ, zero, suc, ◌-◌, ◌*◌, Bool, true, false, List, [], ◌∷◌, ◌++◌, length, refl, ap, sym, ◌∙◌, subst, arith}
use Rattle.std.specs.Prelude.{Some, slice_get, slice_set, unwrap_or}
use Rattle.s7_schedule.specs.Drawing.{seeded}
use Rattle.s7_plant.specs.Books.{BookTold}
use Rattle.s7_rig.specs.State.{Post, State}
use Rattle.s7_rig.specs.Turns.{IsClientTurn, IsSessionTurn, ClientTurn, SessionTurn, IsTurnOf}
use Rattle.s7_rig.specs.Runs.{Turns, Rounds, IsRun, actors_of, most_rounds}

-- an element of a list with another one at a place is that one, or stood there before
get_set : (xs : List Post) (i : ℕ) (w : Post) (k : ℕ) (p : Post) → slice_get (slice_set xs i w) k ≡ Some p
    → ((k ≡ i) × (p ≡ w)) ⊎ ((k ≢ i) × (slice_get xs k ≡ Some p))
get_set [] i w k p e = absurd (cc)
get_set (x ∷ xs) zero w zero p e = inl (refl, ap (λ o. unwrap_or o p) (sym e))
get_set (x ∷ xs) zero w (suc k) p e = inr (λ same. absurd (omega (arith, same)), e)
get_set (x ∷ xs) (suc i) w zero p e = inr (λ same. absurd (omega (arith, same)), e)
get_set (x ∷ xs) (suc i) w (suc k) p e = up (get_set xs i w k p e)
  where
    up : ((k ≡ i) × (p ≡ w)) ⊎ ((k ≢ i) × (slice_get xs k ≡ Some p)) → ((suc k ≡ suc i) × (p ≡ w)) ⊎ ((suc k ≢ suc i) × (slice_get xs k ≡ Some p))
    up (inl h) = inl (ap suc h.0, h.1)
    up (inr h) = inr (λ same. h.0 (omega (arith, same)), h.1)

-- Q holds of the client at a place and the book: a client's turn keeps it, a session's own turn, and the turn of another
-- session
module _ (Q : ℕ → BookTold → Post → Type 0)
    (client : (k : ℕ) (b : BookTold) (p q : Post) (stirs : Bool) → IsClientTurn p q stirs → Q k b p → Q k b q)
    (session : (k : ℕ) (b b' : BookTold) (p q : Post) (stirs : Bool) → IsSessionTurn p q b b' stirs → Q k b p → Q k b' q)
    (other : (k : ℕ) (b b' : BookTold) (p q r : Post) (stirs : Bool) → IsSessionTurn p q b b' stirs → Q k b r → Q k b' r) where
  abbrev pub All : State → Type 0
  All s = (k : ℕ) (p : Post) → slice_get s.posts k ≡ Some p → Q k s.book p

  client_keeps : (i : ℕ) (s s' : State) (stirs : Bool) → ClientTurn i s s' stirs → All s → All s'
  client_keeps i s s' stirs t all k p at =
      let posts : s'.posts ≡ slice_set s.posts i t.post' = ap (λ (z : State). z.posts) t.same in
      let book : s'.book ≡ s.book = ap (λ (z : State). z.book) t.same in
      subst (λ b. Q k b p) (sym book) (by (get_set s.posts i t.post' k p (sym (ap (λ z. slice_get z k) posts) ∙ at)))
    where
      by : ((k ≡ i) × (p ≡ t.post')) ⊎ ((k ≢ i) × (slice_get s.posts k ≡ Some p)) → Q k s.book p
      by (inl h) =
          subst (Q k s.book) (sym h.1)
          (client k s.book t.post t.post' stirs t.turn (all k t.post (ap (slice_get s.posts) h.0 ∙ t.at)))
      by (inr h) = all k p h.1

  session_keeps : (i : ℕ) (s s' : State) (stirs : Bool) → SessionTurn i s s' stirs → All s → All s'
  session_keeps i s s' stirs t all k p at = by (get_set s.posts i t.post' k p (sym (ap (λ z. slice_get z k) t.same) ∙ at))
    where
      by : ((k ≡ i) × (p ≡ t.post')) ⊎ ((k ≢ i) × (slice_get s.posts k ≡ Some p)) → Q k s'.book p
      by (inl h) =
          subst (Q k s'.book) (sym h.1)
          (session k s.book s'.book t.post t.post' stirs t.turn (all k t.post (ap (slice_get s.posts) h.0 ∙ t.at)))
      by (inr h) = other k s.book s'.book t.post t.post' p stirs t.turn (all k p h.1)

  turn_keeps : (actor : ℕ) (s s' : State) (stirs : Bool) → IsTurnOf actor s s' stirs → All s → All s'
  turn_keeps actor s s' stirs (inl t) all = client_keeps actor s s' stirs t.1 all
  turn_keeps actor s s' stirs (inr t) all = session_keeps (actor - length s.posts) s s' stirs t.1 all

  pub turns_keep : (actors : List ℕ) (s s' : State) (stirs : Bool) → Turns actors s s' stirs → All s → All s'
  unfolding Turns
  turns_keep [] s s' stirs t all = subst All (sym t.0) all
  turns_keep (actor ∷ actors) s s' stirs t all =
      turns_keep actors t.0 s' t.2 t.4 (turn_keeps actor s t.0 t.1 t.3 all)

  rounds_keep : (most : ℕ) (s s' : State) → Rounds most s s' → All s → All s'
  unfolding Rounds
  rounds_keep zero s s' r all = subst All (sym r) all
  rounds_keep (suc more) s s' (inl r) all = subst All (sym r.1) all
  rounds_keep (suc more) s s' (inr r) all =
      let round = turns_keep (actors_of s) s r.1 r.2 r.3 all in
      by r.4 round (λ z. rounds_keep more r.1 s' z round)
    where
      by : ((r.2 ≡ false) × (s' ≡ r.1)) ⊎ ((r.2 ≡ true) × Rounds more r.1 s') → All r.1 → (Rounds more r.1 s' → All s') → All s'
      by (inl h) round later = subst All (sym h.1) round
      by (inr h) round later = later h.1

  -- WHAT A WHOLE RUN KEEPS
  pub run_keeps : (turns : List ℕ) (seed steps : ℕ) (s s' : State) → IsRun turns seed steps s s' → All s → All s'
  run_keeps turns seed steps s s' run all =
      rounds_keep most_rounds run.middle s' run.rounds
      (turns_keep (turns ++ seeded seed steps (2 * length s.posts)) s run.middle run.stirred run.turned all)
