-- The laws of what each client of a rig keeps.
use Rattle.std.proofs.Common.{◌≡◌, ◌⊎◌, inl, inr, ℕ, zero, suc, ◌+◌, false, List, [], ◌∷◌, ◌++◌, refl, ap, sym, ◌∙◌, subst}
use Rattle.std.specs.Prelude.{Option, None, Some, map, slice_get, unwrap_or}
use Rattle.s7_area.specs.Memory.{Memory}
use Rattle.s7_area.specs.declared.guard.Guard.{Guard}
use Rattle.s7_client.specs.Polling as client
use Rattle.s7_dialogue.specs.declared.config.Config.{Config}
use Rattle.s7_dialogue.specs.declared.job.Job.{Job}
use Rattle.s7_plant.specs.Books.{BookTold}
use Rattle.s7_rig.specs.Rigs.{RigRan, Turning}
use Rattle.s7_rig.specs.Runs.{AreFresh, IsFreshPost}
use Rattle.s7_rig.specs.Scripts.{Script}
use Rattle.s7_rig.specs.Shown.{ClientTold, EndTold, post_told}
use Rattle.s7_rig.specs.Split.{Rise}
use Rattle.s7_rig.specs.State.{Post, State}
use Rattle.s7_rig.specs.Turns.{entry_count}
use Rattle.s7_rig.specs.Followed.{Follow, all_of}
use Rattle.s7_rig.proofs.KeptLemmas.{run_keeps}
use Rattle.s7_rig.proofs.FollowLemmas.{Follows, client_follows, now_of, session_follows}
use Rattle.s7_rig.proofs.RiseLemmas.{Below, Rises, client_rises, numbers_of, others_rise, rise_front, session_rises}

-- ---- the start

fresh_follows : (guard : Option Guard) (config : Config) (link : ℕ) (script : Script) (p : Post) → IsFreshPost guard config link script p → Follows script p
unfolding Follow
fresh_follows guard config link script p f = record {
  runs = inl f.client.job;
  halts = f.halts;
  follow = subst (λ rs. Follow script.halts script.jobs rs (now_of (client.job_of p.client) ++ p.rest)) (sym f.results)
      (ap (λ o. now_of o ++ p.rest) f.client.job ∙ f.rest);
}

fresh_rises : (guard : Option Guard) (config : Config) (link : ℕ) (script : Script) (b : BookTold) (p : Post)
    → IsFreshPost guard config link script p → Rises b p
unfolding Rise
fresh_rises guard config link script b p f =
    let none : numbers_of p ≡ [] = (λ i. all_of (f.places i) ++ unwrap_or (f.noted i) []) in
    record { rise = subst Rise (sym none) tt; below = subst (Below (entry_count b)) (sym none) tt }

-- the client at a place is fresh, with its list of jobs
follows_at : (guard : Option Guard) (config : Config) (link : ℕ) (scripts : List Script) (posts : List Post) (k : ℕ) (p : Post) (script : Script)
    → AreFresh guard config link scripts posts → slice_get posts k ≡ Some p → slice_get scripts k ≡ Some script → Follows script p
unfolding AreFresh
follows_at guard config link [] [] k p script fresh at is = absurd (cc)
follows_at guard config link [] (q ∷ posts) k p script fresh at is = absurd fresh
follows_at guard config link (jobs ∷ scripts) [] k p script fresh at is = absurd fresh
follows_at guard config link (jobs ∷ scripts) (q ∷ posts) zero p script fresh at is =
    let same : q ≡ p = ap (λ o. unwrap_or o q) at in
    let own : jobs ≡ script = ap (λ o. unwrap_or o jobs) is in
    subst (Follows script) same (subst (λ s. Follows s q) own (fresh_follows guard config link jobs q fresh.0))
follows_at guard config link (jobs ∷ scripts) (q ∷ posts) (suc k) p script fresh at is =
    follows_at guard config (link + 1) scripts posts k p script fresh.1 at is

rises_at : (guard : Option Guard) (config : Config) (link : ℕ) (scripts : List Script) (posts : List Post) (b : BookTold) (k : ℕ) (p : Post)
    → AreFresh guard config link scripts posts → slice_get posts k ≡ Some p → Rises b p
unfolding AreFresh
rises_at guard config link [] [] b k p fresh at = absurd (cc)
rises_at guard config link [] (q ∷ posts) b k p fresh at = absurd fresh
rises_at guard config link (jobs ∷ scripts) [] b k p fresh at = absurd fresh
rises_at guard config link (jobs ∷ scripts) (q ∷ posts) b zero p fresh at =
    subst (Rises b) (ap (λ o. unwrap_or o q) at) (fresh_rises guard config link jobs b q fresh.0)
rises_at guard config link (jobs ∷ scripts) (q ∷ posts) b (suc k) p fresh at =
    rises_at guard config (link + 1) scripts posts b k p fresh.1 at

-- ---- the end

post_at : (posts : List Post) (k : ℕ) (c : ClientTold) → slice_get (map post_told posts) k ≡ Some c
    → (p : Post) × (slice_get posts k ≡ Some p) × (post_told p ≡ c)
post_at [] k c at = absurd (cc)
post_at (p ∷ posts) zero c at = (p, refl, ap (λ o. unwrap_or o c) at)
post_at (p ∷ posts) (suc k) c at = post_at posts k c at

module _ (opening : Memory) (limit : ℕ) (config : Config) (scripts : List Script) (turning : Turning) (end : EndTold)
    (ran : RigRan opening limit config scripts turning end) where
  -- what is told of a client is that of its place in the end
  told_at : (k : ℕ) (c : ClientTold) → slice_get end.clients k ≡ Some c → (p : Post) × (slice_get ran.last.posts k ≡ Some p) × (post_told p ≡ c)
  told_at k c at = post_at ran.last.posts k c (ap (λ (e : EndTold). slice_get e.clients k) (sym ran.ends) ∙ at)

  abbrev Owns : ℕ → BookTold → Post → Type 0
  Owns k b p = (script : Script) → slice_get scripts k ≡ Some script → Follows script p

  pub rig_follows : (k : ℕ) (c : ClientTold) (script : Script) → slice_get end.clients k ≡ Some c → slice_get scripts k ≡ Some script
      → (left : List Job) × Follow script.halts script.jobs c.results left
  rig_follows k c script at is =
      let told = told_at k c at in
      let all = run_keeps Owns
      (λ j b p q stirs t owns s e. client_follows s p q stirs t (owns s e))
      (λ j b b' p q stirs t owns s e. session_follows s p q b b' stirs t (owns s e))
      (λ j b b' p q r stirs t owns. owns)
      turning.turns turning.seed turning.steps ran.start ran.last ran.run
      (λ j p here s e. follows_at opening.guard config 1 scripts ran.start.posts j p s ran.fresh here e) in
      let h = all k told.0 told.1 script is in (
        now_of (client.job_of told.0.client) ++ told.0.rest,
        subst (λ rs. Follow script.halts script.jobs rs (now_of (client.job_of told.0.client) ++ told.0.rest)) (ap (λ (d : ClientTold). d.results) told.2) h.follow,
      )

  pub rig_rises : (k : ℕ) (c : ClientTold) → slice_get end.clients k ≡ Some c → Rise (all_of c.places)
  rig_rises k c at =
      let told = told_at k c at in
      let all = run_keeps (λ j b p. Rises b p)
      (λ j b p q stirs t h. client_rises b p q stirs t h)
      (λ j b b' p q stirs t h. session_rises b b' p q stirs t h)
      (λ j b b' p q r stirs t h. others_rise b b' p q r stirs t h)
      turning.turns turning.seed turning.steps ran.start ran.last ran.run
      (λ j p here. rises_at opening.guard config 1 scripts ran.start.posts ran.start.book j p ran.fresh here) in
      let h = all k told.0 told.1 in
      subst (λ ps. Rise (all_of ps)) (ap (λ (d : ClientTold). d.places) told.2)
      (rise_front (all_of told.0.places) (unwrap_or told.0.noted []) h.rise)
