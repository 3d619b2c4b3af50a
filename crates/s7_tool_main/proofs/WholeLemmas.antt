-- A watcher that came to its disconnect, with code 0 in all results, has the samples of all its reads.
use Rattle.std.proofs.Common.{◌≡◌, ◌∙◌, ◌&&◌, ◌-◌, ℕ, suc, Bool, true, false, List, [], ◌∷◌, ◌++◌, length, drop, refl, sym, ap, subst, arith}
use Rattle.std.specs.Prelude.{slice_get}
use Rattle.std.specs.List.{list_all}
use Rattle.std.proofs.lemmas.Bool.{eqb-true, false≢true}
use Rattle.s7_dialogue.specs.declared.job.Job.{Job}
use Rattle.s7_dialogue.specs.declared.job.Job.TheVariants as job
use Rattle.s7_dialogue.specs.declared.job.JobResult.{JobResult}
use Rattle.s7_plant.specs.State.{State}
use Rattle.s7_session.specs.Books.{History}
use Rattle.s7_rig.specs.Followed.{Follow}
use Rattle.s7_rig.specs.Scripts.{left_behind, reads_many}
use Rattle.s7_watch.specs.Looks.{Look, jobs_of}
use Rattle.s7_watch.specs.Samples.{Sample}
use Rattle.s7_watched.specs.Watched.{AreSampled}
use Rattle.s7_tool_main.specs.RigText.{has_left, is_disconnect, is_last}
use Rattle.s7_tool_main.specs.Run.{is_good}

and_both : (x y : Bool) → (x && y) ≡ true → (x ≡ true) × (y ≡ true)
and_both true y h = (refl, h)
and_both false y h = absurd (false≢true h)

-- the last of several results is the last of all but the first
last_behind : (prior told : JobResult) (results : List JobResult)
    → has_left (prior ∷ told ∷ results) ≡ has_left (told ∷ results)
last_behind prior told results =
    let one : length (prior ∷ told ∷ results) - 1 ≡ suc (length (told ∷ results) - 1) = omega arith in
    ap (λ k. is_last (slice_get (prior ∷ told ∷ results) k)) one

-- nothing is dropped behind a result with code 0
kept : (told : JobResult) (rest : List Job) → told.code ≡ 0 → left_behind true told rest ≡ rest
kept told rest good = by (reads_many told.job) refl
  where
    by : (b : Bool) → reads_many told.job ≡ b → left_behind true told rest ≡ rest
    by true is = rw (is, good) refl
    by false is = rw is refl

module _ (opening : State) (history : History) (link pdu : ℕ) where
  -- behind the result of a job that is no disconnect
  whole_behind : (ahead : List Look) (prior : JobResult) (results : List JobResult) (places : List (List ℕ))
      (readings : List (List Sample)) (end : List ℕ) (left : List Job) → is_disconnect prior.job ≡ false
      → Follow true (jobs_of ahead ++ job.Disconnect ∷ []) results left → has_left (prior ∷ results) ≡ true
      → list_all is_good results ≡ true → AreSampled opening history link pdu ahead results places readings end
      → (length readings ≡ length ahead) × (end ≡ [])
  unfolding Follow AreSampled
  whole_behind [] prior results places readings end left other follow last good sampled =
      (ap length sampled.0, sampled.1)
  whole_behind (look ∷ ahead) prior [] places readings end left other follow last good sampled =
      absurd (false≢true (sym other ∙ last))
  whole_behind (look ∷ ahead) prior (told ∷ results) [] readings end left other follow last good sampled = absurd sampled
  whole_behind (look ∷ ahead) prior (told ∷ results) (numbers ∷ places) [] end left other follow last good sampled =
      absurd (sampled.0 (eqb-true told.code 0 (and_both (is_good told) (list_all is_good results) good).0))
  whole_behind (look ∷ ahead) prior (told ∷ results) (numbers ∷ places) (samples ∷ readings) end left other follow last good sampled =
      let rest : List Job = jobs_of ahead ++ job.Disconnect ∷ [] in
      let more =
      whole_behind ahead told results places readings end left (ap is_disconnect follow.0)
      (subst (λ jobs. Follow true jobs results left) (kept told rest sampled.0) follow.1)
      (sym (last_behind prior told results) ∙ last) (and_both (is_good told) (list_all is_good results) good).1 sampled.2 in
      (ap suc more.0, more.1)

  -- behind the connect
  pub whole_watch : (ahead : List Look) (results : List JobResult) (places : List (List ℕ))
      (readings : List (List Sample)) (end : List ℕ) (left : List Job)
      → Follow true (job.Connect ∷ (jobs_of ahead ++ job.Disconnect ∷ [])) results left
      → (has_left results && list_all is_good results) ≡ true
      → AreSampled opening history link pdu ahead (drop 1 results) places readings end
      → (length readings ≡ length ahead) × (end ≡ [])
  unfolding Follow
  whole_watch ahead [] places readings end left follow good sampled = absurd (false≢true good)
  whole_watch ahead (told ∷ results) places readings end left follow good sampled =
      let rest : List Job = jobs_of ahead ++ job.Disconnect ∷ [] in
      let both = and_both (has_left (told ∷ results)) (list_all is_good (told ∷ results)) good in
      let each = and_both (is_good told) (list_all is_good results) both.1 in
      whole_behind ahead told results places readings end left (ap is_disconnect follow.0)
      (subst (λ jobs. Follow true jobs results left) (kept told rest (eqb-true told.code 0 each.0)) follow.1) both.0 each.1
      sampled
