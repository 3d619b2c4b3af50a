-- The results of a client are of its script's jobs in order.
use Rattle.std.proofs.Common.{◌-◌, ◌≡◌, ◌⊎◌, inl, inr, ℕ, Bool, true, false, List, [], ◌∷◌, ◌++◌, refl, ap, sym, ◌∙◌, subst}
use Rattle.std.specs.Prelude.{Option, None, Some, option_map, unwrap_or, IsSome}
use Rattle.s7_memory.specs.PipesHeld.{PipesHeld}
use Rattle.s7_outer.specs.Shown.{Shown}
use Rattle.s7_client.specs.declared.connection.Connection.{Connection}
use Rattle.s7_client.specs.declared.job.Polled.{Polled}
use Rattle.s7_client.specs.declared.job.Polled.TheVariants as polled
use Rattle.s7_client.specs.declared.under_way.UnderWay.{UnderWay}
use Rattle.s7_client.specs.Polling as client
use Rattle.s7_dialogue.specs.declared.job.Job.{Job}
use Rattle.s7_dialogue.specs.declared.job.JobResult.{JobResult}
use Rattle.s7_dialogue.specs.Course.{Origin}
use Rattle.s7_plant.specs.Books.{BookTold}
use Rattle.s7_rig.specs.State.{Post}
use Rattle.s7_session.specs.declared.session.Session.{Session}
use Rattle.s7_rig.specs.Numbers.{count_from}
use Rattle.s7_rig.specs.Turns.{entry_count, StartsNext, StartsNothing, PollsOnce, IsClientTurn, IsSessionTurn, with_polled}
use Rattle.s7_rig.proofs.ClientFacts.{some_job, waits_for_none}
use Rattle.s7_rig.specs.Followed.{Follow}
use Rattle.s7_rig.specs.Scripts.{Script, left_behind}

-- one more result, of the next job
pub Follow-push : (halts : Bool) (script : List Job) (results : List JobResult) (told : JobResult) (next : Job) (left : List Job)
    → Follow halts script results (next ∷ left) → told.job ≡ next
    → Follow halts script (results ++ told ∷ []) (left_behind halts told left)
unfolding Follow
Follow-push halts [] [] told next left follow is = absurd (cc follow)
Follow-push halts (j ∷ script) [] told next left follow is =
    let job : next ≡ j = cc in
    let rest : left ≡ script = cc in
    (is ∙ job, ap (left_behind halts told) rest)
Follow-push halts [] (r ∷ results) told next left follow is = absurd follow
Follow-push halts (j ∷ script) (r ∷ results) told next left follow is =
    (follow.0, Follow-push halts (left_behind halts r script) results told next left follow.1 is)

-- a client has a job that it stands for, or none
pub record IsUnder (p : Post) : Type 0 where
  pub origin : Origin
  pub heard : List ℕ
  pub sent : List ℕ
  pub stands : client.StandsFor p.client origin heard sent

abbrev pub Runs : Post → Type 0
Runs p = (client.job_of p.client ≡ None) ⊎ IsUnder p

abbrev pub now_of : Option Job → List Job
now_of None = []
now_of (Some j) = j ∷ []

-- WHAT HOLDS of a client with a script
pub record Follows (script : Script) (p : Post) : Type 0 where
  pub runs : Runs p
  pub halts : p.halts ≡ script.halts
  pub follow : Follow script.halts script.jobs p.results (now_of (client.job_of p.client) ++ p.rest)

job_is : (c : Connection) (origin : Origin) (b w : List ℕ) → client.StandsFor c origin b w → client.job_of c ≡ Some origin.job
job_is c origin b w s = ap (option_map (λ (u : UnderWay). u.running.job)) s.is ∙ ap Some s.stands.at.job

start_follows : (script : Script) (p q : Post) → StartsNext p q ⊎ StartsNothing p q → Follows script p → Follows script q
start_follows script p q (inl s) h =
    let begun = job_is s.client (client.origin_at p.client s.job) [] [] s.started.stands in
    subst (Follows script) (sym s.same) (record {
      runs = inr (record { origin = client.origin_at p.client s.job; heard = []; sent = []; stands = s.started.stands });
      halts = h.halts;
      follow = subst (λ l. Follow script.halts script.jobs p.results l)
          (ap (λ o. now_of o ++ p.rest) s.idle ∙ s.left ∙ ap (λ o. now_of o ++ s.rest) (sym begun)) h.follow;
    })
start_follows script p q (inr s) h = subst (Follows script) (sym s.same) h

abbrev moved : Post → Connection → PipesHeld → Post
moved p c pipes = record p { client = c; pipes = pipes }

poll_follows : (script : Script) (p : Post) (c : Connection) (pipes : PipesHeld) (link link' : Shown) (used written : List ℕ) (result : Polled)
    → client.Comes p.client link c link' used written result → Follows script p
    → Follows script (with_polled result (moved p c pipes))
poll_follows script p c pipes link link' used written (polled.Done told) comes h = by h.runs
  where
    by : Runs p → Follows script (with_polled (polled.Done told) (moved p c pipes))
    by (inl idle) = absurd (some_job (client.job_of p.client) comes.0 idle)
    by (inr u) =
        let done = comes.2 u.origin u.heard u.sent u.stands in
        let was = job_is p.client u.origin u.heard u.sent u.stands in
        record {
          runs = inl comes.1;
          halts = h.halts;
          follow = subst (λ o. Follow script.halts script.jobs (p.results ++ told ∷ []) (now_of o ++ left_behind p.halts told p.rest)) (sym comes.1)
              (subst (λ b. Follow script.halts script.jobs (p.results ++ told ∷ []) (left_behind b told p.rest)) (sym h.halts)
              (Follow-push script.halts script.jobs p.results told u.origin.job p.rest
              (subst (λ o. Follow script.halts script.jobs p.results (now_of o ++ p.rest)) was h.follow) done.result.job));
        }
poll_follows script p c pipes link link' used written polled.Pending comes h = by h.runs
  where
    by : Runs p → Follows script (moved p c pipes)
    by (inl idle) = absurd (waits_for_none p.client c (client.config_of p.client).polls idle comes.0.waited)
    by (inr u) =
        let still = (comes.1 u.origin u.heard u.sent u.stands).stands in
        let was = job_is p.client u.origin u.heard u.sent u.stands in
        let is = job_is c u.origin (u.heard ++ used) (u.sent ++ written) still in
        record {
          runs = inr (record { origin = u.origin; heard = u.heard ++ used; sent = u.sent ++ written; stands = still });
          halts = h.halts;
          follow = subst (λ o. Follow script.halts script.jobs p.results (now_of o ++ p.rest)) (was ∙ sym is) h.follow;
        }
poll_follows script p c pipes link link' used written polled.Idle comes h =
    record {
      runs = inl (ap client.job_of comes.1 ∙ comes.0);
      halts = h.halts;
      follow = subst (λ o. Follow script.halts script.jobs p.results (now_of o ++ p.rest)) (sym (ap client.job_of comes.1)) h.follow;
    }

pub client_follows : (script : Script) (p q : Post) (stirs : Bool) → IsClientTurn p q stirs → Follows script p → Follows script q
client_follows script p q stirs t h =
    let polls = t.polls in
    subst (Follows script) (sym polls.same)
    (poll_follows script t.ready polls.client polls.pipes _ _ _ _ polls.result polls.poll.poll.comes
    (start_follows script p t.ready t.starts h))

abbrev after_session : Post → BookTold → BookTold → Session → PipesHeld → Post
after_session p book book' session pipes = record p {
  session = session;
  pipes = pipes;
  noted = option_map (λ numbers. numbers ++ count_from (entry_count book) (entry_count book' - entry_count book)) p.noted;
}

pub session_follows : (script : Script) (p q : Post) (b b' : BookTold) (stirs : Bool) → IsSessionTurn p q b b' stirs → Follows script p → Follows script q
session_follows script p q b b' stirs t h = subst (Follows script) (sym t.same) (by h.runs)
  where
    by : Runs p → Follows script (after_session p b b' t.session t.pipes)
    by (inl idle) = record { runs = inl idle; halts = h.halts; follow = h.follow }
    by (inr u) = record { runs = inr (record { origin = u.origin; heard = u.heard; sent = u.sent; stands = u.stands }); halts = h.halts; follow = h.follow }
