-- A poll of a client.
use Rattle.std.proofs.Common.{◌≡◌, ℕ, ◌||◌, Bool, true, false, List, [], ◌∷◌, ◌++◌, Option, None, refl, ap, sym, ◌∙◌, unwrap_or, ◌⊎◌, inl, inr, length, ◌≤◌}
use Rattle.std.proofs.Math.Bool.{or-false}
use Rattle.std.proofs.lemmas.Bool.{true≢false}
use Rattle.s7_memory.specs.PipesHeld.{PipesHeld}
use Rattle.s7_client.specs.declared.connection.Connection.{Connection}
use Rattle.s7_dialogue.specs.declared.job.Job.{Job}
use Rattle.s7_dialogue.specs.declared.job.JobResult.{JobResult}
use Rattle.s7_client.specs.declared.job.Polled.{Polled}
use Rattle.s7_client.specs.declared.job.Polled.TheVariants as polled
use Rattle.s7_rig.specs.Scripts.{left_behind}
use Rattle.s7_rig.specs.State.{Post}
use Rattle.s7_rig.specs.Turns.{PollsOver, PollsOnce, have_moved, is_done}

or_true : (b : Bool) → true ≡ (b || true)
or_true true = refl
or_true false = refl

kept_same : (p : Post) (rest rest' : List Job) (results results' : List JobResult) (places places' : List (List ℕ)) (noted noted' : Option (List ℕ))
    → rest ≡ rest' → results ≡ results' → places ≡ places' → noted ≡ noted'
    → record p { rest = rest; results = results; places = places; noted = noted } ≡ record p { rest = rest'; results = results'; places = places'; noted = noted' }
kept_same p rest rest' results results' places places' noted noted' r a b d =
    ap (λ x. record p { rest = x; results = results; places = places; noted = noted }) r
    ∙ (ap (λ x. record p { rest = rest'; results = x; places = places; noted = noted }) a
    ∙ (ap (λ x. record p { rest = rest'; results = results'; places = x; noted = noted }) b
    ∙ ap (λ x. record p { rest = rest'; results = results'; places = places'; noted = x }) d))

-- a job is done, and its result and its places are kept
pub polls_done : (p : Post) (client : Connection) (pipes : PipesHeld) (told : JobResult) (rest : List Job) (results : List JobResult) (places : List (List ℕ)) (noted : Option (List ℕ))
    → PollsOver p.client p.pipes client pipes (polled.Done told) → length pipes.to_server ≤ pipes.room
    → rest ≡ left_behind p.halts told p.rest → results ≡ p.results ++ told ∷ [] → places ≡ p.places ++ unwrap_or p.noted [] ∷ [] → noted ≡ None
    → PollsOnce p (record p { client = client; pipes = pipes; rest = rest; results = results; places = places; noted = noted }) true
polls_done p client pipes told rest results places noted poll fits r a b d = record {
  client = client;
  pipes = pipes;
  result = polled.Done told;
  poll = poll;
  fits = fits;
  same = kept_same (record p { client = client; pipes = pipes }) rest _ results _ places _ noted _ r a b d;
  stirs_is = or_true (have_moved p.pipes pipes);
}

-- no job is done
pub polls_on : (p : Post) (client : Connection) (pipes : PipesHeld) (r : Polled) (stirs : Bool)
    → (r ≡ polled.Pending) ⊎ (r ≡ polled.Idle) → PollsOver p.client p.pipes client pipes r → length pipes.to_server ≤ pipes.room
    → stirs ≡ have_moved p.pipes pipes → PollsOnce p (record p { client = client; pipes = pipes }) stirs
polls_on p client pipes polled.Pending stirs e poll fits h = record {
  client = client;
  pipes = pipes;
  result = polled.Pending;
  poll = poll;
  fits = fits;
  same = refl;
  stirs_is = h ∙ sym (or-false (have_moved p.pipes pipes));
}
polls_on p client pipes polled.Idle stirs e poll fits h = record {
  client = client;
  pipes = pipes;
  result = polled.Idle;
  poll = poll;
  fits = fits;
  same = refl;
  stirs_is = h ∙ sym (or-false (have_moved p.pipes pipes));
}
polls_on p client pipes (polled.Done told) stirs (inl e) poll fits h = absurd (true≢false (ap is_done e))
polls_on p client pipes (polled.Done told) stirs (inr e) poll fits h = absurd (true≢false (ap is_done e))
