-- Each result of a rig has its form.
use Rattle.std.proofs.Common.{◌≡◌, ◌≢◌, ◌⊎◌, ℕ, ◌+◌, zero, suc, ◌++◌, Bool, List, [], ◌∷◌, Option, None, Some, sym, subst, inl, inr, arith}
use Rattle.std.specs.Prelude.{All, slice_get}
use Rattle.std.proofs.lemmas.List.Elements.{All-nil, All-cons, All-set, All-push, All-map}
use Rattle.std.proofs.lemmas.Option.{slice_get_within, get_or_from_slice_get}
use Rattle.s7_outer.specs.Shown.{Shown}
use Rattle.s7_memory.specs.PipesHeld.{PipesHeld}
use Rattle.s7_area.specs.Memory.{Memory}
use Rattle.s7_area.specs.declared.guard.Guard.{Guard}
use Rattle.s7_client.specs.declared.connection.Connection.{Connection}
use Rattle.s7_dialogue.specs.Codes.{link_ended, send_failed, receive_failed, timed_out}
use Rattle.s7_dialogue.specs.declared.config.Config.{Config}
use Rattle.s7_dialogue.specs.declared.job.Job.{Job}
use Rattle.s7_rig.specs.Scripts.{Script}
use Rattle.s7_dialogue.specs.declared.job.JobResult.{JobResult}
use Rattle.s7_client.specs.declared.job.Polled.{Polled}
use Rattle.s7_client.specs.declared.job.Polled.TheVariants as polled
use Rattle.s7_dialogue.specs.Course.{Origin}
use Rattle.s7_dialogue.specs.Dialogue.{End, fault_end}
use Rattle.s7_client.specs.Form.{HasForm, EndsHaveForm}
use Rattle.s7_client.specs.Polling.{IsPoll, IsDoneBy, StandsFor, Comes, job_of, waited_of, origin_at}
use Rattle.s7_client.specs.Standing.{HasCause}
use Rattle.s7_rig.specs.Formed.{IsFormed, AreFormed}
use Rattle.s7_rig.specs.Rigs.{RigRan, Turning}
use Rattle.s7_rig.specs.Runs.{AreFresh, Rounds, Turns, most_rounds}
use Rattle.s7_rig.specs.Shown.{EndTold, post_told}
use Rattle.s7_rig.specs.State.{Post, State}
use Rattle.s7_rig.specs.Turns.{IsClientTurn, IsTurnOf, StartsNext, StartsNothing, with_polled}
use Rattle.s7_rig.proofs.ClientFacts.{waits_for_none, some_job}

-- ---- ends

fault_formed : EndsHaveForm → (asked : Job) (end : End) (code : ℕ) → code ≢ 0 → end ≡ fault_end code → HasForm asked end
fault_formed law asked end code bad is = subst (HasForm asked) (sym is) (law.fault asked code bad)

cause_formed : EndsHaveForm → (origin : Origin) (k k' : Shown) (kept : List ℕ) (end : End) (carried b w : List ℕ)
    → HasCause origin k k' kept end carried b w → HasForm origin.job end
cause_formed law origin k k' kept end carried b w (inl h) = law.octets origin b end carried h.over
cause_formed law origin k k' kept end carried b w (inr (inl h)) =
    subst (HasForm origin.job) (sym h.is) (law.departure origin b h.awaited).1
cause_formed law origin k k' kept end carried b w (inr (inr (inl h))) = fault_formed law origin.job end link_ended (λ e. absurd (omega (arith, e))) h.fault.0
cause_formed law origin k k' kept end carried b w (inr (inr (inr (inl h)))) = fault_formed law origin.job end receive_failed (λ e. absurd (omega (arith, e))) h.fault.0
cause_formed law origin k k' kept end carried b w (inr (inr (inr (inr h)))) = fault_formed law origin.job end send_failed (λ e. absurd (omega (arith, e))) h.fault.0

done_by_formed : EndsHaveForm → (origin : Origin) (k k' : Shown) (kept : List ℕ) (end : End) (carried b w : List ℕ) (waited : Option ℕ)
    → IsDoneBy origin k k' kept end carried b w waited → HasForm origin.job end
done_by_formed law origin k k' kept end carried b w waited (inl h) = cause_formed law origin k k' kept end carried b w h
done_by_formed law origin k k' kept end carried b w waited (inr h) = fault_formed law origin.job end timed_out (λ e. absurd (omega (arith, e))) h.fault.0

-- ---- polls

-- no job is outstanding, or the client stands for the octets of one
abbrev Standing : Connection → Type 0
Standing c = (job_of c ≡ None) ⊎ ((origin : Origin) × (b : List ℕ) × (w : List ℕ) × StandsFor c origin b w)

done_formed : EndsHaveForm → (old new : Connection) (k k' : Shown) (told : JobResult) (used written : List ℕ)
    → Standing old → Comes old k new k' used written (polled.Done told) → IsFormed told
done_formed law old new k k' told used written (inl none) h = absurd (some_job (job_of old) h.0 none)
done_formed law old new k k' told used written (inr (origin, b, w, s)) h =
    let d = h.2 origin b w s in
    record {
      asked = origin.job;
      end = d.end;
      carried = d.carried;
      result = d.result;
      form = done_by_formed law origin k k' _ d.end d.carried (b ++ used) (w ++ written) (waited_of old) d.cause;
    }

pending_stands : (old new : Connection) (k k' : Shown) (used written : List ℕ) → Standing old → Comes old k new k' used written polled.Pending → Standing new
pending_stands old new k k' used written (inl none) h = absurd (waits_for_none old new _ none h.0.waited)
pending_stands old new k k' used written (inr (origin, b, w, s)) h = inr (origin, b ++ used, w ++ written, (h.1 origin b w s).stands)

-- ---- posts

record IsGoing (p : Post) : Type 0 where
  standing : Standing p.client
  formed : All IsFormed p.results

poll_goes : EndsHaveForm → (p : Post) (client : Connection) (pipes : PipesHeld) (k k' : Shown) (result : Polled) → IsGoing p
    → IsPoll p.client k client k' result → IsGoing (with_polled result (record p { client = client; pipes = pipes }))
poll_goes law p client pipes k k' (polled.Done told) g h = record {
  standing = inl h.comes.1;
  formed = All-push IsFormed p.results told g.formed (done_formed law p.client client k k' told _ _ g.standing h.comes);
}
poll_goes law p client pipes k k' polled.Pending g h = record {
  standing = pending_stands p.client client k k' _ _ g.standing h.comes;
  formed = g.formed;
}
poll_goes law p client pipes k k' polled.Idle g h = record {
  standing = subst Standing (sym h.comes.1) g.standing;
  formed = g.formed;
}

ready_goes : (old ready : Post) → IsGoing old → StartsNext old ready ⊎ StartsNothing old ready → IsGoing ready
ready_goes old ready g (inl h) = subst IsGoing (sym h.same)
    (record { standing = inr (origin_at old.client h.job, [], [], h.started.stands); formed = g.formed })
ready_goes old ready g (inr h) = subst IsGoing (sym h.same) g

client_goes : EndsHaveForm → (old new : Post) (stirs : Bool) → IsGoing old → IsClientTurn old new stirs → IsGoing new
client_goes law old new stirs g h = subst IsGoing (sym h.polls.same)
    (poll_goes law h.ready h.polls.client h.polls.pipes _ _ h.polls.result (ready_goes old h.ready g h.starts) h.polls.poll.poll)

at_post : (ps : List Post) (k : ℕ) (p : Post) → slice_get ps k ≡ Some p → All IsGoing ps → IsGoing p
at_post ps k p e h = subst IsGoing (get_or_from_slice_get ps k p p e) (h k p (slice_get_within ps k p e))

turn_goes : EndsHaveForm → (actor : ℕ) (old new : State) (stirs : Bool) → All IsGoing old.posts → IsTurnOf actor old new stirs → All IsGoing new.posts
turn_goes law actor old new stirs g (inl h) =
    let t = h.1 in
    subst (λ (s : State). All IsGoing s.posts) (sym t.same)
    (All-set IsGoing old.posts actor t.post' (client_goes law t.post t.post' stirs (at_post old.posts actor t.post t.at g) t.turn) g)
turn_goes law actor old new stirs g (inr h) =
    let t = h.1 in
    let before = at_post old.posts _ t.post t.at g in
    let after : IsGoing t.post' = subst IsGoing (sym t.turn.same) (record { standing = before.standing; formed = before.formed }) in
    subst (All IsGoing) (sym t.same) (All-set IsGoing old.posts _ t.post' after g)

-- ---- runs

turns_go : EndsHaveForm → (actors : List ℕ) (old new : State) (stirs : Bool) → All IsGoing old.posts → Turns actors old new stirs → All IsGoing new.posts
unfolding Turns
turns_go law [] old new stirs g h = subst (λ (s : State). All IsGoing s.posts) (sym h.0) g
turns_go law (actor ∷ actors) old new stirs g (middle, first, later, turn, turns, e) =
    turns_go law actors middle new later (turn_goes law actor old middle first g turn) turns

rounds_go : EndsHaveForm → (most : ℕ) (old new : State) → All IsGoing old.posts → Rounds most old new → All IsGoing new.posts
unfolding Rounds
rounds_go law zero old new g h = subst (λ (s : State). All IsGoing s.posts) (sym h) g
rounds_go law (suc more) old new g (inl h) = subst (λ (s : State). All IsGoing s.posts) (sym h.1) g
rounds_go law (suc more) old new g (inr (busy, middle, stirs, turns, inl h)) =
    subst (λ (s : State). All IsGoing s.posts) (sym h.1) (turns_go law _ old middle stirs g turns)
rounds_go law (suc more) old new g (inr (busy, middle, stirs, turns, inr h)) =
    rounds_go law more middle new (turns_go law _ old middle stirs g turns) h.1

fresh_goes : (guard : Option Guard) (config : Config) (link : ℕ) (scripts : List Script) (posts : List Post) → AreFresh guard config link scripts posts → All IsGoing posts
unfolding AreFresh
fresh_goes guard config link [] [] h = All-nil IsGoing
fresh_goes guard config link [] (p ∷ posts) h = absurd h
fresh_goes guard config link (jobs ∷ scripts) [] h = absurd h
fresh_goes guard config link (jobs ∷ scripts) (p ∷ posts) h =
    All-cons IsGoing p posts
    (record { standing = inl h.0.client.job; formed = subst (All IsFormed) (sym h.0.results) (All-nil IsFormed) })
    (fresh_goes guard config (link + 1) scripts posts h.1)

-- each result that a rig tells has its form
pub rig_formed : EndsHaveForm → (opening : Memory) (limit : ℕ) (config : Config) (scripts : List Script) (turning : Turning) (end : EndTold)
    → RigRan opening limit config scripts turning end → All AreFormed end.clients
rig_formed law opening limit config scripts turning end h =
    let begun = fresh_goes opening.guard config 1 scripts h.start.posts h.fresh in
    let turned = turns_go law _ h.start h.run.middle h.run.stirred begun h.run.turned in
    let gone = rounds_go law most_rounds h.run.middle h.last turned h.run.rounds in
    subst (λ (e : EndTold). All AreFormed e.clients) (sym h.ends)
    (All-map AreFormed post_told h.last.posts (λ k d lt. (gone k d lt).formed))
