-- Laws of octets that are sent, and of jobs that are over once they are.
use Rattle.std.proofs.Common.{◌≡◌, inl, inr, ℕ, ◌+◌, ◌-◌, ◌*◌, ◌<◌, ◌≤◌, List, [], ◌++◌, length, refl, ap, sym, ◌∙◌, subst, append_assoc, arith, length-append}
use Rattle.std.specs.Prelude.{Option, None, Some, IsSome, unwrap_or, option_map, IfSome, ◌↔◌}
use Rattle.std.proofs.lemmas.List.{append-nil}
use Rattle.std.specs.Io.KnownBytes.{append_known}
use Rattle.s7_outer.specs.Shown.{Shown}
use Rattle.s7_outer.specs.Count.{Rose}
use Rattle.s7_outer.specs.declared.link.Sent.TheVariants as sent
use Rattle.s7_tpkt.specs.Packets.{HoldsRest}
use Rattle.s7_wire.specs.Reads.{size_at, unfinished_in, held_by}
use Rattle.s7_wire.specs.declared.reader.Reader.{Reader}
use Rattle.s7_dialogue.specs.declared.config.Config.{Config}
use Rattle.s7_dialogue.specs.declared.grant.Grant.{Grant}
use Rattle.s7_dialogue.specs.declared.stages.running.Stage.{Stage}
use Rattle.s7_dialogue.specs.declared.stages.running.Stage.TheVariants as stage
use Rattle.s7_client.specs.declared.channel.Channel.{Channel}
use Rattle.s7_client.specs.declared.under_way.UnderWay.{UnderWay}
use Rattle.s7_client.specs.declared.channel.Step.TheVariants as step
use Rattle.s7_dialogue.specs.Codes.{send_failed}
use Rattle.s7_dialogue.specs.Dialogue.{End, fault_end, departed_end}
use Rattle.s7_dialogue.specs.Running.{awaited_in, awaited_by, unput_of, IsOver, IsLeaving}
use Rattle.s7_dialogue.specs.Course.{Origin, Course, for_departure, for_nothing, course, may_send, limits}
use Rattle.s7_client.specs.At.{IsAt, IsReading, IsClear, budget, pending, joiner_in, size_by, size_in}
use Rattle.s7_client.specs.Standing.{Stands, Fits, IsStep, unread, unsent}
use Rattle.s7_client.proofs.PlanLemmas.{plan_leaves}
use Rattle.s7_client.proofs.PacketLemmas.{closed_stage, left_by, none_over}
use Rattle.s7_client.proofs.StepLemmas.{prefix_on, sent_whole}
use Rattle.s7_client.proofs.OrderLemmas.{orderly_none, orderly_sent}
use Rattle.s7_client.proofs.LinkLemmas.{went_not_yet, went_not_over, not_yet_not_went, not_yet_not_over, over_not_went, over_not_yet, moves_received, moves_sent, moves_none, same_cause, same_met, not_all_sent, some_not_none}

-- ---- octets are sent

-- only what is to be sent changed
pub record Sends (l l' : Channel) (written : List ℕ) : Type 0 where
  pub reader : l'.talk.reader ≡ l.talk.reader
  pub inbox : unread l ≡ unread l'
  pub sequence : l'.talk.sequence ≡ l.talk.sequence
  pub out : unsent l ≡ written ++ unsent l'

same_size : (l l' : Channel) (written : List ℕ) → Sends l l' written → size_in l'.talk ≡ size_in l.talk
same_size l l' written k = ap size_by k.reader

at_sent : (origin : Origin) (c : Course) (l l' : Channel) (u : UnderWay) (written : List ℕ) → Sends l l' written
    → IsAt origin c l.talk u → IsAt origin c l'.talk u
at_sent origin c l l' u written k at = record {
  job = at.job;
  size = same_size l l' written k ∙ at.size;
  sequence = k.sequence ∙ at.sequence;
  unfinished = λ h. ap (λ (r : Reader). unfinished_in r.transport.joiner) k.reader ∙ at.unfinished h;
  awaits = at.awaits;
  opens = at.opens;
  follows = at.follows;
  departs = at.departs;
  silent = at.silent;
}

pending_sent : (config : Config) (l l' : Channel) (u : UnderWay) (written : List ℕ) → Sends l l' written
    → pending config l.talk u.running ≡ written ++ pending config l'.talk u.running
pending_sent config l l' u written k =
    let unput : ℕ → List ℕ = λ n. unput_of config n u.running in
    ap (λ x. x ++ unput (size_in l.talk)) k.out
    ∙ (append_assoc written (unsent l') (unput (size_in l.talk))
    ∙ ap (λ n. written ++ (unsent l' ++ unput n)) (sym (same_size l l' written k)))

pub some_pending : (config : Config) (l : Channel) (u : UnderWay) → 0 < length (unsent l)
    → 0 < length (pending config l.talk u.running)
some_pending config l u some = omega (arith, some, length-append (unsent l) (unput_of config (size_in l.talk) u.running))

stands_sent : (origin : Origin) (l l' : Channel) (u : UnderWay) (b w written : List ℕ) → Sends l l' written
    → Stands origin l u b w → Stands origin l' u b (w ++ written)
stands_sent origin l l' u b w written k s = record {
  at = at_sent origin (course origin b) l l' u written k s.at;
  owed = s.owed ∙ (ap (λ x. w ++ x) (pending_sent origin.config l l' u written k)
      ∙ sym (append_assoc w written (pending origin.config l'.talk u.running)));
  rest = λ h. subst (λ (r : Reader). HoldsRest (limits origin) b r.cutter) (sym k.reader) (s.rest h);
  sent_first = λ front rest e some. prefix_on (may_send origin front) w written (s.sent_first front rest e some);
  all_awaited = s.all_awaited;
}

fits_sent : (l l' : Channel) (u : UnderWay) (written : List ℕ) → Sends l l' written → Fits l u
    → 0 < length (unsent l) → Fits l' u
fits_sent l l' u written k f some = record {
  reads = λ h. subst IsReading (sym k.reader) (f.reads h);
  unsized = λ h. ap size_at k.reader ∙ f.unsized h;
  sized = λ h before. subst (λ (r : Reader). IsSome (size_at r)) (sym k.reader) (f.sized h before);
  opening = λ h. subst (λ (r : Reader). IsClear r.transport.joiner) (sym k.reader) (f.opening h);
  between = λ h. absurd (some_not_none (unsent l) some (f.between h).sent);
  many = λ h. omega (arith, f.many h, ap (λ (r : Reader). r.transport.joiner.count) k.reader);
  few = omega (arith, f.few, ap length k.out, length-append written (unsent l'));
  quiet = λ h. absurd (some_not_none (unsent l) some (f.quiet h));
  carried = f.carried;
}

less_sent : (s : Stage) (count count' held held' out out' sent : ℕ) → count' ≡ count → held' ≡ held → out ≡ sent + out'
    → 0 < sent → budget s count' held' * 16384 + out' < budget s count held * 16384 + out
less_sent s count count' held held' out out' sent same same' all some = omega (arith, same, same', all, some)

pub step_sent : (l l' : Channel) (u : UnderWay) (link link' : Shown) (written : List ℕ) (config : Config)
    (granted : Option Grant) → Fits l u → 0 < length (unsent l) → Sends l l' written → 0 < length written
    → link'.written ≡ append_known link.written written
    → link'.space ≡ option_map (λ space. space - length written) link.space
    → link' ≡ record link { written = link'.written; faults = link'.faults; waits = link'.waits; space = link'.space }
    → link.faults ≤ link'.faults → link.waits ≤ link'.waits
    → IsStep l u link l' u link' config granted step.Went
unfolding moves_sent
step_sent l l' u link link' written config granted fits some k sent wrote space same faults waits = record {
  moves = moves_sent l l' link link' written k.inbox wrote space same faults waits;
  fits = λ h. fits_sent l l' u written k fits some;
  left = λ h. absurd (some_not_none (unsent l) some (fits.between h).sent);
  waited = refl;
  stood = λ origin b w ec eg s h. subst (λ x. Stands origin l' u x (w ++ written)) (sym (append-nil b))
      (stands_sent origin l l' u b w written k s);
  orderly = λ origin b w ec eg s. orderly_sent origin (unread l) b w _ sent refl refl;
  less = λ e. less_sent u.running.stage (joiner_in l.talk).count (joiner_in l'.talk).count
      (length (held_by l.talk.reader)) (length (held_by l'.talk.reader))
      (length (pending config l.talk u.running)) (length (pending config l'.talk u.running)) (length written)
      (ap (λ (r : Reader). r.transport.joiner.count) k.reader) (ap (λ (r : Reader). length (held_by r)) k.reader)
      (ap length (pending_sent config l l' u written k) ∙ length-append written (pending config l'.talk u.running))
      sent;
  met = λ origin b w ec eg s e. absurd (went_not_yet e);
  over = λ e. absurd (went_not_over e);
  cause = λ origin b w ec eg s e. absurd (went_not_over e);
}

no_room : (o : Option ℕ) → IfSome o (λ space. space ≡ 0) → (n : ℕ)
    → option_map (λ space. space - length {A = ℕ} []) o ≡ Some n → n ≡ 0
no_room None h n e = absurd (cc)
no_room (Some m) h n e = omega (arith, h, ap (λ x. unwrap_or x 0) e)

pub step_full : (l l' : Channel) (u : UnderWay) (link link' : Shown) (config : Config) (granted : Option Grant) → Fits l u
    → 0 < length (unsent l) → Sends l l' []
    → link'.written ≡ append_known link.written []
    → link'.space ≡ option_map (λ space. space - length {A = ℕ} []) link.space
    → link' ≡ record link { written = link'.written; faults = link'.faults; waits = link'.waits; space = link'.space }
    → link.faults ≤ link'.faults → link.waits ≤ link'.waits
    → IfSome link.space (λ space. space ≡ 0)
    → IsStep l u link l' u link' config granted step.NotYet
unfolding moves_sent
step_full l l' u link link' config granted fits some k wrote space same faults waits none =
    let left : 0 < length (unsent l') = omega (arith, some, ap length k.out) in
    record {
      moves = moves_sent l l' link link' [] k.inbox wrote space same faults waits;
      fits = λ h. fits_sent l l' u [] k fits some;
      left = λ h. absurd (some_not_none (unsent l) some (fits.between h).sent);
      waited = refl;
      stood = λ origin b w ec eg s h. subst (λ x. Stands origin l' u x (w ++ [])) (sym (append-nil b))
          (stands_sent origin l l' u b w [] k s);
      orderly = λ origin b w ec eg s. orderly_none origin (unread l) b w _ refl refl refl;
      less = λ e. absurd (not_yet_not_went e);
      met = λ origin b w ec eg s e. same_met origin (unread l') link' b w (record {
        full = λ rest n e' some' h. no_room link.space none n (sym space ∙ h);
        empty = λ n e' h. absurd (not_all_sent (may_send origin b) w (pending origin.config l.talk u.running) s.owed e'
            (some_pending origin.config l u some));
        waiting = λ e'. absurd (not_all_sent (may_send origin b) w (pending origin.config l.talk u.running) s.owed e'
            (some_pending origin.config l u some));
      });
      over = λ e. absurd (not_yet_not_over e);
      cause = λ origin b w ec eg s e. absurd (not_yet_not_over e);
    }

pub step_unsent : (l l' : Channel) (u u' : UnderWay) (link link' : Shown) (config : Config) (granted : Option Grant)
    → Fits l u → 0 < length (unsent l) → Sends l l' []
    → link'.written ≡ append_known link.written []
    → link'.space ≡ option_map (λ space. space - length {A = ℕ} []) link.space
    → link' ≡ record link { written = link'.written; faults = link'.faults; waits = link'.waits; space = link'.space }
    → link.faults ≤ link'.faults → link.waits ≤ link'.waits → Rose link.faults link'.faults
    → ((carried : List ℕ) → awaited_in u'.running carried ≡ for_nothing (fault_end send_failed) carried)
    → IsOver u'.running.stage → u'.running.job ≡ u.running.job → u'.carried ≡ u.carried → u'.waited ≡ u.waited
    → IsStep l u link l' u' link' config granted step.Over
unfolding moves_sent
step_unsent l l' u u' link link' config granted fits some k wrote space same faults waits rose e over job
    carried waited =
    record {
      moves = moves_sent l l' link link' [] k.inbox wrote space same faults waits;
      fits = λ h. absurd (h refl);
      left = λ h. absurd (closed_stage u'.running send_failed (e []) h);
      waited = waited;
      stood = λ origin b w ec eg s h. absurd (h refl);
      orderly = λ origin b w ec eg s. orderly_none origin (unread l) b w _ refl refl refl;
      less = λ h. absurd (over_not_went h);
      met = λ origin b w ec eg s h. absurd (over_not_yet h);
      over = λ h. over;
      cause = λ origin b w ec eg s h. same_cause origin link link' l' u' b w (record {
        end = fault_end send_failed;
        carried = [];
        ends_as = e [];
        carries = ap (λ x. x.octets) carried ∙ s.at.silent (λ h'. some_not_none (unsent l) some (fits.quiet h'));
        job = job ∙ s.at.job;
        size = same_size l l' [] k ∙ s.at.size;
        sequence = k.sequence ∙ s.at.sequence;
        cause = inr (inr (inr
            (inr (record {
              rest = pending origin.config l.talk u.running;
              some = some_pending origin.config l u some;
              unsent = s.owed;
              sent_first = s.sent_first;
              all_awaited = s.all_awaited;
              rose = rose;
              fault = (refl, refl);
            }))));
      });
    }

-- ---- the job is over

pub end_at : (s : Stage) (found codes : List ℕ) → End
end_at stage.Opening found codes = departed_end
end_at (stage.Asking a) found codes = departed_end
end_at (stage.Single single) found codes = departed_end
end_at stage.Leaving found codes = departed_end
end_at (stage.Over code leaves) found codes = record { code = code; octets = found; codes = codes; leaves = leaves }

pub ends_at : (found codes carried : List ℕ) (s : Stage) → IsOver s
    → awaited_by found codes carried s ≡ for_nothing (end_at s found codes) carried
unfolding end_at
ends_at found codes carried stage.Opening h = absurd h
ends_at found codes carried (stage.Asking a) h = absurd h
ends_at found codes carried (stage.Single single) h = absurd h
ends_at found codes carried stage.Leaving h = absurd h
ends_at found codes carried (stage.Over code leaves) h = refl

pub step_over : (l : Channel) (u : UnderWay) (link : Shown) (config : Config) (granted : Option Grant) → Fits l u
    → unsent l ≡ [] → IsOver u.running.stage
    → IsStep l u link l u link config granted step.Over
unfolding moves_none moves_received
step_over l u link config granted fits sent over =
    record {
      moves = moves_none l link;
      fits = λ h. absurd (h refl);
      left = fits.between;
      waited = refl;
      stood = λ origin b w ec eg s h. absurd (h refl);
      orderly = λ origin b w ec eg s. orderly_none origin (unread l) b w _ refl refl refl;
      less = λ h. absurd (over_not_went h);
      met = λ origin b w ec eg s h. absurd (over_not_yet h);
      over = λ h. over;
      cause = λ origin b w ec eg s h.
          let r = u.running in
          same_cause origin link link l u b w (record {
            end = end_at r.stage r.found.items r.codes;
            carried = u.carried.octets;
            ends_as = ends_at r.found.items r.codes [] r.stage over;
            carries = refl;
            job = s.at.job;
            size = s.at.size;
            sequence = s.at.sequence;
            cause = inl (record {
              over = s.at.awaits ∙ ends_at r.found.items r.codes u.carried.octets r.stage over;
              sent = sym (sent_whole origin l u b w config ec s (none_over config l.talk r sent over));
              all_awaited = s.all_awaited;
            });
          });
    }

leaving_awaits : (found codes carried : List ℕ) (s : Stage) → IsLeaving s
    → awaited_by found codes carried s ≡ for_departure
leaving_awaits found codes carried stage.Opening h = absurd h
leaving_awaits found codes carried (stage.Asking a) h = absurd h
leaving_awaits found codes carried (stage.Single single) h = absurd h
leaving_awaits found codes carried stage.Leaving h = refl
leaving_awaits found codes carried (stage.Over code leaves) h = absurd h

leaving_goes_on : (s : Stage) → IsLeaving s → IsOver s → ⊥
leaving_goes_on stage.Opening h over = h
leaving_goes_on (stage.Asking a) h over = h
leaving_goes_on (stage.Single single) h over = h
leaving_goes_on stage.Leaving h over = over
leaving_goes_on (stage.Over code leaves) h over = h

-- the disconnect request was transmitted
pub step_departed : (l : Channel) (u u' : UnderWay) (link : Shown) (config : Config) (granted : Option Grant)
    → pending config l.talk u.running ≡ [] → IsLeaving u.running.stage
    → awaited_in u'.running [] ≡ for_nothing departed_end [] → IsOver u'.running.stage → u'.running.job ≡ u.running.job
    → u'.carried ≡ u.carried → u'.waited ≡ u.waited
    → IsStep l u link l u' link config granted step.Over
unfolding moves_none moves_received
step_departed l u u' link config granted sent leaving e over job carried waited =
    let r = u.running in
    let r' = u'.running in
    record {
      moves = moves_none l link;
      fits = λ h. absurd (h refl);
      left = λ h. absurd (left_by r'.found.items r'.codes [] [] departed_end r'.stage e h);
      waited = waited;
      stood = λ origin b w ec eg s h. absurd (h refl);
      orderly = λ origin b w ec eg s. orderly_none origin (unread l) b w _ refl refl refl;
      less = λ h. absurd (over_not_went h);
      met = λ origin b w ec eg s h. absurd (over_not_yet h);
      over = λ h. over;
      cause = λ origin b w ec eg s h.
          same_cause origin link link l u' b w (record {
            end = departed_end;
            carried = [];
            ends_as = e;
            carries = ap (λ x. x.octets) carried ∙ s.at.silent (leaving_goes_on r.stage leaving);
            job = job ∙ s.at.job;
            size = s.at.size;
            sequence = s.at.sequence;
            cause = inr (inl (record {
              awaited = s.at.awaits ∙ leaving_awaits r.found.items r.codes u.carried.octets r.stage leaving;
              is = (plan_leaves origin.job origin.config origin.granted (s.at.departs leaving)).1;
              none = refl;
              sent = sym (sent_whole origin l u b w config ec s sent);
              all_awaited = s.all_awaited;
            }));
          });
    }

-- a link that answered not yet has no space
pub full_of : (o : Option ℕ) → IfSome o (λ space. (sent.NotYet ≡ sent.NotYet) ↔ (space ≡ 0))
    → IfSome o (λ space. space ≡ 0)
full_of None h = tt
full_of (Some n) h = h.0 refl
