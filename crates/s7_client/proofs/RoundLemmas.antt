-- Laws of rounds of steps.
use Rattle.std.proofs.Common.{◌≡◌, Bool, true, false, inl, inr, ℕ, ◌+◌, ◌≤◌, List, [], ◌++◌, refl, ap, sym, ◌∙◌, subst, append_assoc, arith}
use Rattle.std.specs.Prelude.{Option, None, Some, IfNone, is_none}
use Rattle.s7_outer.specs.Shown.{Shown}
use Rattle.s7_dialogue.specs.declared.config.Config.{Config}
use Rattle.s7_dialogue.specs.declared.grant.Ending.{Ending}
use Rattle.s7_dialogue.specs.declared.grant.Grant.{Grant}
use Rattle.s7_dialogue.specs.declared.stages.running.Stage.{Stage}
use Rattle.s7_dialogue.specs.declared.stages.running.Stage.TheVariants as stage
use Rattle.s7_client.specs.declared.channel.Channel.{Channel}
use Rattle.s7_client.specs.declared.under_way.UnderWay.{UnderWay}
use Rattle.s7_client.specs.declared.channel.Step.{Step}
use Rattle.s7_client.specs.declared.channel.Step.TheVariants as step
use Rattle.s7_dialogue.specs.Codes.{timed_out}
use Rattle.s7_dialogue.specs.Dialogue.{End, fault_end}
use Rattle.s7_dialogue.specs.Running.{awaited_by, IsOver}
use Rattle.s7_dialogue.specs.Course.{Origin, for_nothing, course}
use Rattle.s7_client.specs.At.{pending}
use Rattle.s7_client.specs.Counts.{MetNothing, MetNotYetOnce}
use Rattle.s7_client.specs.Standing.{Stands, Fits, Moves, IsOrderly, IsStep, CountsStep, HasMetNotYet, IsUnderWay, HasCause, AwaitsOctets, unread}
use Rattle.s7_client.specs.Polling.{Waits, Round, RoundGoesOn, RoundEnds}
use Rattle.s7_client.proofs.PacketLemmas.{closed_stage, none_over}
use Rattle.s7_client.proofs.StepLemmas.{sent_whole}
use Rattle.s7_client.proofs.OrderLemmas.{orderly_none, orderly_both}
use Rattle.s7_client.proofs.CountLemmas.{same_code, counts_behind, waited_none}
use Rattle.s7_client.proofs.LinkLemmas.{went_not_over, not_yet_not_over, moves_received, moves_none, moves_both, same_stands}
use Rattle.s7_client.proofs.SendLemmas.{ends_at}

-- ---- one step after another

pub cause_earlier : (origin : Origin) (k k1 k2 : Shown) (l : List ℕ) (end : End) (carried b w : List ℕ)
    → k.faults ≤ k1.faults → HasCause origin k1 k2 l end carried b w → HasCause origin k k2 l end carried b w
cause_earlier origin k k1 k2 l end carried b w le (inl h) = inl h
cause_earlier origin k k1 k2 l end carried b w le (inr (inl h)) = inr (inl h)
cause_earlier origin k k1 k2 l end carried b w le (inr (inr (inl h))) = inr (inr (inl h))
cause_earlier origin k k1 k2 l end carried b w le (inr (inr (inr (inl h)))) =
    inr (inr (inr (inl (record { waiting = h.waiting; rose = omega (arith, le, h.rose); fault = h.fault }))))
cause_earlier origin k k1 k2 l end carried b w le (inr (inr (inr (inr h)))) =
    inr (inr (inr (inr (record {
      rest = h.rest;
      some = h.some;
      unsent = h.unsent;
      sent_first = h.sent_first;
      all_awaited = h.all_awaited;
      rose = omega (arith, le, h.rose);
      fault = h.fault;
    }))))

-- what steps that went did
pub record Walks (l : Channel) (u : UnderWay) (link : Shown) (l' : Channel) (u' : UnderWay) (link' : Shown) (config : Config)
    (granted : Option Grant) : Type 0 where
  pub moves : Moves (unread l) link (unread l') link'
  pub fits : Fits l' u'
  pub waited : u'.waited ≡ u.waited
  pub counts : MetNothing link link'
  pub stood : (origin : Origin) (b w : List ℕ) → origin.config ≡ config → origin.granted ≡ granted
      → Stands origin l u b w
      → Stands origin l' u' (b ++ moves.used) (w ++ moves.written)
  pub orderly : (origin : Origin) (b w : List ℕ) → origin.config ≡ config → origin.granted ≡ granted
      → Stands origin l u b w
      → IsOrderly origin (unread l) b w moves

pub walks_none : (l : Channel) (u : UnderWay) (link : Shown) (config : Config) (granted : Option Grant) → Fits l u
    → Walks l u link l u link config granted
unfolding moves_none moves_received
walks_none l u link config granted fits = record {
  moves = moves_none l link;
  fits = fits;
  waited = refl;
  counts = (refl, refl, refl);
  stood = λ origin b w ec eg s. same_stands origin l u b w s;
  orderly = λ origin b w ec eg s. orderly_none origin (unread l) b w _ refl refl refl;
}

stands_on : (origin : Origin) (l : Channel) (u : UnderWay) (b w x y x' y' : List ℕ)
    → Stands origin l u ((b ++ x) ++ x') ((w ++ y) ++ y') → Stands origin l u (b ++ (x ++ x')) (w ++ (y ++ y'))
stands_on origin l u b w x y x' y' s =
    subst (λ z. Stands origin l u z (w ++ (y ++ y'))) (append_assoc b x x')
    (subst (λ z. Stands origin l u ((b ++ x) ++ x') z) (append_assoc w y y') s)

-- a step after steps that came in order
walk_orderly : (origin : Origin) (l l1 l2 : Channel) (u u1 u2 : UnderWay) (k k1 k2 : Shown) (b w : List ℕ)
    (config : Config) (granted : Option Grant) (result : Step) → origin.config ≡ config → origin.granted ≡ granted
    → (m : Walks l u k l1 u1 k1 config granted) → (n : IsStep l1 u1 k1 l2 u2 k2 config granted result)
    → Stands origin l u b w
    → IsOrderly origin (unread l) b w (moves_both l l1 l2 k k1 k2 m.moves n.moves)
unfolding moves_both
walk_orderly origin l l1 l2 u u1 u2 k k1 k2 b w config granted result ec eg m n s =
    orderly_both origin (unread l) b w m.moves n.moves _ refl refl refl (m.orderly origin b w ec eg s)
    (n.orderly origin (b ++ m.moves.used) (w ++ m.moves.written) ec eg (m.stood origin b w ec eg s))

pub walks_on : (l l1 l2 : Channel) (u u1 u2 : UnderWay) (k k1 k2 : Shown) (config : Config) (granted : Option Grant)
    → Walks l u k l1 u1 k1 config granted → IsStep l1 u1 k1 l2 u2 k2 config granted step.Went
    → CountsStep step.Went u2.running k1 k2
    → Walks l u k l2 u2 k2 config granted
unfolding moves_both
walks_on l l1 l2 u u1 u2 k k1 k2 config granted m n counts = record {
  moves = moves_both l l1 l2 k k1 k2 m.moves n.moves;
  fits = n.fits went_not_over;
  waited = n.waited ∙ m.waited;
  counts = counts_behind step.Went u2.running k k1 k2 m.counts counts;
  stood = λ origin b w ec eg s. stands_on origin l2 u2 b w m.moves.used m.moves.written n.moves.used n.moves.written
      (n.stood origin (b ++ m.moves.used) (w ++ m.moves.written) ec eg (m.stood origin b w ec eg s) went_not_over);
  orderly = λ origin b w ec eg s. walk_orderly origin l l1 l2 u u1 u2 k k1 k2 b w config granted step.Went ec eg m n s;
}

-- the last step ends a poll
pub ends_walk : (l l1 l2 : Channel) (u u1 u2 : UnderWay) (k k1 k2 : Shown) (config : Config) (granted : Option Grant)
    (result : Step) → (result ≡ step.Went → ⊥)
    → Walks l u k l1 u1 k1 config granted → IsStep l1 u1 k1 l2 u2 k2 config granted result
    → IsStep l u k l2 u2 k2 config granted result
unfolding moves_both
ends_walk l l1 l2 u u1 u2 k k1 k2 config granted result rests m n = record {
  moves = moves_both l l1 l2 k k1 k2 m.moves n.moves;
  fits = n.fits;
  left = n.left;
  waited = n.waited ∙ m.waited;
  stood = λ origin b w ec eg s h. stands_on origin l2 u2 b w m.moves.used m.moves.written n.moves.used n.moves.written
      (n.stood origin (b ++ m.moves.used) (w ++ m.moves.written) ec eg (m.stood origin b w ec eg s) h);
  orderly = λ origin b w ec eg s. walk_orderly origin l l1 l2 u u1 u2 k k1 k2 b w config granted result ec eg m n s;
  less = λ e. absurd (rests e);
  met = λ origin b w ec eg s e.
      subst (λ z. HasMetNotYet origin (unread l2) k2 z (w ++ (m.moves.written ++ n.moves.written)))
      (append_assoc b m.moves.used n.moves.used)
      (subst (λ z. HasMetNotYet origin (unread l2) k2 ((b ++ m.moves.used) ++ n.moves.used) z)
      (append_assoc w m.moves.written n.moves.written)
      (n.met origin (b ++ m.moves.used) (w ++ m.moves.written) ec eg (m.stood origin b w ec eg s) e));
  over = n.over;
  cause = λ origin b w ec eg s e.
      let h = n.cause origin (b ++ m.moves.used) (w ++ m.moves.written) ec eg (m.stood origin b w ec eg s) e in
      record {
        end = h.end;
        carried = h.carried;
        ends_as = h.ends_as;
        carries = h.carries;
        job = h.job;
        size = h.size ∙ ap (λ z. (course origin z).size) (append_assoc b m.moves.used n.moves.used);
        sequence = h.sequence ∙ ap (λ z. (course origin z).sequence) (append_assoc b m.moves.used n.moves.used);
        cause =
            subst (λ z. HasCause origin k k2 (unread l2) h.end h.carried z (w ++ (m.moves.written ++ n.moves.written)))
            (append_assoc b m.moves.used n.moves.used)
            (subst (λ z. HasCause origin k k2 (unread l2) h.end h.carried ((b ++ m.moves.used) ++ n.moves.used) z)
            (append_assoc w m.moves.written n.moves.written)
            (cause_earlier origin k k1 k2 (unread l2) h.end h.carried ((b ++ m.moves.used) ++ n.moves.used)
            ((w ++ m.moves.written) ++ n.moves.written) m.moves.faults h.cause));
      };
}

-- ---- a round of steps

met_goes_on : (origin : Origin) (l : Channel) (u : UnderWay) (link : Shown) (b w : List ℕ) → Fits l u
    → Stands origin l u b w → HasMetNotYet origin (unread l) link b w → IsOver u.running.stage → ⊥
met_goes_on origin l u link b w fits s met over =
    let r = u.running in
    subst AwaitsOctets (s.at.awaits ∙ ends_at r.found.items r.codes u.carried.octets r.stage over)
    (met.waiting (sent_whole origin l u b w origin.config refl s
    (none_over origin.config l.talk r (fits.quiet over) over))).awaits

not_over_awaits : (found codes carried : List ℕ) (s : Stage) → (IsOver s → ⊥) → (end : End) (message : List ℕ)
    → awaited_by found codes carried s ≡ for_nothing end message → ⊥
not_over_awaits found codes carried stage.Opening going end message e = cc
not_over_awaits found codes carried (stage.Asking a) going end message e = cc
not_over_awaits found codes carried (stage.Single single) going end message e = cc
not_over_awaits found codes carried stage.Leaving going end message e = cc
not_over_awaits found codes carried (stage.Over code leaves) going end message e = going tt

-- a job that isn't over where the client stands
still_under_way : (origin : Origin) (l : Channel) (u : UnderWay) (b w : List ℕ) → Stands origin l u b w
    → (IsOver u.running.stage → ⊥) → IsUnderWay origin b w
still_under_way origin l u b w s going = record {
  owed = (pending origin.config l.talk u.running, s.owed);
  sent_first = s.sent_first;
  all_awaited = s.all_awaited;
  goes_on = λ end message e.
      let r = u.running in
      not_over_awaits r.found.items r.codes u.carried.octets r.stage going end message (sym s.at.awaits ∙ e);
}

fits_waited : (l : Channel) (u : UnderWay) (n : _) → Fits l u → Fits l (record u { waited = n })
fits_waited l u n f = record {
  reads = f.reads;
  unsized = f.unsized;
  sized = f.sized;
  opening = f.opening;
  between = f.between;
  many = f.many;
  few = f.few;
  quiet = f.quiet;
  carried = f.carried;
}

stands_waited : (origin : Origin) (l : Channel) (u : UnderWay) (n : _) (b w : List ℕ) → Stands origin l u b w
    → Stands origin l (record u { waited = n }) b w
stands_waited origin l u n b w s = record {
  at = record {
    job = s.at.job;
    size = s.at.size;
    sequence = s.at.sequence;
    unfinished = s.at.unfinished;
    awaits = s.at.awaits;
    opens = s.at.opens;
    follows = s.at.follows;
    departs = s.at.departs;
    silent = s.at.silent;
  };
  owed = s.owed;
  rest = s.rest;
  sent_first = s.sent_first;
  all_awaited = s.all_awaited;
}

pub round_goes_on : (l l' : Channel) (u u1 u' : UnderWay) (link link' : Shown) (config : Config) (granted : Option Grant)
    → IsStep l u link l' u1 link' config granted step.NotYet → MetNotYetOnce link link'
    → Waits u1 u' config.polls true → RoundGoesOn l u link l' u' link' config granted
round_goes_on l l' u u1 u' link link' config granted k counts v =
    let same = v.same refl in
    record {
      moves = k.moves;
      fits = subst (Fits l') (sym same) (fits_waited l' u1 _ (k.fits not_yet_not_over));
      counts = counts;
      waited = ap (λ x. x.waited) same ∙ ap (λ n. n + 1) k.waited;
      patient = omega (arith, ap (λ x. x.waited) same, v.patient refl);
      orderly = k.orderly;
      stood = λ origin b w ec eg s. (
        subst (λ x. Stands origin l' x (b ++ k.moves.used) (w ++ k.moves.written)) (sym same)
            (stands_waited origin l' u1 _ _ _ (k.stood origin b w ec eg s not_yet_not_over)),
        k.met origin b w ec eg s refl,
      );
    }

pub round_tires : (l l' : Channel) (u u1 u' : UnderWay) (link link' : Shown) (config : Config) (granted : Option Grant)
    → IsStep l u link l' u1 link' config granted step.NotYet → MetNotYetOnce link link'
    → Waits u1 u' config.polls false → RoundEnds l u link l' u' link' config granted
round_tires l l' u u1 u' link link' config granted k counts v = record {
  moves = k.moves;
  over = v.over refl;
  left = λ h. absurd (closed_stage u'.running timed_out (v.fails refl) h);
  counts = λ end is. (
    (inl counts.0, inl counts.2),
    (1, counts.1, inr (refl, same_code _ (fault_end timed_out) end (v.fails refl) is)),
  );
  orderly = k.orderly;
  ends_by = λ origin b w ec eg s.
      let s' = k.stood origin b w ec eg s not_yet_not_over in
      let met = k.met origin b w ec eg s refl in
      let going = met_goes_on origin l' u1 link' (b ++ k.moves.used) (w ++ k.moves.written)
      (k.fits not_yet_not_over) s' met in
      record {
        end = fault_end timed_out;
        carried = [];
        ends_as = v.fails refl;
        carries = ap (λ x. x.octets) v.carried ∙ s'.at.silent going;
        size = s'.at.size;
        sequence = s'.at.sequence;
        job = v.job ∙ s'.at.job;
        cause = inr (record {
          last = ap Some (omega (arith, v.last refl, k.waited, ap (λ (x : Config). x.polls) ec));
          rose = counts.1.0;
          met = met;
          under_way = still_under_way origin l' u1 (b ++ k.moves.used) (w ++ k.moves.written) s' going;
          fault = (refl, refl);
        });
      };
}

pub round_ends : (l l' : Channel) (u u' : UnderWay) (link link' : Shown) (config : Config) (granted : Option Grant)
    → IsStep l u link l' u' link' config granted step.Over → CountsStep step.Over u'.running link link'
    → RoundEnds l u link l' u' link' config granted
round_ends l l' u u' link link' config granted k counts = record {
  moves = k.moves;
  over = k.over refl;
  left = k.left;
  counts = λ end is. (counts.1 end is, waited_none end.code link link' counts.0);
  orderly = k.orderly;
  ends_by = λ origin b w ec eg s.
      let h = k.cause origin b w ec eg s refl in
      record {
        end = h.end;
        carried = h.carried;
        ends_as = h.ends_as;
        carries = h.carries;
        size = h.size;
        sequence = h.sequence;
        job = h.job;
        cause = inl h.cause;
      };
}

pub round_by : (l l' : Channel) (u u1 u' : UnderWay) (link link' : Shown) (config : Config) (granted : Option Grant)
    (goes_on : Bool) → IsStep l u link l' u1 link' config granted step.NotYet → MetNotYetOnce link link'
    → Waits u1 u' config.polls goes_on → Round l u link l' u' link' config granted goes_on
round_by l l' u u1 u' link link' config granted true k counts v =
    round_goes_on l l' u u1 u' link link' config granted k counts v
round_by l l' u u1 u' link link' config granted false k counts v =
    round_tires l l' u u1 u' link link' config granted k counts v

-- ---- how a job is over

-- a job that is over, and how it is
pub round_over : (l l' : Channel) (u u' : UnderWay) (link link' : Shown) (config : Config) (granted : Option Grant)
    (ended : Option Ending) → IsStep l u link l' u' link' config granted step.Over
    → CountsStep step.Over u'.running link link'
    → IfNone ended (IsOver u'.running.stage → ⊥) → Round l u link l' u' link' config granted (is_none ended)
round_over l l' u u' link link' config granted None k counts going = absurd (going (k.over refl))
round_over l l' u u' link link' config granted (Some ending) k counts going =
    round_ends l l' u u' link link' config granted k counts
