-- Laws of jobs that are carried out whole.
use Rattle.std.proofs.Common.{◌≡◌, ◌≢◌, ◌⊎◌, inl, inr, ℕ, ◌+◌, ◌-◌, ◌<◌, ◌≤◌, List, [], ◌++◌, refl, ap, sym, ◌∙◌, subst, append_assoc, arith}
use Rattle.std.specs.Prelude.{Option, None, Some, unwrap_or, option_map, IsSome}
use Rattle.std.specs.Option.{ForSome}
use Rattle.std.proofs.lemmas.List.{append-nil}
use Rattle.s7_outer.specs.Shown.{Shown}
use Rattle.s7_outer.specs.Count.{RoseExactly}
use Rattle.s7_dialogue.specs.declared.config.Config.{Config}
use Rattle.s7_dialogue.specs.Codes.{link_ended, receive_failed, send_failed, timed_out}
use Rattle.s7_dialogue.specs.declared.grant.Grant.{Grant}
use Rattle.s7_dialogue.specs.declared.job.Job.{Job}
use Rattle.s7_dialogue.specs.declared.job.Job.TheVariants as job
use Rattle.s7_dialogue.specs.declared.job.JobResult.{JobResult}
use Rattle.s7_client.specs.declared.job.Polled.{Polled}
use Rattle.s7_client.specs.declared.job.Polled.TheVariants as polled
use Rattle.s7_client.specs.declared.under_way.UnderWay.{UnderWay}
use Rattle.s7_client.specs.declared.connection.Connection.{Connection}
use Rattle.s7_dialogue.specs.Dialogue.{End, fault_end}
use Rattle.s7_client.specs.Form.{HasForm, IsWhole}
use Rattle.s7_dialogue.specs.Running.{IsGrant}
use Rattle.s7_dialogue.specs.Course.{Origin, conduct_of}
use Rattle.s7_client.specs.Counts.{WaitedAsTold}
use Rattle.s7_client.specs.Order.{AreInOrder}
use Rattle.s7_client.specs.Standing.{HasCause}
use Rattle.s7_client.specs.Polling.{IsDoneBy, StandsFor, IsStarted, IsPoll, IsDone, WaitsOnce, job_of, waited_of, config_of, grant_of, closed_of, unread_of, grant_after, closed_after, origin_at}
use Rattle.s7_client.specs.Runs.{IsTired, between_of, JobRun, StillWaits, IsOverNow, Completes}
use Rattle.s7_client.proofs.FormLemmas.{octets_have_form, octets_are_whole, departure_has_form, fault_has_form}
use Rattle.s7_client.proofs.CountLemmas.{failed_behind, ended_behind, waited_behind, waited_once, rises}
use Rattle.s7_client.proofs.LinkLemmas.{moves_received, moves_none, moves_both}
use Rattle.s7_client.proofs.RoundLemmas.{cause_earlier}
use Rattle.s7_client.proofs.OrderLemmas.{orderly_none, orderly_both}

-- ---- the job that is outstanding

job_waits : (o : Option UnderWay) (n : ℕ) → option_map (λ (u : UnderWay). u.waited) o ≡ Some n
    → IsSome (option_map (λ (u : UnderWay). u.running.job) o)
job_waits None n e = absurd (cc)
job_waits (Some u) n e = refl

waits_few : (o : Option UnderWay) (n polls : ℕ) → ForSome o (λ (u : UnderWay). u.waited < polls)
    → option_map (λ (u : UnderWay). u.waited) o ≡ Some n → n < polls
waits_few None n polls few e = absurd (cc)
waits_few (Some u) n polls few e = omega (arith, few u refl, ap (λ x. unwrap_or x 0) e)

waits_more : (o o' : Option ℕ) (n polls : ℕ) → o ≡ Some n → WaitsOnce o o' polls → (o' ≡ Some (n + 1)) × (n + 1 < polls)
waits_more None o' n polls e h = absurd (cc)
waits_more (Some m) None n polls e h = absurd h
waits_more (Some m) (Some k) n polls e h =
    let same : m ≡ n = ap (λ x. unwrap_or x 0) e in
    (ap Some (h.0 ∙ ap (λ x. x + 1) same), omega (arith, h.0, h.1, same))

pub fewer_polls : (old new : Connection) (n : ℕ) → waited_of old ≡ Some n → new.config ≡ old.config
    → WaitsOnce (waited_of old) (waited_of new) (config_of old).polls
    → (config_of new).polls - unwrap_or (waited_of new) 0 < (config_of old).polls - unwrap_or (waited_of old) 0
fewer_polls old new n e config h =
    let k = waits_more (waited_of old) (waited_of new) n (config_of old).polls e h in
    omega (arith, ap (λ (x : Config). x.polls) config, ap (λ x. unwrap_or x 0) k.0, k.1, ap (λ x. unwrap_or x 0) e)

stands_joined : (c : Connection) (origin : Origin) (b w x y x' y' : List ℕ)
    → StandsFor c origin ((b ++ x) ++ x') ((w ++ y) ++ y') → StandsFor c origin (b ++ (x ++ x')) (w ++ (y ++ y'))
stands_joined c origin b w x y x' y' s =
    subst (λ z. StandsFor c origin z (w ++ (y ++ y'))) (append_assoc b x x')
    (subst (λ z. StandsFor c origin ((b ++ x) ++ x') z) (append_assoc w y y') s)

pub awaits_none : (c : Connection) (link : Shown) → waited_of c ≡ Some 0 → StillWaits c link c link
unfolding moves_none moves_received
awaits_none c link e = record {
  moves = moves_none c.channel link;
  orderly = λ origin b w s. orderly_none origin (unread_of c) b w _ refl refl refl;
  config = refl;
  granted = refl;
  closed = refl;
  some = job_waits c.job 0 e;
  polls = 0;
  waited = e;
  rose = (omega arith, omega arith);
  faults = refl;
  ended = refl;
  stood = λ origin b w s. subst (λ x. StandsFor c origin x (w ++ [])) (sym (append-nil b))
      (subst (λ x. StandsFor c origin b x) (sym (append-nil w)) s);
}

pub awaits_on : (old c c2 : Connection) (k k1 k2 : Shown) → StillWaits old k c k1 → IsPoll c k1 c2 k2 polled.Pending
    → StillWaits old k c2 k2
unfolding moves_both
awaits_on old c c2 k k1 k2 m p =
    let pends = p.comes.0 in
    let more = waits_more (waited_of c) (waited_of c2) m.polls (config_of c).polls m.waited pends.waited in
    record {
      moves = moves_both old.channel c.channel c2.channel k k1 k2 m.moves p.moves;
      orderly = λ origin b w s.
          orderly_both origin (unread_of old) b w m.moves p.moves _ refl refl refl (m.orderly origin b w s)
          (p.orderly origin (b ++ m.moves.used) (w ++ m.moves.written) (m.stood origin b w s));
      config = p.config ∙ m.config;
      granted = pends.granted ∙ m.granted;
      closed = pends.closed ∙ m.closed;
      some = job_waits c2.job (m.polls + 1) more.0;
      polls = m.polls + 1;
      waited = more.0;
      rose = rises m.polls 1 k.waits k1.waits k2.waits m.rose p.counts.1;
      faults = p.counts.0 ∙ m.faults;
      ended = p.counts.2 ∙ m.ended;
      stood = λ origin b w s. stands_joined c2 origin b w m.moves.used m.moves.written p.moves.used p.moves.written
          (p.comes.1 origin (b ++ m.moves.used) (w ++ m.moves.written) (m.stood origin b w s)).stands;
    }

over_joined : (origin : Origin) (k k2 : Shown) (old new : Connection) (told : JobResult) (b w x y x' y' : List ℕ)
    → IsOverNow origin k k2 old new told ((b ++ x) ++ x') ((w ++ y) ++ y')
    → IsOverNow origin k k2 old new told (b ++ (x ++ x')) (w ++ (y ++ y'))
over_joined origin k k2 old new told b w x y x' y' s =
    subst (λ z. IsOverNow origin k k2 old new told z (w ++ (y ++ y'))) (append_assoc b x x')
    (subst (λ z. IsOverNow origin k k2 old new told ((b ++ x) ++ x') z) (append_assoc w y y') s)

cause_now : (origin : Origin) (k k1 k2 : Shown) (c c2 : Connection) (end : End) (carried b w : List ℕ) (n : ℕ)
    → k.faults ≤ k1.faults → RoseExactly n k.waits k1.waits → k2.waits ≤ k1.waits + 1 → waited_of c ≡ Some n
    → 1 ≤ origin.config.polls
    → IsDoneBy origin k1 k2 (unread_of c2) end carried b w (waited_of c)
    → HasCause origin k k2 (unread_of c2) end carried b w ⊎ IsTired origin k k2 (unread_of c2) end carried b w
cause_now origin k k1 k2 c c2 end carried b w n faults rose once waited least (inl h) =
    inl (cause_earlier origin k k1 k2 (unread_of c2) end carried b w faults h)
cause_now origin k k1 k2 c c2 end carried b w n faults rose once waited least (inr h) =
    let last : n ≡ origin.config.polls - 1 = ap (λ x. unwrap_or x 0) (sym waited ∙ h.last) in
    inr (record {
      rose = (omega (arith, rose.0, h.rose, last, least), omega (arith, rose.1, once, last, least));
      met = h.met;
      under_way = h.under_way;
      fault = h.fault;
    })

-- the last poll, after polls that raised the waits so often
done_now : (origin : Origin) (k k1 k2 : Shown) (old c c2 : Connection) (told : JobResult) (b w : List ℕ) (n : ℕ)
    → k.faults ≤ k1.faults → RoseExactly n k.waits k1.waits → k2.waits ≤ k1.waits + 1 → waited_of c ≡ Some n
    → grant_of c ≡ grant_of old → closed_of c ≡ closed_of old → 1 ≤ origin.config.polls
    → IsDone origin k1 k2 c c2 told b w → IsOverNow origin k k2 old c2 told b w
done_now origin k k1 k2 old c c2 told b w n faults rose once waited granted closed least h = record {
  end = h.end;
  carried = h.carried;
  result = h.result;
  granted = h.granted ∙ ap (grant_after h.end.leaves) granted;
  closed = h.closed ∙ ap (closed_after h.end.leaves) closed;
  cause = cause_now origin k k1 k2 c c2 h.end h.carried b w n faults rose once waited least h.cause;
  size = h.size;
  sequence = h.sequence;
}

pub completes_now : (old c c2 : Connection) (k k1 k2 : Shown) (told : JobResult) → StillWaits old k c k1
    → IsPoll c k1 c2 k2 (polled.Done told) → Completes old k c2 k2 told
unfolding moves_both
completes_now old c c2 k k1 k2 told m p = record {
  moves = moves_both old.channel c.channel c2.channel k k1 k2 m.moves p.moves;
  orderly = λ origin b w s.
      orderly_both origin (unread_of old) b w m.moves p.moves _ refl refl refl (m.orderly origin b w s)
      (p.orderly origin (b ++ m.moves.used) (w ++ m.moves.written) (m.stood origin b w s));
  config = p.config ∙ m.config;
  idle = p.comes.1;
  faults = failed_behind told.code k k1 k2 m.faults p.counts.0.0;
  ended = ended_behind told.code k k1 k2 m.ended p.counts.0.1;
  waits = subst (λ (x : Config). WaitedAsTold x.polls told.code k k2) m.config
      (waited_behind m.polls c.config.polls told.code k k1 k2 (waits_few c.job m.polls c.config.polls c.waits m.waited)
      m.rose p.counts.1);
  over = λ origin b w s.
      let there = m.stood origin b w s in
      over_joined origin k k2 old c2 told b w m.moves.used m.moves.written p.moves.used p.moves.written
      (done_now origin k k1 k2 old c c2 told _ _ m.polls m.moves.faults m.rose
      (waited_once told.code k1 k2 p.counts.1) m.waited m.granted m.closed
      (subst (λ (x : Config). 1 ≤ x.polls) (sym there.config) c.least_polls)
      (p.comes.2 origin (b ++ m.moves.used) (w ++ m.moves.written) there));
}

-- ---- the form of ends

fault_whole : (done : Job) (code : ℕ) → code ≢ 0 → IsWhole done (fault_end code)
fault_whole (job.ReadArea item) code bad = λ good. absurd (bad good)
fault_whole _ code bad = tt

fault_formed : (done : Job) (end : End) (code : ℕ) → code ≢ 0 → end ≡ fault_end code → HasForm done end
    × IsWhole done end
fault_formed done end code bad is = subst (λ (e : End). HasForm done e × IsWhole done e) (sym is)
    (fault_has_form done code bad, fault_whole done code bad)

departure_formed : (done : Job) (end : End) → (done ≡ job.Disconnect) × HasForm done end → HasForm done end
    × IsWhole done end
departure_formed done end h = (h.1, subst (λ j. IsWhole j end) (sym h.0) tt)

departed_as : (done : Job) (end ended : End) → end ≡ ended → (done ≡ job.Disconnect) × HasForm done ended
    → (done ≡ job.Disconnect) × HasForm done end
departed_as done end ended is h = (h.0, subst (λ (e : End). HasForm done e) (sym is) h.1)

cause_formed : (origin : Origin) (k k' : Shown) (kept : List ℕ) (end : End) (carried b w : List ℕ)
    → ForSome origin.granted (λ (grant : Grant). 64 ≤ grant.pdu)
    → HasCause origin k k' kept end carried b w → HasForm origin.job end × IsWhole origin.job end
cause_formed origin k k' kept end carried b w enough (inl h) =
    (octets_have_form origin b end carried h.over, octets_are_whole origin b end carried enough h.over)
cause_formed origin k k' kept end carried b w enough (inr (inl h)) = departure_formed origin.job end
    (departed_as origin.job end ((conduct_of origin).ended []) h.is (departure_has_form origin b h.awaited))
cause_formed origin k k' kept end carried b w enough (inr (inr (inl h))) = fault_formed origin.job end link_ended
    (λ e. absurd (omega (arith, e))) h.fault.0
cause_formed origin k k' kept end carried b w enough (inr (inr (inr (inl h)))) = fault_formed origin.job end
    receive_failed (λ e. absurd (omega (arith, e))) h.fault.0
cause_formed origin k k' kept end carried b w enough (inr (inr (inr (inr h)))) = fault_formed origin.job end
    send_failed (λ e. absurd (omega (arith, e))) h.fault.0

end_formed : (origin : Origin) (k k' : Shown) (kept : List ℕ) (end : End) (carried b w : List ℕ)
    → ForSome origin.granted (λ (grant : Grant). 64 ≤ grant.pdu)
    → HasCause origin k k' kept end carried b w ⊎ IsTired origin k k' kept end carried b w → HasForm origin.job end
    × IsWhole origin.job end
end_formed origin k k' kept end carried b w enough (inl h) = cause_formed origin k k' kept end carried b w enough h
end_formed origin k k' kept end carried b w enough (inr h) = fault_formed origin.job end timed_out
    (λ e. absurd (omega (arith, e))) h.fault.0

granted_enough : (o : Option Grant) → ForSome o IsGrant → ForSome o (λ (g : Grant). 64 ≤ g.pdu)
granted_enough o h g is = (h g is).least

-- ---- from the start

pub runs_whole : (old mid new : Connection) (link link' : Shown) (asked : Job) (told : JobResult) → IsStarted old mid asked
    → Completes mid link new link' told
    → JobRun (config_of old) (between_of old) asked link link' told (between_of new)
runs_whole old mid new link link' asked told s k =
    let h = k.over (origin_at old asked) [] [] s.stands in
    let formed = end_formed (origin_at old asked) link link' (unread_of new) h.end h.carried k.moves.used
    k.moves.written (granted_enough old.granted old.grants) h.cause in
    let ordered = k.orderly (origin_at old asked) [] [] s.stands in
    record {
      moves = record {
        received = k.moves.received;
        used = k.moves.used;
        written = k.moves.written;
        took = k.moves.took;
        wrote = k.moves.wrote;
        inbox = ap (λ x. x ++ k.moves.received) (sym s.unread) ∙ k.moves.inbox;
        faults = k.moves.faults;
        waits = k.moves.waits;
        moment = k.moves.moment;
        clock_faults = k.moves.clock_faults;
        looks = k.moves.looks;
        lent = k.moves.lent;
        shut = k.moves.shut;
        space = k.moves.space;
      };
      orderly = record {
        deeds = ordered.deeds;
        written = ordered.written;
        used = ordered.used;
        received = ordered.received;
        order = subst (λ kept. AreInOrder (origin_at old asked) kept [] [] ordered.deeds) s.unread ordered.order;
      };
      faults = k.faults;
      ended = k.ended;
      waits = subst (λ (x : Config). WaitedAsTold x.polls told.code link link') s.config k.waits;
      end = h.end;
      carried = h.carried;
      result = h.result;
      form = formed.0;
      whole = formed.1;
      cause = h.cause;
      granted = h.granted ∙ ap (grant_after h.end.leaves) s.granted;
      closed = h.closed ∙ ap (closed_after h.end.leaves) s.closed;
      size = h.size;
      sequence = h.sequence;
    }

none_some : (o : Option Job) → IsSome o → o ≡ None → ⊥
none_some None h e = cc
none_some (Some x) h e = cc

none_awaited : (c : Connection) → IsSome (job_of c) → job_of c ≡ None → ⊥
none_awaited c some none = none_some (job_of c) some none

-- a poll that isn't done leaves the job outstanding
pub pends_still : (old c c2 : Connection) (k k1 k2 : Shown) (result : Polled) → StillWaits old k c k1
    → ((told : JobResult) → result ≡ polled.Done told → ⊥) → IsPoll c k1 c2 k2 result → IsPoll c k1 c2 k2 polled.Pending
pends_still old c c2 k k1 k2 (polled.Done told) m other p = absurd (other told refl)
pends_still old c c2 k k1 k2 polled.Pending m other p = p
pends_still old c c2 k k1 k2 polled.Idle m other p = absurd (none_awaited c m.some p.comes.0)
