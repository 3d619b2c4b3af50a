-- Laws of polls.
use mathlib.Core.HLevel.{is_prop→PathP}
use Rattle.std.proofs.Props.{props}
use Rattle.std.proofs.Common.{◌≡◌, ℕ, ◌<◌, ◌≤◌, List, [], ◌++◌, refl, ap, sym, ◌∙◌, subst}
use Rattle.std.specs.Prelude.{Option, None, Some, unwrap_or, IsSome, is_none, option_map}
use Rattle.std.specs.Option.{ForSome}
use Rattle.s7_outer.specs.Shown.{Shown}
use Rattle.s7_header.specs.Negotiation.{most_pdu}
use Rattle.s7_dialogue.specs.Stages.{IsGrant}
use Rattle.s7_dialogue.specs.declared.config.Config.{Config}
use Rattle.s7_dialogue.specs.declared.grant.Ending.{Ending}
use Rattle.s7_dialogue.specs.declared.grant.Grant.{Grant}
use Rattle.s7_dialogue.specs.declared.job.JobResult.{JobResult}
use Rattle.s7_client.specs.declared.job.Polled.TheVariants as polled
use Rattle.s7_dialogue.specs.declared.grant.Leaves.{Leaves}
use Rattle.s7_client.specs.declared.channel.Channel.{Channel}
use Rattle.s7_client.specs.declared.under_way.UnderWay.{UnderWay}
use Rattle.s7_client.specs.declared.connection.Connection.{Connection}
use Rattle.s7_dialogue.specs.Dialogue.{End}
use Rattle.s7_dialogue.specs.Running.{awaited_in, IsOver, IsResult}
use Rattle.s7_dialogue.specs.Course.{Origin, for_nothing}
use Rattle.s7_client.specs.At.{size_in}
use Rattle.s7_client.specs.Counts.{MetAsTold, WaitedAsTold}
use Rattle.s7_client.specs.Standing.{Stands, Fits, IsBetween, unread, unsent}
use Rattle.s7_client.specs.Polling.{StandsFor, IsPoll, IsDoneBy, WaitsOnce, Round, RoundGoesOn, RoundEnds, grant_after, closed_after, job_of, waited_of}
use Rattle.s7_client.proofs.LinkLemmas.{moves_none}
use Rattle.s7_client.proofs.SendLemmas.{end_at, ends_at}

none_under : (o : Option UnderWay) (u : UnderWay) → o ≡ None → o ≡ Some u → ⊥
none_under o u none some = cc

pub poll_idle : (c c' : Connection) (link : Shown) → c.job ≡ None → c' ≡ c → IsPoll c link c' link polled.Idle
poll_idle c c' link none same =
    subst (λ (x : Connection). IsPoll c link x link polled.Idle) (sym same)
    (record {
      moves = moves_none c.channel link;
      orderly = λ origin b w s. absurd (none_under c.job s.under_way none s.is);
      config = refl;
      counts = (refl, refl, refl);
      comes = (ap (option_map (λ (u : UnderWay). u.running.job)) none, refl, refl);
    })

pub not_under : (o : Option UnderWay) → ((u : UnderWay) → o ≡ Some u → ⊥) → o ≡ None
not_under None other = refl
not_under (Some u) other = absurd (other u refl)

-- a client whose parts are the same
pub same_parts : (c c' : Connection) → (config : c'.config ≡ c.config) → (granted : c'.granted ≡ c.granted)
    → (closed : c'.is_closed ≡ c.is_closed) → (channel : c'.channel ≡ c.channel) → (job : c'.job ≡ c.job) → c' ≡ c
same_parts c c' config granted closed channel job = λ i. record {
  config = config i;
  granted = granted i;
  is_closed = closed i;
  channel = channel i;
  job = job i;
  fits = is_prop→PathP (λ j. ForSome (job j) (λ u. Fits (channel j) u)) (λ j. hlevel props) c'.fits c.fits i;
  waits = is_prop→PathP (λ j. ForSome (job j) (λ u. u.waited < (config j).polls)) (λ j. hlevel props) c'.waits c.waits i;
  grants = is_prop→PathP (λ j. ForSome (granted j) IsGrant) (λ j. hlevel props) c'.grants c.grants i;
  between =
      is_prop→PathP (λ j. job j ≡ None → IsSome (granted j) → IsBetween (channel j)) (λ j. hlevel props) c'.between
      c.between i;
  quiet = is_prop→PathP (λ j. job j ≡ None → unsent (channel j) ≡ []) (λ j. hlevel props) c'.quiet c.quiet i;
  most_pdu = is_prop→PathP (λ j. (config j).pdu ≤ most_pdu) (λ j. hlevel props) c'.most_pdu c.most_pdu i;
  most_jobs = is_prop→PathP (λ j. (config j).jobs ≤ 8) (λ j. hlevel props) c'.most_jobs c.most_jobs i;
  least_polls = is_prop→PathP (λ j. 1 ≤ (config j).polls) (λ j. hlevel props) c'.least_polls c.least_polls i;
}

-- a round that doesn't say how the job is over goes on
pub round_pending : (l l' : Channel) (u u' : UnderWay) (link link' : Shown) (config : Config) (granted : Option Grant)
    (ended : Option Ending) → Round l u link l' u' link' config granted (is_none ended)
    → ((ending : Ending) → ended ≡ Some ending → ⊥) → RoundGoesOn l u link l' u' link' config granted
round_pending l l' u u' link link' config granted None round other = round
round_pending l l' u u' link link' config granted (Some ending) round other = absurd (other ending refl)

pub same_under : (u u' : UnderWay) → Some u ≡ Some u' → u ≡ u'
same_under u u' e = ap (λ o. unwrap_or o u) e

-- whatever the client stands for, its job's channel does
stands_at : (old : Connection) (u : UnderWay) (origin : Origin) (b w : List ℕ) → old.job ≡ Some u
    → StandsFor old origin b w → Stands origin old.channel u b w
stands_at old u origin b w is s = subst (λ x. Stands origin old.channel x b w) (same_under s.under_way u (sym s.is ∙ is))
    s.stands

pub poll_pending : (old new : Connection) (u u' : UnderWay) (link link' : Shown) → old.job ≡ Some u → new.job ≡ Some u'
    → new.config ≡ old.config → new.granted ≡ old.granted → new.is_closed ≡ old.is_closed
    → RoundGoesOn old.channel u link new.channel u' link' old.config old.granted → IsPoll old link new link' polled.Pending
poll_pending old new u u' link link' is is' config granted closed r = record {
  moves = r.moves;
  orderly = λ origin b w s. r.orderly origin b w s.config s.granted (stands_at old u origin b w is s);
  config = config;
  counts = r.counts;
  comes = (
    record {
      rose = r.counts.1.0;
      waited =
          subst (λ o. WaitsOnce o (waited_of new) old.config.polls)
          (sym (ap (option_map (λ (x : UnderWay). x.waited)) is))
          (subst (λ o. WaitsOnce (Some u.waited) o old.config.polls)
          (sym (ap (option_map (λ (x : UnderWay). x.waited)) is')) (r.waited, r.patient));
      granted = granted;
      closed = closed;
    },
    λ origin b w s.
        let t = r.stood origin b w s.config s.granted (stands_at old u origin b w is s) in
        record {
          stands = record {
            under_way = u';
            is = is';
            config = s.config ∙ sym config;
            granted = s.granted
                ∙ sym granted;
            stands = t.0;
          };
          met = t.1;
        },
  );
}

some_of : (old : Connection) (u : UnderWay) → old.job ≡ Some u → IsSome (job_of old)
some_of old u is = subst (λ o. IsSome o) (sym (ap (option_map (λ (x : UnderWay). x.running.job)) is)) refl

done_by : (origin : Origin) (link link' : Shown) (kept : List ℕ) (end : End) (carried b w : List ℕ) (waited : Option ℕ)
    (n : ℕ) → waited ≡ Some n
    → IsDoneBy origin link link' kept end carried b w (Some n) → IsDoneBy origin link link' kept end carried b w waited
done_by origin link link' kept end carried b w waited n is h =
    subst (IsDoneBy origin link link' kept end carried b w) (sym is) h

-- the counts of a link by what is told of the job
told_counts : (u : UnderWay) (link link' : Shown) (told : JobResult) → IsOver u.running.stage
    → ((end : End) → awaited_in u.running [] ≡ for_nothing end [] → told.code ≡ end.code)
    → ((end : End) → awaited_in u.running [] ≡ for_nothing end []
    → MetAsTold end.code link link' × WaitedAsTold 1 end.code link link')
    → MetAsTold told.code link link' × WaitedAsTold 1 told.code link link'
told_counts u link link' told over code counts =
    let r = u.running in
    let end = end_at r.stage r.found.items r.codes in
    let is = ends_at r.found.items r.codes [] r.stage over in
    subst (λ n. MetAsTold n link link' × WaitedAsTold 1 n link link') (sym (code end is)) (counts end is)

pub poll_done : (old new : Connection) (u u' : UnderWay) (channel : Channel) (link link' : Shown) (leaves : Leaves)
    (told : JobResult) → old.job ≡ Some u → new.job ≡ None → new.config ≡ old.config
    → new.granted ≡ grant_after leaves old.granted → new.is_closed ≡ closed_after leaves old.is_closed
    → RoundEnds old.channel u link channel u' link' old.config old.granted
    → ((end : End) → awaited_in u'.running [] ≡ for_nothing end [] → leaves ≡ end.leaves)
    → ((end : End) → awaited_in u'.running [] ≡ for_nothing end [] → IsResult told u'.running.job end u'.carried.octets)
    → unread new.channel ≡ unread channel → size_in new.channel.talk ≡ size_in channel.talk → new.channel.talk.sequence ≡ channel.talk.sequence
    → IsPoll old link new link' (polled.Done told)
poll_done old new u u' channel link link' leaves told is none config granted closed r left result inbox size
    sequence = record {
      moves = record {
        received = r.moves.received;
        used = r.moves.used;
        written = r.moves.written;
        took = r.moves.took;
        wrote = r.moves.wrote;
        inbox = r.moves.inbox ∙ ap (λ x. r.moves.used ++ x) (sym inbox);
        faults = r.moves.faults;
        waits = r.moves.waits;
        moment = r.moves.moment;
        clock_faults = r.moves.clock_faults;
        looks = r.moves.looks;
        lent = r.moves.lent;
        shut = r.moves.shut;
        space = r.moves.space;
      };
      orderly = λ origin b w s.
          let o = r.orderly origin b w s.config s.granted (stands_at old u origin b w is s) in
          record { deeds = o.deeds; written = o.written; used = o.used; received = o.received; order = o.order };
      config = config;
      counts = told_counts u' link link' told r.over (λ end is. (result end is).code) r.counts;
      comes = (
        some_of old u is,
        ap (option_map (λ (x : UnderWay). x.running.job)) none,
        λ origin b w s.
            let e = r.ends_by origin b w s.config s.granted (stands_at old u origin b w is s) in
            let told_is = result e.end e.ends_as in
            record {
              end = e.end;
              carried = e.carried;
              result = record {
                job = told_is.job ∙ e.job;
                code = told_is.code;
                octets = told_is.octets;
                few = told_is.few;
                codes = told_is.codes;
                blank = told_is.blank;
                carried = told_is.carried ∙ e.carries;
              };
              granted = granted ∙ ap (λ x. grant_after x old.granted) (left e.end e.ends_as);
              closed = closed ∙ ap (λ x. closed_after x old.is_closed) (left e.end e.ends_as);
              cause =
                  let used = b ++ r.moves.used in
                  let written = w ++ r.moves.written in
                  subst (λ x. IsDoneBy origin link link' x e.end e.carried used written (waited_of old)) (sym inbox)
                  (done_by origin link link' (unread channel) e.end e.carried used written (waited_of old) u.waited
                  (ap (option_map (λ (x : UnderWay). x.waited)) is) e.cause);
              size = size ∙ e.size;
              sequence = sequence ∙ e.sequence;
            },
      );
    }
