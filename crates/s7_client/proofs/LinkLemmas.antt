-- Laws of the steps of a poll on their link: what they move, and what comes of octets that are read.
use Rattle.std.proofs.lemmas.Bool.Decides.{nat_tests}
use Rattle.std.proofs.Common.{◌≡◌, ◌==◌, Bool, true, false, ℕ, ◌-◌, ◌<◌, ◌≤◌, List, [], ◌++◌, length, refl, ap, sym, ◌∙◌, subst, append_assoc, arith, length-append}
use Rattle.std.specs.Prelude.{Option, None, Some, option_map, IsSome}
use Rattle.std.proofs.lemmas.List.{append-nil, nil_from_length}
use Rattle.std.specs.Io.KnownBytes.{prepend_known, append_known}
use Rattle.s7_outer.specs.Shown.{Shown}
use Rattle.s7_dialogue.specs.declared.config.Config.{Config}
use Rattle.s7_dialogue.specs.declared.grant.Grant.{Grant}
use Rattle.s7_client.specs.declared.channel.Channel.{Channel}
use Rattle.s7_client.specs.declared.under_way.UnderWay.{UnderWay}
use Rattle.s7_client.specs.declared.channel.Step.TheVariants as step
use Rattle.s7_dialogue.specs.Dialogue.{fault_end}
use Rattle.s7_dialogue.specs.Running.{awaited_in, IsOver}
use Rattle.s7_dialogue.specs.Course.{Origin, for_nothing, course, may_send}
use Rattle.s7_client.specs.At.{IsAwaiting, pending}
use Rattle.s7_client.specs.Standing.{Stands, Fits, Consumes, Moves, IsStep, IsWaiting, HasMetNotYet, HasCause, HasEnded, unread, unsent}
use Rattle.s7_client.proofs.PacketLemmas.{awaiting_goes_on, closed_stage}
use Rattle.s7_client.proofs.StepLemmas.{awaits_here, sent_whole}
use Rattle.s7_client.proofs.OrderLemmas.{orderly_none, orderly_used, orderly_taken}

pub prepend_none : (o : Option (List ℕ)) → o ≡ prepend_known [] o
prepend_none None = refl
prepend_none (Some x) = refl

pub append_none : (o : Option (List ℕ)) → o ≡ append_known o []
append_none None = refl
append_none (Some x) = ap Some (sym (append-nil x))

pub space_none : (o : Option ℕ) → o ≡ option_map (λ space. space - length {A = ℕ} []) o
space_none None = refl
space_none (Some n) = ap Some (omega arith)

pub went_not_yet : step.Went ≡ step.NotYet → ⊥
went_not_yet e = cc

pub went_not_over : step.Went ≡ step.Over → ⊥
went_not_over e = cc

pub not_yet_not_went : step.NotYet ≡ step.Went → ⊥
not_yet_not_went e = cc

pub not_yet_not_over : step.NotYet ≡ step.Over → ⊥
not_yet_not_over e = cc

pub over_not_went : step.Over ≡ step.Went → ⊥
over_not_went e = cc

pub over_not_yet : step.Over ≡ step.NotYet → ⊥
over_not_yet e = cc

-- nothing was written
unfoldable pub moves_received : (l l' : Channel) (link link' : Shown) (received used : List ℕ)
    → unread l ++ received ≡ used ++ unread l' → link.left ≡ prepend_known received link'.left
    → link' ≡ record link { left = link'.left; has_ended = link'.has_ended; faults = link'.faults; waits = link'.waits }
    → link.faults ≤ link'.faults → link.waits ≤ link'.waits → Moves (unread l) link (unread l') link'
moves_received l l' link link' received used inbox took same faults waits = record {
  received = received;
  used = used;
  written = [];
  took = took;
  wrote = ap (λ x. x.written) same ∙ append_none link.written;
  inbox = inbox;
  faults = faults;
  waits = waits;
  moment = ap (λ x. x.moment) same;
  clock_faults = ap (λ x. x.clock_faults) same;
  looks = ap (λ x. x.looks) same;
  lent = ap (λ x. x.lent) same;
  shut = ap (λ x. x.shut) same;
  space = ap (λ x. x.space) same ∙ space_none link.space;
}

-- nothing was received or used
unfoldable pub moves_sent : (l l' : Channel) (link link' : Shown) (written : List ℕ) → unread l ≡ unread l'
    → link'.written ≡ append_known link.written written
    → link'.space ≡ option_map (λ space. space - length written) link.space
    → link' ≡ record link { written = link'.written; faults = link'.faults; waits = link'.waits; space = link'.space }
    → link.faults ≤ link'.faults → link.waits ≤ link'.waits → Moves (unread l) link (unread l') link'
moves_sent l l' link link' written inbox wrote space same faults waits = record {
  received = [];
  used = [];
  written = written;
  took = prepend_none link.left ∙ ap (λ x. prepend_known [] x.left) (sym same);
  wrote = wrote;
  inbox = append-nil (unread l) ∙ inbox;
  faults = faults;
  waits = waits;
  moment = ap (λ x. x.moment) same;
  clock_faults = ap (λ x. x.clock_faults) same;
  looks = ap (λ x. x.looks) same;
  lent = ap (λ x. x.lent) same;
  shut = ap (λ x. x.shut) same;
  space = space;
}

unfoldable pub moves_none : (l : Channel) (link : Shown) → Moves (unread l) link (unread l) link
moves_none l link = moves_received l l link link [] [] (append-nil (unread l)) (prepend_none link.left) refl
    (omega arith) (omega arith)

pub prepend_both : (xs ys : List ℕ) (o : Option (List ℕ))
    → prepend_known xs (prepend_known ys o) ≡ prepend_known (xs ++ ys) o
prepend_both xs ys None = refl
prepend_both xs ys (Some x) = ap Some (sym (append_assoc xs ys x))

pub append_both : (o : Option (List ℕ)) (xs ys : List ℕ)
    → append_known (append_known o xs) ys ≡ append_known o (xs ++ ys)
append_both None xs ys = refl
append_both (Some x) xs ys = ap Some (append_assoc x xs ys)

pub space_both : (o : Option ℕ) (xs ys : List ℕ)
    → option_map (λ space. space - length ys) (option_map (λ space. space - length xs) o)
    ≡ option_map (λ space. space - length (xs ++ ys)) o
space_both None xs ys = refl
space_both (Some n) xs ys = ap Some (omega (arith, length-append xs ys))

unfoldable pub moves_both : (l l1 l2 : Channel) (k k1 k2 : Shown) → Moves (unread l) k (unread l1) k1
    → Moves (unread l1) k1 (unread l2) k2 → Moves (unread l) k (unread l2) k2
moves_both l l1 l2 k k1 k2 m n = record {
  received = m.received ++ n.received;
  used = m.used ++ n.used;
  written = m.written ++ n.written;
  took = m.took ∙ (ap (prepend_known m.received) n.took ∙ prepend_both m.received n.received k2.left);
  wrote = n.wrote ∙ (ap (λ x. append_known x n.written) m.wrote ∙ append_both k.written m.written n.written);
  inbox =
      sym (append_assoc (unread l) m.received n.received)
      ∙ (ap (λ x. x ++ n.received) m.inbox
      ∙ (append_assoc m.used (unread l1) n.received
      ∙ (ap (λ x. m.used ++ x) n.inbox
      ∙ sym (append_assoc m.used n.used (unread l2)))));
  faults = omega (arith, m.faults, n.faults);
  waits = omega (arith, m.waits, n.waits);
  moment = n.moment ∙ m.moment;
  clock_faults = n.clock_faults ∙ m.clock_faults;
  looks = n.looks ∙ m.looks;
  lent = n.lent ∙ m.lent;
  shut = n.shut ∙ m.shut;
  space = n.space ∙ (ap (option_map (λ space. space - length n.written)) m.space
      ∙ space_both k.space m.written n.written);
}

-- ---- octets are used

-- a job stands where it stood, whatever was read
stands_with : (origin : Origin) (l : Channel) (octets : _) (u : UnderWay) (b w : List ℕ) → Stands origin l u b w
    → Stands origin (record l { inbox = octets }) u b w
stands_with origin l octets u b w s = record {
  at = s.at;
  owed = s.owed;
  rest = s.rest;
  sent_first = s.sent_first;
  all_awaited = s.all_awaited;
}

pub step_used : (l l' : Channel) (u u' : UnderWay) (link : Shown) (config : Config) (granted : Option Grant)
    → pending config l.talk u.running ≡ [] → Consumes l u l' u' config granted
    → IsStep l u link l' u' link config granted step.Went
unfolding moves_received
step_used l l' u u' link config granted sent k = record {
  moves = moves_received l l' link link [] k.used (append-nil (unread l) ∙ k.inbox) (prepend_none link.left) refl
      (omega arith) (omega arith);
  fits = λ h. k.fits;
  left = k.fits.between;
  waited = k.waited;
  stood = λ origin b w ec eg s h. subst (λ x. Stands origin l' u' (b ++ k.used) x) (sym (append-nil w))
      (k.stood origin b w ec eg s);
  orderly = λ origin b w ec eg s. orderly_used origin (unread l) b w _
      (sym (sent_whole origin l u b w config ec s sent)) k.some k.inbox refl refl;
  less = λ e. k.less;
  met = λ origin b w ec eg s e. absurd (went_not_yet e);
  over = λ e. absurd (went_not_over e);
  cause = λ origin b w ec eg s e. absurd (went_not_over e);
}

-- octets came, and are used
pub step_taken : (l l' : Channel) (u u' : UnderWay) (link link' : Shown) (received : List ℕ) (config : Config)
    (granted : Option Grant) → IsAwaiting u.running.stage → pending config l.talk u.running ≡ [] → unread l ≡ []
    → Consumes (record l { inbox = received }) u l' u' config granted → link.left ≡ prepend_known received link'.left
    → link' ≡ record link { left = link'.left; has_ended = link'.has_ended; faults = link'.faults; waits = link'.waits }
    → link.faults ≤ link'.faults → link.waits ≤ link'.waits
    → IsStep l u link l' u' link' config granted step.Went
unfolding moves_received
step_taken l l' u u' link link' received config granted awaiting sent none k took same faults waits = record {
  moves = moves_received l l' link link' received k.used (ap (λ x. x ++ received) none ∙ k.inbox) took
      same faults waits;
  fits = λ h. k.fits;
  left = k.fits.between;
  waited = k.waited;
  stood = λ origin b w ec eg s h. subst (λ x. Stands origin l' u' (b ++ k.used) x) (sym (append-nil w))
      (k.stood origin b w ec eg (stands_with origin l received u b w s));
  orderly = λ origin b w ec eg s. orderly_taken origin (unread l) b w _
      (sym (sent_whole origin l u b w config ec s sent)) none (awaits_here (course origin b) u awaiting s.at.awaits)
      k.some k.inbox refl;
  less = λ e. k.less;
  met = λ origin b w ec eg s e. absurd (went_not_yet e);
  over = λ e. absurd (went_not_over e);
  cause = λ origin b w ec eg s e. absurd (went_not_over e);
}

-- ---- nothing comes

-- all was sent, and octets are awaited
waits_here : (origin : Origin) (l l' : Channel) (u : UnderWay) (b w : List ℕ) (config : Config) → origin.config ≡ config
    → Stands origin l u b w → IsAwaiting u.running.stage
    → pending config l.talk u.running ≡ [] → unread l' ≡ [] → IsWaiting origin (unread l') b w
waits_here origin l l' u b w config ec s awaiting sent none = record {
  awaits = awaits_here (course origin b) u awaiting s.at.awaits;
  sent = sym (sent_whole origin l u b w config ec s sent);
  none = none;
}

fits_with : (l : Channel) (u : UnderWay) (octets : _) → Fits l u → Fits (record l { inbox = octets }) u
fits_with l u octets f = record {
  reads = f.reads;
  unsized = f.unsized;
  sized = f.sized;
  opening = f.opening;
  between = λ h.
      let k = f.between h in
      record { reads = k.reads; sized = k.sized; held = k.held; clear = k.clear; sent = k.sent };
  many = f.many;
  few = f.few;
  quiet = f.quiet;
  carried = f.carried;
}

-- octets and writings at their ends
pub same_stands : (origin : Origin) (l : Channel) (u : UnderWay) (b w : List ℕ) → Stands origin l u b w
    → Stands origin l u (b ++ []) (w ++ [])
same_stands origin l u b w s =
    subst (λ x. Stands origin l u x (w ++ [])) (sym (append-nil b))
    (subst (λ x. Stands origin l u b x) (sym (append-nil w)) s)

pub same_cause : (origin : Origin) (link link' : Shown) (l : Channel) (u : UnderWay) (b w : List ℕ)
    → HasEnded origin link link' l u b w → HasEnded origin link link' l u (b ++ []) (w ++ [])
same_cause origin link link' l u b w s =
    subst (λ x. HasEnded origin link link' l u x (w ++ [])) (sym (append-nil b))
    (subst (λ x. HasEnded origin link link' l u b x) (sym (append-nil w)) s)

pub same_met : (origin : Origin) (l : List ℕ) (link : Shown) (b w : List ℕ) → HasMetNotYet origin l link b w
    → HasMetNotYet origin l link (b ++ []) (w ++ [])
same_met origin l link b w s =
    subst (λ x. HasMetNotYet origin l link x (w ++ [])) (sym (append-nil b))
    (subst (λ x. HasMetNotYet origin l link b x) (sym (append-nil w)) s)

all_sent : (all w rest : List ℕ) → all ≡ w → all ≡ w ++ rest → 0 < length rest → ⊥
all_sent all w rest e f some = omega (arith, ap length (sym e ∙ f), length-append w rest, some)

pub not_all_sent : (all w unsent : List ℕ) → all ≡ w ++ unsent → all ≡ w → 0 < length unsent → ⊥
not_all_sent all w unsent e f some = omega (arith, ap length (sym e ∙ f), length-append w unsent, some)

nothing_came : (o : Option ℕ) (left : Option (List ℕ)) → (IsSome o → left ≡ Some []) → (n : ℕ) → o ≡ Some n
    → left ≡ Some []
nothing_came None left h n e = absurd (cc)
nothing_came (Some m) left h n e = h refl

took_none : (left left' : Option (List ℕ)) (received : List ℕ) → received ≡ []
    → left ≡ prepend_known received left' → left ≡ left'
took_none left left' received none took = took ∙ (ap (λ x. prepend_known x left') none ∙ sym (prepend_none left'))

pub step_waiting : (l : Channel) (octets : _) (u : UnderWay) (link link' : Shown) (config : Config)
    (granted : Option Grant) → Fits l u → IsAwaiting u.running.stage
    → pending config l.talk u.running ≡ [] → unread l ≡ []
    → unread (record l { inbox = octets }) ≡ []
    → link.left ≡ prepend_known (unread (record l { inbox = octets })) link'.left
    → link' ≡ record link { left = link'.left; has_ended = link'.has_ended; faults = link'.faults; waits = link'.waits }
    → link.faults ≤ link'.faults → link.waits ≤ link'.waits
    → (IsSome link.space → link.left ≡ Some [])
    → IsStep l u link (record l { inbox = octets }) u link' config granted step.NotYet
unfolding moves_received
step_waiting l octets u link link' config granted fits awaiting sent none none' took same faults waits none_left =
    let l' : Channel = record l { inbox = octets } in
    let took' : link.left ≡ link'.left = took_none link.left link'.left (unread l') none' took in
    record {
      moves = moves_received l l' link link' [] [] (append-nil (unread l) ∙ (none ∙ sym none'))
          (took' ∙ prepend_none link'.left) same faults waits;
      fits = λ h. fits_with l u octets fits;
      left = (fits_with l u octets fits).between;
      waited = refl;
      stood = λ origin b w ec eg s h. same_stands origin l' u b w (stands_with origin l octets u b w s);
      orderly = λ origin b w ec eg s. orderly_none origin (unread l) b w _ refl refl refl;
      less = λ e. absurd (not_yet_not_went e);
      met = λ origin b w ec eg s e. same_met origin (unread l') link' b w (record {
        full = λ rest space e some h. absurd
            (all_sent (may_send origin b) w rest (sent_whole origin l u b w config ec s sent) e some);
        empty = λ space e h. sym took' ∙ nothing_came link.space link.left none_left space
            (sym (ap (λ x. x.space) same) ∙ h);
        waiting = λ e. waits_here origin l l' u b w config ec s awaiting sent none';
      });
      over = λ e. absurd (not_yet_not_over e);
      cause = λ origin b w ec eg s e. absurd (not_yet_not_over e);
    }

-- the job is over, by what a receive answered
pub step_broken : (l : Channel) (octets : _) (u u' : UnderWay) (link link' : Shown) (config : Config)
    (granted : Option Grant) (code : ℕ) → IsAwaiting u.running.stage
    → pending config l.talk u.running ≡ [] → unread l ≡ []
    → unread (record l { inbox = octets }) ≡ []
    → link.left ≡ prepend_known (unread (record l { inbox = octets })) link'.left
    → link' ≡ record link { left = link'.left; has_ended = link'.has_ended; faults = link'.faults; waits = link'.waits }
    → link.faults ≤ link'.faults → link.waits ≤ link'.waits
    → ((carried : List ℕ) → awaited_in u'.running carried ≡ for_nothing (fault_end code) carried)
    → IsOver u'.running.stage → u'.running.job ≡ u.running.job → u'.carried ≡ u.carried → u'.waited ≡ u.waited
    → ((origin : Origin) (b w : List ℕ) → IsWaiting origin (unread (record l { inbox = octets })) b w
    → HasCause origin link link' (unread (record l { inbox = octets })) (fault_end code) [] b w)
    → IsStep l u link (record l { inbox = octets }) u' link' config granted step.Over
unfolding moves_received
step_broken l octets u u' link link' config granted code awaiting sent none none' took same faults waits e over job
    carried waited cause =
    let l' : Channel = record l { inbox = octets } in
    let took' : link.left ≡ link'.left = took_none link.left link'.left (unread l') none' took in
    record {
      moves = moves_received l l' link link' [] [] (append-nil (unread l) ∙ (none ∙ sym none'))
          (took' ∙ prepend_none link'.left) same faults waits;
      fits = λ h. absurd (h refl);
      left = λ h. absurd (closed_stage u'.running code (e []) h);
      waited = waited;
      stood = λ origin b w ec eg s h. absurd (h refl);
      orderly = λ origin b w ec eg s. orderly_none origin (unread l) b w _ refl refl refl;
      less = λ h. absurd (over_not_went h);
      met = λ origin b w ec eg s h. absurd (over_not_yet h);
      over = λ h. over;
      cause = λ origin b w ec eg s h. same_cause origin link link' l' u' b w (record {
        end = fault_end code;
        carried = [];
        ends_as = e [];
        carries = ap (λ x. x.octets) carried ∙ s.at.silent (awaiting_goes_on u.running.stage awaiting);
        job = job ∙ s.at.job;
        size = s.at.size;
        sequence = s.at.sequence;
        cause = cause origin b w (waits_here origin l l' u b w config ec s awaiting sent none');
      });
    }

-- ---- nothing is left

empty_cases : (n : ℕ) (empty : Bool) → empty ≡ (n == 0) → empty ≡ true → n ≡ 0
empty_cases n empty is h = grind (arith, nat_tests)

pub empty_of : (xs : List ℕ) (empty : Bool) → empty ≡ (length xs == 0) → empty ≡ true → xs ≡ []
empty_of xs empty is h = nil_from_length xs (empty_cases (length xs) empty is h)

some_cases : (n : ℕ) (empty : Bool) → empty ≡ (n == 0) → empty ≡ false → 0 < n
some_cases n empty is h = grind (arith, nat_tests)

pub some_of : (xs : List ℕ) (empty : Bool) → empty ≡ (length xs == 0) → empty ≡ false → 0 < length xs
some_of xs empty is h = some_cases (length xs) empty is h

pub some_not_none : (xs : List ℕ) → 0 < length xs → xs ≡ [] → ⊥
some_not_none xs some none = omega (arith, some, ap length none)
