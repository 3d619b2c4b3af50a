-- Laws of what calls do to a session.
use Rattle.std.proofs.Common.{◌≡◌, ℕ, ◌+◌, ◌-◌, ◌≤◌, List, [], ◌∷◌, ◌++◌, length, map, refl, ap, sym, ◌∙◌, subst}
use Rattle.std.proofs.Common.{append_assoc, arith, length-append}
use Rattle.std.specs.Prelude.{Option, None, Some, option_map, IfSome}
use Rattle.std.proofs.lemmas.List.{append-nil}
use Rattle.std.specs.Io.KnownBytes.{prepend_known, append_known}
use Rattle.s7_outer.specs.Shown.{Shown}
use Rattle.s7_outer.specs.Count.{RoseExactly}
use Rattle.s7_plant.specs.declared.request.Ask.{Ask}
use Rattle.s7_plant.specs.Replies.{Said}
use Rattle.s7_wire.specs.Reads.{HasRead}
use Rattle.s7_session.specs.declared.session.Session.{Session}
use Rattle.s7_session.specs.declared.outcome.Outcome.{Outcome}
use Rattle.s7_session.specs.declared.outcome.Outcome.TheVariants as outcome
use Rattle.s7_session.specs.Conversing.{link_of, tpdu_size_of, sends}
use Rattle.s7_session.specs.Entry.{Entry, answered}
use Rattle.s7_session.specs.LinkState.{LinkState}
use Rattle.s7_session.specs.Owed.{telegrams, owed}
use Rattle.s7_session.specs.Stands.{Stands, AllButOne, Moves, HasCause, closed_with}
use Rattle.s7_session.specs.Telegrams.{Met, verdicts_of, entered_of, looks_in, NoneTimed, AllAt, clock_failures, last_number}
use Rattle.s7_session.specs.Verdict.{Verdict, Entered, Full, ClockFailed, NoMemory}
use Rattle.s7_session.proofs.ConsumeLemmas.{entered-append}
use Rattle.s7_session.proofs.DoerLemmas.{trail-append}

pub prepend_twice : (a b : List ℕ) (o : Option (List ℕ)) → prepend_known a (prepend_known b o) ≡ prepend_known (a ++ b) o
prepend_twice a b None = refl
prepend_twice a b (Some x) = ap Some (sym (append_assoc a b x))

pub append_twice : (o : Option (List ℕ)) (a b : List ℕ) → append_known (append_known o a) b ≡ append_known o (a ++ b)
append_twice None a b = refl
append_twice (Some x) a b = ap Some (append_assoc x a b)

pub prepend_none : (o : Option (List ℕ)) → o ≡ prepend_known [] o
prepend_none None = refl
prepend_none (Some x) = refl

pub append_none : (o : Option (List ℕ)) → o ≡ append_known o []
append_none None = refl
append_none (Some x) = ap Some (sym (append-nil x))

pub space_twice : (o : Option ℕ) (a b : List ℕ) → option_map (λ s. s - length b) (option_map (λ s. s - length a) o) ≡ option_map (λ s. s - length (a ++ b)) o
space_twice None a b = refl
space_twice (Some s) a b = ap Some (omega (arith, length-append a b))

pub space_none : (o : Option ℕ) → o ≡ option_map (λ s. s - 0) o
space_none None = refl
space_none (Some s) = ap Some (omega arith)

pub fits_twice : (o : Option ℕ) (a b : List ℕ) → IfSome o (λ s. length a ≤ s) → IfSome (option_map (λ s. s - length a) o) (λ s. length b ≤ s) → IfSome o (λ s. length (a ++ b) ≤ s)
fits_twice None a b p q = tt
fits_twice (Some s) a b p q = omega (arith, length-append a b, p, q)

pub fits_none : (o : Option ℕ) → IfSome o (λ s. 0 ≤ s)
fits_none None = tt
fits_none (Some s) = omega arith

-- what calls did to a link that received and sent so much
pub record Moved (link link' : Shown) (received written : List ℕ) : Type 0 where
  pub took : link.left ≡ prepend_known received link'.left
  pub wrote : link'.written ≡ append_known link.written written
  pub fits : IfSome link.space (λ s. length written ≤ s)
  pub space : link'.space ≡ option_map (λ s. s - length written) link.space
  pub lent : link'.lent ≡ link.lent
  pub shut : link'.shut ≡ link.shut
  pub moment : link'.moment ≡ link.moment
  pub clock_faults : link'.clock_faults ≡ link.clock_faults
  pub looks : link'.looks ≡ link.looks
  pub faults : link.faults ≤ link'.faults
  pub waits : link.waits ≤ link'.waits

pub moved_nothing : (k : Shown) → Moved k k [] []
moved_nothing k = record {
  took = prepend_none k.left;
  wrote = append_none k.written;
  fits = fits_none k.space;
  space = space_none k.space;
  lent = refl;
  shut = refl;
  moment = refl;
  clock_faults = refl;
  looks = refl;
  faults = omega arith;
  waits = omega arith;
}

pub moved_by_receive : (k k' : Shown) (received : List ℕ) → k.left ≡ prepend_known received k'.left → k.faults ≤ k'.faults → k.waits ≤ k'.waits
    → k' ≡ record k { left = k'.left; has_ended = k'.has_ended; faults = k'.faults; waits = k'.waits } → Moved k k' received []
moved_by_receive k k' received took faults waits same = record {
  took = took;
  wrote = ap (λ x. x.written) same ∙ append_none k.written;
  fits = fits_none k.space;
  space = ap (λ x. x.space) same ∙ space_none k.space;
  lent = ap (λ x. x.lent) same;
  shut = ap (λ x. x.shut) same;
  moment = ap (λ x. x.moment) same;
  clock_faults = ap (λ x. x.clock_faults) same;
  looks = ap (λ x. x.looks) same;
  faults = faults;
  waits = waits;
}

pub moved_by_transmit : (k k' : Shown) (written : List ℕ) → k'.written ≡ append_known k.written written → IfSome k.space (λ s. length written ≤ s) → k'.space ≡ option_map (λ s. s - length written) k.space → k.faults ≤ k'.faults → k.waits ≤ k'.waits
    → k' ≡ record k { written = k'.written; faults = k'.faults; waits = k'.waits; space = k'.space } → Moved k k' [] written
moved_by_transmit k k' written wrote fits space faults waits same = record {
  took = prepend_none k.left ∙ ap (prepend_known []) (sym (ap (λ x. x.left) same));
  wrote = wrote;
  fits = fits;
  space = space;
  lent = ap (λ x. x.lent) same;
  shut = ap (λ x. x.shut) same;
  moment = ap (λ x. x.moment) same;
  clock_faults = ap (λ x. x.clock_faults) same;
  looks = ap (λ x. x.looks) same;
  faults = faults;
  waits = waits;
}

pub clock_failures-append : (xs ys : List Verdict) → clock_failures (xs ++ ys) ≡ clock_failures xs + clock_failures ys
clock_failures-append [] ys = omega arith
clock_failures-append (Entered reply moment ∷ xs) ys = clock_failures-append xs ys
clock_failures-append (Full ∷ xs) ys = clock_failures-append xs ys
clock_failures-append (ClockFailed ∷ xs) ys = omega (arith, clock_failures-append xs ys)
clock_failures-append (NoMemory ∷ xs) ys = clock_failures-append xs ys

pub looks_in-append : (xs ys : List Met) → looks_in (xs ++ ys) ≡ looks_in xs + looks_in ys
looks_in-append [] ys = omega arith
looks_in-append (x ∷ xs) ys = omega (arith, looks_in-append xs ys)

pub AllAt-append : (told : Option ℕ) (xs ys : List Entry) → AllAt told xs → AllAt told ys → AllAt told (xs ++ ys)
AllAt-append told [] ys p q = q
AllAt-append told (x ∷ xs) ys p q = (p.0, AllAt-append told xs ys p.1 q)

pub last_number-append : (before : Option ℕ) (xs ys : List Entry) → last_number before (xs ++ ys) ≡ last_number (last_number before xs) ys
last_number-append before [] ys = refl
last_number-append before (x ∷ xs) ys = last_number-append (Some x.number) xs ys

pub rose_both : (m n a b c : ℕ) → RoseExactly m a b → RoseExactly n b c → RoseExactly (m + n) a c
rose_both m n a b c p q = (omega (arith, p.0, q.0), omega (arith, p.1, q.1))

pub map-append : (xs ys : List Entry) → map answered (xs ++ ys) ≡ map answered xs ++ map answered ys
map-append [] ys = refl
map-append (x ∷ xs) ys = ap (λ zs. answered x ∷ zs) (map-append xs ys)

pub verdicts-append : (xs ys : List Met) → verdicts_of (xs ++ ys) ≡ verdicts_of xs ++ verdicts_of ys
verdicts-append [] ys = refl
verdicts-append (x ∷ xs) ys = ap (λ vs. x.verdict ∷ vs) (verdicts-append xs ys)

pub NoneTimed-front : (xs ys : List Met) → NoneTimed (xs ++ ys) → NoneTimed xs
NoneTimed-front [] ys h = tt
NoneTimed-front (x ∷ xs) ys h = (h.0, NoneTimed-front xs ys h.1)

pub NoneTimed-back : (xs ys : List Met) → NoneTimed (xs ++ ys) → NoneTimed ys
NoneTimed-back [] ys h = h
NoneTimed-back (x ∷ xs) ys h = NoneTimed-back xs ys h.1

-- what a session stands for, with nothing more
pub stands_nothing : (first : LinkState) (s : Session) (b : List ℕ) (js : List Verdict) (w : List ℕ) → Stands first s b js w → Stands first s (b ++ []) (js ++ []) w
stands_nothing first s b js w h =
    let P : List ℕ → Type 0 = λ x. Stands first s x (js ++ []) w in
    let Q : List Verdict → Type 0 = λ x. Stands first s b x w in
    subst P (sym (append-nil b)) (subst Q (sym (append-nil js)) h)

-- a session whose parts are as they were
pub record Keeps (old new : Session) : Type 0 where
  pub reader : new.reader ≡ old.reader
  pub used : new.used ≡ old.used
  pub count : new.count ≡ old.count
  pub newest : new.newest ≡ old.newest
  pub held : new.conversation.held ≡ old.conversation.held
  pub size : new.conversation.size ≡ old.conversation.size

-- more was written
whole_more : (first : LinkState) (b : List ℕ) (js : List Verdict) (w written : List ℕ) → AllButOne first b js w → AllButOne first b js (w ++ written)
whole_more first b js w written a = record {
  front = a.front;
  behind = a.behind;
  octets = a.octets;
  met = a.met;
  later = a.later;
  verdicts = a.verdicts;
  part = a.part ++ written;
  whole = ap (λ x. x ++ written) a.whole ∙ append_assoc (owed first a.front a.met) a.part written;
  all_but_one = a.all_but_one;
}

-- a session that used nothing
pub stood_plain : (first : LinkState) (old new : Session) (written : List ℕ) → Keeps old new → sends old.conversation ≡ written ++ sends new.conversation
    → (closed_with new ≡ None → closed_with old ≡ None) → (b : List ℕ) (js : List Verdict) (w : List ℕ) → Stands first old b js w → Stands first new b js (w ++ written)
stood_plain first old new written k outbox closed b js w h = record {
  read = subst (λ r. HasRead r b) (sym k.reader) h.read;
  used = h.used ∙ sym k.used;
  met = h.met;
  owed = h.owed ∙ (ap (λ x. w ++ x) outbox ∙ sym (append_assoc w written (sends new.conversation)));
  whole = whole_more first b js w written h.whole;
  lives = λ e. h.lives (closed e);
  link = λ e. h.link (closed e) ∙ ap link_of (sym k.held);
  size = λ e. h.size (closed e) ∙ ap tpdu_size_of (sym k.size);
}

-- a session that only received and sent
unfoldable pub moves_plain : {D : Type 0} (stands : D → List Entry → Type 0) (full lack : D → Ask → Type 0) (did : D → Ask → Option (ℕ × Said) → D → Type 0) (kept : D → D → Type 0) (old new : Session) (link link' : Shown) (d : D) (received written : List ℕ)
    → Keeps old new → sends old.conversation ≡ written ++ sends new.conversation → old.inbox ++ received ≡ new.inbox
    → (closed_with new ≡ None → closed_with old ≡ None)
    → Moved link link' received written
    → Moves stands full lack did kept old link d new link' d
moves_plain stands full lack did kept old new link link' d received written k outbox inbox closed moved = record {
  received = received;
  used = [];
  written = written;
  mets = [];
  entries = [];
  took = moved.took;
  wrote = moved.wrote;
  fits = moved.fits;
  space = moved.space;
  lent = moved.lent;
  shut = moved.shut;
  inbox = inbox;
  stood = λ first b js w h. stands_nothing first new b js (w ++ written) (stood_plain first old new written k outbox closed b js w h);
  asked = λ first b js w h. ap (λ x. telegrams first x (js ++ [])) (append-nil b) ∙ (ap (λ x. telegrams first b x) (append-nil js) ∙ sym (append-nil (telegrams first b js)));
  entered = refl;
  count = omega (arith, k.count);
  newest = k.newest;
  doer = λ es h. subst (stands d) (sym (append-nil es)) h;
  trail = (refl, refl);
  clock = (omega (arith, moved.clock_faults), omega (arith, moved.clock_faults));
  unasked = λ h. moved.clock_faults;
  looks = (omega (arith, moved.looks), omega (arith, moved.looks));
  moment = moved.moment;
  moments = tt;
  faults = moved.faults;
  waits = moved.waits;
}

-- calls one after another
unfoldable pub moves_both : {D : Type 0} (stands : D → List Entry → Type 0) (full lack : D → Ask → Type 0) (did : D → Ask → Option (ℕ × Said) → D → Type 0) (kept : D → D → Type 0) (s0 s1 s2 : Session) (k0 k1 k2 : Shown) (d0 d1 d2 : D)
    → Moves stands full lack did kept s0 k0 d0 s1 k1 d1 → Moves stands full lack did kept s1 k1 d1 s2 k2 d2 → Moves stands full lack did kept s0 k0 d0 s2 k2 d2
moves_both stands full lack did kept s0 s1 s2 k0 k1 k2 d0 d1 d2 m n =
    let vs = verdicts-append m.mets n.mets in
    record {
      received = m.received ++ n.received;
      used = m.used ++ n.used;
      written = m.written ++ n.written;
      mets = m.mets ++ n.mets;
      entries = m.entries ++ n.entries;
      took = m.took ∙ (ap (prepend_known m.received) n.took ∙ prepend_twice m.received n.received k2.left);
      wrote = n.wrote ∙ (ap (λ o. append_known o n.written) m.wrote ∙ append_twice k0.written m.written n.written);
      fits = fits_twice k0.space m.written n.written m.fits (subst (λ (x : Option ℕ). IfSome x (λ s. length n.written ≤ s)) m.space n.fits);
      space = n.space ∙ (ap (option_map (λ s. s - length n.written)) m.space ∙ space_twice k0.space m.written n.written);
      lent = n.lent ∙ m.lent;
      shut = n.shut ∙ m.shut;
      inbox = sym (append_assoc s0.inbox m.received n.received)
          ∙ ap (λ x. x ++ n.received) m.inbox
          ∙ append_assoc m.used s1.inbox n.received
          ∙ ap (λ x. m.used ++ x) n.inbox
          ∙ sym (append_assoc m.used n.used s2.inbox);
      stood = λ first b js w h.
          let P : List ℕ → Type 0 = λ x. Stands first s2 x (js ++ verdicts_of (m.mets ++ n.mets)) (w ++ (m.written ++ n.written)) in
          let Q : List Verdict → Type 0 = λ x. Stands first s2 ((b ++ m.used) ++ n.used) x (w ++ (m.written ++ n.written)) in
          let R : List ℕ → Type 0 = λ x. Stands first s2 ((b ++ m.used) ++ n.used) ((js ++ verdicts_of m.mets) ++ verdicts_of n.mets) x in
          subst P (append_assoc b m.used n.used)
          (subst Q (append_assoc js (verdicts_of m.mets) (verdicts_of n.mets) ∙ ap (λ x. js ++ x) (sym vs))
          (subst R (append_assoc w m.written n.written)
          (n.stood first (b ++ m.used) (js ++ verdicts_of m.mets) (w ++ m.written) (m.stood first b js w h))));
      asked = λ first b js w h.
          ap (λ x. telegrams first x (js ++ verdicts_of (m.mets ++ n.mets))) (sym (append_assoc b m.used n.used))
          ∙ ap (λ x. telegrams first ((b ++ m.used) ++ n.used) x) (ap (λ x. js ++ x) vs ∙ sym (append_assoc js (verdicts_of m.mets) (verdicts_of n.mets)))
          ∙ n.asked first (b ++ m.used) (js ++ verdicts_of m.mets) (w ++ m.written) (m.stood first b js w h)
          ∙ ap (λ x. x ++ n.mets) (m.asked first b js w h)
          ∙ append_assoc (telegrams first b js) m.mets n.mets;
      entered = map-append m.entries n.entries
          ∙ (ap (λ x. x ++ map answered n.entries) m.entered ∙ (ap (λ x. entered_of m.mets ++ x) n.entered ∙ sym (entered-append m.mets n.mets)));
      count = omega (arith, m.count, n.count, length-append m.entries n.entries);
      newest = n.newest ∙ (ap (λ x. last_number x n.entries) m.newest ∙ sym (last_number-append s0.newest m.entries n.entries));
      doer = λ es h. subst (stands d2) (append_assoc es m.entries n.entries) (n.doer (es ++ m.entries) (m.doer es h));
      trail = trail-append full lack did kept d0 d1 d2 m.mets n.mets m.entries n.entries m.trail n.trail;
      clock =
          subst (λ (x : ℕ). RoseExactly x k0.clock_faults k2.clock_faults) (sym (ap clock_failures vs ∙ clock_failures-append (verdicts_of m.mets) (verdicts_of n.mets)))
          (rose_both (clock_failures (verdicts_of m.mets)) (clock_failures (verdicts_of n.mets)) k0.clock_faults k1.clock_faults k2.clock_faults m.clock n.clock);
      unasked = λ h. n.unasked (NoneTimed-back m.mets n.mets h) ∙ m.unasked (NoneTimed-front m.mets n.mets h);
      looks =
          subst (λ (x : ℕ). RoseExactly x k0.looks k2.looks) (sym (looks_in-append m.mets n.mets))
          (rose_both (looks_in m.mets) (looks_in n.mets) k0.looks k1.looks k2.looks m.looks n.looks);
      moment = n.moment ∙ m.moment;
      moments = AllAt-append k0.moment m.entries n.entries m.moments (subst (λ (x : Option ℕ). AllAt x n.entries) m.moment n.moments);
      faults = omega (arith, m.faults, n.faults);
      waits = omega (arith, m.waits, n.waits);
    }

pub keeps_same : (s : Session) → Keeps s s
keeps_same s = record { reader = refl; used = refl; count = refl; newest = refl; held = refl; size = refl }

unfoldable pub moves_none : {D : Type 0} (stands : D → List Entry → Type 0) (full lack : D → Ask → Type 0) (did : D → Ask → Option (ℕ × Said) → D → Type 0) (kept : D → D → Type 0) (s : Session) (k : Shown) (d : D) → Moves stands full lack did kept s k d s k d
moves_none stands full lack did kept s k d =
    moves_plain stands full lack did kept s s k k d [] [] (keeps_same s) refl (append-nil s.inbox) (λ h. h) (moved_nothing k)

-- a cause in a later part is one in the whole
pub cause_earlier : (k0 k1 k2 : Shown) (first : LinkState) (s : Session) (b : List ℕ) (js : List Verdict) (o : Outcome) → k0.faults ≤ k1.faults → HasCause k1 k2 first s b js o → HasCause k0 k2 first s b js o
cause_earlier k0 k1 k2 first s b js outcome.Ended le h = h
cause_earlier k0 k1 k2 first s b js (outcome.Torn n) le h = h
cause_earlier k0 k1 k2 first s b js (outcome.BadFrame at) le h = h
cause_earlier k0 k1 k2 first s b js (outcome.FrameTooLong at) le h = h
cause_earlier k0 k1 k2 first s b js (outcome.BadTpdu at) le h = h
cause_earlier k0 k1 k2 first s b js (outcome.Unexpected at) le h = h
cause_earlier k0 k1 k2 first s b js (outcome.TooManyFragments at) le h = h
cause_earlier k0 k1 k2 first s b js (outcome.TooLong at) le h = h
cause_earlier k0 k1 k2 first s b js (outcome.NotS7 at) le h = h
cause_earlier k0 k1 k2 first s b js outcome.ReadFault le h = (omega (arith, h.0), h.1, h.2)
cause_earlier k0 k1 k2 first s b js outcome.WriteFault le h = (omega (arith, h.0), h.1, h.2)
cause_earlier k0 k1 k2 first s b js outcome.Spent le h = h
cause_earlier k0 k1 k2 first s b js outcome.Memory le h = h
