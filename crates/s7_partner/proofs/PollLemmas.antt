-- What a poll comes to.
use Rattle.std.proofs.Common.{◌≡◌, inl, ℕ, ◌+◌, ◌<◌, true, false, List, [], ◌∷◌, ◌++◌, refl, ap, sym, ◌∙◌, subst}
use Rattle.std.proofs.Common.{append-nil, append_assoc, arith}
use Rattle.std.specs.Prelude.{Option, None, Some, option_map, is_none, is_some, Result, Ok, Err}
use Rattle.s7_outer.specs.Held.{Held as Room}
use Rattle.s7_outer.specs.Shown.{Shown}
use Rattle.s7_outer.specs.declared.memory.Memory.{Memory}
use Rattle.s7_wire.specs.Outgoing.{Outgoing}
use Rattle.s7_dialogue.specs.declared.config.Config.{Config}
use Rattle.s7_partner.specs.declared.role.Role.{Role}
use Rattle.s7_partner.specs.declared.partner.Partner.{Partner}
use Rattle.s7_partner.specs.declared.partner.Arrived.{Arrived}
use Rattle.s7_partner.specs.declared.event.PartnerEvent.{PartnerEvent}
use Rattle.s7_partner.specs.declared.event.PartnerEvent.TheVariants as told
use Rattle.s7_partner.specs.declared.step.Step.TheVariants as step
use Rattle.s7_partner.specs.States.{State, Block, Act, hands, with_act, with_acts, after, handed_out}
use Rattle.s7_partner.specs.Acts.{MayTake}
use Rattle.s7_partner.specs.Partners.{Course, is_waiting, Tells}
use Rattle.s7_partner.specs.Held.{closed_of, code_in, unread_of, stage_in, sending_in, receiving_in, block_in}
use Rattle.s7_partner.specs.Held.{StandsFor}
use Rattle.s7_partner.specs.Order.{IsOrderly}
use Rattle.s7_partner.specs.Calls.{IsClosing, IsPoll}
use Rattle.s7_partner.specs.Steps.{Runs, Acknowledges, HasPolled, Polls, unless_whole}
use Rattle.s7_partner.specs.At.{HoldsState, IsAt, KeepsLink}
use Rattle.s7_partner.proofs.CourseLemmas.{course_act}
use Rattle.s7_partner.proofs.ActLemmas.{after-append}
use Rattle.s7_partner.proofs.DeedLemmas.{orderly_none, orderly_done, orderly_both}
use Rattle.s7_partner.proofs.MoveLemmas.{moves_used, moves_both}
use Rattle.s7_partner.proofs.MeetLemmas.{event_counts}
use Rattle.s7_partner.proofs.StandLemmas.{holds_state, stands_at, stands_open, stands_act}
use Rattle.s7_partner.proofs.RunLemmas.{subst_three}
use Rattle.s7_partner.proofs.TellLemmas.{tells_behind}
use Rattle.s7_partner.proofs.ConsumeLemmas.{some_same, whole_by}

-- a poll by lists that are equal to those of its acts and octets
pub polled_at : (role : Role) (config : Config) (kept : List ℕ) (new : Partner) (link link' : Shown) (acts : List Act)
    (b written received used more : List ℕ) (result : Result PartnerEvent Memory) (further acts' : List Act)
    (b' w' : List ℕ) → acts' ≡ acts ++ further → b' ≡ b ++ used → w' ≡ written ++ more
    → IsOrderly role config kept acts further b written received used more
    → Course role config acts' b' w'
    → Tells role config (after role config acts) further link link' (unread_of new) b' w' result
    → ((IsClosing result → ⊥) → StandsFor new acts' b' w')
    → HasPolled role config kept new link link' acts b written received used more result
polled_at role config kept new link link' acts b written received used more result further acts' b' w' ea eb ew orderly
    course tells stands =
    let all = acts ++ further in
    record {
      further = further;
      orderly = orderly;
      course = subst_three (Course role config) all acts' (b ++ used) b' (written ++ more) w' ea eb ew course;
      tells = subst_three
          (λ x y z. Tells role config (after role config acts) further link link' (unread_of new) y z result)
          all acts' (b ++ used) b' (written ++ more) w' ea eb ew tells;
      stands = λ h. subst_three (StandsFor new) all acts' (b ++ used) b' (written ++ more) w' ea eb ew (stands h);
    }

-- ---- a poll behind steps of which nothing is told

pub polled_in : (role role' : Role) (config config' : Config) (kept : List ℕ) (new : Partner) (link link' : Shown)
    (acts : List Act) (b written received used more : List ℕ) (result : Result PartnerEvent Memory) → role ≡ role'
    → config ≡ config' → HasPolled role config kept new link link' acts b written received used more result
    → HasPolled role' config' kept new link link' acts b written received used more result
polled_in role role' config config' kept new link link' acts b written received used more result er ec p =
    subst (λ (r : Role). HasPolled r config' kept new link link' acts b written received used more result) er
    (subst (λ (c : Config). HasPolled role c kept new link link' acts b written received used more result) ec p)

unfoldable pub polls_behind : (a b c : Partner) (k k1 k2 : Shown) (result : Result PartnerEvent Memory)
    → Runs a k b k1 step.Went → Polls b k1 c k2 result → Polls a k c k2 result
unfolding moves_both
polls_behind a b c k k1 k2 result m n = record {
  role = n.role ∙ m.role;
  config = n.config ∙ m.config;
  moves = moves_both (unread_of a) (unread_of b) (unread_of c) k k1 k2 m.moves n.moves;
  counts = event_counts result k k1 k2 m.counts n.counts;
  closed = n.closed;
  polled = λ acts bb w stands.
      let x = m.run acts bb w stands in
      let all = after a.role a.config acts in
      let y = polled_in b.role a.role b.config a.config (unread_of b) c k1 k2 (acts ++ x.further) (bb ++ m.moves.used)
      (w ++ m.moves.written) n.moves.received n.moves.used n.moves.written result m.role m.config
      (n.polled (acts ++ x.further) (bb ++ m.moves.used) (w ++ m.moves.written) (x.stands (λ h. h))) in
      let b' = (bb ++ m.moves.used) ++ n.moves.used in
      let w' = (w ++ m.moves.written) ++ n.moves.written in
      polled_at a.role a.config (unread_of a) c k k2 acts bb w (m.moves.received ++ n.moves.received)
      (m.moves.used ++ n.moves.used) (m.moves.written ++ n.moves.written) result (x.further ++ y.further)
      ((acts ++ x.further) ++ y.further) b' w'
      (append_assoc acts x.further y.further) (append_assoc bb m.moves.used n.moves.used)
      (append_assoc w m.moves.written n.moves.written)
      (orderly_both a.role a.config (unread_of a) (unread_of b) acts x.further y.further bb w m.moves.received
      m.moves.used m.moves.written n.moves.received n.moves.used n.moves.written m.moves.inbox x.orderly y.orderly)
      y.course
      (tells_behind a.role a.config all x.further y.further k k1 k2 (unread_of c) b' w' result x.tells
      m.moves.faults m.moves.waits
      (subst (λ (s : State). Tells a.role a.config s y.further k1 k2 (unread_of c) b' w' result)
      (after-append a.role a.config acts x.further) y.tells))
      y.stands;
}

-- ---- a poll that ends with steps

pub polls_sent : (a b : Partner) (k k' : Shown) → Runs a k b k' step.Sent → Polls a k b k' (Ok told.Sent)
polls_sent a b k k' m = record {
  role = m.role;
  config = m.config;
  moves = m.moves;
  counts = m.counts;
  closed = m.closed;
  polled = λ acts bb w stands.
      let x = m.run acts bb w stands in
      record {
        further = x.further;
        orderly = x.orderly;
        course = x.course;
        tells = x.tells;
        stands = x.stands;
      };
}

pub polls_closed : (a b : Partner) (k k' : Shown) (code : ℕ) → Runs a k b k' (step.Closed code)
    → Polls a k b k' (Ok (told.Closed code))
polls_closed a b k k' code m = record {
  role = m.role;
  config = m.config;
  moves = m.moves;
  counts = m.counts;
  closed = m.closed;
  polled = λ acts bb w stands.
      let x = m.run acts bb w stands in
      record {
        further = x.further;
        orderly = x.orderly;
        course = x.course;
        tells = x.tells;
        stands = x.stands;
      };
}

-- the state behind the acts is the one that the partner stands for then
holds_then : (a b : Partner) (acts further : List Act) (bb w : List ℕ) → b.role ≡ a.role → b.config ≡ a.config
    → StandsFor b (acts ++ further) bb w → HoldsState b (with_acts a.role a.config (after a.role a.config acts) further)
holds_then a b acts further bb w er ec s =
    subst (HoldsState b)
    (ap (λ (r : Role). after r b.config (acts ++ further)) er
    ∙ (ap (λ (c : Config). after a.role c (acts ++ further)) ec
    ∙ after-append a.role a.config acts further))
    (holds_state b (after b.role b.config (acts ++ further)) s.holds)

pub polls_pending : (a b : Partner) (k k' : Shown) → ((s : State) → HoldsState b s → is_waiting s ≡ true)
    → Runs a k b k' step.NotYet → Polls a k b k' (Ok told.Pending)
polls_pending a b k k' waits m = record {
  role = m.role;
  config = m.config;
  moves = m.moves;
  counts = m.counts;
  closed = m.closed;
  polled = λ acts bb w stands.
      let x = m.run acts bb w stands in
      let t = x.tells in
      record {
        further = x.further;
        orderly = x.orderly;
        course = x.course;
        tells = (
          t.0,
          t.1,
          waits _ (holds_then a b acts x.further (bb ++ m.moves.used) (w ++ m.moves.written) m.role m.config
              (x.stands (λ h. h))),
          t.2,
        );
        stands = x.stands;
      };
}

pub polls_idle : (a b : Partner) (k k' : Shown) → ((s : State) → HoldsState b s → is_waiting s ≡ false)
    → Runs a k b k' step.NotYet → Polls a k b k' (Ok told.Idle)
polls_idle a b k k' waits m = record {
  role = m.role;
  config = m.config;
  moves = m.moves;
  counts = m.counts;
  closed = m.closed;
  polled = λ acts bb w stands.
      let x = m.run acts bb w stands in
      let t = x.tells in
      record {
        further = x.further;
        orderly = x.orderly;
        course = x.course;
        tells = (
          t.0,
          t.1,
          waits _ (holds_then a b acts x.further (bb ++ m.moves.used) (w ++ m.moves.written) m.role m.config
              (x.stands (λ h. h))),
          t.2,
        );
        stands = x.stands;
      };
}

-- ---- a block is handed out

-- there is no memory for it
pub polls_kept : (p : Partner) (link : Shown) (memory : Memory) → closed_of p ≡ None → is_none p.whole ≡ false
    → Polls p link p link (Err memory)
unfolding moves_used
polls_kept p link memory live whole = record {
  role = refl;
  config = refl;
  moves = moves_used (unread_of p) (unread_of p) link [] refl;
  counts = (refl, refl, refl);
  closed = live;
  polled = λ acts b w s.
      let all = after p.role p.config acts in
      polled_at p.role p.config (unread_of p) p link link acts b w [] [] [] (Err memory) [] acts b w
      (sym (append-nil acts)) (sym (append-nil b)) (sym (append-nil w))
      (orderly_none p.role p.config (unread_of p) acts b w) s.course
      (tt, whole_by p.whole p.octets.octets all.whole s.holds.whole whole) (λ h. s);
}

-- the state behind it
abbrev with_handed : State → Block → State
with_handed s block = record s { whole = None; handed = Some block }

hands_is : (role : Role) (config : Config) (s : State) (block : Block) → s.whole ≡ Some block
    → with_handed s block ≡ with_act role config s hands
unfolding with_act
hands_is role config s block e = ap (handed_out s) (sym e)

handed_at : (old new : Partner) (a : Arrived) (s : State) (w : List ℕ) → new.whole ≡ None → new.handed ≡ Some a
    → new.stage ≡ old.stage → new.sequence ≡ old.sequence → new.number ≡ old.number → new.sending ≡ old.sending
    → new.receiving ≡ old.receiving → new.octets ≡ old.octets → new.outbox ≡ old.outbox → IsAt old s w
    → IsAt new (with_handed s (block_in old.octets.octets a)) w
handed_at old new a s w none handed stage sequence number sending receiving octets outbox at =
    let h = at.holds in
    record {
      holds = record {
        stage = ap stage_in stage ∙ h.stage;
        sequence = sequence ∙ h.sequence;
        number = number ∙ h.number;
        sending = ap (option_map sending_in) sending ∙ h.sending;
        receiving =
            ap (λ (o : Room). option_map (receiving_in o.octets) new.receiving) octets
            ∙ (ap (option_map (receiving_in old.octets.octets)) receiving ∙ h.receiving);
        whole = ap (option_map (block_in new.octets.octets)) none;
        handed = record {
          sequence = ap (option_map (λ (x : Arrived). x.sequence)) handed;
          number = ap (option_map (λ (x : Arrived). x.number)) handed;
        };
      };
      out = at.out ∙ ap (λ (o : Outgoing). w ++ o.unsent) (sym outbox);
    }

pub polls_received : (old new : Partner) (a : Arrived) (body : List ℕ) (link : Shown) → closed_of old ≡ None
    → old.whole ≡ Some a → body ≡ old.octets.octets → KeepsLink old new → new.whole ≡ None → new.handed ≡ Some a
    → new.stage ≡ old.stage → new.sequence ≡ old.sequence → new.number ≡ old.number → new.sending ≡ old.sending
    → new.receiving ≡ old.receiving → new.octets ≡ old.octets → new.outbox ≡ old.outbox
    → Polls old link new link (Ok (told.Received a.rid body))
unfolding moves_used
polls_received old new a body link live whole copied keeps none handed stage sequence number sending receiving octets
    outbox = record {
      role = keeps.role;
      config = keeps.config;
      moves = moves_used (unread_of old) (unread_of new) link [] (sym keeps.inbox);
      counts = (refl, refl, refl);
      closed = ap code_in stage ∙ live;
      polled = λ acts b w s.
          let all = after old.role old.config acts in
          let block = block_in old.octets.octets a in
          let block_is : all.whole ≡ Some block =
          sym s.holds.whole ∙ ap (option_map (block_in old.octets.octets)) whole in
          let may : MayTake all hands = (stands_open old acts b w s, ap is_some block_is) in
          polled_at old.role old.config (unread_of old) new link link acts b w [] [] []
          (Ok (told.Received a.rid body)) (hands ∷ []) (acts ++ hands ∷ []) b w refl (sym (append-nil b))
          (sym (append-nil w)) (orderly_done old.role old.config (unread_of old) acts hands b w)
          (course_act old.role old.config acts hands b w refl may s.course)
          ([], block, refl, tt, block_is, refl, copied)
          (λ h. stands_act old new acts hands (with_handed all block) b w keeps (ap code_in stage ∙ live) refl
          (hands_is old.role old.config all block block_is) may refl
          (handed_at old new a all w none handed stage sequence number sending receiving octets outbox
          (stands_at old acts b w s)) s);
    }

-- ---- how much is to be done

pub less_behind : (o o' : Option Arrived) (m n : ℕ) → o' ≡ None → (o ≡ None → m < n)
    → unless_whole o m < unless_whole o' n
less_behind None o' m n none less = subst (λ x. m + 1 < unless_whole x n) (sym none) (omega (arith, less refl))
less_behind (Some a) o' m n none less = subst (λ x. 0 < unless_whole x n) (sym none) (omega arith)

-- ---- a whole poll

-- what was handed out is acknowledged first
pub poll_behind : (a b c : Partner) (k k' : Shown) (result : Result PartnerEvent Memory) → closed_of a ≡ None
    → ((link : Shown) → Acknowledges a b link) → Polls b k c k' result → IsPoll a k c k' result
unfolding moves_both polls_behind
poll_behind a b c k k' result live first p =
    let m = (first k).runs in
    let whole = polls_behind a b c k k k' result m p in
    record {
      role = whole.role;
      config = whole.config;
      moves = whole.moves;
      counts = whole.counts;
      closed = whole.closed;
      stays = λ code e. absurd (let x : None ≡ Some code = sym live ∙ e in cc);
      polled = λ h acts bb w s.
          let y = whole.polled acts bb w s in
          record {
            further = y.further;
            orderly = y.orderly;
            course = y.course;
            tells = y.tells;
            stands = y.stands;
          };
    }

-- the end stays
pub poll_closed : (p : Partner) (link : Shown) (code : ℕ) → closed_of p ≡ Some code
    → IsPoll p link p link (Ok (told.Closed code))
unfolding moves_used
poll_closed p link code closed = record {
  role = refl;
  config = refl;
  moves = moves_used (unread_of p) (unread_of p) link [] refl;
  counts = ((inl refl, inl refl), refl);
  closed = closed;
  stays = λ n e. (ap (λ (m : ℕ). Ok (told.Closed m)) (some_same code n (sym closed ∙ e)), refl, refl);
  polled = λ h acts b w s. absurd (let x : None ≡ Some code = sym h ∙ closed in cc);
}
