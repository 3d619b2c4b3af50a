-- Steps that use no octet: what is sent, received or acknowledged, and what fails.
use Rattle.std.proofs.Common.{◌≡◌, ◌↔◌, inl, inr, ℕ, ◌-◌, ◌<◌, ◌≤◌, List, [], ◌∷◌, ◌++◌, length, refl, ap, sym, ◌∙◌}
use Rattle.std.proofs.Common.{subst, append-nil, append_assoc, arith, length-append}
use Rattle.std.specs.Prelude.{Option, None, Some, option_map, is_some, IsSome, IfSome}
use Rattle.std.specs.Io.KnownBytes.{prepend_known, append_known}
use Rattle.s7_outer.specs.Held.{Held as Room}
use Rattle.s7_outer.specs.Shown.{Shown}
use Rattle.s7_outer.specs.Count.{RoseExactly}
use Rattle.s7_wire.specs.Sent.{sent_message}
use Rattle.s7_wire.specs.Outgoing.{Outgoing}
use Rattle.s7_wire.specs.Reading.{reading}
use Rattle.s7_wire.specs.Reads.{HasRead, opens_by, ended_with, size_at}
use Rattle.s7_wire.specs.declared.found.Opening.{Opening}
use Rattle.s7_wire.specs.declared.reader.Reader.{Reader}
use Rattle.s7_wire.proofs.ReaderLemmas.{going_on}
use Rattle.s7_dialogue.specs.declared.config.Config.{Config}
use Rattle.s7_dialogue.specs.Codes.{send_failed}
use Rattle.s7_client.specs.Counts.{MetNothing, MetNotYetOnce}
use Rattle.s7_partner.specs.declared.role.Role.{Role}
use Rattle.s7_partner.specs.declared.partner.Partner.{Partner}
use Rattle.s7_partner.specs.declared.partner.Arrived.{Arrived}
use Rattle.s7_partner.specs.declared.step.Step.TheVariants as step
use Rattle.s7_partner.specs.Telegrams.{confirm_message}
use Rattle.s7_partner.specs.States.{State, Block, Act, acknowledges, with_act, after, last_acknowledged}
use Rattle.s7_partner.specs.Acts.{MayTake}
use Rattle.s7_partner.specs.Partners.{opening_by, Course, GoesOn, IsSettled, HasRest, Closes, by_transmit}
use Rattle.s7_partner.specs.Held.{closed_of, code_in, unread_of, stage_in, sending_in, receiving_in, block_in}
use Rattle.s7_partner.specs.Held.{HoldsHanded, StandsFor}
use Rattle.s7_partner.specs.Outboxes.{Puts}
use Rattle.s7_partner.specs.Steps.{CountsStep, Runs, Acknowledges}
use Rattle.s7_partner.specs.At.{HoldsState, IsAt, KeepsLink, KeepsState}
use Rattle.s7_partner.specs.At as at
use Rattle.s7_partner.proofs.CourseLemmas.{course_act, course_sent}
use Rattle.s7_partner.proofs.DeedLemmas.{orderly_none, orderly_done, orderly_sent, orderly_received}
use Rattle.s7_partner.proofs.MoveLemmas.{prepend_none, moves_received, moves_sent, moves_used}
use Rattle.s7_partner.proofs.StateLemmas.{same_some, put_behind}
use Rattle.s7_partner.proofs.StandLemmas.{holds_state, stands_at, stands_open, stands_by, stands_act}
use Rattle.s7_partner.proofs.ReachLemmas.{holds_same}
use Rattle.s7_partner.proofs.RunLemmas.{run_at}

-- ---- what a partner stands for

-- nothing was read that ends the link
pub unended : (p : Partner) (acts : List Act) (b written : List ℕ) → StandsFor p acts b written
    → (reading (opening_by p.role) b).ending ≡ None
unended p acts b written s =
    ap (λ (o : Opening). (reading o b).ending) (sym s.opens)
    ∙ going_on p.reader.transport (reading (opens_by p.reader) b) s.read.is s.going

pub goes_on : (p : Partner) (acts : List Act) (b written : List ℕ) → StandsFor p acts b written
    → GoesOn p.role (after p.role p.config acts) b
goes_on p acts b written s = record { opened = stands_open p acts b written s; unended = unended p acts b written s }

pub none_handed : (o : Option Arrived) (t : Option Block) → HoldsHanded o t → o ≡ None → t ≡ None
none_handed o None h e = refl
none_handed o (Some block) h e =
    absurd (let x : None ≡ Some block.sequence =
    sym (ap (option_map (λ (a : Arrived). a.sequence)) e) ∙ h.sequence in cc)

pub settled : (p : Partner) (s : State) → HoldsState p s → p.whole ≡ None → p.handed ≡ None → IsSettled s
settled p s h none_whole none = record {
  handed = none_handed p.handed s.handed h.handed none;
  none_whole = sym h.whole ∙ ap (option_map (block_in p.octets.octets)) none_whole;
}

-- all that may be sent was transmitted
pub all_sent : (p : Partner) (acts : List Act) (b written : List ℕ) → StandsFor p acts b written
    → p.outbox.unsent ≡ [] → written ≡ (after p.role p.config acts).out
all_sent p acts b written s none =
    sym (s.owed ∙ (ap (λ (x : List ℕ). written ++ x) none ∙ append-nil written))

pub not_all : (all written unsent : List ℕ) → all ≡ written ++ unsent → written ≡ all → 0 < length unsent → ⊥
not_all all written unsent e f some = omega (arith, ap length (f ∙ e), length-append written unsent, some)

-- a partner that holds the same, by another part of what it may send
pub stands_keep : (old new : Partner) (acts : List Act) (b written written' : List ℕ) → KeepsLink old new
    → KeepsState old new → (after old.role old.config acts).out ≡ written' ++ new.outbox.unsent
    → Course old.role old.config acts b written' → StandsFor old acts b written → StandsFor new acts b written'
stands_keep old new acts b written written' keeps k out course s =
    stands_by old.role old.config new acts (after old.role old.config acts) b written' keeps.role keeps.config refl
    (ap code_in k.stage ∙ s.opened)
    (record {
      holds = holds_same old new (after old.role old.config acts) k
          (holds_state old (after old.role old.config acts) s.holds);
      out = out;
    })
    (λ n e. s.holds.size n (ap size_at (sym keeps.reader) ∙ e))
    (ap opens_by keeps.reader ∙ s.opens)
    (subst (λ (r : Reader). HasRead r b) (sym keeps.reader) s.read)
    (ap ended_with keeps.reader ∙ s.going) course

-- ---- octets are sent

-- what holds of a link behind a flush
pub record Flushed (link link' : Shown) (more : List ℕ) : Type 0 where
  pub wrote : link'.written ≡ append_known link.written more
  pub space : link'.space ≡ option_map (λ space. space - length more) link.space
  pub same : link' ≡ record link {
    written = link'.written;
    faults = link'.faults;
    waits = link'.waits;
    space = link'.space;
  }
  pub faults : link.faults ≤ link'.faults
  pub waits : link.waits ≤ link'.waits

-- a flush meets no end
pub same_end : (link link' : Shown)
    → link' ≡ record link { written = link'.written; faults = link'.faults; waits = link'.waits; space = link'.space }
    → link'.has_ended ≡ link.has_ended
same_end link link' same = ap (λ (x : Shown). x.has_ended) same

out_behind : (all written old more new : List ℕ) → all ≡ written ++ old → old ≡ more ++ new
    → all ≡ (written ++ more) ++ new
out_behind all written old more new e f =
    e ∙ (ap (λ (x : List ℕ). written ++ x) f ∙ sym (append_assoc written more new))

pub runs_sent : (old new : Partner) (link link' : Shown) (more : List ℕ) → closed_of old ≡ None → KeepsLink old new
    → KeepsState old new → old.outbox.unsent ≡ more ++ new.outbox.unsent → 0 < length more → Flushed link link' more
    → MetNothing link link' → Runs old link new link' step.Went
unfolding moves_sent
runs_sent old new link link' more live keeps k sent some f met = record {
  role = keeps.role;
  config = keeps.config;
  moves = moves_sent (unread_of old) (unread_of new) link link' more (sym keeps.inbox) f.wrote f.space f.same f.faults
      f.waits;
  counts = met;
  closed = ap code_in k.stage ∙ live;
  run = λ acts b w s.
      let out = out_behind (after old.role old.config acts).out w old.outbox.unsent more new.outbox.unsent s.owed
      sent in
      let course = course_sent old.role old.config acts b w more new.outbox.unsent out s.course in
      run_at old.role old.config (unread_of old) new link link' acts b w [] [] more step.Went [] acts b (w ++ more)
      (sym (append-nil acts)) (sym (append-nil b)) refl
      (orderly_sent old.role old.config (unread_of old) acts b w more some) course tt
      (λ h. stands_keep old new acts b w (w ++ more) keeps k out course s);
}

full_of : {P : Type 0} (o : Option ℕ) → IfSome o (λ n. P ↔ (n ≡ 0)) → P → (n : ℕ)
    → option_map (λ space. space - length {A = ℕ} []) o ≡ Some n → n ≡ 0
full_of None h p n e = cc
full_of (Some m) h p n e =
    let zero_is : m ≡ 0 = h.0 p in
    let same : m - 0 ≡ n = same_some (m - 0) n e in
    omega (arith, zero_is, same)

-- there was no room
pub runs_full : {P : Type 0} (old new : Partner) (link link' : Shown) → closed_of old ≡ None → KeepsLink old new
    → KeepsState old new
    → old.whole ≡ None → old.handed ≡ None → old.outbox.unsent ≡ [] ++ new.outbox.unsent
    → 0 < length old.outbox.unsent → Flushed link link' [] → IfSome link.space (λ n. P ↔ (n ≡ 0)) → P
    → MetNotYetOnce link link' → Runs old link new link' step.NotYet
unfolding moves_sent
runs_full old new link link' live keeps k none_whole none sent some f no_space p met = record {
  role = keeps.role;
  config = keeps.config;
  moves = moves_sent (unread_of old) (unread_of new) link link' [] (sym keeps.inbox) f.wrote f.space f.same f.faults
      f.waits;
  counts = met;
  closed = ap code_in k.stage ∙ live;
  run = λ acts b w s.
      let all = after old.role old.config acts in
      let out = out_behind all.out w old.outbox.unsent [] new.outbox.unsent s.owed sent in
      let course = course_sent old.role old.config acts b w [] new.outbox.unsent out s.course in
      run_at old.role old.config (unread_of old) new link link' acts b w [] [] [] step.NotYet [] acts b (w ++ [])
      (sym (append-nil acts)) (sym (append-nil b)) refl
      (orderly_none old.role old.config (unread_of old) acts b w) course (
        tt,
        settled old all (holds_state old all s.holds) none_whole none,
        record {
          rose = met.1.0;
          full = λ rest n e g h. full_of link.space no_space p n (sym f.space ∙ h);
          empty = λ n e h. absurd (not_all all.out w old.outbox.unsent s.owed (sym (append-nil w) ∙ e) some);
          waiting = λ e. absurd (not_all all.out w old.outbox.unsent s.owed (sym (append-nil w) ∙ e) some);
        },
      )
      (λ h. stands_keep old new acts b w (w ++ []) keeps k out course s);
}

-- the link failed
pub runs_unsent : (old mid new : Partner) (link link' : Shown) → closed_of old ≡ None → KeepsLink old mid
    → mid.outbox.unsent ≡ old.outbox.unsent → at.Closes mid new send_failed → old.whole ≡ None
    → 0 < length old.outbox.unsent → Flushed link link' [] → RoseExactly 1 link.faults link'.faults
    → link'.waits ≡ link.waits → Runs old link new link' (step.Closed send_failed)
unfolding moves_sent
runs_unsent old mid new link link' live keeps same closes none_whole some f once unwaited = record {
  role = closes.keeps.role ∙ keeps.role;
  config = closes.keeps.config ∙ keeps.config;
  moves = moves_sent (unread_of old) (unread_of new) link link' [] (sym (closes.keeps.inbox ∙ keeps.inbox)) f.wrote
      f.space f.same f.faults f.waits;
  counts = ((inr (once, inl refl), inl (same_end link link' f.same)), unwaited);
  closed = ap code_in closes.stage;
  run = λ acts b w s.
      let all = after old.role old.config acts in
      let out : all.out ≡ (w ++ []) ++ old.outbox.unsent =
      s.owed ∙ ap (λ (x : List ℕ). x ++ old.outbox.unsent) (sym (append-nil w)) in
      run_at old.role old.config (unread_of old) new link link' acts b w [] [] [] (step.Closed send_failed) [] acts b
      (w ++ []) (sym (append-nil acts)) (sym (append-nil b)) refl
      (orderly_none old.role old.config (unread_of old) acts b w)
      (course_sent old.role old.config acts b w [] old.outbox.unsent out s.course) (
        tt,
        by_transmit old.outbox.unsent (goes_on old acts b w s)
            (sym s.holds.whole ∙ ap (option_map (block_in old.octets.octets)) none_whole) out some once.0 refl,
      )
      (λ h. absurd (h tt));
}

-- ---- octets are received

-- what holds of a link behind a refill
pub record Refilled (link link' : Shown) (received : List ℕ) : Type 0 where
  pub took : link.left ≡ prepend_known received link'.left
  pub same : link' ≡ record link {
    left = link'.left;
    has_ended = link'.has_ended;
    faults = link'.faults;
    waits = link'.waits;
  }
  pub faults : link.faults ≤ link'.faults
  pub waits : link.waits ≤ link'.waits

-- only what was received of a partner is another
pub record KeepsAll (old new : Partner) : Type 0 where
  pub role : new.role ≡ old.role
  pub config : new.config ≡ old.config
  pub reader : new.reader ≡ old.reader
  pub outbox : new.outbox ≡ old.outbox
  pub state : KeepsState old new

stands_all : (old new : Partner) (acts : List Act) (b written : List ℕ) → KeepsAll old new
    → StandsFor old acts b written
    → StandsFor new acts b written
stands_all old new acts b written k s =
    let all = after old.role old.config acts in
    stands_by old.role old.config new acts all b written k.role k.config refl
    (ap code_in k.state.stage ∙ s.opened)
    (record {
      holds = holds_same old new all k.state (holds_state old all s.holds);
      out = s.owed ∙ ap (λ (o : Outgoing). written ++ o.unsent) (sym k.outbox);
    })
    (λ n e. s.holds.size n (ap size_at (sym k.reader) ∙ e))
    (ap opens_by k.reader ∙ s.opens)
    (subst (λ (r : Reader). HasRead r b) (sym k.reader) s.read)
    (ap ended_with k.reader ∙ s.going) s.course

pub runs_received : (old new : Partner) (link link' : Shown) → closed_of old ≡ None → KeepsAll old new
    → old.whole ≡ None → old.handed ≡ None → unread_of old ≡ [] → old.outbox.unsent ≡ [] → 0 < length (unread_of new)
    → Refilled link link' (unread_of new) → MetNothing link link' → Runs old link new link' step.Went
unfolding moves_received
runs_received old new link link' live k none_whole none_handed none sent some f met = record {
  role = k.role;
  config = k.config;
  moves = moves_received (unread_of old) (unread_of new) link link' (unread_of new) []
      (ap (λ (x : List ℕ). x ++ unread_of new) none) f.took f.same f.faults f.waits;
  counts = met;
  closed = ap code_in k.state.stage ∙ live;
  run = λ acts b w s.
      let all = after old.role old.config acts in
      run_at old.role old.config (unread_of old) new link link' acts b w (unread_of new) [] [] step.Went [] acts b w
      (sym (append-nil acts)) (sym (append-nil b)) (sym (append-nil w))
      (orderly_received old.role old.config (unread_of old) acts b w (unread_of new) some
      (all_sent old acts b w s sent) (settled old all (holds_state old all s.holds) none_whole none_handed) none)
      s.course tt (λ h. stands_all old new acts b w k s);
}

none_came : (left left' : Option (List ℕ)) (received : List ℕ) → received ≡ []
    → left ≡ prepend_known received left' → left ≡ left'
none_came left left' received none took =
    took ∙ (ap (λ (x : List ℕ). prepend_known x left') none ∙ sym (prepend_none left'))

is_some_of : (o : Option ℕ) (n : ℕ) → o ≡ Some n → IsSome o
is_some_of None n e = cc
is_some_of (Some m) n e = refl

-- there was nothing to receive
pub runs_empty : (old new : Partner) (link link' : Shown) → closed_of old ≡ None → KeepsAll old new
    → old.whole ≡ None → old.handed ≡ None → unread_of old ≡ [] → unread_of new ≡ [] → old.outbox.unsent ≡ []
    → Refilled link link' (unread_of new) → (IsSome link.space → link.left ≡ Some [])
    → MetNotYetOnce link link' → Runs old link new link' step.NotYet
unfolding moves_received
runs_empty old new link link' live k none_whole none_handed none none' sent f nothing met =
    let left : link.left ≡ link'.left = none_came link.left link'.left (unread_of new) none' f.took in
    record {
      role = k.role;
      config = k.config;
      moves = moves_received (unread_of old) (unread_of new) link link' [] []
          (append-nil (unread_of old) ∙ (none ∙ sym none')) (left ∙ prepend_none link'.left) f.same f.faults f.waits;
      counts = met;
      closed = ap code_in k.state.stage ∙ live;
      run = λ acts b w s.
          let all = after old.role old.config acts in
          let sent_all : w ≡ all.out = all_sent old acts b w s sent in
          run_at old.role old.config (unread_of old) new link link' acts b w [] [] [] step.NotYet [] acts b w
          (sym (append-nil acts)) (sym (append-nil b)) (sym (append-nil w))
          (orderly_none old.role old.config (unread_of old) acts b w) s.course (
            tt,
            settled old all (holds_state old all s.holds) none_whole none_handed,
            record {
              rose = met.1.0;
              full = λ rest n e g h. absurd (not_all all.out w rest e sent_all g);
              empty = λ n e h.
                  sym left ∙ nothing (is_some_of link.space n (sym (ap (λ (x : Shown). x.space) f.same) ∙ h));
              waiting = λ e. none';
            },
          )
          (λ h. stands_all old new acts b w k s);
    }

-- nothing is received any more: the link failed, or has ended
pub runs_broken : (old mid new : Partner) (link link' : Shown) (code : ℕ) → KeepsAll old mid → at.Closes mid new code
    → old.whole ≡ None → old.handed ≡ None → unread_of old ≡ [] → unread_of mid ≡ [] → old.outbox.unsent ≡ []
    → Refilled link link' (unread_of mid) → CountsStep (step.Closed code) link link'
    → ((s : State) (b w : List ℕ) → HasRest old.role s (unread_of new) b w
    → Closes old.role s link link' (unread_of new) b w code)
    → Runs old link new link' (step.Closed code)
unfolding moves_received
runs_broken old mid new link link' code k closes none_whole none_handed none none' sent f met cause =
    let left : link.left ≡ link'.left = none_came link.left link'.left (unread_of mid) none' f.took in
    let empty : unread_of new ≡ [] = closes.keeps.inbox ∙ none' in
    record {
      role = closes.keeps.role ∙ k.role;
      config = closes.keeps.config ∙ k.config;
      moves = moves_received (unread_of old) (unread_of new) link link' [] []
          (append-nil (unread_of old) ∙ (none ∙ sym empty)) (left ∙ prepend_none link'.left) f.same f.faults f.waits;
      counts = met;
      closed = ap code_in closes.stage;
      run = λ acts b w s.
          let all = after old.role old.config acts in
          run_at old.role old.config (unread_of old) new link link' acts b w [] [] [] (step.Closed code) [] acts b w
          (sym (append-nil acts)) (sym (append-nil b)) (sym (append-nil w))
          (orderly_none old.role old.config (unread_of old) acts b w) s.course (
            tt,
            cause all b w (record {
              goes_on = goes_on old acts b w s;
              settled = settled old all (holds_state old all s.holds) none_whole none_handed;
              sent = all_sent old acts b w s sent;
              none = empty;
            }),
          )
          (λ h. absurd (h tt));
    }

-- ---- what was handed out is acknowledged

pub acknowledges_none : (p : Partner) (link : Shown) → closed_of p ≡ None → Acknowledges p p link
unfolding moves_used
acknowledges_none p link live = record {
  runs = record {
    role = refl;
    config = refl;
    moves = moves_used (unread_of p) (unread_of p) link [] refl;
    counts = (refl, refl, refl);
    closed = live;
    run = λ acts b w s.
        run_at p.role p.config (unread_of p) p link link acts b w [] [] [] step.Went [] acts b w
        (sym (append-nil acts)) (sym (append-nil b)) (sym (append-nil w))
        (orderly_none p.role p.config (unread_of p) acts b w) s.course tt (λ h. s);
  };
  unused = refl;
  unreceived = refl;
}

pub runs_none : (p : Partner) (link : Shown) → closed_of p ≡ None → Runs p link p link step.Went
runs_none p link live = (acknowledges_none p link live).runs

-- the block that was handed out, by what is held of it
handed_as : (a : Arrived) (o : Option Arrived) (t : Option Block) → o ≡ Some a → HoldsHanded o t
    → (block : Block) × (t ≡ Some block) × (a.sequence ≡ block.sequence) × (a.number ≡ block.number)
handed_as a o None e h =
    absurd (let x : Some a.sequence ≡ None = sym (ap (option_map (λ (x : Arrived). x.sequence)) e) ∙ h.sequence in cc)
handed_as a o (Some block) e h = (
  block,
  refl,
  same_some a.sequence block.sequence (sym (ap (option_map (λ (x : Arrived). x.sequence)) e) ∙ h.sequence),
  same_some a.number block.number (sym (ap (option_map (λ (x : Arrived). x.number)) e) ∙ h.number),
)

-- the state behind the acknowledgement
abbrev with_last : State → Block → State
with_last s block = record s {
  handed = None;
  out = s.out ++ sent_message s.size (confirm_message block.sequence block.number);
}

last_at : (old new : Partner) (a : Arrived) (block : Block) (size : ℕ) (s : State) (w : List ℕ) → new.handed ≡ None
    → a.sequence ≡ block.sequence → a.number ≡ block.number → size ≡ s.size
    → Puts old.outbox new.outbox (sent_message size (confirm_message a.sequence a.number))
    → new.stage ≡ old.stage → new.sequence ≡ old.sequence → new.number ≡ old.number → new.sending ≡ old.sending
    → new.receiving ≡ old.receiving → new.octets ≡ old.octets → new.whole ≡ old.whole
    → IsAt old s w → IsAt new (with_last s block) w
last_at old new a block size s w none same_sequence same_number same_size puts stage sequence number sending receiving
    octets whole at_old =
    let h = at_old.holds in
    record {
      holds = record {
        stage = ap stage_in stage ∙ h.stage;
        sequence = sequence ∙ h.sequence;
        number = number ∙ h.number;
        sending = ap (option_map sending_in) sending ∙ h.sending;
        receiving =
            ap (λ (o : Room). option_map (receiving_in o.octets) new.receiving) octets
            ∙ (ap (option_map (receiving_in old.octets.octets)) receiving ∙ h.receiving);
        whole =
            ap (λ (o : Room). option_map (block_in o.octets) new.whole) octets
            ∙ (ap (option_map (block_in old.octets.octets)) whole ∙ h.whole);
        handed = record {
          sequence = ap (option_map (λ (x : Arrived). x.sequence)) none;
          number = ap (option_map (λ (x : Arrived). x.number)) none;
        };
      };
      out =
          ap (λ (n : ℕ). s.out ++ sent_message s.size (confirm_message n block.number)) (sym same_sequence)
          ∙ (ap (λ (n : ℕ). s.out ++ sent_message s.size (confirm_message a.sequence n)) (sym same_number)
          ∙ (ap (λ (n : ℕ). s.out ++ sent_message n (confirm_message a.sequence a.number)) (sym same_size)
          ∙ put_behind s.out w old.outbox.unsent new.outbox.unsent
          (sent_message size (confirm_message a.sequence a.number)) at_old.out puts.unsent));
    }

last_is : (role : Role) (config : Config) (s : State) (block : Block) → s.handed ≡ Some block
    → with_last s block ≡ with_act role config s acknowledges
unfolding with_act
last_is role config s block e = ap (last_acknowledged s) (sym e)

pub acknowledges_last : (old new : Partner) (a : Arrived) (size : ℕ) (link : Shown) → closed_of old ≡ None
    → old.handed ≡ Some a → new.handed ≡ None → size_at old.reader ≡ Some size
    → Puts old.outbox new.outbox (sent_message size (confirm_message a.sequence a.number)) → KeepsLink old new
    → new.stage ≡ old.stage → new.sequence ≡ old.sequence → new.number ≡ old.number → new.sending ≡ old.sending
    → new.receiving ≡ old.receiving → new.octets ≡ old.octets → new.whole ≡ old.whole
    → Acknowledges old new link
unfolding moves_used
acknowledges_last old new a size link live held none sized puts keeps stage sequence number sending receiving octets
    whole = record {
      runs = record {
        role = keeps.role;
        config = keeps.config;
        moves = moves_used (unread_of old) (unread_of new) link [] (sym keeps.inbox);
        counts = (refl, refl, refl);
        closed = ap code_in stage ∙ live;
        run = λ acts b w s.
            let all = after old.role old.config acts in
            let k = handed_as a old.handed all.handed held s.holds.handed in
            let is = last_is old.role old.config all k.0 k.1 in
            let may : MayTake all acknowledges = (stands_open old acts b w s, ap is_some k.1) in
            run_at old.role old.config (unread_of old) new link link acts b w [] [] [] step.Went (acknowledges ∷ [])
            (acts ++ acknowledges ∷ []) b w refl (sym (append-nil b)) (sym (append-nil w))
            (orderly_done old.role old.config (unread_of old) acts acknowledges b w)
            (course_act old.role old.config acts acknowledges b w refl may s.course) (tt, tt)
            (λ h. stands_act old new acts acknowledges (with_last all k.0) b w keeps (ap code_in stage ∙ live) refl is
            may refl
            (last_at old new a k.0 size all w none k.2 k.3 (s.holds.size size sized) puts stage sequence number sending
            receiving octets whole (stands_at old acts b w s)) s);
      };
      unused = refl;
      unreceived = refl;
    }
