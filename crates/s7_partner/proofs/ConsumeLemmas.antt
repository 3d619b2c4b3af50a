-- Steps that use an octet.
use Rattle.std.proofs.Common.{◌≡◌, inl, ℕ, Bool, true, false, not, List, [], ◌∷◌, ◌++◌, refl, ap, sym, ◌∙◌, subst}
use Rattle.std.proofs.Common.{append-nil}
use Rattle.std.specs.Prelude.{Option, None, Some, option_map, is_none}
use Rattle.s7_outer.specs.Held.{Held as Room}
use Rattle.s7_outer.specs.Shown.{Shown}
use Rattle.s7_cotp.specs.Told.{ConnectionTold, connection_of}
use Rattle.s7_cotp.specs.declared.tpdu.Connection.{Connection}
use Rattle.s7_wire.specs.Bounds.{size_of_code}
use Rattle.s7_wire.specs.Reading.{Event, opened, message, Ending, reading}
use Rattle.s7_wire.specs.Reads.{HasRead, HasFound, events_by, ending_by, opens_by, ended_with, size_at, message_at}
use Rattle.s7_wire.specs.declared.found.Opening.{Opening}
use Rattle.s7_wire.specs.declared.found.Found.{Found}
use Rattle.s7_wire.specs.declared.found.Found.TheVariants as finding
use Rattle.s7_wire.specs.declared.reader.Reader.{Reader}
use Rattle.s7_wire.proofs.ReaderLemmas.{reader_going}
use Rattle.s7_dialogue.specs.declared.config.Config.{Config}
use Rattle.s7_partner.specs.declared.role.Role.{Role}
use Rattle.s7_partner.specs.declared.role.Role.TheVariants.{Active, Passive}
use Rattle.s7_partner.specs.declared.partner.Partner.{Partner}
use Rattle.s7_partner.specs.declared.partner.Stage.{Stage as Held}
use Rattle.s7_partner.specs.declared.partner.Stage.TheVariants as held
use Rattle.s7_partner.specs.declared.partner.Sending.{Sending as HeldSending}
use Rattle.s7_partner.specs.declared.partner.Arrived.{Arrived}
use Rattle.s7_partner.specs.declared.step.Step.{Step}
use Rattle.s7_partner.specs.declared.step.Step.TheVariants as step
use Rattle.s7_partner.specs.States.{Stage, negotiating, closed, State, Sending, Block, Act, reads, with_act, after}
use Rattle.s7_partner.specs.States.{opened_by, with_message, is_sending, read_in}
use Rattle.s7_partner.specs.Acts.{MayTake}
use Rattle.s7_partner.specs.Order.{IsOrderly}
use Rattle.s7_partner.specs.Partners.{opening_by, code_of_ending, is_opened, by_message, by_ending}
use Rattle.s7_partner.specs.Held.{closed_of, code_in, unread_of, stage_in, sending_in, receiving_in, block_in}
use Rattle.s7_partner.specs.Held.{HoldsHanded, StandsFor}
use Rattle.s7_partner.specs.Octet.{ReadsOctet}
use Rattle.s7_partner.specs.Steps.{TellsStep, IsClosing, Runs}
use Rattle.s7_partner.specs.At.{HoldsState, IsAt, KeepsLink, KeepsState, KeepsRest, Reaches, OpensBy, Does, code_by}
use Rattle.s7_partner.specs.At as at
use Rattle.s7_partner.proofs.DeedLemmas.{orderly_used}
use Rattle.s7_partner.proofs.GrowthLemmas.{message_grows}
use Rattle.s7_partner.proofs.CourseLemmas.{course_used, course_read}
use Rattle.s7_partner.proofs.MoveLemmas.{moves_used}
use Rattle.s7_partner.proofs.MeetLemmas.{counts_here}
use Rattle.s7_partner.proofs.StandLemmas.{holds_state, stands_open, stands_by, after_act}
use Rattle.s7_partner.proofs.StepLemmas.{settled, all_sent}
use Rattle.s7_partner.proofs.RunLemmas.{run_at}

-- ---- what was found, by how the link is opened

record FoundAt (o : Opening) (r : Reader) (b used : List ℕ) (found : Found) : Type 0 where
  pub read : HasRead r (b ++ used)
  pub events : (reading o (b ++ used)).events
      ≡ (reading o b).events ++ events_by found (message_at r) (reading o b).at
  pub ending : (reading o (b ++ used)).ending ≡ ending_by found (reading o b).at
  pub goes : (reading o (b ++ used)).ending ≡ None → ended_with r ≡ None

found_at : (o : Opening) (r : Reader) (b used : List ℕ) (found : Found) → opens_by r ≡ o → HasFound r b used found
    → FoundAt o r b used found
found_at o r b used found e h =
    subst (λ (x : Opening). FoundAt x r b used found) e (record {
      read = h.read;
      events = h.events;
      ending = h.ending;
      goes = λ none. reader_going r (b ++ used) h.read none;
    })

-- a partner whose reader used an octet, with nothing to send, by what it was before
pub record Reads (old mid : Partner) (found : Found) : Type 0 where
  pub role : mid.role ≡ old.role
  pub config : mid.config ≡ old.config
  pub octet : ReadsOctet old.reader mid.reader old.inbox mid.inbox found
  pub sent : old.outbox.unsent ≡ []
  pub none : mid.outbox.unsent ≡ []
  pub sequence : mid.sequence ≡ old.sequence
  pub number : mid.number ≡ old.number
  pub sending : mid.sending ≡ old.sending
  pub receiving : mid.receiving ≡ old.receiving
  pub octets : mid.octets ≡ old.octets
  pub whole : mid.whole ≡ old.whole
  pub handed : mid.handed ≡ old.handed

finds : (old mid : Partner) (found : Found) (acts : List Act) (b written : List ℕ) (r : Reads old mid found)
    → StandsFor old acts b written → FoundAt (opening_by old.role) mid.reader b r.octet.used found
finds old mid found acts b written r s =
    found_at (opening_by old.role) mid.reader b r.octet.used found (r.octet.opening ∙ s.opens) (r.octet.finds b s.read)

-- the octet was used in order, with what was read then
ordered : (old mid : Partner) (found : Found) (acts more : List Act) (b w : List ℕ) (r : Reads old mid found)
    → old.whole ≡ None → old.handed ≡ None → StandsFor old acts b w
    → read_in (acts ++ more) ≡ (reading (opening_by old.role) (b ++ r.octet.used)).events
    → IsOrderly old.role old.config (unread_of old) acts more b w [] r.octet.used []
ordered old mid found acts more b w r none_whole none_handed s events =
    let all = after old.role old.config acts in
    orderly_used old.role old.config (unread_of old) (unread_of mid) acts more b w r.octet.used (r.octet.one s.going)
    (all_sent old acts b w s r.sent) (settled old all (holds_state old all s.holds) none_whole none_handed)
    r.octet.inbox events

-- the state with another stage
staged : (old mid : Partner) (found : Found) (t : Stage) (s : State) (written : List ℕ) → Reads old mid found
    → stage_in mid.stage ≡ t → HoldsState old s → written ≡ s.out → IsAt mid (record s { stage = t }) written
staged old mid found t s written r stage h sent = record {
  holds = record {
    stage = stage;
    sequence = r.sequence ∙ h.sequence;
    number = r.number ∙ h.number;
    sending = ap (option_map sending_in) r.sending ∙ h.sending;
    receiving =
        ap (λ (o : Room). option_map (receiving_in o.octets) mid.receiving) r.octets
        ∙ (ap (option_map (receiving_in old.octets.octets)) r.receiving ∙ h.receiving);
    whole =
        ap (λ (o : Room). option_map (block_in o.octets) mid.whole) r.octets
        ∙ (ap (option_map (block_in old.octets.octets)) r.whole ∙ h.whole);
    handed = subst (λ (x : Option Arrived). HoldsHanded x s.handed) (sym r.handed) h.handed;
  };
  out = sym sent ∙ (sym (append-nil written) ∙ ap (λ (x : List ℕ). written ++ x) (sym r.none));
}

still_at : (old mid : Partner) (found : Found) (s : State) (written : List ℕ) → Reads old mid found
    → mid.stage ≡ old.stage → HoldsState old s → written ≡ s.out → IsAt mid s written
still_at old mid found s written r stage h sent =
    let x = staged old mid found s.stage s written r (ap stage_in stage ∙ h.stage) h sent in
    record {
      holds = record {
        stage = x.holds.stage;
        sequence = x.holds.sequence;
        number = x.holds.number;
        sending = x.holds.sending;
        receiving = x.holds.receiving;
        whole = x.holds.whole;
        handed = x.holds.handed;
      };
      out = x.out;
    }

-- ---- nothing is found

pub runs_more : (old new : Partner) (link : Shown) → closed_of old ≡ None → old.whole ≡ None → old.handed ≡ None
    → Reads old new finding.More
    → new.stage ≡ old.stage → Runs old link new link step.Went
unfolding moves_used
runs_more old new link live none_whole none_handed r stage = record {
  role = r.role;
  config = r.config;
  moves = moves_used (unread_of old) (unread_of new) link r.octet.used r.octet.inbox;
  counts = (refl, refl, refl);
  closed = ap code_in stage ∙ live;
  run = λ acts b w s.
      let all = after old.role old.config acts in
      let used = r.octet.used in
      let f = finds old new finding.More acts b w r s in
      let sent = all_sent old acts b w s r.sent in
      let course = course_used old.role old.config acts b used w (sym sent)
      (f.events ∙ append-nil (reading (opening_by old.role) b).events) s.course in
      run_at old.role old.config (unread_of old) new link link acts b w [] used [] step.Went [] acts (b ++ used) w
      (sym (append-nil acts)) refl (sym (append-nil w))
      (ordered old new finding.More acts [] b w r none_whole none_handed s (ap read_in (append-nil acts) ∙ course.events))
      course tt
      (λ h. stands_by old.role old.config new acts all (b ++ used) w r.role r.config refl (ap code_in stage ∙ live)
      (still_at old new finding.More all w r stage (holds_state old all s.holds) sent)
      (λ n e. s.holds.size n (sym r.octet.size ∙ e)) (r.octet.opening ∙ s.opens) f.read (f.goes f.ending) course);
}

-- ---- an event is read

reads_may : (old : Partner) (acts : List Act) (event : Event) (b written : List ℕ) → StandsFor old acts b written
    → old.whole ≡ None → old.handed ≡ None → MayTake (after old.role old.config acts) (reads event)
reads_may old acts event b written s none_whole none_handed =
    let all = after old.role old.config acts in
    let k = settled old all (holds_state old all s.holds) none_whole none_handed in
    (stands_open old acts b written s, record { handed = k.handed; none_whole = k.none_whole })

-- whether a block is being sent, by what is held
sending_is : (o : Option HeldSending) (t : Option Sending) → option_map sending_in o ≡ t → is_none t ≡ is_none o
sending_is None t e = ap is_none (sym e)
sending_is (Some x) t e = ap is_none (sym e)

is_sending_by : (p : Partner) (s : State) → HoldsState p s → is_sending s ≡ not (is_none p.sending)
is_sending_by p s h = ap not (sending_is p.sending s.sending h.sending)

quiet_by : (old new : Partner) (s s' : State) → HoldsState old s → HoldsState new s'
    → (is_none old.sending ≡ false → is_none new.sending ≡ false) → is_sending s ≡ true → is_sending s' ≡ true
quiet_by old new s s' h h' keeps e =
    is_sending_by new s' h'
    ∙ ap not (keeps (not_true (is_none old.sending) (sym (is_sending_by old s h) ∙ e)))
  where
    not_true : (b : Bool) → not b ≡ true → b ≡ false
    not_true true e = cc
    not_true false e = refl

opened_is : (role : Role) (config : Config) (s : State) (c : ConnectionTold)
    → with_act role config s (reads (opened c)) ≡ opened_by role config s c
unfolding with_act
opened_is role config s c = refl

opened_size : (role : Role) (config : Config) (s : State) (c : ConnectionTold)
    → (opened_by role config s c).size ≡ size_of_code c.size_code
opened_size Active config s c = refl
opened_size Passive config s c = refl

pub some_same : (m n : ℕ) → Some m ≡ Some n → m ≡ n
some_same m n e = cc

pub runs_opened : (old mid new : Partner) (c : Connection) (link : Shown) → old.whole ≡ None → old.handed ≡ None
    → Reads old mid (finding.Opened c) → mid.stage ≡ held.Negotiating → KeepsLink mid new
    → OpensBy mid new (connection_of c) → KeepsRest mid new → Runs old link new link step.Went
unfolding moves_used
runs_opened old mid new c link none_whole none_handed r stage keeps opens rest = record {
  role = keeps.role ∙ r.role;
  config = keeps.config ∙ r.config;
  moves = moves_used (unread_of old) (unread_of new) link r.octet.used
      (r.octet.inbox ∙ ap (λ (x : List ℕ). r.octet.used ++ x) (sym keeps.inbox));
  counts = (refl, refl, refl);
  closed = ap code_in (rest.stage ∙ stage);
  run = λ acts b w s.
      let all = after old.role old.config acts in
      let used = r.octet.used in
      let told = connection_of c in
      let f = finds old mid (finding.Opened c) acts b w r s in
      let sent = all_sent old acts b w s r.sent in
      let h = holds_state old all s.holds in
      let next = opened_by old.role old.config all told in
      let is : next ≡ after old.role old.config (acts ++ reads (opened told) ∷ []) =
      sym (opened_is old.role old.config all told) ∙ sym (after_act old.role old.config acts (reads (opened told))) in
      let here : IsAt new next w =
      subst (λ (x : Role). IsAt new (opened_by x old.config all told) w) r.role
      (subst (λ (x : Config). IsAt new (opened_by mid.role x all told) w) r.config
      (opens all w (staged old mid (finding.Opened c) negotiating all w r (ap stage_in stage) h sent))) in
      let course = course_read old.role old.config acts (opened told) b used w r.octet.few (sym sent)
      (reads_may old acts (opened told) b w s none_whole none_handed) f.events s.course in
      run_at old.role old.config (unread_of old) new link link acts b w [] used [] step.Went (reads (opened told) ∷ [])
      (acts ++ reads (opened told) ∷ []) (b ++ used) w refl refl (sym (append-nil w))
      (ordered old mid (finding.Opened c) acts (reads (opened told) ∷ []) b w r none_whole none_handed s course.events)
      course (
        quiet_by old new all (with_act old.role old.config all (reads (opened told))) h
            (subst (λ (x : State). HoldsState new x) (sym (opened_is old.role old.config all told)) here.holds)
            (λ e. rest.sending ∙ (ap is_none r.sending ∙ e)),
        tt,
      )
      (λ g. stands_by old.role old.config new (acts ++ reads (opened told) ∷ []) next (b ++ used) w
      (keeps.role ∙ r.role) (keeps.config ∙ r.config) is (ap code_in (rest.stage ∙ stage)) here
      (λ n e.
      sym (some_same (size_of_code c.size_code) n (sym (ap size_at keeps.reader ∙ r.octet.size) ∙ e))
      ∙ sym (opened_size old.role old.config all told))
      (ap opens_by keeps.reader ∙ (r.octet.opening ∙ s.opens))
      (subst (λ (x : Reader). HasRead x (b ++ used)) (sym keeps.reader) f.read)
      (ap ended_with keeps.reader ∙ f.goes f.ending) course);
}

-- ---- a message is read

message_is : (role : Role) (config : Config) (s : State) (octets : List ℕ) (at : ℕ)
    → with_act role config s (reads (message octets at)) ≡ with_message role config s octets
unfolding with_act
message_is role config s octets at = refl

closed_stage : (h : Held) (t : Stage) (code : ℕ) → code_in h ≡ Some code → stage_in h ≡ t → t ≡ closed code
closed_stage held.Opening t code e f = cc
closed_stage held.Negotiating t code e f = cc
closed_stage (held.Going pdu) t code e f = cc
closed_stage (held.Closed n) t code e f = sym f ∙ ap closed (some_same n code e)

pub whole_by : (o : Option Arrived) (octets : List ℕ) (t : Option Block) → option_map (block_in octets) o ≡ t
    → is_none o ≡ false → is_none t ≡ false
whole_by None octets t e n = cc
whole_by (Some a) octets t e n = ap is_none (sym e)

-- what is told of a message, by what the partner holds behind it
message_tells : (old mid new : Partner) (s : State) (event : Event) (result : Step) (link link' : Shown)
    (kept b w : List ℕ)
    (role : Role) (config : Config) → mid.sending ≡ old.sending → HoldsState old s
    → HoldsState new (with_act role config s (reads event)) → Does mid new result
    → TellsStep role config s (reads event ∷ []) link link' kept b w result
message_tells old mid new s event step.Went link link' kept b w role config sending h h' does =
    (quiet_by old new s _ h h' (λ e. does.quiet (λ x. cc) (ap is_none sending ∙ e)), tt)
message_tells old mid new s event step.NotYet link link' kept b w role config sending h h' does =
    absurd (does.some refl)
message_tells old mid new s event step.Sent link link' kept b w role config sending h h' does =
    let sent = does.sent refl in (
      [],
      event,
      refl,
      tt,
      record {
        before = is_sending_by old s h ∙ ap not (ap is_none (sym sending) ∙ sent.0);
        after = is_sending_by new (with_act role config s (reads event)) h' ∙ ap not sent.1;
      },
      settled new (with_act role config s (reads event)) h' (does.none_whole refl) does.handed,
    )
message_tells old mid new s event (step.Closed code) link link' kept b w role config sending h h' does = (
  (quiet_by old new s _ h h' (λ e. does.quiet (λ x. cc) (ap is_none sending ∙ e)), tt),
  by_message (closed_stage new.stage _ code does.closed h'.stage),
)

not_closed : (p : Partner) (result : Step) → closed_of p ≡ code_by result → (IsClosing result → ⊥) → closed_of p ≡ None
not_closed p step.Went e n = e
not_closed p step.NotYet e n = e
not_closed p step.Sent e n = e
not_closed p (step.Closed code) e n = absurd (n tt)

some_is : (o : Option ℕ) (size : ℕ) → is_none o ≡ false → ((n : ℕ) → o ≡ Some n → n ≡ size) → o ≡ Some size
some_is None size some is = cc
some_is (Some n) size some is = ap Some (is n refl)

pub runs_message : (old mid new : Partner) (link : Shown) (result : Step) → old.whole ≡ None → old.handed ≡ None
    → Reads old mid finding.Message → mid.stage ≡ old.stage
    → Reaches mid new (λ s. with_message mid.role mid.config s (message_at mid.reader)) → Does mid new result
    → Runs old link new link result
unfolding moves_used
runs_message old mid new link result none_whole none_handed r stage reached does =
    let keeps = reached.keeps in
    record {
      role = keeps.role ∙ r.role;
      config = keeps.config ∙ r.config;
      moves = moves_used (unread_of old) (unread_of new) link r.octet.used
          (r.octet.inbox ∙ ap (λ (x : List ℕ). r.octet.used ++ x) (sym keeps.inbox));
      counts = counts_here result link does.some;
      closed = does.closed;
      run = λ acts b w s.
          let all = after old.role old.config acts in
          let used = r.octet.used in
          let octets = message_at mid.reader in
          let event = message octets (reading (opening_by old.role) b).at in
          let f = finds old mid finding.Message acts b w r s in
          let sent = all_sent old acts b w s r.sent in
          let h = holds_state old all s.holds in
          let next = with_message old.role old.config all octets in
          let act_is : next ≡ with_act old.role old.config all (reads event) =
          sym (message_is old.role old.config all octets (reading (opening_by old.role) b).at) in
          let is : next ≡ after old.role old.config (acts ++ reads event ∷ []) =
          act_is ∙ sym (after_act old.role old.config acts (reads event)) in
          let sized : size_at mid.reader ≡ Some all.size =
          r.octet.size ∙ some_is (size_at old.reader) all.size (r.octet.sized refl) s.holds.size in
          let here : IsAt new next w =
          subst (λ (x : Role). IsAt new (with_message x old.config all octets) w) r.role
          (subst (λ (x : Config). IsAt new (with_message mid.role x all octets) w) r.config
          (reached.reaches all w sized (still_at old mid finding.Message all w r stage h sent))) in
          let course = course_read old.role old.config acts event b used w r.octet.few (sym sent)
          (reads_may old acts event b w s none_whole none_handed) f.events s.course in
          run_at old.role old.config (unread_of old) new link link acts b w [] used [] result (reads event ∷ [])
          (acts ++ reads event ∷ []) (b ++ used) w refl refl (sym (append-nil w))
          (ordered old mid finding.Message acts (reads event ∷ []) b w r none_whole none_handed s course.events) course
          (message_tells old mid new all event result link link (unread_of new) (b ++ used) w old.role old.config
          r.sending h (subst (λ (x : State). HoldsState new x) act_is here.holds) does)
          (λ g. stands_by old.role old.config new (acts ++ reads event ∷ []) next (b ++ used) w
          (keeps.role ∙ r.role) (keeps.config ∙ r.config) is (not_closed new result does.closed g) here
          (λ n e.
          s.holds.size n (sym r.octet.size ∙ (ap size_at (sym keeps.reader) ∙ e))
          ∙ sym (message_grows old.role old.config all octets).1)
          (ap opens_by keeps.reader ∙ (r.octet.opening ∙ s.opens))
          (subst (λ (x : Reader). HasRead x (b ++ used)) (sym keeps.reader) f.read)
          (ap ended_with keeps.reader ∙ f.goes f.ending) course);
    }

-- ---- the octets end the link

pub record EndsAs (stage : Held) (found : Found) (code : ℕ) (at : ℕ) : Type 0 where
  pub ending : Ending
  pub is : ending_by found at ≡ Some ending
  pub code_is : code ≡ code_of_ending (is_opened (stage_in stage)) ending

events_none : (found : Found) (octets : List ℕ) (at n code : ℕ) (stage : Held) → EndsAs stage found code n
    → events_by found octets at ≡ []
events_none finding.More octets at n code stage e = refl
events_none (finding.Opened c) octets at n code stage e =
    absurd (let x : None ≡ Some e.ending = e.is in cc)
events_none finding.Message octets at n code stage e =
    absurd (let x : None ≡ Some e.ending = e.is in cc)
events_none finding.Disconnected octets at n code stage e = refl
events_none (finding.Fault fault) octets at n code stage e = refl

pub runs_ended : (old mid new : Partner) (found : Found) (code : ℕ) (link : Shown) → old.whole ≡ None
    → old.handed ≡ None → Reads old mid found → at.Closes mid new code
    → ((n : ℕ) → EndsAs old.stage found code n) → Runs old link new link (step.Closed code)
unfolding moves_used
runs_ended old mid new found code link none_whole none_handed r closes ends =
    let keeps = closes.keeps in
    record {
      role = keeps.role ∙ r.role;
      config = keeps.config ∙ r.config;
      moves = moves_used (unread_of old) (unread_of new) link r.octet.used
          (r.octet.inbox ∙ ap (λ (x : List ℕ). r.octet.used ++ x) (sym keeps.inbox));
      counts = ((inl refl, inl refl), refl);
      closed = ap code_in closes.stage;
      run = λ acts b w s.
          let all = after old.role old.config acts in
          let used = r.octet.used in
          let f = finds old mid found acts b w r s in
          let sent = all_sent old acts b w s r.sent in
          let h = holds_state old all s.holds in
          let e = ends (reading (opening_by old.role) b).at in
          let events = (reading (opening_by old.role) b).events in
          let course = course_used old.role old.config acts b used w (sym sent)
          (f.events
          ∙ (ap (λ (x : List Event). events ++ x)
          (events_none found (message_at mid.reader) (reading (opening_by old.role) b).at
          (reading (opening_by old.role) b).at code old.stage e)
          ∙ append-nil events)) s.course in
          run_at old.role old.config (unread_of old) new link link acts b w [] used [] (step.Closed code) [] acts
          (b ++ used) w (sym (append-nil acts)) refl (sym (append-nil w))
          (ordered old mid found acts [] b w r none_whole none_handed s (ap read_in (append-nil acts) ∙ course.events))
          course (
            tt,
            by_ending e.ending (f.ending ∙ e.is)
                (e.code_is ∙ ap (λ (t : Stage). code_of_ending (is_opened t) e.ending) h.stage)
                (stands_open old acts b w s) (settled old all h none_whole none_handed) sent,
          )
          (λ g. absurd (g tt));
    }
