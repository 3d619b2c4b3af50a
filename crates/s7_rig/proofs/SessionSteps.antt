-- What a session's turn keeps of its client and itself, and of every other client and its session.
use Rattle.std.proofs.Common.{◌≡◌, ◌≢◌, ℕ, ◌+◌, ◌-◌, List, [], ◌∷◌, ◌++◌, length, map, refl, ap, sym, ◌∙◌, subst, arith, append_assoc, append-nil, length-append}
use Rattle.std.proofs.lemmas.List.{append_cancel_left}
use Rattle.std.specs.Prelude.{Bool, Option, None, Some, option_map}
use Rattle.s7_outer.specs.Count.{RoseExactly}
use Rattle.s7_memory.specs.PipesHeld.{PipesHeld}
use Rattle.s7_memory.specs.Pipes.{end_of}
use Rattle.s7_memory.specs.declared.pipes.Side.TheVariants as side
use Rattle.s7_area.specs.Memory.{Memory}
use Rattle.s7_dialogue.specs.declared.config.Config.{Config}
use Rattle.s7_dialogue.specs.declared.job.JobResult.{JobResult}
use Rattle.s7_client.specs.Polling as client
use Rattle.s7_plant.specs.Books.{BookTold}
use Rattle.s7_plant.specs.Journals.{after_call}
use Rattle.s7_plant.specs.State.{begins_with, state_of}
use Rattle.s7_turn.specs.Histories.{replay}
use Rattle.s7_session.specs.declared.session.Session.{Session}
use Rattle.s7_session.specs.declared.outcome.Outcome.{Outcome}
use Rattle.s7_session.specs.declared.outcome.Outcome.TheVariants as outcome
use Rattle.s7_session.specs.declared.outcome.Turn.{Turn}
use Rattle.s7_session.specs.declared.outcome.Turn.TheVariants.{Went, NotYet, Closed}
use Rattle.s7_session.specs.Books.{History, history_of, own, own_from, GoesOnBy}
use Rattle.s7_session.specs.Doers.{StaysFull}
use Rattle.s7_session.specs.Entry.{Entry, answered}
use Rattle.s7_session.specs.Events.{lives}
use Rattle.s7_session.specs.LinkState.{LinkState, first_link}
use Rattle.s7_session.specs.Owed.{Past, past, telegrams}
use Rattle.s7_session.specs.Stands.{Stands, unread, used_of, closed_with, closed_by, entry_count as count_of, newest}
use Rattle.s7_session.specs.Telegrams.{Met, verdicts_of, entered_of, AllAt, clock_failures, last_number}
use Rattle.s7_session.specs.Verdict.{Verdict}
use Rattle.s7_session.proofs.ConsumeLemmas.{entered-append}
use Rattle.s7_session.proofs.DoerLemmas.{LooseTrail, loose_of, loose-append, loose_stays}
use Rattle.s7_session.proofs.TurnLemmas.{AllAt-append, clock_failures-append, last_number-append, map-append, verdicts-append}
use Rattle.s7_rig.specs.Numbers.{count_from}
use Rattle.s7_rig.specs.Runs.{moment}
use Rattle.s7_rig.specs.Split.{AllStand}
use Rattle.s7_rig.specs.Complete.{AllComeOff}
use Rattle.s7_rig.specs.State.{Post}
use Rattle.s7_rig.specs.Turns.{is_full_in, lacks_in, did_in, keeps_in, entry_count, TakesTurn, IsSessionTurn}
use Rattle.s7_dialogue.proofs.FlightLemmas.{same_some}
use Rattle.s7_rig.proofs.ListFacts.{none_before, none_behind}
use Rattle.s7_rig.proofs.PastFacts.{past_with, full_within}
use Rattle.s7_rig.proofs.Joint.{Octets, IsConnected, IsWorking, Mode, ModeOf, own_in, untouched, connecting, connected, working, lost, Joint}
use Rattle.s7_rig.proofs.OwnLemmas.{own_goes_on, own_numbers, own_stays, numbers_of}
use Rattle.s7_rig.proofs.PlaceLemmas.{all_stand_goes_on}
use Rattle.s7_rig.proofs.ResultLemmas.{come_off_stays}
use Rattle.s7_rig.proofs.SoundLemmas.{IsSound, live_sound, past_waits, cause_sound}

-- ---- lists

numbers-append : (xs ys : List Entry) → numbers_of (xs ++ ys) ≡ numbers_of xs ++ numbers_of ys
numbers-append [] ys = refl
numbers-append (x ∷ xs) ys = ap (λ ns. x.number ∷ ns) (numbers-append xs ys)

-- octets that came to what was read, and those that were used of it
moved_along : (used unread waiting received left new unread' : List ℕ) → waiting ≡ received ++ left → unread ++ received ≡ new ++ unread'
    → used ++ (unread ++ waiting) ≡ (used ++ new) ++ (unread' ++ left)
moved_along used unread waiting received left new unread' took inbox =
    ap (λ x. used ++ (unread ++ x)) took
    ∙ ap (λ x. used ++ x) (sym (append_assoc unread received left) ∙ ap (λ x. x ++ left) inbox ∙ append_assoc new unread' left)
    ∙ sym (append_assoc used new (unread' ++ left))

-- where all was used that was sent, nothing is left to use
nothing_used : (sent used unread waiting received left new unread' : List ℕ) → used ≡ sent → sent ≡ used ++ (unread ++ waiting) → waiting ≡ received ++ left → unread ++ received ≡ new ++ unread'
    → new ≡ []
nothing_used sent used unread waiting received left new unread' all taken took inbox =
    none_before new (unread' ++ left)
    (none_behind used (new ++ (unread' ++ left))
    (all ∙ taken ∙ moved_along used unread waiting received left new unread' took inbox ∙ append_assoc used new (unread' ++ left)))

no_failure : (m n : ℕ) → m ≡ 0 → RoseExactly n 0 0 → m + n ≡ 0
no_failure m n none rose = omega (arith, none, rose.0)

-- a session that uses nothing meets no verdict
none_met : (first : LinkState) (b new : List ℕ) (js vs : List Verdict) → new ≡ [] → (past first b js).standing ≡ lives → (past first (b ++ new) (js ++ vs)).verdicts ≡ [] → vs ≡ []
none_met first b new js vs none live met =
    none_behind (past first b js).verdicts vs
    (ap (λ (p : Past). p.verdicts) (sym (past_with first b js vs live)) ∙ ap (λ x. (past first x (js ++ vs)).verdicts) (sym (ap (λ x. b ++ x) none ∙ append-nil b)) ∙ met)
  where
    none_behind : (xs ys : List Verdict) → xs ++ ys ≡ [] → ys ≡ []
    none_behind [] ys is = is
    none_behind (x ∷ xs) ys is = absurd (cc)

-- a book that stays full goes on for the telegrams that met it
stays_on : (begun book book' : BookTold) (mets : List Met) → LooseTrail is_full_in lacks_in did_in keeps_in begun mets book → StaysFull is_full_in book book' → LooseTrail is_full_in lacks_in did_in keeps_in begun mets book'
stays_on begun book book' mets trail stays =
    subst (λ ms. LooseTrail is_full_in lacks_in did_in keeps_in begun ms book') (append-nil mets)
    (loose-append is_full_in lacks_in did_in keeps_in begun book book' mets [] trail stays)

-- results that stand in a history stand in one that goes on
stand_on : (opening : Memory) (book book' : BookTold) (link : ℕ) → GoesOnBy link book book' → state_of book.opening ≡ begins_with opening → (own_link pdu : ℕ) (results : List JobResult) (places : List (List ℕ))
    → AllStand (begins_with opening) (history_of book) own_link pdu results places
    → AllStand (begins_with opening) (history_of book') own_link pdu results places
stand_on opening book book' link goes_on opened own_link pdu results places stand =
    subst (λ s. AllStand s (history_of book') own_link pdu results places) (ap state_of goes_on.opening ∙ opened)
    (all_stand_goes_on link book book' goes_on own_link pdu results places
    (subst (λ s. AllStand s (history_of book) own_link pdu results places) (sym opened) stand))

-- results that came off have done so in a history that goes on
come_off_on : (opening : Memory) (book book' : BookTold) (link pdu : ℕ) → GoesOnBy link book book'
    → (results : List JobResult) (places : List (List ℕ)) → AllComeOff opening (history_of book) pdu results places
    → AllComeOff opening (history_of book') pdu results places
come_off_on opening book book' link pdu goes_on results places all =
    subst (λ h. AllComeOff opening h pdu results places) (sym goes_on.history)
    (come_off_stays opening (history_of book) goes_on.calls pdu results places all)

-- octets that leave their count as it was are none
none_used : (b used : List ℕ) (count : ℕ) → length b ≡ count → length (b ++ used) ≡ count → used ≡ []
none_used b [] count before after = refl
none_used b (x ∷ used) count before after = absurd (omega (arith, before, after, length-append b (x ∷ used)))

-- verdicts that a sound link doesn't wait for leave it sound
sound_still : (first : LinkState) (b used : List ℕ) (js vs : List Verdict) → used ≡ []
    → IsSound (past first b js).standing → IsSound (past first (b ++ used) (js ++ vs)).standing
sound_still first b used js vs none sound =
    subst (λ x. IsSound (past first x (js ++ vs)).standing) (sym (ap (λ x. b ++ x) none ∙ append-nil b))
    (subst (λ (q : Past). IsSound q.standing) (sym (past_waits first b js vs sound)) sound)

-- ---- the session's turn

-- the octets and the telegrams with those of a turn
abbrev pub with_turn : Octets → List ℕ → List Met → List ℕ → Octets
with_turn o used mets written =
    record o { used = o.used ++ used; verdicts = o.verdicts ++ verdicts_of mets; mets = o.mets ++ mets; answered = o.answered ++ written }

-- a client whose session and pipes went on, with these numbers noted for its job
abbrev pub with_session : Post → Session → PipesHeld → List ℕ → Post
with_session p session pipes numbers = record p { session = session; pipes = pipes; noted = option_map (λ noted. noted ++ numbers) p.noted }

module _ (opening : Memory) (limit : ℕ) (config : Config) (old : Post) (book book' : BookTold) (o : Octets) (session : Session) (pipes : PipesHeld) (result : Turn) (j : Joint opening limit config book old o) (takes : TakesTurn old.link old.session old.pipes book session pipes book' result)
    (remembers : closed_with session ≢ Some outcome.Memory) where
  abbrev first : LinkState
  first = first_link opening.guard

  abbrev history : History
  history = history_of book

  abbrev history' : History
  history' = history_of book'

  -- the link's own entries
  abbrev mine : History → List Entry
  mine h = own (begins_with opening) old.link h

  abbrev used : List ℕ
  used = takes.turn.moves.used

  abbrev new_mets : List Met
  new_mets = takes.turn.moves.mets

  abbrev verdicts : List Verdict
  verdicts = verdicts_of new_mets

  abbrev entries : List Entry
  entries = takes.turn.moves.entries

  abbrev numbers : List ℕ
  numbers = count_from (entry_count book) (entry_count book' - entry_count book)

  abbrev post : Post
  post = with_session old session pipes numbers

  abbrev o' : Octets
  o' = with_turn o used new_mets takes.turn.moves.written

  opens : state_of book'.opening ≡ begins_with opening
  opens = ap state_of takes.goes_on.opening ∙ j.opened

  limits : book'.journal.limit ≡ limit
  limits = takes.goes_on.limit ∙ j.limited

  doer_has : own (state_of book.opening) old.link history ++ entries ≡ own (state_of book'.opening) old.link history'
  doer_has = takes.turn.moves.doer (own (state_of book.opening) old.link history) refl

  -- the link's own entries go on by those of the turn
  own_is : mine history' ≡ mine history ++ entries
  own_is =
      ap (λ s. own s old.link history') (sym opens)
      ∙ sym doer_has
      ∙ ap (λ s. own s old.link history ++ entries) j.opened

  -- the numbers that are noted are theirs
  numbers_are : numbers ≡ numbers_of entries
  numbers_are =
      let g = takes.goes_on in
      let opened = state_of book.opening in
      let left = replay after_call opened history in
      let count : entry_count book' - entry_count book ≡ length g.calls = omega (arith, ap length g.history, length-append history g.calls) in
      ap (count_from (entry_count book)) count
      ∙ sym (own_numbers (entry_count book) left old.link g.calls g.own)
      ∙ ap numbers_of (sym (append_cancel_left (own opened old.link history) entries (own_from (entry_count book) left old.link g.calls) (doer_has ∙ own_goes_on old.link book book' g)))

  stands : Stands first session o'.used o'.verdicts o'.answered
  stands = takes.turn.moves.stood first o.used o.verdicts o.answered j.stands

  took : old.pipes.to_server ≡ takes.turn.moves.received ++ pipes.to_server
  took = same_some _ _ takes.turn.moves.took

  wrote : pipes.to_client ≡ old.pipes.to_client ++ takes.turn.moves.written
  wrote = same_some _ _ takes.turn.moves.wrote

  taken : o.sent ≡ o'.used ++ (unread session ++ pipes.to_server)
  taken = j.taken ∙ moved_along o.used (unread old.session) old.pipes.to_server takes.turn.moves.received pipes.to_server used (unread session) took takes.turn.moves.inbox

  given : o'.answered ≡ o.heard ++ (client.unread_of old.client ++ pipes.to_client)
  given =
      let written = takes.turn.moves.written in
      ap (λ x. x ++ written) j.given
      ∙ append_assoc o.heard (client.unread_of old.client ++ old.pipes.to_client) written
      ∙ ap (λ x. o.heard ++ x) (append_assoc (client.unread_of old.client) old.pipes.to_client written ∙ ap (λ x. client.unread_of old.client ++ x) (sym wrote))

  asks : telegrams first o'.used o'.verdicts ≡ o'.mets
  asks = takes.turn.moves.asked first o.used o.verdicts o.answered j.stands ∙ ap (λ x. x ++ new_mets) j.asked

  met : verdicts_of o'.mets ≡ o'.verdicts
  met = verdicts-append o.mets new_mets ∙ ap (λ x. x ++ verdicts) j.met

  legal : entered_of o'.mets ≡ map answered (mine history')
  legal =
      entered-append o.mets new_mets
      ∙ ap (λ x. x ++ entered_of new_mets) j.legal
      ∙ ap (λ x. map answered (mine history) ++ x) (sym takes.turn.moves.entered)
      ∙ sym (map-append (mine history) entries)
      ∙ ap (map answered) (sym own_is)

  trail : LooseTrail is_full_in lacks_in did_in keeps_in j.begun o'.mets book'
  trail = loose-append is_full_in lacks_in did_in keeps_in j.begun book book' o.mets new_mets j.trail
      (loose_of is_full_in lacks_in did_in keeps_in book book' new_mets takes.turn.moves.entries takes.turn.moves.trail)

  -- A session that goes on lives, one that closes doesn't do so for want of memory, and one that was closed stays as it
  -- was.
  sound_turned : closed_with old.session ≡ None → (r : Turn) → result ≡ r
      → IsSound (past first o'.used o'.verdicts).standing
  sound_turned still (Closed why) is =
      cause_sound (end_of takes.loan old.pipes side.Server) (end_of takes.loan pipes side.Server) first session o'.used
      o'.verdicts why
      (λ lacked. remembers (takes.turn.closed ∙ ap closed_by is ∙ ap Some lacked))
      (takes.turn.cause why is still first o.used o.verdicts o.answered j.stands)
  sound_turned still Went is = live_sound _ (stands.lives (takes.turn.closed ∙ ap closed_by is))
  sound_turned still NotYet is = live_sound _ (stands.lives (takes.turn.closed ∙ ap closed_by is))

  sound_by : (why : Option Outcome) → closed_with old.session ≡ why → IsSound (past first o'.used o'.verdicts).standing
  sound_by None still = sound_turned still result refl
  sound_by (Some why) shut =
      let count = stands.used ∙ ap used_of (takes.stays why shut) in
      sound_still first o.used used o.verdicts verdicts
      (none_used o.used used (used_of old.session) j.stands.used count) j.sound

  clock : clock_failures o'.verdicts ≡ 0
  clock = clock_failures-append o.verdicts verdicts ∙ no_failure (clock_failures o.verdicts) (clock_failures verdicts) j.clock takes.turn.moves.clock

  moments : AllAt (Some moment) (mine history')
  moments =
      subst (AllAt (Some moment)) (sym own_is)
      (AllAt-append (Some moment) (mine history) entries j.moments
      (subst (λ told. AllAt (Some told) entries) j.moment_is takes.turn.moves.moments))

  counts : count_of session ≡ length (mine history')
  counts = omega (arith, takes.turn.moves.count, j.count, ap length own_is, length-append (mine history) entries)

  last_is : newest session ≡ last_number None (mine history')
  last_is =
      takes.turn.moves.newest
      ∙ ap (λ before. last_number before entries) j.last
      ∙ sym (last_number-append None (mine history) entries)
      ∙ ap (last_number None) (sym own_is)

  -- ---- by mode

  -- the client has transmitted nothing that was not used, so the session uses nothing and meets no verdict
  connected_on : IsConnected first config old.client old.rest o.used o.verdicts o.sent o.heard
      → IsConnected first config old.client old.rest o'.used o'.verdicts o.sent o.heard
  connected_on c =
      let none = nothing_used o.sent o.used (unread old.session) old.pipes.to_server takes.turn.moves.received pipes.to_server used (unread session) c.all_used j.taken took takes.turn.moves.inbox in
      let same : o'.used ≡ o.used = ap (λ x. o.used ++ x) none ∙ append-nil o.used in
      let judged : o'.verdicts ≡ o.verdicts = ap (λ x. o.verdicts ++ x) (none_met first o.used used o.verdicts verdicts none c.settled.lives stands.met) ∙ append-nil o.verdicts in
      subst (λ b. IsConnected first config old.client old.rest b o'.verdicts o.sent o.heard) (sym same)
      (subst (λ js. IsConnected first config old.client old.rest o.used js o.sent o.heard) (sym judged) c)

  working_on : IsWorking first config (mine history) old.client old.rest old.noted o
      → IsWorking first config (mine history') old.client old.rest post.noted o'
  working_on w = record {
    begun = w.begun;
    heard = w.heard;
    sent = w.sent;
    stands = w.stands;
    used = w.used ++ used;
    verdicts = w.verdicts ++ verdicts;
    sent_is = w.sent_is;
    heard_is = w.heard_is;
    used_is = ap (λ x. x ++ used) w.used_is ∙ append_assoc w.before w.used used;
    verdicts_are = ap (λ x. x ++ verdicts) w.verdicts_are ∙ append_assoc w.judged w.verdicts verdicts;
    mine = w.mine ++ entries;
    entries_are = own_is ∙ (ap (λ x. x ++ entries) w.entries_are ∙ append_assoc w.earlier w.mine entries);
    noted = ap (option_map (λ noted. noted ++ numbers)) w.noted ∙ ap Some (ap (λ x. numbers_of w.mine ++ x) numbers_are ∙ sym (numbers-append w.mine entries));
    jobs = w.jobs;
  }

  mode_on : ModeOf opening config book old o → ModeOf opening config book' post o'
  mode_on (untouched u) = untouched u
  mode_on (connecting c) = connecting c
  mode_on (connected c) = connected (connected_on c)
  mode_on (working w) = working (working_on w)
  mode_on (lost l) = lost l

  joint_on : Joint opening limit config book' post o'
  joint_on = record {
    serving = record {
      opened = opens;
      limited = limits;
      stands = stands;
      asked = asks;
      met = met;
      legal = legal;
      begun = j.begun;
      trail = trail;
      sound = sound_by (closed_with old.session) refl;
      clock = clock;
      moments = moments;
      count = counts;
      last = last_is;
    };
    taken = taken;
    given = given;
    moment_is = same_some _ _ takes.turn.moves.moment ∙ j.moment_is;
    config_is = j.config_is;
    done = stand_on opening book book' old.link takes.goes_on j.opened old.link config.pdu old.results old.places j.done;
    comes_off = λ none. come_off_on opening book book' old.link config.pdu takes.goes_on old.results old.places
        (j.comes_off (λ any. none (full_within o.verdicts verdicts any)));
    mode = mode_on j.mode;
  }

-- A session's turn keeps what holds of its client and itself.
pub session_joint : (opening : Memory) (limit : ℕ) (config : Config) (old new : Post) (book book' : BookTold) (stirs : Bool) (o : Octets)
    → Joint opening limit config book old o → (turn : IsSessionTurn old new book book' stirs)
    → Joint opening limit config book' new (with_turn o turn.takes.turn.moves.used turn.takes.turn.moves.mets turn.takes.turn.moves.written)
session_joint opening limit config old new book book' stirs o j turn =
    let moves = turn.takes.turn.moves in
    subst (λ p. Joint opening limit config book' p (with_turn o moves.used moves.mets moves.written)) (sym turn.same)
    (joint_on opening limit config old book book' o turn.session turn.pipes turn.result j turn.takes turn.remembers)

-- the same, with what its octets have to do with those before
pub session_step : (opening : Memory) (limit : ℕ) (config : Config) (old new : Post) (book book' : BookTold) (stirs : Bool) (o : Octets)
    → Joint opening limit config book old o → (turn : IsSessionTurn old new book book' stirs)
    → (o' : Octets) × (o'.sent ≡ o.sent) × (o'.answered ≡ o.answered ++ turn.takes.turn.moves.written) × Joint opening limit config book' new o'
session_step opening limit config old new book book' stirs o j turn =
    let moves = turn.takes.turn.moves in
    (with_turn o moves.used moves.mets moves.written, refl, refl, session_joint opening limit config old new book book' stirs o j turn)

-- ---- the turn of another session

-- a full book stays full, whose session's turn it is
turn_keeps_full : (old new : Post) (book book' : BookTold) (stirs : Bool) → IsSessionTurn old new book book' stirs → StaysFull is_full_in book book'
turn_keeps_full old new book book' stirs turn =
    loose_stays is_full_in lacks_in did_in keeps_in book book' turn.takes.turn.moves.mets
    (loose_of is_full_in lacks_in did_in keeps_in book book' turn.takes.turn.moves.mets turn.takes.turn.moves.entries turn.takes.turn.moves.trail)

-- A book that goes on by calls of another link keeps what holds of a client and its session.
pub other_step : (opening : Memory) (limit : ℕ) (config : Config) (p : Post) (book book' : BookTold) (other : ℕ) (o : Octets)
    → other ≢ p.link → Joint opening limit config book p o → GoesOnBy other book book' → StaysFull is_full_in book book'
    → Joint opening limit config book' p o
other_step opening limit config p book book' other o apart j goes_on still_full =
    let opens = ap state_of goes_on.opening ∙ j.opened in
    let same : own_in opening book' p.link ≡ own_in opening book p.link =
    ap (λ s. own s p.link (history_of book')) (sym opens)
    ∙ own_stays p.link other book book' apart goes_on
    ∙ ap (λ s. own s p.link (history_of book)) j.opened in
    record {
      serving = record {
        opened = opens;
        limited = goes_on.limit ∙ j.limited;
        stands = j.stands;
        asked = j.asked;
        met = j.met;
        legal = j.legal ∙ ap (map answered) (sym same);
        begun = j.begun;
        trail = stays_on j.begun book book' o.mets j.trail still_full;
        sound = j.sound;
        clock = j.clock;
        moments = subst (AllAt (Some moment)) (sym same) j.moments;
        count = j.count ∙ ap length (sym same);
        last = j.last ∙ ap (last_number None) (sym same);
      };
      taken = j.taken;
      given = j.given;
      moment_is = j.moment_is;
      config_is = j.config_is;
      done = stand_on opening book book' other goes_on j.opened p.link config.pdu p.results p.places j.done;
      comes_off = λ none. come_off_on opening book book' other config.pdu goes_on p.results p.places (j.comes_off none);
      mode = subst (λ es. Mode (first_link opening.guard) config es p.client p.rest p.results p.noted o) (sym same) j.mode;
    }

-- A session's turn keeps what holds of the client and the session of another link.
pub other_session_step : (opening : Memory) (limit : ℕ) (config : Config) (p old new : Post) (book book' : BookTold) (stirs : Bool) (o : Octets)
    → old.link ≢ p.link → Joint opening limit config book p o → IsSessionTurn old new book book' stirs
    → Joint opening limit config book' p o
other_session_step opening limit config p old new book book' stirs o apart j turn =
    other_step opening limit config p book book' old.link o apart j turn.takes.goes_on (turn_keeps_full old new book book' stirs turn)
