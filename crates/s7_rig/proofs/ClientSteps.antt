-- A client's turn keeps what holds of it and its session.
use Rattle.std.proofs.Common.{◌≡◌, ◌⊎◌, inl, inr, ℕ, ◌<◌, ◌≤◌, false, List, [], ◌∷◌, ◌++◌, take, refl, ap, sym, ◌∙◌, subst, append_assoc, arith}
use Rattle.std.specs.Prelude.{Bool, true, Option, None, Some, unwrap_or, map, if◌then◌else◌}
use Rattle.std.specs.Borrow.{GName}
use Rattle.std.proofs.lemmas.List.{append-nil, append_cancel_left, map-append}
use Rattle.s7_memory.specs.PipesHeld.{PipesHeld}
use Rattle.s7_memory.specs.Pipes.{end_of}
use Rattle.s7_outer.specs.Shown.{Shown}
use Rattle.s7_memory.specs.declared.pipes.Side.TheVariants as side
use Rattle.s7_area.specs.Memory.{Memory}
use Rattle.s7_header.specs.Negotiation.{most_pdu}
use Rattle.s7_client.specs.declared.connection.Connection.{Connection}
use Rattle.s7_dialogue.specs.declared.config.Config.{Config}
use Rattle.s7_dialogue.specs.declared.grant.Grant.{Grant}
use Rattle.s7_dialogue.specs.declared.grant.Leaves.{Leaves}
use Rattle.s7_dialogue.specs.declared.grant.Leaves.TheVariants.{AsItWas, Disconnected, Closed}
use Rattle.s7_dialogue.specs.declared.job.Job.{Job}
use Rattle.s7_dialogue.specs.declared.job.Job.TheVariants as job
use Rattle.s7_dialogue.specs.declared.job.JobResult.{JobResult}
use Rattle.s7_client.specs.declared.job.Polled.{Polled}
use Rattle.s7_client.specs.declared.job.Polled.TheVariants as polled
use Rattle.s7_dialogue.specs.Course.{begins_anew}
use Rattle.s7_client.specs.Standing.{Moves, IsByOctets}
use Rattle.s7_client.specs.Polling as client
use Rattle.s7_plant.specs.Books.{BookTold}
use Rattle.s7_plant.specs.declared.request.Ask.{Ask}
use Rattle.s7_plant.specs.Replies.{Said}
use Rattle.s7_plant.specs.State.{begins_with}
use Rattle.s7_session.specs.Books.{own, history_of}
use Rattle.s7_session.specs.Entry.{answered}
use Rattle.s7_session.specs.LinkState.{LinkState, first_link}
use Rattle.s7_session.specs.Telegrams.{entered_of}
use Rattle.s7_session.specs.Stands.{unread}
use Rattle.s7_rig.specs.State.{Post}
use Rattle.s7_rig.specs.Turns.{StartsNext, StartsNothing, with_polled, IsClientTurn}
use Rattle.s7_rig.specs.Scripts.{IsNoConnect, NoneConnects, ConnectsFirst, left_behind}
use Rattle.s7_rig.proofs.HaltLemmas.{left_keeps}
use Rattle.s7_rig.specs.Split.{AllStand, state_at}
use Rattle.s7_rig.proofs.Conversing.{entries_of, rows_of, verdicts_met, Converses, WentBy}
use Rattle.s7_rig.proofs.Joint.{Octets, IsConnecting, IsWorking, IsFailing, IsLost, ModeOf, own_in, untouched, connecting, connected, working, lost, Joint}
use Rattle.s7_session.specs.Verdict.{Verdict}
use Rattle.s7_session.specs.Owed.{past, owed, entered}
use Rattle.s7_session.specs.Stands.{unsent}
use Rattle.s7_rig.specs.Dialogues.{AreReplies, ReadsAs, IsConnectOver, IsJobOver, IsJobSettled}
use Rattle.s7_rig.specs.Settled.{Settled}
use Rattle.s7_rig.specs.Split.{StandsAtPlaces}
use Rattle.s7_rig.proofs.OpeningLemmas.{connect_is_settled}
use Rattle.s7_rig.proofs.OverLemmas.{job_is_settled, job_went}
use Rattle.s7_rig.proofs.EndLemmas.{IsQuiet, connect_ends, no_connect_leaves, unconnected_fails, working_ends, stays_or_leaves}
use Rattle.s7_rig.proofs.ResultLemmas.{IsGone, ComesOff, come_off_more, come_off_behind, gone_stays, gone_now}
use Rattle.s7_rig.proofs.ComeOffLemmas.{comes_off}
use Rattle.s7_rig.proofs.RightLemmas.{own_allowed}
use Rattle.s7_rig.proofs.ShapeLemmas.{AreAllowed}
use Rattle.s7_rig.specs.Complete.{CanComeOff, AreWithRight, AllComeOff}
use Rattle.s7_rig.proofs.UnrefusedLemmas.{AnyUndone, undone_behind}
use Rattle.s7_session.specs.Telegrams.{AnyFull, clock_failures}
use Rattle.s7_dialogue.specs.Answer.{Answer}
use Rattle.s7_dialogue.specs.Codes.{timed_out}
use Rattle.s7_dialogue.specs.Dialogue.{End, fault_end, departed_end, connected_plan, plan_of}
use Rattle.s7_dialogue.specs.Flight.{answers_of}
use Rattle.s7_rig.proofs.OwnLemmas.{own_replies, own_are_same}
use Rattle.s7_rig.proofs.PlaceLemmas.{stands_at, reads_nothing, all_stand_more}
use Rattle.s7_rig.specs.Plants.{IsPlant}
use Rattle.s7_rig.proofs.ClientFacts.{pipes_quiet, has_job, waits_for_none, some_job, took, wrote, same_moment, given_on, taken_on}
use Rattle.s7_rig.proofs.ListFacts.{none_behind}

-- ---- the first job and the others

connects_first : (j : Job) (rest : List Job) → ConnectsFirst (j ∷ rest) → (j ≡ job.Connect) × NoneConnects rest
connects_first job.Connect rest h = (refl, h)
connects_first _ rest h = absurd h

not_anew : (g : Option Grant) (j : Job) → IsNoConnect j → begins_anew g j ≡ false
not_anew (Some g) j h = refl
not_anew None job.Connect h = absurd h
not_anew None _ h = refl

-- what a job read is that of its result
reads_told : (done done' : Job) (pdu : ℕ) (entries entries' : List (Ask × Said)) (octets octets' codes codes' : List ℕ)
    → done ≡ done' → entries ≡ entries' → octets ≡ octets' → codes ≡ codes' → ReadsAs done pdu entries octets codes
    → ReadsAs done' pdu entries' octets' codes'
reads_told done done' pdu entries entries' octets octets' codes codes' job_is entries_are octets_are codes_are reads =
    subst (λ j. ReadsAs j pdu entries' octets' codes') job_is
    (subst (λ es. ReadsAs done pdu es octets' codes') entries_are
    (subst (λ xs. ReadsAs done pdu entries xs codes') octets_are
    (subst (λ xs. ReadsAs done pdu entries octets xs) codes_are reads)))

-- and a code is one
not_in_time : (code : ℕ) → code ≡ 0 → code ≡ timed_out → ⊥
not_in_time code good late = absurd (omega (arith, good, late))

-- ---- starting

module _ (opening : Memory) (limit : ℕ) (config : Config) (book : BookTold)
    (plants : (n : ℕ) → IsPlant (state_at (begins_with opening) (history_of book) n)) where
  -- the state with which the link began
  abbrev first : LinkState
  first = first_link opening.guard

  -- what the octets have entered is what the history has of the link
  entered_is : (p : Post) (o : Octets) → Joint opening limit config book p o
      → entered first o.used o.verdicts ≡ map answered (own (begins_with opening) p.link (history_of book))
  entered_is p o j = ap entered_of j.asked ∙ j.legal

  -- the client alone is another, with the same octets unread
  joint_started : (p : Post) (rest : List Job) (c : Connection) (o : Octets) → Joint opening limit config book p o
      → client.unread_of c ≡ client.unread_of p.client → client.config_of c ≡ config
      → ModeOf opening config book (record p { rest = rest; client = c; noted = Some [] }) o
      → Joint opening limit config book (record p { rest = rest; client = c; noted = Some [] }) o
  joint_started p rest c o j unread conf mode = record {
    serving = j.serving;
    taken = j.taken;
    given = j.given ∙ ap (λ x. o.heard ++ (x ++ p.pipes.to_client)) (sym unread);
    moment_is = j.moment_is;
    config_is = conf;
    done = j.done;
    comes_off = j.comes_off;
    mode = mode;
  }

  unread_kept : (p : Post) (c : Connection) (j : Job) → client.IsStarted p.client c j → IsNoConnect j → client.unread_of c ≡ client.unread_of p.client
  unread_kept p c j s calm = s.unread ∙ ap (λ b. if b then [] else client.unread_of p.client) (not_anew (client.grant_of p.client) j calm)

  start_mode : (p : Post) (j : Job) (rest : List Job) (c : Connection) (o : Octets) → Joint opening limit config book p o
      → client.job_of p.client ≡ None → p.rest ≡ j ∷ rest → client.IsStarted p.client c j → ModeOf opening config book p o
      → Joint opening limit config book (record p { rest = rest; client = c; noted = Some [] }) o
  start_mode p j rest c o joint idle left s (untouched u) =
      let jobs = connects_first j rest (subst ConnectsFirst left u.jobs) in
      let none : client.unread_of c ≡ [] =
      s.unread ∙ ap (λ x. if begins_anew x j then [] else client.unread_of p.client) u.fresh.granted ∙ ap (λ x. if begins_anew None x then [] else client.unread_of p.client) jobs.0 in
      joint_started p rest c o joint (none ∙ sym u.fresh.unread) (s.config ∙ joint.config_is) (connecting (record {
        origin = client.origin_at p.client j;
        stands = subst (λ x. client.StandsFor c (client.origin_at p.client j) x o.sent) (sym u.none_heard) (subst (λ x. client.StandsFor c (client.origin_at p.client j) [] x) (sym u.none_sent) s.stands);
        job = jobs.0;
        config_is = u.fresh.config;
        granted = u.fresh.granted;
        jobs = jobs.1;
      }))
  start_mode p j rest c o joint idle left s (connecting k) = absurd (has_job p.client k.origin o.heard o.sent k.stands idle)
  start_mode p j rest c o joint idle left s (connected k) =
      let jobs : NoneConnects (j ∷ rest) = subst NoneConnects left k.jobs in
      joint_started p rest c o joint (unread_kept p c j s jobs.0) (s.config ∙ joint.config_is) (working (record {
        begun = record {
          origin = client.origin_at p.client j;
          job = jobs.0;
          grant = k.grant;
          granted = k.granted;
          pdu = k.pdu;
          size = k.size;
          sequence = k.sequence;
          before = o.used;
          judged = o.verdicts;
          settled = k.settled;
          earlier = own_in opening book p.link;
          earlier_are = entered_is p o joint;
        };
        heard = [];
        sent = [];
        stands = s.stands;
        used = [];
        verdicts = [];
        sent_is = sym k.all_used ∙ sym (append-nil o.used);
        heard_is = sym k.all_heard ∙ sym (append-nil _);
        used_is = sym (append-nil o.used);
        verdicts_are = sym (append-nil o.verdicts);
        mine = [];
        entries_are = sym (append-nil _);
        noted = refl;
        jobs = jobs.1;
      }))
  start_mode p j rest c o joint idle left s (working w) = absurd (has_job p.client w.origin w.heard w.sent w.stands idle)
  start_mode p j rest c o joint idle left s (lost l) =
      let jobs : NoneConnects (j ∷ rest) = subst NoneConnects left l.jobs in
      joint_started p rest c o joint (unread_kept p c j s jobs.0) (s.config ∙ joint.config_is) (lost (record {
        ungranted = s.granted ∙ l.ungranted;
        gone = l.gone;
        job = inr (record {
          origin = client.origin_at p.client j;
          heard = [];
          sent = [];
          stands = s.stands;
          job = jobs.0;
          granted = l.ungranted;
        });
        jobs = jobs.1;
      }))

  pub start_step : (p q : Post) (o : Octets) → Joint opening limit config book p o → StartsNext p q ⊎ StartsNothing p q → Joint opening limit config book q o
  start_step p q o joint (inl s) =
      subst (λ x. Joint opening limit config book x o) (sym s.same) (start_mode p s.job s.rest s.client o joint s.idle s.left s.started joint.mode)
  start_step p q o joint (inr s) = subst (λ x. Joint opening limit config book x o) (sym s.same) joint

  -- ---- polling

  -- the octets of a link after a client moved some
  abbrev after : Octets → List ℕ → List ℕ → Octets
  after o used written = record o { sent = o.sent ++ written; heard = o.heard ++ used }

  abbrev polled_post : Post → Connection → PipesHeld → List Job → List JobResult → List (List ℕ) → Option (List ℕ) → Post
  polled_post p c pipes rest results places noted = record p { client = c; pipes = pipes; rest = rest; results = results; places = places; noted = noted }

  joint_polled : (p : Post) (c : Connection) (pipes : PipesHeld) (rest : List Job) (results : List JobResult) (places : List (List ℕ)) (noted : Option (List ℕ)) (loan : GName) (o : Octets)
      → Joint opening limit config book p o
      → (m : Moves (client.unread_of p.client) (end_of loan p.pipes side.Client) (client.unread_of c) (end_of loan pipes side.Client))
      → client.config_of c ≡ client.config_of p.client
      → AllStand (begins_with opening) (history_of book) p.link config.pdu results places
      → ((AnyFull o.verdicts → ⊥) → AllComeOff opening (history_of book) config.pdu results places)
      → ModeOf opening config book (polled_post p c pipes rest results places noted) (after o m.used m.written)
      → Joint opening limit config book (polled_post p c pipes rest results places noted) (after o m.used m.written)
  joint_polled p c pipes rest results places noted loan o j m same done comes_off mode = record {
    serving = j.serving;
    taken = taken_on o.sent o.used (unread p.session) p.pipes.to_server m.written pipes.to_server j.taken (wrote loan p.pipes pipes m.written m.wrote);
    given = given_on o.answered o.heard (client.unread_of p.client) p.pipes.to_client m.received m.used (client.unread_of c) pipes.to_client j.given (took loan p.pipes pipes m.received m.took) m.inbox;
    moment_is = same_moment loan p.pipes pipes m.moment ∙ j.moment_is;
    config_is = same ∙ j.config_is;
    done = done;
    comes_off = comes_off;
    mode = mode;
  }

  abbrev moved : Post → Connection → PipesHeld → Post
  moved p c pipes = record p { client = c; pipes = pipes }

  pending_mode : (p : Post) (c : Connection) (pipes : PipesHeld) (link link' : Shown) (used written : List ℕ) (o : Octets)
      → client.Comes p.client link c link' used written polled.Pending → ModeOf opening config book p o → ModeOf opening config book (moved p c pipes) (after o used written)
  pending_mode p c pipes link link' used written o comes (untouched u) = absurd (waits_for_none p.client c (client.config_of p.client).polls u.fresh.job comes.0.waited)
  pending_mode p c pipes link link' used written o comes (connecting k) = connecting (record {
    origin = k.origin;
    stands = (comes.1 k.origin o.heard o.sent k.stands).stands;
    job = k.job;
    config_is = k.config_is;
    granted = k.granted;
    jobs = k.jobs;
  })
  pending_mode p c pipes link link' used written o comes (connected k) = absurd (waits_for_none p.client c (client.config_of p.client).polls k.idle comes.0.waited)
  pending_mode p c pipes link link' used written o comes (working w) = working (record {
    begun = w.begun;
    heard = w.heard ++ used;
    sent = w.sent ++ written;
    stands = (comes.1 w.origin w.heard w.sent w.stands).stands;
    used = w.used;
    verdicts = w.verdicts;
    sent_is = ap (λ x. x ++ written) w.sent_is ∙ append_assoc w.before w.sent written;
    heard_is = ap (λ x. x ++ used) w.heard_is ∙ append_assoc _ w.heard used;
    used_is = w.used_is;
    verdicts_are = w.verdicts_are;
    mine = w.mine;
    entries_are = w.entries_are;
    noted = w.noted;
    jobs = w.jobs;
  })
  pending_mode p c pipes link link' used written o comes (lost l) = lost (record {
    ungranted = comes.0.granted ∙ l.ungranted;
    gone = l.gone;
    job = still l.job;
    jobs = l.jobs;
  })
    where
      still : (client.job_of p.client ≡ None) ⊎ IsFailing p.client → (client.job_of c ≡ None) ⊎ IsFailing c
      still (inl idle) = absurd (waits_for_none p.client c (client.config_of p.client).polls idle comes.0.waited)
      still (inr f) = inr (record {
        origin = f.origin;
        heard = f.heard ++ used;
        sent = f.sent ++ written;
        stands = (comes.1 f.origin f.heard f.sent f.stands).stands;
        job = f.job;
        granted = f.granted;
      })

  -- a client without a job changes nothing
  same_octets : (o : Octets) (written : List ℕ) → written ≡ [] → o.sent ≡ o.sent ++ written
  same_octets o written none = sym (append-nil o.sent) ∙ ap (λ x. o.sent ++ x) (sym none)

  idle_step : (p : Post) (c : Connection) (pipes : PipesHeld) (loan : GName) (o : Octets) (written : List ℕ) → Joint opening limit config book p o
      → pipes.to_server ≡ p.pipes.to_server ++ written
      → (client.job_of p.client ≡ None) × (c ≡ p.client) × (end_of loan pipes side.Client ≡ end_of loan p.pipes side.Client)
      → (o' : Octets) × (o'.sent ≡ o.sent ++ written) × (o'.answered ≡ o.answered) × Joint opening limit config book (moved p c pipes) o'
  idle_step p c pipes loan o written j wrote_is comes =
      let to_client : p.pipes.to_client ≡ pipes.to_client = ap (λ (k : Shown). unwrap_or k.left []) (sym comes.2) in
      let to_server : p.pipes.to_server ≡ pipes.to_server = ap (λ (k : Shown). unwrap_or k.written []) (sym comes.2) in
      let base : Joint opening limit config book (record p { pipes = pipes }) o = record {
        serving = j.serving;
        taken = j.taken ∙ ap (λ x. o.used ++ (unread p.session ++ x)) to_server;
        given = j.given ∙ ap (λ x. o.heard ++ (client.unread_of p.client ++ x)) to_client;
        moment_is = ap (λ (k : Shown). unwrap_or k.moment 0) comes.2 ∙ j.moment_is;
        config_is = j.config_is;
        done = j.done;
        comes_off = j.comes_off;
        mode = j.mode;
      } in (
        o,
        same_octets o written (none_behind p.pipes.to_server written (to_server ∙ wrote_is)),
        refl,
        subst (λ x. Joint opening limit config book (moved p x pipes) o) (sym comes.1) base,
      )

  -- ---- a job that is done

  pub record Ends (p : Post) (c : Connection) (pipes : PipesHeld) (told : JobResult) (o' : Octets) : Type 0 where
    pub stands : StandsAtPlaces (begins_with opening) (history_of book) p.link config.pdu told (unwrap_or p.noted [])
    pub comes_off : (AnyFull o'.verdicts → ⊥) → AllComeOff opening (history_of book) config.pdu p.results p.places
        → AllComeOff opening (history_of book) config.pdu (p.results ++ told ∷ [])
        (p.places ++ unwrap_or p.noted [] ∷ [])
    pub mode : ModeOf opening config book (polled_post p c pipes (left_behind p.halts told p.rest) (p.results ++ told ∷ []) (p.places ++ unwrap_or p.noted [] ∷ []) None) o'

  -- the session owes what the client used, and more that is on its way
  owes : (p : Post) (c : Connection) (pipes : PipesHeld) (o : Octets) (heard : List ℕ) → Joint opening limit config book p o
      → o.answered ≡ heard ++ (client.unread_of c ++ pipes.to_client)
      → owed first o.used o.verdicts ≡ heard ++ ((client.unread_of c ++ pipes.to_client) ++ unsent p.session)
  owes p c pipes o heard j given =
      j.stands.owed ∙ ap (λ x. x ++ unsent p.session) given ∙ append_assoc heard (client.unread_of c ++ pipes.to_client) (unsent p.session)

  connect_done : 64 ≤ config.pdu → config.pdu ≤ most_pdu → (p : Post) (c : Connection) (pipes : PipesHeld) (link link' : Shown) (used written : List ℕ) (o : Octets) (told : JobResult)
      → Joint opening limit config book p o
      → o.sent ++ written ≡ o.used ++ (unread p.session ++ pipes.to_server)
      → o.answered ≡ (o.heard ++ used) ++ (client.unread_of c ++ pipes.to_client)
      → client.job_of c ≡ None → (k : IsConnecting config p.client p.rest o.sent o.heard) → IsQuiet link link'
      → client.IsDone k.origin link link' p.client c told (o.heard ++ used) (o.sent ++ written)
      → Ends p c pipes told (after o used written)
  connect_done least most p c pipes link link' used written o told j taken given idle k quiet d =
      by (connect_ends k.origin link link' (client.unread_of c) d.end d.carried (o.heard ++ used) (o.sent ++ written) (client.waited_of p.client) k.granted k.job quiet d.cause)
    where
      nothing : StandsAtPlaces (begins_with opening) (history_of book) p.link config.pdu told (unwrap_or p.noted [])
      nothing = λ good.
          reads_nothing (begins_with opening) (history_of book) p.link config.pdu told.job (unwrap_or p.noted [])
          told.octets (take told.count told.codes) (inl (d.result.job ∙ k.job))

      ungranted : client.grant_of p.client ≡ None
      ungranted = sym k.stands.granted ∙ k.granted

      by : IsByOctets k.origin d.end d.carried (o.heard ++ used) (o.sent ++ written) ⊎ (d.end ≡ fault_end timed_out) → Ends p c pipes told (after o used written)
      by (inr late) =
          let code : told.code ≡ timed_out = d.result.code ∙ ap (λ (e : End). e.code) late in
          record {
            stands = nothing;
            comes_off = λ none all. come_off_more opening (history_of book) config.pdu p.results p.places told
                (unwrap_or p.noted []) all (λ in_time right has can. absurd (in_time code));
            mode = lost (record {
              ungranted = d.granted ∙ ap (λ (e : End). client.grant_after e.leaves (client.grant_of p.client)) late;
              gone = gone_now p.results told (inl code);
              job = inl idle;
              jobs = left_keeps p.halts told p.rest k.jobs;
            });
          }
      by (inl octets) =
          let behind = (client.unread_of c ++ pipes.to_client) ++ unsent p.session in
          let over : IsConnectOver opening.guard k.origin (o.heard ++ used) (o.sent ++ written) d.end d.carried o.used o.verdicts behind = record {
            unconnected = k.granted;
            connects = k.job;
            least = subst (λ (x : Config). 64 ≤ x.pdu) (sym k.config_is) least;
            most = subst (λ (x : Config). x.pdu ≤ most_pdu) (sym k.config_is) most;
            over = octets;
            unused = unread p.session ++ pipes.to_server;
            taken = taken;
            met = j.stands.met;
            owed_is = owes p c pipes o (o.heard ++ used) j given;
          } in
          let s = connect_is_settled opening.guard k.origin (o.heard ++ used) (o.sent ++ written) d.end d.carried o.used o.verdicts behind over in
          let pdu : s.grant.pdu ≡ config.pdu = s.granted ∙ ap (λ (x : Config). x.pdu) k.config_is in
          record {
            stands = nothing;
            comes_off = λ none all. come_off_more opening (history_of book) config.pdu p.results p.places told
                (unwrap_or p.noted []) all (λ in_time right has can. d.result.code ∙ ap (λ (e : End). e.code) s.is);
            mode = connected (record {
              idle = idle;
              grant = s.grant;
              granted = d.granted ∙ ap (λ (e : End). client.grant_after e.leaves (client.grant_of p.client)) s.is;
              pdu = pdu;
              size = d.size ∙ s.size;
              sequence = subst (λ n. n < 65536) (sym d.sequence) s.sequence;
              settled = subst (λ x. Settled first x o.verdicts (Some config.pdu)) (sym s.all_used) (subst (λ n. Settled first (o.sent ++ written) o.verdicts (Some n)) pdu s.settled);
              all_used = s.all_used;
              all_heard = ap (λ x. owed first x o.verdicts) s.all_used ∙ s.owed_is;
              jobs = left_keeps p.halts told p.rest k.jobs;
            });
          }

  module _ (least : 64 ≤ config.pdu) (most : config.pdu ≤ most_pdu) (p : Post) (c : Connection) (pipes : PipesHeld) (link : Shown) (link' : Shown) (used : List ℕ) (written : List ℕ) (o : Octets) (told : JobResult)
      (j : Joint opening limit config book p o)
      (taken : o.sent ++ written ≡ o.used ++ (unread p.session ++ pipes.to_server))
      (given : o.answered ≡ (o.heard ++ used) ++ (client.unread_of c ++ pipes.to_client))
      (idle : client.job_of c ≡ None) (w : IsWorking first config (own_in opening book p.link) p.client p.rest p.noted o) (quiet : IsQuiet link link')
      (d : client.IsDone w.origin link link' p.client c told (w.heard ++ used) (w.sent ++ written)) where
    abbrev heard : List ℕ
    heard = w.heard ++ used

    abbrev sent : List ℕ
    sent = w.sent ++ written

    abbrev waits : List ℕ
    waits = unread p.session ++ pipes.to_server

    abbrev behind : List ℕ
    behind = (client.unread_of c ++ pipes.to_client) ++ unsent p.session

    granted : client.grant_of p.client ≡ Some w.grant
    granted = sym w.stands.granted ∙ w.granted

    sent_all : o.sent ++ written ≡ w.before ++ sent
    sent_all = ap (λ x. x ++ written) w.sent_is ∙ append_assoc w.before w.sent written

    heard_all : o.heard ++ used ≡ owed first w.before w.judged ++ heard
    heard_all = ap (λ x. x ++ used) w.heard_is ∙ append_assoc (owed first w.before w.judged) w.heard used

    -- a fact about the session's octets, in the two parts that they have
    parted : (P : List ℕ → List Verdict → Type 0) → P o.used o.verdicts → P (w.before ++ w.used) (w.judged ++ w.verdicts)
    parted P h = subst (λ x. P x (w.judged ++ w.verdicts)) w.used_is (subst (λ y. P o.used y) w.verdicts_are h)

    abbrev over : IsByOctets w.origin d.end d.carried heard sent → IsJobOver first w.origin config.pdu heard sent d.end d.carried w.before w.used w.judged w.verdicts behind
    over octets = record {
      grant = w.grant;
      granted = w.granted;
      pdu_is = w.pdu;
      least = least;
      most = most;
      size = w.size;
      sequence = w.sequence;
      over = octets;
      settled = w.settled;
      unused = waits;
      taken = append_cancel_left w.before sent (w.used ++ waits) (sym sent_all ∙ taken ∙ ap (λ x. x ++ waits) w.used_is ∙ append_assoc w.before w.used waits);
      met = parted (λ x y. (past first x y).verdicts ≡ []) j.stands.met;
      replies = parted (λ x y. AreReplies (entered first x y)) (subst AreReplies (sym (entered_is p o j)) (own_replies (begins_with opening) p.link (history_of book) plants));
      owed_is = parted (λ x y. owed first x y ≡ (owed first w.before w.judged ++ heard) ++ behind) (owes p c pipes o (o.heard ++ used) j given ∙ ap (λ x. x ++ behind) heard_all);
    }

    -- the client isn't connected after it
    lost_by : (leaves : Leaves) → d.end.leaves ≡ leaves → client.grant_after leaves (Some w.grant) ≡ None → IsGone told
        → ModeOf opening config book (polled_post p c pipes (left_behind p.halts told p.rest) (p.results ++ told ∷ []) (p.places ++ unwrap_or p.noted [] ∷ []) None) (after o used written)
    lost_by leaves is none gone = lost (record {
      ungranted = d.granted ∙ ap (client.grant_after d.end.leaves) granted ∙ ap (λ l. client.grant_after l (Some w.grant)) is ∙ none;
      gone = gone_now p.results told gone;
      job = inl idle;
      jobs = left_keeps p.halts told p.rest w.jobs;
    })

    -- it came off, or met too many polls
    come_off : ComesOff opening (history_of book) config.pdu told (unwrap_or p.noted [])
        → (AnyFull o.verdicts → ⊥) → AllComeOff opening (history_of book) config.pdu p.results p.places
        → AllComeOff opening (history_of book) config.pdu (p.results ++ told ∷ [])
        (p.places ++ unwrap_or p.noted [] ∷ [])
    come_off well none all =
        come_off_more opening (history_of book) config.pdu p.results p.places told (unwrap_or p.noted []) all well

    job_left : d.end ≡ departed_end → w.origin.job ≡ job.Disconnect → Ends p c pipes told (after o used written)
    job_left is leaves = record {
      stands = λ good.
          reads_nothing (begins_with opening) (history_of book) p.link config.pdu told.job (unwrap_or p.noted [])
          told.octets (take told.count told.codes) (inr (d.result.job ∙ leaves));
      comes_off = come_off (λ in_time right has can. d.result.code ∙ ap (λ (e : End). e.code) is);
      mode = lost_by Disconnected (ap (λ (e : End). e.leaves) is) refl (inr (d.result.job ∙ leaves));
    }

    job_late : d.end ≡ fault_end timed_out → Ends p c pipes told (after o used written)
    job_late is =
        let code : told.code ≡ timed_out = d.result.code ∙ ap (λ (e : End). e.code) is in
        record {
          stands = λ good. absurd (not_in_time told.code good code);
          comes_off = come_off (λ in_time right has can. absurd (in_time code));
          mode = lost_by Closed (ap (λ (e : End). e.leaves) is) refl (inl code);
        }

    module _ (octets : IsByOctets w.origin d.end d.carried heard sent) where
      settles : IsJobSettled first w.origin config.pdu heard sent d.end w.before w.used w.judged w.verdicts behind
      settles = job_is_settled first w.origin config.pdu heard sent d.end d.carried w.before w.used w.judged w.verdicts behind (over octets)

      went : WentBy first w.origin config.pdu d.end w.before sent w.judged w.verdicts
      went = job_went first w.origin config.pdu heard sent d.end d.carried w.before w.used w.judged w.verdicts behind (over octets)

      converses : Converses config.pdu (connected_plan w.origin.job w.grant).conduct d.end went.exchanges
      converses =
          subst (λ g. Converses config.pdu (plan_of w.origin.job w.origin.config g).conduct d.end went.exchanges) w.granted went.converses

      used_all : o.used ≡ w.before ++ sent
      used_all = w.used_is ∙ ap (λ x. w.before ++ x) settles.all_used

      -- what was entered since is the job's own
      entered_mine : entered first (w.before ++ sent) (w.judged ++ w.verdicts) ≡ entered first w.before w.judged ++ map answered w.mine
      entered_mine =
          ap (λ y. entered first (w.before ++ sent) y) (sym w.verdicts_are)
          ∙ ap (λ x. entered first x o.verdicts) (sym used_all)
          ∙ entered_is p o j
          ∙ ap (map answered) w.entries_are
          ∙ map-append answered w.earlier w.mine
          ∙ ap (λ x. x ++ map answered w.mine) (sym w.earlier_are)

      -- the numbers that were noted are those of the job's entries
      allowed : (right : Bool) → (right ≡ true → AreWithRight (history_of book) (unwrap_or p.noted []))
          → AreAllowed opening right (entries_of went.exchanges)
      allowed right has =
          subst (AreAllowed opening right)
          (append_cancel_left (entered first w.before w.judged) (map answered w.mine) (entries_of went.exchanges) (sym entered_mine ∙ went.entered_is))
          (own_allowed (begins_with opening) p.link (history_of book) right w.earlier w.mine w.entries_are
          (subst (λ ns. right ≡ true → AreWithRight (history_of book) ns) (ap (λ n. unwrap_or n []) w.noted) has))

      -- no telegram met a full history, or a clock that failed
      all_done : (AnyFull o.verdicts → ⊥) → AnyUndone (w.judged ++ w.verdicts) → ⊥
      all_done none (inl any) = none (subst AnyFull (sym w.verdicts_are) any)
      all_done none (inr failed) = absurd (omega (arith, failed, j.clock, ap clock_failures w.verdicts_are))

      -- so none of the job's own did
      own_done : (AnyFull o.verdicts → ⊥) → AnyUndone (verdicts_met went.exchanges) → ⊥
      own_done none any =
          all_done none (undone_behind w.judged w.verdicts (subst AnyUndone went.verdicts_are any))

      well_done : (AnyFull o.verdicts → ⊥) → ComesOff opening (history_of book) config.pdu told (unwrap_or p.noted [])
      well_done none in_time right has can =
          d.result.code
          ∙ comes_off opening right config.pdu w.origin.job w.grant d.end went.exchanges w.job
          (subst (λ n. 64 ≤ n) (sym w.pdu) least) least (allowed right has, own_done none) converses
          (subst (λ n. CanComeOff opening right n w.origin.job) (sym w.pdu)
          (subst (CanComeOff opening right config.pdu) d.result.job can))

      stays_connected : d.end.leaves ≡ AsItWas → Ends p c pipes told (after o used written)
      stays_connected stays =
          let s = settles in
          record {
            stands = stands_at (begins_with opening) (history_of book) p.link config.pdu told w.earlier w.mine (unwrap_or p.noted []) w.entries_are (ap (λ n. unwrap_or n []) (sym w.noted))
                (λ good.
                let read = s.read (sym d.result.code ∙ good) in
                let same =
                own_are_same (entered first (w.before ++ sent) (w.judged ++ w.verdicts)) (entered first w.before w.judged)
                read.0 w.mine entered_mine read.1 in
                reads_told w.origin.job told.job config.pdu read.0 (map answered w.mine) d.end.octets told.octets
                d.end.codes (take told.count told.codes) (sym d.result.job) same (sym d.result.octets)
                (sym d.result.codes) read.2);
            comes_off = λ none all. come_off (well_done none) none all;
            mode = connected (record {
              idle = idle;
              grant = w.grant;
              granted = d.granted ∙ ap (λ l. client.grant_after l (client.grant_of p.client)) stays ∙ granted;
              pdu = w.pdu;
              size = d.size ∙ s.size;
              sequence = subst (λ n. n < 65536) (sym d.sequence) s.sequence;
              settled = subst (λ x. Settled first x o.verdicts (Some config.pdu)) (sym used_all) (subst (λ y. Settled first (w.before ++ sent) y (Some config.pdu)) (sym w.verdicts_are) s.settled);
              all_used = used_all ∙ sym sent_all;
              all_heard = ap (λ x. owed first x o.verdicts) used_all ∙ ap (λ y. owed first (w.before ++ sent) y) w.verdicts_are ∙ s.owed_is ∙ sym heard_all;
              jobs = left_keeps p.halts told p.rest w.jobs;
            });
          }

      job_over : (answers : List (Option Answer)) → d.end ≡ (connected_plan w.origin.job w.grant).conduct.ended answers
          → (((connected_plan w.origin.job w.grant).conduct.ended answers).leaves ≡ AsItWas) ⊎ (w.origin.job ≡ job.Disconnect) → Ends p c pipes told (after o used written)
      job_over answers is (inl stays) = stays_connected (ap (λ (e : End). e.leaves) is ∙ stays)
      job_over answers is (inr leaves) = job_left (is ∙ ap (λ x. (connected_plan x w.grant).conduct.ended answers) leaves) leaves

    job_ends : IsByOctets w.origin d.end d.carried heard sent ⊎ ((d.end ≡ departed_end) × (w.origin.job ≡ job.Disconnect)) ⊎ (d.end ≡ fault_end timed_out) → Ends p c pipes told (after o used written)
    job_ends (inl octets) =
        let answers = answers_of (rows_of (went octets).exchanges) in
        job_over octets answers (converses octets).is (stays_or_leaves w.origin.job w.grant answers)
    job_ends (inr (inl left)) = job_left left.0 left.1
    job_ends (inr (inr late)) = job_late late

    job_done : Ends p c pipes told (after o used written)
    job_done = job_ends (working_ends w.origin link link' (client.unread_of c) d.end d.carried heard sent (client.waited_of p.client) w.grant w.granted quiet d.cause)

  failed_done : (p : Post) (c : Connection) (pipes : PipesHeld) (link link' : Shown) (used written : List ℕ) (o : Octets) (told : JobResult)
      → client.job_of c ≡ None → (l : IsLost p.client p.rest p.results) (f : IsFailing p.client)
      → client.IsDone f.origin link link' p.client c told (f.heard ++ used) (f.sent ++ written)
      → Ends p c pipes told (after o used written)
  failed_done p c pipes link link' used written o told idle l f d = record {
    stands = λ good. absurd (unconnected_fails f.origin link link' (client.unread_of c) d.end d.carried (f.heard ++ used) (f.sent ++ written) (client.waited_of p.client) f.granted f.job d.cause
        (sym d.result.code ∙ good));
    comes_off = λ none all. come_off_behind opening (history_of book) config.pdu p.results p.places told
        (unwrap_or p.noted []) all l.gone;
    mode = lost (record {
      gone = gone_stays p.results told l.gone;
      ungranted = d.granted ∙ ap (client.grant_after d.end.leaves) l.ungranted
          ∙ no_connect_leaves f.origin link link' (client.unread_of c) d.end d.carried (f.heard ++ used) (f.sent ++ written) (client.waited_of p.client) d.cause f.job;
      job = inl idle;
      jobs = left_keeps p.halts told p.rest l.jobs;
    });
  }

  done_by : 64 ≤ config.pdu → config.pdu ≤ most_pdu → (p : Post) (c : Connection) (pipes : PipesHeld) (link link' : Shown) (used written : List ℕ) (o : Octets) (told : JobResult)
      → Joint opening limit config book p o
      → o.sent ++ written ≡ o.used ++ (unread p.session ++ pipes.to_server)
      → o.answered ≡ (o.heard ++ used) ++ (client.unread_of c ++ pipes.to_client)
      → IsQuiet link link' → client.Comes p.client link c link' used written (polled.Done told)
      → ModeOf opening config book p o
      → Ends p c pipes told (after o used written)
  done_by least most p c pipes link link' used written o told j taken given quiet comes (untouched u) = absurd (some_job (client.job_of p.client) comes.0 u.fresh.job)
  done_by least most p c pipes link link' used written o told j taken given quiet comes (connecting k) =
      connect_done least most p c pipes link link' used written o told j taken given comes.1 k quiet (comes.2 k.origin o.heard o.sent k.stands)
  done_by least most p c pipes link link' used written o told j taken given quiet comes (connected k) = absurd (some_job (client.job_of p.client) comes.0 k.idle)
  done_by least most p c pipes link link' used written o told j taken given quiet comes (working w) =
      job_done least most p c pipes link link' used written o told j taken given comes.1 w quiet (comes.2 w.origin w.heard w.sent w.stands)
  done_by least most p c pipes link link' used written o told j taken given quiet comes (lost l) = by l.job
    where
      by : (client.job_of p.client ≡ None) ⊎ IsFailing p.client → Ends p c pipes told (after o used written)
      by (inl idle) = absurd (some_job (client.job_of p.client) comes.0 idle)
      by (inr f) = failed_done p c pipes link link' used written o told comes.1 l f (comes.2 f.origin f.heard f.sent f.stands)

  -- ---- a poll

  poll_by : 64 ≤ config.pdu → config.pdu ≤ most_pdu → (p : Post) (c : Connection) (pipes : PipesHeld) (loan : GName) (o : Octets)
      → Joint opening limit config book p o
      → (m : Moves (client.unread_of p.client) (end_of loan p.pipes side.Client) (client.unread_of c) (end_of loan pipes side.Client))
      → client.config_of c ≡ client.config_of p.client
      → (result : Polled) → client.Comes p.client (end_of loan p.pipes side.Client) c (end_of loan pipes side.Client) m.used m.written result
      → (o' : Octets) × (o'.sent ≡ o.sent ++ m.written) × (o'.answered ≡ o.answered) × Joint opening limit config book (with_polled result (moved p c pipes)) o'
  poll_by least most p c pipes loan o j m same polled.Idle comes =
      idle_step p c pipes loan o m.written j (wrote loan p.pipes pipes m.written m.wrote) comes
  poll_by least most p c pipes loan o j m same polled.Pending comes = (
    after o m.used m.written,
    refl,
    refl,
    joint_polled p c pipes p.rest p.results p.places p.noted loan o j m same j.done j.comes_off
        (pending_mode p c pipes (end_of loan p.pipes side.Client) (end_of loan pipes side.Client) m.used m.written o comes j.mode),
  )
  poll_by least most p c pipes loan o j m same (polled.Done told) comes =
      let ends = done_by least most p c pipes (end_of loan p.pipes side.Client) (end_of loan pipes side.Client) m.used m.written o told j
      (taken_on o.sent o.used (unread p.session) p.pipes.to_server m.written pipes.to_server j.taken (wrote loan p.pipes pipes m.written m.wrote))
      (given_on o.answered o.heard (client.unread_of p.client) p.pipes.to_client m.received m.used (client.unread_of c) pipes.to_client j.given (took loan p.pipes pipes m.received m.took) m.inbox)
      (pipes_quiet loan p.pipes pipes) comes j.mode in (
        after o m.used m.written,
        refl,
        refl,
        joint_polled p c pipes (left_behind p.halts told p.rest) (p.results ++ told ∷ []) (p.places ++ unwrap_or p.noted [] ∷ []) None loan o j m same
            (all_stand_more (begins_with opening) (history_of book) p.link config.pdu p.results p.places told (unwrap_or p.noted []) j.done ends.stands)
            (λ none. ends.comes_off none (j.comes_off none))
            ends.mode,
      )

  -- A client's turn keeps what holds, and what it transmitted stands behind what it had.
  pub client_step : 64 ≤ config.pdu → config.pdu ≤ most_pdu → (p q : Post) (stirs : _) (o : Octets) → Joint opening limit config book p o → (turn : IsClientTurn p q stirs)
      → (o' : Octets) × (o'.sent ≡ o.sent ++ turn.polls.poll.poll.moves.written) × (o'.answered ≡ o.answered) × Joint opening limit config book q o'
  client_step least most p q stirs o j turn =
      let r = turn.ready in
      let t = turn.polls in
      let polled = poll_by least most r t.client t.pipes t.poll.loan o (start_step p r o j turn.starts) t.poll.poll.moves t.poll.poll.config t.result t.poll.poll.comes in
      (polled.0, polled.1, polled.2, subst (λ x. Joint opening limit config book x polled.0) (sym t.same) polled.3)
