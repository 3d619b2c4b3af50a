-- What a whole rig comes to, by what it began with and its run.
use Rattle.std.proofs.Common.{◌≡◌, ℕ, zero, suc, ◌+◌, ◌<◌, ◌≤◌, List, [], ◌∷◌, ◌++◌, length, refl, ap, sym, ◌∙◌, subst, arith}
use Rattle.std.specs.Prelude.{Option, None, Some, Result, Ok, Err, IfOk, unwrap_or, slice_get, map}
use Rattle.std.specs.List.{AllByRecursion}
use Rattle.s7_memory.specs.PipesHeld.{PipesHeld}
use Rattle.s7_area.specs.Memory.{Memory}
use Rattle.s7_area.specs.Registers.{IsMemory}
use Rattle.s7_area.specs.declared.guard.Guard.{Guard}
use Rattle.s7_header.specs.Negotiation.{most_pdu}
use Rattle.s7_dialogue.specs.declared.config.Config.{Config}
use Rattle.s7_client.specs.Polling as client
use Rattle.s7_plant.specs.Books.{BookTold}
use Rattle.s7_plant.specs.Journals.{Entries, AreReady, entries_of, calls_of, after_call}
use Rattle.s7_plant.specs.State.{begins_with, state_of}
use Rattle.s7_turn.specs.Histories.{replay}
use Rattle.s7_session.specs.Books.{history_of, own}
use Rattle.s7_session.specs.Entry.{answered}
use Rattle.s7_session.specs.Legal.{IsLegalBook}
use Rattle.s7_session.specs.LinkState.{first_link}
use Rattle.s7_session.specs.Owed.{Past, past, owed, telegrams}
use Rattle.s7_session.specs.Stands.{unread, unsent}
use Rattle.s7_session.specs.Telegrams.{verdicts_of, AnyFull, MemoryIsLast, AllAt, clock_failures, last_number}
use Rattle.s7_session.proofs.BookLemmas.{replay-calls}
use Rattle.s7_session.proofs.DoerLemmas.{full_end, full_stays, are_caused}
use Rattle.s7_session.proofs.PastLemmas.{past_nothing, memory_is_last}
use Rattle.s7_session.proofs.SumLemmas.{all_different, all_served, counts_add_up}
use Rattle.s7_rig.specs.State.{Post, State}
use Rattle.s7_rig.specs.Runs.{AreFresh, IsFreshPost, IsRun, moment}
use Rattle.s7_rig.specs.Legal.{IsLegalPost, links_of}
use Rattle.s7_rig.specs.Rigs.{Turning, RigRan}
use Rattle.s7_rig.specs.Scripts.{BeginsWell, ConnectsFirst, Script}
use Rattle.s7_rig.specs.Shown.{EndTold, state_told, post_told, ClientTold}
use Rattle.s7_rig.specs.Split.{AllStand}
use Rattle.s7_rig.specs.Complete.{AllComeOff}
use Rattle.s7_rig.specs.Turns.{is_full_in, lacks_in, did_in, keeps_in}
use Rattle.s7_rig.proofs.Joint.{Octets, untouched, Joint}
use Rattle.s7_rig.proofs.ResultLemmas.{none_come_off}
use Rattle.s7_rig.proofs.SoundLemmas.{IsSound, AreRemembered, past_remembers}
use Rattle.s7_rig.proofs.OwnLemmas.{AllLinks, no_links}
use Rattle.s7_rig.proofs.PlaceLemmas.{none_stand}
use Rattle.s7_rig.proofs.RunSteps.{Holds, HasJoint, run_holds}
use Rattle.s7_rig.proofs.SumLemmas.{posts_numbered, posts_counted, calls_within}

-- ---- the start

-- a client at a place is fresh, with its list of jobs
record FreshAt (guard : Option Guard) (config : Config) (link : ℕ) (p : Post) : Type 0 where
  jobs : Script
  fresh : IsFreshPost guard config link jobs p
  connects : BeginsWell jobs

fresh_at : (guard : Option Guard) (config : Config) (link : ℕ) (scripts : List Script) (posts : List Post) (k : ℕ) (p : Post)
    → AreFresh guard config link scripts posts → AllByRecursion BeginsWell scripts → slice_get posts k ≡ Some p → FreshAt guard config (link + k) p
unfolding AreFresh
fresh_at guard config link [] [] k p fresh first at = absurd (cc)
fresh_at guard config link [] (q ∷ posts) k p fresh first at = absurd fresh
fresh_at guard config link (jobs ∷ scripts) [] k p fresh first at = absurd fresh
fresh_at guard config link (jobs ∷ scripts) (q ∷ posts) zero p fresh first at =
    let same : q ≡ p = ap (λ o. unwrap_or o q) at in
    record {
      jobs = jobs;
      fresh = subst (λ n. IsFreshPost guard config n jobs p) (plus_zero link) (subst (IsFreshPost guard config link jobs) same fresh.0);
      connects = first.0;
    }
  where
    plus_zero : (n : ℕ) → n ≡ n + 0
    plus_zero n = omega arith
fresh_at guard config link (jobs ∷ scripts) (q ∷ posts) (suc k) p fresh first at =
    subst (λ n. FreshAt guard config n p) (plus_one link k) (fresh_at guard config (link + 1) scripts posts k p fresh.1 first.1 at)
  where
    plus_one : (n k : ℕ) → (n + 1) + k ≡ n + suc k
    plus_one n k = omega arith

joint_fresh : (opening : Memory) (limit : ℕ) (config : Config) (book : BookTold) (p : Post) (link : ℕ) → FreshAt opening.guard config link p
    → state_of book.opening ≡ begins_with opening → book.journal ≡ entries_of [] limit → HasJoint opening limit config book p [] []
joint_fresh opening limit config book p link f opened journal =
    let s = begins_with opening in
    let history = history_of book in
    let empty : history ≡ [] = ap (λ j. calls_of j.entries) journal in
    let none : own s p.link history ≡ [] = ap (own s p.link) empty in
    let to_server : p.pipes.to_server ≡ [] = ap (λ (x : PipesHeld). x.to_server) f.fresh.pipes in
    let to_client : p.pipes.to_client ≡ [] = ap (λ (x : PipesHeld). x.to_client) f.fresh.pipes in
    record {
      octets = record { sent = []; used = []; verdicts = []; mets = []; answered = []; heard = [] };
      sent_are = refl;
      answered_are = refl;
      joint = record {
        serving = record {
          opened = opened;
          limited = ap (λ j. j.limit) journal;
          stands = f.fresh.session.stands;
          asked = ap (λ (x : Past). x.mets) (past_nothing (first_link opening.guard) []);
          met = refl;
          legal = ap (map answered) (sym none);
          begun = book;
          trail = λ ask full. full;
          sound = subst (λ (x : Past). IsSound x.standing) (sym (past_nothing (first_link opening.guard) [])) tt;
          clock = refl;
          moments = subst (λ es. AllAt (Some moment) es) (sym none) tt;
          count = f.fresh.session.count ∙ ap length (sym none);
          last = f.fresh.session.newest ∙ ap (last_number None) (sym none);
        };
        taken = ap (λ x. x ++ []) (sym f.fresh.session.unread) ∙ ap (λ x. unread p.session ++ x) (sym to_server);
        given = ap (λ x. x ++ []) (sym f.fresh.client.unread) ∙ ap (λ x. client.unread_of p.client ++ x) (sym to_client);
        moment_is = ap (λ (x : PipesHeld). x.moment) f.fresh.pipes;
        config_is = f.fresh.client.config;
        done = subst (λ rs. AllStand s history p.link config.pdu rs p.places) (sym f.fresh.results)
            (subst (λ ps. AllStand s history p.link config.pdu [] ps) (sym f.fresh.places) (none_stand s history p.link config.pdu));
        comes_off = λ none. subst (λ rs. AllComeOff opening history config.pdu rs p.places) (sym f.fresh.results)
            (subst (λ ps. AllComeOff opening history config.pdu [] ps) (sym f.fresh.places)
            (none_come_off opening history config.pdu));
        mode = untouched (record {
          fresh = f.fresh.client;
          jobs = subst ConnectsFirst (sym f.fresh.rest) f.connects;
          none_sent = refl;
          none_heard = refl;
        });
      };
    }

-- ---- the end

module _ (opening : Memory) (limit : ℕ) (config : Config) where
  legal_by : (book : BookTold) (p : Post) (sent answered : List ℕ) → HasJoint opening limit config book p sent answered → IsLegalPost opening limit config.pdu (history_of book) p sent answered
  legal_by book p sent answered h =
      let j = h.joint in
      let o = h.octets in
      let first = first_link opening.guard in
      let asks : telegrams first o.used (verdicts_of o.mets) ≡ o.mets = ap (telegrams first o.used) j.met ∙ j.asked in
      record {
        used = o.used;
        waiting = sym h.sent_are ∙ j.taken;
        heard = o.heard;
        coming = sym h.answered_are ∙ j.given;
        mets = o.mets;
        asked = asks;
        judged = λ is. subst IsSound is (subst (λ vs. IsSound (past first o.used vs).standing) (sym j.met) j.sound);
        owed_is = ap (owed first o.used) j.met ∙ (j.stands.owed ∙ ap (λ x. x ++ unsent p.session) h.answered_are);
        legal = record {
          called = record {
            calls = sym j.legal;
            full = λ any. (full_end is_full_in lacks_in did_in keeps_in j.begun book o.mets j.trail any).1 ∙ j.limited;
            full_stays = full_stays is_full_in lacks_in did_in keeps_in j.begun book o.mets (λ b ask other full. full) j.trail;
            moments = j.moments;
          };
          counted = record {
            memory = subst (λ ms. MemoryIsLast (verdicts_of ms)) asks (memory_is_last first o.used (verdicts_of o.mets));
            causes = are_caused is_full_in lacks_in did_in keeps_in j.begun book o.mets (λ b a h. h) j.trail;
            count = j.count;
            last = j.last;
          };
        };
        lives = λ still. ap (λ vs. (past first o.used vs).standing) j.met ∙ j.stands.lives still;
        clock = ap clock_failures j.met ∙ j.clock;
        remembers = subst (λ ms. AreRemembered (verdicts_of ms)) j.asked
            (past_remembers first o.used o.verdicts j.sound);
        complete = λ none. j.comes_off (λ any. none (subst AnyFull (sym j.met) any));
      }

  -- where the history has room, it was full for no telegram
  never_full : (book : BookTold) (p : Post) (o : Octets) → Joint opening limit config book p o
      → length (history_of book) < limit → AnyFull o.verdicts → ⊥
  never_full book p o j room any =
      let full = (full_end is_full_in lacks_in did_in keeps_in j.begun book o.mets j.trail (subst AnyFull (sym j.met) any)).1 in
      absurd (omega (arith, room, full, j.limited))

  -- what holds of each place holds of all that is told
  all_told : (book : BookTold) (posts : List Post)
      → ((k : ℕ) (p : Post) → slice_get posts k ≡ Some p → AllStand (begins_with opening) (history_of book) p.link config.pdu p.results p.places)
      → AllByRecursion (λ (c : ClientTold). AllStand (begins_with opening) (history_of book) c.link config.pdu c.results c.places) (map post_told posts)
  all_told book [] each = tt
  all_told book (p ∷ posts) each = (each 0 p refl, all_told book posts (λ k q at. each (suc k) q at))

  all_come : (book : BookTold) (posts : List Post)
      → ((k : ℕ) (p : Post) → slice_get posts k ≡ Some p
      → AllComeOff opening (history_of book) config.pdu p.results p.places)
      → AllByRecursion (λ (c : ClientTold). AllComeOff opening (history_of book) config.pdu c.results c.places)
      (map post_told posts)
  all_come book [] each = tt
  all_come book (p ∷ posts) each = (each 0 p refl, all_come book posts (λ k q at. each (suc k) q at))

  legal_book : (last : State) (sent answered : ℕ → List ℕ) → Holds opening limit config last sent answered → IsLegalBook (begins_with opening) limit (links_of last.posts) last.book
  legal_book last sent answered holds =
      let history = history_of last.book in
      let links = links_of last.posts in
      let numbered = posts_numbered 1 last.posts (λ k p at. omega (arith, holds.links k p at)) in
      let within = calls_within last.posts history holds.calls in
      let counted = posts_counted (begins_with opening) history last.posts (λ k p at. (holds.each k p at).joint.count) in
      record {
        opened = holds.opened;
        limited = holds.limited;
        only = all_served 1 links history numbered within;
        different = all_different 1 links numbered;
        sum = counts_add_up (begins_with opening) 1 links history numbered within counted;
        left = last.book.replayed
            ∙ sym (replay-calls (state_of last.book.opening) last.book.journal.entries)
            ∙ ap (λ s. replay after_call s history) holds.opened;
      }

  pub rig_ran : IsMemory opening → 64 ≤ config.pdu → config.pdu ≤ most_pdu → (scripts : List Script) (turning : Turning) (end : EndTold) (start last : State)
      → AllByRecursion BeginsWell scripts
      → state_of start.book.opening ≡ begins_with opening → state_of start.book.plant ≡ begins_with opening → start.book.journal ≡ entries_of [] limit
      → AreFresh opening.guard config 1 scripts start.posts → IsRun turning.turns turning.seed turning.steps start last → end ≡ state_told last
      → RigRan opening limit config scripts turning end
  rig_ran kept least most scripts turning end start last first opened unchanged journal fresh run ends =
      let begins : Holds opening limit config start (λ k. []) (λ k. []) = record {
        each = λ k p at. joint_fresh opening limit config start.book p (1 + k) (fresh_at opening.guard config 1 scripts start.posts k p fresh first at) opened journal;
        links = λ k p at. let f = fresh_at opening.guard config 1 scripts start.posts k p fresh first at in omega (arith, f.fresh.link_is);
        calls = subst (AllLinks 1 (length start.posts)) (sym (ap (λ j. calls_of j.entries) journal)) (no_links 1 (length start.posts));
        opened = opened;
        limited = ap (λ j. j.limit) journal;
        ready = subst (λ (j : Entries). AreReady j.entries) (sym journal) (λ k d within. absurd (omega (arith, within)));
      } in
      let holds = run_holds opening limit config kept least most turning.turns turning.seed turning.steps start last begins run in
      record {
        start = start;
        last = last;
        opened = opened;
        unchanged = unchanged;
        journal = journal;
        fresh = fresh;
        run = run;
        ends = ends;
        book = legal_book last _ _ holds;
        legal = λ k p at. legal_by last.book p _ _ (holds.each k p at);
        reads = subst (λ (e : EndTold). AllByRecursion (λ (c : ClientTold). AllStand (begins_with opening) (history_of e.book) c.link config.pdu c.results c.places) e.clients) (sym ends)
            (all_told last.book last.posts (λ k p at. (holds.each k p at).joint.done));
        complete = subst (λ (e : EndTold). length (history_of e.book) < limit
            → AllByRecursion (λ (c : ClientTold). AllComeOff opening (history_of e.book) config.pdu c.results c.places)
            e.clients) (sym ends)
            (λ room. all_come last.book last.posts (λ k p at.
            let h = holds.each k p at in h.joint.comes_off (never_full last.book p h.octets h.joint room)));
      }

pub if_ok : {A E : Type 0} (P Q : A → Type 0) (r : Result A E) → IfOk r P → ((x : A) → P x → Q x) → IfOk r Q
if_ok P Q (Ok x) h f = f x h
if_ok P Q (Err e) h f = tt
