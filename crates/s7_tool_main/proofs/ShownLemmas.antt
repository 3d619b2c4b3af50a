-- What the text of a rig shows of its watcher.
use Rattle.std.proofs.Common.{◌≡◌, ◌∙◌, ◌⊎◌, inl, inr, ℕ, zero, suc, ◌+◌, ◌-◌, ◌*◌, ◌<◌, ◌≤◌, Bool, true, false, List, [], ◌∷◌, ◌++◌, length, drop, get_or, Option, None, Some, refl, ap, arith}
use Rattle.std.specs.Prelude.{IfSome, map, slice_get}
use Rattle.std.proofs.lemmas.List.{length-map, length-set}
use Rattle.std.proofs.lemmas.Option.{slice_get_cases}
use Rattle.s7_schedule.specs.Drawing.{seeded}
use Rattle.s7_area.specs.Memory.{Memory}
use Rattle.s7_area.specs.declared.guard.Guard.{Guard}
use Rattle.s7_dialogue.specs.declared.config.Config.{Config}
use Rattle.s7_plant.specs.State.{begins_with}
use Rattle.s7_session.specs.Books.{history_of}
use Rattle.s7_rig.specs.Followed.{RigsFollow}
use Rattle.s7_rig.specs.Rigs.{RigRan, Turning}
use Rattle.s7_rig.specs.Runs.{AreFresh, IsRun, Rounds, Turns, actors_of, most_rounds}
use Rattle.s7_rig.specs.Scripts.{Script}
use Rattle.s7_rig.specs.Shown.{ClientTold, EndTold, post_told}
use Rattle.s7_rig.specs.State.{Post, State}
use Rattle.s7_rig.specs.Turns.{IsTurnOf}
use Rattle.s7_script.specs.declared.scripts.script_list.ScriptLine.{ScriptLine}
use Rattle.s7_symbol.specs.declared.tag.Tag.{Tag}
use Rattle.s7_watch.specs.Lines.{nothing_seen, result_lines}
use Rattle.s7_watch.specs.Looks.{looks}
use Rattle.s7_watched.specs.Watched.{RigsShowWatches, watch_script}
use Rattle.s7_tool_main.specs.RigText.{heads_of, rig_text, text_by, watch_text, watcher_of}
use Rattle.s7_tool_main.specs.Rigging.{rig_scripts}
use Rattle.s7_tool_main.specs.Watching.{ShowsWatch}
use Rattle.s7_tool_main.proofs.WatchLemmas.{watcher_last}
use Rattle.s7_tool_main.proofs.WholeLemmas.{whole_watch}

-- ---- a rig keeps its clients

turn_count : (actor : ℕ) (s s' : State) (stirs : Bool) → IsTurnOf actor s s' stirs → length s'.posts ≡ length s.posts
turn_count actor s s' stirs (inl t) =
    ap (λ (z : State). length z.posts) t.1.same ∙ length-set s.posts actor t.1.post'
turn_count actor s s' stirs (inr t) = ap length t.1.same ∙ length-set s.posts (actor - length s.posts) t.1.post'

turns_count : (actors : List ℕ) (s s' : State) (stirs : Bool) → Turns actors s s' stirs
    → length s'.posts ≡ length s.posts
unfolding Turns
turns_count [] s s' stirs t = ap (λ (z : State). length z.posts) t.0
turns_count (actor ∷ actors) s s' stirs t = turns_count actors t.0 s' t.2 t.4 ∙ turn_count actor s t.0 t.1 t.3

rounds_count : (most : ℕ) (s s' : State) → Rounds most s s' → length s'.posts ≡ length s.posts
unfolding Rounds
rounds_count zero s s' r = ap (λ (z : State). length z.posts) r
rounds_count (suc more) s s' (inl r) = ap (λ (z : State). length z.posts) r.1
rounds_count (suc more) s s' (inr r) =
    by r.4 (λ z. rounds_count more r.1 s' z) ∙ turns_count (actors_of s) s r.1 r.2 r.3
  where
    by : ((r.2 ≡ false) × (s' ≡ r.1)) ⊎ ((r.2 ≡ true) × Rounds more r.1 s')
        → (Rounds more r.1 s' → length s'.posts ≡ length r.1.posts) → length s'.posts ≡ length r.1.posts
    by (inl h) later = ap (λ (z : State). length z.posts) h.1
    by (inr h) later = later h.1

run_count : (turns : List ℕ) (seed steps : ℕ) (s s' : State) → IsRun turns seed steps s s'
    → length s'.posts ≡ length s.posts
run_count turns seed steps s s' run =
    rounds_count most_rounds run.middle s' run.rounds
    ∙ turns_count (turns ++ seeded seed steps (2 * length s.posts)) s run.middle run.stirred run.turned

fresh_count : (guard : Option Guard) (config : Config) (link : ℕ) (scripts : List Script) (posts : List Post)
    → AreFresh guard config link scripts posts → length posts ≡ length scripts
unfolding AreFresh
fresh_count guard config link [] [] h = refl
fresh_count guard config link [] (p ∷ posts) h = absurd h
fresh_count guard config link (script ∷ scripts) [] h = absurd h
fresh_count guard config link (script ∷ scripts) (p ∷ posts) h =
    ap suc (fresh_count guard config (link + 1) scripts posts h.1)

-- a rig that ran has a client for each script
clients_count : (opening : Memory) (limit : ℕ) (config : Config) (scripts : List Script) (turning : Turning)
    (end : EndTold) → RigRan opening limit config scripts turning end → length end.clients ≡ length scripts
clients_count opening limit config scripts turning end ran =
    ap (λ (e : EndTold). length e.clients) ran.ends ∙ length-map ran.last.posts post_told
    ∙ run_count turning.turns turning.seed turning.steps ran.start ran.last ran.run
    ∙ fresh_count opening.guard config 1 scripts ran.start.posts ran.fresh

-- ---- the watcher

one_more : (scripts : List (List ScriptLine)) (tags : List Tag) (rounds : ℕ)
    → length (rig_scripts scripts (Some tags) rounds) ≡ length scripts + 1
one_more [] tags rounds = refl
one_more (lines ∷ scripts) tags rounds =
    let before : length (rig_scripts scripts (Some tags) rounds) ≡ length scripts + 1 = one_more scripts tags rounds in
    omega (arith, before)

module _ (follows : RigsFollow) (shows : RigsShowWatches) (opening : Memory) (limit : ℕ) (config : Config) (turning : Turning) (end : EndTold)
    (scripts : List (List ScriptLine)) (rounds : ℕ) where
  module _ (tags : List Tag)
      (ran : RigRan opening limit config (rig_scripts scripts (Some tags) rounds) turning end) where
    count : length end.clients ≡ length scripts + 1
    count =
        clients_count opening limit config (rig_scripts scripts (Some tags) rounds) turning end ran
        ∙ one_more scripts tags rounds

    abbrev Shown : Type 0
    Shown = ShowsWatch opening config.pdu scripts tags rounds end (rig_text scripts (Some tags) rounds end)

    shown_by : (c : ClientTold) → watcher_of scripts end.clients ≡ Some c → Shown
    shown_by c at =
        let all = rig_scripts scripts (Some tags) rounds in
        let here = watcher_last scripts tags rounds in
        let seen = shows.shown opening limit config all turning end ran (length scripts) c tags rounds at here in
        let follow =
        follows.follow opening limit config all turning end ran (length scripts) c (watch_script tags rounds) at here in
        record {
          watcher = c;
          at = at;
          last = count;
          lines = result_lines (nothing_seen tags) (looks tags rounds) (drop 1 c.results);
          seen = seen;
          whole = λ good.
              whole_watch (begins_with opening) (history_of end.book) c.link config.pdu (looks tags rounds) c.results
              (drop 1 c.places) seen.readings seen.end follow.0 follow.1 good seen.sampled;
          text_is = ap (λ w. text_by (map heads_of scripts) (watch_text (Some tags) rounds w) end) at;
        }

    watch_shown : Shown
    watch_shown = by (slice_get_cases end.clients (length scripts)).1
      where
        by : ((c : ClientTold) × (length scripts < length end.clients) × (slice_get end.clients (length scripts) ≡ Some c) × (get_or end.clients (length scripts) c ≡ c))
            ⊎ ((length end.clients ≤ length scripts) × (slice_get end.clients (length scripts) ≡ None)) → Shown
        by (inl h) = shown_by h.0 h.2
        by (inr h) = absurd (omega (arith, h.0, count))

  -- THE TEXT OF A RIG SHOWS ITS WATCH, if tags are watched
  pub watch_shows : (watched : Option (List Tag))
      → RigRan opening limit config (rig_scripts scripts watched rounds) turning end
      → IfSome watched (λ tags. ShowsWatch opening config.pdu scripts tags rounds end (rig_text scripts watched rounds end))
  watch_shows None ran = tt
  watch_shows (Some tags) ran = watch_shown tags ran
