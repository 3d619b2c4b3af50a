-- The results of a watcher are taken in order.
use Rattle.std.proofs.Common.{◌≡◌, ◌∙◌, ◌++◌, ◌≤◌, ◌<◌, ◌==◌, ◌-◌, ◌+◌, ℕ, zero, suc, Bool, cond, true, false, List, [], ◌∷◌, length, drop, Option, None, Some, All, Vec, Global, ◌&&◌, append_assoc, append-nil, drop-cons, get_or, refl, sym, ap, subst, arith}
use Rattle.std.specs.Prelude.{is_none, is_some, map, option_map, slice_get, unwrap_or}
use Rattle.std.specs.Borrow.{Bor}
use Rattle.std.specs.List.{AllByRecursion}
use Rattle.std.specs.Option.{ForSome}
use Rattle.std.proofs.lemmas.Bool.{false≢true}
use Rattle.std.specs.Slice.{IsItemAt}
use Rattle.std.proofs.lemmas.List.{length-map}
use Rattle.std.proofs.lemmas.List.Elements.{All-drop, All-head, All-tail}
use Rattle.std.proofs.lemmas.Option.{slice_get_past, slice_get-get_or, slice_get-map}
use Rattle.s7_area.specs.Memory.{Memory}
use Rattle.s7_dialogue.specs.declared.config.Config.{Config}
use Rattle.s7_dialogue.specs.declared.job.Job.{Job}
use Rattle.s7_dialogue.specs.declared.job.Job.TheVariants as job
use Rattle.s7_dialogue.specs.declared.job.JobResult.{JobResult}
use Rattle.s7_rig.specs.Followed.{Follow, RigsFollow}
use Rattle.s7_rig.specs.Rigs.{RigRan, Turning}
use Rattle.s7_rig.specs.Scripts.{BeginsWell, NoneConnects, Script, left_behind, reads_many}
use Rattle.s7_rig.specs.Shown.{ClientTold, EndTold, client_told}
use Rattle.s7_rig.specs.declared.end.RigClient.{RigClient}
use Rattle.s7_script.specs.Printing.{IsPrintable, IsPrintableOf}
use Rattle.s7_script.specs.declared.scripts.script_list.ScriptLine.{ScriptLine}
use Rattle.s7_symbol.specs.declared.tag.Tag.{Tag}
use Rattle.s7_watch.specs.Laws.{after_next, taken_lines}
use Rattle.s7_watch.specs.Lines.{nothing_seen}
use Rattle.s7_watch.specs.Looks.{Look, job_of, jobs_of, looks}
use Rattle.s7_watch.specs.Samples.{Sample}
use Rattle.s7_watch.specs.Watching.{Hands, WatchTold}
use Rattle.s7_args.specs.Tool.{client_count}
use Rattle.s7_tool_main.specs.declared.head.Head.{Head}
use Rattle.s7_tool_main.specs.RigText.{ArePrintable, are_clients_good, are_good_by, heads_of, is_watch_good, rig_text}
use Rattle.s7_tool_main.specs.RigText.{text_by, watch_text, watcher_of}
use Rattle.s7_watched.specs.Watched.{watch_script}
use Rattle.s7_tool_main.specs.Rigging.{client_script, rig_scripts, watchers}
use Rattle.s7_tool_main.specs.Taking.{AreTaken, AreWatched, TakesNext, after_taken, next_lines}

-- ---- what is lent of a list

pub got : {X : Type 0} (xs : List X) (i : ℕ) (r : Option (Bor X)) → IsItemAt xs i r
    → option_map (λ x. x.now) r ≡ slice_get xs i
got xs i None h = sym (slice_get_past xs i h.3)
got xs i (Some x) h = sym (slice_get-get_or xs i x.now h.3.0 ∙ ap Some (sym (h.4 (omega arith) x.now)))

lent : (r : Option (Bor RigClient)) → option_map (λ (c : Bor RigClient). client_told c.now) r ≡ option_map client_told (option_map (λ (c : Bor RigClient). c.now) r)
lent None = refl
lent (Some c) = refl

-- the watcher that is lent is the client at this place
pub watcher_is : (clients : List RigClient) (k : ℕ) (r : Option (Bor RigClient)) → IsItemAt clients k r
    → option_map (λ (c : Bor RigClient). client_told c.now) r ≡ slice_get (map client_told clients) k
watcher_is clients k r h = lent r ∙ ap (option_map client_told) (got clients k r h) ∙ sym (slice_get-map client_told clients k)

-- ---- tags that are lent

pub some_lent : (o : Option (Bor (List Tag))) (w : Option (List Tag)) → option_map (λ t. t.now) o ≡ w
    → ForSome w (λ tags. 0 < length tags) → ForSome o (λ t. 0 < length t.now)
some_lent o w is h x e = h x.now (sym is ∙ ap (option_map (λ (t : Bor (List Tag)). t.now)) e)

pub both_given : (o : Option (Bor (List Tag))) (w : Option (List Tag)) → option_map (λ t. t.now) o ≡ w
    → is_some o ≡ is_some w
both_given None w is = ap is_some is
both_given (Some t) w is = ap is_some is

-- as many clients, by other words
pub count_is : {A B : Type 0} (n m : ℕ) (o : Option A) (w : Option B) → n ≡ m → is_some o ≡ is_some w
    → client_count n o ≡ client_count m w
count_is n m None None same given = same
count_is n m (Some x) (Some y) same given = ap (λ k. k + 1) same
count_is n m None (Some y) same given = absurd (false≢true given)
count_is n m (Some x) None same given = absurd (false≢true (sym given))

-- ---- the script of a watcher

reads_connect_none : (ahead : List Look) → NoneConnects (jobs_of ahead ++ job.Disconnect ∷ [])
reads_connect_none [] = (tt, tt)
reads_connect_none (look ∷ ahead) = (tt, reads_connect_none ahead)

both_begin : (xs ys : List Script) → AllByRecursion BeginsWell xs → AllByRecursion BeginsWell ys
    → AllByRecursion BeginsWell (xs ++ ys)
both_begin [] ys h k = k
both_begin (x ∷ xs) ys h k = (h.0, both_begin xs ys h.1 k)

watchers_begin : (watched : Option (List Tag)) (rounds : ℕ) → AllByRecursion BeginsWell (watchers watched rounds)
watchers_begin None rounds = tt
watchers_begin (Some tags) rounds = (reads_connect_none (looks tags rounds), tt)

-- each script of a rig connects first
pub rig_begins : (scripts : List (List ScriptLine)) (watched : Option (List Tag)) (rounds : ℕ)
    → AllByRecursion BeginsWell (map client_script scripts)
    → AllByRecursion BeginsWell (rig_scripts scripts watched rounds)
rig_begins scripts watched rounds h = both_begin (map client_script scripts) (watchers watched rounds) h (watchers_begin watched rounds)

-- ---- results that follow it

none_taken : (lasts : List (Option Sample)) (results : List JobResult) → AreTaken [] lasts results
unfolding AreTaken
none_taken lasts [] = tt
none_taken lasts (told ∷ results) = (tt, none_taken lasts results)

-- the results of the first reads, and of the disconnect after them or after one that failed
follow_taken : (ahead : List Look) (lasts : List (Option Sample)) (results : List JobResult) (left : List Job)
    → Follow true (jobs_of ahead ++ job.Disconnect ∷ []) results left → All IsPrintable results
    → AreTaken ahead lasts results
unfolding Follow AreTaken
follow_taken [] lasts results left h p = none_taken lasts results
follow_taken (look ∷ ahead) lasts [] left h p = tt
follow_taken (look ∷ ahead) lasts (told ∷ results) left h p = (
  (h.0, λ good. subst (IsPrintableOf told) h.0 ((All-head IsPrintable told results p).0 good)),
  go (told.code == 0) refl (λ ls next. follow_taken ahead ls results left next (All-tail IsPrintable told results p)),
)
  where
    rest : List Job
    rest = jobs_of ahead ++ job.Disconnect ∷ []

    goes_on : Follow true (cond (told.code == 0) rest (drop (length rest - 1) rest)) results left
    goes_on = subst (λ j. Follow true (cond (reads_many j) (cond (told.code == 0) rest (drop (length rest - 1) rest)) rest) results left) h.0 h.1

    go : (b : Bool) → (told.code == 0) ≡ b
        → ((ls : List (Option Sample)) → Follow true rest results left → AreTaken ahead ls results)
        → AreTaken (after_taken (look ∷ ahead) lasts told).ahead (after_taken (look ∷ ahead) lasts told).lasts results
    go true is later =
        rw is (later _ (subst (λ c. Follow true (cond c rest (drop (length rest - 1) rest)) results left) is goes_on))
    go false is later = rw is (none_taken _ results)

-- behind the connect
connect_taken : (ahead : List Look) (lasts : List (Option Sample)) (results : List JobResult) (left : List Job)
    → Follow true (job.Connect ∷ (jobs_of ahead ++ job.Disconnect ∷ [])) results left → All IsPrintable results
    → AreTaken ahead lasts (drop 1 results)
unfolding Follow AreTaken
connect_taken ahead lasts [] left h p = tt
connect_taken ahead lasts (told ∷ results) left h p =
    let rest : List Job = jobs_of ahead ++ job.Disconnect ∷ [] in
    follow_taken ahead lasts results left
    (subst (λ j. Follow true (cond (reads_many j) (cond (told.code == 0) rest (drop (length rest - 1) rest)) rest) results left) h.0 h.1)
    (All-tail IsPrintable told results p)

-- ---- the watcher of a rig

pub watcher_last : (scripts : List (List ScriptLine)) (tags : List Tag) (rounds : ℕ)
    → slice_get (rig_scripts scripts (Some tags) rounds) (length scripts) ≡ Some (watch_script tags rounds)
watcher_last [] tags rounds = refl
watcher_last (lines ∷ scripts) tags rounds = watcher_last scripts tags rounds

printable_at : (clients : List ClientTold) (k : ℕ) (c : ClientTold) → All ArePrintable clients
    → slice_get clients k ≡ Some c → ArePrintable c
printable_at [] k c h at = absurd (cc)
printable_at (d ∷ clients) zero c h at = let same : d ≡ c = cc in subst ArePrintable same (All-head ArePrintable d clients h)
printable_at (d ∷ clients) (suc k) c h at = printable_at clients k c (All-tail ArePrintable d clients h) at

pub are_watched : RigsFollow → (opening : Memory) (limit : ℕ) (config : Config) (turning : Turning) (end : EndTold)
    (scripts : List (List ScriptLine)) (watched : Option (List Tag)) (rounds : ℕ)
    → RigRan opening limit config (rig_scripts scripts watched rounds) turning end → All ArePrintable end.clients
    → AreWatched watched rounds (watcher_of scripts end.clients)
are_watched law opening limit config turning end scripts None rounds ran prints = tt
are_watched law opening limit config turning end scripts (Some tags) rounds ran prints = go (watcher_of scripts end.clients) refl
  where
    go : (c : Option ClientTold) → watcher_of scripts end.clients ≡ c → AreWatched (Some tags) rounds c
    go None at = tt
    go (Some c) at =
        let follows = law.follow opening limit config (rig_scripts scripts (Some tags) rounds) turning end ran
        (length scripts) c (watch_script tags rounds) at (watcher_last scripts tags rounds) in
        connect_taken (looks tags rounds) (nothing_seen tags) c.results follows.0 follows.1
        (printable_at end.clients (length scripts) c prints at)

-- ---- one result

-- no job is handed out
pub none_handed : (ahead : List Look) (old new : WatchTold) (given : Option Job) → Hands ahead old new given
    → is_none given ≡ true → (ahead ≡ []) × (new ≡ old)
none_handed [] old new given h none = (refl, h.1)
none_handed (look ∷ ahead) old new given h none = absurd (false≢true (ap is_none (sym h.0) ∙ none))

-- the job of the next read is
pub next_handed : (ahead : List Look) (old new : WatchTold) (given : Option Job) → Hands ahead old new given
    → is_none given ≡ false
    → (look : Look) × (rest : List Look) × (ahead ≡ look ∷ rest) × (new ≡ record old { ahead = rest; out = Some look })
next_handed [] old new given h some = absurd (false≢true (sym (ap is_none (sym h.0) ∙ some)))
next_handed (look ∷ ahead) old new given h some = (look, ahead, refl, h.1)

-- ---- all results

-- the lines of results are those of the first, and then of the others
pub lines_taken : (ahead : List Look) (lasts : List (Option Sample)) (told : JobResult) (results : List JobResult)
    → taken_lines ahead lasts (told ∷ results)
    ≡ next_lines ahead lasts told ++ taken_lines (after_taken ahead lasts told).ahead (after_taken ahead lasts told).lasts results
unfolding taken_lines
lines_taken [] lasts told [] = refl
lines_taken [] lasts told (r ∷ results) = refl
lines_taken (look ∷ ahead) lasts told results = refl

-- ---- the text of a rig

-- each script has its heads
pub heads_count : (heads : List (Vec Head Global)) (scripts : List (List ScriptLine))
    → map (λ (v : Vec Head Global). v.items) heads ≡ map heads_of scripts → length heads ≡ length scripts
heads_count heads scripts are =
    sym (length-map heads (λ (v : Vec Head Global). v.items)) ∙ ap length are ∙ length-map scripts heads_of

-- the watcher is the client after those of the scripts
pub watcher_here : (clients : List ClientTold) (n : ℕ) (scripts : List (List ScriptLine)) (r : Option ClientTold)
    → r ≡ slice_get clients n → n ≡ length scripts → r ≡ watcher_of scripts clients
watcher_here clients n scripts r is count = is ∙ ap (slice_get clients) count

pub rig_text_is : (heads : List (List Head)) (scripts : List (List ScriptLine)) (lent watched : Option (List Tag))
    (rounds : ℕ) (watcher : Option ClientTold) (end : EndTold) (lines text : List ℕ) → heads ≡ map heads_of scripts
    → lent ≡ watched → watcher ≡ watcher_of scripts end.clients → lines ≡ watch_text lent rounds watcher
    → text ≡ text_by heads lines end → text ≡ rig_text scripts watched rounds end
rig_text_is heads scripts lent watched rounds watcher end lines text h w c l t =
    t ∙ λ i. text_by (h i) ((l ∙ λ j. watch_text (w j) rounds (c j)) i) end

pub rig_good_is : (heads : List (List Head)) (scripts : List (List ScriptLine)) (lent watched : Option (List Tag))
    (count : ℕ) (watcher : Option ClientTold) (clients : List ClientTold) (good : Bool) → heads ≡ map heads_of scripts
    → lent ≡ watched → watcher ≡ watcher_of scripts clients → count ≡ client_count (length scripts) watched
    → good ≡ (are_good_by heads count clients && is_watch_good lent watcher)
    → good ≡ are_clients_good scripts watched clients
rig_good_is heads scripts lent watched count watcher clients good h w c n g =
    g ∙ λ i. are_good_by (h i) (n i) clients && is_watch_good (w i) (c i)

-- ---- steps of loops

next_result : (results : List JobResult) (k : ℕ) (told : JobResult) → k < length results → told ≡ get_or results k told
    → drop k results ≡ told ∷ drop (k + 1) results
next_result results k told less is =
    let one : suc k ≡ k + 1 = omega arith in
    drop-cons results k told less ∙ λ i. sym is i ∷ drop (one i) results

first_taken : (ahead : List Look) (lasts : List (Option Sample)) (told : JobResult) (rest : List JobResult)
    → AreTaken ahead lasts (told ∷ rest) → TakesNext ahead told
unfolding AreTaken
first_taken ahead lasts told rest h = h.0

later_taken : (ahead : List Look) (lasts : List (Option Sample)) (told : JobResult) (rest : List JobResult)
    → AreTaken ahead lasts (told ∷ rest)
    → AreTaken (after_taken ahead lasts told).ahead (after_taken ahead lasts told).lasts rest
unfolding AreTaken
later_taken ahead lasts told rest h = h.1

-- one more job is drawn
pub drawn_more : (ahead : List Look) (old new : WatchTold) (given : Option Job) (job : Job) (jobs jobs' all : List Job)
    → Hands ahead old new given → given ≡ Some job → jobs' ≡ jobs ++ job ∷ [] → jobs ++ jobs_of ahead ≡ all
    → (jobs' ++ jobs_of new.ahead ≡ all) × (length new.ahead < length ahead)
drawn_more [] old new given job jobs jobs' all h some pushed so_far = absurd (cc (sym h.0 ∙ some))
drawn_more (look ∷ ahead) old new given job jobs jobs' all h some pushed so_far =
    let same : job_of look ≡ job = some_same (sym h.0 ∙ some) in
    let left : new.ahead ≡ ahead = ap (λ (w : WatchTold). w.ahead) h.1 in
    let first : jobs' ≡ jobs ++ job_of look ∷ [] = pushed ∙ ap (λ j. jobs ++ j ∷ []) (sym same) in (
      ap (λ js. js ++ jobs_of new.ahead) first ∙ append_assoc jobs (job_of look ∷ []) (jobs_of new.ahead)
          ∙ ap (λ ls. jobs ++ job_of look ∷ jobs_of ls) left ∙ so_far,
      subst (λ (ls : List Look). length ls < length (look ∷ ahead)) (sym left) (omega arith),
    )
  where
    some_same : Some (job_of look) ≡ Some job → job_of look ≡ job
    some_same e = ap (λ o. unwrap_or o job) e

-- all are drawn
pub drawn_all : (ahead : List Look) (old new : WatchTold) (given : Option Job) (jobs all : List Job)
    → Hands ahead old new given → given ≡ None → jobs ++ jobs_of ahead ≡ all → jobs ≡ all
drawn_all [] old new given jobs all h none so_far = sym (append-nil jobs) ∙ so_far
drawn_all (look ∷ ahead) old new given jobs all h none so_far = absurd (cc (sym h.0 ∙ none))

-- one more result is taken
pub taken_more : (results : List JobResult) (k : ℕ) (told : JobResult) (w w' : WatchTold) (text text' all : List ℕ)
    → k < length results → told ≡ get_or results k told
    → text' ≡ text ++ next_lines w.ahead w.lasts told → w'.ahead ≡ (after_taken w.ahead w.lasts told).ahead
    → w'.lasts ≡ (after_taken w.ahead w.lasts told).lasts → AreTaken w.ahead w.lasts (drop k results)
    → text ++ taken_lines w.ahead w.lasts (drop k results) ≡ all
    → AreTaken w'.ahead w'.lasts (drop (k + 1) results)
    × (text' ++ taken_lines w'.ahead w'.lasts (drop (k + 1) results) ≡ all)
taken_more results k told w w' text text' all less is added ahead lasts taken so_far =
    let after = after_taken w.ahead w.lasts told in
    let next = next_result results k told less is in
    let more = later_taken w.ahead w.lasts told (drop (k + 1) results) (subst (AreTaken w.ahead w.lasts) next taken) in (
      subst (λ a. AreTaken a w'.lasts (drop (k + 1) results)) (sym ahead)
          (subst (λ l. AreTaken after.ahead l (drop (k + 1) results)) (sym lasts) more),
      (λ i. added i ++ taken_lines (ahead i) (lasts i) (drop (k + 1) results))
          ∙ append_assoc text (next_lines w.ahead w.lasts told) (taken_lines after.ahead after.lasts (drop (k + 1) results))
          ∙ ap (λ t. text ++ t) (sym (lines_taken w.ahead w.lasts told (drop (k + 1) results)))
          ∙ ap (λ rs. text ++ taken_lines w.ahead w.lasts rs) (sym next) ∙ so_far,
    )

-- it is the next one
pub taken_next : (results : List JobResult) (k : ℕ) (told : JobResult) (w : WatchTold) → k < length results
    → told ≡ get_or results k told → AreTaken w.ahead w.lasts (drop k results) → TakesNext w.ahead told
taken_next results k told w less is taken =
    first_taken w.ahead w.lasts told (drop (k + 1) results)
    (subst (AreTaken w.ahead w.lasts) (next_result results k told less is) taken)

-- all are taken
pub taken_all : (results : List JobResult) (k : ℕ) (w : WatchTold) (text all : List ℕ) → length results ≤ k
    → text ++ taken_lines w.ahead w.lasts (drop k results) ≡ all → text ≡ all
unfolding taken_lines
taken_all results k w text all past so_far =
    sym (append-nil text) ∙ ap (λ rs. text ++ taken_lines w.ahead w.lasts rs) (sym (drop_past results k past)) ∙ so_far
  where
    drop_past : (xs : List JobResult) (n : ℕ) → length xs ≤ n → drop n xs ≡ []
    drop_past [] zero h = refl
    drop_past [] (suc n) h = refl
    drop_past (x ∷ xs) zero h = absurd (omega (arith, h))
    drop_past (x ∷ xs) (suc n) h = drop_past xs n (omega (arith, h))
