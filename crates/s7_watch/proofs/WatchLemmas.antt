-- What a watcher shows after its calls.
use Rattle.std.proofs.Common.{◌≡◌, ◌≢◌, ◌∙◌, ℕ, Bool, true, false, refl, sym, ap, subst, eqb, List, [], ◌∷◌, map, Option, Some, None, Vec, Global}
use Rattle.std.specs.Prelude.{◌==◌, option_map, unwrap_or}
use Rattle.std.specs.Option.{ForSome}
use Rattle.std.proofs.lemmas.Bool.{eqb-true}
use Rattle.s7_dialogue.specs.declared.job.Job.{Job}
use Rattle.s7_dialogue.specs.declared.job.JobResult.{JobResult}
use Rattle.s7_symbol.specs.declared.tag.Tag.{Tag}
use Rattle.s7_watch.specs.Samples.{Sample, items_of, samples_in}
use Rattle.s7_watch.specs.Looks.{Look, job_of, look_at, looks, looks_from, part}
use Rattle.s7_watch.specs.Lines.{codes_of, failed_line, look_lines, new_lines, nothing_seen, result_text, samples_of, with_samples}
use Rattle.s7_watch.specs.Watching.{Hands, IsOut, WatchTold, after_result, fresh}
use Rattle.s7_watch.specs.WatchShown.{last_of, look_out, tag_in, tags_of, watch_told}
use Rattle.s7_watch.specs.declared.watch.Out.{Out}
use Rattle.s7_watch.specs.declared.watch.Watch.{Watch}
use Rattle.s7_watch.specs.declared.watched.Watched.{Watched}

-- ---- what the watcher shows

pub told_fresh : (all : List Watched) (tags : List Tag) (rounds : ℕ) → map tag_in all ≡ tags → map last_of all ≡ nothing_seen tags
    → ◌≡◌ {A = WatchTold} (record { ahead = looks (map tag_in all) rounds; lasts = map last_of all; out = None }) (fresh tags rounds)
told_fresh all tags rounds same unseen = (λ i. record { ahead = looks (same i) rounds; lasts = unseen i; out = None })

-- the same tags and last samples, with a read that is out
pub told_out : (watch : Watch) (watched : Vec Watched Global) (read : Out) → watch.watched ≡ watched → watch.out ≡ Some read
    → watch_told watch
    ≡ record { ahead = (watch_told watch).ahead; lasts = map last_of watched.items; out = Some (look_out (map tag_in watched.items) read) }
told_out watch watched read same out = (λ i. record {
  ahead = (watch_told watch).ahead;
  lasts = map last_of (same i).items;
  out = option_map (look_out (map tag_in (same i).items)) (out i);
})

-- the same tags, with other last samples
pub told_seen : (old all : List Watched) (lasts : List (Option Sample)) (round number left : ℕ) → map tag_in all ≡ map tag_in old
    → map last_of all ≡ lasts
    → ◌≡◌ {A = WatchTold} (record { ahead = looks_from (map tag_in all) round number left; lasts = map last_of all; out = None })
    (record { ahead = looks_from (map tag_in old) round number left; lasts = lasts; out = None })
told_seen old all lasts round number left same seen =
    (λ i. record { ahead = looks_from (same i) round number left; lasts = seen i; out = None })

-- ---- the next job

-- a read is left: its job was given, and it is out
pub hands_next : (ahead later : List Look) (look : Look) (old new : WatchTold) (given : Option Job) → ahead ≡ look ∷ later
    → given ≡ Some (job_of look) → new ≡ record { ahead = later; lasts = old.lasts; out = Some look } → Hands ahead old new given
hands_next ahead later look old new given is given_is new_is = subst (λ l. Hands l old new given) (sym is) (given_is, new_is)

-- none is left
pub hands_none : (ahead : List Look) (old : WatchTold) → ahead ≡ [] → Hands ahead old old None
hands_none ahead old is = subst (λ l. Hands l old old None) (sym is) (refl, refl)

-- the job that was given is that of the read that is out
pub handed_out : (ahead : List Look) (old new : WatchTold) (given : Job) → Hands ahead old new (Some given) → IsOut new.out given
handed_out [] old new given hands = absurd (cc hands.0)
handed_out (look ∷ ahead) old new given hands =
    let same : given ≡ job_of look = ap (λ (o : Option Job). unwrap_or o given) hands.0 in
    subst (λ (w : WatchTold). IsOut w.out given) (sym hands.1) same

-- the job of the read that is out
pub out_job : (out : Option Look) (asked : Job) (look : Look) → IsOut out asked → out ≡ Some look → asked ≡ job_of look
out_job out asked look is at = let P : Option Look → Type 0 = λ o. IsOut o asked in subst P at is

-- ---- a result is taken

-- no result is taken if no read is out
pub none_out : (show : Out → Look) (out : Option Out) (asked : Job) → ((read : Out) → out ≡ Some read → ⊥) → IsOut (option_map show out) asked → ⊥
none_out show None asked never is = is
none_out show (Some read) asked never is = never read refl

-- what holds for the read that is out
pub for_out : (show : Out → Look) (out : Option Out) (read : Out) (P : Look → Type 0) → out ≡ Some read → P (show read)
    → ForSome (option_map show out) P
for_out show out read P is holds = λ look at.
    let same : show read ≡ look = ap (λ (o : Option Look). unwrap_or o look) (sym (ap (option_map show) is) ∙ at) in
    subst P same holds

pub read_text : (look : Look) (lasts : List (Option Sample)) (told : JobResult) → told.code ≡ 0
    → look_lines look lasts (samples_of look told) ≡ result_text look lasts told
read_text look lasts told good = let is : (told.code == 0) ≡ true = ap (λ n. n == 0) good in rw is refl

pub read_after : (look : Look) (told : JobResult) (old : WatchTold) → told.code ≡ 0
    → ◌≡◌ {A = WatchTold} (record { ahead = old.ahead; lasts = with_samples old.lasts look.first (samples_of look told); out = None }) (after_result look told old)
read_after look told old good = let is : (told.code == 0) ≡ true = ap (λ n. n == 0) good in rw is refl

no_zero : (n : ℕ) → n ≢ 0 → (n == 0) ≡ false
no_zero n some = by (n == 0) refl
  where
    by : (b : Bool) → (n == 0) ≡ b → (n == 0) ≡ false
    by true is = absurd (some (eqb-true n 0 is))
    by false is = is

pub failed_text : (look : Look) (lasts : List (Option Sample)) (told : JobResult) → told.code ≢ 0
    → failed_line look.round told.code ≡ result_text look lasts told
failed_text look lasts told bad = rw (no_zero told.code bad) refl

pub failed_after : (look : Look) (told : JobResult) (old : WatchTold) → told.code ≢ 0
    → ◌≡◌ {A = WatchTold} (record { ahead = []; lasts = old.lasts; out = None }) (after_result look told old)
failed_after look told old bad = rw (no_zero told.code bad) refl

-- ---- the lines of a read

pub read_lines : (read all : List Watched) (round number : ℕ) (told : JobResult) (codes octets : List ℕ)
    → map tag_in read ≡ part number (map tag_in all) → map last_of read ≡ part number (map last_of all)
    → codes ≡ codes_of told → octets ≡ told.octets
    → new_lines round (map tag_in read) (map last_of read) (samples_in (items_of (map tag_in read)) codes octets)
    ≡ look_lines (look_at (map tag_in all) round number) (map last_of all) (samples_of (look_at (map tag_in all) round number) told)
read_lines read all round number told codes octets tags lasts codes_are octets_are =
    (λ i. new_lines round (tags i) (lasts i) (samples_in (items_of (tags i)) (codes_are i) (octets_are i)))
