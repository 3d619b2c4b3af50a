-- How the results of a watcher's reads are taken, one after another.
use Rattle.std.specs.Prelude.{◌≡◌, ℕ, List, [], ◌∷◌, drop, Option, None, Some}
use Rattle.s7_dialogue.specs.declared.job.JobResult.{JobResult}
use Rattle.s7_rig.specs.Shown.{ClientTold}
use Rattle.s7_symbol.specs.declared.tag.Tag.{Tag}
use Rattle.s7_watch.specs.Laws.{after_next}
use Rattle.s7_watch.specs.Lines.{nothing_seen, result_text}
use Rattle.s7_watch.specs.Looks.{Look, job_of, looks}
use Rattle.s7_watch.specs.Samples.{Sample}
use Rattle.s7_watch.specs.Watching.{IsReadOf, WatchTold}

-- the result is that of the next read and has its form, if a read is left
abbrev pub TakesNext : List Look → JobResult → Type 0
TakesNext [] told = Unit {0}
TakesNext (look ∷ ahead) told = (told.job ≡ job_of look) × (told.code ≡ 0 → IsReadOf look.tags told)

-- the lines of the result of the next read, if one is left
abbrev pub next_lines : List Look → List (Option Sample) → JobResult → List ℕ
next_lines [] lasts told = []
next_lines (look ∷ ahead) lasts told = result_text look lasts told

-- the watcher after this result
abbrev pub after_taken : List Look → List (Option Sample) → JobResult → WatchTold
after_taken [] lasts told = record { ahead = []; lasts = lasts; out = None }
after_taken (look ∷ ahead) lasts told = after_next look ahead lasts told

-- each of the results is that of the next read when it is taken
unfoldable pub AreTaken : List Look → List (Option Sample) → List JobResult → Type 0
AreTaken ahead lasts [] = Unit {0}
AreTaken ahead lasts (told ∷ results) =
    TakesNext ahead told
    × AreTaken (after_taken ahead lasts told).ahead (after_taken ahead lasts told).lasts results

-- THE WATCHER'S RESULTS, after that of its connect, are those of its reads in order, if tags are watched
abbrev pub AreWatched : Option (List Tag) → ℕ → Option ClientTold → Type 0
AreWatched None rounds watcher = Unit {0}
AreWatched (Some tags) rounds None = Unit {0}
AreWatched (Some tags) rounds (Some c) = AreTaken (looks tags rounds) (nothing_seen tags) (drop 1 c.results)
