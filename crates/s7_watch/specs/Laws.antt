-- Laws of watchers.
use Rattle.std.specs.Prelude.{◌≡◌, List, [], ◌∷◌, ◌++◌, Option, Some}
use Rattle.s7_dialogue.specs.declared.job.JobResult.{JobResult}
use Rattle.s7_text.specs.Lines.{Text}
use Rattle.s7_watch.specs.Samples.{Sample}
use Rattle.s7_watch.specs.Looks.{Look}
use Rattle.s7_watch.specs.Lines.{result_lines, result_text}
use Rattle.s7_watch.specs.Watching.{WatchTold, after_result}

-- the watcher after the job of a read was handed out and its result was taken
abbrev pub after_next : Look → List Look → List (Option Sample) → JobResult → WatchTold
after_next look ahead lasts told = after_result look told (record { ahead = ahead; lasts = lasts; out = Some look })

-- the lines of results that are taken in order, each after the job of the next read was handed out
unfoldable pub taken_lines : List Look → List (Option Sample) → List JobResult → Text
taken_lines ahead lasts [] = []
taken_lines [] lasts (told ∷ results) = []
taken_lines (look ∷ ahead) lasts (told ∷ results) =
    result_text look lasts told
    ++ taken_lines (after_next look ahead lasts told).ahead (after_next look ahead lasts told).lasts results

-- RESULTS GIVE THEIR LINES: however many results are taken, their lines are those of the results in order, up to the
-- first that failed.
abbrev pub ResultsGiveLines : Type 0
ResultsGiveLines =
    (ahead : List Look) (lasts : List (Option Sample)) (results : List JobResult)
    → taken_lines ahead lasts results ≡ result_lines lasts ahead results
