-- The lines of results that are taken one after another.
use Rattle.std.proofs.Common.{◌≡◌, ◌∙◌, Bool, true, false, refl, ap, List, [], ◌∷◌, ◌++◌, append-nil, Option}
use Rattle.std.specs.Prelude.{◌==◌}
use Rattle.s7_dialogue.specs.declared.job.JobResult.{JobResult}
use Rattle.s7_watch.specs.Samples.{Sample}
use Rattle.s7_watch.specs.Looks.{Look}
use Rattle.s7_watch.specs.Lines.{failed_line, look_lines, result_lines, samples_of, with_samples}
use Rattle.s7_watch.specs.Laws.{taken_lines}

-- no read is left after one that failed
none_left : (lasts : List (Option Sample)) (results : List JobResult) → taken_lines [] lasts results ≡ []
unfolding taken_lines
none_left lasts [] = refl
none_left lasts (told ∷ results) = refl

pub lines_taken : (ahead : List Look) (lasts : List (Option Sample)) (results : List JobResult)
    → taken_lines ahead lasts results ≡ result_lines lasts ahead results
unfolding taken_lines result_lines
lines_taken [] lasts [] = refl
lines_taken [] lasts (told ∷ results) = refl
lines_taken (look ∷ ahead) lasts [] = refl
lines_taken (look ∷ ahead) lasts (told ∷ results) =
    by (told.code == 0) refl (lines_taken ahead (with_samples lasts look.first (samples_of look told)) results)
  where
    by : (b : Bool) → (told.code == 0) ≡ b
        → taken_lines ahead (with_samples lasts look.first (samples_of look told)) results
        ≡ result_lines (with_samples lasts look.first (samples_of look told)) ahead results
        → taken_lines (look ∷ ahead) lasts (told ∷ results) ≡ result_lines lasts (look ∷ ahead) (told ∷ results)
    by true is later = rw is (ap (λ t. look_lines look lasts (samples_of look told) ++ t) later)
    by false is later =
        rw is (ap (λ t. failed_line look.round told.code ++ t) (none_left lasts results) ∙ append-nil (failed_line look.round told.code))
