use Rattle.std.proofs.Common.{◌≡◌, ◌∙◌, List, Option, Some, subst, sym}
use Rattle.s7_dialogue.specs.declared.job.Job.{Job}
use Rattle.s7_watch.specs.Looks.{Look, job_of}
use Rattle.s7_watch.specs.Watching.{Hands, IsOut, WatchTold}
use Rattle.s7_watch.proofs.WatchLemmas.{handed_out, out_job}
use Rattle.s7_script.specs.Printing.{IsPrintableOf}
use Rattle.s7_library_tests.proofs.watches.lines_of.Goals as goal

-- the job that was handed out is that of the read that is out
out_of : (ahead : List Look) (old new : WatchTold) (given : Option Job) (asked : Job) → Hands ahead old new given → given ≡ Some asked
    → IsOut new.out asked
out_of ahead old new given asked hands is =
    handed_out ahead old new asked (subst (λ (g : Option Job). Hands ahead old new g) is hands)

-- and so is its copy in a result
out_as : (ahead : List Look) (old new : WatchTold) (given : Option Job) (asked done : Job) → Hands ahead old new given → given ≡ Some asked
    → done ≡ asked → IsOut new.out done
out_as ahead old new given asked done hands is same =
    subst (λ (j : Job). IsOut new.out j) (sym same) (out_of ahead old new given asked hands is)

pub take-requires-clause-out : goal.take-requires-clause-out
take-requires-clause-out c =
    out_as _ _ _ _ c.in-Ok-Some.job c.in-Some.done.job c.in-Ok-Some.ensures.ok c.in-Ok-Some.field-0-is c.in-Some.ensures

pub take-requires-clause-form : goal.take-requires-clause-form
take-requires-clause-form c = λ good look is.
    let out = out_of _ _ _ _ c.in-Ok-Some.job c.in-Ok-Some.ensures.ok c.in-Ok-Some.field-0-is in
    let asked : c.in-Some.done.job ≡ job_of look = c.in-Some.ensures ∙ out_job _ c.in-Ok-Some.job look out is in
    subst (λ (j : Job). IsPrintableOf c.in-Some.done j) asked (c.is_read.ensures c.if-not-is_read.false good)
