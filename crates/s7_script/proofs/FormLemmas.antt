-- Laws of results that can be printed.
use Rattle.std.proofs.Common.{◌≡◌, ℕ, ◌≤◌, List, [], length, take, sym, ap, ◌∙◌, subst, arith}
use Rattle.std.specs.Prelude.{IsSome}
use Rattle.std.proofs.lemmas.List.{length-take-le}
use Rattle.s7_clock.specs.Moment.{moment_in}
use Rattle.s7_szl.specs.Readers.{mode_of}
use Rattle.s7_dialogue.specs.declared.job.Job.{Job}
use Rattle.s7_dialogue.specs.declared.job.Job.TheVariants as job
use Rattle.s7_dialogue.specs.declared.job.JobResult.{JobResult}
use Rattle.s7_dialogue.specs.Dialogue.{End}
use Rattle.s7_client.specs.Form.{FormOf, HasForm, octets_read}
use Rattle.s7_dialogue.specs.Running.{IsResult}
use Rattle.s7_script.specs.Printing.{IsPrintable, IsPrintableOf}

count_is : (told : JobResult) (cs : List ℕ) → told.count ≤ length told.codes → take told.count told.codes ≡ cs → told.count ≡ length cs
count_is told cs few is = sym (length-take-le told.count told.codes few) ∙ ap length is

no_codes : (told : JobResult) (cs : List ℕ) → told.count ≤ length told.codes → take told.count told.codes ≡ cs → cs ≡ [] → told.count ≡ 0
no_codes told cs few is none = count_is told cs few is ∙ ap length none

by_job : (told : JobResult) (done : Job) (octets cs : List ℕ) → told.octets ≡ octets → told.count ≤ length told.codes → take told.count told.codes ≡ cs
    → FormOf done octets cs → IsPrintableOf told done
by_job told job.Connect octets cs same few is form = no_codes told cs few is form.1
by_job told (job.ReadArea item) octets cs same few is form = no_codes told cs few is form
by_job told (job.WriteArea item written) octets cs same few is form = no_codes told cs few is form.1
by_job told (job.ReadMany items) octets cs same few is form =
    let count = count_is told cs few is in (
      omega (arith, count, form.0),
      count ∙ form.1,
      ap length same ∙ form.2 ∙ ap (octets_read items) (sym is),
    )
by_job told (job.WriteMany items written) octets cs same few is form =
    let count = count_is told cs few is in
    (omega (arith, count, form.0), count ∙ form.1)
by_job told job.List octets cs same few is form = no_codes told cs few is form.1
by_job told (job.ListOf kind) octets cs same few is form = no_codes told cs few is form.1
by_job told (job.Info kind number) octets cs same few is form = no_codes told cs few is form.1
by_job told (job.Upload kind number) octets cs same few is form = no_codes told cs few is form
by_job told (job.Download image) octets cs same few is form = no_codes told cs few is form.1
by_job told (job.Delete kind number) octets cs same few is form = no_codes told cs few is form.1
by_job told (job.DbGet number) octets cs same few is form = no_codes told cs few is form
by_job told (job.DbFill number value) octets cs same few is form = no_codes told cs few is form.1
by_job told (job.Szl id index) octets cs same few is form = no_codes told cs few is form.1
by_job told job.ClockRead octets cs same few is form =
    (no_codes told cs few is form.1, subst (λ l. IsSome (moment_in l)) (sym same) form.0)
by_job told (job.ClockSet moment) octets cs same few is form = no_codes told cs few is form.1
by_job told job.Start octets cs same few is form = no_codes told cs few is form.1
by_job told job.ColdStart octets cs same few is form = no_codes told cs few is form.1
by_job told job.Stop octets cs same few is form = no_codes told cs few is form.1
by_job told job.Compress octets cs same few is form = no_codes told cs few is form.1
by_job told job.CopyRam octets cs same few is form = no_codes told cs few is form.1
by_job told job.Status octets cs same few is form =
    (no_codes told cs few is form.1, subst (λ l. IsSome (mode_of l)) (sym same) form.0)
by_job told (job.PasswordSet text) octets cs same few is form = no_codes told cs few is form.1
by_job told job.PasswordClear octets cs same few is form = no_codes told cs few is form.1
by_job told job.Disconnect octets cs same few is form = no_codes told cs few is form.1

pub formed_prints : (asked : Job) (end : End) (message : List ℕ) (told : JobResult) → IsResult told asked end message → HasForm asked end → IsPrintable told
formed_prints asked end message told r form = (
  λ good. subst (IsPrintableOf told) (sym r.job) (by_job told asked end.octets end.codes r.octets r.few r.codes (form.0 (sym r.code ∙ good))),
  λ bad. no_codes told end.codes r.few r.codes (form.1 (λ e. bad (r.code ∙ e))).1,
)
