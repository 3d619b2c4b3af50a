use Rattle.std.proofs.Common.{◌∙◌, ap, sym, arith, Some, List, ℕ}
use Rattle.s7_script.proofs.LoadLemmas.{file_read}
use Rattle.s7_script.proofs.areas.load.load_file.Goals as goal

pub returns-in-Ok : goal.returns-in-Ok
returns-in-Ok g c =
    file_read c.args.file.now (g.F.Files.shows c.args.files.now) (g.F.Files.shows c.read.new.self) c.as_slice.result.now
    (omega (arith, c.as_slice.ensures.len, c.in-Ok.ensures.ok)) (λ t. c.in-Ok.ensures.told t ∙ ap (λ (o : List ℕ). Some o) (sym c.as_slice.ensures.value))
    c.areas_of.result c.areas_of.ensures c.read.ensures.same (c.read.ensures.failed_no_other (λ e. cc (sym c.in-Ok.is ∙ e))) c.read.ensures.faults
