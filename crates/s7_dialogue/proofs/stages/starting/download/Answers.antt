use Rattle.std.proofs.Common.{◌≡◌, true, ap, sym, ◌∙◌, arith}
use Rattle.std.specs.Prelude.{◌==◌}
use Rattle.s7_dialogue.specs.Codes.{no_fault}
use Rattle.s7_dialogue.specs.Checks.{check_image}
use Rattle.s7_dialogue.proofs.DownloadImageLemmas.{image_sized}
use Rattle.s7_dialogue.proofs.stages.starting.download.Goals as goal

pub overflow_cast-pieces : goal.overflow_cast-pieces
overflow_cast-pieces c =
    let good : (check_image c.args.image.now == no_fault) ≡ true =
    ap (λ n. n == no_fault) (sym c.check_image-check.ensures ∙ c.if-check-ne-GOOD.false) in
    let sizes = image_sized c.args.image.now good in
    omega (arith, sizes.1)
