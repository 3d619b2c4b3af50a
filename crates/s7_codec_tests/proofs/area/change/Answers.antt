use Rattle.std.proofs.Common.{ap, ◌∙◌}
use Rattle.s7_area.specs.Memory.{shape_of}
use Rattle.s7_area.proofs.ShapeLemmas.{writes_keep}
use Rattle.s7_codec_tests.proofs.area.change.Goals as goal

pub returns : goal.returns
returns c =
    ap shape_of c.set_guard.ensures ∙ ap shape_of c.write-2.ensures.written ∙ writes_keep _ _ _ _ ∙ ap shape_of c.write.ensures.written ∙ writes_keep _ _ _ _
