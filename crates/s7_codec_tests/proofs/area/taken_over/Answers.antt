use Rattle.std.proofs.Common.{sym, ap, ◌∙◌}
use Rattle.s7_area.specs.Memory.{shape_of}
use Rattle.s7_codec_tests.proofs.area.taken_over.Goals as goal

pub overwrite-requires : goal.overwrite-requires
overwrite-requires c = c.change.ensures ∙ sym (ap shape_of c.in_ok-image.ensures)
