use Rattle.s7_area.proofs.ShapeLemmas.{writes_keep}
use Rattle.s7_area.proofs.laws.writes_keep_the_shape.Goals as goal

pub returns : goal.returns
returns c = writes_keep
