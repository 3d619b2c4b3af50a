use Rattle.std.proofs.Common.{rules}
use Rattle.s7_turn.proofs.Turning.{marks}
use Rattle.s7_turn.proofs.bell.sleep.Goals as goal

pub store-requires : goal.store-requires
store-requires g c = (search rules, search rules, marks _ _ _ _ _ _ _ _ c.bell_of-bell.ensures.0)
