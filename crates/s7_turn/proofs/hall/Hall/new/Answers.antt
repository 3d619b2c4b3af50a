use Rattle.std.proofs.Common.{replicate, ap, sym, ◌∙◌, subst}
use Rattle.s7_turn.specs.Histories.{replay}
use Rattle.s7_turn.proofs.Seating.{starts}
use Rattle.s7_turn.proofs.hall.Hall.new.Goals as goal

pub new-requires : goal.new-requires
new-requires g c = let m = g.M.Machine in let b = c.in-Ok.ensures in let new = c.requires.new in let about = c.of-about.ensures in
    rw b.1 (starts _ _ _ (replicate 34 0) b.0 (ap m.history b.2 ∙ new.0)
    (ap m.opening (b.2 ∙ sym about), ap m.limit (b.2 ∙ sym about), ap m.state b.2 ∙ (new.1 ∙ (λ i. replay m.after (m.opening (sym b.2 i)) ((sym new.0 ∙ ap m.history (sym b.2)) i))), subst m.holds (sym b.2) c.requires.holds))

pub machine_of-requires : goal.machine_of-requires
machine_of-requires g c = let b = c.in-Ok.ensures in (b.0, c.in-Err-new.ensures.err ∙ b.1)
