use Rattle.std.proofs.Common.{◌≡◌}
use Rattle.std.specs.Prelude.{None}
use Rattle.s7_partner.specs.declared.step.Step.TheVariants.{Went}
use Rattle.s7_partner.specs.Steps.{Runs, work, unless_whole}
use Rattle.s7_partner.proofs.partner.Partner.advance.Given as goal

abbrev pub invariant-loop-self : goal.invariant-loop-self
invariant-loop-self g l = record {
  runs : Runs l.fn.self (g.L.Link.shows l.fn.link) l.self (g.L.Link.shows l.link) Went;
  none_handed : l.self.handed ≡ None;
}

abbrev pub decreases-loop-self : goal.decreases-loop-self
decreases-loop-self g l = unless_whole l.self.whole (work l.self)
